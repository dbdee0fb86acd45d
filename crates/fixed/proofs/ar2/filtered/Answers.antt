-- `fixed::ar2::filtered` meets its contract: 256 times a sample fits the word, and the sum wraps as the definition's does.
-- Assumes nothing.
use Rattle.std.proofs.Common.{rules}
use Rattle.fixed.specs.Ar2.{ar2_out}
use Rattle.fixed.proofs.ar2.filtered.Goals as goal

pub returns : goal.returns
unfolding ar2_out
returns c = search rules
