-- `fixed::ar2::moved` meets its contract: each leaf wraps as the definition does, so the words agree term by term.
-- Assumes nothing.
use Rattle.std.proofs.Common.{rules}
use Rattle.fixed.specs.Ar2.{ar2_after}
use Rattle.fixed.proofs.ar2.moved.Goals as goal

pub returns : goal.returns
unfolding ar2_after
returns c = search rules
