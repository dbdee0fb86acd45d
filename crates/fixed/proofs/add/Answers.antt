-- `fixed::add` meets its contract: the machine's sum is the whole one, wrapped.
-- Assumes nothing.
use Rattle.std.proofs.Common.{rules}
use Rattle.fixed.proofs.Laws.Wrap.{sum_wraps}
use Rattle.fixed.proofs.add.Goals as goal

pub returns : goal.returns
returns c = let sum = sum_wraps c.args.a c.args.b c.ranges.a c.ranges.b in search rules
