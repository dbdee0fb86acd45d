-- `fixed::sub` meets its contract: the machine's difference is the whole one, wrapped.
-- Assumes nothing.
use Rattle.std.proofs.Common.{rules}
use Rattle.fixed.proofs.Laws.Wrap.{difference_wraps}
use Rattle.fixed.proofs.sub.Goals as goal

pub returns : goal.returns
returns c = let difference = difference_wraps c.args.a c.args.b c.ranges.a c.ranges.b in search rules
