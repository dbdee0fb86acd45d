-- `fixed::shl2` meets its contract: the machine's shift left is the product with 4, wrapped.
-- Assumes nothing.
use Rattle.fixed.proofs.Laws.Wrap.{shl-wrap}
use Rattle.fixed.proofs.shl2.Goals as goal

pub returns : goal.returns
returns c = shl-wrap c.args.x 4 c.ranges.x
