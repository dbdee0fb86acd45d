-- `filters::down2_3::four` meets its contract: the sum of the four products, narrowed.
-- Assumes nothing.
use Rattle.std.proofs.Common.{rules}
use Rattle.filters.specs.Stage.Down2_3.{tapped}
use Rattle.filters.proofs.down2_3.four.Goals as goal

pub returns : goal.returns
unfolding tapped
returns c = search rules
