-- `filters::down2::step` meets its contract: the sections of the table, and their outputs' sum.
-- Assumes nothing.
use Rattle.std.proofs.Common.{rules}
use Rattle.filters.specs.Stage.Down2.{down2_sum, down2_next}
use Rattle.filters.proofs.down2.step.Goals as goal

pub returns : goal.returns
unfolding down2_sum down2_next
returns c = search rules
