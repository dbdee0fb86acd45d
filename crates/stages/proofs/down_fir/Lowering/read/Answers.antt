-- The outputs of a down filter meet their contract: either reader gives the definition's.
-- Assumes nothing.
use Rattle.filters.specs.Stage.DownFir.{fir}
use Rattle.stages.proofs.down_fir.Lowering.read.Goals as goal

pub returns-then-filter-eq18 : goal.returns-then-filter-eq18
unfolding fir
returns-then-filter-eq18 c = c.read.ensures

pub returns-else-filter-eq18 : goal.returns-else-filter-eq18
unfolding fir
returns-else-filter-eq18 c = c.read-else-filter-eq18.ensures
