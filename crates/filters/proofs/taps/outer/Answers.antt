-- `filters::taps::outer` meets its contract: it is entry k of the definition's sums.
-- Assumes nothing.
use Rattle.std.proofs.Common.{rules}
use Rattle.filters.proofs.Laws.Dot.{outer-at}
use Rattle.filters.proofs.taps.outer.Goals as goal

pub returns : goal.returns
returns c = let outer = outer-at c.args.ys.now c.args.k c.requires in search rules
