-- `resampler::known::Known::filter` meets its contract: the filter does not depend on the direction.
-- Assumes nothing.
use Rattle.resampler.specs.Pairs.{filter}
use Rattle.resampler.proofs.Laws.Pairs.{small}
use Rattle.resampler.proofs.known.Known.filter.Goals as goal

pub at-requires : goal.at-requires
at-requires c = let (d, i, j, o, q) = small _ c.args.self.now.supported in (j, q)

pub returns : goal.returns
unfolding filter
returns c = c.at.ensures
