-- `resampler::pairs::tied` meets its contract: each matrix computes to its definition, entry by entry.
-- Assumes nothing.
use mathlib.Core.Path.{refl}
use Rattle.resampler.specs.Pairs as Pairs
use Rattle.resampler.proofs.pairs.tied.Goals as goal

pub delays_are-requires : goal.delays_are-requires
unfolding Pairs.delay_matrix_enc Pairs.delay_matrix_dec
delays_are-requires c = (refl, refl)
