-- `resampler::passes::bare` meets its contract: no words are zeros.
-- Assumes nothing.
use mathlib.Core.Path.{refl}
use Rattle.resampler.specs.Record.{keeping}
use Rattle.resampler.proofs.passes.bare.Goals as goal

pub returns : goal.returns
unfolding keeping
returns c = refl
