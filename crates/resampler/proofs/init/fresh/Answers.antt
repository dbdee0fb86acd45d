-- `resampler::init::fresh` meets its contract: every entry of the definition's record is a zero.
-- Assumes nothing.
use mathlib.Core.Path.{refl}
use Rattle.resampler.specs.Record.{fresh, keeping, record_of}
use Rattle.resampler.proofs.init.fresh.Goals as goal

pub returns : goal.returns
unfolding fresh keeping record_of
returns c = refl
