-- `resampler::init::refused` meets its contract: the blank record is the fresh one of no pair.
-- Assumes nothing.
use mathlib.Core.Path.{◌∙◌}
use Rattle.resampler.specs.Record.{blank}
use Rattle.resampler.proofs.init.refused.Goals as goal

pub returns : goal.returns
unfolding blank
returns c = (c.refused.ensures.0, c.refused.ensures.1 ∙ c.fresh.ensures)
