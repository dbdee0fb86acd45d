-- `resampler::init::direction_of` meets its contract: the word is zero where its bits are.
-- Assumes nothing.
use mathlib.Core.Path.{◌∙◌}
use Rattle.resampler.proofs.Laws.Rates.{direction-is}
use Rattle.resampler.proofs.init.direction_of.Goals as goal

pub returns : goal.returns
returns c = c.from.ensures ∙ direction-is c.args.forEnc c.ranges.forEnc
