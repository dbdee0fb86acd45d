-- `filters::allpass::allpass` meets its contract: each leaf wraps as the definition does.
-- Assumes nothing.
use Rattle.std.proofs.Common.{rules}
use Rattle.filters.specs.Section.{section_out, section_next, section_x}
use Rattle.filters.proofs.allpass.allpass.Goals as goal

pub returns : goal.returns
unfolding section_out section_next section_x
returns c = search rules
