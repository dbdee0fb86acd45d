-- `filters::allpass::both` meets its contract: the two sections are the definition's, on the sample and the word of each.
-- Assumes nothing.
use Rattle.std.proofs.Common.{rules}
use Rattle.filters.specs.Section.{even_out, odd_out, halves_next}
use Rattle.filters.proofs.allpass.both.Goals as goal

pub returns : goal.returns
unfolding even_out odd_out halves_next
returns c = record { outputs = search rules; words = search rules }
