-- `filters::ana_filt_bank_1::step` meets its contract: the sections of the table, their outputs' sum and difference, narrowed.
-- Assumes nothing.
use Rattle.std.proofs.Common.{rules}
use Rattle.filters.specs.Stage.AnaFiltBank1.{low_out, low_sum, high_out, high_sum, split_next}
use Rattle.filters.proofs.ana_filt_bank_1.step.Goals as goal

pub returns : goal.returns
unfolding low_out low_sum high_out high_sum split_next
returns c = record { bands = search rules; words = search rules }
