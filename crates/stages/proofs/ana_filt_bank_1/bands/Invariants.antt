-- `stages::ana_filt_bank_1::bands` meets its contract: in each band what is written, followed by what the pairs left make, is the whole.
-- Assumes nothing.
use Rattle.std.proofs.Common.{◌≡◌, [], ◌∷◌}
use Rattle.filters.specs.Lists.{pairs}
use Rattle.filters.specs.Stage.AnaFiltBank1.{low_out, high_out, split_next}
use Rattle.stages.proofs.Laws.Loop.{Running}
use Rattle.stages.proofs.ana_filt_bank_1.bands.Given as goal

abbrev pub invariant-loop-k : goal.invariant-loop-k
invariant-loop-k l =
    let left = pairs l.k-iterator.iter.rest.now in
    (l.k-iterator.iter.size ≡ 2)
    × Running low_out split_next l.fn.words (pairs l.input) l.fn.low l.k-iterator.count l.low (l.even ∷ l.odd ∷ []) left
    × Running high_out split_next l.fn.words (pairs l.input) l.fn.high l.k-iterator.count l.high (l.even ∷ l.odd ∷ []) left
