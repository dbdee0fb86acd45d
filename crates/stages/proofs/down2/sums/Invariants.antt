-- `stages::down2::sums` meets its contract: what is summed, followed by what the pairs left make, is the whole.
-- Assumes nothing.
use Rattle.std.proofs.Common.{◌≡◌, [], ◌∷◌}
use Rattle.filters.specs.Lists.{pairs}
use Rattle.filters.specs.Stage.Down2.{down2_sum, down2_next}
use Rattle.stages.proofs.Laws.Loop.{Running}
use Rattle.stages.proofs.down2.sums.Given as goal

abbrev pub invariant-loop-k : goal.invariant-loop-k
invariant-loop-k l = (l.k-iterator.iter.size ≡ 2) × Running down2_sum down2_next l.fn.words (pairs l.input) l.fn.out l.k-iterator.count l.out (l.even ∷ l.odd ∷ []) (pairs l.k-iterator.iter.rest.now)
