-- `stages::down2_3::decimate` meets its contract: what is written, followed by what the groups left make, is the whole.
-- Assumes nothing.
use Rattle.std.proofs.Common.{◌≡◌}
use Rattle.stages.proofs.Laws.Groups.{Grouping}
use Rattle.stages.proofs.down2_3.decimate.Given as goal

abbrev pub invariant-loop-k : goal.invariant-loop-k
invariant-loop-k l = (l.k-iterator.iter.size ≡ 3) × Grouping l.fn.words l.input l.fn.out l.k-iterator.count l.out l.w l.k-iterator.iter.rest.now
