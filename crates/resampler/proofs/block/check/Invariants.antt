-- `resampler::block::check` meets its contract: at each turn the sum and what the bytes to come weigh are the whole.
-- Assumes nothing.
use Rattle.resampler.proofs.Laws.Check.{Weighing}
use Rattle.resampler.proofs.block.check.Given as goal

abbrev pub invariant-loop-i : goal.invariant-loop-i
invariant-loop-i l = Weighing l.block l.i l.sum
