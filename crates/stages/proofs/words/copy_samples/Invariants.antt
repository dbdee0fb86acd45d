-- `stages::words::copy_samples` meets its contract: what is copied, followed by what is left, is the whole.
-- Assumes nothing.
use Rattle.std.proofs.Common.{drop}
use Rattle.stages.proofs.Laws.Loop.{Filling}
use Rattle.stages.proofs.words.copy_samples.Given as goal

abbrev pub invariant-loop-k : goal.invariant-loop-k
invariant-loop-k l = Filling l.from l.fn.out l.k l.out (drop l.k l.from)
