-- `stages::reading::sums` meets its contract: the position at turn j is j increments, and what is written and what is still to be
-- read is the whole.
-- Assumes nothing.
use Rattle.std.proofs.Common.{length}
use Rattle.stages.proofs.Laws.Reading.{Reading}
use Rattle.stages.proofs.reading.sums.Given as goal

abbrev pub invariant-loop-j : goal.invariant-loop-j
invariant-loop-j g l = Reading (g.R.Reader.reading l.reader) l.increment (length l.fn.out) l.buf l.fn.out l.j l.p l.out
