-- `little_endian::words_at` meets its contract: at each turn what is taken and what is left are the whole.
-- Assumes nothing.
use Rattle.little_endian.proofs.Laws.Laying.{Taking}
use Rattle.little_endian.proofs.words_at.Given as goal

abbrev pub invariant-loop-j : goal.invariant-loop-j
invariant-loop-j g l = Taking g.W.Word.of_bits g.W.Word.BYTES l.at l.block l.initial.out l.j l.out
