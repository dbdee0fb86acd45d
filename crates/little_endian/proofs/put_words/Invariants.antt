-- `little_endian::put_words` meets its contract: at each turn what is put and what is left are the whole.
-- Assumes nothing.
use Rattle.little_endian.proofs.Laws.Laying.{Laying}
use Rattle.little_endian.proofs.put_words.Given as goal

abbrev pub invariant-loop-j : goal.invariant-loop-j
invariant-loop-j g l = Laying g.W.Word.bits g.W.Word.BYTES l.at l.words l.initial.block l.j l.block
