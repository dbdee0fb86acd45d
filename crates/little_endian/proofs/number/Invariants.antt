-- `little_endian::number` meets its contract: from the high byte down, each turn puts one more below the number.
-- Assumes nothing.
use Rattle.little_endian.proofs.Laws.Bytes.{Read}
use Rattle.little_endian.proofs.number.Given as goal

abbrev pub invariant-loop-i : goal.invariant-loop-i
invariant-loop-i l = Read l.block l.at l.k l.i l.n
