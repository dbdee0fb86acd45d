-- `little_endian::put` meets its contract: at each turn what is put and the bytes of what is left are the whole.
-- Assumes nothing.
use Prim.Native.Nat.{◌-◌}
use Rattle.stages.proofs.Laws.Loop.{Filling}
use Rattle.little_endian.specs.Bytes.{bytes}
use Rattle.little_endian.proofs.put.Given as goal

abbrev pub invariant-loop-byte : goal.invariant-loop-byte
invariant-loop-byte l =
    Filling (bytes l.k l.bits) l.initial.byte-items l.byte-index l.byte-items (bytes (l.k - l.byte-index) l.left)
