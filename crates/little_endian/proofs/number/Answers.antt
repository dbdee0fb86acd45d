-- `little_endian::number` meets its contract: from the high byte down, each turn puts one more below the number.
-- Assumes nothing.
use Prim.Native.Nat.{◌+◌, ◌-◌}
use native.Mathlib.Omega.{arith}
use Rattle.little_endian.proofs.Laws.Bytes.{read-start, read-room, read-turn}
use Rattle.little_endian.proofs.number.Goals as goal

pub loop-i-init : goal.loop-i-init
loop-i-init c = read-start _ _ _ c.requires.0 c.requires.1

pub overflow_mul-n : goal.overflow_mul-n
overflow_mul-n c = record { fits = omega (arith, read-room _ _ _ c.loop-i-test.true c.loop-i.invariant) }

pub overflow_add-n : goal.overflow_add-n
overflow_add-n c =
    let x = c.type_inv.block (c.args.at + (c.loop-i.i - 1)) in
    record { fits = omega (arith, read-room _ _ _ c.loop-i-test.true c.loop-i.invariant) }

pub loop-i-preserved : goal.loop-i-preserved
loop-i-preserved c =
    let x = c.type_inv.block (c.args.at + (c.loop-i.i - 1)) in
    rw c.from.ensures (read-turn _ _ _ c.loop-i-test.true c.loop-i.invariant x.fits)
