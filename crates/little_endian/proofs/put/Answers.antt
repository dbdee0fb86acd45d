-- `little_endian::put` meets its contract: at each turn what is put and the bytes of what is left are the whole.
-- Assumes nothing.
use Prim.Native.Nat.{ℕ, ◌+◌, ◌-◌, ◌≤◌}
use mathlib.Core.Path.{◌≡◌, ◌∙◌}
use mathlib.Core.List.{List}
use native.Mathlib.Omega.{arith}
use lib.ListN.{length, take, drop, length-drop}
use lib.Seq.{length-take-le}
use Rattle.stages.proofs.Laws.Loop.{fill_one}
use Rattle.little_endian.proofs.Laws.Bytes.{bytes_next, bytes-none, bytes-length}
use Rattle.little_endian.proofs.Laws.Place.{part-filled}
use Rattle.little_endian.proofs.put.Goals as goal

-- the part that is lent is of k bytes
lent : (b : List ℕ) (at k : ℕ) → at + k ≤ length b → length (take (at + k - at) (drop at b)) ≡ k
lent b at k h = length-take-le (at + k - at) (drop at b) (omega (arith, length-drop at b)) ∙ omega arith

pub loop-byte-preserved : goal.loop-byte-preserved
loop-byte-preserved c =
    let l = c.loop-byte in
    let n = lent c.args.block.now c.args.at c.args.k c.requires in
    let f = rw (bytes_next c.args.k l.byte-index l.left (omega arith)) at l.invariant in
    fill_one _ _ f (omega (arith, l.invariant.len))

pub returns : goal.returns
returns c =
    let l = c.loop-byte in
    let n = lent c.args.block.now c.args.at c.args.k c.requires in
    let f = rw (bytes-none c.args.k l.byte-index l.left (omega arith)) at l.invariant in
    part-filled c.args.at c.args.k _ c.args.block.now c.requires (bytes-length c.args.k c.args.bits) f
