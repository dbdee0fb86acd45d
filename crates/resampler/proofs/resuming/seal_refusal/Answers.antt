-- `resampler::resuming::seal_refusal` meets its contract: the stored check is compared with the sum before the layout is looked at.
-- Assumes nothing.
use mathlib.Core.Path.{◌≡◌, refl, ap, ◌∙◌}
use mathlib.Core.List.{List}
use Prim.Native.Nat.{ℕ}
use native.Mathlib.Omega.{arith}
use borrow.Author.Tests.{ne_eqb, eq-eqb}
use lib.ListN.{length, take, drop, length-drop}
use lib.Seq.{take_all}
use Rattle.little_endian.specs.Bytes.{value}
use Rattle.resampler.proofs.resuming.seal_refusal.Goals as goal

-- the four bytes at the end are all that is behind
stored : (b : List ℕ) → length b ≡ 512 → value (take 4 (drop 508 b)) ≡ value (drop 508 b)
stored b l = ap value (take_all 4 (drop 508 b) (omega (arith, length-drop 508 b)))

pub returns-then-number-check : goal.returns-then-number-check
returns-then-number-check c =
    let e = c.number.ensures.0 ∙ stored c.args.block.now c.told-block in
    rw (← e, ← c.check.ensures, ne_eqb _ _ c.if-number-check.true) refl

pub returns-then-block-ne1 : goal.returns-then-block-ne1
returns-then-block-ne1 c =
    let e = c.number.ensures.0 ∙ stored c.args.block.now c.told-block in
    rw (← e, ← c.check.ensures, eq-eqb _ _ c.if-number-check.false, ne_eqb _ _ c.if-block-ne1.true) refl

pub returns-else-block-ne1 : goal.returns-else-block-ne1
returns-else-block-ne1 c =
    let e = c.number.ensures.0 ∙ stored c.args.block.now c.told-block in
    rw (← e, ← c.check.ensures, eq-eqb _ _ c.if-number-check.false, eq-eqb _ _ c.if-block-ne1.false) refl
