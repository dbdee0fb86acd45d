-- Narrowing on 32 bits: half of (x >> (n - 1)) + 1 is x / 2^n rounded to the nearest, halves upwards, and no step of it
-- leaves the word; then the two tests clip. Assumes nothing.
use Rattle.std.specs.Prelude.{if◌then◌else◌}
use Rattle.std.specs.Int.{int_max, int_min}
use mathlib.Core.Path.{◌≡◌, refl, sym, ap, ◌∙◌}
use mathlib.Core.Bool.{Bool, true, false}
use Prim.Native.Nat.{ℕ, suc, ◌+◌, ◌-◌, ◌*◌, ◌/◌, ◌^◌, ◌<◌, ◌≤◌}
use native.Mathlib.Omega.{arith}
use native.Mathlib.Nat as NatL
use lib.Dec.{ltb}
use lib.IntN.{ℤ, pos, negsuc, ◌+ℤ◌}
use lib.Pow.{pow_pos, pow-lt}
use lib.Signed.{shr_z, lt_z}
use mir.Syntax.{w32}
use mir.Val.{SFits}
use Rattle.fixed.specs.Fixed.{clipped, rounded}
use Rattle.fixed.proofs.Laws.Integer.{P, N, pn-sum, shr-floor, floor-is}
use Rattle.fixed.proofs.Laws.Wrap.{fits-pn}
use Rattle.fixed.proofs.Laws.Fit.{in-range}

-- ---- rounding

-- (x / m + 1) / 2 is (x + m) / 2 m, all rounded down
pub round-half : (x : ℤ) (m : ℕ) → 0 < m → shr_z (x +ℤ pos m) (2 * m) ≡ shr_z (shr_z x m +ℤ pos 1) 2
unfolding P N
round-half x m h =
    let q = shr_z x m in
    let r = shr_z (q +ℤ pos 1) 2 in
    let f = shr-floor x m h in
    let g = shr-floor (q +ℤ pos 1) 2 (omega arith) in
    let s = pn-sum q (pos 1) in
    let t = pn-sum x (pos m) in
    let low : 2 * P r + N q ≤ P q + 1 + 2 * N r = omega (arith, g.low) in
    let high : P q + 2 * N r ≤ 2 * P r + N q = omega (arith, g.high) in
    floor-is (x +ℤ pos m) r (2 * m) (omega arith)
    (record { low = omega (arith, f.low, NatL.mul-le-mul_left m low); high = omega (arith, f.high, NatL.mul-le-mul_left m high) })

-- a shift by one place or more leaves room for one more
shr-half : (x : ℤ) (m : ℕ) → 1 < m → (2 * P (shr_z x m) ≤ P x) × (N (shr_z x m) ≤ N x)
unfolding P N
shr-half (pos a) m h = (omega (arith, NatL.mul-le-mul_right {m = 2} {n = m} (a / m) h, NatL.div-add-mod' a m), omega arith)
shr-half (negsuc a) m h = (omega arith, omega (arith, NatL.div-le_self a m))

-- what is rounded so is the definition's
pub halved-rounds : (x : ℤ) (n : ℕ) → 1 < n → shr_z (shr_z x (2 ^ (n - 1)) +ℤ pos 1) 2 ≡ rounded n x
unfolding rounded
halved-rounds x n h =
    let e : n ≡ suc (n - 1) = omega arith in
    let twice : 2 * 2 ^ (n - 1) ≡ 2 ^ n = omega (arith, ap (λ (k : ℕ). 2 ^ k) e) in
    sym (round-half x (2 ^ (n - 1)) (pow_pos (n - 1))) ∙ ap (λ (m : ℕ). shr_z (x +ℤ pos (2 ^ (n - 1))) m) twice

pub inc-fits : (x : ℤ) (n : ℕ) → 1 < n → SFits w32 x → SFits w32 (shr_z x (2 ^ (n - 1)) +ℤ pos 1)
unfolding P N
inc-fits x n k f =
    let m = 2 ^ (n - 1) in
    let h : 1 < m = pow-lt {i = 0} (omega arith) in
    let s = shr-half x m h in
    let n = pn-sum (shr_z x m) (pos 1) in
    let g = fits-pn w32 x f in
    in-range w32 (shr_z x m +ℤ pos 1) (omega arith) (omega arith)

-- ---- clipping, by what the two tests say

pub clip-low : (z : ℤ) → lt_z z (negsuc 32767) ≡ true → clipped z ≡ negsuc 32767
unfolding clipped
clip-low z e = ap (λ (b : Bool). if b then negsuc 32767 else if lt_z (pos 32767) z then pos 32767 else z) e

module _ (z : ℤ) (e : lt_z z (negsuc 32767) ≡ false) where
  clip-second : clipped z ≡ (if lt_z (pos 32767) z then pos 32767 else z)
  unfolding clipped
  clip-second = ap (λ (b : Bool). if b then negsuc 32767 else if lt_z (pos 32767) z then pos 32767 else z) e

  pub clip-high : lt_z (pos 32767) z ≡ true → clipped z ≡ pos 32767
  clip-high d = clip-second ∙ ap (λ (b : Bool). if b then pos 32767 else z) d

  pub clip-mid : lt_z (pos 32767) z ≡ false → clipped z ≡ z
  clip-mid d = clip-second ∙ ap (λ (b : Bool). if b then pos 32767 else z) d

-- so the library's clamp clips, and what it leaves is a sample
pub clamp-clips : (z : ℤ) → int_max (negsuc 32767) (int_min z (pos 32767)) ≡ clipped z
unfolding clipped
clamp-clips (pos n) = by (ltb 32767 n) refl
  where
    by : (high : Bool) → ltb 32767 n ≡ high → int_max (negsuc 32767) (int_min (pos n) (pos 32767)) ≡ clipped (pos n)
    by true e = simp e
    by false e = simp e
clamp-clips (negsuc n) = by (ltb 32767 n) refl
  where
    by : (low : Bool) → ltb 32767 n ≡ low → int_max (negsuc 32767) (int_min (negsuc n) (pos 32767)) ≡ clipped (negsuc n)
    by true e = simp e
    by false e = simp e
