-- Distances: from numerators over a power to fractions, and through rounding and clipping. Assumes nothing.
use mathlib.Core.Path.{◌≡◌}
use mathlib.Core.Logic.{◌⊎◌, inl, inr}
use Prim.Native.Nat.{ℕ, ◌+◌, ◌*◌, ◌<◌, ◌≤◌}
use native.Mathlib.Nat.{mul-le-mul_right, mul-lt-mul_of_pos_left, lt_of_mul-lt-mul_left}
use native.Mathlib.Omega.{arith}
use lib.IntN.{ℤ, pos, nat_abs, ◌-ℤ◌, ◌*ℤ◌}
use Rattle.fixed.proofs.Laws.Integer.{P, N, pn-or, pn-abs}
use Rattle.fixed.proofs.Laws.Ring.{#, lit, ◌⊖◌, ◌⊗◌, of, use_eq}
use Rattle.distance.specs.Exact.{Fraction}
use Rattle.distance.specs.Distance.{Within}
use Rattle.distance.proofs.Laws.Error.{Off, off-parts}
use Rattle.distance.proofs.Laws.Fractions.{Is}

-- a size as two orders, strictly
pub closer : (v : ℤ) (p n m : ℕ) → P v + n ≡ p + N v → p < n + m → n < p + m → nat_abs v < m
closer v p n m e a b = go (pn-or v)
  where
    go : (P v ≡ 0) ⊎ (N v ≡ 0) → nat_abs v < m
    go (inl z) = omega (arith, e, a, b, z, pn-abs v)
    go (inr z) = omega (arith, e, a, b, z, pn-abs v)

-- of two differences p - n, in 64ths and then whole
less : (p n e c D : ℕ) → 64 * p ≤ 64 * n + e * D → e < 64 * c → 0 < D → p < n + c * D
less p n e c D h l s = omega (arith, h, mul-le-mul_right D l, s)

-- over a fraction in place of the power: u is what is under it, (op, on) is above, (np, nn) the numerator
moved : (c D u yp yn np nn op on : ℕ) → 0 < u → op * D + nn * u ≡ np * u + on * D → D * yp + nn < D * yn + np + c * D → yp * u + on < yn * u + op + c * u
moved c D u yp yn np nn op on s e h =
    let k = mul-lt-mul_of_pos_left {k = u} h s in
    lt_of_mul-lt-mul_left D (scaled D u yp yn np nn op on c e k)
  where
    scaled : (D u yp yn np nn op on c : ℕ) → op * D + nn * u ≡ np * u + on * D → u * (D * yp + nn) < u * (D * yn + np + c * D)
        → D * (yp * u + on) < D * (yn * u + op + c * u)
    scaled D u yp yn np nn op on c e k = omega (arith, e, k)

module _ (D e c : ℕ) (y : ℤ) (f : Fraction) (num : ℤ) (reads : Is f num D) (under : 0 < f.under) (off : Off 64 D e y num) (l : e < 64 * c) (s : 0 < D) where
  eq : P f.over * D + N num * f.under ≡ P num * f.under + N f.over * D
  eq = omega (arith, use_eq (# f.over ⊗ lit D) (# num ⊗ lit f.under) reads)

  eq' : N f.over * D + P num * f.under ≡ N num * f.under + P f.over * D
  eq' = omega (arith, eq)

  pub within : Within c y f
  within =
      let (a, b) = off-parts 64 D e (# y) (# num) off in
      let above = moved c D f.under (P y) (N y) (P num) (N num) (P f.over) (N f.over) under eq (less (D * P y + N num) (D * N y + P num) e c D a l s) in
      let below = moved c D f.under (N y) (P y) (N num) (P num) (N f.over) (P f.over) under eq' (less (D * N y + P num) (D * P y + N num) e c D b l s) in
      closer (y *ℤ pos f.under -ℤ f.over) (P y * f.under + N f.over) (N y * f.under + P f.over) (c * f.under)
      (omega (arith, of (# y ⊗ lit f.under ⊖ # f.over))) above below
