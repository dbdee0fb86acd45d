-- The error of a section: how far an output and a new word lie from those of the exact filter, whose values are numerators
-- over one power. One law over the coefficient a, with b = 65536 - a, and the bounds; it serves every section, and with
-- numerators 0 it bounds the words themselves. Assumes nothing.
use mathlib.Core.Path.{◌≡◌, refl, ap, ◌∙◌}
use mathlib.Core.Logic.{◌⊎◌, inl, inr}
use Prim.Native.Nat.{ℕ, ◌+◌, ◌*◌, ◌-◌, ◌≤◌}
use native.Mathlib.Nat.{mul-le-mul_left}
use native.Mathlib.Omega.{arith}
use lib.IntN.{ℤ, pos, nat_abs, ◌+ℤ◌, ◌-ℤ◌, ◌*ℤ◌}
use Rattle.fixed.proofs.Laws.Integer.{P, N, pn-or, pn-abs, Floor}
use Rattle.fixed.proofs.Laws.Ring.{E, #, lit, ◌⊕◌, ◌⊖◌, ◌⊗◌, val, up, dn, of}

-- ---- the law, of differences: A - B is the input's error, G - E the word's, p - n the output's; R is what the floor drops

out-law : (a b A B G E X Y Z Q R p n : ℕ) → A ≤ B + X → B ≤ A + X → G ≤ E + Y → E ≤ G + Y → R ≤ Q → b * Y + a * X + Q ≤ Z
    → p + b * E + a * B + R ≡ n + b * G + a * A → (p ≤ n + Z) × (n ≤ p + Z)
out-law a b A B G E X Y Z Q R p n x+ x- s+ s- r h e = (
  omega (arith, e, h, mul-le-mul_left b s+, mul-le-mul_left a x+),
  omega (arith, e, h, r, mul-le-mul_left b s-, mul-le-mul_left a x-),
)

-- the new word: c = 65536 + a times the input's error, less a times the word's
word-law : (a c A B G E X Y Z Q R p n : ℕ) → A ≤ B + X → B ≤ A + X → G ≤ E + Y → E ≤ G + Y → R ≤ Q → c * X + a * Y + Q ≤ Z
    → p + c * B + a * G + R ≡ n + c * A + a * E → (p ≤ n + Z) × (n ≤ p + Z)
word-law a c A B G E X Y Z Q R p n x+ x- s+ s- r h e = (
  omega (arith, e, h, mul-le-mul_left a s-, mul-le-mul_left c x+),
  omega (arith, e, h, r, mul-le-mul_left a s+, mul-le-mul_left c x-),
)

-- ---- the identities, where dz is the power times z, and R what the floor drops, times the power

module _ (a b dxp dxn dsp dsn dXp dXn up un wp wn R : ℕ)
    (floor : (a + b) * dXp + a * (dxn + dsp) + R ≡ (a + b) * dXn + a * (dxp + dsn)) where
  out-is : (a + b) * (dsp + dXp) + ((a + b) * wn + a * (un + wp)) + b * (dsn + wp) + a * (dxn + up) + R
      ≡ (a + b) * (dsn + dXn) + ((a + b) * wp + a * (up + wn)) + b * (dsp + wn) + a * (dxp + un)
  out-is = omega (arith, floor)

  word-is : (a + b) * (dxp + dXp) + ((a + b) * un + a * (un + wp)) + (a + b + a) * (dxn + up) + a * (dsp + wn) + R
      ≡ (a + b) * (dxn + dXn) + ((a + b) * up + a * (up + wn)) + (a + b + a) * (dxp + un) + a * (dsn + wp)
  word-is = omega (arith, floor)

-- q times both sides
times-q : (q p b x a y r n z w : ℕ) → p + b * x + a * y + r ≡ n + b * z + a * w
    → q * p + b * (q * x) + a * (q * y) + q * r ≡ q * n + b * (q * z) + a * (q * w)
times-q q p b x a y r n z w e =
    let k : q * (p + b * x + a * y + r) ≡ q * (n + b * z + a * w) = ap (λ (t : ℕ). q * t) e in
    left q p b x a y r ∙ k ∙ right q n b z a w
  where
    left : (q p b x a y r : ℕ) → q * p + b * (q * x) + a * (q * y) + q * r ≡ q * (p + b * x + a * y + r)
    left q p b x a y r = omega arith

    right : (q n b z a w : ℕ) → q * (n + b * z + a * w) ≡ q * n + b * (q * z) + a * (q * w)
    right q n b z a w = omega arith

-- a side condition, times the power
times-D : (D b S a Δ q T : ℕ) → b * S + a * Δ + 65536 * q ≤ 65536 * T → b * (S * D) + a * (Δ * D) + 65536 * (q * D) ≤ T * (65536 * D)
times-D D b S a Δ q T h = omega (arith, mul-le-mul_left D h)

-- ---- natural numbers: each integer is its positive part less its negative one

module _ (a b q D Δ S T : ℕ) (sum : a + b ≡ 65536) (xp xn sp sn up un wp wn Xp Xn r : ℕ) (few : r ≤ 65536)
    (floor : 65536 * Xp + a * (xn + sp) + r ≡ 65536 * Xn + a * (xp + sn))
    (x+ : q * (D * xp + un) ≤ q * (D * xn + up) + Δ * D) (x- : q * (D * xn + up) ≤ q * (D * xp + un) + Δ * D)
    (s+ : q * (D * sp + wn) ≤ q * (D * sn + wp) + S * D) (s- : q * (D * sn + wp) ≤ q * (D * sp + wn) + S * D) where
  floor-D : (a + b) * (D * Xp) + a * (D * xn + D * sp) + D * r ≡ (a + b) * (D * Xn) + a * (D * xp + D * sn)
  floor-D = rw sum (omega (arith, ap (λ (t : ℕ). D * t) floor))

  dropped : q * (D * r) ≤ 65536 * (q * D)
  dropped = omega (arith, mul-le-mul_left (q * D) few)

  out-parts : b * S + a * Δ + 65536 * q ≤ 65536 * T
      → let p = 65536 * D * (sp + Xp) + (65536 * wn + a * (un + wp)) in let n = 65536 * D * (sn + Xn) + (65536 * wp + a * (up + wn)) in
      (q * p ≤ q * n + T * (65536 * D)) × (q * n ≤ q * p + T * (65536 * D))
  out-parts h =
      let p = (a + b) * (D * sp + D * Xp) + ((a + b) * wn + a * (un + wp)) in
      let n = (a + b) * (D * sn + D * Xn) + ((a + b) * wp + a * (up + wn)) in
      let e = out-is a b (D * xp) (D * xn) (D * sp) (D * sn) (D * Xp) (D * Xn) up un wp wn (D * r) floor-D in
      let k = times-q q p b (D * sn + wp) a (D * xn + up) (D * r) n (D * sp + wn) (D * xp + un) e in
      let l = out-law a b (q * (D * xp + un)) (q * (D * xn + up)) (q * (D * sp + wn)) (q * (D * sn + wp)) (Δ * D) (S * D) (T * (65536 * D)) (65536 * (q * D)) (q * (D * r)) (q * p) (q * n) x+ x- s+ s- dropped (times-D D b S a Δ q T h) k in
      let ep : p ≡ 65536 * D * (sp + Xp) + (65536 * wn + a * (un + wp)) = rw sum (omega arith) in
      let en : n ≡ 65536 * D * (sn + Xn) + (65536 * wp + a * (up + wn)) = rw sum (omega arith) in
      rw (ep, en) at l

  word-parts : (65536 + a) * Δ + a * S + 65536 * q ≤ 65536 * S
      → let p = 65536 * D * (xp + Xp) + (65536 * un + a * (un + wp)) in let n = 65536 * D * (xn + Xn) + (65536 * up + a * (up + wn)) in
      (q * p ≤ q * n + S * (65536 * D)) × (q * n ≤ q * p + S * (65536 * D))
  word-parts h =
      let c = a + b + a in
      let p = (a + b) * (D * xp + D * Xp) + ((a + b) * un + a * (un + wp)) in
      let n = (a + b) * (D * xn + D * Xn) + ((a + b) * up + a * (up + wn)) in
      let e = word-is a b (D * xp) (D * xn) (D * sp) (D * sn) (D * Xp) (D * Xn) up un wp wn (D * r) floor-D in
      let k = times-q q p c (D * xn + up) a (D * sp + wn) (D * r) n (D * xp + un) (D * sn + wp) e in
      let g : c ≡ 65536 + a = ap (λ (t : ℕ). t + a) sum in
      let side : c * Δ + a * S + 65536 * q ≤ 65536 * S = rw g h in
      let l = word-law a c (q * (D * xp + un)) (q * (D * xn + up)) (q * (D * sp + wn)) (q * (D * sn + wp)) (Δ * D) (S * D) (S * (65536 * D)) (65536 * (q * D)) (q * (D * r)) (q * p) (q * n) x+ x- s+ s- dropped (times-D D c Δ a S q S side) k in
      let ep : p ≡ 65536 * D * (xp + Xp) + (65536 * un + a * (un + wp)) = rw sum (omega arith) in
      let en : n ≡ 65536 * D * (xn + Xn) + (65536 * up + a * (up + wn)) = rw sum (omega arith) in
      rw (ep, en) at l

-- ---- integers

-- |q (D y - z)| ≤ e D: y lies within e q-ths of z / D
abbrev pub Off : ℕ → ℕ → ℕ → ℤ → ℤ → Type 0
Off q D e y z = nat_abs (pos q *ℤ (pos D *ℤ y -ℤ z)) ≤ e * D

-- a size as two orders
pub apart : (v : ℤ) (p n m : ℕ) → P v + n ≡ p + N v → nat_abs v ≤ m → (p ≤ n + m) × (n ≤ p + m)
apart v p n m e h = (omega (arith, e, h, pn-abs v), omega (arith, e, h, pn-abs v))

pub together : (v : ℤ) (p n m : ℕ) → P v + n ≡ p + N v → (p ≤ n + m) × (n ≤ p + m) → nat_abs v ≤ m
together v p n m e (a, b) = go (pn-or v)
  where
    go : (P v ≡ 0) ⊎ (N v ≡ 0) → nat_abs v ≤ m
    go (inl z) = omega (arith, e, a, b, z, pn-abs v)
    go (inr z) = omega (arith, e, a, b, z, pn-abs v)

up-lit : (n : ℕ) (f : E) → up (lit n ⊗ f) ≡ n * up f
up-lit n f = omega arith

dn-lit : (n : ℕ) (f : E) → dn (lit n ⊗ f) ≡ n * dn f
dn-lit n f = omega arith

module _ (q D e : ℕ) (y z : E) where
  abbrev diff : E
  diff = lit q ⊗ (lit D ⊗ y ⊖ z)

  up-diff : up diff ≡ q * (D * up y + dn z)
  up-diff = up-lit q (lit D ⊗ y ⊖ z) ∙ ap (λ (k : ℕ). q * (k + dn z)) (up-lit D y)

  dn-diff : dn diff ≡ q * (D * dn y + up z)
  dn-diff = dn-lit q (lit D ⊗ y ⊖ z) ∙ ap (λ (k : ℕ). q * (k + up z)) (dn-lit D y)

  pub off-parts : Off q D e (val y) (val z)
      → (q * (D * up y + dn z) ≤ q * (D * dn y + up z) + e * D) × (q * (D * dn y + up z) ≤ q * (D * up y + dn z) + e * D)
  off-parts h = rw (up-diff, dn-diff) at (apart (val diff) (up diff) (dn diff) (e * D) (of diff) h)

  pub off-from : (q * (D * up y + dn z) ≤ q * (D * dn y + up z) + e * D) × (q * (D * dn y + up z) ≤ q * (D * up y + dn z) + e * D)
      → Off q D e (val y) (val z)
  off-from h = together (val diff) (up diff) (dn diff) (e * D) (of diff) (rw (up-diff, dn-diff) h)

-- the section: X is the floor of a (x - s) / 65536
module _ (a b q D Δ S T : ℕ) (sum : a + b ≡ 65536) (x s u w X : ℤ) (f : Floor (pos a *ℤ (x -ℤ s)) X 65536) (hx : Off q D Δ x u) (hs : Off q D S s w) where
  abbrev r : ℕ
  r = P (pos a *ℤ (x -ℤ s)) + 65536 * N X - (65536 * P X + N (pos a *ℤ (x -ℤ s)))

  floor : 65536 * P X + a * (N x + P s) + r ≡ 65536 * N X + a * (P x + N s)
  floor = omega (arith, f.low, f.high, of (lit a ⊗ (# x ⊖ # s)))

  few : r ≤ 65536
  few = omega (arith, f.low, f.high)

  abbrev both : E → E
  both z = lit 65536 ⊗ z ⊕ lit a ⊗ (# u ⊖ # w)

  pub out-off : b * S + a * Δ + 65536 * q ≤ 65536 * T → Off q (65536 * D) T (s +ℤ X) (pos 65536 *ℤ w +ℤ pos a *ℤ (u -ℤ w))
  out-off h =
      let (x+, x-) = off-parts q D Δ (# x) (# u) hx in
      let (s+, s-) = off-parts q D S (# s) (# w) hs in
      let l = out-parts a b q D Δ S T sum (P x) (N x) (P s) (N s) (P u) (N u) (P w) (N w) (P X) (N X) r few floor x+ x- s+ s- h in
      let d : dn (both (# w)) ≡ 65536 * N w + a * (N u + P w) = omega arith in
      let e : up (both (# w)) ≡ 65536 * P w + a * (P u + N w) = omega arith in
      off-from q (65536 * D) T (# s ⊕ # X) (both (# w)) (rw (d, e) l)

  pub word-off : (65536 + a) * Δ + a * S + 65536 * q ≤ 65536 * S → Off q (65536 * D) S (x +ℤ X) (pos 65536 *ℤ u +ℤ pos a *ℤ (u -ℤ w))
  word-off h =
      let (x+, x-) = off-parts q D Δ (# x) (# u) hx in
      let (s+, s-) = off-parts q D S (# s) (# w) hs in
      let l = word-parts a b q D Δ S S sum (P x) (N x) (P s) (N s) (P u) (N u) (P w) (N w) (P X) (N X) r few floor x+ x- s+ s- h in
      let d : dn (both (# u)) ≡ 65536 * N u + a * (N u + P w) = omega arith in
      let e : up (both (# u)) ≡ 65536 * P u + a * (P u + N w) = omega arith in
      off-from q (65536 * D) S (# x ⊕ # X) (both (# u)) (rw (d, e) l)

-- a size alone is an error from 0 over 1
pub plain : (e : ℕ) (y : ℤ) → nat_abs y ≤ e → Off 1 1 e y (pos 0)
plain e y h = off-from 1 1 e (# y) (lit 0) (omega (arith, apart y (P y) (N y) e refl h), omega (arith, apart y (P y) (N y) e refl h))

pub unplain : (e : ℕ) (y z : ℤ) → z ≡ pos 0 → Off 1 65536 e y z → nat_abs y ≤ e
unfolding P N
unplain e y z h o =
    let (a, b) = off-parts 1 65536 e (# y) (# z) o in
    together y (P y) (N y) e refl (omega (arith, a, ap P h, ap N h), omega (arith, b, ap P h, ap N h))
