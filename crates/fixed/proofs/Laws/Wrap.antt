-- What an i32 holds: `wrapped z` differs from z by a multiple of 2^32, is in range, and is the only such number; so the
-- machine's shifts left, sums and differences are it. Assumes nothing.
use mathlib.Core.Path.{◌≡◌, refl, sym, ap}
use mathlib.Core.Logic.{⊎_elim}
use mathlib.Core.Bool.{Bool, true, false, not}
use Prim.Native.Nat.{ℕ, suc, ◌+◌, ◌*◌, ◌-◌, ◌/◌, ◌%◌, ◌^◌, ◌<◌, ◌≤◌}
use native.Mathlib.Omega.{arith}
use native.Mathlib.Nat as NatL
use lib.Dec.{T, ltb}
use lib.IntN.{ℤ, pos, negsuc, neg_ℤ, ◌+ℤ◌, ◌-ℤ◌, ◌*ℤ◌}
use lib.Signed.{shr_z}
use lib.Pow.{pow_pos}
use mir.Syntax.{Width, w8, w16, w32, w64, w128}
use mir.ValLaws.{to_z-Fits}
use mir.Val.{SFits, to_z, of_z, sel, hbits, bits}
use Rattle.fixed.specs.Fixed.{wrapped}
use Rattle.fixed.proofs.Laws.Integer.{P, N, pn-sum, p-neg, n-neg, p-scale, n-scale, pn-or, from-pn, shr-floor}

-- x and y differ by a multiple of m
pub record Cong (m : ℕ) (x y : ℤ) : Type 0 where
  pub k : ℕ
  pub l : ℕ
  pub same : P x + N y + m * k ≡ P y + N x + m * l

-- a signed range, by the parts
pub fits-pn : (w : Width) (z : ℤ) → SFits w z → (P z < 2 ^ hbits w) × (N z ≤ 2 ^ hbits w)
unfolding P N
fits-pn w (pos n) h = (h.sfits, omega arith)
fits-pn w (negsuc n) h = (omega (arith, h.sfits), h.sfits)

pub pn-fits : (w : Width) (z : ℤ) → P z < 2 ^ hbits w → N z ≤ 2 ^ hbits w → SFits w z
unfolding P N
pn-fits w (pos n) h k = record { sfits = h }
pn-fits w (negsuc n) h k = record { sfits = k }

-- ---- wrapped

-- the multiple of 2^32 that is taken away
abbrev top : ℤ → ℤ
top z = shr_z (z +ℤ pos 2147483648) 4294967296

wrap-parts : (z : ℤ) → P (wrapped z) + N z + 4294967296 * P (top z) ≡ P z + N (wrapped z) + 4294967296 * N (top z)
unfolding wrapped
wrap-parts z =
    let y = pos 4294967296 *ℤ top z in
    omega (arith, pn-sum z (neg_ℤ y), p-neg y, n-neg y, p-scale 4294967296 (top z), n-scale 4294967296 (top z))

wrap-floor : (z : ℤ) → (P (wrapped z) < 2147483648 + N (wrapped z)) × (N (wrapped z) ≤ 2147483648 + P (wrapped z))
unfolding P N
wrap-floor z = (
  omega (arith, wrap-parts z, shr-floor (z +ℤ pos 2147483648) 4294967296 (omega arith), pn-sum z (pos 2147483648)),
  omega (arith, wrap-parts z, shr-floor (z +ℤ pos 2147483648) 4294967296 (omega arith), pn-sum z (pos 2147483648)),
)

pub wrap-fits : (z : ℤ) → SFits w32 (wrapped z)
wrap-fits z = pn-fits w32 (wrapped z)
    (⊎_elim (λ h. omega (arith, wrap-floor z)) (λ h. omega (arith, wrap-floor z)) (pn-or (wrapped z)))
    (⊎_elim (λ h. omega (arith, wrap-floor z)) (λ h. omega (arith, wrap-floor z)) (pn-or (wrapped z)))

-- the only number of that range in its class
pub wrap-unique : (z r : ℤ) → Cong 4294967296 z r → SFits w32 r → wrapped z ≡ r
wrap-unique z r c f =
    from-pn (wrapped z) r (omega (arith, wrap-parts z, fits-pn w32 r f, fits-pn w32 (wrapped z) (wrap-fits z)))

-- a number that fits is held whole
pub wrap-id : (z : ℤ) → SFits w32 z → wrapped z ≡ z
wrap-id z f = wrap-unique z z (record { k = 0; l = 0; same = refl }) f

-- ---- the machine's words: bits, and shifts left

sel-ind : (c : Bool) (x y : ℤ) (Q : ℤ → Type 0) → (T c → Q x) → (T (not c) → Q y) → Q (sel c x y)
sel-ind true x y Q f g = f tt
sel-ind false x y Q f g = g tt

halves : (w : Width) → 2 ^ bits w ≡ 2 * 2 ^ hbits w
halves w8 = refl
halves w16 = refl
halves w32 = refl
halves w64 = refl
halves w128 = refl

-- the bits n of a width, read as signed: n, or n less 2 to the width
to_ℤ-cong : (w : Width) (n : ℕ) → n < 2 ^ bits w → Cong (2 ^ bits w) (to_z w n) (pos n)
unfolding P N
to_ℤ-cong w n h = sel-ind (ltb n (2 ^ hbits w)) (pos n) (negsuc (2 ^ bits w - suc n)) (λ z. Cong (2 ^ bits w) z (pos n))
    (λ t. record { k = 0; l = 0; same = refl })
    (λ t. record { k = 1; l = 0; same = omega arith })

of_ℤ-cong : (w : Width) (z : ℤ) → SFits w z → Cong (2 ^ bits w) z (pos (of_z w z))
unfolding P N
of_ℤ-cong w (pos n) f = record { k = 0; l = 0; same = refl }
of_ℤ-cong w (negsuc n) f = record { k = 1; l = 0; same = omega (arith, f.sfits, halves w) }

of_z-lt : (w : Width) (z : ℤ) → SFits w z → of_z w z < 2 ^ bits w
of_z-lt w (pos n) f = omega (arith, f.sfits, halves w)
of_z-lt w (negsuc n) f = omega (arith, pow_pos (bits w))

-- z << k, where m is 2^k
abbrev shl : Width → ℤ → ℕ → ℤ
shl w z m = to_z w ((of_z w z * m) % 2 ^ bits w)

shl-fits : (w : Width) (z : ℤ) (m : ℕ) → SFits w (shl w z m)
shl-fits w z m = to_z-Fits w _ (record { fits = NatL.mod-lt (of_z w z * m) (pow_pos (bits w)) })

-- it differs from m z by a multiple of 2 to the width
shl-cong : (w : Width) (z : ℤ) (m : ℕ) → SFits w z → Cong (2 ^ bits w) (pos m *ℤ z) (shl w z m)
unfolding P N
shl-cong w z m f =
    let b = 2 ^ bits w in
    let u = of_z w z in
    let o = of_ℤ-cong w z f in
    let e = to_ℤ-cong w ((u * m) % b) (NatL.mod-lt (u * m) (pow_pos (bits w))) in
    record {
      k = m * o.k + e.l;
      l = m * o.l + u * m / b + e.k;
      same = omega (arith, ap (λ (k : ℕ). m * k) o.same, e.same, NatL.div-add-mod' (u * m) b, p-scale m z, n-scale m z);
    }

-- x << k on 32 bits
pub shl-wrap : (x : ℤ) (m : ℕ) → SFits w32 x → shl w32 x m ≡ wrapped (pos m *ℤ x)
shl-wrap x m f = sym (wrap-unique (pos m *ℤ x) (shl w32 x m) (shl-cong w32 x m f) (shl-fits w32 x m))

-- what the bits u become, read as signed, for a u that differs from z by a multiple of 2^32
bits-wrap : (z : ℤ) (u : ℕ) → Cong 4294967296 z (pos u) → to_z w32 (u % 4294967296) ≡ wrapped z
unfolding P N
bits-wrap z u c =
    let r = u % 4294967296 in
    let e = to_ℤ-cong w32 r (NatL.mod-lt u (pow_pos (bits w32))) in
    sym (wrap-unique z (to_z w32 r)
    (record { k = c.k + e.l; l = c.l + u / 4294967296 + e.k; same = omega (arith, c.same, e.same, NatL.div-add-mod' u 4294967296) })
    (to_z-Fits w32 _ (record { fits = NatL.mod-lt u (pow_pos (bits w32)) })))

-- a + b and a - b on 32 bits
module _ (a b : ℤ) (f : SFits w32 a) (g : SFits w32 b) where
  pub sum_wraps : to_z w32 ((of_z w32 a + of_z w32 b) % 4294967296) ≡ wrapped (a +ℤ b)
  unfolding P N
  sum_wraps =
      let p = of_ℤ-cong w32 a f in
      let q = of_ℤ-cong w32 b g in
      bits-wrap (a +ℤ b) _ (record { k = p.k + q.k; l = p.l + q.l; same = omega (arith, p.same, q.same, pn-sum a b) })

  pub difference_wraps : to_z w32 ((of_z w32 a + (4294967296 - of_z w32 b)) % 4294967296) ≡ wrapped (a -ℤ b)
  unfolding P N
  difference_wraps =
      let p = of_ℤ-cong w32 a f in
      let q = of_ℤ-cong w32 b g in
      let h = of_z-lt w32 b g in
      bits-wrap (a -ℤ b) _ (record { k = p.k + q.l + 1; l = p.l + q.k; same = omega (arith, p.same, q.same, pn-sum a (neg_ℤ b), p-neg b, n-neg b) })
