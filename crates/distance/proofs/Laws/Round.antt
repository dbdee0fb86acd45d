-- Rounding and clipping: half a step more, to the exact value held to a sample. Assumes nothing.
use Rattle.std.specs.Prelude.{if◌then◌else◌}
use mathlib.Core.Path.{◌≡◌, refl, sym, ap, subst}
use mathlib.Core.Bool.{Bool, true, false}
use Prim.Native.Nat.{ℕ, zero, suc, ◌+◌, ◌*◌, ◌<◌, ◌≤◌}
use native.Mathlib.Nat.{mul-le-mul_left}
use native.Mathlib.Omega.{arith}
use borrow.Author.Tests.{ltb-true, ltb-false}
use lib.Dec.{T}
use lib.IntN.{ℤ, pos, negsuc, nat_abs, neg_ℤ, ◌+ℤ◌, ◌-ℤ◌, ◌*ℤ◌}
use lib.Signed.{lt_z}
use Rattle.fixed.specs.Fixed.{rounded, narrowed}
use Rattle.fixed.proofs.Laws.Integer.{P, N, pn-abs, p-neg, n-neg, p-scale, n-scale, Floor, shr-floor}
use Rattle.fixed.proofs.Laws.Ring.{#, lit, ◌⊕◌, ◌⊖◌, ◌⊗◌, of}
use Rattle.fixed.proofs.Laws.Narrow.{clip-low, clip-high, clip-mid}
use Rattle.filters.specs.Section.{scaled}
use Rattle.distance.specs.Exact.{Fraction}
use Rattle.distance.specs.Distance.{Within, held}
use Rattle.distance.proofs.Laws.Within.{closer}

-- ---- tests as orders

no : true ≡ false → ⊥
no e = subst T e tt

lt_yes : (x y : ℤ) → lt_z x y ≡ true → P x + N y < P y + N x
unfolding P N
lt_yes (pos a) (pos b) h = omega (arith, ltb-true a b h)
lt_yes (pos a) (negsuc b) h = absurd (no (sym h))
lt_yes (negsuc a) (pos b) h = omega arith
lt_yes (negsuc a) (negsuc b) h = omega (arith, ltb-true b a h)

lt_no : (x y : ℤ) → lt_z x y ≡ false → P y + N x ≤ P x + N y
unfolding P N
lt_no (pos a) (pos b) h = omega (arith, ltb-false a b h)
lt_no (pos a) (negsuc b) h = omega arith
lt_no (negsuc a) (pos b) h = absurd (no h)
lt_no (negsuc a) (negsuc b) h = omega (arith, ltb-false b a h)

some : (c u : ℕ) → 0 < c * u → 0 < u
some c zero h = absurd (omega (arith, h))
some c (suc u) h = omega arith

-- ---- the distance

module _ (c : ℕ) (y : ℤ) (f : Fraction) (small : c ≤ 512) (h : Within c y f) where
  abbrev u : ℕ
  u = f.under

  abbrev Z : ℤ
  Z = f.over

  abbrev r : ℤ
  r = rounded 10 y

  least : 0 < u
  least = some c u (omega (arith, h))

  above : P y * u + N Z < N y * u + P Z + c * u
  above = omega (arith, h, of (# y ⊗ lit u ⊖ # Z), pn-abs (y *ℤ pos u -ℤ Z))

  below : N y * u + P Z < P y * u + N Z + c * u
  below = omega (arith, h, of (# y ⊗ lit u ⊖ # Z), pn-abs (y *ℤ pos u -ℤ Z))

  floor : Floor (y +ℤ pos 512) r 1024
  unfolding rounded
  floor = shr-floor (y +ℤ pos 512) 1024 (omega arith)

  down : u * (1024 * P r + N y) ≤ u * (P y + 512 + 1024 * N r)
  down = mul-le-mul_left u (omega (arith, floor.low, of (# y ⊕ lit 512)))

  up : u * (P y + 513 + 1024 * N r) ≤ u * (1024 * P r + N y + 1024)
  up = mul-le-mul_left u (omega (arith, floor.high, of (# y ⊕ lit 512)))

  -- 1024 times what is written, n, and what is held, C
  abbrev Near : ℤ → ℤ → Type 0
  Near n C = nat_abs (scaled n *ℤ pos u -ℤ C) < (c + 512) * u

  near : (n C : ℤ) → 1024 * P n * u + N C < 1024 * N n * u + P C + (c + 512) * u → 1024 * N n * u + P C < 1024 * P n * u + N C + (c + 512) * u → Near n C
  near n C a b =
      closer (scaled n *ℤ pos u -ℤ C) (1024 * P n * u + N C) (1024 * N n * u + P C) ((c + 512) * u)
      (omega (arith, of (# (scaled n) ⊗ lit u ⊖ # C), ap (λ (k : ℕ). k * u) (p-scale 1024 n), ap (λ (k : ℕ). k * u) (n-scale 1024 n))) a b

  abbrev low : ℤ
  low = neg_ℤ (pos (33554432 * u))

  abbrev high : ℤ
  high = pos (33553408 * u)

  low_parts : (P low ≡ 0) × (N low ≡ 33554432 * u)
  unfolding P N
  low_parts = (p-neg (pos (33554432 * u)), n-neg (pos (33554432 * u)))

  high_parts : (P high ≡ 33553408 * u) × (N high ≡ 0)
  unfolding P N
  high_parts = (refl, refl)

  abbrev kept : Bool → Bool → ℤ
  kept a b = if a then low else if b then high else Z

  -- what the rounding alone adds
  half-above : 1024 * P r * u + N Z < 1024 * N r * u + P Z + (c + 512) * u
  half-above = omega (arith, down, above)

  half-below : 1024 * N r * u + P Z < 1024 * P r * u + N Z + (c + 512) * u
  half-below = omega (arith, up, below, least)

  -- within the samples
  mid : lt_z r (negsuc 32767) ≡ false → lt_z (pos 32767) r ≡ false → (a b : Bool) → lt_z Z low ≡ a → lt_z high Z ≡ b → Near r (kept a b)
  unfolding P N
  mid e g true b ha hb =
      let l = lt_yes Z low ha in
      let k : u * N r ≤ u * (P r + 32768) = mul-le-mul_left u (omega (arith, lt_no r (negsuc 32767) e)) in
      near r low (omega (arith, half-above, l, low_parts)) (omega (arith, k, low_parts, least))
  mid e g false true ha hb =
      let l = lt_yes high Z hb in
      let k : u * P r ≤ u * (N r + 32767) = mul-le-mul_left u (omega (arith, lt_no (pos 32767) r g)) in
      near r high (omega (arith, k, high_parts, least)) (omega (arith, half-below, l, high_parts))
  mid e g false false ha hb = near r Z half-above half-below

  -- below them and above them: the exact value is held too
  under : lt_z r (negsuc 32767) ≡ true → (a b : Bool) → lt_z Z low ≡ a → lt_z high Z ≡ b → Near (negsuc 32767) (kept a b)
  unfolding P N
  under e true b ha hb = near (negsuc 32767) low (omega (arith, low_parts, least)) (omega (arith, low_parts, least))
  under e false b ha hb =
      let k : u * (P r + 32769) ≤ u * N r = mul-le-mul_left u (omega (arith, lt_yes r (negsuc 32767) e)) in
      let s = mul-le-mul_left u small in
      absurd (omega (arith, k, s, up, below, least, lt_no Z low ha, low_parts))

  beyond : lt_z (pos 32767) r ≡ true → (a b : Bool) → lt_z Z low ≡ a → lt_z high Z ≡ b → Near (pos 32767) (kept a b)
  unfolding P N
  beyond e true b ha hb =
      let k : u * (N r + 32768) ≤ u * P r = mul-le-mul_left u (omega (arith, lt_yes (pos 32767) r e)) in
      let s = mul-le-mul_left u small in
      absurd (omega (arith, k, s, down, above, least, lt_yes Z low ha, low_parts))
  beyond e false true ha hb = near (pos 32767) high (omega (arith, high_parts, least)) (omega (arith, high_parts, least))
  beyond e false false ha hb =
      let k : u * (N r + 32768) ≤ u * P r = mul-le-mul_left u (omega (arith, lt_yes (pos 32767) r e)) in
      let s = mul-le-mul_left u small in
      absurd (omega (arith, k, s, down, above, least, lt_no high Z hb, high_parts))

  pub rounds : Within (c + 512) (scaled (narrowed 10 y)) (held f)
  unfolding narrowed held
  rounds = go (lt_z r (negsuc 32767)) (lt_z (pos 32767) r) refl refl
    where
      go : (a b : Bool) → lt_z r (negsuc 32767) ≡ a → lt_z (pos 32767) r ≡ b → Within (c + 512) (scaled (narrowed 10 y)) (held f)
      go true b e g = rw (clip-low r e) (under e (lt_z Z low) (lt_z high Z) refl refl)
      go false true e g = rw (clip-high r e g) (beyond g (lt_z Z low) (lt_z high Z) refl refl)
      go false false e g = rw (clip-mid r e g) (mid e g (lt_z Z low) (lt_z high Z) refl refl)
