-- What the stages with a reader ask of their rates holds of every pair on their paths, by one computed test of the thirty for
-- each kind. Assumes nothing.
use mathlib.Core.Path.{◌≡◌, refl, sym, ap, subst}
use mathlib.Core.Bool.{Bool, true, false, not, ◌&&◌, ◌||◌}
use Prim.Native.Nat.{ℕ, ◌+◌, ◌*◌, ◌≤◌}
use borrow.Author.Tests.{ltb-true, leb-true, eq-eqb, ne_eqb}
use lib.Dec.{T, ltb, leb}
use Rattle.filters.specs.declared.rates.Rates.{Rates}
use Rattle.filters.specs.Reader.{Steady}
use Rattle.filters.specs.Stage.DownFir.{Filter, down_3_4, down_2_3, down_1_2, down_1_3, down_1_4, down_1_6}
use Rattle.filters.proofs.Laws.Lists.{both_true}
use Rattle.resampler.specs.Pairs.{Pair, Path, copy, doubler, interpolator, down, path, filter, supported, up2x, raised, increment}
use Rattle.resampler.specs.Resample.{rates_of}
use Rattle.resampler.proofs.Laws.Pairs.{each, of-each}

abbrev steady? : ℕ → Rates → Bool
steady? num r =
    ltb 0 r.inKhz
    && (leb r.inKhz 48 && (leb r.outKhz 48 && (ltb 0 r.increment && (ltb r.increment 16777216 && ltb (10 * (r.outKhz * r.increment)) (10 * (num * 65536) + r.increment)))))

steady : (num : ℕ) (r : Rates) → steady? num r ≡ true → Steady num r
steady num r h =
    let (a, t) = both_true (ltb 0 r.inKhz) _ h in
    let (b, w) = both_true (leb r.inKhz 48) _ t in
    let (o, u) = both_true (leb r.outKhz 48) _ w in
    let (c, v) = both_true (ltb 0 r.increment) _ u in
    let (d, e) = both_true (ltb r.increment 16777216) _ v in
    record { some = ltb-true 0 _ a; few = leb-true _ 48 b; few_out = leb-true _ 48 o; moves = ltb-true 0 _ c; small = ltb-true _ 16777216 d; reach = ltb-true _ _ e }

-- which paths read
abbrev up? : Path → Bool
up? copy = false
up? doubler = false
up? interpolator = true
up? (down g) = false

abbrev down? : Path → Bool
down? copy = false
down? doubler = false
down? interpolator = false
down? (down g) = true

abbrev up-test : Pair → Bool
up-test p = not (up? (path p)) || (steady? (2 * p.inKhz) (rates_of p) && leb p.inKhz 16)

abbrev down-test : Pair → Bool
down-test p = not (down? (path p)) || (steady? p.inKhz (rates_of p) && leb p.outKhz 16)

up-passes : each up-test ≡ true
unfolding path filter up2x raised increment
up-passes = refl

down-passes : each down-test ≡ true
unfolding path filter up2x raised increment
down-passes = refl

-- a test that is asked for passes
asked-for : (a b : Bool) → a ≡ true → (not a || b) ≡ true → b ≡ true
asked-for true b e h = h
asked-for false b e h = absurd (no e)
  where
    no : false ≡ true → ⊥
    no e = subst T (sym e) tt

pub steady-up : (p : Pair) → supported p ≡ true → path p ≡ interpolator → Steady (2 * p.inKhz) (rates_of p) × (p.inKhz ≤ 16)
steady-up p h e =
    let t = asked-for (up? (path p)) _ (ap up? e) (of-each up-test up-passes p h) in
    let (a, b) = both_true (steady? (2 * p.inKhz) (rates_of p)) _ t in
    (steady _ _ a, leb-true _ 16 b)

pub steady-down : (p : Pair) (g : Filter) → supported p ≡ true → path p ≡ down g → Steady p.inKhz (rates_of p) × (p.outKhz ≤ 16)
steady-down p g h e =
    let t = asked-for (down? (path p)) _ (ap down? e) (of-each down-test down-passes p h) in
    let (a, b) = both_true (steady? p.inKhz (rates_of p)) _ t in
    (steady _ _ a, leb-true _ 16 b)

-- ---- the filter of a ratio, once the ratios before it are ruled out

module _ (p : Pair) where
  abbrev is : ℕ → ℕ → Type 0
  is k m = p.outKhz * k ≡ p.inKhz * m

  abbrev sole : ℕ → Type 0
  sole k = p.outKhz * k ≡ p.inKhz

  pub filter-3/4 : is 4 3 → filter p ≡ down_3_4
  unfolding filter
  filter-3/4 a = rw (eq-eqb (p.outKhz * 4) (p.inKhz * 3) a) refl

  pub filter-2/3 : (is 4 3 → ⊥) → is 3 2 → filter p ≡ down_2_3
  unfolding filter
  filter-2/3 a b = rw (ne_eqb (p.outKhz * 4) (p.inKhz * 3) a, eq-eqb (p.outKhz * 3) (p.inKhz * 2) b) refl

  pub filter-1/2 : (is 4 3 → ⊥) → (is 3 2 → ⊥) → sole 2 → filter p ≡ down_1_2
  unfolding filter
  filter-1/2 a b c = rw (ne_eqb (p.outKhz * 4) (p.inKhz * 3) a, ne_eqb (p.outKhz * 3) (p.inKhz * 2) b, eq-eqb (p.outKhz * 2) p.inKhz c) refl

  pub filter-1/3 : (is 4 3 → ⊥) → (is 3 2 → ⊥) → (sole 2 → ⊥) → sole 3 → filter p ≡ down_1_3
  unfolding filter
  filter-1/3 a b c d =
      rw (ne_eqb (p.outKhz * 4) (p.inKhz * 3) a, ne_eqb (p.outKhz * 3) (p.inKhz * 2) b, ne_eqb (p.outKhz * 2) p.inKhz c, eq-eqb (p.outKhz * 3) p.inKhz d) refl

  pub filter-1/4 : (is 4 3 → ⊥) → (is 3 2 → ⊥) → (sole 2 → ⊥) → (sole 3 → ⊥) → sole 4 → filter p ≡ down_1_4
  unfolding filter
  filter-1/4 a b c d e =
      rw (ne_eqb (p.outKhz * 4) (p.inKhz * 3) a, ne_eqb (p.outKhz * 3) (p.inKhz * 2) b, ne_eqb (p.outKhz * 2) p.inKhz c, ne_eqb (p.outKhz * 3) p.inKhz d, eq-eqb (p.outKhz * 4) p.inKhz e) refl

  pub filter-1/6 : (is 4 3 → ⊥) → (is 3 2 → ⊥) → (sole 2 → ⊥) → (sole 3 → ⊥) → (sole 4 → ⊥) → filter p ≡ down_1_6
  unfolding filter
  filter-1/6 a b c d e =
      rw (ne_eqb (p.outKhz * 4) (p.inKhz * 3) a, ne_eqb (p.outKhz * 3) (p.inKhz * 2) b, ne_eqb (p.outKhz * 2) p.inKhz c, ne_eqb (p.outKhz * 3) p.inKhz d, ne_eqb (p.outKhz * 4) p.inKhz e) refl
