-- The path of a pair, once the paths before it are ruled out; and what it makes of whole milliseconds. Assumes nothing.
use mathlib.Core.Path.{◌≡◌, refl}
use Prim.Native.Nat.{ℕ, ◌*◌, ◌%◌, ◌<◌, ◌≤◌}
use native.Mathlib.Nat.{div-add-mod'}
use native.Mathlib.Omega.{arith}
use borrow.Author.Tests.{eq-eqb, ne_eqb, lt-ltb, le-ltb}
use Rattle.resampler.specs.Pairs.{Pair, pair, copy, doubler, interpolator, down, path, filter, increment}
use Rattle.resampler.specs.Resample.{made, rates_of}

module _ (p : Pair) where
  pub path-copy : p.outKhz ≡ p.inKhz → path p ≡ copy
  unfolding path
  path-copy a = rw (eq-eqb p.outKhz p.inKhz a) refl

  pub path-doubler : (p.outKhz ≡ p.inKhz → ⊥) → p.outKhz ≡ 2 * p.inKhz → path p ≡ doubler
  unfolding path
  path-doubler a b = rw (ne_eqb p.outKhz p.inKhz a, eq-eqb p.outKhz (2 * p.inKhz) b) refl

  pub path-interpolator : (p.outKhz ≡ p.inKhz → ⊥) → (p.outKhz ≡ 2 * p.inKhz → ⊥) → p.inKhz < p.outKhz → path p ≡ interpolator
  unfolding path
  path-interpolator a b c = rw (ne_eqb p.outKhz p.inKhz a, ne_eqb p.outKhz (2 * p.inKhz) b, lt-ltb p.inKhz p.outKhz c) refl

  pub path-down : (p.outKhz ≡ p.inKhz → ⊥) → (p.outKhz ≡ 2 * p.inKhz → ⊥) → p.outKhz ≤ p.inKhz → path p ≡ down (filter p)
  unfolding path
  path-down a b c = rw (ne_eqb p.outKhz p.inKhz a, ne_eqb p.outKhz (2 * p.inKhz) b, le-ltb p.inKhz p.outKhz c) refl

  -- an equal rate makes as many samples, twice the rate twice as many
  pub made-equal : (n : ℕ) → n % p.inKhz ≡ 0 → p.outKhz ≡ p.inKhz → made p n ≡ n
  unfolding made
  made-equal n h e = rw e (omega (arith, h, div-add-mod' n p.inKhz))

  pub made-twice : (n : ℕ) → n % p.inKhz ≡ 0 → p.outKhz ≡ 2 * p.inKhz → made p n ≡ 2 * n
  unfolding made
  made-twice n h e = rw e (omega (arith, h, div-add-mod' n p.inKhz))

-- an increment depends on the rates only
pub increment-same : (d i o : ℕ) → increment (pair 0 i o) ≡ increment (pair d i o)
unfolding increment path filter
increment-same d i o = refl

pub at-increment : (p : Pair) {n : ℕ} → n ≡ increment p → record { inKhz = p.inKhz; outKhz = p.outKhz; increment = n } ≡ rates_of p
at-increment p e = λ i. record { inKhz = p.inKhz; outKhz = p.outKhz; increment = e i }
