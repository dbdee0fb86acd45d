-- The live words of a record on each path, and records with words that fill their arrays. Assumes nothing.
use mathlib.Core.Path.{◌≡◌, refl}
use mathlib.Core.List.{List, [], append-nil}
use Prim.Native.Nat.{ℕ, ◌-◌}
use native.Mathlib.Omega.{arith}
use lib.IntN.{ℤ}
use lib.ListN.{length, take}
use lib.Seq.{take_all}
use Rattle.filters.specs.Lists.{padded}
use Rattle.filters.specs.Stage.DownFir.{Filter}
use Rattle.resampler.specs.declared.Record.{Record}
use Rattle.resampler.specs.Pairs.{copy, doubler, interpolator, down, path}
use Rattle.resampler.specs.Record.{arrays, living, live, pair_of, keeping}

pub padded-full : (n : ℕ) (xs : List ℤ) → length xs ≡ n → padded n xs ≡ xs
padded-full n xs h = let e : n - length xs ≡ 0 = omega arith in rw e (append-nil xs)

module _ (s : Record) where
  pub live-copy : path (pair_of s) ≡ copy → live s ≡ arrays [] [] [] []
  unfolding live living
  live-copy e = rw e refl

  pub live-doubler : path (pair_of s) ≡ doubler → length s.doubler ≡ 6 → live s ≡ arrays s.doubler [] [] []
  unfolding live living
  live-doubler e d = rw (e, take_all 6 s.doubler (omega arith)) refl

  pub live-interpolator : path (pair_of s) ≡ interpolator → length s.doubler ≡ 6 → length s.samples ≡ 8
      → live s ≡ arrays s.doubler s.samples [] []
  unfolding live living
  live-interpolator e d x = rw (e, take_all 6 s.doubler (omega arith), take_all 8 s.samples (omega arith)) refl

  pub live-down : (g : Filter) → path (pair_of s) ≡ down g → length s.ar2 ≡ 2 → live s ≡ arrays [] [] s.ar2 (take g.order s.fir)
  unfolding live living
  live-down g e a = rw (e, take_all 2 s.ar2 (omega arith)) refl

-- a record with no words, and then with those of a path
module _ (s : Record) {b : Record} (bare : b ≡ keeping (pair_of s) (arrays [] [] [] []) s.delay) where
  pub with-doubler : {d : List ℤ} → length d ≡ 6 → record b { doubler = d } ≡ keeping (pair_of s) (arrays d [] [] []) s.delay
  unfolding keeping
  with-doubler {d} h = rw (bare, padded-full 6 d h) refl

  pub with-interpolator : {d x : List ℤ} → length d ≡ 6 → length x ≡ 8
      → record b { doubler = d; samples = x } ≡ keeping (pair_of s) (arrays d x [] []) s.delay
  unfolding keeping
  with-interpolator {d} {x} h k = rw (bare, padded-full 6 d h, padded-full 8 x k) refl

  pub with-down : {a f : List ℤ} (g : List ℤ) → length a ≡ 2 → f ≡ padded 36 g → record b { ar2 = a; fir = f } ≡ keeping (pair_of s) (arrays [] [] a g) s.delay
  unfolding keeping
  with-down {a} g h e = rw (bare, padded-full 2 a h, e) refl
