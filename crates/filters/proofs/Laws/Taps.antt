-- From the taps that a definition picks out of a filter's rows to those that the code reads from its flat table.
-- Assumes nothing.
use mathlib.Core.Path.{◌≡◌, refl, ◌∙◌}
use mathlib.Core.Bool.{Bool, true}
use mathlib.Core.List.{List, [], ◌∷◌, ◌++◌, reverse}
use Prim.Native.Nat.{ℕ, zero, suc, ◌+◌, ◌*◌, ◌-◌, ◌/◌, ◌<◌, ◌≤◌, ◌%◌}
use native.Mathlib.Nat.{not-suc-le-zero, le_of_suc-le-suc, mul-lt-mul_of_pos_right, mul-le-mul_left, mul-suc}
use native.Mathlib.Omega.{arith}
use borrow.Author.Tests.{eqb-true, lt-ltb}
use Rattle.std.proofs.lemmas.List.{length-reverse}
use Rattle.fixed.specs.Fixed.{times}
use lib.Dec.{eqb}
use lib.IntN.{ℤ, pos}
use lib.ListN.{length, take, drop, get_or, length-drop}
use lib.Seq.{drop-drop, length-take-le}
use Rattle.filters.specs.Lists.{cut, every}
use Rattle.filters.specs.Rom.{silk_resampler_frac_FIR_12}
use Rattle.filters.specs.Reader.{mirrored, sum, Small, small?}
use Rattle.filters.specs.Stage.DownFir.{Fitting, filter_of, apart, rows, filtered, in_pairs, outer_sums}
use Rattle.filters.proofs.Laws.Dot.{sum-rows, outer-front}
use Rattle.filters.proofs.Laws.Lists.{both_true, cut_at, cut-count}

-- ---- every entry of a table

-- a test that every entry passes, the entry at k passes
pub every-at : {A : Type 0} (t : A → Bool) (xs : List A) (k : ℕ) (d : A) → every t xs ≡ true → k < length xs → t (get_or xs k d) ≡ true
every-at t [] k d h l = absurd (not-suc-le-zero l)
every-at t (x ∷ xs) zero d h l = (both_true (t x) (every t xs) h).0
every-at t (x ∷ xs) (suc k) d h l = every-at t xs k d (both_true (t x) (every t xs) h).1 (le_of_suc-le-suc l)

-- every entry of a part passes
pub every-take : {A : Type 0} (t : A → Bool) (n : ℕ) (xs : List A) → every t xs ≡ true → every t (take n xs) ≡ true
every-take t zero xs h = refl
every-take t (suc n) [] h = refl
every-take t (suc n) (x ∷ xs) h = let (a, b) = both_true (t x) (every t xs) h in rw (a, every-take t n xs b) refl

pub every-drop : {A : Type 0} (t : A → Bool) (n : ℕ) (xs : List A) → every t xs ≡ true → every t (drop n xs) ≡ true
every-drop t zero xs h = h
every-drop t (suc n) [] h = refl
every-drop t (suc n) (x ∷ xs) h = every-drop t n xs (both_true (t x) (every t xs) h).1

-- the last entry, and those before it
pub every-last : {A : Type 0} (t : A → Bool) (all xs : List A) (x : A) → all ≡ xs ++ x ∷ [] → every t all ≡ true → (t x ≡ true) × (every t xs ≡ true)
every-last t all [] x e h = ((both_true (t x) true (rw e at h)).0, refl)
every-last t all (y ∷ xs) x e h =
    let (a, b) = both_true (t y) (every t (xs ++ x ∷ [])) (rw e at h) in
    let (c, d) = every-last t (xs ++ x ∷ []) xs x refl b in
    (c, rw (a, d) refl)

-- ---- the rows of a down filter

-- the row of a fraction is one of the rows
pub row_below : (n fraction : ℕ) → fraction < 65536 → 0 < n → fraction * n / 65536 < n
row_below n fraction h p = let m = mul-lt-mul_of_pos_right h p in omega arith

-- a table of n rows of w behind two constants
module _ (w n : ℕ) (cs : List ℤ) (p : 0 < w) (l : length cs ≡ 2 + w * n) where
  pub row_at : (k : ℕ) → k < n → get_or (cut w (drop 2 cs)) k [] ≡ take w (drop (2 + w * k) cs)
  row_at k h =
      let m = mul-le-mul_left w h in
      let e = mul-suc w k in
      cut_at w k (drop 2 cs) p (omega (arith, length-drop 2 cs)) ∙ rw (drop-drop (w * k) 2 cs) refl

  pub row_first : 0 < n → get_or (cut w (drop 2 cs)) 0 [] ≡ take w (drop 2 cs)
  row_first q = let e : w * 0 ≡ 0 = omega arith in row_at 0 q ∙ rw e refl

  pub row_count : length (cut w (drop 2 cs)) ≡ n
  row_count = cut-count w n (drop 2 cs) p (length-drop 2 cs ∙ omega arith)

  -- the taps of a fraction
  pub mirrored-at : (fraction : ℕ) → fraction < 65536 → 0 < n →
      let k = fraction * n / 65536 in
      mirrored (cut w (drop 2 cs)) fraction ≡ take w (drop (2 + w * k) cs) ++ reverse (take w (drop (2 + w * (n - 1 - k)) cs))
  unfolding mirrored
  mirrored-at fraction h q =
      let k = fraction * n / 65536 in
      let b = row_below n fraction h q in
      rw (row_count, row_at k b, row_at (n - 1 - k) (omega arith)) refl

-- n taps from a place on, of which there are so many
part : (cs : List ℤ) (at n w : ℕ) → Small cs → n ≡ w → at + w ≤ length cs → (length (take n (drop at cs)) ≡ w) × Small (take n (drop at cs))
part cs at n w h e l =
    rw e (length-take-le w (drop at cs) (omega (arith, length-drop at cs)), every-take small? w (drop at cs) (every-drop small? at cs h))

-- order 18: row k, read from the flat table
pub row-fits : (rows order : ℕ) (cs : List ℤ) (k : ℕ) → order ≡ 18 → Fitting order rows cs → k < rows →
    (length (take (2 + 9 * k + 9 - (2 + 9 * k)) (drop (2 + 9 * k) cs)) ≡ 9) × Small (take (2 + 9 * k + 9 - (2 + 9 * k)) (drop (2 + 9 * k) cs))
row-fits rows order cs k e f h = let g : Fitting 18 rows cs = rw e at f in part cs (2 + 9 * k) (2 + 9 * k + 9 - (2 + 9 * k)) 9 f.small (omega arith) (omega (arith, g.entries))

-- the orders above it: the only row
pub first-fits : (rows order : ℕ) (cs ys : List ℤ) → 18 < order → Fitting order rows cs → order ≤ length ys →
    (length (take (2 + order / 2 - 2) (drop 2 cs)) % 3 ≡ 0) × (length (take (2 + order / 2 - 2) (drop 2 cs)) ≤ 18) × (length (take (2 + order / 2 - 2) (drop 2 cs)) ≡ length (take order ys) / 2) × Small (take (2 + order / 2 - 2) (drop 2 cs))
first-fits rows order cs ys h f l =
    let m = mul-le-mul_left (order / 2) f.some in
    let (n, s) = part cs 2 (2 + order / 2 - 2) (order / 2) f.small (omega arith) (omega (arith, f.entries)) in
    (rw n (f.threes h), omega (arith, f.most), n ∙ rw (length-take-le order ys l) refl, s)

-- what an output reads from the flat table is the definition's
module _ (rows order : ℕ) (cs ys : List ℤ) (f : Fitting order rows cs) (l : order ≤ length ys) where
  pub apart-read : (fraction : ℕ) {front r : ℤ} → order ≡ 18 → fraction < 65536 → let k = fraction * rows / 65536 in let a = 2 + 9 * k in let b = 2 + 9 * (rows - 1 - k) in
      front ≡ sum times (pos 0) (take (a + 9 - a) (drop a cs)) (take 9 ys)
      → r ≡ sum times front (reverse (take (b + 9 - b) (drop b cs))) (take 9 (drop 9 ys))
      → r ≡ apart (filter_of 18 cs) fraction ys
  unfolding apart rows
  apart-read fraction e h p q =
      let k = fraction * rows / 65536 in
      let m = rows - 1 - k in
      let g : Fitting 18 rows cs = rw e at f in
      let b = row_below rows fraction h f.some in
      let one : 2 + 9 * k + 9 - (2 + 9 * k) ≡ 9 = omega arith in
      let two : 2 + 9 * m + 9 - (2 + 9 * m) ≡ 9 = omega arith in
      let n : length (take 9 (drop (2 + 9 * k) cs)) ≡ 9 = rw one at (row-fits rows order cs k e f b).0 in
      let o : length (take 9 (drop (2 + 9 * m) cs)) ≡ 9 = rw two at (row-fits rows order cs m e f (omega arith)).0 in
      let both = sum-rows times (pos 0) (take 9 (drop (2 + 9 * k) cs)) (reverse (take 9 (drop (2 + 9 * m) cs))) ys 9 9 n (length-reverse _ ∙ o) (omega arith) in
      rw (mirrored-at 9 rows cs (omega arith) g.entries fraction h f.some) ((rw (p, one, two) at q) ∙ both)

  pub pairs-read : 18 < order → (fraction : ℕ) {r : ℤ} → r ≡ sum times (pos 0) (take (2 + order / 2 - 2) (drop 2 cs)) (outer_sums (length (take order ys)) (take order ys))
      → r ≡ filtered (filter_of order cs) fraction ys
  unfolding filtered in_pairs rows
  pairs-read h fraction q =
      let e : 2 + order / 2 - 2 ≡ order / 2 = omega arith in
      simp (lt-ltb 18 order h) (rw (row_first (order / 2) rows cs (omega arith) f.entries f.some) (rw (e, outer-front order ys l) at q))

-- ---- the interpolation table

pub frac-width : (k : ℕ) → k < 12 → length (get_or silk_resampler_frac_FIR_12 k []) ≡ 4
unfolding silk_resampler_frac_FIR_12
frac-width k h = eqb-true _ 4 (every-at (λ row. eqb (length row) 4) silk_resampler_frac_FIR_12 k [] refl h)

pub frac-mirrored : (fraction : ℕ) → let k = fraction * 12 / 65536 in
    mirrored silk_resampler_frac_FIR_12 fraction ≡ get_or silk_resampler_frac_FIR_12 k [] ++ reverse (get_or silk_resampler_frac_FIR_12 (11 - k) [])
unfolding mirrored silk_resampler_frac_FIR_12
frac-mirrored fraction = refl
