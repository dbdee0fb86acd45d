-- Laws of the lists of specs/Lists.antt. Assumes nothing.
use mathlib.Core.Path.{◌≡◌, refl, sym, ap, ◌∙◌}
use mathlib.Core.Bool.{Bool, true, false, ◌&&◌}
use mathlib.Core.List.{List, [], ◌∷◌, ◌++◌, map}
use Prim.Native.Nat.{ℕ, zero, suc, ◌+◌, ◌*◌, ◌-◌, ◌/◌, ◌<◌, ◌≤◌, ◌%◌}
use native.Mathlib.Nat.{add-zero, mul-suc, not-suc-le-zero}
use native.Mathlib.Numerals.{add-one}
use native.Mathlib.Omega.{arith}
use lib.IntN.{ℤ, pos}
use lib.ListN.{length, take, drop, get_or, replicate, length-replicate, length-append, length-take, drop_of_length-le, length-drop}
use lib.Seq.{drop-cons, drop-drop, take_all, take_at, drop_at, take-add, length-take-le}
use Rattle.filters.specs.Lists.{tabulate, pieces, cut, pairs, padded, last, ◌!◌}

-- both of two tests
pub both_true : (a b : Bool) → (a && b) ≡ true → (a ≡ true) × (b ≡ true)
both_true true b h = (refl, h)
both_true false b h = let z : ◌≡◌ {A = ℕ} 0 1 = cc in absurd (omega arith)

-- one entry, and the others: the turn k of a loop
pub drop-next : {A : Type 0} (xs : List A) (k : ℕ) (d : A) → k < length xs → drop k xs ≡ get_or xs k d ∷ drop (k + 1) xs
drop-next xs k d h = rw add-one (drop-cons xs k d h)

-- nothing is left
pub drop-none : {A : Type 0} (xs : List A) (k : ℕ) → length xs ≤ k → drop k xs ≡ []
drop-none xs k h = drop_of_length-le xs h

-- the part of a slice from a place to its end
pub part-rest : {A : Type 0} (xs : List A) (at : ℕ) → take (length xs - at) (drop at xs) ≡ drop at xs
part-rest xs at = take_all (length xs - at) (drop at xs) (omega (arith, length-drop at xs))

-- a few in a row, written out
take-each : (n at : ℕ) (xs : List ℤ) → at + n ≤ length xs → take n (drop at xs) ≡ tabulate at n (λ j. xs ! j)
unfolding tabulate
take-each zero at xs h = refl
take-each (suc n) at xs h = rw (drop-next xs at (pos 0) (omega arith)) (ap (λ (t : List ℤ). xs ! at ∷ t) (take-each n (at + 1) xs (omega arith)))

-- a list of n, written out
pub spelt : (n : ℕ) (xs : List ℤ) → length xs ≡ n → xs ≡ tabulate 0 n (λ j. xs ! j)
spelt n xs h = sym (take_all n xs (omega arith)) ∙ take-each n 0 xs (omega arith)

-- ---- what an iterator over pieces of two or three hands out

module _ {left : List ℤ} (xs rest : List ℤ) {n : ℕ} (e : left ≡ xs ++ rest) (l : length xs ≡ n) where
  pub pair-first : n ≡ 2 → pairs left ≡ (xs ! 0, xs ! 1) ∷ pairs rest
  unfolding pairs tabulate
  pair-first h = rw (e, spelt 2 xs (l ∙ h)) refl

  pub three-first : n ≡ 3 → left ≡ xs ! 0 ∷ xs ! 1 ∷ xs ! 2 ∷ rest
  unfolding tabulate
  three-first h = e ∙ ap (λ (t : List ℤ). t ++ rest) (spelt 3 xs (l ∙ h))

-- fewer are left
pub pairs-short : (left : List ℤ) {n : ℕ} → length left < n → n ≡ 2 → pairs left ≡ []
unfolding pairs
pairs-short [] h e = refl
pairs-short (x ∷ []) h e = refl
pairs-short (x ∷ y ∷ xs) h e = absurd (omega arith)

pub threes-none : (left : List ℤ) {n : ℕ} → length left < n → n ≡ 3 → length left % 3 ≡ 0 → left ≡ []
threes-none [] h e w = refl
threes-none (x ∷ xs) h e w = absurd (omega arith)

-- ---- tables

module _ {A : Type 0} where
  pub tabulate-length : (i n : ℕ) (f : ℕ → A) → length (tabulate i n f) ≡ n
  unfolding tabulate
  tabulate-length i zero f = refl
  tabulate-length i (suc n) f = ap suc (tabulate-length (i + 1) n f)

  -- of functions that agree where they are asked
  pub tabulate-same : (i n : ℕ) (f g : ℕ → A) → ((j : ℕ) → j < i + n → f j ≡ g j) → tabulate i n f ≡ tabulate i n g
  unfolding tabulate
  tabulate-same i zero f g h = refl
  tabulate-same i (suc n) f g h = λ t. h i (omega arith) t ∷ tabulate-same (i + 1) n f g (λ j l. h j (omega arith)) t

  tabulate-from : (i n j : ℕ) (f : ℕ → A) (d : A) → j < n → get_or (tabulate i n f) j d ≡ f (i + j)
  unfolding tabulate
  tabulate-from i zero j f d h = absurd (not-suc-le-zero h)
  tabulate-from i (suc n) zero f d h = rw add-zero
  tabulate-from i (suc n) (suc j) f d h =
      let e : i + 1 + j ≡ i + suc j = omega arith in
      tabulate-from (i + 1) n j f d (omega arith) ∙ ap f e

  pub tabulate-at : (n k : ℕ) (f : ℕ → A) (d : A) → k < n → get_or (tabulate 0 n f) k d ≡ f k
  tabulate-at n k f d h = let e : 0 + k ≡ k = omega arith in tabulate-from 0 n k f d h ∙ ap f e

  -- one entry, and the others: the turn k of a loop
  pub tabulate-next : (n k : ℕ) (f : ℕ → A) → k < n → tabulate k (n - k) f ≡ f k ∷ tabulate (k + 1) (n - (k + 1)) f
  unfolding tabulate
  tabulate-next n k f h = let e : n - k ≡ suc (n - (k + 1)) = omega arith in rw e refl

  pub tabulate-none : (n k : ℕ) (f : ℕ → A) → n ≤ k → tabulate k (n - k) f ≡ []
  unfolding tabulate
  tabulate-none n k f h = let e : n - k ≡ 0 = omega arith in rw e refl

pub tabulate-map : {A B : Type 0} (k : A → B) (i n : ℕ) (f : ℕ → A) → map k (tabulate i n f) ≡ tabulate i n (λ j. k (f j))
unfolding tabulate
tabulate-map k i zero f = refl
tabulate-map k i (suc n) f = ap (λ t. k (f i) ∷ t) (tabulate-map k (i + 1) n f)

-- ---- padding

pub drop-same : {A : Type 0} (n m : ℕ) (x : A) → drop n (replicate m x) ≡ replicate (m - n) x
drop-same zero m x = let e : m - 0 ≡ m = omega arith in rw e refl
drop-same (suc n) zero x = let e : 0 - suc n ≡ 0 = omega arith in rw e refl
drop-same (suc n) (suc m) x = let e : suc m - suc n ≡ m - n = omega arith in drop-same n m x ∙ rw e refl

-- words that are put in front of m zeros
pub over_zeros : (m : ℕ) (xs : List ℤ) → xs ++ drop (length xs) (replicate m (pos 0)) ≡ padded m xs
over_zeros m xs = rw (drop-same (length xs) m (pos 0)) refl

pub padded-length : (m : ℕ) (xs : List ℤ) → length xs ≤ m → length (padded m xs) ≡ m
padded-length m xs h = length-append xs _ ∙ ap (λ (k : ℕ). length xs + k) (length-replicate (m - length xs) (pos 0)) ∙ omega arith

-- and taken from there again
pub take-padded : (m : ℕ) (xs : List ℤ) (k : ℕ) → length xs ≡ k → take k (padded m xs) ≡ xs
take-padded m xs k e = take_at xs _ k e

-- ---- what a buffer hands on

-- the part from n on of a buffer whose front is `both` are the last k of it
pub last-part : {A : Type 0} (k n : ℕ) (both buf : List A) → length both ≡ k + n → take (k + n) buf ≡ both
    → take (k + n - n) (drop n buf) ≡ last k both
last-part k n both buf l e =
    let d : k + n - n ≡ k = omega arith in
    let m : length both - k ≡ n = omega arith in
    let s : k + n ≡ n + k = omega arith in
    let size : length (take n buf) ≡ n = length-take-le n buf (omega (arith, ap length e, length-take (k + n) buf)) in
    rw (d, m) (sym (drop_at (take n buf) (take k (drop n buf)) n size) ∙ ap (drop n) (sym (take-add n k buf) ∙ rw s at e))

-- ---- pieces

module _ {A : Type 0} where
  pieces-fuel : (k m n : ℕ) (xs : List A) → 0 < n → length xs ≤ k → length xs ≤ m → pieces k n xs ≡ pieces m n xs
  unfolding pieces
  pieces-fuel zero zero n xs p h l = refl
  pieces-fuel zero (suc m) n [] p h l = refl
  pieces-fuel zero (suc m) n (x ∷ xs) p h l = absurd (not-suc-le-zero h)
  pieces-fuel (suc k) zero n [] p h l = refl
  pieces-fuel (suc k) zero n (x ∷ xs) p h l = absurd (not-suc-le-zero l)
  pieces-fuel (suc k) (suc m) n [] p h l = refl
  pieces-fuel (suc k) (suc m) n (x ∷ xs) p h l =
      let d = length-drop n (x ∷ xs) in
      ap (λ (t : List (List A)). take n (x ∷ xs) ∷ t) (pieces-fuel k m n (drop n (x ∷ xs)) p (omega arith) (omega arith))

  pub cut-nil : (n : ℕ) → cut {A = A} n [] ≡ []
  unfolding cut pieces
  cut-nil n = refl

  -- one piece, and the pieces of what is left
  pub cut-next : (n : ℕ) (xs : List A) → 0 < n → 0 < length xs → cut n xs ≡ take n xs ∷ cut n (drop n xs)
  unfolding cut pieces
  cut-next n [] p h = absurd (not-suc-le-zero h)
  cut-next n (x ∷ xs) p h =
      let d = length-drop n (x ∷ xs) in
      ap (λ (t : List (List A)). take n (x ∷ xs) ∷ t) (pieces-fuel (length xs) (length (drop n (x ∷ xs))) n (drop n (x ∷ xs)) p (omega arith) (omega arith))

  -- piece k of whole pieces, and how many there are
  pub cut_at : (n k : ℕ) (xs : List A) → 0 < n → n * k + n ≤ length xs → get_or (cut n xs) k [] ≡ take n (drop (n * k) xs)
  cut_at n zero xs p h = let e : n * 0 ≡ 0 = omega arith in rw (cut-next n xs p (omega arith), e) refl
  cut_at n (suc k) xs p h =
      let m : n * suc k ≡ n + n * k = mul-suc n k ∙ omega arith in
      rw (cut-next n xs p (omega arith)) (cut_at n k (drop n xs) p (omega (arith, length-drop n xs)) ∙ rw (drop-drop (n * k) n xs, m) refl)

  pub cut-count : (n k : ℕ) (xs : List A) → 0 < n → length xs ≡ n * k → length (cut n xs) ≡ k
  cut-count n zero [] p h = rw (cut-nil n) refl
  cut-count n zero (x ∷ xs) p h = absurd (omega arith)
  cut-count n (suc k) xs p h =
      let m : n * suc k ≡ n + n * k = mul-suc n k ∙ omega arith in
      rw (cut-next n xs p (omega arith)) (ap suc (cut-count n k (drop n xs) p (length-drop n xs ∙ omega arith)))

-- ---- pairs

-- an entry with the one behind it: the turn k of a loop
pub pairs-length : {A : Type 0} (xs : List A) → length (pairs xs) ≡ length xs / 2
unfolding pairs
pairs-length [] = refl
pairs-length (x ∷ []) = refl
pairs-length (x ∷ y ∷ xs) = ap suc (pairs-length xs) ∙ omega arith

twice : (m : ℕ) → 2 * suc m ≡ suc (suc (2 * m))
twice m = omega arith

-- an even number of entries are whole pairs
pub pairs-split : {A : Type 0} (m : ℕ) (xs : List A) → pairs xs ≡ pairs (take (2 * m) xs) ++ pairs (drop (2 * m) xs)
unfolding pairs
pairs-split zero xs = refl
pairs-split (suc m) [] = rw (twice m) refl
pairs-split (suc m) (x ∷ []) = rw (twice m) refl
pairs-split (suc m) (x ∷ y ∷ xs) = rw (twice m) (ap (λ (t : List _). (x, y) ∷ t) (pairs-split m xs))
