-- Sums of products: of none, of one row behind another, of as many samples as there are coefficients. Assumes nothing.
use mathlib.Core.Path.{◌≡◌, refl, sym}
use mathlib.Core.List.{List, [], ◌∷◌, ◌++◌, reverse}
use Prim.Native.Nat.{ℕ, ◌+◌, ◌-◌, ◌/◌, ◌<◌, ◌≤◌}
use native.Mathlib.Nat.{not-suc-le-zero, le_of_suc-le-suc}
use native.Mathlib.Omega.{arith}
use lib.IntN.{ℤ, pos, ◌+ℤ◌}
use lib.ListN.{length, take, drop, get_or}
use Rattle.std.proofs.lemmas.List.{reverse-append, length-take-le, get_or-take}
use Rattle.fixed.specs.Fixed.{wrapped}
use Rattle.filters.specs.Reader.{sum}
use Rattle.filters.specs.Lists.{◌!◌}
use Rattle.filters.specs.Stage.DownFir.{outer_sums}
use Rattle.filters.proofs.Laws.Lists.{drop-next, tabulate-at, tabulate-same}

module _ {C Y : Type 0} (product : C → Y → ℤ) where
  -- no coefficients are left
  pub sum-none : (s : ℤ) (cs : List C) (ys : List Y) → length cs ≡ 0 → sum product s cs ys ≡ s
  unfolding sum
  sum-none s [] ys h = refl
  sum-none s (c ∷ cs) ys h = absurd (omega arith)

  -- the first coefficients, then the others over what follows
  pub sum-append : (s : ℤ) (cs ds : List C) (ys : List Y) → length cs ≤ length ys
      → sum product s (cs ++ ds) ys ≡ sum product (sum product s cs ys) ds (drop (length cs) ys)
  unfolding sum
  sum-append s [] ds ys h = refl
  sum-append s (c ∷ cs) ds [] h = absurd (not-suc-le-zero h)
  sum-append s (c ∷ cs) ds (y ∷ ys) h = sum-append (wrapped (s +ℤ product c y)) cs ds ys (le_of_suc-le-suc h)

  -- only as many samples are read as there are coefficients
  pub sum-front : (s : ℤ) (cs : List C) (ys : List Y) (n : ℕ) → length cs ≡ n → sum product s cs (take n ys) ≡ sum product s cs ys
  unfolding sum
  sum-front s [] ys n h = refl
  sum-front s (c ∷ cs) [] n h = rw (sym h) refl
  sum-front s (c ∷ cs) (y ∷ ys) n h = rw (sym h) (sum-front (wrapped (s +ℤ product c y)) cs ys (length cs) refl)

  -- a row forward and another behind it, from two parts of the samples
  pub sum-rows : (s : ℤ) (cs ds : List C) (ys : List Y) (n m : ℕ) → length cs ≡ n → length ds ≡ m → n ≤ length ys
      → sum product (sum product s cs (take n ys)) ds (take m (drop n ys)) ≡ sum product s (cs ++ ds) ys
  sum-rows s cs ds ys n m h k l =
      rw (sum-front s cs ys n h, sum-front (sum product s cs ys) ds (drop n ys) m k) (rw (← h) (sym (sum-append s cs ds ys (omega arith))))

  -- a product more, and what is left behind it
  pub sum-next : (s : ℤ) (cs : List C) (ys : List Y) (k : ℕ) (c : C) (y : Y) → k < length cs → k < length ys
      → sum product s (drop k cs) (drop k ys) ≡ sum product (wrapped (s +ℤ product (get_or cs k c) (get_or ys k y))) (drop (k + 1) cs) (drop (k + 1) ys)
  unfolding sum
  sum-next s cs ys k c y h l = rw (drop-next cs k c h, drop-next ys k y l) refl

  -- the same from the last coefficient on
  pub sum-back : (s : ℤ) (cs rest : List C) (ys more : List Y) (c : C) (y : Y) → cs ≡ rest ++ c ∷ [] → ys ≡ y ∷ more
      → sum product s (reverse cs) ys ≡ sum product (wrapped (s +ℤ product c y)) (reverse rest) more
  unfolding sum
  sum-back s cs rest ys more c y e d = rw (e, d, reverse-append) refl

-- the sum of a sample and its counterpart from the end
pub outer-at : (ys : List ℤ) (k : ℕ) → k < length ys / 2 → outer_sums (length ys) ys ! k ≡ wrapped (ys ! k +ℤ ys ! (length ys - 1 - k))
unfolding outer_sums
outer-at ys k h = tabulate-at (length ys / 2) k (λ i. wrapped (ys ! i +ℤ ys ! (length ys - 1 - i))) (pos 0) h

-- they are read from the first samples alone
pub outer-front : (n : ℕ) (ys : List ℤ) → n ≤ length ys → outer_sums (length (take n ys)) (take n ys) ≡ outer_sums n ys
unfolding outer_sums
outer-front n ys h =
    let at : (i : ℕ) → i < n → take n ys ! i ≡ ys ! i = λ i l. get_or-take n ys i (pos 0) l in
    rw (length-take-le n ys h) (tabulate-same 0 (n / 2) _ _ (λ i l. λ t. wrapped (at i (omega arith) t +ℤ at (n - 1 - i) (omega arith) t)))
