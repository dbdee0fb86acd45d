-- The exact filter as whole numbers over powers. A row of sections on fractions is a row on whole numbers, whatever its
-- coefficients; and passes over a list are a step of that row, then passes over the rest. Assumes nothing.
use mathlib.Core.Path.{◌≡◌, refl, sym, ap}
use mathlib.Core.List.{List, [], ◌∷◌, ◌++◌, map}
use Prim.Native.Nat.{ℕ, suc, ◌*◌, ◌<◌}
use native.Mathlib.Omega.{arith}
use lib.IntN.{ℤ, pos, ◌*ℤ◌}
use lib.ListN.{length, replicate}
use lib.Seq.{take_at, drop_at}
use Rattle.fixed.proofs.Laws.Ring.{#, lit, ◌⊗◌, eq_z}
use Rattle.filters.specs.Run.{run}
use Rattle.filters.specs.Rom.{silk_resampler_up2_hq_0, silk_resampler_up2_hq_1}
use Rattle.filters.specs.Section.{scaled}
use Rattle.distance.specs.Exact.{Fraction, fraction, whole, through_out, through_next, exact_out, exact_next, exact_both, exact_words}
use Rattle.distance.specs.Powers.{lifted, out_number, next_number, numbers, passes, powers, Same}
use Rattle.distance.specs.Distance.{Matched}
use Rattle.distance.proofs.Laws.Fractions.{is-out, is-next, out-under, next_under}

-- ---- a section

module _ (a : ℤ) (f g : Fraction) (w u : ℤ) (D : ℕ) (p : Same f (fraction w D)) (q : Same g (fraction u D)) where
  same_out : Same (exact_out a f g) (fraction (out_number a w u) (65536 * D))
  same_out = (out-under a f g p.0 q.0, omega (arith, p.1), is-out a f g w u D p.2 q.2)

  same_next : Same (exact_next a f g) (fraction (next_number a w u) (65536 * D))
  same_next = (next_under a f g p.0 q.0, omega (arith, p.1), is-next a f g w u D p.2 q.2)

-- ---- a row of them

-- each word is its number over the power of its place, the first over D
abbrev Row : ℕ → List ℤ → List Fraction → List ℤ → Type 0
Row D [] fs ws = Unit {0}
Row D (a ∷ cs) [] ws = ⊥
Row D (a ∷ cs) (f ∷ fs) [] = ⊥
Row D (a ∷ cs) (f ∷ fs) (w ∷ ws) = Same f (fraction w D) × Row (65536 * D) cs fs ws

-- the power at the end of the row
abbrev pub power_after : ℕ → List ℤ → ℕ
power_after D [] = D
power_after D (a ∷ cs) = power_after (65536 * D) cs

power-more : (cs : List ℤ) (D : ℕ) → power_after (65536 * D) cs ≡ 65536 * power_after D cs
power-more [] D = refl
power-more (a ∷ cs) D = power-more cs (65536 * D)

step : (cs : List ℤ) (D : ℕ) (g : Fraction) (u : ℤ) → Same g (fraction u D) → (fs : List Fraction) (ws : List ℤ) → Row D cs fs ws
    → Same (through_out exact_out exact_next cs fs g) (fraction (through_out out_number next_number cs ws u) (power_after D cs))
    × Row (65536 * D) cs (through_next exact_out exact_next cs fs g) (through_next out_number next_number cs ws u)
unfolding through_out through_next
step [] D g u q fs ws h = (q, tt)
step (a ∷ cs) D g u q [] ws h = absurd h
step (a ∷ cs) D g u q (f ∷ fs) [] h = absurd h
step (a ∷ cs) D g u q (f ∷ fs) (w ∷ ws) (p, h) =
    let (o, n) = step cs (65536 * D) (exact_out a f g) (out_number a w u) (same_out a f g w u D p q) fs ws h in
    (o, (same_next a f g w u D p q, n))

-- ---- passes over a list, from any words

unfoldable passes_from : List ℤ → List ℤ → List ℤ → List ℤ
passes_from [] ws us = us
passes_from (a ∷ cs) [] us = us
passes_from (a ∷ cs) (w ∷ ws) us = passes_from cs ws (numbers a w us)

from_zero : (cs us : List ℤ) → passes_from cs (replicate (length cs) (pos 0)) us ≡ passes cs us
unfolding passes_from passes
from_zero [] us = refl
from_zero (a ∷ cs) us = from_zero cs (numbers a (pos 0) us)

from_nothing : (cs ws : List ℤ) → passes_from cs ws [] ≡ []
unfolding passes_from numbers run
from_nothing [] ws = refl
from_nothing (a ∷ cs) [] = refl
from_nothing (a ∷ cs) (w ∷ ws) = from_nothing cs ws

from_step : (cs ws : List ℤ) (u : ℤ) (us : List ℤ)
    → passes_from cs ws (u ∷ us) ≡ through_out out_number next_number cs ws u ∷ passes_from cs (through_next out_number next_number cs ws u) us
unfolding passes_from numbers run through_out through_next
from_step [] ws u us = refl
from_step (a ∷ cs) [] u us = refl
from_step (a ∷ cs) (w ∷ ws) u us = from_step cs ws (out_number a w u) (numbers a (next_number a w u) us)

-- ---- a row over the samples

module _ (cs : List ℤ) where
  abbrev pub exact_row : List Fraction → ℤ → Fraction
  exact_row fs x = through_out exact_out exact_next cs fs (whole (scaled x))

  abbrev pub row_words : List Fraction → ℤ → List Fraction
  row_words fs x = through_next exact_out exact_next cs fs (whole (scaled x))

  row : (D : ℕ) → 0 < D → (fs : List Fraction) (ws : List ℤ) → Row D cs fs ws → (xs : List ℤ)
      → Matched Same (run exact_row row_words fs xs) (powers (power_after D cs) (passes_from cs ws (lifted D xs)))
  unfolding run lifted
  row D s fs ws h [] = rw (from_nothing cs ws) tt
  row D s fs ws h (x ∷ xs) =
      let u = scaled x *ℤ pos D in
      let q : Same (whole (scaled x)) (fraction u D) = (omega arith, s, eq_z (# (scaled x) ⊗ lit D) (# (scaled x) ⊗ lit D ⊗ lit 1) (omega arith)) in
      let (o, n) = step cs D (whole (scaled x)) u q fs ws h in
      let more = row (65536 * D) (omega (arith, s)) (row_words fs x) (through_next out_number next_number cs ws u) n xs in
      rw (from_step cs ws u (lifted (65536 * D) xs)) (o, rw (power-more cs D) at more)

zeros : (cs : List ℤ) (D : ℕ) → 0 < D → Row D cs (replicate (length cs) (whole (pos 0))) (replicate (length cs) (pos 0))
zeros [] D s = tt
zeros (a ∷ cs) D s = ((omega arith, s, eq_z (lit 0 ⊗ lit D) (lit 0 ⊗ lit 1) (omega arith)), zeros cs (65536 * D) (omega (arith, s)))

pub row_reads : (cs xs : List ℤ)
    → Matched Same (run (exact_row cs) (row_words cs) (replicate (length cs) (whole (pos 0))) xs) (powers (power_after 1 cs) (passes cs (lifted 1 xs)))
row_reads cs xs = rw (sym (from_zero cs (lifted 1 xs))) (row cs 1 (omega arith) _ _ (zeros cs 1 (omega arith)) xs)

-- ---- the exact filter is two rows, side by side

words-length : (cs : List ℤ) (fs : List Fraction) (g : Fraction) → length fs ≡ length cs → length (through_next exact_out exact_next cs fs g) ≡ length cs
unfolding through_next
words-length [] fs g l = refl
words-length (a ∷ cs) [] g l = l
words-length (a ∷ cs) (f ∷ fs) g l = ap suc (words-length cs fs (exact_out a f g) (omega (arith, l)))

abbrev even : List ℤ
even = silk_resampler_up2_hq_0

abbrev odd : List ℤ
odd = silk_resampler_up2_hq_1

pub rows_apart : (fs gs : List Fraction) → length fs ≡ 3 → (xs : List ℤ)
    → (map (λ f. f.0) (run exact_both exact_words (fs ++ gs) xs) ≡ run (exact_row even) (row_words even) fs xs)
    × (map (λ f. f.1) (run exact_both exact_words (fs ++ gs) xs) ≡ run (exact_row odd) (row_words odd) gs xs)
unfolding run exact_both exact_words silk_resampler_up2_hq_0
rows_apart fs gs l [] = (refl, refl)
rows_apart fs gs l (x ∷ xs) =
    let t = take_at fs gs 3 l in
    let d = drop_at fs gs 3 l in
    let (p, q) = rows_apart (row_words even fs x) (row_words odd gs x) (words-length even fs (whole (scaled x)) l) xs in
    rw (t, d) (λ i. exact_row even fs x ∷ p i, λ i. exact_row odd gs x ∷ q i)
