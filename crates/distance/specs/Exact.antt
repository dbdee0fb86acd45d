-- The exact doubler: its sections on fractions, with the same coefficients and nothing rounded inside. Assumes nothing.
use Rattle.std.specs.Prelude.{ℕ, ◌*◌, List, [], ◌∷◌, ◌++◌, ℤ, pos, ◌+ℤ◌, ◌-ℤ◌, ◌*ℤ◌, take, drop, replicate}
use Rattle.filters.specs.Run.{run}
use Rattle.filters.specs.Rom.{silk_resampler_up2_hq_0, silk_resampler_up2_hq_1}
use Rattle.filters.specs.Section.{scaled}

-- ---- fractions

-- a whole number over another, which is not 0 here
pub record Fraction : Type 0 where
  pub over : ℤ
  pub under : ℕ

abbrev pub fraction : ℤ → ℕ → Fraction
fraction n d = record { over = n; under = d }

abbrev pub whole : ℤ → Fraction
whole z = fraction z 1

-- sums and differences, over the product of what is under both
unfoldable pub plus : Fraction → Fraction → Fraction
plus f g = fraction (f.over *ℤ pos g.under +ℤ g.over *ℤ pos f.under) (f.under * g.under)

unfoldable pub minus : Fraction → Fraction → Fraction
minus f g = fraction (f.over *ℤ pos g.under -ℤ g.over *ℤ pos f.under) (f.under * g.under)

-- a 65536ths of one
unfoldable pub part : ℤ → Fraction → Fraction
part a f = fraction (a *ℤ f.over) (65536 * f.under)

-- ---- sections in a row, one for each coefficient and its word

module _ {A : Type 0} (out next : ℤ → A → A → A) where
  unfoldable pub through_out : List ℤ → List A → A → A
  through_out [] ss x = x
  through_out (a ∷ cs) [] x = x
  through_out (a ∷ cs) (s ∷ ss) x = through_out cs ss (out a s x)

  unfoldable pub through_next : List ℤ → List A → A → List A
  through_next [] ss x = []
  through_next (a ∷ cs) [] x = []
  through_next (a ∷ cs) (s ∷ ss) x = next a s x ∷ through_next cs ss (out a s x)

-- ---- the exact filter

-- X = a (x - s) / 65536 as it is; the output is s + X and the new word x + X
unfoldable pub exact_out : ℤ → Fraction → Fraction → Fraction
exact_out a s x = plus s (part a (minus x s))

unfoldable pub exact_next : ℤ → Fraction → Fraction → Fraction
exact_next a s x = plus x (part a (minus x s))

-- the even and the odd output of a sample, at the doubler's scale of 1024; words 0 to 2 are the even's, 3 to 5 the odd's
unfoldable pub exact_both : List Fraction → ℤ → Fraction × Fraction
exact_both w x = (
  through_out exact_out exact_next silk_resampler_up2_hq_0 (take 3 w) (whole (scaled x)),
  through_out exact_out exact_next silk_resampler_up2_hq_1 (drop 3 w) (whole (scaled x)),
)

unfoldable pub exact_words : List Fraction → ℤ → List Fraction
exact_words w x =
    through_next exact_out exact_next silk_resampler_up2_hq_0 (take 3 w) (whole (scaled x))
    ++ through_next exact_out exact_next silk_resampler_up2_hq_1 (drop 3 w) (whole (scaled x))

-- from a fresh record
unfoldable pub exact : List ℤ → List (Fraction × Fraction)
exact xs = run exact_both exact_words (replicate 6 (whole (pos 0))) xs
