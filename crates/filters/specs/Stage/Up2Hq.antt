-- The doubler (up2_hq.rs): two outputs for each sample, the even one and the odd one, each by three sections in a row.
-- Words 0 to 2 are those of the even output, 3 to 5 those of the odd. Checked against the marked cases. Assumes nothing.
use Rattle.std.specs.Prelude.{List, [], ◌∷◌, ◌++◌, ℤ, take, drop}
use Rattle.filters.specs.Lists.{joined}
use Rattle.filters.specs.Run.{run, end}
use Rattle.fixed.specs.Fixed.{narrowed}
use Rattle.filters.specs.Rom.{silk_resampler_up2_hq_0, silk_resampler_up2_hq_1}
use Rattle.filters.specs.Section.{scaled, row_out, row_next}

-- before narrowing
unfoldable pub up2_even : List ℤ → ℤ → ℤ
up2_even w x = row_out silk_resampler_up2_hq_0 (take 3 w) (scaled x)

unfoldable pub up2_odd : List ℤ → ℤ → ℤ
up2_odd w x = row_out silk_resampler_up2_hq_1 (drop 3 w) (scaled x)

unfoldable pub up2_raw : List ℤ → ℤ → List ℤ
up2_raw w x = up2_even w x ∷ up2_odd w x ∷ []

unfoldable pub up2_out : List ℤ → ℤ → List ℤ
up2_out w x = narrowed 10 (up2_even w x) ∷ narrowed 10 (up2_odd w x) ∷ []

unfoldable pub up2_next : List ℤ → ℤ → List ℤ
up2_next w x = row_next silk_resampler_up2_hq_0 (take 3 w) (scaled x) ++ row_next silk_resampler_up2_hq_1 (drop 3 w) (scaled x)

unfoldable pub up2 : List ℤ → List ℤ → List ℤ
up2 w xs = joined (run up2_out up2_next w xs)

unfoldable pub up2_end : List ℤ → List ℤ → List ℤ
up2_end = end up2_next
