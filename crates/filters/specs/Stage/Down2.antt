-- The 1/2 decimator (down2.rs): a section on the even samples and one on the odd, their outputs added.
-- Word 0 is the even section's, word 1 the odd's. Checked against the marked cases. Assumes nothing.
use Rattle.std.specs.Prelude.{List, ℤ, ◌+ℤ◌}
use Rattle.filters.specs.Lists.{pairs}
use Rattle.filters.specs.Run.{run, end}
use Rattle.fixed.specs.Fixed.{wrapped, narrowed}
use Rattle.filters.specs.Rom.{silk_resampler_down2_0, silk_resampler_down2_1}
use Rattle.filters.specs.Section.{even_out, odd_out, halves_next}

-- before narrowing
unfoldable pub down2_sum : List ℤ → ℤ × ℤ → ℤ
down2_sum w x = wrapped (even_out silk_resampler_down2_1 w x +ℤ odd_out silk_resampler_down2_0 w x)

unfoldable pub down2_out : List ℤ → ℤ × ℤ → ℤ
down2_out w x = narrowed 11 (down2_sum w x)

unfoldable pub down2_next : List ℤ → ℤ × ℤ → List ℤ
down2_next = halves_next silk_resampler_down2_1 silk_resampler_down2_0

unfoldable pub down2 : List ℤ → List ℤ → List ℤ
down2 w xs = run down2_out down2_next w (pairs xs)

unfoldable pub down2_end : List ℤ → List ℤ → List ℤ
down2_end w xs = end down2_next w (pairs xs)
