-- The split (ana_filt_bank_1.rs): a section on the even samples and one on the odd; their sum is the low band and their
-- difference the high one. Word 0 is the even section's, word 1 the odd's. Checked against the marked cases. Assumes nothing.
use Rattle.std.specs.Prelude.{List, ℤ, ◌+ℤ◌, ◌-ℤ◌}
use Rattle.filters.specs.Lists.{pairs}
use Rattle.filters.specs.Run.{run, end}
use Rattle.fixed.specs.Fixed.{wrapped, narrowed}
use Rattle.filters.specs.Rom.{A_fb1_20, A_fb1_21}
use Rattle.filters.specs.Section.{even_out, odd_out, halves_next}

-- odd plus even, odd minus even, before narrowing
unfoldable pub low_sum : List ℤ → ℤ × ℤ → ℤ
low_sum w x = wrapped (odd_out A_fb1_20 w x +ℤ even_out A_fb1_21 w x)

unfoldable pub high_sum : List ℤ → ℤ × ℤ → ℤ
high_sum w x = wrapped (odd_out A_fb1_20 w x -ℤ even_out A_fb1_21 w x)

unfoldable pub low_out : List ℤ → ℤ × ℤ → ℤ
low_out w x = narrowed 11 (low_sum w x)

unfoldable pub high_out : List ℤ → ℤ × ℤ → ℤ
high_out w x = narrowed 11 (high_sum w x)

unfoldable pub split_next : List ℤ → ℤ × ℤ → List ℤ
split_next = halves_next A_fb1_21 A_fb1_20

unfoldable pub split_low : List ℤ → List ℤ → List ℤ
split_low w xs = run low_out split_next w (pairs xs)

unfoldable pub split_high : List ℤ → List ℤ → List ℤ
split_high w xs = run high_out split_next w (pairs xs)

unfoldable pub split_end : List ℤ → List ℤ → List ℤ
split_end w xs = end split_next w (pairs xs)
