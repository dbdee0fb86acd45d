-- The 2/3 decimator (down2_3.rs): AR2's output behind four carried samples, and two outputs for each group of three inputs.
-- Its six words are the four carried samples, then the two of AR2. Checked against the marked cases. Assumes nothing.
use Rattle.std.specs.Prelude.{ℕ, ◌+◌, ◌*◌, ◌/◌, List, [], ◌∷◌, ◌++◌, ℤ, pos, length, take, drop}
use Rattle.filters.specs.Lists.{tabulate, joined, carried_on}
use Rattle.fixed.specs.Fixed.{times, narrowed}
use Rattle.filters.specs.Rom.{+◌, silk_Resampler_2_3_COEFS_LQ}
use Rattle.filters.specs.Reader.{sum}
use Rattle.filters.specs.Stage.Ar2.{ar2, ar2_end}

-- the taps of a group's first output and of its second
abbrev pub first_taps : List ℤ
first_taps = + 4697 ∷ + 10739 ∷ + 8276 ∷ + 1567 ∷ []

abbrev pub second_taps : List ℤ
second_taps = + 1567 ∷ + 8276 ∷ + 10739 ∷ + 4697 ∷ []

-- four products, each rounded down by itself, before narrowing
unfoldable pub tapped : List ℤ → List ℤ → ℤ
tapped taps buf = sum times (pos 0) taps buf

-- group k starts at sample 3 k of the buffer; the second output reads from one sample later
unfoldable pub group_out : List ℤ → ℕ → List ℤ
group_out buf k = narrowed 6 (tapped first_taps (drop (3 * k) buf)) ∷ narrowed 6 (tapped second_taps (drop (3 * k + 1) buf)) ∷ []

-- what AR2 makes of the input, from words 4 and 5
abbrev pub filtered23 : List ℤ → List ℤ → List ℤ
filtered23 w xs = ar2 silk_Resampler_2_3_COEFS_LQ (drop 4 w) xs

unfoldable pub down23 : List ℤ → List ℤ → List ℤ
down23 w xs = joined (tabulate 0 (length xs / 3) (group_out (take 4 w ++ filtered23 w xs)))

-- the last four of the carried samples followed by the new ones, then the words of AR2
unfoldable pub down23_end : List ℤ → List ℤ → List ℤ
down23_end w xs = carried_on 4 (take 4 w) (filtered23 w xs) ++ ar2_end silk_Resampler_2_3_COEFS_LQ (drop 4 w) xs
