-- What is claimed of the doubler, a sentence and a statement each. A word or an output is in units of a 1024th of a sample step.
-- The proofs stand in proofs/Claims.antt.
use Rattle.std.specs.Prelude.{◌≡◌, true, ℕ, ◌*◌, ◌^◌, ◌≤◌, List, [], ◌∷◌, ◌++◌, map, ℤ, pos, nat_abs, ◌+ℤ◌, ◌-ℤ◌, length, take, drop, replicate}
use Rattle.fixed.specs.Fixed.{times}
use Rattle.filters.specs.Lists.{every, joined, ◌!◌}
use Rattle.filters.specs.Run.{run}
use Rattle.filters.specs.Rom.{silk_resampler_up2_hq_0, silk_resampler_up2_hq_1}
use Rattle.filters.specs.Section.{scaled}
use Rattle.filters.specs.Stage.Up2Hq.{up2_raw, up2_out, up2_next, up2, up2_end}
use Rattle.resampler.specs.Pairs.{Pair, supported, path, doubler, delay}
use Rattle.resampler.specs.Record.{fresh as opened}
use Rattle.resampler.specs.Resample.{converted, after}
use Rattle.distance.specs.Exact.{Fraction, through_out, through_next, exact}
use Rattle.distance.specs.Powers.{Same, lifted, passes, powers}
use Rattle.distance.specs.Distance.{Within, held, Matched, sample?}

abbrev pub fresh : List ℤ
fresh = replicate 6 (pos 0)

-- ---- the exact filter, read without fractions

-- the outputs that are picked have, entry by entry, the value of what passes with the coefficients cs make: the k-th is a whole
-- number over 65536^(k+3)
abbrev pub Reads : (Fraction × Fraction → Fraction) → List ℤ → List ℤ → Type 0
Reads pick cs xs = Matched Same (map pick (exact xs)) (powers (65536 ^ 3) (passes cs (lifted 1 xs)))

-- the even outputs and the odd, for any whole numbers as samples
unfoldable pub ExactReads : Type 0
ExactReads = (xs : List ℤ) → Reads (λ f. f.0) silk_resampler_up2_hq_0 xs × Reads (λ f. f.1) silk_resampler_up2_hq_1 xs

-- ---- before rounding

-- the even output of each sample lies less than 13/1024 of a step from the exact one, the odd one less than 18/1024
abbrev pub Close : List ℤ → Fraction × Fraction → Type 0
Close y f = Within 13 (y ! 0) f.0 × Within 18 (y ! 1) f.1

unfoldable pub DoublerNear : Type 0
DoublerNear = (xs : List ℤ) → every sample? xs ≡ true → Matched Close (run up2_raw up2_next fresh xs) (exact xs)

-- ---- after rounding and clipping

-- an output that is written, a sample, lies less than 525/1024 and 530/1024 of a step from the exact value, held to a sample
abbrev pub CloseRounded : List ℤ → Fraction × Fraction → Type 0
CloseRounded y f = Within 525 (scaled (y ! 0)) (held f.0) × Within 530 (scaled (y ! 1)) (held f.1)

unfoldable pub DoublerRounds : Type 0
DoublerRounds = (xs : List ℤ) → every sample? xs ≡ true → Matched CloseRounded (run up2_out up2_next fresh xs) (exact xs)

-- ---- no sum wraps

-- the sections without wrapping
abbrev pub plain_out : ℤ → ℤ → ℤ → ℤ
plain_out a s x = s +ℤ times a (x -ℤ s)

abbrev pub plain_next : ℤ → ℤ → ℤ → ℤ
plain_next a s x = x +ℤ times a (x -ℤ s)

unfoldable pub plain_raw : List ℤ → ℤ → List ℤ
plain_raw w x =
    through_out plain_out plain_next silk_resampler_up2_hq_0 (take 3 w) (scaled x)
    ∷ through_out plain_out plain_next silk_resampler_up2_hq_1 (drop 3 w) (scaled x)
    ∷ []

unfoldable pub plain_words : List ℤ → ℤ → List ℤ
plain_words w x =
    through_next plain_out plain_next silk_resampler_up2_hq_0 (take 3 w) (scaled x)
    ++ through_next plain_out plain_next silk_resampler_up2_hq_1 (drop 3 w) (scaled x)

-- how large the six words get, in units of 2^20
abbrev pub bounds : List ℕ
bounds = map (λ n. 1048576 * n) (34 ∷ 55 ∷ 203 ∷ 40 ∷ 93 ∷ 890 ∷ [])

unfoldable pub NothingWraps : Type 0
NothingWraps = (xs : List ℤ) → every sample? xs ≡ true
    → (run up2_raw up2_next fresh xs ≡ run plain_raw plain_words fresh xs)
    × Matched (λ s n. nat_abs s ≤ n) (up2_end fresh xs) bounds

-- ---- one call or many

-- calls in a row, each from the words that the last one left, put out what one call of all their samples does
unfoldable pub CallsAreOne : Type 0
CallsAreOne = (calls : List (List ℤ)) → joined (run up2 up2_end fresh calls) ≡ up2 fresh (joined calls)

-- ---- the lines that double

-- opened at a pair of twice the rate, call after call: what a line puts out is the doubler's, of the input behind the delay
unfoldable pub LinesDouble : Type 0
LinesDouble = (p : Pair) → supported p ≡ true → path p ≡ doubler → (calls : List (List ℤ)) → let all = joined calls in
    joined (run converted after (opened p) calls) ≡ up2 fresh (take (length all) (replicate (delay p) (pos 0) ++ all))
