-- Reading a buffer at fractional positions, and the sums of products that are read there.
-- Shared by the interpolator, the down filters and, for the sums, the 2/3 decimator. Assumes nothing.
use Rattle.std.specs.Prelude.{◌≡◌, true, ℕ, ◌+◌, ◌-◌, ◌*◌, ◌/◌, ◌%◌, ◌<◌, ◌≤◌, List, [], ◌∷◌, ◌++◌, reverse, Bool, ltb, ℤ, nat_abs, ◌+ℤ◌, length, drop, get_or}
use Rattle.filters.specs.declared.rates.Rates.{Rates}
use Rattle.filters.specs.Lists.{tabulate, every}
use Rattle.fixed.specs.Fixed.{wrapped}

-- n outputs: output j stands j increments from the start, in 65536ths of a sample,
-- and is f of the fraction there and of the samples from the whole position on
unfoldable pub read : {A B : Type 0} → (ℕ → List A → B) → ℕ → ℕ → List A → List B
read f increment n buf = tabulate 0 n (λ j. f (j * increment % 65536) (drop (j * increment / 65536) buf))

-- n samples of input are n / in-kHz milliseconds, and each makes out-kHz outputs
abbrev pub outputs : Rates → ℕ → ℕ
outputs r n = n / r.inKhz * r.outKhz

-- what a reader asks of its rates, where a millisecond puts num samples into the buffer: the outputs of up to ten of them
-- begin before the samples end
pub record Steady (num : ℕ) (r : Rates) : Type 0 where
  pub some : 0 < r.inKhz
  pub few : r.inKhz ≤ 48
  pub few_out : r.outKhz ≤ 48
  pub moves : 0 < r.increment
  pub small : r.increment < 16777216
  pub reach : 10 * (r.outKhz * r.increment) < 10 * (num * 65536) + r.increment

-- the row of a fraction
abbrev pub row_at : {A : Type 0} → List A → ℕ → ℕ
row_at rows fraction = fraction * length rows / 65536

-- the taps of a fraction: its row forward, then the row as far from the end backward, so that the last sample meets its tap 0
unfoldable pub mirrored : List (List ℤ) → ℕ → List ℤ
mirrored rows fraction =
    let k = row_at rows fraction in
    get_or rows k [] ++ reverse (get_or rows (length rows - 1 - k) [])

-- s and then, for each coefficient, its product with its sample, added up in an i32
module _ {C Y : Type 0} (product : C → Y → ℤ) where
  unfoldable pub sum : ℤ → List C → List Y → ℤ
  sum s [] ys = s
  sum s (c ∷ cs) [] = s
  sum s (c ∷ cs) (y ∷ ys) = sum (wrapped (s +ℤ product c y)) cs ys

-- a coefficient whose products fit a word: below 65536 in size; and a table of them
abbrev pub small? : ℤ → Bool
small? c = ltb (nat_abs c) 65536

abbrev pub Small : List ℤ → Type 0
Small cs = every small? cs ≡ true
