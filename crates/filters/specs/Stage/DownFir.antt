-- The down filters (down_fir.rs): AR2's output behind the carried words, as many as the order, read by that many taps.
-- Assumes nothing.
use Rattle.std.specs.Prelude.{if◌then◌else◌, ◌≡◌, ℕ, ◌+◌, ◌*◌, ◌-◌, ◌/◌, ◌%◌, ◌<◌, ◌≤◌, List, [], ◌++◌, ltb, ℤ, pos, ◌+ℤ◌, length, drop, get_or}
use Rattle.filters.specs.Lists.{tabulate, cut, carried_on, ◌!◌}
use Rattle.fixed.specs.Fixed.{wrapped, times, narrowed}
use Rattle.filters.specs.Rom as Rom
use Rattle.filters.specs.Reader.{read, mirrored, outputs, sum, Small}
use Rattle.filters.specs.Run.{pass_out, pass_end}
use Rattle.filters.specs.declared.rates.Rates.{Rates}
use Rattle.filters.specs.Stage.Ar2.{ar2, ar2_end}

-- a filter: its order and its table
pub record Filter : Type 0 where
  pub order : ℕ
  pub coefs : List ℤ

abbrev pub filter_of : ℕ → List ℤ → Filter
filter_of order coefs = record { order = order; coefs = coefs }

abbrev pub down_3_4 : Filter
down_3_4 = filter_of 18 Rom.silk_Resampler_3_4_COEFS

abbrev pub down_2_3 : Filter
down_2_3 = filter_of 18 Rom.silk_Resampler_2_3_COEFS

abbrev pub down_1_2 : Filter
down_1_2 = filter_of 24 Rom.silk_Resampler_1_2_COEFS

abbrev pub down_1_3 : Filter
down_1_3 = filter_of 36 Rom.silk_Resampler_1_3_COEFS

abbrev pub down_1_4 : Filter
down_1_4 = filter_of 36 Rom.silk_Resampler_1_4_COEFS

abbrev pub down_1_6 : Filter
down_1_6 = filter_of 36 Rom.silk_Resampler_1_6_COEFS

-- the table's rows of taps, half the order to a row
unfoldable pub rows : Filter → List (List ℤ)
rows f = cut (f.order / 2) (drop 2 f.coefs)

-- what a table must be for an order: two constants, then one to three rows of half the order, for orders above 18 in threes;
-- every coefficient small
pub record Fitting (order rows : ℕ) (coefs : List ℤ) : Type 0 where
  pub least : 18 ≤ order
  pub most : order ≤ 36
  pub threes : 18 < order → order / 2 % 3 ≡ 0
  pub entries : length coefs ≡ 2 + order / 2 * rows
  pub some : 0 < rows
  pub few : rows ≤ 3
  pub small : Small coefs

-- order 18: a row forward and its mirror backward, each product rounded down by itself
unfoldable pub apart : Filter → ℕ → List ℤ → ℤ
apart f fraction buf = sum times (pos 0) (mirrored (rows f) fraction) buf

-- orders 24 and 36: the outermost two samples added, then the next two, one product for each pair
unfoldable pub outer_sums : ℕ → List ℤ → List ℤ
outer_sums order buf = tabulate 0 (order / 2) (λ i. wrapped (buf ! i +ℤ buf ! (order - 1 - i)))

unfoldable pub in_pairs : Filter → List ℤ → ℤ
in_pairs f buf = sum times (pos 0) (get_or (rows f) 0 []) (outer_sums f.order buf)

-- before narrowing; the orders above 18 are those in pairs
unfoldable pub filtered : Filter → ℕ → List ℤ → ℤ
filtered f fraction buf = if ltb 18 f.order then in_pairs f buf else apart f fraction buf

unfoldable pub fir : Filter → ℕ → List ℤ → ℤ
fir f fraction buf = narrowed 6 (filtered f fraction buf)

-- n outputs of a batch xs, from the AR2 words a and the carried words
unfoldable pub down_fir : Filter → ℕ → ℕ → List ℤ → List ℤ → List ℤ → List ℤ
down_fir f increment n a carried xs = read (fir f) increment n (carried ++ ar2 f.coefs a xs)

unfoldable pub down_fir_carried : Filter → List ℤ → List ℤ → List ℤ → List ℤ
down_fir_carried f a carried xs = carried_on f.order carried (ar2 f.coefs a xs)

-- a batch, and a pass over batches of at most 10 ms; the state is the AR2 words and the carried words
unfoldable pub down_batch : Filter → Rates → List ℤ × List ℤ → List ℤ → List ℤ
down_batch f r s xs = down_fir f r.increment (outputs r (length xs)) s.0 s.1 xs

unfoldable pub down_next : Filter → List ℤ × List ℤ → List ℤ → List ℤ × List ℤ
down_next f s xs = (ar2_end f.coefs s.0 xs, down_fir_carried f s.0 s.1 xs)

unfoldable pub down_pass : Filter → Rates → List ℤ × List ℤ → List ℤ → List ℤ
down_pass f r = pass_out (down_batch f r) (down_next f) (10 * r.inKhz)

unfoldable pub down_end : Filter → Rates → List ℤ × List ℤ → List ℤ → List ℤ × List ℤ
down_end f r = pass_end (down_next f) (10 * r.inKhz)
