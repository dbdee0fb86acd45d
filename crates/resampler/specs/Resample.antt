-- A call of the resampler: its signal, its two passes, and what a batch makes. Assumes nothing.
use Rattle.std.specs.Prelude.{◌≡◌, ℕ, ◌+◌, ◌*◌, ◌/◌, ◌%◌, ◌<◌, ◌≤◌, true, List, [], ◌++◌, ℤ, length, take, drop}
use Rattle.filters.specs.declared.rates.Rates.{Rates}
use Rattle.filters.specs.Run.{pass_out, pass_end}
use Rattle.filters.specs.Stage.Ar2.{ar2_end}
use Rattle.filters.specs.Stage.Up2Hq.{up2, up2_end}
use Rattle.filters.specs.Stage.IirFir.{iir_fir, iir_fir_carried}
use Rattle.filters.specs.Reader.{outputs}
use Rattle.filters.specs.Stage.DownFir.{down_fir, down_fir_carried}
use Rattle.stages.specs.Outcome.{Staged}
use Rattle.resampler.specs.declared.Record.{Record}
use Rattle.resampler.specs.Pairs.{Pair, Path, copy, doubler, interpolator, down, supported, path, increment}
use Rattle.resampler.specs.Record.{Words, arrays, pair_of, live, live_delay, keeping, record_of}

-- n samples of input are n / in-kHz milliseconds, and each makes out-kHz samples
unfoldable pub made : Pair → ℕ → ℕ
made p n = n / p.inKhz * p.outKhz

-- what a stage that reads is told of a pair
abbrev pub rates_of : Pair → Rates
rates_of p = record { inKhz = p.inKhz; outKhz = p.outKhz; increment = increment p }

-- ---- a batch xs

-- what it puts out on a path: n samples, read at the increment from position 0 on
unfoldable pub on_path : Path → ℕ → ℕ → Words → List ℤ → List ℤ
on_path copy increment n w xs = xs
on_path doubler increment n w xs = up2 w.doubler xs
on_path interpolator increment n w xs = iir_fir increment n w.doubler w.samples xs
on_path (down f) increment n w xs = down_fir f increment n w.ar2 w.fir xs

-- the words after it
unfoldable pub after_path : Path → Words → List ℤ → Words
after_path copy w xs = arrays [] [] [] []
after_path doubler w xs = arrays (up2_end w.doubler xs) [] [] []
after_path interpolator w xs = arrays (up2_end w.doubler xs) (iir_fir_carried w.doubler w.samples xs) [] []
after_path (down f) w xs = arrays [] [] (ar2_end f.coefs w.ar2 xs) (down_fir_carried f w.ar2 w.fir xs)

unfoldable pub batch_out : Pair → Words → List ℤ → List ℤ
batch_out p w xs = on_path (path p) (increment p) (made p (length xs)) w xs

unfoldable pub batch_next : Pair → Words → List ℤ → Words
batch_next p = after_path (path p)

-- ---- a pass, in batches of at most 10 ms

abbrev pub batch_size : Pair → ℕ
batch_size p = 10 * p.inKhz

unfoldable pub pass : Pair → Words → List ℤ → List ℤ
pass p = pass_out (batch_out p) (batch_next p) (batch_size p)

unfoldable pub pass_words : Pair → Words → List ℤ → Words
pass_words p = pass_end (batch_next p) (batch_size p)

-- ---- two passes, one behind the other

-- the second, over ys, starts from the words that the first leaves
abbrev pub twice : {S : Type 0} → (S → List ℤ → List ℤ) → (S → List ℤ → S) → S → List ℤ → List ℤ → List ℤ
twice out next s xs ys = out s xs ++ out (next s xs) ys

abbrev pub twice_end : {S : Type 0} → (S → List ℤ → S) → S → List ℤ → List ℤ → S
twice_end next s xs ys = next (next s xs) ys

-- what both passes of a call put out, from the record's live words
unfoldable pub both_out : Record → List ℤ → List ℤ → List ℤ
both_out s = twice (pass (pair_of s)) (pass_words (pair_of s)) (live s)

-- the record after both, its delay samples as they were
unfoldable pub moved : Record → List ℤ → List ℤ → Record
moved s xs ys = keeping (pair_of s) (twice_end (pass_words (pair_of s)) (live s) xs ys) s.delay

-- what both leave
abbrev pub Passed : Record → List ℤ → List ℤ → List ℤ → List ℤ → Record → Type 0
Passed s xs ys before after q = Staged (both_out s xs ys) (moved s xs ys) before after q

-- the room that both ask
abbrev pub room_of : Record → List ℤ → ℕ
room_of s ys = s.outKhz + outputs (rates_of (pair_of s)) (length ys)

-- ---- a call

-- the delay samples that were carried, and behind them the input: as many as the input has are filtered, the others go on
unfoldable pub signal : Record → List ℤ → List ℤ
signal s xs = live_delay s ++ xs

-- what a call that is not refused has: a record of a supported pair, whole milliseconds, at least one, and room for what they make
pub record Calling (s : Record) (n room : ℕ) : Type 0 where
  pub pair : supported (pair_of s) ≡ true
  pub whole : n % s.inKhz ≡ 0
  pub some : 0 < n
  pub fits : made (pair_of s) n ≤ room
  pub doubler : length s.doubler ≡ 6
  pub samples : length s.samples ≡ 8
  pub ar2 : length s.ar2 ≡ 2
  pub fir : length s.fir ≡ 36
  pub delay : length s.delay ≡ 48

-- the first millisecond of what is filtered, and the rest of it: a pass each
unfoldable pub first : Record → List ℤ → List ℤ
first s xs = take s.inKhz (take (length xs) (signal s xs))

unfoldable pub rest : Record → List ℤ → List ℤ
rest s xs = drop s.inKhz (take (length xs) (signal s xs))

-- the words between the two passes
unfoldable pub between : Record → List ℤ → Words
between s xs = pass_words (pair_of s) (live s) (first s xs)

unfoldable pub converted : Record → List ℤ → List ℤ
converted s xs = pass (pair_of s) (live s) (first s xs) ++ pass (pair_of s) (between s xs) (rest s xs)

unfoldable pub after : Record → List ℤ → Record
after s xs = record_of (pair_of s) (pass_words (pair_of s) (between s xs) (rest s xs)) (drop (length xs) (signal s xs))
