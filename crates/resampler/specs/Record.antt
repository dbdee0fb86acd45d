-- Records: which entries a pair uses, opening, the blank record. Assumes nothing.
use Rattle.std.specs.Prelude.{ℕ, List, [], ◌++◌, ℤ, take, drop}
use Rattle.filters.specs.Lists.{padded}
use Rattle.resampler.specs.declared.Record.{Record}
use Rattle.resampler.specs.Pairs.{Pair, pair, Path, copy, doubler, interpolator, down, path, delay}

abbrev pub pair_of : Record → Pair
pair_of s = pair s.direction s.inKhz s.outKhz

-- something for each of the arrays that the stages use
pub record Arrays (A : Type 0) : Type 0 where
  pub doubler : A
  pub samples : A
  pub ar2 : A
  pub fir : A

abbrev pub arrays : {A : Type 0} → A → A → A → A → Arrays A
arrays d s a f = record { doubler = d; samples = s; ar2 = a; fir = f }

-- what the stages carry
abbrev pub Words : Type 0
Words = Arrays (List ℤ)

-- how many entries of each are live on a path
unfoldable pub living : Path → Arrays ℕ
living copy = arrays 0 0 0 0
living doubler = arrays 6 0 0 0
living interpolator = arrays 6 8 0 0
living (down f) = arrays 0 0 2 f.order

unfoldable pub live : Record → Words
live s =
    let n = living (path (pair_of s)) in
    arrays (take n.doubler s.doubler) (take n.samples s.samples) (take n.ar2 s.ar2) (take n.fir s.fir)

-- and as many delay samples as the pair's delay
unfoldable pub live_delay : Record → List ℤ
live_delay s = take (delay (pair_of s)) s.delay

-- every other entry
unfoldable pub dead : Record → List ℤ
dead s =
    let n = living (path (pair_of s)) in
    drop n.doubler s.doubler ++ drop n.samples s.samples ++ drop n.ar2 s.ar2 ++ drop n.fir s.fir
    ++ drop (delay (pair_of s)) s.delay

-- the record of a pair with these live words, zeros behind them, and the array of delay samples as it stands
unfoldable pub keeping : Pair → Words → List ℤ → Record
keeping p w delay = record {
  direction = p.direction;
  inKhz = p.inKhz;
  outKhz = p.outKhz;
  doubler = padded 6 w.doubler;
  samples = padded 8 w.samples;
  ar2 = padded 2 w.ar2;
  fir = padded 36 w.fir;
  delay = delay;
}

-- the record of a pair with these live entries, and zeros behind them
unfoldable pub record_of : Pair → Words → List ℤ → Record
record_of p w d = keeping p w (padded 48 d)

-- the record with its dead entries zero
unfoldable pub cleaned : Record → Record
cleaned s = record_of (pair_of s) (live s) (live_delay s)

-- as opened: every word and sample zero
unfoldable pub fresh : Pair → Record
fresh p = record_of p (arrays [] [] [] []) []

-- what a refused opening or resuming returns: zero throughout, and no supported pair
unfoldable pub blank : Record
blank = fresh (pair 0 0 0)
