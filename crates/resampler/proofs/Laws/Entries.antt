-- Which entries are live; that zeros written behind them leave the record that is meant; and whether the others are zero, array by
-- array. Assumes nothing.
use mathlib.Core.Path.{◌≡◌, refl, sym, ◌∙◌}
use mathlib.Core.Bool.{Bool, true, ◌&&◌}
use mathlib.Core.List.{List, [], append-nil}
use Prim.Native.Nat.{ℕ, ◌-◌, ◌≤◌}
use native.Mathlib.Omega.{arith}
use borrow.Author.Tests.{leb-true}
use borrow.Rule.Slice.PartMut.{mid_of, post_of, put_mid, mid_len}
use lib.Dec.{leb}
use lib.IntN.{ℤ, pos}
use lib.ListN.{length, take, drop, replicate, length-drop}
use lib.Seq.{length-take-le}
use Rattle.filters.specs.Lists.{padded, every}
use Rattle.filters.proofs.Laws.Lists.{drop-none}
use Rattle.resampler.specs.declared.Record.{Record}
use Rattle.resampler.specs.Pairs.{Pair, pair, supported, rate_id, delay, delay_matrix_enc, delay_matrix_dec, path, filter}
use Rattle.resampler.specs.Record.{pair_of, living, live, live_delay, dead, keeping, record_of, cleaned}
use Rattle.resampler.specs.Block.{zero?}
use Rattle.resampler.proofs.Laws.Pairs.{of-each}
use Rattle.resampler.proofs.Laws.Scan.{every-five}

-- ---- live entries

pub delay-few : (p : Pair) → supported p ≡ true → delay p ≤ 48
unfolding delay delay_matrix_enc delay_matrix_dec rate_id
delay-few p h = leb-true _ 48 (of-each (λ p. leb (delay p) 48) refl p h)

-- the live entries of each array, and zeros behind them, are the record that is meant
pub cleaned-is : (s : Record) {doubler samples ar2 fir delays : List ℤ}
    → (let n = living (path (pair_of s)) in
    (doubler ≡ padded 6 (take n.doubler s.doubler)) × (samples ≡ padded 8 (take n.samples s.samples))
    × (ar2 ≡ padded 2 (take n.ar2 s.ar2)) × (fir ≡ padded 36 (take n.fir s.fir)))
    → delays ≡ padded 48 (take (delay (pair s.direction s.inKhz s.outKhz)) s.delay)
    → record {
      direction = s.direction;
      inKhz = s.inKhz;
      outKhz = s.outKhz;
      doubler = doubler;
      samples = samples;
      ar2 = ar2;
      fir = fir;
      delay = delays;
    } ≡ cleaned s
unfolding path filter live live_delay keeping record_of cleaned
cleaned-is s (d, m, a, f) l = λ i. record {
  direction = s.direction;
  inKhz = s.inKhz;
  outKhz = s.outKhz;
  doubler = d i;
  samples = m i;
  ar2 = a i;
  fir = f i;
  delay = l i;
}

-- the lengths of a record's arrays
abbrev pub Whole : Record → Type 0
Whole s = (length s.doubler ≡ 6) × (length s.samples ≡ 8) × (length s.ar2 ≡ 2) × (length s.fir ≡ 36) × (length s.delay ≡ 48)

-- ---- clearing

-- zeros written from the live entries on
pub cleared : (m k : ℕ) (xs : List ℤ) {n : ℕ} {ys : List ℤ} → length xs ≡ m → n ≡ k → n ≤ m → ys ≡ replicate (length (mid_of n (length xs - n) xs)) (pos 0)
    → put_mid n (length xs - n) xs ys ≡ padded m (take k xs)
cleared m k xs {n} l e h z =
    let t : length (take k xs) ≡ k = length-take-le k xs (omega arith) in
    let none : post_of n (length xs - n) xs ≡ [] = drop-none (drop n xs) (length xs - n) (omega (arith, length-drop n xs)) in
    let count : length (mid_of n (length xs - n) xs) ≡ m - length (take k xs) = mid_len n (length xs) xs (omega arith) ∙ omega arith in
    rw (none, z, count, append-nil, e) refl

-- ---- looking whether they are cleared

-- the number of live entries by another name
pub looked : (xs : List ℤ) {n k : ℕ} {r : Bool} → n ≡ k → r ≡ every zero? (drop n xs) → r ≡ every zero? (drop k xs)
looked xs h e = e ∙ (λ i. every zero? (drop (h i) xs))

-- what each array shows is what the dead entries show
pub dead-is : (s : Record) {inDoubler inSamples inAr2 inFir inDelay : Bool}
    → (let n = living (path (pair_of s)) in
    (inDoubler ≡ every zero? (drop n.doubler s.doubler)) × (inSamples ≡ every zero? (drop n.samples s.samples))
    × (inAr2 ≡ every zero? (drop n.ar2 s.ar2)) × (inFir ≡ every zero? (drop n.fir s.fir)))
    → inDelay ≡ every zero? (drop (delay (pair s.direction s.inKhz s.outKhz)) s.delay)
    → (inDoubler && inSamples && inAr2 && inFir && inDelay) ≡ every zero? (dead s)
unfolding path filter dead
dead-is s (d, m, a, f) l =
    let n = living (path (pair_of s)) in
    (λ i. d i && m i && a i && f i && l i)
    ∙ sym (every-five zero? (drop n.doubler s.doubler) (drop n.samples s.samples) (drop n.ar2 s.ar2) (drop n.fir s.fir) (drop (delay (pair_of s)) s.delay))
