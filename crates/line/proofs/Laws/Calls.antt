-- A call of the resampler that nothing refuses; what it makes, as bytes; and that the program's calls are one where there are at
-- most 100 ms. Assumes nothing.
use mathlib.Core.Path.{◌≡◌, refl, sym, ap, ◌∙◌}
use mathlib.Core.Bool.{true}
use mathlib.Core.List.{List, [], ◌∷◌, ◌++◌, append-nil, flat_map}
use Prim.Native.Nat.{ℕ, zero, suc, ◌+◌, ◌*◌, ◌/◌, ◌%◌, ◌<◌, ◌≤◌}
use native.Mathlib.Nat.{add-mul}
use native.Mathlib.Omega.{arith}
use borrow.Author.Tests.{eq-eqb, ne_eqb, le-ltb}
use lib.IntN.{ℤ}
use lib.ListN.{length, take, drop, drop_of_length-le}
use lib.Seq.{take_all, take_at}
use Rattle.filters.specs.Lists.{tabulate, joined, cut}
use Rattle.filters.specs.Run.{run, end, pass_out, pass_end}
use Rattle.stages.specs.Outcome.{Answer, Outcome, outcome, over}
use Rattle.filters.proofs.Laws.Lists.{tabulate-length, cut-nil, cut-next}
use Rattle.resampler.specs.declared.Record.{Record}
use Rattle.resampler.specs.Pairs.{Pair, supported}
use Rattle.resampler.specs.Record.{pair_of}
use Rattle.resampler.specs.Resample.{made, converted, after, Calling}
use Rattle.resampler.specs.Resample as Resample
use Rattle.resampler.specs.Entry.{resample_row, resample_outcome}
use Rattle.little_endian.specs.Bytes.{bits_of, laid, laid_by, words_at, read_by}
use Rattle.resampler.proofs.Laws.Entries.{Whole}
use Rattle.resampler.proofs.Laws.Call.{call-count}
use Rattle.little_endian.proofs.Laws.Bytes.{laid-length}
use Rattle.line.specs.Line as Line
use Rattle.line.specs.Line.{unit, taken}
use Rattle.line.specs.Call.{Leaves}
use Rattle.line.proofs.Laws.Sizes.{Sizes}

module _ (s : Record) (xs : List ℤ) (room : ℕ) (c : Calling s (length xs) room) where
  abbrev p : Pair
  p = pair_of s

  abbrev k : ℕ
  k = s.inKhz

  abbrev n : ℕ
  n = length xs

  -- no row applies to at most 100 ms
  clear : n ≤ 100 * k → resample_row p n room ≡ 0
  unfolding resample_row
  clear h =
      let z = ne_eqb n 0 (λ e. omega (arith, e, c.some)) in
      rw (c.pair, z, eq-eqb (n % k) 0 c.whole, le-ltb (1000 * k) n (omega arith), le-ltb room (made p n) c.fits) refl

  -- so the call is done
  pub call-done : {a : Answer} {r : Record} {o : List ℤ} (before : List ℤ) → n ≤ 100 * k → length before ≡ room
      → outcome a r o ≡ resample_outcome s xs before → (r ≡ after s xs) × (o ≡ over (converted s xs) before)
  unfolding resample_outcome
  call-done before h l e =
      let z : resample_row p n (length before) ≡ 0 = ap (resample_row p n) l ∙ clear h in
      let q = rw z at e in
      (ap (λ (t : Outcome Record (List ℤ)). t.state) q, ap (λ (t : Outcome Record (List ℤ)). t.lent) q)

  -- the samples that it made, laid in front of a block
  pub laid-front : (o before : List ℤ) (old : List ℕ) {z : List ℕ} (m : ℕ) → o ≡ over (converted s xs) before → m ≡ made p n
      → z ≡ take 0 old ++ laid 2 (take m o) ++ drop (0 + 2 * length (take m o)) old → z ≡ over (laid 2 (converted s xs)) old
  laid-front o before old m e h q =
      let t : take m o ≡ converted s xs = ap (take m) e ∙ take_at (converted s xs) _ m (call-count s xs room c ∙ sym h) in
      let d : 0 + 2 * length (converted s xs) ≡ length (laid 2 (converted s xs)) = omega (arith, laid-length (bits_of 2) 2 (converted s xs)) in
      q ∙ rw (t, d) refl

-- ---- at most 100 ms are one call, and none is no call

module _ (n : ℕ) (s : Record) (xs : List ℤ) (h : 0 < length xs) (l : length xs ≤ n) where
  one_piece : cut n xs ≡ xs ∷ []
  one_piece =
      cut-next n xs (omega arith) h ∙ rw (take_all n xs l, drop_of_length-le xs {i = n} l, cut-nil n) refl

  pub one-call : (pass_out converted after n s xs ≡ converted s xs) × (pass_end after n s xs ≡ after s xs)
  unfolding pass_out pass_end run end joined
  one-call = rw one_piece (append-nil _, refl)

pub no_call : (n : ℕ) (s : Record) → (pass_out converted after n s [] ≡ []) × (pass_end after n s [] ≡ s)
unfolding pass_out pass_end run end joined
no_call n s = rw (cut-nil n) (refl, refl)

-- ---- the samples in bytes

words-length : (k i n : ℕ) (b : List ℕ) → length (words_at k i n b) ≡ n
unfolding read_by
words-length k i n b = tabulate-length 0 n _

positive : (m k : ℕ) → (m ≡ 0 → ⊥) → 0 < k → 0 < m * k
positive zero k h l = absurd (h refl)
positive (suc m) k h l = omega (arith, add-mul 1 m k)

-- ---- what a call of the program leaves

module _ (s : Record) (b before : List ℕ) where
  -- less than a millisecond: nothing
  pub leaves_none : length b / unit s ≡ 0 → Leaves s b before before s 0 (length b % unit s)
  unfolding Line.made Line.kept taken read_by tabulate laid_by flat_map
  leaves_none e =
      let z : length b / unit s * s.inKhz ≡ 0 = rw e (omega arith) in
      let (o, t) = no_call (100 * s.inKhz) s in
      let none : taken s b ≡ [] = rw z refl in
      let m : Line.made s b ≡ [] = ap (pass_out converted after (100 * s.inKhz) s) none ∙ o in
      record {
        moved = sym (ap (pass_end after (100 * s.inKhz) s) none ∙ t);
        filled = rw m refl;
        counted = rw m refl;
        over = refl;
      }

  -- whole milliseconds, at most a hundred: one call of the resampler
  module _ (room : ℕ) (z : Sizes s (length b) room (length b / unit s)) (w : Whole s) (h : supported (pair_of s) ≡ true) (e : length b / unit s ≡ 0 → ⊥) where
    abbrev ms : ℕ
    ms = length b / unit s

    taken-length : length (taken s b) ≡ ms * s.inKhz
    unfolding taken
    taken-length = words-length 2 0 (ms * s.inKhz) b

    pub calling : (xs : List ℤ) → length xs ≡ ms * s.inKhz → Calling s (length xs) 4800
    calling xs l = rw l (record {
      pair = h;
      whole = z.whole;
      some = positive ms s.inKhz e z.some;
      fits = omega (arith, z.makes, z.made);
      doubler = w.0;
      samples = w.1;
      ar2 = w.2;
      fir = w.3;
      delay = w.4;
    })

    pub leaves-some : {xs : List ℤ} {o : List ℕ} {t : Record} → xs ≡ taken s b → t ≡ after s xs → o ≡ over (laid 2 (converted s xs)) before
        → Leaves s b before o t (2 * (ms * s.outKhz)) (length b % unit s)
    unfolding Line.made Line.kept
    leaves-some {xs} {o} {t} q a f =
        let ys = taken s b in
        let c = calling ys taken-length in
        let (made, kept) = one-call (100 * s.inKhz) s ys c.some (omega (arith, taken-length, z.few)) in
        let l : length (converted s ys) ≡ ms * s.outKhz = call-count s ys 4800 c ∙ ap (Resample.made (pair_of s)) taken-length ∙ z.makes in
        record {
          moved = a ∙ ap (after s) q ∙ sym kept;
          filled = f ∙ ap (λ (v : List ℤ). over (laid 2 v) before) (ap (converted s) q ∙ sym made);
          counted = sym (ap (λ (v : List ℤ). length (laid 2 v)) made ∙ laid-length (bits_of 2) 2 (converted s ys) ∙ ap (λ (j : ℕ). 2 * j) l);
          over = refl;
        }
