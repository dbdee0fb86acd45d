-- A call's signal in parts: the first millisecond, the rest of what is filtered, and what is carried on; and that both passes
-- over them are the call. Assumes nothing.
use mathlib.Core.Path.{◌≡◌, refl, sym, ap, ◌∙◌}
use mathlib.Core.Bool.{true}
use mathlib.Core.List.{List, [], ◌∷◌, ◌++◌, append_assoc}
use Prim.Native.Nat.{ℕ, zero, suc, ◌+◌, ◌*◌, ◌-◌, ◌/◌, ◌%◌, ◌<◌, ◌≤◌}
use native.Mathlib.Nat.{div-add-mod', mul-div_cancel, mul-mod_left, add-mul, mod_self}
use native.Mathlib.Omega.{arith}
use borrow.Author.Tests.{leb-true}
use borrow.Rule.Slice.PartMut.{post_of, put_mid, mid_len, same_len_mid}
use lib.Dec.{leb}
use lib.IntN.{ℤ}
use lib.ListN.{length, take, drop, length-append, length-take, length-drop}
use lib.Seq.{length-take-le, take-nil, take-take, take_at, take-append-add, drop-append-add}
use Rattle.stages.specs.Outcome.{over, Staged}
use Rattle.filters.specs.Lists.{padded}
use Rattle.filters.proofs.Laws.Lists.{part-rest}
use Rattle.resampler.specs.declared.Record.{Record}
use Rattle.resampler.specs.Pairs.{Pair, supported, path, rate_id, delay, delay_matrix_enc, delay_matrix_dec}
use Rattle.resampler.specs.Record.{pair_of, live, live_delay, keeping, record_of}
use Rattle.resampler.specs.Resample.{made, rates_of, signal, pass, pass_words, twice_end, both_out, moved, first, rest, between, converted, after, Calling}
use Rattle.resampler.proofs.Laws.Pairs.{of-each, small}
use Rattle.resampler.proofs.Laws.Entries.{delay-few}
use Rattle.resampler.proofs.Laws.Twice.{Taking}
use Rattle.resampler.proofs.Laws.Words.{Sized, sized-unused, live-sized, pass-sized}
use Rattle.resampler.proofs.Laws.Count.{pass-count}
use Rattle.resampler.proofs.Laws.Twice.{one-makes}

-- ---- lists behind one another

module _ (front xs : List ℤ) (d k : ℕ) (l : length front ≡ d) (h : d ≤ k) where
  abbrev count : length front + (k - d) ≡ k
  count = omega arith

  take_behind : take k (front ++ xs) ≡ front ++ take (k - d) xs
  take_behind = rw count at (take-append-add front xs (k - d))

  drop-behind : drop k (front ++ xs) ≡ drop (k - d) xs
  drop-behind = rw count at (drop-append-add front xs (k - d))

drop_of_take : (a b : ℕ) (xs : List ℤ) → drop a (take b xs) ≡ take (b - a) (drop a xs)
drop_of_take zero b xs = let e : b - 0 ≡ b = omega arith in rw e refl
drop_of_take (suc a) zero xs = let e : 0 - suc a ≡ 0 = omega arith in rw e refl
drop_of_take (suc a) (suc b) [] = sym (take-nil (suc b - suc a))
drop_of_take (suc a) (suc b) (x ∷ xs) = let e : suc b - suc a ≡ b - a = omega arith in rw e (drop_of_take a b xs)

-- the record with other delay samples
abbrev pub carrying : Record → List ℤ → Record
carrying q ds = record {
  direction = q.direction;
  inKhz = q.inKhz;
  outKhz = q.outKhz;
  doubler = q.doubler;
  samples = q.samples;
  ar2 = q.ar2;
  fir = q.fir;
  delay = ds;
}

-- ---- milliseconds

-- a delay is shorter than a millisecond
pub delay-within : (p : Pair) → supported p ≡ true → delay p ≤ p.inKhz
unfolding delay delay_matrix_enc delay_matrix_dec rate_id
delay-within p h = leb-true _ _ (of-each (λ p. leb (delay p) p.inKhz) refl p h)

-- n samples are one millisecond and j more
pub later : (n k : ℕ) → n % k ≡ 0 → 0 < n → (j : ℕ) × (n ≡ k + j * k)
later n k h s = go (n / k) (omega (arith, h, div-add-mod' n k))
  where
    go : (m : ℕ) → n ≡ m * k → (j : ℕ) × (n ≡ k + j * k)
    go zero e = absurd (omega (arith, e))
    go (suc m) e = (m, omega (arith, e, add-mul 1 m k))

module _ (s : Record) (xs : List ℤ) (room : ℕ) (c : Calling s (length xs) room) where
  abbrev p : Pair
  p = pair_of s

  abbrev k : ℕ
  k = s.inKhz

  abbrev n : ℕ
  n = length xs

  abbrev d : ℕ
  d = delay p

  within : d ≤ k
  within = delay-within p c.pair

  some : 8 ≤ k
  some = (small p c.pair).1

  pub first_fits : k ≤ n
  first_fits = let (j, e) = later n k c.whole c.some in omega (arith, e)

  rest-whole : (n - k) % k ≡ 0
  rest-whole = let (j, e) = later n k c.whole c.some in let r : n - k ≡ j * k = omega (arith, e) in rw r (mul-mod_left j k)

  -- a millisecond makes out-kHz samples, and the rest what it makes
  first_made : made p k ≡ s.outKhz
  unfolding made
  first_made = one-makes (rates_of p) (omega (arith, some))

  both-made : made p n ≡ s.outKhz + made p (n - k)
  unfolding made
  both-made =
      let (j, e) = later n k c.whole c.some in
      let r : n - k ≡ j * k = omega (arith, e) in
      let q : n ≡ (1 + j) * k = omega (arith, e, add-mul 1 j k) in
      let a : j * k / k ≡ j = mul-div_cancel j (omega (arith, some)) in
      let b : (1 + j) * k / k ≡ 1 + j = mul-div_cancel (1 + j) (omega (arith, some)) in
      let g : made p n ≡ (1 + j) * s.outKhz = ap (λ (m : ℕ). m / k * s.outKhz) q ∙ ap (λ (m : ℕ). m * s.outKhz) b in
      let f : made p (n - k) ≡ j * s.outKhz = ap (λ (m : ℕ). m / k * s.outKhz) r ∙ ap (λ (m : ℕ). m * s.outKhz) a in
      omega (arith, f, g, add-mul 1 j s.outKhz)

  carried : length (live_delay s) ≡ d
  unfolding live_delay
  carried = length-take-le d s.delay (omega (arith, c.delay, delay-few p c.pair))

  -- the parts of the signal, as parts of the delay samples and of the input
  first-is : first s xs ≡ take d s.delay ++ take (k - d) xs
  unfolding first signal live_delay
  first-is = take-take k n (live_delay s ++ xs) first_fits ∙ take_behind (live_delay s) xs d k carried within

  rest-is : rest s xs ≡ take (n - d - (k - d)) (drop (k - d) xs)
  unfolding rest signal
  rest-is =
      rw (take_behind (live_delay s) xs d n carried (omega (arith, within, first_fits)), drop-behind (live_delay s) (take (n - d) xs) d k carried within)
      (drop_of_take (k - d) (n - d) xs)

  carried-is : drop n (signal s xs) ≡ take (n - (n - d)) (drop (n - d) xs)
  unfolding signal
  carried-is = drop-behind (live_delay s) xs d n carried (omega (arith, within, first_fits)) ∙ sym (part-rest xs (n - d))

  first-length : length (first s xs) ≡ k
  unfolding first signal
  first-length =
      length-take-le k _ (omega (arith, first_fits, length-take n (live_delay s ++ xs), length-append (live_delay s) xs))

  rest-length : length (rest s xs) ≡ n - k
  unfolding rest signal
  rest-length = length-drop k (take n (live_delay s ++ xs)) ∙ omega (arith, length-take n (live_delay s ++ xs), length-append (live_delay s) xs)

  -- the delay samples, and the input written behind those that are carried: the first millisecond stands in front
  pub first-filled : {m : ℕ} (zs : List ℤ) → m ≡ d → zs ≡ take (k - m) xs
      → (take k (put_mid m (k - m) s.delay zs) ≡ first s xs) × (length (put_mid m (k - m) s.delay zs) ≡ 48)
  first-filled {m} zs h e =
      let b = s.delay in
      let few = (small p c.pair).2 in
      let l = mid_len m k b (omega (arith, few, c.delay)) in
      let t = length-take-le (k - m) xs (omega (arith, first_fits)) in
      let a = length-take-le m b (omega (arith, h, within, few, c.delay)) in
      let f : length (take m b ++ take (k - m) xs) ≡ k = length-append (take m b) (take (k - m) xs) ∙ omega (arith, t, a, h, within) in
      let is : put_mid m (k - m) b zs ≡ (take m b ++ take (k - m) xs) ++ post_of m (k - m) b =
      ap (λ (y : List ℤ). take m b ++ (y ++ post_of m (k - m) b)) e ∙ sym (append_assoc (take m b) (take (k - m) xs) (post_of m (k - m) b)) in (
        ap (take k) is ∙ take_at _ (post_of m (k - m) b) k f ∙ (λ i. take (h i) b ++ take (k - h i) xs) ∙ sym first-is,
        same_len_mid m (k - m) b zs (ap length e ∙ t ∙ sym l) ∙ c.delay,
      )

  sized : Sized (path p) (live s)
  sized = live-sized s c.pair (c.doubler, c.samples, c.ar2, c.fir, c.delay)

  between-sized : Sized (path p) (between s xs)
  unfolding between
  between-sized = pass-sized p (live s) (first s xs) sized

  first_count : length (pass p (live s) (first s xs)) ≡ s.outKhz
  first_count =
      let w : length (first s xs) % k ≡ 0 = rw first-length (mod_self k) in
      pass-count p (omega (arith, some)) (live s) (first s xs) w (sized-unused (path p) (live s) sized) ∙ ap (made p) first-length ∙ first_made

  rest-count : length (pass p (between s xs) (rest s xs)) ≡ made p (n - k)
  rest-count =
      let w : length (rest s xs) % k ≡ 0 = rw rest-length rest-whole in
      pass-count p (omega (arith, some)) (between s xs) (rest s xs) w (sized-unused (path p) (between s xs) between-sized) ∙ ap (made p) rest-length

  -- what a call puts out is what the two passes put out
  call_both : converted s xs ≡ pass p (live s) (first s xs) ++ pass p (between s xs) (rest s xs)
  unfolding converted
  call_both = refl

  pub call-count : length (converted s xs) ≡ made p n
  call-count = ap length call_both ∙ length-append (pass p (live s) (first s xs)) (pass p (between s xs) (rest s xs)) ∙ omega (arith, first_count, rest-count, both-made)

  -- the other two as parts of the input
  module _ {m : ℕ} (h : m ≡ d) where
    pub rest_part : take (n - m - (k - m)) (drop (k - m) xs) ≡ rest s xs
    rest_part = (λ i. take (n - h i - (k - h i)) (drop (k - h i) xs)) ∙ sym rest-is

    pub carried-part : take (n - (n - m)) (drop (n - m) xs) ≡ drop n (signal s xs)
    carried-part = (λ i. take (n - (n - h i)) (drop (n - h i) xs)) ∙ sym carried-is

  -- both passes have what they ask, and are the call
  module _ {ys zs : List ℤ} (f : ys ≡ first s xs) (g : zs ≡ rest s xs) where
    pub call-takes : {out : List ℤ} → length out ≡ room → Taking (rates_of p) ys zs out
    unfolding made
    call-takes l =
        let r = ap length g ∙ rest-length in
        record {
          one = ap length f ∙ first-length;
          whole = rw r rest-whole;
          room = rw r (omega (arith, l, both-made, c.fits));
        }

    pub call-is : {ts before o ds : List ℤ} {q : Record} → ts ≡ drop n (signal s xs) → ds ≡ padded 48 ts
        → Staged (both_out s ys zs) (moved s ys zs) before o q → Staged (converted s xs) (after s xs) before o (carrying q ds)
    unfolding both_out moved keeping record_of between converted after
    call-is {ts} {before} e h st = record {
      filled = st.filled ∙ (λ i. over (both_out s (f i) (g i)) before);
      carried = (λ i. carrying (st.carried i) (h i)) ∙ (λ i. record_of p (twice_end (pass_words p) (live s) (f i) (g i)) (e i));
    }
