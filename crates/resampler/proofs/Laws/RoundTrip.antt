-- A record that is parked and then resumed, and a block that is resumed and then parked. Assumes nothing.
use mathlib.Core.Path.{◌≡◌, refl, sym, ap, subst, ◌∙◌}
use mathlib.Core.Bool.{true}
use mathlib.Core.List.{List, [], ◌∷◌, ◌++◌, append_assoc}
use Prim.Native.Nat.{ℕ, ◌+◌, ◌*◌, ◌-◌, ◌/◌, ◌^◌, ◌<◌, ◌≤◌}
use native.Mathlib.Nat.{mul-le-mul}
use native.Mathlib.Omega.{arith}
use borrow.Author.Tests.{ltb-true, lt-ltb, eqb-true}
use lib.Dec.{T, eqb}
use lib.IntN.{ℤ, pos, negsuc}
use lib.ListN.{length, take, drop, get_or, replicate, length-append, length-drop, take-append-drop}
use lib.Seq.{length-take-le, take_all, take_at, drop_at, drop-drop, take-add, take-take}
use Rattle.filters.specs.Lists.{every, padded}
use Rattle.stages.specs.Outcome.{Done, outcome}
use Rattle.filters.proofs.Laws.Lists.{both_true}
use Rattle.resampler.specs.declared.Record.{Record}
use Rattle.resampler.specs.Pairs.{path, delay, supported}
use Rattle.resampler.specs.Record.{pair_of, living, live, live_delay, dead, keeping, record_of, cleaned}
use Rattle.little_endian.specs.Bytes.{bytes, value, bits_of, laid, words_at}
use Rattle.resampler.specs.Block.{weighed, check, layout, body, block_of, record_in, zero?, resume_row, resume_outcome}
use Rattle.resampler.specs.Claims.{byte?, Array, Held}
use Rattle.resampler.proofs.Laws.Pairs.{small}
use Rattle.little_endian.proofs.Laws.Bytes.{bytes-length, laid-length}
use Rattle.resampler.proofs.Laws.Scan.{every-five}
use Rattle.resampler.proofs.Laws.Entries.{Whole}
use Rattle.resampler.proofs.Laws.Body.{six-right}
use Rattle.resampler.proofs.Laws.Resuming.{in_whole, Accepted, row-accepted, accepted-row, resume-done}
use Rattle.resampler.proofs.Laws.Back.{every-join, every_drop, value-bytes, bytes-value, laid-are, words-laid, laid-words}

-- ---- dead entries that are zero

zeros-are : (xs : List ℤ) → every zero? xs ≡ true → xs ≡ replicate (length xs) (pos 0)
unfolding zero?
zeros-are [] h = refl
zeros-are (pos n ∷ xs) h = let (z, zs) = both_true (eqb n 0) _ h in λ i. pos (eqb-true n 0 z i) ∷ zeros-are xs zs i
zeros-are (negsuc n ∷ xs) h = absurd (subst T (sym h) tt)

kept-all : (m n : ℕ) (xs : List ℤ) → length xs ≡ m → every zero? (drop n xs) ≡ true → padded m (take n xs) ≡ xs
kept-all m n xs l h =
    let all = take-append-drop n xs in
    let e : m - length (take n xs) ≡ length (drop n xs) = omega (arith, length-append (take n xs) (drop n xs), ap length all) in
    ap (λ (k : ℕ). take n xs ++ replicate k (pos 0)) e ∙ ap (λ (t : List ℤ). take n xs ++ t) (sym (zeros-are (drop n xs) h)) ∙ all

-- nothing is left to clear
cleaned-same : (s : Record) → Whole s → every zero? (dead s) ≡ true → cleaned s ≡ s
unfolding live live_delay dead keeping record_of cleaned
cleaned-same s w h =
    let n = living (path (pair_of s)) in
    let five = every-five zero? (drop n.doubler s.doubler) (drop n.samples s.samples) (drop n.ar2 s.ar2) (drop n.fir s.fir) (drop (delay (pair_of s)) s.delay) in
    let (four, l) = both_true _ _ (sym five ∙ h) in
    let (three, f) = both_true _ _ four in
    let (two, a) = both_true _ _ three in
    let (d, m) = both_true _ _ two in
    λ i. record {
      direction = s.direction;
      inKhz = s.inKhz;
      outKhz = s.outKhz;
      doubler = kept-all 6 n.doubler s.doubler w.0 d i;
      samples = kept-all 8 n.samples s.samples w.1 m i;
      ar2 = kept-all 2 n.ar2 s.ar2 w.2 a i;
      fir = kept-all 36 n.fir s.fir w.3 f i;
      delay = kept-all 48 (delay (pair_of s)) s.delay w.4 l i;
    }

-- ---- the check fits into its four bytes

weighed-few : (i : ℕ) (xs : List ℕ) → every byte? xs ≡ true → i + length xs ≤ 508 → weighed i xs ≤ 129540 * length xs
unfolding weighed
weighed-few i [] h l = omega arith
weighed-few i (x ∷ xs) h l =
    let (b, bs) = both_true (byte? x) _ h in
    let weight = mul-le-mul {n₁ = i + 1} {m₁ = x} {n₂ = 508} {m₂ = 255} (omega arith) (omega (arith, ltb-true x 256 b)) in
    omega (arith, weighed-few (i + 1) xs bs (omega arith))

check-fits : (xs : List ℕ) → every byte? xs ≡ true → length xs ≡ 508 → check xs < 256 ^ 4
unfolding check
check-fits xs h l = rw (take_all 508 xs (omega arith)) (omega (arith, weighed-few 0 xs h (omega arith)))

-- ---- parked, then resumed

module _ (s : Record) (h : Held s) (ok : supported (pair_of s) ≡ true) where
  whole : Whole s
  whole = (h.doubler.0, h.samples.0, h.ar2.0, h.fir.0, h.delay.0)

  abbrev sum : List ℕ
  sum = bytes 4 (check (body s))

  abbrev block : List ℕ
  block = body s ++ sum

  -- what comes from each part on
  abbrev pads : List ℕ
  pads = replicate 216 0

  abbrev t5 : List ℕ
  t5 = pads ++ sum

  abbrev t4 : List ℕ
  t4 = laid 2 s.delay ++ t5

  abbrev t3 : List ℕ
  t3 = laid 4 s.fir ++ t4

  abbrev t2 : List ℕ
  t2 = laid 4 s.ar2 ++ t3

  abbrev t1 : List ℕ
  t1 = laid 2 s.samples ++ t2

  abbrev arrays : List ℕ
  arrays = laid 4 s.doubler ++ laid 2 s.samples ++ laid 4 s.ar2 ++ laid 4 s.fir ++ laid 2 s.delay

  at-doubler : drop 4 block ≡ laid 4 s.doubler ++ t1
  unfolding body
  at-doubler =
      append_assoc arrays pads sum
      ∙ six-right (laid 4 s.doubler) (laid 2 s.samples) (laid 4 s.ar2) (laid 4 s.fir) (laid 2 s.delay) t5

  next : (k m i : ℕ) (ws : List ℤ) (rest : List ℕ) → length ws ≡ m → drop i block ≡ laid k ws ++ rest → drop (i + k * m) block ≡ rest
  next k m i ws rest l e =
      sym (drop-drop (k * m) i block) ∙ ap (drop (k * m)) e ∙ drop_at (laid k ws) rest (k * m) (laid-length (bits_of k) k ws ∙ ap (λ (n : ℕ). k * n) l)

  at-samples : drop 28 block ≡ t1
  at-samples = next 4 6 4 s.doubler t1 h.doubler.0 at-doubler

  at-ar2 : drop 44 block ≡ t2
  at-ar2 = next 2 8 28 s.samples t2 h.samples.0 at-samples

  at-fir : drop 52 block ≡ t3
  at-fir = next 4 2 44 s.ar2 t3 h.ar2.0 at-ar2

  at-delay : drop 196 block ≡ t4
  at-delay = next 4 36 52 s.fir t4 h.fir.0 at-fir

  at-pads : drop 292 block ≡ t5
  at-pads = next 2 48 196 s.delay t5 h.delay.0 at-delay

  at_sum : drop 508 block ≡ sum
  at_sum = sym (drop-drop 216 292 block) ∙ ap (drop 216) at-pads ∙ drop_at pads sum 216 refl

  body-length : length (body s) ≡ 508
  body-length =
      omega (arith, bytes-length 4 (check (body s)), length-append (body s) sum, length-drop 508 block, ap length at_sum)

  read : (m k i : ℕ) (ws : List ℤ) (rest : List ℕ) → 256 ^ k ≡ 2 * (256 ^ k / 2) → Array m k ws → drop i block ≡ laid k ws ++ rest → words_at k i m block ≡ ws
  read m k i ws rest even (l, w) e = ap (λ (n : ℕ). words_at k i n block) (sym l) ∙ words-laid k even ws i block rest w e

  read_back : record_in block ≡ s
  unfolding body record_in
  read_back = λ i. record {
    direction = s.direction;
    inKhz = s.inKhz;
    outKhz = s.outKhz;
    doubler = read 6 4 4 s.doubler t1 refl h.doubler at-doubler i;
    samples = read 8 2 28 s.samples t2 refl h.samples at-samples i;
    ar2 = read 2 4 44 s.ar2 t3 refl h.ar2 at-ar2 i;
    fir = read 36 4 52 s.fir t4 refl h.fir at-fir i;
    delay = read 48 2 196 s.delay t5 refl h.delay at-delay i;
  }

  pair-are : every byte? (s.direction ∷ s.inKhz ∷ s.outKhz ∷ layout ∷ []) ≡ true
  pair-are =
      let p = small (pair_of s) ok in
      rw (lt-ltb s.direction 256 (omega arith), lt-ltb s.inKhz 256 (omega arith), lt-ltb s.outKhz 256 (omega arith)) refl

  arrays-are : every byte? arrays ≡ true
  arrays-are =
      every-five byte? (laid 4 s.doubler) (laid 2 s.samples) (laid 4 s.ar2) (laid 4 s.fir) (laid 2 s.delay)
      ∙ rw (laid-are 4 s.doubler, laid-are 2 s.samples, laid-are 4 s.ar2, laid-are 4 s.fir, laid-are 2 s.delay) refl

  body-are : every byte? (body s) ≡ true
  unfolding body
  body-are =
      every-join byte? (s.direction ∷ s.inKhz ∷ s.outKhz ∷ layout ∷ []) (arrays ++ pads) pair-are (every-join byte? arrays pads arrays-are refl)

  check-read : value (drop 508 block) ≡ check block
  unfolding check
  check-read =
      let front = take_at (body s) sum 508 body-length in
      let all = take_all 508 (body s) (omega (arith, body-length)) in
      ap value at_sum ∙ value-bytes 4 (check (body s)) (check-fits (body s) body-are body-length) ∙ ap (weighed 0) (all ∙ sym front)

  third : get_or block 3 0 ≡ layout
  unfolding body
  third = refl

  accepted : every zero? (dead s) ≡ true → Accepted block
  accepted z = record {
    long = length-append (body s) sum ∙ omega (arith, body-length, bytes-length 4 (check (body s)));
    sum = check-read;
    form = third;
    pair = ap (λ (r : Record). supported (pair_of r)) read_back ∙ ok;
    rest = ap (λ (r : Record). every zero? (dead r)) read_back ∙ z;
    pads = ap (λ (t : List ℕ). every (eqb 0) (take 216 t)) at-pads ∙ ap (every (eqb 0)) (take_at pads sum 216 refl);
  }

  pub resume_parked : every zero? (dead s) ≡ true → resume_outcome (block_of s) ≡ outcome (Done 0) s tt
  unfolding block_of
  resume_parked z =
      ap (λ (r : Record). resume_outcome (body r ++ bytes 4 (check (body r)))) (cleaned-same s whole z)
      ∙ sym (resume-done block (sym read_back) (accepted-row block (accepted z)))

-- ---- resumed, then parked

pads-are : (xs : List ℕ) → every (eqb 0) xs ≡ true → xs ≡ replicate (length xs) 0
pads-are [] h = refl
pads-are (x ∷ xs) h = let (z, zs) = both_true (eqb 0 x) _ h in λ i. sym (eqb-true 0 x z) i ∷ pads-are xs zs i

front-four : (xs : List ℕ) → 4 ≤ length xs → take 4 xs ≡ get_or xs 0 0 ∷ get_or xs 1 0 ∷ get_or xs 2 0 ∷ get_or xs 3 0 ∷ []
front-four [] h = absurd (omega arith)
front-four (a ∷ []) h = absurd (omega arith)
front-four (a ∷ b ∷ []) h = absurd (omega arith)
front-four (a ∷ b ∷ c ∷ []) h = absurd (omega arith)
front-four (a ∷ b ∷ c ∷ d ∷ xs) h = refl

module _ (b : List ℕ) (are : every byte? b ≡ true) (row : resume_row b ≡ 0) where
  ok : Accepted b
  ok = row-accepted b row

  abbrev part : ℕ → ℕ → List ℕ
  part n i = take n (drop i b)

  -- a part, and what is behind it
  split : (n m i : ℕ) → part (n + m) i ≡ part n i ++ part m (i + n)
  split n m i = take-add n m (drop i b) ∙ ap (λ (t : List ℕ). part n i ++ take m t) (drop-drop n i b)

  parts : take 508 b ≡ take 4 b ++ (part 24 4 ++ (part 16 28 ++ (part 8 44 ++ (part 144 52 ++ (part 96 196 ++ part 216 292)))))
  parts = rw (take-add 4 504 b, split 24 480 4, split 16 464 28, split 8 456 44, split 144 312 52, split 96 216 196) refl

  laid-back : (k n i : ℕ) → 256 ^ k ≡ 2 * (256 ^ k / 2) → i + k * n ≤ 512 → laid k (words_at k i n b) ≡ part (k * n) i
  laid-back k n i even l = laid-words k even n i b are (omega (arith, ok.long))

  pads-back : replicate 216 0 ≡ part 216 292
  pads-back =
      let l : length (part 216 292) ≡ 216 = length-take-le 216 (drop 292 b) (omega (arith, ok.long, length-drop 292 b)) in
      sym (pads-are (part 216 292) ok.pads ∙ ap (λ (n : ℕ). replicate n 0) l)

  body_back : body (record_in b) ≡ take 508 b
  unfolding body record_in
  body_back =
      let four : take 4 b ≡ get_or b 0 0 ∷ get_or b 1 0 ∷ get_or b 2 0 ∷ layout ∷ [] =
      front-four b (omega (arith, ok.long)) ∙ ap (λ (x : ℕ). get_or b 0 0 ∷ get_or b 1 0 ∷ get_or b 2 0 ∷ x ∷ []) ok.form in
      let d = laid-back 4 6 4 refl (omega arith) in
      let m = laid-back 2 8 28 refl (omega arith) in
      let a = laid-back 4 2 44 refl (omega arith) in
      let f = laid-back 4 36 52 refl (omega arith) in
      let l = laid-back 2 48 196 refl (omega arith) in
      (λ i. get_or b 0 0 ∷ get_or b 1 0 ∷ get_or b 2 0 ∷ layout ∷ (d i ++ m i ++ a i ++ f i ++ l i ++ pads-back i))
      ∙ (λ i. sym four i ++ six-right (part 24 4) (part 16 28) (part 8 44) (part 144 52) (part 96 196) (part 216 292) i)
      ∙ sym parts

  sum_back : bytes 4 (check b) ≡ drop 508 b
  sum_back =
      let l : length (drop 508 b) ≡ 4 = length-drop 508 b ∙ omega (arith, ok.long) in
      ap (bytes 4) (sym ok.sum) ∙ ap (λ (n : ℕ). bytes n (value (drop 508 b))) (sym l) ∙ bytes-value (drop 508 b) (every_drop byte? 508 b are)

  pub park_resumed : block_of (record_in b) ≡ b
  unfolding check block_of
  park_resumed =
      let again : check (take 508 b) ≡ check b = ap (weighed 0) (take-take 508 508 b (omega arith)) in
      ap (λ (r : Record). body r ++ bytes 4 (check (body r))) (cleaned-same (record_in b) (in_whole b) ok.rest)
      ∙ (λ i. body_back i ++ bytes 4 (check (body_back i)))
      ∙ ap (λ (n : ℕ). take 508 b ++ bytes 4 n) again
      ∙ ap (λ (t : List ℕ). take 508 b ++ t) sum_back
      ∙ take-append-drop 508 b
