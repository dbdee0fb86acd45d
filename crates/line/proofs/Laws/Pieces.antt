-- Bytes of 100 ms in front of others: their samples are the first piece, and what it leaves goes on with the others.
-- Assumes nothing.
use Rattle.std.specs.Prelude.{if◌then◌else◌}
use mathlib.Core.Path.{◌≡◌, refl, sym, ap, ◌∙◌}
use mathlib.Core.Bool.{true}
use mathlib.Core.List.{List, [], ◌∷◌, ◌++◌, append_assoc, flat_map}
use Prim.Native.Nat.{ℕ, zero, suc, ◌+◌, ◌*◌, ◌/◌, ◌%◌, ◌<◌, ◌≤◌}
use native.Mathlib.Nat.{add-zero, add-mul, mul-add-div_right, mul-add-mod_self_right, mul-div_cancel, zero-div, zero-mod}
use native.Mathlib.Omega.{arith}
use lib.Dec.{eqb}
use lib.IntN.{ℤ}
use lib.ListN.{length, take, drop, length-append, length-drop}
use lib.Seq.{take-append-le, drop-append-le, drop-append-add, take_at, drop_at}
use Rattle.filters.specs.Lists.{tabulate, joined, cut}
use Rattle.filters.specs.Run.{run, end, pass_out, pass_end}
use Rattle.filters.proofs.Laws.Lists.{tabulate-length, cut-next}
use Rattle.resampler.specs.declared.Record.{Record}
use Rattle.resampler.specs.Pairs.{Pair, supported}
use Rattle.resampler.specs.Record.{pair_of}
use Rattle.resampler.specs.Resample.{converted, after}
use Rattle.little_endian.specs.Bytes.{value, word_of, words_at, read_by, laid, laid_by, bytes, bits_of}
use Rattle.resampler.specs.Block.{block_of}
use Rattle.resampler.proofs.Laws.Pairs.{small}
use Rattle.line.specs.Message.{left_over}
use Rattle.line.specs.Line.{streams, unit, taken, made, kept, goes_on}
use Rattle.line.proofs.Laws.Ends.{kept_pair}
use Rattle.line.proofs.Laws.Calls.{one-call, no_call}

-- ---- lists

module _ {A : Type 0} where
  tabulate-split : (i n m : ℕ) (f : ℕ → A) → tabulate i (n + m) f ≡ tabulate i n f ++ tabulate (i + n) m f
  unfolding tabulate
  tabulate-split i zero m f =
      let e : i + 0 ≡ i = omega arith in
      let d : 0 + m ≡ m = omega arith in
      rw (e, d) refl
  tabulate-split i (suc n) m f =
      let e : i + suc n ≡ i + 1 + n = omega arith in
      let d : suc n + m ≡ suc (n + m) = omega arith in
      rw (e, d) (ap (λ (t : List A). f i ∷ t) (tabulate-split (i + 1) n m f))

  tabulate-ext : (i j n : ℕ) (f g : ℕ → A) → ((k : ℕ) → k < n → f (i + k) ≡ g (j + k)) → tabulate i n f ≡ tabulate j n g
  unfolding tabulate
  tabulate-ext i j zero f g h = refl
  tabulate-ext i j (suc n) f g h =
      let a : f i ≡ g j = rw (add-zero i, add-zero j) at (h 0 (omega arith)) in
      let b = tabulate-ext (i + 1) (j + 1) n f g (λ k l.
      let e : i + suc k ≡ i + 1 + k = omega arith in
      let d : j + suc k ≡ j + 1 + k = omega arith in
      rw (e, d) at (h (suc k) (omega arith))) in
      λ q. a q ∷ b q

-- n words in front of m others
words_append : (n m : ℕ) (a b : List ℕ) → length a ≡ 2 * n → words_at 2 0 (n + m) (a ++ b) ≡ words_at 2 0 n a ++ words_at 2 0 m b
unfolding read_by
words_append n m a b l =
    let f : ℕ → ℤ = λ j. word_of 2 (value (take 2 (drop (0 + j * 2) (a ++ b)))) in
    let front = tabulate-ext 0 0 n f (λ j. word_of 2 (value (take 2 (drop (0 + j * 2) a)))) (λ k h.
    let r : 2 ≤ length (drop (0 + (0 + k) * 2) a) = omega (arith, length-drop (0 + (0 + k) * 2) a) in
    rw (drop-append-le (0 + (0 + k) * 2) a b (omega arith), take-append-le 2 (drop (0 + (0 + k) * 2) a) b r) refl) in
    let back = tabulate-ext (0 + n) 0 m f (λ j. word_of 2 (value (take 2 (drop (0 + j * 2) b)))) (λ k h.
    let e : 0 + (0 + n + k) * 2 ≡ length a + (0 + (0 + k) * 2) = omega arith in
    rw (e, drop-append-add a b (0 + (0 + k) * 2)) refl) in
    tabulate-split 0 n m f ∙ (λ i. front i ++ back i)

laid-append : (k : ℕ) (xs ys : List ℤ) → laid k (xs ++ ys) ≡ laid k xs ++ laid k ys
unfolding laid_by flat_map
laid-append k [] ys = refl
laid-append k (x ∷ xs) ys =
    ap (λ (t : List ℕ). bytes k (bits_of k x) ++ t) (laid-append k xs ys) ∙ sym (append_assoc (bytes k (bits_of k x)) (laid k xs) (laid k ys))

-- a whole piece, and the others
module _ {S A B : Type 0} (out : S → List A → List B) (next : S → List A → S) (n : ℕ) (p : 0 < n) (s : S) (xs ys : List A) (l : length xs ≡ n) where
  piece-front : cut n (xs ++ ys) ≡ xs ∷ cut n ys
  piece-front =
      cut-next n (xs ++ ys) p (omega (arith, length-append xs ys)) ∙ rw (take_at xs ys n l, drop_at xs ys n l) refl

  pass-front : (pass_out out next n s (xs ++ ys) ≡ out s xs ++ pass_out out next n (next s xs) ys) × (pass_end next n s (xs ++ ys) ≡ pass_end next n (next s xs) ys)
  unfolding pass_out pass_end run end joined
  pass-front = rw piece-front (refl, refl)

-- ---- a piece of the program

-- only the rate matters
same_taken : (s t : Record) (b : List ℕ) → t.inKhz ≡ s.inKhz → taken t b ≡ taken s b
unfolding taken
same_taken s t b e = λ i. words_at 2 0 (length b / (2 * e i) * e i) b

module _ (s : Record) (h : supported (pair_of s) ≡ true) (a b : List ℕ) (l : length a ≡ 100 * unit s) where
  abbrev k : ℕ
  k = s.inKhz

  some : 0 < k
  some = omega (arith, (small (pair_of s) h).1)

  front : taken s a ≡ words_at 2 0 (100 * k) a
  unfolding taken
  front =
      let e : length a / unit s ≡ 100 = ap (λ (n : ℕ). n / unit s) l ∙ mul-div_cancel 100 (omega (arith, some)) in
      rw e refl

  both : taken s (a ++ b) ≡ taken s a ++ taken s b
  unfolding taken
  both =
      let n : length (a ++ b) ≡ 100 * unit s + length b = length-append a b ∙ ap (λ (j : ℕ). j + length b) l in
      let e : length (a ++ b) / unit s ≡ 100 + length b / unit s = ap (λ (j : ℕ). j / unit s) n ∙ mul-add-div_right (omega (arith, some)) 100 (length b) in
      let d : length (a ++ b) / unit s * k ≡ 100 * k + length b / unit s * k = ap (λ (j : ℕ). j * k) e ∙ add-mul 100 (length b / unit s) k in
      ap (λ (j : ℕ). words_at 2 0 j (a ++ b)) d ∙ words_append (100 * k) (length b / unit s * k) a b (omega arith)
      ∙ ap (λ (xs : List ℤ). xs ++ taken s b) (sym front)

  whole : length (taken s a) ≡ 100 * k
  unfolding read_by
  whole = ap length front ∙ tabulate-length 0 (100 * k) _

  one : (made s a ≡ converted s (taken s a)) × (kept s a ≡ after s (taken s a))
  unfolding made kept
  one = one-call (100 * k) s (taken s a) (omega (arith, whole, some)) (omega (arith, whole))

  rate : (kept s a).inKhz ≡ k
  rate = ap (λ (p : Pair). p.inKhz) (kept_pair s a)

  -- what comes behind a piece is made from the record that it leaves
  made-front : made s (a ++ b) ≡ made s a ++ made (kept s a) b
  unfolding made
  made-front =
      let (m, t) = one in
      ap (pass_out converted after (100 * k) s) both ∙ (pass-front converted after (100 * k) (omega (arith, some)) s (taken s a) (taken s b) whole).0
      ∙ (λ i. sym m i ++ pass_out converted after (100 * sym rate i) (sym t i) (sym (same_taken s (kept s a) b rate) i))

  kept-front : kept s (a ++ b) ≡ kept (kept s a) b
  unfolding kept
  kept-front =
      let (m, t) = one in
      ap (pass_end after (100 * k) s) both ∙ (pass-front converted after (100 * k) (omega (arith, some)) s (taken s a) (taken s b) whole).1
      ∙ (λ i. pass_end after (100 * sym rate i) (sym t i) (sym (same_taken s (kept s a) b rate) i))

  left-front : length (a ++ b) % unit s ≡ length b % unit (kept s a)
  left-front =
      ap (λ (n : ℕ). n % unit s) (length-append a b ∙ ap (λ (j : ℕ). j + length b) l) ∙ mul-add-mod_self_right 100 (unit s) (length b)
      ∙ ap (λ (j : ℕ). length b % (2 * j)) (sym rate)

  pub goes-on-front : goes_on s (a ++ b) ≡ streams (laid 2 (made s a) ++ (goes_on (kept s a) b).out) (goes_on (kept s a) b).err
  unfolding goes_on
  goes-on-front =
      let o = ap (laid 2) made-front ∙ laid-append 2 (made s a) (made (kept s a) b) in
      let block = ap block_of kept-front in
      let assoc = append_assoc (laid 2 (made s a)) (laid 2 (made (kept s a) b)) (block_of (kept (kept s a) b)) in
      λ i. streams (((λ j. o j ++ block j) ∙ assoc) i) (let n = left-front i in if eqb n 0 then [] else left_over n)

-- nothing more
pub goes-on-empty : (s : Record) → goes_on s [] ≡ streams (block_of s) []
unfolding goes_on made kept taken read_by tabulate laid_by flat_map
goes-on-empty s =
    let z : 0 / unit s * s.inKhz ≡ 0 = rw (zero-div (unit s)) (omega arith) in
    let (m, t) = no_call (100 * s.inKhz) s in
    rw (z, m, t, zero-mod (unit s)) refl
