-- Bytes, words and arrays of them, laid and read back, and the other way round. Assumes nothing.
use Rattle.std.specs.Prelude.{if◌then◌else◌}
use mathlib.Core.Path.{◌≡◌, refl, sym, ap, ◌∙◌}
use mathlib.Core.Bool.{Bool, true, false}
use mathlib.Core.List.{List, [], ◌∷◌, ◌++◌, flat_map, append_assoc}
use Prim.Native.Nat.{ℕ, zero, suc, ◌+◌, ◌*◌, ◌-◌, ◌/◌, ◌%◌, ◌^◌, ◌<◌, ◌≤◌}
use native.Mathlib.Nat.{mul-suc, pow-suc}
use native.Mathlib.Omega.{arith}
use borrow.Author.Tests.{ltb-true, lt-ltb, le-ltb}
use lib.Dec.{ltb}
use lib.IntN.{ℤ, pos, negsuc}
use lib.ListN.{length, take, drop, length-drop, take-append-drop}
use lib.Seq.{length-take-le, take_at, drop_at, drop-drop, take-add}
use Rattle.filters.specs.Lists.{tabulate, every}
use Rattle.filters.proofs.Laws.Lists.{both_true}
use Rattle.little_endian.specs.Bytes.{bytes, value, bits_of, word_of, laid, words_at, laid_by, read_by}
use Rattle.resampler.specs.Claims.{byte?, word?}
use Rattle.little_endian.proofs.Laws.Bytes.{bytes-length}
use Rattle.resampler.proofs.Laws.Scan.{every-both}

-- ---- every

module _ {A : Type 0} (t : A → Bool) where
  pub every-join : (xs ys : List A) → every t xs ≡ true → every t ys ≡ true → every t (xs ++ ys) ≡ true
  every-join xs ys p q = every-both t xs ys ∙ rw (p, q) refl

  every-split : (i : ℕ) (xs : List A) → every t xs ≡ true → (every t (take i xs) ≡ true) × (every t (drop i xs) ≡ true)
  every-split i xs h =
      both_true _ _ (sym (every-both t (take i xs) (drop i xs)) ∙ ap (every t) (take-append-drop i xs) ∙ h)

  pub every_take : (i : ℕ) (xs : List A) → every t xs ≡ true → every t (take i xs) ≡ true
  every_take i xs h = (every-split i xs h).0

  pub every_drop : (i : ℕ) (xs : List A) → every t xs ≡ true → every t (drop i xs) ≡ true
  every_drop i xs h = (every-split i xs h).1

-- ---- numbers

pub value-bytes : (k n : ℕ) → n < 256 ^ k → value (bytes k n) ≡ n
unfolding bytes value
value-bytes zero n h = omega arith
value-bytes (suc k) n h =
    let v = value-bytes k (n / 256) (omega (arith, pow-suc 256 k)) in
    omega arith

pub bytes-value : (xs : List ℕ) → every byte? xs ≡ true → bytes (length xs) (value xs) ≡ xs
unfolding bytes value
bytes-value [] h = refl
bytes-value (x ∷ xs) h =
    let (b, bs) = both_true (byte? x) _ h in
    let l = ltb-true x 256 b in
    let low : (x + 256 * value xs) % 256 ≡ x = omega arith in
    let high : (x + 256 * value xs) / 256 ≡ value xs = omega arith in
    rw (low, high, bytes-value xs bs) refl

value-fits : (xs : List ℕ) → every byte? xs ≡ true → value xs < 256 ^ length xs
unfolding value
value-fits [] h = omega arith
value-fits (x ∷ xs) h =
    let (b, bs) = both_true (byte? x) _ h in
    let l = ltb-true x 256 b in
    omega (arith, value-fits xs bs, pow-suc 256 (length xs))

pub bytes-are : (k n : ℕ) → every byte? (bytes k n) ≡ true
unfolding bytes
bytes-are zero n = refl
bytes-are (suc k) n = rw (lt-ltb (n % 256) 256 (omega arith), bytes-are k (n / 256)) refl

pub laid-are : (k : ℕ) (ws : List ℤ) → every byte? (laid k ws) ≡ true
unfolding laid_by flat_map
laid-are k [] = refl
laid-are k (w ∷ ws) = every-join byte? (bytes k (bits_of k w)) (laid k ws) (bytes-are k (bits_of k w)) (laid-are k ws)

-- ---- tables

-- two tables of which each entry is the other's
tabulate-same : {A : Type 0} (a b n : ℕ) (f g : ℕ → A) → ((j : ℕ) → f (a + j) ≡ g (b + j)) → tabulate a n f ≡ tabulate b n g
unfolding tabulate
tabulate-same a b zero f g h = refl
tabulate-same {A} a b (suc n) f g h =
    let first : f a ≡ g b = ap f (sym (none a)) ∙ h 0 ∙ ap g (none b) in
    let more : (j : ℕ) → f (a + 1 + j) ≡ g (b + 1 + j) = λ j. ap f (next a j) ∙ h (j + 1) ∙ ap g (sym (next b j)) in
    λ i. first i ∷ tabulate-same (a + 1) (b + 1) n f g more i
  where
    none : (m : ℕ) → m + 0 ≡ m
    none m = omega arith

    next : (m j : ℕ) → m + 1 + j ≡ m + (j + 1)
    next m j = omega arith

module _ (k : ℕ) where
  words-none : (i : ℕ) (b : List ℕ) → words_at k i 0 b ≡ []
  unfolding read_by tabulate
  words-none i b = refl

  -- a word, and those behind it
  words-next : (i n : ℕ) (b : List ℕ) → words_at k i (suc n) b ≡ word_of k (value (take k (drop i b))) ∷ words_at k (i + k) n b
  unfolding read_by tabulate
  words-next i n b =
      let word : ℕ → ℤ = λ m. word_of k (value (take k (drop m b))) in
      let e : i + 0 * k ≡ i = omega arith in
      let more : (j : ℕ) → word (i + (0 + 1 + j) * k) ≡ word (i + k + (0 + j) * k) = λ j. ap word (next j) in
      λ m. word (e m) ∷ tabulate-same (0 + 1) 0 n (λ j. word (i + j * k)) (λ j. word (i + k + j * k)) more m
    where
      next : (j : ℕ) → i + (0 + 1 + j) * k ≡ i + k + (0 + j) * k
      next j = omega (arith, mul-suc k j)

-- ---- words of k bytes, one or more

module _ (k : ℕ) (even : 256 ^ k ≡ 2 * (256 ^ k / 2)) where
  bits-few : (w : ℤ) → word? k w ≡ true → bits_of k w < 256 ^ k
  unfolding bits_of word?
  bits-few (pos n) h = omega (arith, ltb-true n (256 ^ k / 2) h)
  bits-few (negsuc n) h = omega (arith, ltb-true n (256 ^ k / 2) h)

  bits_back : (w : ℤ) → word? k w ≡ true → word_of k (bits_of k w) ≡ w
  unfolding bits_of word_of word?
  bits_back (pos n) h = rw h refl
  bits_back (negsuc n) h =
      let l = ltb-true n (256 ^ k / 2) h in
      let e : 256 ^ k - 1 - (256 ^ k - 1 - n) ≡ n = omega arith in
      rw (le-ltb (256 ^ k - 1 - n) (256 ^ k / 2) (omega arith), e) refl

  word_back : (n : ℕ) → n < 256 ^ k → bits_of k (word_of k n) ≡ n
  unfolding bits_of word_of
  word_back n h = go (ltb n (256 ^ k / 2))
    where
      go : (b : Bool) → bits_of k (if b then pos n else negsuc (256 ^ k - 1 - n)) ≡ n
      go true = refl
      go false = omega arith

  -- laid, and read back
  pub words-laid : (ws : List ℤ) (i : ℕ) (b rest : List ℕ) → every (word? k) ws ≡ true → drop i b ≡ laid k ws ++ rest
      → words_at k i (length ws) b ≡ ws
  unfolding laid_by flat_map
  words-laid [] i b rest h e = words-none k i b
  words-laid (w ∷ ws) i b rest h e =
      let (one, more) = both_true (word? k w) _ h in
      let n = bits_of k w in
      let d : drop i b ≡ bytes k n ++ (laid k ws ++ rest) = e ∙ append_assoc (bytes k n) (laid k ws) rest in
      let front : take k (drop i b) ≡ bytes k n = ap (take k) d ∙ take_at (bytes k n) _ k (bytes-length k n) in
      let back : drop (i + k) b ≡ laid k ws ++ rest = sym (drop-drop k i b) ∙ ap (drop k) d ∙ drop_at (bytes k n) _ k (bytes-length k n) in
      words-next k i (length ws) b ∙ rw (front, value-bytes k n (bits-few w one), bits_back w one, words-laid ws (i + k) b rest more back) refl

  -- read, and laid again
  pub laid-words : (n i : ℕ) (b : List ℕ) → every byte? b ≡ true → i + k * n ≤ length b → laid k (words_at k i n b) ≡ take (k * n) (drop i b)
  unfolding laid_by flat_map
  laid-words zero i b h l = let e : k * 0 ≡ 0 = omega arith in rw (e, words-none k i b) refl
  laid-words (suc n) i b h l =
      let m = mul-suc k n in
      let xs = take k (drop i b) in
      let long : length xs ≡ k = length-take-le k (drop i b) (omega (arith, length-drop i b)) in
      let are = every_take byte? k (drop i b) (every_drop byte? i b h) in
      let fits : value xs < 256 ^ k = rw long at (value-fits xs are) in
      let same : bytes k (value xs) ≡ xs = rw long at (bytes-value xs are) in
      let e : k * suc n ≡ k + k * n = omega arith in
      rw (words-next k i n b, word_back (value xs) fits, same, laid-words n (i + k) b h (omega arith), e, take-add k (k * n) (drop i b), drop-drop k i b) refl
