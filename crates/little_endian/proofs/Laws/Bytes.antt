-- Bytes, the low one first, and the words of k of them: their bits are the machine's at the width that has as many.
-- Assumes nothing.
use Rattle.std.specs.Prelude.{if◌then◌else◌}
use mathlib.Core.Path.{◌≡◌, refl, ap, ◌∙◌}
use mathlib.Core.Bool.{Bool, true, false}
use mathlib.Core.List.{List, [], ◌∷◌, ◌++◌, flat_map}
use Prim.Native.Nat.{ℕ, zero, suc, ◌+◌, ◌*◌, ◌-◌, ◌/◌, ◌%◌, ◌^◌, ◌<◌, ◌≤◌}
use native.Mathlib.Nat.{mul-suc, pow-suc}
use native.Mathlib.Omega.{arith}
use lib.Dec.{ltb}
use lib.IntN.{ℤ, pos, negsuc}
use lib.ListN.{length, take, drop, get_or, length-append}
use mir.Syntax.{Width}
use mir.Val.{to_z, of_z, bits, hbits, sel}
use Rattle.filters.proofs.Laws.Lists.{drop-next, drop-none}
use Rattle.little_endian.specs.Bytes.{bytes, value, bits_of, word_of, laid_by}

-- ---- a word and its bits

module _ (k : ℕ) (w : Width) (full : 256 ^ k ≡ 2 ^ bits w) (half : 256 ^ k / 2 ≡ 2 ^ hbits w) where
  pub word-is : (n : ℕ) → to_z w n ≡ word_of k n
  unfolding word_of
  word-is n =
      let e : 256 ^ k - 1 - n ≡ 256 ^ k - suc n = omega arith in
      rw (e, half, full) (same (ltb n (2 ^ hbits w)) _ _)
    where
      same : (b : Bool) (x y : ℤ) → sel b x y ≡ if b then x else y
      same true x y = refl
      same false x y = refl

  pub bits-are : (x : ℤ) → of_z w x ≡ bits_of k x
  unfolding bits_of
  bits-are (pos n) = refl
  bits-are (negsuc n) = let e : 256 ^ k - 1 - n ≡ 256 ^ k - suc n = omega arith in rw (e, full) refl

-- ---- bytes

pub bytes-length : (k n : ℕ) → length (bytes k n) ≡ k
unfolding bytes
bytes-length zero n = refl
bytes-length (suc k) n = ap suc (bytes-length k (n / 256))

-- one byte, and the others: the turn i of e
pub bytes_next : (e i n : ℕ) → i < e → bytes (e - i) n ≡ n % 256 ∷ bytes (e - (i + 1)) (n / 256)
unfolding bytes
bytes_next e i n h = let d : e - i ≡ suc (e - (i + 1)) = omega arith in rw d refl

pub bytes-none : (e i n : ℕ) → e ≤ i → bytes (e - i) n ≡ []
unfolding bytes
bytes-none e i n h = let d : e - i ≡ 0 = omega arith in rw d refl

-- the number of k bytes from a place on, read from the high one down
module _ (b : List ℕ) (at k : ℕ) where
  -- i bytes are still to come, and those above them are n
  pub record Read (i n : ℕ) : Type 0 where
    pub few : k ≤ 4
    pub within : at + k ≤ length b
    pub left : i ≤ k
    pub fits : n < 256 ^ (k - i)
    pub is : n ≡ value (take (k - i) (drop (at + i) b))

  pub read-start : k ≤ 4 → at + k ≤ length b → Read k 0
  unfolding value
  read-start h l =
      let e : k - k ≡ 0 = omega arith in
      record { few = h; within = l; left = omega arith; fits = rw e (omega arith); is = rw e refl }

  -- with a byte to come, at most three were read
  pub read-room : {i n : ℕ} → 0 < i → Read i n → n < 16777216
  read-room {i} {n} h r = below (k - i) (omega (arith, r.few, r.left)) r.fits
    where
      below : (m : ℕ) → m < 4 → n < 256 ^ m → n < 16777216
      below zero g l = omega arith
      below (suc zero) g l = omega arith
      below (suc (suc zero)) g l = omega arith
      below (suc (suc (suc zero))) g l = omega arith
      below (suc (suc (suc (suc m)))) g l = absurd (omega arith)

  pub read-turn : {i n : ℕ} → 0 < i → Read i n → get_or b (at + (i - 1)) 0 < 256
      → Read (i - 1) (256 * n + get_or b (at + (i - 1)) 0)
  unfolding value
  read-turn {i} {n} h r g =
      let d : k - (i - 1) ≡ suc (k - i) = omega (arith, r.left) in
      let e : at + (i - 1) + 1 ≡ at + i = omega arith in
      record {
        few = r.few;
        within = r.within;
        left = omega (arith, r.left);
        fits = rw d (omega (arith, pow-suc 256 (k - i), r.fits));
        is = rw (d, drop-next b (at + (i - 1)) 0 (omega (arith, r.left, r.within)), e) (omega (arith, r.is));
      }

-- ---- words, one behind the other

module _ {A : Type 0} (bits : A → ℕ) (k : ℕ) where
  pub laid-length : (ws : List A) → length (laid_by bits k ws) ≡ k * length ws
  unfolding laid_by flat_map
  laid-length [] = omega arith
  laid-length (w ∷ ws) =
      length-append (bytes k (bits w)) (laid_by bits k ws)
      ∙ omega (arith, bytes-length k (bits w), laid-length ws, mul-suc k (length ws))

  pub laid_next : (ws : List A) (j : ℕ) (d : A) → j < length ws
      → laid_by bits k (drop j ws) ≡ bytes k (bits (get_or ws j d)) ++ laid_by bits k (drop (j + 1) ws)
  unfolding laid_by flat_map
  laid_next ws j d h = rw (drop-next ws j d h) refl

  pub laid_none : (ws : List A) (j : ℕ) → length ws ≤ j → laid_by bits k (drop j ws) ≡ []
  unfolding laid_by flat_map
  laid_none ws j h = rw (drop-none ws j h) refl
