-- Loops over the words of a block, for words of k bytes: laying them from a place on, and taking them from there.
-- Assumes nothing.
use mathlib.Core.Path.{◌≡◌, ◌∙◌}
use mathlib.Core.List.{List, ◌++◌, append-nil}
use Prim.Native.Nat.{ℕ, suc, ◌+◌, ◌*◌, ◌-◌, ◌<◌, ◌≤◌}
use native.Mathlib.Nat.{mul-suc, mul-le-mul, mul_comm}
use native.Mathlib.Numerals.{add-one}
use native.Mathlib.Omega.{arith}
use lib.ListN.{length, take, drop, set, get_or}
use Rattle.filters.specs.Lists.{tabulate}
use Rattle.filters.proofs.Laws.Lists.{tabulate-length, tabulate-next, tabulate-none, drop-none}
use Rattle.stages.proofs.Laws.Loop.{Filling, fill_one, fill_end}
use Rattle.little_endian.specs.Bytes.{bytes, value, laid_by, read_by}
use Rattle.little_endian.proofs.Laws.Bytes.{bytes-length, laid-length, laid_next, laid_none}
use Rattle.little_endian.proofs.Laws.Place.{placed, place_end, place-part}

-- the word j of n has room behind those before it
word_room : (k j n : ℕ) → j < n → k * j + k ≤ k * n
word_room k j n h = omega (arith, mul-suc k j, mul-le-mul {n₁ = k} {m₁ = suc j} {n₂ = k} {m₂ = n} (omega arith) h)

next_word : (at k j : ℕ) → at + k * j + k ≡ at + k * (j + 1)
next_word at k j = rw add-one (omega (arith, mul-suc k j))

module _ {A : Type 0} (bits : A → ℕ) (k at : ℕ) (ws : List A) (old : List ℕ) where
  -- j words are laid
  pub record Laying (j : ℕ) (o : List ℕ) : Type 0 where
    pub room : at + k * length ws ≤ length old
    pub filling : Filling (take at old ++ laid_by bits k ws) old (at + k * j) o (laid_by bits k (drop j ws))

  pub lay-room : {j : ℕ} {o : List ℕ} → j < length ws → Laying j o → at + k * j + k ≤ length o
  lay-room {j} h l = omega (arith, word_room k j (length ws) h, l.room, l.filling.len)

  pub lay-turn : {j n : ℕ} {o z : List ℕ} (d : A) → j < length ws → Laying j o → n ≡ bits (get_or ws j d)
      → z ≡ placed (at + k * j) (bytes k n) k o → Laying (j + 1) z
  lay-turn {j} {n} d h l e p =
      let f = rw (laid_next bits k ws j d h, ← e) at l.filling in
      record {
        room = l.room;
        filling = rw (← next_word at k j) (place-part (bytes k n) k (bytes-length k n) f (lay-room h l) p);
      }

  pub lay-end : {j : ℕ} {o : List ℕ} → length ws ≤ j → Laying j o → o ≡ placed at (laid_by bits k ws) (k * length ws) old
  lay-end {j} h l =
      place_end at _ old (omega (arith, l.room)) _ (laid-length bits k ws) (rw (laid_none bits k ws j h) at l.filling)

module _ {A : Type 0} (of_bits : ℕ → A) (k at : ℕ) (b : List ℕ) (old : List A) where
  abbrev word : ℕ → A
  word j = of_bits (value (take k (drop (at + j * k) b)))

  -- j words are taken
  pub record Taking (j : ℕ) (o : List A) : Type 0 where
    pub room : at + k * length old ≤ length b
    pub filling : Filling (tabulate 0 (length old) word) old j o (tabulate j (length old - j) word)

  pub take-turn : {j : ℕ} {o : List A} {x : A} → j < length o → Taking j o
      → x ≡ of_bits (value (take k (drop (at + k * j) b))) → Taking (j + 1) (set o j x)
  take-turn {j} {o} {x} h t e =
      let p : k * j ≡ j * k = omega (arith, mul_comm k j) in
      let d : x ≡ word j = rw p at e in
      let n : j < length old = omega (arith, t.filling.len) in
      record {
        room = t.room;
        filling = fill_one _ old (rw (tabulate-next (length old) j word n, ← d) at t.filling) h;
      }

  pub take-end : {j : ℕ} {o : List A} → length o ≤ j → Taking j o → o ≡ read_by of_bits k at (length old) b
  unfolding read_by
  take-end {j} h t =
      let f = rw (tabulate-none (length old) j word (omega (arith, t.filling.len))) at t.filling in
      let l = tabulate-length 0 (length old) word in
      fill_end _ old f ∙ rw (drop-none old (length (tabulate 0 (length old) word)) (omega arith)) (append-nil _)
