-- The words that ask for a line; and what opening and parking leave of a pair. Assumes nothing.
use Rattle.std.specs.Prelude.{if◌then◌else◌}
use mathlib.Core.Path.{◌≡◌, refl, ap, ◌∙◌}
use mathlib.Core.Bool.{Bool, true, false, not, ◌&&◌}
use mathlib.Core.List.{List, [], ◌∷◌}
use Prim.Native.Nat.{ℕ, zero, suc, ◌*◌, ◌/◌, ◌%◌, ◌<◌, ◌≤◌}
use native.Mathlib.Omega.{arith}
use lib.Dec.{eqb}
use lib.IntN.{ℤ, pos, ◌*ℤ◌}
use mir.Facts.{to_z-of_z}
use mir.Syntax.{w32}
use mir.Val.{to_z, of_z}
use lib.ListN.{length}
use Rattle.std.specs.Str.{bytes_eq}
use Rattle.stages.specs.Outcome.{Answer, Done, Refused, Outcome, outcome, number, ruled}
use Rattle.resampler.specs.declared.Record.{Record}
use Rattle.resampler.specs.Pairs.{Pair, pair, supported, has, five, three}
use Rattle.resampler.specs.Record.{keeping, record_of, fresh, blank}
use Rattle.resampler.specs.Entry.{khz, direction_of, asked, open_outcome}
use Rattle.resampler.specs.Block.{block_of, park_outcome}
use Rattle.line.proofs.Laws.Ends.{parked}
use Rattle.line.specs.Opening.{same, Opens}

-- ---- words

-- the definition compares as the library does
pub same_is : (xs ys : List ℕ) → same xs ys ≡ bytes_eq xs ys
unfolding same
same_is [] [] = refl
same_is [] (y ∷ ys) = refl
same_is (x ∷ xs) [] = refl
same_is (x ∷ xs) (y ∷ ys) = ap (λ (b : Bool). eqb x y && b) (same_is xs ys)

-- ---- opening

-- a number below 2^31 is stored in a word and read back
stored : (n : ℕ) → n < 2147483648 → to_z w32 (of_z w32 (pos n)) ≡ pos n
stored n h = to_z-of_z {w = w32} {z = pos n} (record { sfits = omega arith })

-- kHz in a byte, taken to Hz
in_hz : (n : ℕ) {z : ℤ} → n < 256 → z ≡ pos n → to_z w32 (of_z w32 (pos 1000 *ℤ to_z w32 (of_z w32 z))) ≡ pos (1000 * n)
in_hz n h e = rw (e, stored n (omega arith)) (stored (1000 * n) (omega arith))

as_word : (n : ℕ) {z : ℤ} → n < 256 → z ≡ pos n → to_z w32 (of_z w32 z) ≡ pos n
as_word n h e = rw e (stored n (omega arith))

-- so what is opened is the pair in kHz
pub opened-as : (d i o : ℕ) {x y z : ℤ} {t : Outcome Record (Unit {0})} → d < 256 → i < 256 → o < 256 → x ≡ pos i → y ≡ pos o → z ≡ pos d
    → t ≡ open_outcome (to_z w32 (of_z w32 (pos 1000 *ℤ to_z w32 (of_z w32 x)))) (to_z w32 (of_z w32 (pos 1000 *ℤ to_z w32 (of_z w32 y)))) (to_z w32 (of_z w32 z))
    → t ≡ open_outcome (pos (1000 * i)) (pos (1000 * o)) (pos d)
opened-as d i o f g h x y z e = rw (in_hz i g x, in_hz o h y, as_word d f z) at e

khz-is : (i : ℕ) → khz (pos (1000 * i)) ≡ i
unfolding khz
khz-is i =
    let z : 1000 * i % 1000 ≡ 0 = omega arith in
    let e : 1000 * i / 1000 ≡ i = omega arith in
    rw (z, e) refl

direction-is : (d : ℕ) → d ≤ 1 → direction_of (pos d) ≡ d
unfolding direction_of
direction-is zero h = refl
direction-is (suc zero) h = refl
direction-is (suc (suc d)) h = absurd (omega arith)

module _ (d i o : ℕ) (h : d ≤ 1) where
  abbrev p : Pair
  p = pair d i o

  abbrev Row : ℕ
  Row = if not (supported p) then 1 else 0

  outcome-is : open_outcome (pos (1000 * i)) (pos (1000 * o)) (pos d) ≡ ruled Row blank tt (outcome (Done 0) (fresh p) tt)
  unfolding open_outcome asked
  outcome-is = rw (khz-is i, khz-is o, direction-is d h) refl

  -- a done opening and a refused one
  pub open_done : {n : ℕ} {r : Record} → outcome (Done n) r (tt {0}) ≡ open_outcome (pos (1000 * i)) (pos (1000 * o)) (pos d) → (supported p ≡ true) × (r ≡ fresh p)
  open_done {n} {r} e = go (supported p) refl (e ∙ outcome-is)
    where
      go : (b : Bool) → supported p ≡ b → outcome (Done n) r (tt {0}) ≡ ruled (if not b then 1 else 0) blank (tt {0}) (outcome (Done 0) (fresh p) (tt {0}))
          → (supported p ≡ true) × (r ≡ fresh p)
      go true y q = (y, ap (λ (t : Outcome Record (Unit {0})). t.state) q)
      go false y q = let w = ap (λ (t : Outcome Record (Unit {0})). t.answer) q in cc

  pub open-refused : {k : ℕ} {r : Record} → outcome (Refused k) r (tt {0}) ≡ open_outcome (pos (1000 * i)) (pos (1000 * o)) (pos d) → (k ≡ 1) × (supported p ≡ false)
  open-refused {k} {r} e = go (supported p) refl (e ∙ outcome-is)
    where
      go : (b : Bool) → supported p ≡ b → outcome (Refused k) r (tt {0}) ≡ ruled (if not b then 1 else 0) blank (tt {0}) (outcome (Done 0) (fresh p) (tt {0}))
          → (k ≡ 1) × (supported p ≡ false)
      go true y q = let w = ap (λ (t : Outcome Record (Unit {0})). t.answer) q in cc
      go false y q = (ap (λ (t : Outcome Record (Unit {0})). number t.answer) q, y)

-- no pair has another direction, or a rate of 0
pub no-direction : (d i o : ℕ) → 2 ≡ d → supported (pair d i o) ≡ false
unfolding supported
no-direction d i o e = rw (← e) refl

never : (b : Bool) → (b && false) ≡ false
never true = refl
never false = refl

pub no-rate-in : (d i o : ℕ) → 0 ≡ i → supported (pair d i o) ≡ false
unfolding supported
no-rate-in d i o e = rw (← e, never (eqb d 1), never (eqb d 0)) refl

pub no-rate-out : (d i o : ℕ) → 0 ≡ o → supported (pair d i o) ≡ false
unfolding supported
no-rate-out d i o e = rw (← e, never (eqb d 1 && has five i), never (eqb d 0 && has three i)) refl

-- ---- parking what was opened

pub fresh-parked : (q : Pair) (before : List ℕ) {a : Answer} (s : Record) {t : Record} {after : List ℕ} → supported q ≡ true → s ≡ fresh q
    → length before ≡ 512 → outcome a t after ≡ park_outcome s before → after ≡ block_of (fresh q)
unfolding fresh record_of keeping
fresh-parked q before s h e l r = parked (fresh q) before h l (rw e at r)

pub opens : (q : Pair) (before : List ℕ) {after : List ℕ} → supported q ≡ true → after ≡ block_of (fresh q) → Opens q before after 0
opens q before h e = rw h (refl, e)

pub stays-shut : (q : Pair) (before : List ℕ) {row : ℕ} → row ≡ 1 → supported q ≡ false → Opens q before before row
stays-shut q before e h = rw h (e, refl)
