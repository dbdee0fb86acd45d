-- Outcomes: what a row leads to, what the shared rows show where none applies, and an output that is filled to its end.
-- Assumes nothing.
use Rattle.std.specs.Prelude.{if◌then◌else◌, Result, Ok, Err}
use mathlib.Core.Path.{◌≡◌, refl, sym, ap, ◌∙◌}
use mathlib.Core.Bool.{Bool, true, false, not}
use Prim.Native.Nat.{ℕ, ◌*◌, ◌/◌, ◌%◌, ◌≤◌}
use native.Mathlib.Omega.{arith}
use borrow.Author.Tests.{ne_eqb, eqb-true, ltb-false}
use lib.Dec.{ltb, eqb}
use Rattle.stages.specs.declared.answer.Refusal.{Refusal}
use Rattle.stages.specs.declared.answer.Refusal.TheVariants.{PairNotListed, NoSupportedPair, NotWholeMilliseconds, TooLong, OutputTooShort, NotInGroups, NotHalf, NotABlock, CheckDiffers, LayoutUnknown, BlockPairUnsupported, DeadNotZero}
use Rattle.stages.specs.Outcome.{Done, Outcome, outcome, ruled, row_of, answer_of, number, written}
use Rattle.stages.specs.Entry.{half_row, down23_row, most_samples}

-- no refusal is row 0
pub refusal-is-no-0 : (refusal : Refusal) → row_of refusal ≡ 0 → ⊥
refusal-is-no-0 = elim [
  | PairNotListed ↦ λ e. omega arith
  | NoSupportedPair ↦ λ e. omega arith
  | NotWholeMilliseconds ↦ λ e. omega arith
  | TooLong ↦ λ e. omega arith
  | OutputTooShort ↦ λ e. omega arith
  | NotInGroups ↦ λ e. omega arith
  | NotHalf ↦ λ e. omega arith
  | NotABlock ↦ λ e. omega arith
  | CheckDiffers ↦ λ e. omega arith
  | LayoutUnknown ↦ λ e. omega arith
  | BlockPairUnsupported ↦ λ e. omega arith
  | DeadNotZero ↦ λ e. omega arith
]

-- the refusal of a row
refusal-at : ℕ → Refusal
refusal-at row =
    if eqb row 1 then PairNotListed else if eqb row 2 then NoSupportedPair else if eqb row 3 then NotWholeMilliseconds
    else if eqb row 4 then TooLong else if eqb row 5 then OutputTooShort else if eqb row 6 then NotInGroups
    else if eqb row 7 then NotHalf else if eqb row 8 then NotABlock else if eqb row 9 then CheckDiffers
    else if eqb row 10 then LayoutUnknown else if eqb row 11 then BlockPairUnsupported else DeadNotZero

refusal-there : (refusal : Refusal) → refusal-at (row_of refusal) ≡ refusal
unfolding refusal-at
refusal-there = elim [
  | PairNotListed ↦ refl
  | NoSupportedPair ↦ refl
  | NotWholeMilliseconds ↦ refl
  | TooLong ↦ refl
  | OutputTooShort ↦ refl
  | NotInGroups ↦ refl
  | NotHalf ↦ refl
  | NotABlock ↦ refl
  | CheckDiffers ↦ refl
  | LayoutUnknown ↦ refl
  | BlockPairUnsupported ↦ refl
  | DeadNotZero ↦ refl
]

-- no two refusals have one row, and none has that of what is done: the numbers of the table tell the code's answers apart
pub answer-tells : (a b : Result ℕ Refusal) → answer_of a ≡ answer_of b → a ≡ b
answer-tells (Ok n) (Ok m) e = ap Ok (ap written e)
answer-tells (Ok n) (Err q) e = absurd (refusal-is-no-0 q (sym (ap number e)))
answer-tells (Err p) (Ok m) e = absurd (refusal-is-no-0 p (ap number e))
answer-tells (Err p) (Err q) e = ap Err (sym (refusal-there p) ∙ ap refusal-at (ap number e) ∙ refusal-there q)

module _ {S L : Type 0} (s : S) (l : L) {r : ℕ} {a : Result ℕ Refusal} {t : S} where
  -- a row applies: the state and what was lent are as they were
  pub ruled-refused : (done : Outcome S L) (refusal : Refusal) → row_of refusal ≡ r → (a ≡ Err refusal) × (t ≡ s) → outcome (answer_of a) t l ≡ ruled r s l done
  ruled-refused done refusal e (h, k) =
      rw (h, k) (rw (← e) (simp (ne_eqb (row_of refusal) 0 (refusal-is-no-0 refusal))))

  -- none does: the state is what was kept, and what was lent what was made
  pub ruled-done : 0 ≡ r → {n : ℕ} {u kept : S} {lent made : L} → (a ≡ Ok n) × (t ≡ u) → u ≡ kept → lent ≡ made → outcome (answer_of a) t lent ≡ ruled r s l (outcome (Done n) kept made)
  ruled-done e (h, k) c m = rw (h, k, c, m) (rw (← e) refl)

-- where no row applies to the 1/2 decimator or the split, the outputs are just half as long
pub half-fits : (n : ℕ) (half : Bool) → half_row n half ≡ 0 → half ≡ true
unfolding half_row
half-fits n half h = last (not (eqb (n % 2) 0)) (ltb most_samples n) half h
  where
    last : (a b c : Bool) → ◌≡◌ {A = ℕ} (if a then 6 else if b then 4 else if not c then 7 else 0) 0 → c ≡ true
    last true b c e = absurd (omega arith)
    last false true c e = absurd (omega arith)
    last false false true e = refl
    last false false false e = absurd (omega arith)

pub half-even : (n : ℕ) (half : Bool) → half_row n half ≡ 0 → n % 2 ≡ 0
unfolding half_row
half-even n half h = eqb-true (n % 2) 0 (last (eqb (n % 2) 0) h)
  where
    last : (a : Bool) → ◌≡◌ {A = ℕ} (if not a then 6 else if ltb most_samples n then 4 else if not half then 7 else 0) 0 → a ≡ true
    last true e = refl
    last false e = absurd (omega arith)

-- where none applies to the 2/3 decimator, the samples are whole groups and their outputs have room
pub third-fits : (n room : ℕ) → down23_row n room ≡ 0 → (n % 3 ≡ 0) × (2 * (n / 3) ≤ room)
unfolding down23_row
third-fits n room h =
    let (whole, few) = last (eqb (n % 3) 0) (ltb most_samples n) (ltb room (2 * (n / 3))) h in
    (eqb-true (n % 3) 0 whole, ltb-false room (2 * (n / 3)) few)
  where
    last : (a b c : Bool) → ◌≡◌ {A = ℕ} (if not a then 6 else if b then 4 else if c then 5 else 0) 0 → (a ≡ true) × (c ≡ false)
    last false b c e = absurd (omega arith)
    last true true c e = absurd (omega arith)
    last true false true e = absurd (omega arith)
    last true false false e = (refl, refl)
