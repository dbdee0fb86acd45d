-- What a call leaves behind: its answer, the state that it returns and the output that was lent to it, refused calls too.
-- Cited by every entry point, here and in the resampler. Assumes nothing.
use Rattle.std.specs.Prelude.{if◌then◌else◌, ◌≡◌, ℕ, List, ◌++◌, eqb, length, drop, Option, None, Some, Result, Ok, Err}
use Rattle.stages.specs.declared.answer.Refusal.{Refusal}
use Rattle.stages.specs.declared.answer.Refusal.TheVariants.{PairNotListed, NoSupportedPair, NotWholeMilliseconds, TooLong, OutputTooShort, NotInGroups, NotHalf, NotABlock, CheckDiffers, LayoutUnknown, BlockPairUnsupported, DeadNotZero}

-- done, with the samples written, or refused, with the number of the row that applies
pub data Answer : Type 0 where
  Done : ℕ → Answer
  Refused : ℕ → Answer

-- the number of an answer in the table of numbered answers, and the samples that it reports written
abbrev pub number : Answer → ℕ
number (Done n) = 0
number (Refused k) = k

abbrev pub written : Answer → ℕ
written (Done n) = n
written (Refused k) = 0

-- the row of each refusal of the code
abbrev pub row_of : Refusal → ℕ
row_of PairNotListed = 1
row_of NoSupportedPair = 2
row_of NotWholeMilliseconds = 3
row_of TooLong = 4
row_of OutputTooShort = 5
row_of NotInGroups = 6
row_of NotHalf = 7
row_of NotABlock = 8
row_of CheckDiffers = 9
row_of LayoutUnknown = 10
row_of BlockPairUnsupported = 11
row_of DeadNotZero = 12

-- of a test that may refuse: 0 where it does not
abbrev pub row : Option Refusal → ℕ
row None = 0
row (Some refusal) = row_of refusal

-- what the code answers, in the numbers of the table
abbrev pub answer_of : Result ℕ Refusal → Answer
answer_of (Ok n) = Done n
answer_of (Err refusal) = Refused (row_of refusal)

pub record Outcome (S L : Type 0) : Type 0 where
  pub answer : Answer
  pub state : S
  pub lent : L

module _ {S L : Type 0} where
  abbrev pub outcome : Answer → S → L → Outcome S L
  outcome a s l = record { answer = a; state = s; lent = l }

  -- a call on which row applies: 0 is no row, and the call is done; a refusal returns s and leaves what was lent as it was
  abbrev pub ruled : ℕ → S → L → Outcome S L → Outcome S L
  ruled row s l done = if eqb row 0 then done else outcome (Refused row) s l

-- new samples in front, what lies beyond them as it was
abbrev pub over : {A : Type 0} → List A → List A → List A
over new old = new ++ drop (length new) old

-- what a stage leaves: the samples `made` in front of the output that was lent to it, and the words `kept`
pub record Staged {S A : Type 0} (made : List A) (kept : S) (before after : List A) (words : S) : Type 0 where
  pub filled : after ≡ over made before
  pub carried : words ≡ kept
