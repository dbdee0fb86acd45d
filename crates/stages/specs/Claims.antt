-- What is claimed of the promises, a sentence and a statement each. The proofs stand in proofs/Claims.antt.
use Rattle.std.specs.Prelude.{◌≡◌, ◌&&◌, ℕ, ◌/◌, List, [], eqb, ℤ, length, take, drop, Result}
use Rattle.stages.specs.declared.answer.Refusal.{Refusal}
use Rattle.stages.specs.Outcome.{Done, Outcome, outcome, answer_of, number, written, Staged}
use Rattle.filters.specs.Lists.{padded}
use Rattle.stages.specs.Entry.{half_row, down23_row, down2_outcome, split_outcome, down23_outcome}

-- a promise fixes all that a call leaves: two outcomes that it allows are one, refused or done
abbrev pub Fixed : {S L : Type 0} → Outcome S L → Type 0
Fixed promised = (a b : Outcome _ _) → a ≡ promised → b ≡ promised → a ≡ b

unfoldable pub OutcomesFixed : Type 0
OutcomesFixed =
    (w input out high : List ℤ)
    → Fixed (down2_outcome w input out) × Fixed (split_outcome w input out high) × Fixed (down23_outcome w input out)

-- and all that the code returns: any two of its answers that a promise allows are one, the refusal itself too, and so are the states
-- and what was lent
unfoldable pub AnswersFixed : Type 1
AnswersFixed =
    (S L : Type 0) (promised : Outcome S L) (a b : Result ℕ Refusal) (s t : S) (l m : L)
    → outcome (answer_of a) s l ≡ promised → outcome (answer_of b) t m ≡ promised → (a ≡ b) × (s ≡ t) × (l ≡ m)

-- likewise for a stage that is no entry point: any two outputs that its promise allows are one, and so are the words
unfoldable pub StagesFixed : Type 1
StagesFixed =
    (S A : Type 0) (made before : List A) (kept : S) (o p : List A) (w v : S) → Staged made kept before o w → Staged made kept before p v → (o ≡ p) × (w ≡ v)

-- and the words of a down filter, of which the live ones are fixed so and the others are zero
unfoldable pub DeadFixed : Type 0
DeadFixed = (order : ℕ) (f g : List ℤ) → take order f ≡ take order g → f ≡ padded 36 (take order f) → g ≡ padded 36 (take order g) → f ≡ g

-- a row that applies is the answer's number; no sample is reported; words and output are as they were
pub record Refuses {S L : Type 0} (row : ℕ) (s : S) (lent : L) (o : Outcome S L) : Type 0 where
  pub numbered : number o.answer ≡ row
  pub none : written o.answer ≡ 0
  pub same : o.state ≡ s
  pub untouched : o.lent ≡ lent

abbrev pub RefusedBy : {S L : Type 0} → ℕ → S → L → Outcome S L → Type 0
RefusedBy row s lent o = (row ≡ 0 → ⊥) → Refuses row s lent o

unfoldable pub RefusalsRefuse : Type 0
RefusalsRefuse =
    (w input out high : List ℤ) → let n = length input in let half = eqb (length out) (n / 2) in
    RefusedBy (half_row n half) w out (down2_outcome w input out)
    × RefusedBy (half_row n (half && eqb (length high) (n / 2))) w (out, high) (split_outcome w input out high)
    × RefusedBy (down23_row n (length out)) w out (down23_outcome w input out)

-- no samples: done, none written, words and output as they were
unfoldable pub NothingKept : Type 0
NothingKept =
    (w v out : List ℤ) → length w ≡ 6
    → (down2_outcome v [] [] ≡ outcome (Done 0) v []) × (split_outcome v [] [] [] ≡ outcome (Done 0) v ([], [])) × (down23_outcome w [] out ≡ outcome (Done 0) w out)

-- the 2/3 decimator leaves what lies beyond the samples that it reports as it was
unfoldable pub BeyondUntouched : Type 0
BeyondUntouched =
    (w input out : List ℤ) → let o = down23_outcome w input out in drop (written o.answer) o.lent ≡ drop (written o.answer) out
