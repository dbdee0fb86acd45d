-- An outcome as a C function tells it: two numbers in place of the answer, then the state, and what was lent. Assumes nothing.
use Rattle.std.specs.Prelude.{◌≡◌, ℕ, Result}
use Rattle.stages.specs.declared.answer.Refusal.{Refusal}
use Rattle.stages.specs.Outcome.{Outcome, answer_of, number, written}

pub record Told {S L : Type 0} (o : Outcome S L) (refused count : ℕ) (state : S) (lent : L) : Type 0 where
  pub number_told : refused ≡ number o.answer
  pub count_told : count ≡ written o.answer
  pub state_told : state ≡ o.state
  pub lent_told : lent ≡ o.lent

-- the two numbers of what the code answers
abbrev pub TellsAnswer : Result ℕ Refusal → ℕ → ℕ → Type 0
TellsAnswer answer refused count = (refused ≡ number (answer_of answer)) × (count ≡ written (answer_of answer))
