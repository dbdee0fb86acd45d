-- Opening a line, from the three words that ask for it to what is written to both streams. Assumes nothing.
use Rattle.std.specs.Prelude.{if◌then◌else◌, ◌≡◌, ℕ, ◌+◌, ◌*◌, ◌-◌, Bool, true, false, ◌&&◌, List, [], ◌∷◌, leb, eqb, Result, MatchResult}
use Rattle.stages.specs.declared.answer.Refusal.{Refusal}
use Rattle.stages.specs.Outcome.{row_of}
use Rattle.resampler.specs.Pairs.{Pair, pair, supported}
use Rattle.resampler.specs.Record.{fresh}
use Rattle.resampler.specs.Block.{block_of}
use Rattle.line.specs.Message.{refused}
use Rattle.line.specs.Line.{Streams, streams}

-- two words of the same letters
unfoldable pub same : List ℕ → List ℕ → Bool
same [] [] = true
same [] (y ∷ ys) = false
same (x ∷ xs) [] = false
same (x ∷ xs) (y ∷ ys) = eqb x y && same xs ys

-- `encoder` is 1 and `decoder` 0; any other word is 2, which is no direction
unfoldable pub direction_in : List ℕ → ℕ
direction_in word =
    if same word (101 ∷ 110 ∷ 99 ∷ 111 ∷ 100 ∷ 101 ∷ 114 ∷ []) then 1
    else if same word (100 ∷ 101 ∷ 99 ∷ 111 ∷ 100 ∷ 101 ∷ 114 ∷ []) then 0
    else 2

-- one or two decimal digits; any other word is 0, which is no rate
abbrev pub digit? : ℕ → Bool
digit? b = leb 48 b && leb b 57

unfoldable pub khz_in : List ℕ → ℕ
khz_in [] = 0
khz_in (a ∷ []) = if digit? a then a - 48 else 0
khz_in (a ∷ b ∷ []) = if digit? a && digit? b then 10 * (a - 48) + (b - 48) else 0
khz_in (a ∷ b ∷ c ∷ rest) = 0

-- the pair that they ask for
unfoldable pub asked_for : List ℕ → List ℕ → List ℕ → Pair
asked_for direction inKhz outKhz = pair (direction_in direction) (khz_in inKhz) (khz_in outKhz)

-- what opening a pair leaves: its fresh block and answer 0, or what stood there and answer 1
abbrev pub Opens : Pair → List ℕ → List ℕ → ℕ → Type 0
Opens p before after row = (row ≡ (if supported p then 0 else 1)) × (after ≡ (if supported p then block_of (fresh p) else before))

-- the same of what the code answers
abbrev pub OpensAs : Pair → List ℕ → List ℕ → Result (Unit {0}) Refusal → Type 0
OpensAs p before after answer = MatchResult answer (λ done. Opens p before after 0) (λ refusal. Opens p before after (row_of refusal))

-- the program: a fresh block, or refusal 1
unfoldable pub opened : List ℕ → List ℕ → List ℕ → Streams
opened direction inKhz outKhz =
    let p = asked_for direction inKhz outKhz in
    if supported p then streams (block_of (fresh p)) [] else streams [] (refused 1)
