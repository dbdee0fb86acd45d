-- The outcomes of the entry points of this crate: the 1/2 decimator, the split and the 2/3 decimator.
-- A row is the number of the first refusal that applies, in the order in which they are tested, or 0. Assumes nothing.
use Rattle.std.specs.Prelude.{if◌then◌else◌, ℕ, ◌*◌, ◌/◌, ◌%◌, Bool, not, ◌&&◌, List, ltb, eqb, ℤ, length}
use Rattle.filters.specs.Stage.Down2.{down2, down2_end}
use Rattle.filters.specs.Stage.Down2_3.{down23, down23_end}
use Rattle.filters.specs.Stage.AnaFiltBank1.{split_low, split_high, split_end}
use Rattle.stages.specs.Outcome.{Done, Outcome, outcome, ruled, over}

-- the most samples that these take in a call
abbrev pub most_samples : ℕ
most_samples = 48000

-- of n samples of input, where half says whether every output holds exactly half of them
unfoldable pub half_row : ℕ → Bool → ℕ
half_row n half = if not (eqb (n % 2) 0) then 6 else if ltb most_samples n then 4 else if not half then 7 else 0

unfoldable pub down2_outcome : List ℤ → List ℤ → List ℤ → Outcome (List ℤ) (List ℤ)
down2_outcome w input out =
    let half = length input / 2 in
    ruled (half_row (length input) (eqb (length out) half)) w out
    (outcome (Done half) (down2_end w input) (down2 w input))

-- the count is that of one band
unfoldable pub split_outcome : List ℤ → List ℤ → List ℤ → List ℤ → Outcome (List ℤ) (List ℤ × List ℤ)
split_outcome w input low high =
    let half = length input / 2 in
    ruled (half_row (length input) (eqb (length low) half && eqb (length high) half)) w (low, high)
    (outcome (Done half) (split_end w input) (split_low w input, split_high w input))

-- of n samples of input and an output of this room
unfoldable pub down23_row : ℕ → ℕ → ℕ
down23_row n room =
    if not (eqb (n % 3) 0) then 6 else if ltb most_samples n then 4 else if ltb room (2 * (n / 3)) then 5 else 0

unfoldable pub down23_outcome : List ℤ → List ℤ → List ℤ → Outcome (List ℤ) (List ℤ)
down23_outcome w input out =
    ruled (down23_row (length input) (length out)) w out
    (outcome (Done (2 * (length input / 3))) (down23_end w input) (over (down23 w input) out))
