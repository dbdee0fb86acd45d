-- The outcomes of opening and of resampling; those of parking and resuming stand with the block.
-- A row is the number of the first refusal that applies, in the order in which they are tested, or 0. Assumes nothing.
use Rattle.std.specs.Prelude.{if◌then◌else◌, ℕ, ◌*◌, ◌/◌, ◌%◌, not, ◌||◌, List, ltb, eqb, ℤ, pos, negsuc, length}
use Rattle.stages.specs.Outcome.{Done, Outcome, outcome, ruled, over}
use Rattle.resampler.specs.declared.Record.{Record}
use Rattle.resampler.specs.Pairs.{Pair, pair, supported}
use Rattle.resampler.specs.Record.{pair_of, fresh, blank}
use Rattle.resampler.specs.Resample.{made, converted, after}

-- ---- opening: row 1

-- the kHz of a rate in Hz; 0, which is no rate, where they aren't whole
unfoldable pub khz : ℤ → ℕ
khz (pos hz) = if eqb (hz % 1000) 0 then hz / 1000 else 0
khz (negsuc n) = 0

-- forEnc is 0 for the decoder, and anything else for the encoder
unfoldable pub direction_of : ℤ → ℕ
direction_of (pos n) = if eqb n 0 then 0 else 1
direction_of (negsuc n) = 1

unfoldable pub asked : ℤ → ℤ → ℤ → Pair
asked inHz outHz forEnc = pair (direction_of forEnc) (khz inHz) (khz outHz)

unfoldable pub open_outcome : ℤ → ℤ → ℤ → Outcome Record (Unit {0})
open_outcome inHz outHz forEnc =
    let p = asked inHz outHz forEnc in
    ruled (if not (supported p) then 1 else 0) blank tt (outcome (Done 0) (fresh p) tt)

-- ---- resampling: rows 2, 3, 4, 5

-- of n samples of input and an output of this room
unfoldable pub resample_row : Pair → ℕ → ℕ → ℕ
resample_row p n room =
    if not (supported p) then 2
    else if eqb n 0 || not (eqb (n % p.inKhz) 0) then 3
    else if ltb (1000 * p.inKhz) n then 4
    else if ltb room (made p n) then 5
    else 0

unfoldable pub resample_outcome : Record → List ℤ → List ℤ → Outcome Record (List ℤ)
resample_outcome s input out =
    ruled (resample_row (pair_of s) (length input) (length out)) s out
    (outcome (Done (made (pair_of s) (length input))) (after s input) (over (converted s input) out))
