-- What is claimed of the definitions, a sentence and a statement each. The proofs stand in proofs/Claims.antt.
use Rattle.std.specs.Prelude.{◌≡◌, Bool, true, List, map, ℕ, ◌*◌, ◌/◌, ◌^◌, ltb, leb, ℤ, pos, negsuc, length}
use Rattle.filters.specs.Lists.{every}
use Rattle.stages.specs.Outcome.{Done, outcome}
use Rattle.stages.specs.Claims.{Fixed}
use Rattle.resampler.specs.Pairs.{Pair, supported, thirty, path, up2x, increment}
use Rattle.resampler.specs.declared.Record.{Record}
use Rattle.resampler.specs.Record.{pair_of, dead}
use Rattle.resampler.specs.Resample.{converted}
use Rattle.resampler.specs.Entry.{open_outcome, resample_row, resample_outcome}
use Rattle.resampler.specs.Block.{block_of, park_outcome, record_in, zero?, resume_row, resume_outcome}
use Rattle.resampler.specs.Cases.{cases}

-- the definitions give what every marked case says
unfoldable pub CasesHold : Type 0
CasesHold = map (λ c. c.given) cases ≡ map (λ c. c.said) cases

-- there are thirty pairs in the list, each of them supported
unfoldable pub ThirtySupported : Type 0
ThirtySupported = (length thirty ≡ 30) × (every supported thirty ≡ true)

-- at every pair's increment the outputs of a second read the whole of it: four steps up are never too few
abbrev pub reaches : Pair → Bool
reaches p = leb (1000 * p.inKhz * 2 ^ up2x (path p)) (increment p * (1000 * p.outKhz) / 65536)

unfoldable pub IncrementsReach : Type 0
IncrementsReach = every reaches thirty ≡ true

-- the promises of the four entry points fix all that these leave: two outcomes that they allow are one, refused or done
unfoldable pub OutcomesFixed : Type 0
OutcomesFixed =
    ((inHz outHz forEnc : ℤ) → Fixed (open_outcome inHz outHz forEnc)) × ((s : Record) (input out : List ℤ) → Fixed (resample_outcome s input out))
    × ((s : Record) (block : List ℕ) → Fixed (park_outcome s block)) × ((block : List ℕ) → Fixed (resume_outcome block))

-- ---- there and back

-- what the machine can hold: a byte, a signed word of k bytes, an array of n of these
abbrev pub byte? : ℕ → Bool
byte? n = ltb n 256

unfoldable pub word? : ℕ → ℤ → Bool
word? k (pos n) = ltb n (256 ^ k / 2)
word? k (negsuc n) = ltb n (256 ^ k / 2)

abbrev pub Array : ℕ → ℕ → List ℤ → Type 0
Array n k ws = (length ws ≡ n) × (every (word? k) ws ≡ true)

-- and a record
pub record Held (s : Record) : Type 0 where
  pub doubler : Array 6 4 s.doubler
  pub samples : Array 8 2 s.samples
  pub ar2 : Array 2 4 s.ar2
  pub fir : Array 36 4 s.fir
  pub delay : Array 48 2 s.delay

-- a parked record is resumed as it was: any that the machine can hold, of a supported pair, with its dead entries zero
unfoldable pub ResumeParked : Type 0
ResumeParked = (s : Record) → Held s → supported (pair_of s) ≡ true → every zero? (dead s) ≡ true
    → resume_outcome (block_of s) ≡ outcome (Done 0) s tt

-- a block that is accepted is the block of the record in it: no other form of a record is accepted
unfoldable pub ParkResumed : Type 0
ParkResumed = (b : List ℕ) → every byte? b ≡ true → resume_row b ≡ 0 → block_of (record_in b) ≡ b

-- ---- calls

-- a call on which no row applies makes out-kHz samples for each millisecond, on every pair
unfoldable pub OutputsCounted : Type 0
OutputsCounted = (s : Record) (input : List ℤ) (room : ℕ) → Held s → resample_row (pair_of s) (length input) room ≡ 0
    → length (converted s input) ≡ length input / s.inKhz * s.outKhz
