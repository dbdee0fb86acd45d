-- The parked block: a record as 512 bytes, little-endian, both ways, and the outcomes of parking and resuming. Assumes nothing.
use Rattle.std.specs.Prelude.{if◌then◌else◌, ℕ, ◌+◌, ◌*◌, Bool, false, not, ◌&&◌, eqb, ℤ, pos, negsuc, length, take, drop, get_or, replicate}
use mathlib.Core.List.{List, [], ◌∷◌, ◌++◌}
use Rattle.little_endian.specs.Bytes.{bytes, value, laid, words_at}
use Rattle.filters.specs.Lists.{every}
use Rattle.stages.specs.Outcome.{Done, Outcome, outcome, ruled}
use Rattle.resampler.specs.declared.Record.{Record}
use Rattle.resampler.specs.Pairs.{supported}
use Rattle.resampler.specs.Record.{pair_of, dead, cleaned, blank}

-- ---- the check

-- each byte times its place counted from 1, added up; i is the first byte's place less 1
unfoldable pub weighed : ℕ → List ℕ → ℕ
weighed i [] = 0
weighed i (b ∷ bs) = (i + 1) * b + weighed (i + 1) bs

-- the check of a block: over its bytes 0 to 507
unfoldable pub check : List ℕ → ℕ
check b = weighed 0 (take 508 b)

-- ---- parking: rows 2, 8

abbrev pub layout : ℕ
layout = 1

-- bytes 0 to 507, with 216 of padding
unfoldable pub body : Record → List ℕ
body s =
    s.direction ∷ s.inKhz ∷ s.outKhz ∷ layout
    ∷ laid 4 s.doubler ++ laid 2 s.samples ++ laid 4 s.ar2 ++ laid 4 s.fir ++ laid 2 s.delay ++ replicate 216 0

-- dead entries are written as zero, whatever they hold
unfoldable pub block_of : Record → List ℕ
block_of s = let b = body (cleaned s) in b ++ bytes 4 (check b)

unfoldable pub park_row : Record → ℕ → ℕ
park_row s room = if not (supported (pair_of s)) then 2 else if not (eqb room 512) then 8 else 0

unfoldable pub park_outcome : Record → List ℕ → Outcome Record (List ℕ)
park_outcome s block = ruled (park_row s (length block)) s block (outcome (Done 0) s (block_of s))

-- ---- resuming: rows 8 to 12

unfoldable pub record_in : List ℕ → Record
record_in b = record {
  direction = get_or b 0 0;
  inKhz = get_or b 1 0;
  outKhz = get_or b 2 0;
  doubler = words_at 4 4 6 b;
  samples = words_at 2 28 8 b;
  ar2 = words_at 4 44 2 b;
  fir = words_at 4 52 36 b;
  delay = words_at 2 196 48 b;
}

unfoldable pub zero? : ℤ → Bool
zero? (pos n) = eqb n 0
zero? (negsuc n) = false

unfoldable pub resume_row : List ℕ → ℕ
resume_row b =
    if not (eqb (length b) 512) then 8
    else if not (eqb (value (drop 508 b)) (check b)) then 9
    else if not (eqb (get_or b 3 0) layout) then 10
    else if not (supported (pair_of (record_in b))) then 11
    else if not (every zero? (dead (record_in b)) && every (eqb 0) (take 216 (drop 292 b))) then 12
    else 0

unfoldable pub resume_outcome : List ℕ → Outcome Record (Unit {0})
resume_outcome b = ruled (resume_row b) blank tt (outcome (Done 0) (record_in b) tt)
