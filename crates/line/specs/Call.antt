-- The parts of the program: beginning with a block, and one call; what they ask, and what they leave. Assumes nothing.
use Rattle.std.specs.Prelude.{◌≡◌, true, List, ℕ, ◌*◌, ◌%◌, ◌≤◌, length}
use Rattle.stages.specs.Outcome.{over}
use Rattle.resampler.specs.declared.Record.{Record}
use Rattle.resampler.specs.Pairs.{supported}
use Rattle.resampler.specs.Record.{pair_of}
use Rattle.little_endian.specs.Bytes.{laid}
use Rattle.resampler.specs.Block.{record_in, resume_row}
use Rattle.line.specs.Line.{unit, made, kept}

-- the row that a block is refused by, or 0 and the record in it, of a supported pair
pub record Begins (block : List ℕ) (row : ℕ) (s : Record) : Type 0 where
  pub is : row ≡ resume_row block
  pub resumed : row ≡ 0 → s ≡ record_in block
  pub pair : row ≡ 0 → supported (pair_of s) ≡ true

-- a supported pair, at most 100 ms of bytes, and room for what they make
pub record Asks (s : Record) (bytes room : ℕ) : Type 0 where
  pub pair : supported (pair_of s) ≡ true
  pub few : bytes ≤ 100 * unit s
  pub fits : 200 * s.outKhz ≤ room

-- the record moved on, what was made in front of the room, and how many bytes that is and how many were left over
pub record Leaves (s : Record) (b before after : List ℕ) (t : Record) (count left : ℕ) : Type 0 where
  pub moved : t ≡ kept s b
  pub filled : after ≡ over (laid 2 (made s b)) before
  pub counted : count ≡ length (laid 2 (made s b))
  pub over : left ≡ length b % unit s
