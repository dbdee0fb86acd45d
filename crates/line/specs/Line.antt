-- The program, from the bytes that it reads to those that it writes to both streams. Assumes nothing.
use Rattle.std.specs.Prelude.{if◌then◌else◌, ℕ, ◌*◌, ◌/◌, ◌%◌, List, [], ◌++◌, eqb, ℤ, length, take, drop}
use Rattle.filters.specs.Run.{pass_out, pass_end}
use Rattle.resampler.specs.declared.Record.{Record}
use Rattle.resampler.specs.Resample.{converted, after}
use Rattle.little_endian.specs.Bytes.{laid, words_at}
use Rattle.resampler.specs.Block.{block_of, record_in, resume_row}
use Rattle.line.specs.Message.{refused, left_over}

-- standard output and standard error
pub record Streams : Type 0 where
  pub out : List ℕ
  pub err : List ℕ

abbrev pub streams : List ℕ → List ℕ → Streams
streams out err = record { out = out; err = err }

-- the bytes of a millisecond of input
abbrev pub unit : Record → ℕ
unit s = 2 * s.inKhz

-- the samples of the whole milliseconds
unfoldable pub taken : Record → List ℕ → List ℤ
taken s b = words_at 2 0 (length b / unit s * s.inKhz) b

-- calls of 100 ms, the last one what is left: what they make of these samples, and the record after them
unfoldable pub made : Record → List ℕ → List ℤ
made s b = pass_out converted after (100 * s.inKhz) s (taken s b)

unfoldable pub kept : Record → List ℕ → Record
kept s b = pass_end after (100 * s.inKhz) s (taken s b)

-- a line that goes on with these bytes
unfoldable pub goes_on : Record → List ℕ → Streams
goes_on s b =
    let left = length b % unit s in
    streams (laid 2 (made s b) ++ block_of (kept s b)) (if eqb left 0 then [] else left_over left)

-- the whole program: one block, and then samples
unfoldable pub program : List ℕ → Streams
program input =
    let block = take 512 input in
    if eqb (resume_row block) 0 then goes_on (record_in block) (drop 512 input) else streams [] (refused (resume_row block))
