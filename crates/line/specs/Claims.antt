-- What is claimed of the program, a sentence and a statement each. The proofs stand in proofs/Claims.antt.
use Rattle.std.specs.Prelude.{◌≡◌, true, ℕ, ◌*◌, ◌<◌, List, [], ◌∷◌, ◌++◌, eqb, length}
use Rattle.filters.specs.Lists.{joined, every}
use Rattle.resampler.specs.declared.Record.{Record}
use Rattle.little_endian.specs.Bytes.{laid}
use Rattle.resampler.specs.Block.{block_of, record_in, resume_row}
use Rattle.line.specs.Message.{refused}
use Rattle.line.specs.Line.{Streams, streams, unit, made, kept, goes_on, program}

-- call by call, as the bytes are read: what each piece makes is written before the next one is read
unfoldable pub fed : Record → List (List ℕ) → List ℕ → Streams
fed s [] last = goes_on s last
fed s (b ∷ bs) last = let later = fed (kept s b) bs last in streams (laid 2 (made s b) ++ later.out) later.err

-- pieces of 100 ms and then what is left come to the whole program
unfoldable pub CallByCall : Type 0
CallByCall =
    (block : List ℕ) (pieces : List (List ℕ)) (last : List ℕ) → resume_row block ≡ 0
    → every (λ b. eqb (length b) (100 * unit (record_in block))) pieces ≡ true
    → program (block ++ (joined pieces ++ last)) ≡ fed (record_in block) pieces last

-- fewer bytes than a block are refusal 8, and nothing else is written
unfoldable pub ShortRefused : Type 0
ShortRefused = (input : List ℕ) → length input < 512 → program input ≡ streams [] (refused 8)

-- a block and no samples: just the block that the record parks as
unfoldable pub EmptyLine : Type 0
EmptyLine = (block : List ℕ) → resume_row block ≡ 0 → program block ≡ streams (block_of (record_in block)) []
