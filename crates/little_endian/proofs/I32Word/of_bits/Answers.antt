-- `little_endian::I32Word::of_bits` meets its contract: the machine's word of these bits is the definition's.
-- Assumes nothing.
use Rattle.std.proofs.Common.{rules, refl}
use mir.Syntax.{w32}
use Rattle.little_endian.proofs.Laws.Bytes.{word-is}
use Rattle.little_endian.proofs.I32Word.of_bits.Goals as goal

pub returns : goal.returns
returns c = let is = word-is 4 w32 refl refl c.args.n in search rules
