-- `little_endian::I16Word::bits` meets its contract: the machine's bits are the definition's.
-- Assumes nothing.
use Rattle.std.proofs.Common.{rules, refl}
use mir.Syntax.{w16}
use Rattle.little_endian.proofs.Laws.Bytes.{bits-are}
use Rattle.little_endian.proofs.I16Word.bits.Goals as goal

pub returns : goal.returns
returns c = let are = bits-are 2 w16 refl refl c.args.self in search rules
