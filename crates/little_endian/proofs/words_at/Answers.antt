-- `little_endian::words_at` meets its contract: at each turn what is taken and what is left are the whole.
-- Assumes nothing.
use mathlib.Core.Path.{ap, ◌∙◌}
use native.Mathlib.Omega.{arith}
use Rattle.little_endian.proofs.Laws.Laying.{take-turn, take-end}
use Rattle.little_endian.proofs.words_at.Goals as goal

pub loop-j-preserved : goal.loop-j-preserved
loop-j-preserved g c =
    let number = rw (c.BYTES.ensures, c.BYTES-in-loop-j.ensures) at c.number.ensures.0 in
    take-turn _ _ _ _ _ (omega arith) c.loop-j.invariant (c.of_bits.ensures ∙ ap g.W.Word.of_bits number)

pub returns : goal.returns
returns g c = take-end _ _ _ _ _ (omega arith) c.loop-j.invariant
