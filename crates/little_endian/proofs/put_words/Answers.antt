-- `little_endian::put_words` meets its contract: at each turn what is put and what is left are the whole.
-- Assumes nothing.
use mathlib.Core.Path.{ap, ◌∙◌}
use Rattle.little_endian.proofs.Laws.Laying.{lay-turn, lay-end}
use Rattle.little_endian.proofs.put_words.Goals as goal

pub loop-j-preserved : goal.loop-j-preserved
loop-j-preserved g c =
    let bits = c.bits.ensures ∙ ap g.W.Word.bits c.index-words-j.is in
    let put = rw (c.BYTES.ensures, c.BYTES-in-loop-j.ensures) at c.put.ensures in
    lay-turn _ _ _ _ _ c.index-words-j.result c.loop-j-test.true c.loop-j.invariant bits put

pub returns : goal.returns
returns g c = lay-end _ _ _ _ _ c.loop-j-test.false c.loop-j.invariant
