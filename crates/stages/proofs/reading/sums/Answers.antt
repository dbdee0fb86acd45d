-- `stages::reading::sums` meets its contract: the position at turn j is j increments, and what is written and what is still to be
-- read is the whole.
-- Assumes nothing.
use Rattle.std.proofs.Common.{rules, arith, ◌≡◌, ◌∙◌, sym, length, ◌%◌, ◌/◌}
use mir.Val.{to_z, of_z}
use mir.Syntax.{w32}
use lib.ListN.{drop}
use Rattle.filters.proofs.Laws.Lists.{part-rest}
use Rattle.stages.proofs.Laws.Loop.{over-full}
use Rattle.stages.proofs.Laws.Reading.{read-start, read-turn, read-end, read_length}
use Rattle.stages.proofs.reading.sums.Goals as goal

pub loop-j-init : goal.loop-j-init
loop-j-init g c = read-start _ _ _ _ _ (omega arith)

pub loop-j-preserved : goal.loop-j-preserved
loop-j-preserved g c =
    let p = c.loop-j.p in
    let buf = c.args.buf.now in
    let rest = part-rest buf (p / 65536) in
    let out : to_z w32 (of_z w32 c.output.result) ≡ g.R.Reader.reading c.args.reader.now (p % 65536) (drop (p / 65536) buf) = search rules in
    read-turn _ _ _ _ _ c.loop-j-test.true c.loop-j.invariant out

pub returns : goal.returns
returns g c =
    let f = g.R.Reader.reading c.args.reader.now in
    let n = length c.args.out.now in
    read-end f c.args.increment n c.args.buf.now c.args.out.now c.loop-j-test.false c.loop-j.invariant
    ∙ over-full _ c.args.out.now (sym (read_length f c.args.increment n c.args.buf.now))
