-- `stages::words::copy_samples` meets its contract: what is copied, followed by what is left, is the whole.
-- Assumes nothing.
use Rattle.std.proofs.Common.{rules, arith}
use lib.IntN.{pos}
use Rattle.filters.proofs.Laws.Lists.{drop-next}
use Rattle.stages.proofs.Laws.Loop.{fill_one}
use Rattle.stages.proofs.words.copy_samples.Goals as goal

pub loop-k-preserved : goal.loop-k-preserved
loop-k-preserved c =
    let from = c.args.from.now in
    let k = c.loop-k.k in
    let filled = fill_one from c.args.out.now (rw (drop-next from k (pos 0) c.loop-k-test.true) at c.loop-k.invariant) (omega arith) in
    search rules
