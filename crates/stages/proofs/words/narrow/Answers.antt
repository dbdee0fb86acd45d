-- `stages::words::narrow` meets its contract: what is narrowed, followed by what is left narrowed, is the whole.
-- Assumes nothing.
use Rattle.std.proofs.Common.{rules, arith, ◌≡◌, map}
use mir.Syntax.{w16}
use mir.Val.{to_z, of_z}
use lib.IntN.{pos}
use Rattle.fixed.specs.Fixed.{narrowed}
use Rattle.filters.specs.Lists.{◌!◌}
use Rattle.filters.proofs.Laws.Lists.{drop-next}
use Rattle.stages.proofs.Laws.Loop.{fill_one}
use Rattle.stages.proofs.words.narrow.Goals as goal

pub loop-k-preserved : goal.loop-k-preserved
loop-k-preserved c =
    let xs = c.args.from.now in
    let n = c.args.n in
    let k = c.loop-k.k in
    let out : to_z w16 (of_z w16 c.narrow.result) ≡ narrowed n (xs ! k) = search rules in
    rw out (fill_one (map (narrowed n) xs) c.args.out.now (rw (drop-next xs k (pos 0) c.loop-k-test.true) at c.loop-k.invariant) (omega arith))
