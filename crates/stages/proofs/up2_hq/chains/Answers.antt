-- `stages::up2_hq::chains` meets its contract: what is written, followed by what the samples left make, is the whole.
-- Assumes nothing.
use Rattle.std.proofs.Common.{rules, arith, ◌≡◌, ◌*◌, ◌+◌}
use mir.Val.{to_z, of_z}
use mir.Syntax.{w32}
use Rattle.filters.specs.Lists.{◌!◌}
use lib.IntN.{pos}
use mathlib.Core.List.{[], ◌∷◌}
use Rattle.filters.specs.Lists.{tabulate}
use Rattle.filters.specs.Stage.Up2Hq.{up2_raw, up2_next, up2_end}
use Rattle.filters.proofs.Laws.Lengths.{up2_raw-length}
use Rattle.filters.proofs.Laws.Lists.{spelt, drop-next, drop-none}
use Rattle.stages.proofs.Laws.Loop.{double-start, double-turn, double-end}
use Rattle.stages.proofs.up2_hq.chains.Goals as goal

pub loop-k-init : goal.loop-k-init
loop-k-init c = double-start up2_raw up2_next c.args.state c.args.input.now c.args.out.now (omega (arith, up2_raw-length c.args.state c.args.input.now))

pub loop-k-preserved : goal.loop-k-preserved
unfolding tabulate
loop-k-preserved c =
    let xs = c.args.input.now in
    let k = c.loop-k.k in
    let first = drop-next xs k (pos 0) c.loop-k-test.true in
    let all = spelt 2 c.step-d.result.out (omega (arith, c.well_formed)) in
    let out : to_z w32 (of_z w32 (c.step-d.result.out ! 0)) ∷ to_z w32 (of_z w32 (c.step-d.result.out ! 1)) ∷ [] ≡ up2_raw c.loop-k.s (xs ! k) = search rules in
    let words : c.step-d.result.words ≡ up2_next c.loop-k.s (xs ! k) = search rules in
    let two : 2 * (k + 1) ≡ 2 * k + 1 + 1 = omega arith in
    rw two (double-turn up2_raw up2_next c.args.state xs c.args.out.now first out c.loop-k.invariant words)

pub returns : goal.returns
unfolding up2_end
returns c =
    let none = drop-none c.args.input.now c.loop-k.k c.loop-k-test.false in
    let end = double-end up2_raw up2_next c.args.state c.args.input.now c.args.out.now none c.loop-k.invariant in
    record { filled = end.0; carried = end.1 }
