-- `stages::down2::sums` meets its contract: what is summed, followed by what the pairs left make, is the whole.
-- Assumes nothing.
use Rattle.std.proofs.Common.{rules, arith, ◌≡◌, ◌∙◌}
use mir.Val.{to_z, of_z}
use mir.Syntax.{w32}
use mathlib.Core.List.{[], ◌∷◌}
use Rattle.filters.specs.Lists.{◌!◌, pairs, tabulate}
use Rattle.filters.specs.Stage.Down2.{down2_sum, down2_next, down2_end}
use Rattle.filters.proofs.Laws.Lists.{spelt, pairs-length, pair-first, pairs-short}
use Rattle.stages.proofs.Laws.Loop.{run-start, run_room, run-turn, run_end}
use Rattle.stages.proofs.down2.sums.Goals as goal

pub loop-k-init : goal.loop-k-init
unfolding tabulate
loop-k-init c =
    let words = spelt 2 c.args.words (omega (arith, c.well_formed)) in
    let start = run-start down2_sum down2_next c.args.words (pairs c.args.input.now) c.args.out.now (omega (arith, pairs-length c.args.input.now)) in
    search rules

pub bounds-out-k : goal.bounds-out-k
bounds-out-k c =
    let s = c.in-Some.ensures.steps in
    let first = pair-first _ _ s.0.1.0 s.0.1.1 c.loop-k.invariant.0 in
    rw s.1 (run_room down2_sum down2_next c.args.words (pairs c.args.input.now) c.args.out.now first c.loop-k.invariant.1)

pub loop-k-preserved : goal.loop-k-preserved
unfolding tabulate
loop-k-preserved c =
    let s = c.in-Some.ensures.steps in
    let xs = c.in-Some.xs.now in
    let w = to_z w32 c.loop-k.even-bits ∷ to_z w32 c.loop-k.odd-bits ∷ [] in
    let first = pair-first _ _ s.0.1.0 s.0.1.1 c.loop-k.invariant.0 in
    let sum : to_z w32 (of_z w32 c.step-d.result.out) ≡ down2_sum w (xs ! 0, xs ! 1) = search rules in
    let all-words = spelt 2 c.step-d.result.words (omega (arith, c.well_formed)) in
    let words : to_z w32 (of_z w32 (c.step-d.result.words ! 0)) ∷ to_z w32 (of_z w32 (c.step-d.result.words ! 1)) ∷ [] ≡ down2_next w (xs ! 0, xs ! 1) = search rules in
    (s.0.0 ∙ c.loop-k.invariant.0, rw (s.1, s.2) (run-turn down2_sum down2_next c.args.words (pairs c.args.input.now) c.args.out.now first c.loop-k.invariant.1 sum words))

pub returns : goal.returns
unfolding down2_end
returns c =
    let s = c.in-None.ensures.steps in
    let none = pairs-short _ s.0.1.0 c.loop-k.invariant.0 in
    let end = run_end down2_sum down2_next c.args.words (pairs c.args.input.now) c.args.out.now none c.loop-k.invariant.1 in
    record { filled = end.0; carried = end.1 }
