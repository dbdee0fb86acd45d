-- `stages::down2_3::decimate` meets its contract: what is written, followed by what the groups left make, is the whole.
-- Assumes nothing.
use Rattle.std.proofs.Common.{rules, arith, ◌≡◌, ◌∙◌}
use mir.Val.{to_z, of_z}
use mir.Syntax.{w16}
use Rattle.filters.specs.Lists.{◌!◌}
use mathlib.Core.List.{[], ◌∷◌}
use Rattle.filters.specs.Lists.{tabulate}
use Rattle.filters.specs.Stage.Down2_3.{down23, down23_end}
use Rattle.filters.proofs.Laws.Lists.{spelt, three-first, threes-none}
use Rattle.stages.proofs.Laws.Groups.{group-start, group-turn, group-stop}
use Rattle.stages.proofs.down2_3.decimate.Goals as goal

pub loop-k-init : goal.loop-k-init
loop-k-init c =
    let start = group-start c.args.words c.args.input.now c.args.out.now (omega (arith, c.well_formed)) c.requires.0 c.requires.1 in
    search rules

pub loop-k-preserved : goal.loop-k-preserved
unfolding tabulate
loop-k-preserved c =
    let s = c.in-Some.ensures.steps in
    let xs = c.in-Some.xs.now in
    let w = c.loop-k.w in
    let group = xs ! 0 ∷ xs ! 1 ∷ xs ! 2 ∷ [] in
    let first = three-first _ _ s.0.1.0 s.0.1.1 c.loop-k.invariant.0 in
    let all = spelt 2 c.group_of-g.result.out (omega (arith, c.well_formed)) in
    let out : to_z w16 (of_z w16 (c.group_of-g.result.out ! 0)) ∷ to_z w16 (of_z w16 (c.group_of-g.result.out ! 1)) ∷ [] ≡ down23 w group = search rules in
    let words : c.group_of-g.result.words ≡ down23_end w group = search rules in
    (s.0.0 ∙ c.loop-k.invariant.0, rw (s.1, s.2) (group-turn c.args.words c.args.input.now c.args.out.now first c.loop-k.invariant.1 out words))

pub returns : goal.returns
returns c =
    let s = c.in-None.ensures.steps in
    let none = threes-none _ s.0.1.0 c.loop-k.invariant.0 c.loop-k.invariant.1.whole in
    let end = group-stop c.args.words c.args.input.now c.args.out.now none c.loop-k.invariant.1 in
    record { filled = end.0; carried = end.1 }
