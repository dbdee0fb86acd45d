-- `stages::ana_filt_bank_1::bands` meets its contract: in each band what is written, followed by what the pairs left make, is the whole.
-- Assumes nothing.
use Rattle.std.proofs.Common.{rules, arith, ◌≡◌, ◌∙◌}
use mir.Val.{to_z, of_z}
use mir.Syntax.{w16, w32}
use mathlib.Core.List.{[], ◌∷◌}
use Rattle.filters.specs.Lists.{◌!◌, pairs, tabulate}
use Rattle.filters.specs.Stage.AnaFiltBank1.{low_out, high_out, split_next, split_low, split_high, split_end}
use Rattle.filters.proofs.Laws.Lists.{spelt, pairs-length, pair-first, pairs-short}
use Rattle.stages.proofs.Laws.Loop.{run-start, run_room, run-turn, run_end}
use Rattle.stages.proofs.ana_filt_bank_1.bands.Goals as goal

pub loop-k-init : goal.loop-k-init
unfolding tabulate
loop-k-init c =
    let words = spelt 2 c.args.words (omega (arith, c.well_formed)) in
    let all = pairs c.args.input.now in
    let low = run-start low_out split_next c.args.words all c.args.low.now (omega (arith, pairs-length c.args.input.now)) in
    let high = run-start high_out split_next c.args.words all c.args.high.now (omega (arith, pairs-length c.args.input.now)) in
    search rules

pub bounds-low-k : goal.bounds-low-k
bounds-low-k c =
    let s = c.in-Some.ensures.steps in
    let first = pair-first _ _ s.0.1.0 s.0.1.1 c.loop-k.invariant.0 in
    rw s.1 (run_room low_out split_next c.args.words (pairs c.args.input.now) c.args.low.now first c.loop-k.invariant.1)

pub bounds-high-k : goal.bounds-high-k
bounds-high-k c =
    let s = c.in-Some.ensures.steps in
    let first = pair-first _ _ s.0.1.0 s.0.1.1 c.loop-k.invariant.0 in
    rw s.1 (run_room high_out split_next c.args.words (pairs c.args.input.now) c.args.high.now first c.loop-k.invariant.2)

pub loop-k-preserved : goal.loop-k-preserved
unfolding tabulate
loop-k-preserved c =
    let s = c.in-Some.ensures.steps in
    let xs = c.in-Some.xs.now in
    let w = to_z w32 c.loop-k.even-bits ∷ to_z w32 c.loop-k.odd-bits ∷ [] in
    let all = pairs c.args.input.now in
    let first = pair-first _ _ s.0.1.0 s.0.1.1 c.loop-k.invariant.0 in
    let low : to_z w16 (of_z w16 c.step-b.result.low) ≡ low_out w (xs ! 0, xs ! 1) = search rules in
    let high : to_z w16 (of_z w16 c.step-b.result.high) ≡ high_out w (xs ! 0, xs ! 1) = search rules in
    let all-words = spelt 2 c.step-b.result.words (omega (arith, c.well_formed)) in
    let words : to_z w32 (of_z w32 (c.step-b.result.words ! 0)) ∷ to_z w32 (of_z w32 (c.step-b.result.words ! 1)) ∷ [] ≡ split_next w (xs ! 0, xs ! 1) = search rules in (
      s.0.0 ∙ c.loop-k.invariant.0,
      rw (s.1, s.2) (run-turn low_out split_next c.args.words all c.args.low.now first c.loop-k.invariant.1 low words),
      rw (s.1, s.2) (run-turn high_out split_next c.args.words all c.args.high.now first c.loop-k.invariant.2 high words),
    )

pub returns : goal.returns
unfolding split_low split_high split_end
returns c =
    let s = c.in-None.ensures.steps in
    let all = pairs c.args.input.now in
    let none = pairs-short _ s.0.1.0 c.loop-k.invariant.0 in
    let low-end = run_end low_out split_next c.args.words all c.args.low.now none c.loop-k.invariant.1 in
    let high-end = run_end high_out split_next c.args.words all c.args.high.now none c.loop-k.invariant.2 in
    record { low = record { filled = low-end.0; carried = low-end.1 }; high = record { filled = high-end.0; carried = high-end.1 } }
