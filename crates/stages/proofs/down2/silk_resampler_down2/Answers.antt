-- `stages::down2::silk_resampler_down2` meets its contract: its row is the definition's, and where none applies the output is
-- filled to its end with what the decimator makes of the whole input.
-- Assumes nothing.
use Rattle.std.proofs.Common.{arith, ◌∙◌, sym, refl, length, ◌/◌}
use borrow.Author.Tests.{eqb-true}
use Rattle.filters.specs.Stage.Down2.{down2, down2_end}
use Rattle.stages.specs.Entry.{down2_outcome}
use Rattle.filters.proofs.Laws.Lengths.{down2-length}
use Rattle.stages.proofs.Laws.Loop.{over-full}
use Rattle.stages.proofs.Laws.Pass.{pass-whole}
use Rattle.stages.proofs.Laws.Parts.{down2-nothing, down2-parts}
use Rattle.stages.proofs.Laws.Outcome.{ruled-refused, ruled-done, half-fits, half-even}
use Rattle.stages.proofs.down2.silk_resampler_down2.Goals as goal

pub returns-in-Some : goal.returns-in-Some
unfolding down2_outcome
returns-in-Some c = ruled-refused c.args.words c.args.out.now _ c.in-Some.refusal c.in-Some.ensures c.refused.ensures

pub in_parts-p-requires : goal.in_parts-p-requires
in_parts-p-requires c =
    let half = eqb-true (length c.args.out.now) (length c.args.input.now / 2) (half-fits _ _ (sym c.in_default.ensures)) in
    let even = half-even _ _ (sym c.in_default.ensures) in
    record { sizes = (omega arith, omega arith, refl); whole = (even, omega arith) }

pub returns : goal.returns
unfolding down2_outcome
returns c =
    let w = c.args.words in
    let xs = c.args.input.now in
    let out = c.args.out.now in
    let half = eqb-true (length out) (length xs / 2) (half-fits _ _ (sym c.in_default.ensures)) in
    let whole = pass-whole down2 down2_end 960 (omega arith) down2-nothing (down2-parts 480) w xs in
    let made = c.in_parts-p.ensures.staged in
    ruled-done w out c.in_default.ensures c.done.ensures (rw whole.1 at made.carried)
    ((rw whole.0 at made.filled) ∙ over-full (down2 w xs) out (half ∙ sym (down2-length w xs)))
