-- `resampler::parking::park` meets its contract: its tests are the rows, and the body with its check is the block.
-- Assumes nothing.
use mathlib.Core.Path.{◌≡◌, refl, ap, ◌∙◌}
use mathlib.Core.Bool.{true}
use borrow.Author.Rules.{rules}
use lib.ListN.{length}
use borrow.Author.Tests.{eq-eqb, ne_eqb}
use Rattle.stages.specs.declared.answer.Refusal.TheVariants.{NoSupportedPair, NotABlock}
use Rattle.stages.proofs.Laws.Outcome.{ruled-refused, ruled-done}
use Rattle.resampler.specs.Pairs.{supported}
use Rattle.resampler.specs.Record.{pair_of, cleaned}
use Rattle.resampler.specs.Block.{park_row, park_outcome}
use Rattle.resampler.proofs.Laws.Body.{block_made}
use Rattle.resampler.proofs.parking.park.Goals as goal

pub returns-in_default : goal.returns-in_default
unfolding park_row park_outcome
returns-in_default c =
    let e : 2 ≡ park_row c.args.s (length c.args.block.now) = rw c.in_default.ensures refl in
    ruled-refused c.args.s c.args.block.now _ NoSupportedPair e c.refused.ensures

pub returns-then-block-ne512 : goal.returns-then-block-ne512
unfolding park_row park_outcome
returns-then-block-ne512 c =
    let yes : supported (pair_of c.args.s) ≡ true = rw c.in-Some.ensures at c.in-Some.known.supported in
    let e : 8 ≡ park_row c.args.s (length c.args.block.now) = rw (yes, ne_eqb _ _ c.if-block-ne512.true) refl in
    ruled-refused c.args.s c.args.block.now _ NotABlock e c.refused-then-block-ne512.ensures

pub returns : goal.returns
unfolding park_row park_outcome
returns c =
    let yes : supported (pair_of c.args.s) ≡ true = rw c.in-Some.ensures at c.in-Some.known.supported in
    let same = c.cleaned.ensures ∙ ap cleaned c.in-Some.ensures in
    let is = block_made c.args.s c.args.block.now c.if-block-ne512.false same c.put_body.ensures (search rules) c.seal.ensures in
    let e : 0 ≡ park_row c.args.s (length c.args.block.now) = rw (yes, eq-eqb _ _ c.if-block-ne512.false) refl in
    ruled-done c.args.s c.args.block.now e c.done.ensures refl is
