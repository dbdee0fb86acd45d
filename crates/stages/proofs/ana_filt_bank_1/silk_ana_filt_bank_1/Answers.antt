-- `stages::ana_filt_bank_1::silk_ana_filt_bank_1` meets its contract: its row is the definition's, and where none applies both
-- bands are filled to their end.
-- Assumes nothing.
use mathlib.Core.Path.{◌≡◌, sym, ◌∙◌}
use mathlib.Core.List.{List}
use Prim.Native.Nat.{ℕ, ◌/◌}
use native.Mathlib.Omega.{arith}
use borrow.Author.Tests.{eqb-true}
use lib.Dec.{eqb}
use lib.IntN.{ℤ}
use lib.ListN.{length}
use Rattle.std.specs.Prelude.{◌&&◌}
use Rattle.filters.specs.Stage.AnaFiltBank1.{split_low, split_high}
use Rattle.stages.specs.Entry.{half_row, split_outcome}
use Rattle.filters.proofs.Laws.Lengths.{split_low-length, split_high-length}
use Rattle.filters.proofs.Laws.Lists.{both_true}
use Rattle.stages.proofs.Laws.Outcome.{ruled-refused, ruled-done, half-fits}
use Rattle.stages.proofs.Laws.Loop.{over-full}
use Rattle.stages.proofs.ana_filt_bank_1.silk_ana_filt_bank_1.Goals as goal

-- where no row applies both bands are half as long as the input
halves : (n : ℕ) (low high : List ℤ) → 0 ≡ half_row n (eqb (length low) (n / 2) && eqb (length high) (n / 2)) → (length low ≡ n / 2) × (length high ≡ n / 2)
halves n low high h =
    let (l, k) = both_true _ _ (half-fits n _ (sym h)) in
    (eqb-true _ _ l, eqb-true _ _ k)

pub returns-in-Some : goal.returns-in-Some
unfolding split_outcome
returns-in-Some c =
    ruled-refused c.args.words (c.args.low.now, c.args.high.now) _ c.in-Some.refusal c.in-Some.ensures c.refused.ensures

pub bands-after-requires : goal.bands-after-requires
bands-after-requires c =
    let h = halves (length c.args.input.now) c.args.low.now c.args.high.now c.in_default.ensures in
    (omega arith, omega arith)

pub returns : goal.returns
unfolding split_outcome
returns c =
    let w = c.args.words in
    let xs = c.args.input.now in
    let low = c.args.low.now in
    let high = c.args.high.now in
    let (l, h) = halves (length xs) low high c.in_default.ensures in
    let one = c.bands-after.ensures.low in
    let other = c.bands-after.ensures.high in
    let lent-low = one.filled ∙ over-full (split_low w xs) low (l ∙ sym (split_low-length w xs)) in
    let lent-high = other.filled ∙ over-full (split_high w xs) high (h ∙ sym (split_high-length w xs)) in
    ruled-done w (low, high) c.in_default.ensures c.done.ensures one.carried (λ i. (lent-low i, lent-high i))
