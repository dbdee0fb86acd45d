-- `resampler::resample::silk_resampler` meets its contract: a row that applies refuses the call, and where none does it is a call
-- that is asked for. Assumes nothing.
use mathlib.Core.Path.{◌≡◌, refl, sym, ap}
use native.Mathlib.Omega.{arith}
use borrow.Author.Rules.{rules}
use lib.ListN.{length}
use Rattle.stages.specs.declared.answer.Refusal.TheVariants.{NoSupportedPair}
use Rattle.stages.proofs.Laws.Outcome.{ruled-refused, ruled-done}
use Rattle.resampler.specs.declared.Record.{Record}
use Rattle.resampler.specs.Record.{pair_of}
use Rattle.resampler.specs.Resample.{made}
use Rattle.resampler.specs.Entry.{resample_row, resample_outcome}
use Rattle.resampler.proofs.Laws.Pairs.{small}
use Rattle.resampler.proofs.Laws.Rows.{row-clear, made-small, called}
use Rattle.resampler.proofs.resample.silk_resampler.Goals as goal

pub returns-in_default : goal.returns-in_default
unfolding resample_row resample_outcome
returns-in_default c =
    let e : 2 ≡ resample_row (pair_of c.args.s) (length c.args.input.now) (length c.args.out.now) = rw c.in_default.ensures refl in
    ruled-refused c.args.s c.args.out.now _ NoSupportedPair e c.refused.ensures

pub returns-in-Some-refusal_of : goal.returns-in-Some-refusal_of
unfolding resample_outcome
returns-in-Some-refusal_of c =
    let e = rw c.in-Some.ensures at c.in-Some-refusal_of.ensures in
    ruled-refused c.args.s c.args.out.now _ c.in-Some-refusal_of.refusal e c.refused-in-Some-refusal_of.ensures

pub nonzero_div-written : goal.nonzero_div-written
nonzero_div-written c =
    let k = small _ c.in-Some.known.supported in
    let e = ap (λ (s : Record). s.inKhz) c.in-Some.ensures in
    omega (arith, k.1)

pub overflow_mul-written : goal.overflow_mul-written
overflow_mul-written c =
    let e = rw c.in-Some.ensures at c.in_default-refusal_of.ensures in
    let k = row-clear (pair_of c.args.s) (length c.args.input.now) (length c.args.out.now) (sym e) in
    record { fits = omega (arith, made-small (pair_of c.args.s) (length c.args.input.now) k.pair k.few) }

pub call-record-requires : goal.call-record-requires
call-record-requires c = called c.in-Some.known.state _ _ (search rules) (sym c.in_default-refusal_of.ensures)

pub returns : goal.returns
unfolding resample_outcome made
returns c =
    let s = c.in-Some.ensures in
    let e = rw s at c.in_default-refusal_of.ensures in
    let after = c.call-record.ensures in
    let xs = c.args.input.now in
    ruled-done c.args.s c.args.out.now e c.done.ensures (rw s at after.carried) (rw s at after.filled)
