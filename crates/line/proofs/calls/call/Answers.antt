-- `line::calls::call` meets its contract: the whole milliseconds are one call of the resampler, or none. Assumes nothing.
use mathlib.Core.Path.{sym, ap, ◌∙◌}
use Prim.Native.Nat.{◌*◌, ◌/◌}
use native.Mathlib.Omega.{arith}
use borrow.Author.Rules.{rules}
use lib.ListN.{length, take}
use lib.Seq.{length-take-le}
use Rattle.resampler.specs.Record.{pair_of}
use Rattle.resampler.specs.Resample as Resample
use Rattle.line.specs.Line.{unit, taken}
use Rattle.line.proofs.Laws.Sizes.{sizes}
use Rattle.line.proofs.Laws.Calls.{calling, leaves_none, leaves-some}
use Rattle.line.proofs.calls.call.Goals as goal

pub nonzero_div-ms : goal.nonzero_div-ms
nonzero_div-ms c = omega (arith, (sizes c.requires).some)

pub nonzero_rem-left : goal.nonzero_rem-left
nonzero_rem-left c = omega (arith, (sizes c.requires).some)

pub returns-then-ms-eq0 : goal.returns-then-ms-eq0
returns-then-ms-eq0 c = leaves_none c.args.s c.args.input.now c.args.out.now c.if-ms-eq0.true

pub samples_in-xs-requires : goal.samples_in-xs-requires
samples_in-xs-requires c = let z = sizes c.requires in (z.taken, z.held)

pub slice_bounds-xs-end : goal.slice_bounds-xs-end
slice_bounds-xs-end c = omega (arith, (sizes c.requires).taken)

pub slice_bounds-convert-end : goal.slice_bounds-convert-end
slice_bounds-convert-end c = sym (length-take-le _ _ (omega (arith, (sizes c.requires).taken)))

pub convert-record-requires : goal.convert-record-requires
convert-record-requires c =
    let s = c.args.s in
    let z = sizes c.requires in
    let n = length c.args.input.now / unit s * s.inKhz in
    let l = length-take-le n c.samples_in-xs.result (omega (arith, z.taken)) in (
      calling s c.args.input.now c.args.out.now _ z (search rules) c.requires.pair c.if-ms-eq0.false (take n c.samples_in-xs.result) l,
      omega (arith, l, z.few),
      sym (ap (Resample.made (pair_of s)) l ∙ z.makes),
      z.fits,
    )

pub returns : goal.returns
unfolding taken
returns c =
    leaves-some c.args.s c.args.input.now c.args.out.now _ (sizes c.requires) (search rules) c.requires.pair c.if-ms-eq0.false
    c.samples_in-xs.ensures c.convert-record.ensures.0 c.convert-record.ensures.1
