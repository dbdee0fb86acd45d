-- `resampler::passes::interpolated` meets its contract: a pass of the interpolator is the stage's at the pair's rates.
-- Assumes nothing.
use mathlib.Core.Path.{refl}
use mathlib.Core.List.{[]}
use borrow.Author.Rules.{rules}
use Prim.Native.Nat.{◌*◌}
use Rattle.filters.specs.Reader.{Steady}
use Rattle.filters.specs.Stage.IirFir.{iir_fir_pass, iir_fir_end}
use Rattle.resampler.specs.Record.{pair_of, arrays}
use Rattle.resampler.proofs.Laws.Live.{live-interpolator, with-interpolator}
use Rattle.resampler.proofs.Laws.Passes.{unused, interpolated}
use Rattle.resampler.proofs.Laws.Steady.{steady-up}
use Rattle.resampler.proofs.Laws.Twice.{takes, first-whole, first-room, iir_fir_pass-length, twice-staged, both-staged}
use Rattle.resampler.proofs.passes.interpolated.Goals as goal

pub silk_resampler_private_IIR_FIR-a-requires : goal.silk_resampler_private_IIR_FIR-a-requires
silk_resampler_private_IIR_FIR-a-requires c =
    let p = c.args.p in
    let e = c.rates-r.ensures in
    let r = c.rates-r.result in
    let (steady, few) = steady-up (pair_of p.known.state) p.known.supported c.requires.kind in
    let steady : Steady (2 * r.inKhz) r = rw e steady in
    let t = takes p.known.state e p.one p.whole c.requires.room in
    record { steady = (steady, rw e few); milliseconds = (first-whole r steady.some t, first-room r steady.some t) }

pub silk_resampler_private_IIR_FIR-b-requires-clause-steady : goal.silk_resampler_private_IIR_FIR-b-requires-clause-steady
silk_resampler_private_IIR_FIR-b-requires-clause-steady c =
    let p = c.args.p in
    let e = c.rates-r.ensures in
    let (steady, few) = steady-up (pair_of p.known.state) p.known.supported c.requires.kind in
    (rw e steady, rw e few)

pub returns : goal.returns
unfolding unused
returns c =
    let p = c.args.p in
    let s = p.known.state in
    let e = c.rates-r.ensures in
    let r = c.rates-r.result in
    let (steady, few) = steady-up (pair_of s) p.known.supported c.requires.kind in
    let steady : Steady (2 * r.inKhz) r = rw e steady in
    let t = takes s e p.one p.whole c.requires.room in
    let both =
    twice-staged r steady.some t (iir_fir_pass r) (iir_fir_end r) (iir_fir_pass-length r steady.some)
    c.silk_resampler_private_IIR_FIR-a.ensures.staged c.silk_resampler_private_IIR_FIR-b.ensures.staged in
    both-staged s (λ w. arrays w.0 w.1 [] []) (iir_fir_pass r) (iir_fir_end r) (λ w xs. interpolated (pair_of s) (arrays w.0 w.1 [] []) xs c.requires.kind e (refl, refl))
    (live-interpolator s c.requires.kind (search rules) (search rules)) both (with-interpolator s c.bare-after.ensures (search rules) (search rules))
