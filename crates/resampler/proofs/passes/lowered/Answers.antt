-- `resampler::passes::lowered` meets its contract: a pass of a down filter is the stage's at the pair's rates, and its dead words
-- are zero. Assumes nothing.
use mathlib.Core.Path.{refl, sym, ap, ◌∙◌}
use mathlib.Core.List.{[]}
use borrow.Author.Rules.{rules}
use Rattle.filters.specs.Reader.{Steady}
use Rattle.filters.specs.Stage.DownFir.{filter_of, down_pass, down_end}
use Rattle.resampler.specs.Pairs.{down}
use Rattle.resampler.specs.Record.{pair_of, arrays}
use Rattle.resampler.proofs.Laws.Live.{live-down, with-down}
use Rattle.resampler.proofs.Laws.Passes.{unused, lowered}
use Rattle.resampler.proofs.Laws.Steady.{steady-down}
use Rattle.resampler.proofs.Laws.Twice.{takes, first-whole, first-room, down_pass-length, twice-staged, both-staged}
use Rattle.resampler.proofs.passes.lowered.Goals as goal

pub silk_resampler_private_down_FIR-a-requires : goal.silk_resampler_private_down_FIR-a-requires
silk_resampler_private_down_FIR-a-requires c =
    let p = c.args.p in
    let e = c.rates-r.ensures in
    let r = c.rates-r.result in
    let (steady, few) = steady-down (pair_of p.known.state) _ p.known.supported c.requires.kind in
    let steady : Steady r.inKhz r = rw e steady in
    let t = takes p.known.state e p.one p.whole c.requires.room in
    record { steady = (steady, rw e few); milliseconds = (first-whole r steady.some t, first-room r steady.some t) }

pub silk_resampler_private_down_FIR-b-requires-clause-steady : goal.silk_resampler_private_down_FIR-b-requires-clause-steady
silk_resampler_private_down_FIR-b-requires-clause-steady c =
    let p = c.args.p in
    let e = c.rates-r.ensures in
    let (steady, few) = steady-down (pair_of p.known.state) _ p.known.supported c.requires.kind in
    (rw e steady, rw e few)

pub returns : goal.returns
unfolding unused
returns c =
    let p = c.args.p in
    let s = p.known.state in
    let e = c.rates-r.ensures in
    let r = c.rates-r.result in
    let f = c.filter-f.result in
    let g = filter_of f.order f.coefs.now in
    let (steady, few) = steady-down (pair_of s) _ p.known.supported c.requires.kind in
    let steady : Steady r.inKhz r = rw e steady in
    let path = c.requires.kind ∙ ap down (sym c.filter-f.ensures) in
    let t = takes s e p.one p.whole c.requires.room in
    let b = c.silk_resampler_private_down_FIR-b in
    let both = twice-staged r steady.some t (down_pass g r) (down_end g r) (down_pass-length r steady.some g) c.silk_resampler_private_down_FIR-a.ensures.staged b.ensures.staged in
    both-staged s (λ w. arrays [] [] w.0 w.1) (down_pass g r) (down_end g r) (λ w xs. lowered (pair_of s) (arrays [] [] w.0 w.1) xs path e (refl, refl))
    (live-down s g path (search rules)) both (with-down s c.bare-after.ensures _ (search rules) b.ensures.dead)
