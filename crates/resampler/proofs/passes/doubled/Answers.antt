-- `resampler::passes::doubled` meets its contract: a pass of the doubler is the doubler itself, and its six words are all that is left.
-- Assumes nothing.
use mathlib.Core.Path.{refl, sym, ◌∙◌}
use mathlib.Core.List.{[]}
use Prim.Native.Nat.{◌<◌}
use native.Mathlib.Omega.{arith}
use borrow.Author.Rules.{rules}
use lib.ListN.{length}
use Rattle.filters.specs.Stage.Up2Hq.{up2, up2_end}
use Rattle.filters.proofs.Laws.Lengths.{up2-length}
use Rattle.resampler.specs.Record.{pair_of, arrays}
use Rattle.resampler.specs.Resample.{made, rates_of}
use Rattle.resampler.proofs.Laws.Live.{live-doubler, with-doubler}
use Rattle.resampler.proofs.Laws.Pairs.{small}
use Rattle.resampler.proofs.Laws.Passes.{unused, doubled}
use Rattle.resampler.proofs.Laws.Paths.{made-twice}
use Rattle.resampler.proofs.Laws.Twice.{takes, rest-room, twice-staged, both-staged}
use Rattle.resampler.proofs.passes.doubled.Goals as goal

pub silk_resampler_private_up2_HQ-doubler-requires : goal.silk_resampler_private_up2_HQ-doubler-requires
unfolding made
silk_resampler_private_up2_HQ-doubler-requires c =
    let s = c.args.p.known.state in
    let p = pair_of s in
    let some : 0 < s.inKhz = omega (arith, (small p c.args.p.known.supported).1) in
    let t = takes s refl c.args.p.one c.args.p.whole c.requires.room in
    let n = length c.args.p.rest.now in
    omega (arith, rest-room (rates_of p) some t c.silk_resampler_private_up2_HQ-between.new.out (search rules), made-twice p n t.whole c.requires.kind.1)

pub returns : goal.returns
unfolding unused made
returns c =
    let s = c.args.p.known.state in
    let p = pair_of s in
    let some : 0 < s.inKhz = omega (arith, (small p c.args.p.known.supported).1) in
    let (path, double) = c.requires.kind in
    let t = takes s refl c.args.p.one c.args.p.whole c.requires.room in
    let both =
    twice-staged (rates_of p) some t up2 up2_end (λ w xs h. up2-length w xs ∙ sym (made-twice p (length xs) h double))
    c.silk_resampler_private_up2_HQ-between.ensures c.silk_resampler_private_up2_HQ-doubler.ensures in
    both-staged s (λ w. arrays w [] [] []) up2 up2_end (λ w xs. doubled p (arrays w [] [] []) xs some path (refl, refl, refl)) (live-doubler s path (search rules))
    both (with-doubler s c.bare-after.ensures (search rules))
