-- `resampler::passes::copied` meets its contract: a pass on equal rates is its input, and leaves no words.
-- Assumes nothing.
use mathlib.Core.Path.{refl, sym}
use mathlib.Core.List.{[]}
use Prim.Native.Nat.{◌<◌}
use native.Mathlib.Omega.{arith}
use borrow.Author.Rules.{rules}
use lib.ListN.{length}
use Rattle.resampler.specs.Record.{Words, pair_of, arrays}
use Rattle.resampler.specs.Resample.{made, rates_of}
use Rattle.resampler.proofs.Laws.Live.{live-copy}
use Rattle.resampler.proofs.Laws.Pairs.{small}
use Rattle.resampler.proofs.Laws.Passes.{unused, copied}
use Rattle.resampler.proofs.Laws.Paths.{made-equal}
use Rattle.resampler.proofs.Laws.Twice.{takes, rest-room, twice-staged, both-staged}
use Rattle.resampler.proofs.passes.copied.Goals as goal

pub copy_samples-requires-2 : goal.copy_samples-requires-2
unfolding made
copy_samples-requires-2 c =
    let s = c.args.p.known.state in
    let p = pair_of s in
    let some : 0 < s.inKhz = omega (arith, (small p c.args.p.known.supported).1) in
    let t = takes s refl c.args.p.one c.args.p.whole c.requires.room in
    let n = length c.args.p.rest.now in
    omega (arith, rest-room (rates_of p) some t c.copy_samples.new.out (search rules), made-equal p n t.whole c.requires.kind.1)

pub returns : goal.returns
unfolding unused made
returns c =
    let s = c.args.p.known.state in
    let p = pair_of s in
    let some : 0 < s.inKhz = omega (arith, (small p c.args.p.known.supported).1) in
    let (path, equal) = c.requires.kind in
    let t = takes s refl c.args.p.one c.args.p.whole c.requires.room in
    let none : Words = arrays [] [] [] [] in
    let both =
    twice-staged (rates_of p) some t {S = Unit {0}} (λ u zs. zs) (λ u zs. u) (λ u zs h. sym (made-equal p (length zs) h equal)) {s = tt}
    (record { filled = c.copy_samples.ensures; carried = refl }) (record { filled = c.copy_samples-2.ensures; carried = refl }) in
    both-staged s (λ u. none) (λ u zs. zs) (λ u zs. u) (λ u zs. copied p none zs some path (refl, refl, refl, refl)) (live-copy s path) both c.bare.ensures
