-- `resampler::path::at` meets its contract: each test is the path's.
-- Assumes nothing.
use Rattle.resampler.specs.Pairs.{pair}
use Rattle.resampler.proofs.Laws.Paths.{path-copy, path-doubler, path-interpolator, path-down}
use Rattle.resampler.proofs.path.at.Goals as goal

pub returns-then-outKhz-inKhz : goal.returns-then-outKhz-inKhz
returns-then-outKhz-inKhz c = let e = c.if-outKhz-inKhz.true in (path-copy (pair 0 c.args.inKhz c.args.outKhz) e, e)

pub returns-then-outKhz-inKhz-2 : goal.returns-then-outKhz-inKhz-2
returns-then-outKhz-inKhz-2 c =
    let e = c.if-outKhz-inKhz-2.true in
    (path-doubler (pair 0 c.args.inKhz c.args.outKhz) c.if-outKhz-inKhz.false e, e)

pub returns-then-inKhz-outKhz : goal.returns-then-inKhz-outKhz
returns-then-inKhz-outKhz c =
    path-interpolator (pair 0 c.args.inKhz c.args.outKhz) c.if-outKhz-inKhz.false c.if-outKhz-inKhz-2.false c.if-inKhz-outKhz.true

pub returns-else-inKhz-outKhz : goal.returns-else-inKhz-outKhz
returns-else-inKhz-outKhz c =
    path-down (pair 0 c.args.inKhz c.args.outKhz) c.if-outKhz-inKhz.false c.if-outKhz-inKhz-2.false c.if-inKhz-outKhz.false
