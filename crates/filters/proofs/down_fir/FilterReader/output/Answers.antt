-- An output of a down filter meets its contract: order 18 goes by rows, the orders above it by pairs.
-- Assumes nothing.
use Rattle.std.proofs.Common.{rules, arith, ◌≡◌, ◌+◌, ◌/◌, ◌-◌, length, take, drop}
use lib.IntN.{pos}
use Rattle.fixed.specs.Fixed.{times}
use Rattle.filters.specs.Reader.{sum}
use Rattle.filters.specs.Stage.DownFir.{outer_sums}
use Rattle.filters.proofs.Laws.Taps.{first-fits, pairs-read}
use Rattle.filters.proofs.down_fir.FilterReader.output.Goals as goal

pub inward-requires : goal.inward-requires
inward-requires c =
    let f = c.args.self.now in
    first-fits f.rows f.order f.coefs.now c.args.from.now c.if-self-le18.false f.fitting c.requires.1

pub returns : goal.returns
returns c =
    let f = c.args.self.now in
    let ys = c.args.from.now in
    let all : c.inward.result ≡ sum times (pos 0) (take (2 + f.order / 2 - 2) (drop 2 f.coefs.now)) (outer_sums (length (take f.order ys)) (take f.order ys)) = search rules in
    let read = pairs-read f.rows f.order f.coefs.now ys f.fitting c.requires.1 c.if-self-le18.false c.args.fraction all in
    search rules
