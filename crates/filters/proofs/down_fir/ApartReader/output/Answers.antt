-- Order 18 of a down filter meets its contract: the row and its mirror, read from the flat table, are those of the definition.
-- Assumes nothing.
use Rattle.std.proofs.Common.{rules, arith, ◌≡◌, ◌*◌, ◌+◌, ◌/◌, ◌-◌, take, drop, reverse}
use Rattle.std.proofs.lemmas.List.{length-take-le}
use lib.IntN.{pos}
use Rattle.fixed.specs.Fixed.{times}
use Rattle.filters.specs.Reader.{sum}
use Rattle.filters.specs.Stage.DownFir.{filtered}
use Rattle.filters.proofs.Laws.Taps.{row_below, row-fits, apart-read}
use Rattle.filters.proofs.down_fir.ApartReader.output.Goals as goal

pub forward-front-requires : goal.forward-front-requires
forward-front-requires c =
    let it = c.args.self.now in
    let f = it.filter in
    let b = row_below f.rows c.args.fraction c.requires.0 f.fitting.some in
    let r = row-fits f.rows f.order f.coefs.now (c.args.fraction * f.rows / 65536) it.eighteen f.fitting b in
    (omega (arith, r.0, length-take-le 9 c.args.from.now (omega arith)), r.1)

pub backward-requires : goal.backward-requires
backward-requires c =
    let it = c.args.self.now in
    let f = it.filter in
    let b = row_below f.rows c.args.fraction c.requires.0 f.fitting.some in
    let r = row-fits f.rows f.order f.coefs.now (f.rows - 1 - c.args.fraction * f.rows / 65536) it.eighteen f.fitting (omega arith) in
    (omega (arith, r.0), r.1)

pub returns : goal.returns
unfolding filtered
returns c =
    let it = c.args.self.now in
    let f = it.filter in
    let ys = c.args.from.now in
    let a = 2 + 9 * (c.args.fraction * f.rows / 65536) in
    let b = 2 + 9 * (f.rows - 1 - c.args.fraction * f.rows / 65536) in
    let front : c.forward-front.result ≡ sum times (pos 0) (take (a + 9 - a) (drop a f.coefs.now)) (take 9 ys) = search rules in
    let all : c.backward.result ≡ sum times c.forward-front.result (reverse (take (b + 9 - b) (drop b f.coefs.now))) (take 9 (drop 9 ys)) = search rules in
    let read = apart-read f.rows f.order f.coefs.now ys f.fitting (omega arith) c.args.fraction it.eighteen c.requires.0 front all in
    rw it.eighteen (search rules)
