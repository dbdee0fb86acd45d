-- `filters::up2_hq::three` meets its contract: three sections in a row, each fed by the one before it.
-- Assumes nothing.
use Rattle.std.proofs.Common.{rules, ◌≡◌, arith}
use Rattle.filters.specs.Lists.{◌!◌}
use Rattle.filters.specs.Section.{section_out, section_next}
use Rattle.filters.proofs.Laws.Section.{row-three}
use Rattle.filters.proofs.up2_hq.three.Goals as goal

pub returns : goal.returns
returns c =
    let k = c.args.c in
    let w = c.args.words in
    let one = c.allpass-p.result in
    let two = c.allpass-q.result in
    let three = c.allpass-r.result in
    let p : one.out ≡ section_out (k ! 0) (w ! 0) c.args.x = search rules in
    let d : one.words ≡ section_next (k ! 0) (w ! 0) c.args.x = search rules in
    let q : two.out ≡ section_out (k ! 1) (w ! 1) one.out = search rules in
    let e : two.words ≡ section_next (k ! 1) (w ! 1) one.out = search rules in
    let r : three.out ≡ section_out (k ! 2) (w ! 2) two.out = search rules in
    let f : three.words ≡ section_next (k ! 2) (w ! 2) two.out = search rules in
    let row = row-three k w c.args.x (omega (arith, c.well_formed)) (omega (arith, c.well_formed)) p d q e r f in
    search rules
