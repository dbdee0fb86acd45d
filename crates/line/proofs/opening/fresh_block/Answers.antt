-- `line::opening::fresh_block` meets its contract: opening and parking leave what the pair's test decides. Assumes nothing.
use Rattle.std.proofs.lemmas.Result.{err_from_is_err_and}
use Rattle.resampler.specs.Pairs.{pair}
use Rattle.line.proofs.Laws.Opening.{opened-as, open_done, open-refused, fresh-parked, opens, stays-shut}
use Rattle.line.proofs.opening.fresh_block.Goals as goal

pub returns-in_err-opened : goal.returns-in_err-opened
returns-in_err-opened c =
    let s = c.args in
    let r = c.ranges in
    let is = opened-as s.forEnc s.inKhz s.outKhz r.forEnc.fits r.inKhz.fits r.outKhz.fits c.from-inHz.ensures c.from-outHz.ensures c.from.ensures c.silk_resampler_init-opened.ensures in
    let (one, not) = open-refused s.forEnc s.inKhz s.outKhz c.requires.1 (rw c.in_err-opened.was at is) in
    let p = err_from_is_err_and c.from_residual.result c.from_residual.ensures.1 in
    rw (p.1, p.2) (stays-shut (pair s.forEnc s.inKhz s.outKhz) s.block.now one not)

pub returns : goal.returns
returns c =
    let s = c.args in
    let r = c.ranges in
    let p = pair s.forEnc s.inKhz s.outKhz in
    let is = opened-as s.forEnc s.inKhz s.outKhz r.forEnc.fits r.inKhz.fits r.outKhz.fits c.from-inHz.ensures c.from-outHz.ensures c.from.ensures c.silk_resampler_init-opened.ensures in
    let (ok, e) = open_done s.forEnc s.inKhz s.outKhz c.requires.1 (rw c.in_ok-opened.was at is) in
    opens p s.block.now ok (fresh-parked p s.block.now _ ok e c.requires.0 c.park.ensures)
