-- `filters::down2_3::filtered_three` meets its contract: three steps of AR2 are its run over three samples.
-- Assumes nothing.
use Rattle.std.proofs.Common.{rules, ◌≡◌}
use Rattle.fixed.specs.Ar2.{ar2_out, ar2_after}
use Rattle.filters.specs.Rom.{silk_Resampler_2_3_COEFS_LQ}
use Rattle.filters.proofs.Laws.Group.{three_steps}
use Rattle.filters.proofs.down2_3.filtered_three.Goals as goal

pub returns : goal.returns
unfolding silk_Resampler_2_3_COEFS_LQ
returns c =
    let t = silk_Resampler_2_3_COEFS_LQ in
    let y0 : c.filtered-y0.result ≡ ar2_out c.args.s c.args.x = search rules in
    let a : c.moved-a.result ≡ ar2_after t c.args.s c.filtered-y0.result = search rules in
    let y1 : c.filtered-y1.result ≡ ar2_out c.moved-a.result c.args.y = search rules in
    let b : c.moved-b.result ≡ ar2_after t c.moved-a.result c.filtered-y1.result = search rules in
    let y2 : c.filtered-y2.result ≡ ar2_out c.moved-b.result c.args.z = search rules in
    let e : c.moved-words.result ≡ ar2_after t c.moved-b.result c.filtered-y2.result = search rules in
    let steps = three_steps t c.args.s c.args.x c.args.y c.args.z y0 a y1 b y2 e in
    record { outputs = search rules; words = search rules }
