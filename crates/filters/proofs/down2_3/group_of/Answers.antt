-- `filters::down2_3::group_of` meets its contract: each output meets its four taps, and the words move on by three samples.
-- Assumes nothing.
use Rattle.std.proofs.Common.{rules, ◌≡◌, arith, [], ◌∷◌}
use Rattle.filters.specs.Lists.{◌!◌}
use Rattle.filters.specs.Rom.{silk_Resampler_2_3_COEFS_LQ}
use Rattle.filters.specs.Stage.Ar2.{ar2, ar2_end}
use Rattle.filters.proofs.Laws.Group.{six, one_out, one_end}
use Rattle.filters.proofs.down2_3.group_of.Goals as goal

pub returns : goal.returns
unfolding silk_Resampler_2_3_COEFS_LQ
returns c =
    let w = c.args.words in
    let poles = w ! 4 ∷ w ! 5 ∷ [] in
    let xs = c.args.x ∷ c.args.y ∷ c.args.z ∷ [] in
    let t = silk_Resampler_2_3_COEFS_LQ in
    let made : c.filtered_three-three.result.out ≡ ar2 t poles xs = search rules in
    let left : c.filtered_three-three.result.words ≡ ar2_end t poles xs = search rules in
    let out = one_out (w ! 0) (w ! 1) (w ! 2) (w ! 3) (w ! 4) (w ! 5) c.args.x c.args.y c.args.z made left (omega (arith, c.well_formed)) (omega (arith, c.well_formed)) in
    let end = one_end (w ! 0) (w ! 1) (w ! 2) (w ! 3) (w ! 4) (w ! 5) c.args.x c.args.y c.args.z made left (omega (arith, c.well_formed)) (omega (arith, c.well_formed)) in
    let all = six w (omega (arith, c.well_formed)) in
    record { outputs = search rules; words = search rules }
