-- The constants of rom.rs and ana_filt_bank_1.rs under the source's names, with - for _, row by row.
-- Tied to src/rom.rt by computation. Where the source keeps a coefficient less 65536, so that it fits an i16, and adds
-- the other factor back, the coefficient stands here whole. Assumes nothing.
use Rattle.std.specs.Prelude.{ℕ, List, [], ◌∷◌, ℤ, pos, neg_ℤ}

infix 90 +◌ -◌
abbrev pub +◌ : ℕ → ℤ
+ n = pos n

abbrev pub -◌ : ℕ → ℤ
- n = neg_ℤ (pos n)

-- the 1/2 decimator: even samples, odd samples
abbrev pub silk_resampler_down2_1 : ℤ
silk_resampler_down2_1 = + 39809

abbrev pub silk_resampler_down2_0 : ℤ
silk_resampler_down2_0 = + 9872

-- the split: even samples, odd samples
abbrev pub A_fb1_21 : ℤ
A_fb1_21 = + 41246

abbrev pub A_fb1_20 : ℤ
A_fb1_20 = + 10788

-- the doubler: the even output's three sections, the odd output's
unfoldable pub silk_resampler_up2_hq_0 : List ℤ
silk_resampler_up2_hq_0 = + 1746 ∷ + 14986 ∷ + 39083 ∷ []

unfoldable pub silk_resampler_up2_hq_1 : List ℤ
silk_resampler_up2_hq_1 = + 6854 ∷ + 25769 ∷ + 55542 ∷ []

-- the down filters: A0 and A1, then the rows of taps
unfoldable pub silk_Resampler_3_4_COEFS : List ℤ
silk_Resampler_3_4_COEFS =
    - 20694 ∷ - 13867
    ∷ - 49 ∷ + 64 ∷ + 17 ∷ - 157 ∷ + 353 ∷ - 496 ∷ + 163 ∷ + 11047 ∷ + 22205
    ∷ - 39 ∷ + 6 ∷ + 91 ∷ - 170 ∷ + 186 ∷ + 23 ∷ - 896 ∷ + 6336 ∷ + 19928
    ∷ - 19 ∷ - 36 ∷ + 102 ∷ - 89 ∷ - 24 ∷ + 328 ∷ - 951 ∷ + 2568 ∷ + 15909 ∷ []

unfoldable pub silk_Resampler_2_3_COEFS : List ℤ
silk_Resampler_2_3_COEFS =
    - 14457 ∷ - 14019
    ∷ + 64 ∷ + 128 ∷ - 122 ∷ + 36 ∷ + 310 ∷ - 768 ∷ + 584 ∷ + 9267 ∷ + 17733
    ∷ + 12 ∷ + 128 ∷ + 18 ∷ - 142 ∷ + 288 ∷ - 117 ∷ - 865 ∷ + 4123 ∷ + 14459 ∷ []

unfoldable pub silk_Resampler_1_2_COEFS : List ℤ
silk_Resampler_1_2_COEFS =
    + 616 ∷ - 14323
    ∷ - 10 ∷ + 39 ∷ + 58 ∷ - 46 ∷ - 84 ∷ + 120 ∷ + 184 ∷ - 315 ∷ - 541 ∷ + 1284 ∷ + 5380 ∷ + 9024 ∷ []

unfoldable pub silk_Resampler_1_3_COEFS : List ℤ
silk_Resampler_1_3_COEFS =
    + 16102 ∷ - 15162
    ∷ - 13 ∷ + 0 ∷ + 20 ∷ + 26 ∷ + 5 ∷ - 31 ∷ - 43 ∷ - 4 ∷ + 65
    ∷ + 90 ∷ + 7 ∷ - 157 ∷ - 248 ∷ - 44 ∷ + 593 ∷ + 1583 ∷ + 2612 ∷ + 3271 ∷ []

unfoldable pub silk_Resampler_1_4_COEFS : List ℤ
silk_Resampler_1_4_COEFS =
    + 22500 ∷ - 15099
    ∷ + 3 ∷ - 14 ∷ - 20 ∷ - 15 ∷ + 2 ∷ + 25 ∷ + 37 ∷ + 25 ∷ - 16
    ∷ - 71 ∷ - 107 ∷ - 79 ∷ + 50 ∷ + 292 ∷ + 623 ∷ + 982 ∷ + 1288 ∷ + 1464 ∷ []

unfoldable pub silk_Resampler_1_6_COEFS : List ℤ
silk_Resampler_1_6_COEFS =
    + 27540 ∷ - 15257
    ∷ + 17 ∷ + 12 ∷ + 8 ∷ + 1 ∷ - 10 ∷ - 22 ∷ - 30 ∷ - 32 ∷ - 22
    ∷ + 3 ∷ + 44 ∷ + 100 ∷ + 168 ∷ + 243 ∷ + 317 ∷ + 381 ∷ + 429 ∷ + 455 ∷ []

-- the 2/3 decimator: A0 and A1, then its four taps, which specs/Stage/Down2_3.antt puts in their order
unfoldable pub silk_Resampler_2_3_COEFS_LQ : List ℤ
silk_Resampler_2_3_COEFS_LQ = - 2797 ∷ - 6507 ∷ + 4697 ∷ + 10739 ∷ + 1567 ∷ + 8276 ∷ []

-- the interpolator: twelve rows of four taps
unfoldable pub silk_resampler_frac_FIR_12 : List (List ℤ)
silk_resampler_frac_FIR_12 =
    (+ 189 ∷ - 600 ∷ + 617 ∷ + 30567 ∷ [])
    ∷ (+ 117 ∷ - 159 ∷ - 1070 ∷ + 29704 ∷ [])
    ∷ (+ 52 ∷ + 221 ∷ - 2392 ∷ + 28276 ∷ [])
    ∷ (- 4 ∷ + 529 ∷ - 3350 ∷ + 26341 ∷ [])
    ∷ (- 48 ∷ + 758 ∷ - 3956 ∷ + 23973 ∷ [])
    ∷ (- 80 ∷ + 905 ∷ - 4235 ∷ + 21254 ∷ [])
    ∷ (- 99 ∷ + 972 ∷ - 4222 ∷ + 18278 ∷ [])
    ∷ (- 107 ∷ + 967 ∷ - 3957 ∷ + 15143 ∷ [])
    ∷ (- 103 ∷ + 896 ∷ - 3487 ∷ + 11950 ∷ [])
    ∷ (- 91 ∷ + 773 ∷ - 2865 ∷ + 8798 ∷ [])
    ∷ (- 71 ∷ + 611 ∷ - 2143 ∷ + 5784 ∷ [])
    ∷ (- 46 ∷ + 425 ∷ - 1375 ∷ + 2996 ∷ [])
    ∷ []
