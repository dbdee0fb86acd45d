-- Distances between whole numbers and fractions, lists side by side, and samples. Assumes nothing.
use Rattle.std.specs.Prelude.{if◌then◌else◌, ℕ, ◌*◌, ◌<◌, Bool, List, [], ◌∷◌, ltb, ℤ, pos, negsuc, nat_abs, neg_ℤ, ◌-ℤ◌, ◌*ℤ◌}
use Rattle.std.specs.Int.Signed.{lt_z}
use Rattle.distance.specs.Exact.{Fraction, fraction}

-- y lies less than c from f: |y - f| < c, with both sides times what is under f
abbrev pub Within : ℕ → ℤ → Fraction → Type 0
Within c y f = nat_abs (y *ℤ pos f.under -ℤ f.over) < c * f.under

-- f held to the smallest and the largest sample, at the scale of 1024
unfoldable pub held : Fraction → Fraction
held f =
    let low = neg_ℤ (pos (33554432 * f.under)) in
    let high = pos (33553408 * f.under) in
    fraction (if lt_z f.over low then low else if lt_z high f.over then high else f.over) f.under

-- entry by entry, of lists of one length
abbrev pub Matched : {A B : Type 0} → (A → B → Type 0) → List A → List B → Type 0
Matched R [] [] = Unit {0}
Matched R [] (y ∷ ys) = ⊥
Matched R (x ∷ xs) [] = ⊥
Matched R (x ∷ xs) (y ∷ ys) = R x y × Matched R xs ys

-- what an i16 holds
unfoldable pub sample? : ℤ → Bool
sample? (pos n) = ltb n 32768
sample? (negsuc n) = ltb n 32768
