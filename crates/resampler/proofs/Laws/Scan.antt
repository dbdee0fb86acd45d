-- Whether every entry of a list passes a test, as the library finds it and as the definitions say it; and the same of lists in a
-- row. Assumes nothing.
use Rattle.std.specs.List.{list_all}
use Rattle.std.specs.Ordering.{int_eq}
use mathlib.Core.Path.{◌≡◌, refl, sym, ap, ◌∙◌}
use mathlib.Core.Bool.{Bool, true, false, ◌&&◌}
use mathlib.Core.List.{List, [], ◌∷◌, ◌++◌}
use Prim.Native.Nat.{ℕ, zero, suc, ◌-◌}
use native.Mathlib.Omega.{arith}
use borrow.Author.Tests.{eq-eqb, ne_eqb, eqb-true}
use Rattle.std.proofs.lemmas.Bool.Decides.{Decides-int_eq, same_from_decides}
use lib.IntN.{ℤ, pos, negsuc, nat_abs}
use lib.Dec.{eqb}
use lib.ListN.{length, take, drop}
use Rattle.filters.proofs.Laws.Lists.{part-rest}
use Rattle.filters.specs.Lists.{every}
use Rattle.resampler.specs.Block.{zero?}

zero-is : (z : ℤ) → int_eq z (pos 0) ≡ zero? z
unfolding zero?
zero-is (pos n) = same_from_decides _ _ (Decides-int_eq (pos n) (pos 0)) (λ e. ap pos (eqb-true n 0 e), λ e. eq-eqb n 0 (ap nat_abs e))
zero-is (negsuc n) = refl

all-words : (xs : List ℤ) → list_all (λ z. int_eq z (pos 0)) xs ≡ every zero? xs
all-words [] = refl
all-words (x ∷ xs) = λ i. zero-is x i && all-words xs i

-- the words from a place on
pub rest-words : (n : ℕ) (xs : List ℤ) → list_all (λ z. int_eq z (pos 0)) (take (length xs - n) (drop n xs)) ≡ every zero? (drop n xs)
rest-words n xs = rw (part-rest xs n) (all-words (drop n xs))

turned : (n : ℕ) → eqb n 0 ≡ eqb 0 n
turned zero = refl
turned (suc n) = ne_eqb (suc n) 0 (λ e. omega arith) ∙ sym (ne_eqb 0 (suc n) (λ e. omega arith))

pub all-pads : (xs : List ℕ) → list_all (λ x. eqb x 0) xs ≡ every (eqb 0) xs
all-pads [] = refl
all-pads (x ∷ xs) = λ i. turned x i && all-pads xs i

module _ {A : Type 0} (t : A → Bool) where
  pub every-both : (xs ys : List A) → every t (xs ++ ys) ≡ (every t xs && every t ys)
  every-both [] ys = refl
  every-both (x ∷ xs) ys = ap (λ (b : Bool). t x && b) (every-both xs ys) ∙ and_right (t x) (every t xs) (every t ys)
    where
      and_right : (a b c : Bool) → (a && (b && c)) ≡ (a && b && c)
      and_right true b c = refl
      and_right false b c = refl

  pub every-five : (a b c d e : List A) → every t (a ++ b ++ c ++ d ++ e) ≡ (every t a && every t b && every t c && every t d && every t e)
  every-five a b c d e = rw (every-both (a ++ b ++ c ++ d) e, every-both (a ++ b ++ c) d, every-both (a ++ b) c, every-both a b) refl
