-- Equations over ℤ by their syntax: an atom `# z` is any integer, `val` is an expression's value, and that is
-- `up e` less `dn e`, two polynomials over ℕ, which `omega` compares. Assumes nothing.
use mathlib.Core.Path.{◌≡◌, sym, ◌∙◌, ap, subst}
use Prim.Native.Nat.{ℕ, ◌+◌, ◌*◌}
use native.Mathlib.Omega.{arith}
use lib.IntN.{ℤ, pos, ◌+ℤ◌, ◌-ℤ◌, ◌*ℤ◌}
use Rattle.fixed.proofs.Laws.Integer.{P, N, D, D-of, D-sum, D-neg, D-mul, D-pos, D-eq, pn-D}

infixl 6 ◌⊕◌ ◌⊖◌
infixl 7 ◌⊗◌
pub data E : Type 0 where
  # : ℤ → E
  lit : ℕ → E
  ◌⊕◌ ◌⊖◌ ◌⊗◌ : E → E → E

abbrev pub val : E → ℤ
val (# z) = z
val (lit n) = pos n
val (e ⊕ f) = val e +ℤ val f
val (e ⊖ f) = val e -ℤ val f
val (e ⊗ f) = val e *ℤ val f

abbrev mutual
  pub up : E → ℕ
  up (# z) = P z
  up (lit n) = n
  up (e ⊕ f) = up e + up f
  up (e ⊖ f) = up e + dn f
  up (e ⊗ f) = up e * up f + dn e * dn f

  pub dn : E → ℕ
  dn (# z) = N z
  dn (lit n) = 0
  dn (e ⊕ f) = dn e + dn f
  dn (e ⊖ f) = dn e + up f
  dn (e ⊗ f) = up e * dn f + dn e * up f

pub val_is : (e : E) → val e ≡ D (up e) (dn e)
val_is (# z) = D-of z
val_is (lit n) = D-pos n
val_is (e ⊕ f) = (λ i. val_is e i +ℤ val_is f i) ∙ D-sum (up e) (dn e) (up f) (dn f)
val_is (e ⊖ f) =
    (λ i. val_is e i -ℤ val_is f i) ∙ ap (λ z. D (up e) (dn e) +ℤ z) (D-neg (up f) (dn f)) ∙ D-sum (up e) (dn e) (dn f) (up f)
val_is (e ⊗ f) = (λ i. val_is e i *ℤ val_is f i) ∙ D-mul (up e) (dn e) (up f) (dn f)

-- what `omega` is to know of an expression that stands as an atom
pub of : (e : E) → P (val e) + dn e ≡ up e + N (val e)
of e = subst (λ (z : ℤ). P z + dn e ≡ up e + N z) (sym (val_is e)) (pn-D (up e) (dn e))

-- to prove an equation
pub eq_z : (e f : E) → up e + dn f ≡ up f + dn e → val e ≡ val f
eq_z e f h = val_is e ∙ D-eq (up e) (dn e) (up f) (dn f) h ∙ sym (val_is f)

-- to use one
pub use_eq : (e f : E) → val e ≡ val f → up e + dn f ≡ up f + dn e
use_eq e f h = omega (arith, of e, of f, ap P h, ap N h)
