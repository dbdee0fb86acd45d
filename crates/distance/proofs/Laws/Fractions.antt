-- Fractions as numerators over one power: a sum, a difference and a part of such are such again. Assumes nothing.
use mathlib.Core.Path.{◌≡◌, sym, ap, ◌∙◌}
use Prim.Native.Nat.{ℕ, ◌*◌, ◌<◌}
use native.Mathlib.Nat.{mul-pos}
use native.Mathlib.Omega.{arith}
use lib.IntN.{ℤ, pos, ◌+ℤ◌, ◌-ℤ◌, ◌*ℤ◌}
use Rattle.fixed.proofs.Laws.Ring.{#, lit, ◌⊕◌, ◌⊖◌, ◌⊗◌, eq_z}
use Rattle.distance.specs.Exact.{Fraction, plus, minus, part, exact_out, exact_next}

-- f is n / d
abbrev pub Is : Fraction → ℤ → ℕ → Type 0
Is f n d = f.over *ℤ pos d ≡ n *ℤ pos f.under

-- (x c ± y b) d = (x d) c ± (y d) b, and (n b) c ± (m c) b = (n ± m) (b c)
sums : (x y : ℤ) (b c d : ℕ) → (x *ℤ pos c +ℤ y *ℤ pos b) *ℤ pos d ≡ x *ℤ pos d *ℤ pos c +ℤ y *ℤ pos d *ℤ pos b
sums x y b c d = eq_z ((# x ⊗ lit c ⊕ # y ⊗ lit b) ⊗ lit d) (# x ⊗ lit d ⊗ lit c ⊕ # y ⊗ lit d ⊗ lit b) (omega arith)

differences : (x y : ℤ) (b c d : ℕ) → (x *ℤ pos c -ℤ y *ℤ pos b) *ℤ pos d ≡ x *ℤ pos d *ℤ pos c -ℤ y *ℤ pos d *ℤ pos b
differences x y b c d = eq_z ((# x ⊗ lit c ⊖ # y ⊗ lit b) ⊗ lit d) (# x ⊗ lit d ⊗ lit c ⊖ # y ⊗ lit d ⊗ lit b) (omega arith)

add_back : (n m : ℤ) (b c : ℕ) → n *ℤ pos b *ℤ pos c +ℤ m *ℤ pos c *ℤ pos b ≡ (n +ℤ m) *ℤ pos (b * c)
add_back n m b c = eq_z (# n ⊗ lit b ⊗ lit c ⊕ # m ⊗ lit c ⊗ lit b) ((# n ⊕ # m) ⊗ lit (b * c)) (omega arith)

sub_back : (n m : ℤ) (b c : ℕ) → n *ℤ pos b *ℤ pos c -ℤ m *ℤ pos c *ℤ pos b ≡ (n -ℤ m) *ℤ pos (b * c)
sub_back n m b c = eq_z (# n ⊗ lit b ⊗ lit c ⊖ # m ⊗ lit c ⊗ lit b) ((# n ⊖ # m) ⊗ lit (b * c)) (omega arith)

module _ (f g : Fraction) (n m : ℤ) (d : ℕ) (p : Is f n d) (q : Is g m d) where
  pub is-plus : Is (plus f g) (n +ℤ m) d
  unfolding plus
  is-plus =
      sums f.over g.over f.under g.under d ∙ (λ i. p i *ℤ pos g.under +ℤ q i *ℤ pos f.under) ∙ add_back n m f.under g.under

  pub is-minus : Is (minus f g) (n -ℤ m) d
  unfolding minus
  is-minus =
      differences f.over g.over f.under g.under d ∙ (λ i. p i *ℤ pos g.under -ℤ q i *ℤ pos f.under) ∙ sub_back n m f.under g.under

scale_in : (a x : ℤ) (d : ℕ) → a *ℤ x *ℤ pos (65536 * d) ≡ pos 65536 *ℤ (a *ℤ (x *ℤ pos d))
scale_in a x d = eq_z (# a ⊗ # x ⊗ lit (65536 * d)) (lit 65536 ⊗ (# a ⊗ (# x ⊗ lit d))) (omega arith)

raise-in : (x : ℤ) (d : ℕ) → x *ℤ pos (65536 * d) ≡ pos 65536 *ℤ (x *ℤ pos d)
raise-in x d = eq_z (# x ⊗ lit (65536 * d)) (lit 65536 ⊗ (# x ⊗ lit d)) (omega arith)

raise-out : (n : ℤ) (b : ℕ) → pos 65536 *ℤ (n *ℤ pos b) ≡ pos 65536 *ℤ n *ℤ pos b
raise-out n b = eq_z (lit 65536 ⊗ (# n ⊗ lit b)) (lit 65536 ⊗ # n ⊗ lit b) (omega arith)

module _ (f : Fraction) (n : ℤ) (d : ℕ) (p : Is f n d) where
  pub is-part : (a : ℤ) → Is (part a f) (a *ℤ n) (65536 * d)
  unfolding part
  is-part a = scale_in a f.over d ∙ ap (λ z. pos 65536 *ℤ (a *ℤ z)) p ∙ sym (scale_in a n f.under)

  pub is-raised : Is f (pos 65536 *ℤ n) (65536 * d)
  is-raised = raise-in f.over d ∙ ap (λ z. pos 65536 *ℤ z) p ∙ raise-out n f.under

-- ---- a section on fractions is one on numerators, over 65536 times the power

module _ (a : ℤ) (s x : Fraction) (w u : ℤ) (D : ℕ) (p : Is s w D) (q : Is x u D) where
  step : Is (part a (minus x s)) (a *ℤ (u -ℤ w)) (65536 * D)
  step = is-part (minus x s) (u -ℤ w) D (is-minus x s u w D q p) a

  pub is-out : Is (exact_out a s x) (pos 65536 *ℤ w +ℤ a *ℤ (u -ℤ w)) (65536 * D)
  unfolding exact_out
  is-out = is-plus s (part a (minus x s)) (pos 65536 *ℤ w) (a *ℤ (u -ℤ w)) (65536 * D) (is-raised s w D p) step

  pub is-next : Is (exact_next a s x) (pos 65536 *ℤ u +ℤ a *ℤ (u -ℤ w)) (65536 * D)
  unfolding exact_next
  is-next = is-plus x (part a (minus x s)) (pos 65536 *ℤ u) (a *ℤ (u -ℤ w)) (65536 * D) (is-raised x u D q) step

-- what is under them is never 0
module _ (a : ℤ) (s x : Fraction) (p : 0 < s.under) (q : 0 < x.under) where
  pub out-under : 0 < (exact_out a s x).under
  unfolding exact_out plus minus part
  out-under = mul-pos p (mul-pos (omega arith) (mul-pos q p))

  pub next_under : 0 < (exact_next a s x).under
  unfolding exact_next plus minus part
  next_under = mul-pos q (mul-pos (omega arith) (mul-pos q p))
