-- A stage that carries a state: what it puts out for each input, and the state that it ends in; and a pass of it over batches.
-- Assumes nothing.
use Rattle.std.specs.Prelude.{ℕ, List, [], ◌∷◌}
use Rattle.filters.specs.Lists.{joined, cut}

module _ {S A B : Type 0} (out : S → A → B) (next : S → A → S) where
  unfoldable pub run : S → List A → List B
  run s [] = []
  run s (x ∷ xs) = out s x ∷ run (next s x) xs

module _ {S A : Type 0} (next : S → A → S) where
  unfoldable pub end : S → List A → S
  end s [] = s
  end s (x ∷ xs) = end (next s x) xs

-- a pass: batches of at most n, each with the state that the one before it left; no samples, no batch
unfoldable pub pass_out : {S A B : Type 0} → (S → List A → List B) → (S → List A → S) → ℕ → S → List A → List B
pass_out out next n s xs = joined (run out next s (cut n xs))

unfoldable pub pass_end : {S A : Type 0} → (S → List A → S) → ℕ → S → List A → S
pass_end next n s xs = end next s (cut n xs)
