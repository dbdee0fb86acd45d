-- What the definitions do with lists: tables, pieces, pairs, padding.
-- Cited by every other definition. Assumes nothing.
use Rattle.std.specs.Prelude.{Bool, true, ◌&&◌, List, [], ◌∷◌, ◌++◌, ℕ, zero, suc, ◌+◌, ◌-◌, length, take, drop, get_or, replicate, ℤ, pos}

module _ {A : Type 0} where
  -- f i, f (i + 1), and so on: n of them
  unfoldable pub tabulate : ℕ → ℕ → (ℕ → A) → List A
  tabulate i zero f = []
  tabulate i (suc n) f = f i ∷ tabulate (i + 1) n f

  unfoldable pub joined : List (List A) → List A
  joined [] = []
  joined (x ∷ xs) = x ++ joined xs

  -- pieces of n, the last one what is left; the first argument bounds their number
  unfoldable pub pieces : ℕ → ℕ → List A → List (List A)
  pieces zero n xs = []
  pieces (suc k) n [] = []
  pieces (suc k) n (x ∷ xs) = take n (x ∷ xs) ∷ pieces k n (drop n (x ∷ xs))

  unfoldable pub cut : ℕ → List A → List (List A)
  cut n xs = pieces (length xs) n xs

  -- the last n
  abbrev pub last : ℕ → List A → List A
  last n xs = drop (length xs - n) xs

  abbrev pub every : (A → Bool) → List A → Bool
  every t [] = true
  every t (x ∷ xs) = t x && every t xs

  -- the entries two by two: an even place and the odd one behind it; one that is left alone at the end is dropped
  unfoldable pub pairs : List A → List (A × A)
  pairs [] = []
  pairs (x ∷ []) = []
  pairs (x ∷ y ∷ xs) = (x, y) ∷ pairs xs

infixl 80 ◌!◌
-- the word at place i
abbrev pub ◌!◌ : List ℤ → ℕ → ℤ
xs ! i = get_or xs i (pos 0)

-- zeros behind xs, to n in all
abbrev pub padded : ℕ → List ℤ → List ℤ
padded n xs = xs ++ replicate (n - length xs) (pos 0)

-- what a buffer that reaches n back hands on: the last n of the carried words followed by the new ones
abbrev pub carried_on : ℕ → List ℤ → List ℤ → List ℤ
carried_on n carried new = last n (carried ++ new)
