-- Laws of the runs of specs/Run.antt: their length, what every step keeps, a run cut in two, and a run all of whose outputs go
-- through a function. Assumes nothing.
use mathlib.Core.Path.{◌≡◌, refl, sym, ap, ◌∙◌}
use mathlib.Core.List.{List, [], ◌∷◌, ◌++◌, map, append_assoc}
use Prim.Native.Nat.{suc}
use lib.ListN.{length}
use Rattle.filters.specs.Lists.{joined}
use Rattle.filters.specs.Run.{run, end}

module _ {S A B : Type 0} (out : S → A → B) (next : S → A → S) where
  pub run_length : (s : S) (xs : List A) → length (run out next s xs) ≡ length xs
  unfolding run
  run_length s [] = refl
  run_length s (x ∷ xs) = ap suc (run_length (next s x) xs)

  pub run-append : (s : S) (a b : List A) → run out next s (a ++ b) ≡ run out next s a ++ run out next (end next s a) b
  unfolding run end
  run-append s [] b = refl
  run-append s (x ∷ a) b = ap (λ (t : List B). out s x ∷ t) (run-append (next s x) a b)

  pub run-map : {C : Type 0} (f : B → C) (s : S) (xs : List A) → map f (run out next s xs) ≡ run (λ (s : S) (x : A). f (out s x)) next s xs
  unfolding run
  run-map f s [] = refl
  run-map f s (x ∷ xs) = ap (λ (t : List _). f (out s x) ∷ t) (run-map f (next s x) xs)

module _ {S A : Type 0} (next : S → A → S) where
  pub end-append : (s : S) (a b : List A) → end next s (a ++ b) ≡ end next (end next s a) b
  unfolding end
  end-append s [] b = refl
  end-append s (x ∷ a) b = end-append (next s x) a b

  -- what holds of a state and is kept by each step holds at the end
  pub end-keeps : (P : S → Type 0) → ((s : S) (x : A) → P s → P (next s x)) → (s : S) (xs : List A) → P s → P (end next s xs)
  unfolding end
  end-keeps P keep s [] h = h
  end-keeps P keep s (x ∷ xs) h = end-keeps P keep (next s x) xs (keep s x h)

-- ---- the same where a step puts out several

module _ {A : Type 0} where
  pub joined-append : (a b : List (List A)) → joined (a ++ b) ≡ joined a ++ joined b
  unfolding joined
  joined-append [] b = refl
  joined-append (x ∷ a) b = ap (λ (t : List A). x ++ t) (joined-append a b) ∙ sym (append_assoc x (joined a) (joined b))

module _ {A B : Type 0} (f : A → B) where
  map-append : (a b : List A) → map f (a ++ b) ≡ map f a ++ map f b
  map-append [] b = refl
  map-append (x ∷ a) b = ap (λ (t : List B). f x ∷ t) (map-append a b)

  pub joined-map : {S C : Type 0} (out : S → C → List A) (next : S → C → S) (s : S) (xs : List C)
      → map f (joined (run out next s xs)) ≡ joined (run (λ (s : S) (x : C). map f (out s x)) next s xs)
  unfolding run joined
  joined-map out next s [] = refl
  joined-map out next s (x ∷ xs) =
      map-append (out s x) _ ∙ ap (λ (t : List B). map f (out s x) ++ t) (joined-map out next (next s x) xs)
