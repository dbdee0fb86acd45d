-- What the programs write to standard error, in ASCII. Assumes nothing.
use Rattle.std.specs.Prelude.{if◌then◌else◌, ℕ, zero, suc, ◌+◌, ◌/◌, ◌%◌, List, [], ◌∷◌, ◌++◌, ltb}

-- the decimal digits of a number, as many as it has; the first argument bounds them
unfoldable pub digits : ℕ → ℕ → List ℕ
digits zero n = []
digits (suc k) n = (if ltb n 10 then [] else digits k (n / 10)) ++ ((48 + n % 10) ∷ [])

unfoldable pub decimal : ℕ → List ℕ
decimal n = digits (suc n) n

-- `refused N` and a line feed
unfoldable pub refused : ℕ → List ℕ
refused n = (114 ∷ 101 ∷ 102 ∷ 117 ∷ 115 ∷ 101 ∷ 100 ∷ 32 ∷ []) ++ decimal n ++ (10 ∷ [])

-- `left over N bytes` and a line feed
unfoldable pub left_over : ℕ → List ℕ
left_over n =
    (108 ∷ 101 ∷ 102 ∷ 116 ∷ 32 ∷ 111 ∷ 118 ∷ 101 ∷ 114 ∷ 32 ∷ []) ++ decimal n
    ++ (32 ∷ 98 ∷ 121 ∷ 116 ∷ 101 ∷ 115 ∷ 10 ∷ [])
