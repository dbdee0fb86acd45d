-- Words and samples as bytes, the low one first, both ways. Assumes nothing.
use Rattle.std.specs.Prelude.{if◌then◌else◌, ℕ, zero, suc, ◌+◌, ◌*◌, ◌-◌, ◌/◌, ◌%◌, ◌^◌, ltb, ℤ, pos, negsuc, take, drop}
use mathlib.Core.List.{List, [], ◌∷◌, flat_map}
use Rattle.filters.specs.Lists.{tabulate}

-- k bytes of a number, the low one first, and the number of such bytes
unfoldable pub bytes : ℕ → ℕ → List ℕ
bytes zero n = []
bytes (suc k) n = n % 256 ∷ bytes k (n / 256)

unfoldable pub value : List ℕ → ℕ
value [] = 0
value (b ∷ bs) = b + 256 * value bs

-- the bits of a signed word of k bytes as a number, and the word of such a number
unfoldable pub bits_of : ℕ → ℤ → ℕ
bits_of k (pos n) = n
bits_of k (negsuc n) = 256 ^ k - 1 - n

unfoldable pub word_of : ℕ → ℕ → ℤ
word_of k n = if ltb n (256 ^ k / 2) then pos n else negsuc (256 ^ k - 1 - n)

-- words of k bytes by a function to their bits, one behind the other; and the n words by a function of their bits that stand
-- from byte i of b on
unfoldable pub laid_by : {A : Type 0} → (A → ℕ) → ℕ → List A → List ℕ
laid_by bits k ws = flat_map (λ w. bytes k (bits w)) ws

unfoldable pub read_by : {A : Type 0} → (ℕ → A) → ℕ → ℕ → ℕ → List ℕ → List A
read_by of_bits k i n b = tabulate 0 n (λ j. of_bits (value (take k (drop (i + j * k) b))))

-- the same for signed words
abbrev pub laid : ℕ → List ℤ → List ℕ
laid k ws = laid_by (bits_of k) k ws

abbrev pub words_at : ℕ → ℕ → ℕ → List ℕ → List ℤ
words_at k i n b = read_by (word_of k) k i n b
