-- Numbers in bytes, high bytes first. Cited by whatever reads or writes lent bytes. Assumes nothing.
use Rattle.std.specs.Prelude.{ℕ, ◌+◌, ◌*◌, ◌/◌, ◌%◌, List, [], ◌∷◌, ◌++◌, get_or}

-- the two bytes from i on, as a number [F17]
unfoldable pub get16_of : List ℕ → ℕ → ℕ
get16_of s i = get_or s i 0 * 256 + get_or s (i + 1) 0

-- the four bytes from i on [F17]
unfoldable pub get32_of : List ℕ → ℕ → ℕ
get32_of s i = get16_of s i * 65536 + get16_of s (i + 2)

-- a number in two bytes [F17]
unfoldable pub be16 : ℕ → List ℕ
be16 v = v / 256 ∷ v % 256 ∷ []

-- and in four [F17]
unfoldable pub be32 : ℕ → List ℕ
unfolding be16
be32 v = be16 (v / 65536) ++ be16 (v % 65536)
