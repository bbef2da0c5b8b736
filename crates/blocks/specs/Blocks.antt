-- The host's block: count k in 2 bytes, k + 1 offsets of 4 bytes from the block's start, the last its end, then the
-- payloads. Cited by whatever delivers. Assumes nothing.
use Rattle.std.specs.Prelude.{ℕ, ◌+◌, ◌*◌, min, List, [], ◌∷◌, ◌++◌, length}
use Rattle.units.specs.Bytes.{be16, be32}

-- where the offsets begin, behind the count; an offset's bytes; and the length of a block of no payloads [B1, B3]
abbrev pub offsets_at : ℕ
offsets_at = 2

abbrev pub offset_bytes : ℕ
offset_bytes = 4

abbrev pub empty : ℕ
empty = 6

-- where each payload begins, from the first one's place on, and where the last ends [B1]
unfoldable pub offsets : ℕ → List (List ℕ) → List ℕ
offsets at [] = be32 at
offsets at (p ∷ ps) = be32 at ++ offsets (at + length p) ps

-- the payloads, one right after the other [B1]
unfoldable pub joined_up : List (List ℕ) → List ℕ
joined_up [] = []
joined_up (p ∷ ps) = p ++ joined_up ps

-- the whole block [F17, B1]
unfoldable pub block_of : List (List ℕ) → List ℕ
block_of ps = be16 (length ps) ++ (offsets (empty + offset_bytes * length ps) ps ++ joined_up ps)

-- how many bytes of it a lent block takes: no more than it has, whatever the payloads are [O9]
abbrev pub takes : List ℕ → List (List ℕ) → ℕ
takes out ps = min (length (block_of ps)) (length out)
