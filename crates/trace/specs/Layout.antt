-- The trace file's bytes: what its header and its records say. A byte past the end counts as 0. Cited by the readers of
-- a trace file and by whatever makes its calls. Assumes nothing.
use Rattle.std.specs.Prelude.{ℕ, ◌+◌, ◌*◌, List, get_or, take, drop}
use Rattle.units.specs.Bytes.{get16_of, get32_of}
use Rattle.trace.specs.declared.Head.{Head}

-- ---- the header

-- the count's bytes, which stand before the offsets, and an offset's [L1]
abbrev pub count_size : ℕ
count_size = 4

abbrev pub offset_size : ℕ
offset_size = 4

-- the most records [L2]
abbrev pub most_records : ℕ
most_records = 1024

-- the whole header: there is an offset for each record and one for the file's end [L1]
abbrev pub header_size : ℕ
header_size = count_size + offset_size * (most_records + 1)

-- the most bytes of a file [L1]
abbrev pub most_bytes : ℕ
most_bytes = 65536

-- how many records there are [L1]
abbrev pub count_of : List ℕ → ℕ
count_of f = get32_of f 0

-- where record k begins; of the count, where the file ends [L1, L3]
unfoldable pub begin_of : List ℕ → ℕ → ℕ
begin_of f k = get32_of f (count_size + offset_size * k)

-- ---- a record that begins at a byte

-- how many bytes stand before its own [L5]
abbrev pub head_size : ℕ
head_size = 4

-- which are its kind, its index and its length [L5]
unfoldable pub head_from : List ℕ → ℕ → Head
head_from f at = record { kind = get_or f at 0; index = get_or f (at + 1) 0; length = get16_of f (at + 2) }

-- its bytes [L5]
unfoldable pub bytes_from : List ℕ → ℕ → List ℕ
bytes_from f at = take (head_from f at).length (drop (at + head_size) f)

-- where it ends [L5]
unfoldable pub end_from : List ℕ → ℕ → ℕ
end_from f at = at + head_size + (head_from f at).length
