-- Sequence numbers, which are bytes, and the counts that they fold. Cited by the window and by whatever numbers
-- payloads. Assumes nothing.
use Rattle.std.specs.Prelude.{ℕ, ◌+◌, ◌-◌, ◌%◌}
use Rattle.units.specs.declared.Seq.{Seq}

-- (s - start) mod 256: how far s lies after start, going up and from 255 on to 0 [W1, G1]
abbrev pub distance_of : ℕ → ℕ → ℕ
distance_of start s = (s + (256 - start)) % 256

-- the byte that an unfolded count is folded to [W2, U2]
abbrev pub byte_of : ℕ → ℕ
byte_of n = n % 256

-- the sequence number of an unfolded count [U2]
abbrev pub seq_of : ℕ → Seq
seq_of n = record { 0 = byte_of n }

-- where the payload with number s lies, with a window of size W [S3]
abbrev pub slot_of : ℕ → ℕ → ℕ
slot_of W s = s % W
