-- The frame's bytes, as they are written and where each stands. Cited by reader and writer. Assumes nothing.
use Rattle.std.specs.Prelude.{ℕ, ◌+◌, ◌-◌, ◌*◌, ◌/◌, ◌%◌, List, [], ◌∷◌, ◌++◌, length, get_or, take, drop}
use Rattle.units.specs.Bytes.{be16}
use Rattle.check8.specs.Polynomial.{check_of}
use Rattle.frame.specs.declared.Fields.{Fields}

-- ---- where each field stands

-- the destination's address [F2]
abbrev pub destination_byte : ℕ
destination_byte = 0

-- the protocol ID [F3]
abbrev pub protocol_byte : ℕ
protocol_byte = 1

-- the source's address [F4]
abbrev pub source_byte : ℕ
source_byte = 2

-- user bits and type, a nibble each [F5, F6]
abbrev pub type_byte : ℕ
type_byte = 3

-- the payload's length, two bytes [F8]
abbrev pub length_byte : ℕ
length_byte = 4

-- the channel [F9]
abbrev pub channel_byte : ℕ
channel_byte = 6

-- the sequence number [F10]
abbrev pub sequence_byte : ℕ
sequence_byte = 7

-- the payload [F11]
abbrev pub payload_byte : ℕ
payload_byte = 8

-- how many bytes a frame has beside its payload [F1]
abbrev pub overhead : ℕ
overhead = 9

-- the most bytes that a payload has [F12]
abbrev pub largest_payload : ℕ
largest_payload = 65520

-- ---- what is read there

-- the high nibble: the user bits [F5]
abbrev pub user_at : List ℕ → ℕ
user_at f = get_or f type_byte 0 / 16

-- the low nibble: the type [F6]
abbrev pub type_at : List ℕ → ℕ
type_at f = get_or f type_byte 0 % 16

-- from byte 8 on, all but the check byte [F11]
unfoldable pub payload_of : List ℕ → List ℕ
payload_of f = take (length f - overhead) (drop payload_byte f)

-- ---- what is written

-- bytes 0 to 7, before a payload of n bytes [F2, F3, F4, F5, F6, F8, F9, F10, F17]
unfoldable pub head_bytes : Fields → ℕ → List ℕ
head_bytes d n =
    d.destination.0
    ∷ d.protocol
    ∷ d.source.0
    ∷ (d.user % 16 * 16 + d.kind % 16)
    ∷ be16 (n % 65536)
    ++ d.channel.0
    ∷ d.seq.0
    ∷ []

-- all that the check byte is worked out over [F11, C3]
unfoldable pub body_bytes : Fields → List ℕ → List ℕ
body_bytes d p = head_bytes d (length p) ++ p

-- the whole frame [F1, F11, C3]
unfoldable pub frame_bytes : Fields → List ℕ → List ℕ
frame_bytes d p = body_bytes d p ++ check_of (body_bytes d p) ∷ []
