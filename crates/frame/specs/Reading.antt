-- The reader: 10, then 15, 16, 17, 18. Cited by its two halves and by whoever tests 11 between them. Assumes nothing.
use Rattle.std.specs.Prelude.{ℕ, ◌+◌, Bool, ◌&&◌, not, List, [], ◌∷◌, eqb, leb, length, get_or, Result, Ok, Err}
use Rattle.units.specs.Bytes.{get16_of}
use Rattle.units.specs.Refusals.{verdict, Verdict}
use Rattle.units.specs.declared.refusals.Refusal.{Refusal}
use Rattle.units.specs.declared.refusals.Refusal.TheVariants as refusal
use Rattle.check8.specs.Polynomial.{check_of}
use Rattle.frame.specs.declared.FrameType.{FrameType}
use Rattle.frame.specs.declared.Header.{Header}
use Rattle.frame.specs.Types.{type_of, suits, seq_reads, seq_given}
use Rattle.frame.specs.Layout.{destination_byte, protocol_byte, source_byte, length_byte, channel_byte, sequence_byte}
use Rattle.frame.specs.Layout.{overhead, type_at, user_at}

-- 9 bytes or more, as many as the length field says, and a check byte of 0 over the whole [F1, F8, C5, R10, V7]
unfoldable pub sound_of : List ℕ → Bool
sound_of f = leb overhead (length f) && eqb (get16_of f length_byte + overhead) (length f) && eqb (check_of f) 0

-- of a known type: user bits, length against type, a Reset's sequence [F5, F12, F13, F14, R16, R17, R18]
abbrev pub typed_tests : FrameType → List ℕ → List (Bool × Refusal)
typed_tests t f =
    (not (eqb (user_at f) 0), refusal.UserBits)
    ∷ (not (suits t (get16_of f length_byte)), refusal.LengthAgainstType)
    ∷ (not (seq_reads t (get_or f sequence_byte 0)), refusal.WrongSequence)
    ∷ []

-- and of the type's number, before these [F7, R15]
abbrev pub header_tests : List ℕ → List (Bool × Refusal)
header_tests f = (leb 4 (type_at f), refusal.UnknownType) ∷ typed_tests (type_of (type_at f)) f

-- the fields, of a frame of a known type [F2, F3, F4, F8, F9, F10, F15, U1]
abbrev pub header_at : FrameType → List ℕ → Header
header_at t f =
    record {
      destination = record { 0 = get_or f destination_byte 0 };
      protocol = get_or f protocol_byte 0;
      source = record { 0 = get_or f source_byte 0 };
      kind = t;
      channel = record { 0 = get_or f channel_byte 0 };
      seq = record { 0 = seq_given t (get_or f sequence_byte 0) };
      length = get16_of f length_byte;
    }

-- the fields where the tests pass [R43]
abbrev pub read_as : Verdict → Header → Result Header Refusal
read_as (Ok _) h = Ok h
read_as (Err w) h = Err w

-- the second half: 15, 16, 17, 18 [R15, R16, R17, R18]
unfoldable pub header_of : List ℕ → Result Header Refusal
header_of f = read_as (verdict (header_tests f)) (header_at (type_of (type_at f)) f)

-- the whole reader: 10, then these [R40]
unfoldable pub read_of : List ℕ → Result Header Refusal
read_of f =
    read_as (verdict ((not (sound_of f), refusal.BadFrame) ∷ header_tests f)) (header_at (type_of (type_at f)) f)
