-- The writer: 15, 16, 18, 5, 6. Cited by the writer. Assumes nothing.
use Rattle.std.specs.Prelude.{ℕ, ◌+◌, Bool, not, List, [], ◌∷◌, ◌++◌, eqb, leb, ltb, length, drop, Result, Ok, Err}
use Rattle.units.specs.Refusals.{verdict, Verdict}
use Rattle.units.specs.declared.refusals.Refusal.{Refusal}
use Rattle.units.specs.declared.refusals.Refusal.TheVariants as refusal
use Rattle.frame.specs.declared.Fields.{Fields}
use Rattle.frame.specs.declared.FrameType.{FrameType}
use Rattle.frame.specs.Types.{type_of, suits, seq_writes}
use Rattle.frame.specs.Layout.{overhead, frame_bytes}

-- what is tested of a known type, with a payload of n bytes and a buffer of `room` [F5, F14, F15, R5, R6, R16, R18]
abbrev pub typed_tests : FrameType → Fields → ℕ → ℕ → List (Bool × Refusal)
typed_tests t d n room =
    (not (eqb d.user 0), refusal.UserBits)
    ∷ (not (seq_writes t d.seq.0), refusal.WrongSequence)
    ∷ (not (suits t n), refusal.PayloadLength)
    ∷ (ltb room (n + overhead), refusal.TooShort)
    ∷ []

-- and of the type's number, before these [F7, R15, R41]
abbrev pub write_tests : Fields → ℕ → ℕ → List (Bool × Refusal)
write_tests d n room = (leb 4 d.kind, refusal.UnknownType) ∷ typed_tests (type_of d.kind) d n room

-- the frame's length where the tests pass [R43]
abbrev pub written_as : Verdict → ℕ → Result ℕ Refusal
written_as (Ok _) n = Ok n
written_as (Err w) n = Err w

-- the new bytes where the tests pass, else the old [R44]
abbrev pub bytes_as : Verdict → List ℕ → List ℕ → List ℕ
bytes_as (Ok _) new old = new
bytes_as (Err w) new old = old

-- what the writer answers for fields, payload and buffer [F1, R41]
unfoldable pub write_answer : Fields → List ℕ → List ℕ → Result ℕ Refusal
write_answer d p b = written_as (verdict (write_tests d (length p) (length b))) (length p + overhead)

-- the buffer afterwards: bytes after the frame stay [H4, R44]
unfoldable pub written_of : Fields → List ℕ → List ℕ → List ℕ
written_of d p b =
    bytes_as (verdict (write_tests d (length p) (length b))) (frame_bytes d p ++ drop (length p + overhead) b) b
