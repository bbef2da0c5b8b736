-- Paper 01's refusal 12, "against the frame rules", and the four faults that change request K1 put in its place: each
-- is told exactly where its test is the first to fit, and but for the number every answer is that of before. Proved in
-- proofs/AgainstRules.antt. Assumes nothing.
use Rattle.std.specs.Prelude.{ℕ, ◌+◌, ◌≤◌, ◌<◌, ◌≡◌, ◌≢◌, ◌↔◌, ◌⊎◌, Bool, true, false, not, ◌||◌, List, [], eqb, leb}
use Rattle.std.specs.Prelude.{ltb, length, get_or, Result, Ok, Err}
use Rattle.std.proofs.Common.{inl, inr}
use Rattle.units.specs.Bytes.{get16_of}
use Rattle.units.specs.Refusals.{number_of, pick}
use Rattle.units.specs.declared.refusals.Refusal.{Refusal}
use Rattle.units.specs.declared.refusals.Refusal.TheVariants as refusal
use Rattle.frame.specs.declared.Fields.{Fields}
use Rattle.frame.specs.declared.Header.{Header}
use Rattle.frame.specs.Types.{type_of, suits, seq_reads, seq_writes}
use Rattle.frame.specs.Layout.{length_byte, sequence_byte, overhead, type_at, user_at}
use Rattle.frame.specs.Faults.{byte_in}
use Rattle.frame.specs.Reading.{sound_of, header_at, header_of, read_of}
use Rattle.frame.specs.Writing.{write_answer}

-- ---- the first fault

-- whether the length that a frame says fits its type, and whether its sequence does
abbrev pub length_fits : List ℕ → Bool
length_fits f = suits (type_of (type_at f)) (get16_of f length_byte)

abbrev pub sequence_fits : List ℕ → Bool
sequence_fits f = seq_reads (type_of (type_at f)) (get_or f sequence_byte 0)

-- what the header of a frame is refused for
abbrev pub HasFault : List ℕ → Refusal → Type 0
HasFault f w = header_of f ≡ Err w

-- each fault, where it is one and none before it is [R15, R16, R17, R18, R43]
pub record FirstFault (f : List ℕ) : Type 0 where
  pub type : HasFault f refusal.UnknownType ↔ (4 ≤ type_at f)
  pub user : HasFault f refusal.UserBits ↔ ((type_at f < 4) × (user_at f ≢ 0))
  pub length : HasFault f refusal.LengthAgainstType ↔ ((type_at f < 4) × ((user_at f ≡ 0) × (length_fits f ≡ false)))
  pub sequence :
      HasFault f refusal.WrongSequence
      ↔ ((type_at f < 4) × ((user_at f ≡ 0) × ((length_fits f ≡ true) × (sequence_fits f ≡ false))))

-- of every frame [R43]
unfoldable pub FirstFaults : Type 0
FirstFaults = (f : List ℕ) → FirstFault f

-- the refusals for a fault are those that have a byte
abbrev pub IsFault : Refusal → Type 0
IsFault w = byte_in w ≢ []

-- the whole reader tells a fault exactly where the frame is sound and that is its first [R40, R43]
unfoldable pub ReaderFaults : Type 0
ReaderFaults = (f : List ℕ) (w : Refusal) → IsFault w
    → (read_of f ≡ Err w) ↔ ((sound_of f ≡ true) × HasFault f w)

-- what the writer refuses fields for
abbrev pub HasWrong : Fields → List ℕ → List ℕ → Refusal → Type 0
HasWrong d p b w = write_answer d p b ≡ Err w

-- each where none before it is; a length that does not fit is no fault here [R15, R16, R17, R18, R43]
pub record FirstWrong (d : Fields) (p b : List ℕ) : Type 0 where
  pub type : HasWrong d p b refusal.UnknownType ↔ (4 ≤ d.kind)
  pub user : HasWrong d p b refusal.UserBits ↔ ((d.kind < 4) × (d.user ≢ 0))
  pub sequence :
      HasWrong d p b refusal.WrongSequence
      ↔ ((d.kind < 4) × ((d.user ≡ 0) × (seq_writes (type_of d.kind) d.seq.0 ≡ false)))
  pub length : HasWrong d p b refusal.LengthAgainstType → ⊥

-- of all fields, payloads and buffers [R41, R43]
unfoldable pub WriterFaults : Type 0
WriterFaults = (d : Fields) (p b : List ℕ) → FirstWrong d p b

-- ---- as it was before

-- paper 01's number of all four, which no refusal has now
abbrev pub against_rules : ℕ
against_rules = 12

-- what a reader answered it for: type, user bits, payload length or a Reset's sequence [F5, F7, F12, F13, F14]
abbrev pub breaks_rules : List ℕ → Bool
breaks_rules f = leb 4 (type_at f) || not (eqb (user_at f) 0) || not (length_fits f) || not (sequence_fits f)

-- and a writer: type, user bits, a Reset's or an Urgent's sequence [F5, F7, F14, F15]
abbrev pub may_not_write : Fields → Bool
may_not_write d = leb 4 d.kind || not (eqb d.user 0) || not (seq_writes (type_of d.kind) d.seq.0)

-- the number that a refusal had: 12 where it has a byte now [R48]
abbrev pub number_before : Refusal → ℕ
number_before w = pick (eqb (length (byte_in w)) 0) (number_of w) against_rules

-- an answer with the number that it had
abbrev pub read_before : Result Header Refusal → Header ⊎ ℕ
read_before (Ok h) = inl h
read_before (Err w) = inr (number_before w)

abbrev pub written_before : Result ℕ Refusal → ℕ ⊎ ℕ
written_before (Ok n) = inl n
written_before (Err w) = inr (number_before w)

-- with that the reader is paper 01's: 10, 12, or the header. So the frames that are taken are those of before [R48]
unfoldable pub ReadAsBefore : Type 0
ReadAsBefore = (f : List ℕ)
    → read_before (read_of f)
    ≡ pick (not (sound_of f)) (inr (number_of refusal.BadFrame))
    (pick (breaks_rules f) (inr against_rules) (inl (header_at (type_of (type_at f)) f)))

-- and the writer: 12, 5, 6, or the frame's length [R48]
unfoldable pub WrittenAsBefore : Type 0
WrittenAsBefore = (d : Fields) (p b : List ℕ)
    → written_before (write_answer d p b)
    ≡ pick (may_not_write d) (inr against_rules)
    (pick (not (suits (type_of d.kind) (length p))) (inr (number_of refusal.PayloadLength))
    (pick (ltb (length b) (length p + overhead)) (inr (number_of refusal.TooShort)) (inl (length p + overhead))))
