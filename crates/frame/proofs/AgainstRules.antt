-- Which fault is told, and that but for its number every answer is that of before: what specs/AgainstRules.antt states.
-- Assumes nothing.
use mathlib.Core.Path.{◌≡◌, refl, ap}
use mathlib.Core.Logic.Iff
use mathlib.Core.Logic.{◌≢◌, ◌↔◌, ◌⊎◌, inl, inr}
use mathlib.Core.Bool.{Bool, true, false, not, ◌||◌}
use mathlib.Core.List.{List, [], ◌∷◌}
use Prim.Native.Nat.{ℕ, ◌+◌, ◌≤◌, ◌<◌}
use native.Mathlib.Omega.{arith}
use borrow.Author.Tests.{le-leb, lt-leb, leb-true, leb-false, eq-eqb, ne_eqb, eqb-true, eqb-false, not-false, not-true}
use lib.Dec.{eqb, leb, ltb}
use lib.ListN.{length}
use Rattle.units.specs.Refusals.{number_of, pick, verdict, Verdict}
use Rattle.units.specs.declared.refusals.Refusal.{Refusal}
use Rattle.units.specs.declared.refusals.Refusal.TheVariants as refusal
use Rattle.units.proofs.Judging.{differ, passed_over, fits_here, not_given}
use Rattle.frame.specs.declared.Fields.{Fields}
use Rattle.frame.specs.declared.Header.{Header}
use Rattle.frame.specs.Types.{type_of, suits, seq_writes}
use Rattle.frame.specs.Layout.{overhead, type_at, user_at}
use Rattle.frame.specs.Reading.{sound_of, header_tests, header_at, read_as, header_of, read_of}
use Rattle.frame.specs.Writing.{write_tests, written_as, write_answer}
use Rattle.frame.specs.AgainstRules.{length_fits, sequence_fits, HasFault, FirstFaults, IsFault, ReaderFaults}
use Rattle.frame.specs.AgainstRules.{HasWrong, WriterFaults, against_rules, breaks_rules, read_before, written_before, ReadAsBefore, WrittenAsBefore}
use Rattle.frame.proofs.FaultLaws.{fault_late, has_byte, fault_was_12}
use Rattle.std.specs.Prelude.{Ok, Err}

-- ---- tests in words

known : (n : ℕ) → (leb 4 n ≡ false) ↔ (n < 4)
known n = (leb-false 4 n, lt-leb 4 n)

unknown : (n : ℕ) → (leb 4 n ≡ true) ↔ (4 ≤ n)
unknown n = (leb-true 4 n, le-leb 4 n)

zeros : (n : ℕ) → (not (eqb n 0) ≡ false) ↔ (n ≡ 0)
zeros n = (λ e. eqb-true n 0 (not-false _ e), λ e. ap not (eq-eqb n 0 e))

not_zeros : (n : ℕ) → (not (eqb n 0) ≡ true) ↔ (n ≢ 0)
not_zeros n = (λ e. eqb-false n 0 (not-true _ e), λ e. ap not (ne_eqb n 0 e))

fits : (b : Bool) → (not b ≡ false) ↔ (b ≡ true)
fits b = (not-false b, ap not)

fits_not : (b : Bool) → (not b ≡ true) ↔ (b ≡ false)
fits_not b = (not-true b, ap not)

-- another test, which does not fit, stands before the one for a fault
over : {A B : Type 0} (t : Bool × Refusal) (ts : List (Bool × Refusal)) (w : Refusal)
    → eqb (number_of t.1) (number_of w) ≡ false → (t.0 ≡ false) ↔ A
    → (verdict ts ≡ Err w) ↔ B → (verdict (t ∷ ts) ≡ Err w) ↔ (A × B)
over t ts w n = passed_over t ts w (differ t.1 w n)

-- ---- reading

-- the reader refuses with what its tests refuse with
pub read_refused : (v : Verdict) (h : Header) (w : Refusal) → (read_as v h ≡ Err w) ↔ (v ≡ Err w)
read_refused (Ok _) h w =
    (λ e. let z : ◌≡◌ {A = ℕ} 0 1 = cc in absurd (omega arith), λ e. let z : ◌≡◌ {A = ℕ} 0 1 = cc in absurd (omega arith))
read_refused (Err u) h w = (λ e. cc, λ e. cc)

module _ (f : List ℕ) where
  -- the tests, each with those that follow it
  abbrev sequence_test : List (Bool × Refusal)
  sequence_test = (not (sequence_fits f), refusal.WrongSequence) ∷ []

  abbrev length_test : List (Bool × Refusal)
  length_test = (not (length_fits f), refusal.LengthAgainstType) ∷ sequence_test

  abbrev user_test : List (Bool × Refusal)
  user_test = (not (eqb (user_at f) 0), refusal.UserBits) ∷ length_test

  by_tests : (w : Refusal) → HasFault f w ↔ (verdict (header_tests f) ≡ Err w)
  unfolding header_of
  by_tests w = read_refused (verdict (header_tests f)) (header_at (type_of (type_at f)) f) w

  -- a fault behind the type's
  known_type : {A : Type 0} (w : Refusal) → eqb (number_of refusal.UnknownType) (number_of w) ≡ false
      → (verdict user_test ≡ Err w) ↔ A → HasFault f w ↔ ((type_at f < 4) × A)
  known_type w n p =
      Iff.trans (by_tests w) (over (leb 4 (type_at f), refusal.UnknownType) user_test w n (known (type_at f)) p)

  -- and behind the user bits
  no_user : {A : Type 0} (w : Refusal)
      → eqb (number_of refusal.UnknownType) (number_of w) ≡ false → eqb (number_of refusal.UserBits) (number_of w) ≡ false
      → (verdict length_test ≡ Err w) ↔ A → HasFault f w ↔ ((type_at f < 4) × ((user_at f ≡ 0) × A))
  no_user w n m p =
      known_type w n (over (not (eqb (user_at f) 0), refusal.UserBits) length_test w m (zeros (user_at f)) p)

pub first_faults : FirstFaults
unfolding FirstFaults
first_faults f =
    record {
      type =
          Iff.trans (by_tests f refusal.UnknownType)
          (fits_here (leb 4 (type_at f)) refusal.UnknownType (user_test f) refl (unknown (type_at f)));
      user =
          known_type f refusal.UserBits refl
          (fits_here (not (eqb (user_at f) 0)) refusal.UserBits (length_test f) refl (not_zeros (user_at f)));
      length =
          no_user f refusal.LengthAgainstType refl refl
          (fits_here (not (length_fits f)) refusal.LengthAgainstType (sequence_test f) refl (fits_not (length_fits f)));
      sequence =
          no_user f refusal.WrongSequence refl refl
          (over (not (length_fits f), refusal.LengthAgainstType) (sequence_test f) refusal.WrongSequence refl (fits (length_fits f))
          (fits_here (not (sequence_fits f)) refusal.WrongSequence [] refl (fits_not (sequence_fits f))));
    }

pub reader_faults : ReaderFaults
unfolding ReaderFaults read_of
reader_faults f w k =
    Iff.trans (read_refused (verdict ((not (sound_of f), refusal.BadFrame) ∷ header_tests f)) (header_at (type_of (type_at f)) f) w)
    (over (not (sound_of f), refusal.BadFrame) (header_tests f) w (ne_eqb (number_of refusal.BadFrame) (number_of w) (λ e. omega (arith, fault_late w k))) (fits (sound_of f))
    (Iff.symm (by_tests f w)))

-- ---- writing

writer_refused : (v : Verdict) (n : ℕ) (w : Refusal) → (written_as v n ≡ Err w) ↔ (v ≡ Err w)
writer_refused (Ok _) n w =
    (λ e. let z : ◌≡◌ {A = ℕ} 0 1 = cc in absurd (omega arith), λ e. let z : ◌≡◌ {A = ℕ} 0 1 = cc in absurd (omega arith))
writer_refused (Err u) n w = (λ e. cc, λ e. cc)

module _ (d : Fields) (p b : List ℕ) where
  abbrev room_tests : List (Bool × Refusal)
  room_tests =
      (not (suits (type_of d.kind) (length p)), refusal.PayloadLength)
      ∷ (ltb (length b) (length p + overhead), refusal.TooShort)
      ∷ []

  abbrev number_test : List (Bool × Refusal)
  number_test = (not (seq_writes (type_of d.kind) d.seq.0), refusal.WrongSequence) ∷ room_tests

  abbrev nibble_test : List (Bool × Refusal)
  nibble_test = (not (eqb d.user 0), refusal.UserBits) ∷ number_test

  by_writing : (w : Refusal)
      → HasWrong d p b w ↔ (verdict (write_tests d (length p) (length b)) ≡ Err w)
  unfolding write_answer
  by_writing w = writer_refused (verdict (write_tests d (length p) (length b))) (length p + overhead) w

  known_written : {A : Type 0} (w : Refusal) → eqb (number_of refusal.UnknownType) (number_of w) ≡ false
      → (verdict nibble_test ≡ Err w) ↔ A → HasWrong d p b w ↔ ((d.kind < 4) × A)
  known_written w n q =
      Iff.trans (by_writing w) (over (leb 4 d.kind, refusal.UnknownType) nibble_test w n (known d.kind) q)

pub writer_faults : WriterFaults
unfolding WriterFaults
writer_faults d p b =
    record {
      type =
          Iff.trans (by_writing d p b refusal.UnknownType)
          (fits_here (leb 4 d.kind) refusal.UnknownType (nibble_test d p b) refl (unknown d.kind));
      user =
          known_written d p b refusal.UserBits refl
          (fits_here (not (eqb d.user 0)) refusal.UserBits (number_test d p b) refl (not_zeros d.user));
      sequence =
          known_written d p b refusal.WrongSequence refl
          (over (not (eqb d.user 0), refusal.UserBits) (number_test d p b) refusal.WrongSequence refl (zeros d.user)
          (fits_here (not (seq_writes (type_of d.kind) d.seq.0)) refusal.WrongSequence (room_tests d p b) refl
          (fits_not (seq_writes (type_of d.kind) d.seq.0))));
      length =
          λ e.
          not_given (write_tests d (length p) (length b)) refusal.LengthAgainstType refl
          ((by_writing d p b refusal.LengthAgainstType).0 e);
    }

-- ---- as it was before

-- a header is refused for a fault where the frame breaks the rules, and given where it does not
pub header_before : (f : List ℕ)
    → ((breaks_rules f ≡ true) × ((w : Refusal) × (IsFault w × HasFault f w)))
    ⊎ ((breaks_rules f ≡ false) × (header_of f ≡ Ok (header_at (type_of (type_at f)) f)))
unfolding header_of
header_before f =
    go (leb 4 (type_at f)) (not (eqb (user_at f) 0)) (not (length_fits f)) (not (sequence_fits f))
    (header_at (type_of (type_at f)) f)
  where
    tests : (t u l n : Bool) → List (Bool × Refusal)
    tests t u l n =
        (t, refusal.UnknownType)
        ∷ (u, refusal.UserBits)
        ∷ (l, refusal.LengthAgainstType)
        ∷ (n, refusal.WrongSequence)
        ∷ []

    go : (t u l n : Bool) (h : Header)
        → (((t || u || l || n) ≡ true) × ((w : Refusal) × (IsFault w × (read_as (verdict (tests t u l n)) h ≡ Err w))))
        ⊎ (((t || u || l || n) ≡ false) × (read_as (verdict (tests t u l n)) h ≡ Ok h))
    go true u l n h = inl (refl, (refusal.UnknownType, (has_byte, refl)))
    go false true l n h = inl (refl, (refusal.UserBits, (has_byte, refl)))
    go false false true n h = inl (refl, (refusal.LengthAgainstType, (has_byte, refl)))
    go false false false true h = inl (refl, (refusal.WrongSequence, (has_byte, refl)))
    go false false false false h = inr (refl, refl)

pub read_as_before : ReadAsBefore
unfolding ReadAsBefore read_of header_of
read_as_before f = sides (sound_of f) (header_before f)
  where
    sides : (s : Bool)
        → ((breaks_rules f ≡ true) × ((w : Refusal) × (IsFault w × HasFault f w)))
        ⊎ ((breaks_rules f ≡ false) × (header_of f ≡ Ok (header_at (type_of (type_at f)) f)))
        → read_before (read_as (verdict ((not s, refusal.BadFrame) ∷ header_tests f)) (header_at (type_of (type_at f)) f))
        ≡ pick (not s) (inr (number_of refusal.BadFrame)) (pick (breaks_rules f) (inr against_rules) (inl (header_at (type_of (type_at f)) f)))
    sides false k = refl
    sides true (inl k) = rw (k.0, k.1.1.1, fault_was_12 k.1.0 k.1.1.0)
    sides true (inr k) = rw (k.0, k.1)

pub written_as_before : WrittenAsBefore
unfolding WrittenAsBefore write_answer
written_as_before d p b =
    go (leb 4 d.kind) (not (eqb d.user 0)) (not (seq_writes (type_of d.kind) d.seq.0))
    (not (suits (type_of d.kind) (length p))) (ltb (length b) (length p + overhead)) (length p + overhead)
  where
    go : (t u n l r : Bool) (k : ℕ)
        → written_before (written_as (verdict ((t, refusal.UnknownType) ∷ (u, refusal.UserBits) ∷ (n, refusal.WrongSequence) ∷ (l, refusal.PayloadLength) ∷ (r, refusal.TooShort) ∷ [])) k)
        ≡ pick (t || u || n) (inr against_rules) (pick l (inr (number_of refusal.PayloadLength)) (pick r (inr (number_of refusal.TooShort)) (inl k)))
    go true u n l r k = refl
    go false true n l r k = refl
    go false false true l r k = refl
    go false false false true r k = refl
    go false false false false true k = refl
    go false false false false false k = refl
