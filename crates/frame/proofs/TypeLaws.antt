-- Laws of the frame types: what a known number, a fitting payload and a type's own number say. Assumes nothing.
use mathlib.Core.Path.{◌≡◌, refl, sym}
use mathlib.Core.Bool.{true, false, ◌&&◌}
use Prim.Native.Nat.{ℕ, zero, suc, ◌≤◌, ◌<◌}
use native.Mathlib.Omega.{arith}
use borrow.Author.Tests.{leb-true, eqb-true}
use lib.Dec.{leb}
use Rattle.std.proofs.lemmas.Bool.{and_parts}
use Rattle.frame.specs.declared.FrameType.{FrameType}
use Rattle.frame.specs.declared.FrameType.TheVariants.{Data, Acknowledge, Reset, Urgent}
use Rattle.frame.specs.Types.{type_number, type_of, suits, seq_reads, seq_writes, seq_given}

and_le : (n : ℕ) → (leb 1 n && leb n 65520) ≡ true → n ≤ 65520
and_le n e = leb-true n 65520 (and_parts (leb 1 n) (leb n 65520) e).1

-- no payload that fits is longer than the longest
pub suits_le : (t : FrameType) (n : ℕ) → suits t n ≡ true → n ≤ 65520
suits_le Data n e = and_le n e
suits_le Acknowledge n e = omega (arith, eqb-true n 0 e)
suits_le Reset n e = omega (arith, eqb-true n 0 e)
suits_le Urgent n e = and_le n e

-- ---- a type and its number

pub type_of_number : (t : FrameType) → type_of (type_number t) ≡ t
type_of_number Data = refl
type_of_number Acknowledge = refl
type_of_number Reset = refl
type_of_number Urgent = refl

pub number_known : (t : FrameType) → leb 4 (type_number t) ≡ false
number_known Data = refl
number_known Acknowledge = refl
number_known Reset = refl
number_known Urgent = refl

pub number_of_type : (n : ℕ) → n < 4 → type_number (type_of n) ≡ n
number_of_type zero h = refl
number_of_type (suc zero) h = refl
number_of_type (suc (suc zero)) h = refl
number_of_type (suc (suc (suc zero))) h = refl
number_of_type (suc (suc (suc (suc n)))) h = absurd (omega arith)

-- ---- sequences

-- what may be written may be read, and is given as it stands
pub writes_reads : (t : FrameType) (s : ℕ) → seq_writes t s ≡ true → seq_reads t s ≡ true
writes_reads Data s e = refl
writes_reads Acknowledge s e = refl
writes_reads Reset s e = e
writes_reads Urgent s e = refl

pub writes_given : (t : FrameType) (s : ℕ) → seq_writes t s ≡ true → seq_given t s ≡ s
writes_given Data s e = refl
writes_given Acknowledge s e = refl
writes_given Reset s e = refl
writes_given Urgent s e = sym (eqb-true s 0 e)

-- what is read and given may be written
pub reads_writes : (t : FrameType) (s : ℕ) → seq_reads t s ≡ true → seq_writes t (seq_given t s) ≡ true
reads_writes Data s e = refl
reads_writes Acknowledge s e = refl
reads_writes Reset s e = e
reads_writes Urgent s e = refl

-- it is given as it stands, but for an Urgent's
pub given_same : (t : FrameType) (s : ℕ) → (t ≡ Urgent → s ≡ 0) → seq_given t s ≡ s
given_same Data s h = refl
given_same Acknowledge s h = refl
given_same Reset s h = refl
given_same Urgent s h = sym (h refl)
