-- Laws of the byte at fault: by a refusal's number it is the same as by the refusal, and refusals that have one come
-- behind all others and were 12. Assumes nothing.
use mathlib.Core.Path.{◌≡◌, refl, ap, ◌∙◌}
use mathlib.Core.Logic.{◌≢◌}
use mathlib.Core.List.{List, [], ◌∷◌}
use Prim.Native.Nat.{ℕ, ◌≤◌, ◌<◌}
use native.Mathlib.Omega.{arith}
use borrow.Author.Tests.{ne_eqb}
use native.Mathlib.Decide.{dec_lt}
use lib.Dec.{eqb}
use lib.ListN.{length}
use Rattle.units.specs.Refusals.{number_of, pick}
use Rattle.units.specs.declared.refusals.Refusal.{Refusal}
use Rattle.units.specs.declared.refusals.Refusal.TheVariants as refusal
use Rattle.frame.specs.Faults.{byte_in, no_byte, byte_number, BytesAgree}
use Rattle.frame.specs.AgainstRules.{IsFault, against_rules, number_before}

pub bytes_agree : BytesAgree
unfolding BytesAgree byte_number
bytes_agree refusal.BadTable = refl
bytes_agree refusal.NoEntry = refl
bytes_agree refusal.OtherKind = refl
bytes_agree refusal.WrongState = refl
bytes_agree refusal.PayloadLength = refl
bytes_agree refusal.TooShort = refl
bytes_agree refusal.WindowFull = refl
bytes_agree refusal.RunFull = refl
bytes_agree refusal.UrgentWaits = refl
bytes_agree refusal.BadFrame = refl
bytes_agree refusal.NotOurs = refl
bytes_agree refusal.NoEndPoint = refl
bytes_agree refusal.AcksFull = refl
bytes_agree refusal.UnknownType = refl
bytes_agree refusal.UserBits = refl
bytes_agree refusal.LengthAgainstType = refl
bytes_agree refusal.WrongSequence = refl
bytes_agree refusal.UnderWay = refl
bytes_agree refusal.NoneUnderWay = refl
bytes_agree refusal.BadTrace = refl
bytes_agree refusal.BadBlock = refl

-- the first number that has a byte
abbrev pub least : ℕ
least = number_of refusal.UnknownType

none_below : (n : ℕ) → n < least → byte_number n ≡ no_byte
unfolding byte_number
none_below n h =
    rw (
      ne_eqb n 15 (λ e. omega arith),
      ne_eqb n 16 (λ e. omega arith),
      ne_eqb n 17 (λ e. omega arith),
      ne_eqb n 18 (λ e. omega arith),
    )

pub fault_late : (w : Refusal) → IsFault w → least ≤ number_of w
unfolding BytesAgree
fault_late w k = sides (dec_lt (number_of w) least)
  where
    sides : Dec (number_of w < least) → least ≤ number_of w
    sides (yes h) = absurd (k (bytes_agree w ∙ rw (none_below (number_of w) h)))
    sides (no h) = omega arith

-- a byte is not nothing
pub has_byte : {b : ℕ} → ◌≢◌ {A = List ℕ} (b ∷ []) []
has_byte e = let z : ◌≡◌ {A = ℕ} 1 0 = ap length e in absurd (omega arith)

pub fault_was_12 : (w : Refusal) → IsFault w → number_before w ≡ against_rules
fault_was_12 w k = sides (byte_in w) k
  where
    sides : (l : List ℕ) → l ≢ [] → pick (eqb (length l) 0) (number_of w) against_rules ≡ against_rules
    sides [] k = absurd (k refl)
    sides (b ∷ l) k = rw (ne_eqb (length (b ∷ l)) 0 (λ e. omega arith))
