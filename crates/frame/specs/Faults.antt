-- Where in a frame the fault sits that a refusal is for. Cited by whoever gives a refusal in the paper's numbers, and
-- for C. Assumes nothing.
use Rattle.std.specs.Prelude.{ℕ, ◌≡◌, List, [], ◌∷◌, eqb, get_or, Result, Ok, Err}
use Rattle.units.specs.Refusals.{number_of, pick}
use Rattle.units.specs.declared.refusals.Refusal.{Refusal}
use Rattle.units.specs.declared.refusals.Refusal.TheVariants as refusal
use Rattle.frame.specs.Layout.{type_byte, length_byte, sequence_byte}
use Rattle.frame.specs.declared.Header.{Header}

-- the number of the byte, for a refusal that is for a fault of the frame's header [R15, R16, R17, R18, R47]
abbrev pub byte_in : Refusal → List ℕ
byte_in refusal.BadTable = []
byte_in refusal.NoEntry = []
byte_in refusal.OtherKind = []
byte_in refusal.WrongState = []
byte_in refusal.PayloadLength = []
byte_in refusal.TooShort = []
byte_in refusal.WindowFull = []
byte_in refusal.RunFull = []
byte_in refusal.UrgentWaits = []
byte_in refusal.BadFrame = []
byte_in refusal.NotOurs = []
byte_in refusal.NoEndPoint = []
byte_in refusal.AcksFull = []
byte_in refusal.UnknownType = type_byte ∷ []
byte_in refusal.UserBits = type_byte ∷ []
byte_in refusal.LengthAgainstType = length_byte ∷ []
byte_in refusal.WrongSequence = sequence_byte ∷ []
byte_in refusal.UnderWay = []
byte_in refusal.NoneUnderWay = []
byte_in refusal.BadTrace = []
byte_in refusal.BadBlock = []

-- a refusal in the paper's numbers: its own, then the byte's [R47, O3]
abbrev pub refused_of : Refusal → List ℕ
refused_of w = number_of w ∷ byte_in w

-- the reader's answer in the paper's numbers: 0, or the refusal [R40, R47, O3]
abbrev pub read_numbers : Result Header Refusal → List ℕ
read_numbers (Ok h) = 0 ∷ []
read_numbers (Err w) = refused_of w

-- ---- the byte of a refusal that is known by its number

-- what stands for the byte's number where there is none
abbrev pub no_byte : ℕ
no_byte = 255

-- of these refusals, the byte of the one that has a number
abbrev pub byte_among : List Refusal → ℕ → ℕ
byte_among [] n = no_byte
byte_among (w ∷ ws) n = pick (eqb n (number_of w)) (get_or (byte_in w) 0 no_byte) (byte_among ws n)

-- the byte of the refusal that has a number; 255 where it has none, and where no refusal has the number [R47]
unfoldable pub byte_number : ℕ → ℕ
byte_number n =
    byte_among (refusal.UnknownType ∷ refusal.UserBits ∷ refusal.LengthAgainstType ∷ refusal.WrongSequence ∷ []) n

-- a byte's number, or nothing where there is none
abbrev pub if_any : ℕ → List ℕ
if_any b = pick (eqb b no_byte) [] (b ∷ [])

-- no refusal that has a byte is left out [R47]
unfoldable pub BytesAgree : Type 0
BytesAgree = (w : Refusal) → byte_in w ≡ if_any (byte_number (number_of w))
