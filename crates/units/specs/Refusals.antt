-- The paper's numbers of the refusals, and an ordered list of tests. Cited by every call that refuses. Assumes nothing.
use Rattle.std.specs.Prelude.{ℕ, Bool, true, false, List, [], ◌∷◌, Result, Ok, Err}
use Rattle.units.specs.declared.refusals.Refusal.{Refusal}
use Rattle.units.specs.declared.refusals.Refusal.TheVariants as refusal

-- the paper's number of each refusal
-- [R1, R2, R3, R4, R5, R6, R7, R8, R9, R10, R11, R13, R14, R15, R16, R17, R18, R19, R20, R21, R22, O3]
abbrev pub number_of : Refusal → ℕ
number_of refusal.BadTable = 1
number_of refusal.NoEntry = 2
number_of refusal.OtherKind = 3
number_of refusal.WrongState = 4
number_of refusal.PayloadLength = 5
number_of refusal.TooShort = 6
number_of refusal.WindowFull = 7
number_of refusal.RunFull = 8
number_of refusal.UrgentWaits = 9
number_of refusal.BadFrame = 10
number_of refusal.NotOurs = 11
number_of refusal.NoEndPoint = 13
number_of refusal.AcksFull = 14
number_of refusal.UnknownType = 15
number_of refusal.UserBits = 16
number_of refusal.LengthAgainstType = 17
number_of refusal.WrongSequence = 18
number_of refusal.UnderWay = 19
number_of refusal.NoneUnderWay = 20
number_of refusal.BadTrace = 21
number_of refusal.BadBlock = 22

-- the first where the test holds, else the second
abbrev pub pick : {A : Type 0} → Bool → A → A → A
pick true a b = a
pick false a b = b

-- what a call or an ordered list of tests comes to
abbrev pub Verdict : Type 0
Verdict = Result (Unit {0}) Refusal

-- each test beside what it refuses with, in the paper's order: the first that fits decides [R43]
abbrev pub verdict : List (Bool × Refusal) → Verdict
verdict [] = Ok tt
verdict (t ∷ ts) = pick t.0 (Err t.1) (verdict ts)
