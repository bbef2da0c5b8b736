-- The four types of frame: their numbers, and what each asks of payload and sequence. Cited by reader and writer.
-- Assumes nothing.
use Rattle.std.specs.Prelude.{ℕ, zero, suc, Bool, true, false, ◌&&◌, eqb, leb, Result, Ok, Err}
use Rattle.units.specs.Refusals.{pick}
use Rattle.units.specs.declared.refusals.Refusal.{Refusal}
use Rattle.units.specs.declared.refusals.Refusal.TheVariants.{UnknownType}
use Rattle.frame.specs.Layout.{largest_payload}
use Rattle.frame.specs.declared.FrameType.{FrameType}
use Rattle.frame.specs.declared.FrameType.TheVariants.{Data, Acknowledge, Reset, Urgent}

-- a type's number [F6]
abbrev pub type_number : FrameType → ℕ
type_number Data = 0
type_number Acknowledge = 1
type_number Reset = 2
type_number Urgent = 3

-- the type of a number below 4 [F6]
abbrev pub type_of : ℕ → FrameType
type_of zero = Data
type_of (suc zero) = Acknowledge
type_of (suc (suc zero)) = Reset
type_of (suc (suc (suc n))) = Urgent

-- 4 and above stand for none [F7, G4, R15]
abbrev pub known_of : ℕ → Result FrameType Refusal
known_of n = pick (leb 4 n) (Err UnknownType) (Ok (type_of n))

-- whether frames of a type have a payload [F12, F13]
abbrev pub carries : FrameType → Bool
carries Data = true
carries Acknowledge = false
carries Reset = false
carries Urgent = true

-- whether they are acknowledged [E12, E16, A1]
abbrev pub answered : FrameType → Bool
answered Data = true
answered Acknowledge = false
answered Reset = true
answered Urgent = false

-- whether they are for a sender: acknowledgements are, all else is for a receiver [F16]
abbrev pub for_sender : FrameType → Bool
for_sender Data = false
for_sender Acknowledge = true
for_sender Reset = false
for_sender Urgent = false

-- whether a payload of n bytes fits a type [F12, F13]
abbrev pub suits : FrameType → ℕ → Bool
suits t n = pick (carries t) (leb 1 n && leb n largest_payload) (eqb n 0)

-- whether a frame of a type may be read with a sequence: a Reset's is 0 [F14, F15]
abbrev pub seq_reads : FrameType → ℕ → Bool
seq_reads Data s = true
seq_reads Acknowledge s = true
seq_reads Reset s = eqb s 0
seq_reads Urgent s = true

-- whether it may be written with one: an Urgent's is 0 too [F14, F15]
abbrev pub seq_writes : FrameType → ℕ → Bool
seq_writes Data s = true
seq_writes Acknowledge s = true
seq_writes Reset s = eqb s 0
seq_writes Urgent s = eqb s 0

-- the sequence that the reader gives: an Urgent's is not looked at [F15]
abbrev pub seq_given : FrameType → ℕ → ℕ
seq_given Data s = s
seq_given Acknowledge s = s
seq_given Reset s = s
seq_given Urgent s = 0
