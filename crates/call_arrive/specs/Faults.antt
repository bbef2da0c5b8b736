-- The faults of a frame that arrives: each is told exactly where the frame is sound and ours and that is its first, and
-- but for their numbers an arrival's answers are those of before. Proved in proofs/Faults.antt. Assumes nothing.
use Rattle.std.specs.Prelude.{ℕ, ◌≡◌, ◌↔◌, ◌⊎◌, true, not, List, Result, Ok, Err}
use Rattle.std.proofs.Common.{inl, inr}
use Rattle.units.specs.Refusals.{number_of, pick}
use Rattle.units.specs.declared.refusals.Refusal.{Refusal}
use Rattle.units.specs.declared.refusals.Refusal.TheVariants as refusal
use Rattle.frame.specs.AgainstRules.{HasFault, IsFault, against_rules, breaks_rules, number_before}
use Rattle.frame.specs.Layout.{type_at, payload_of}
use Rattle.frame.specs.Reading.{sound_of, header_at}
use Rattle.frame.specs.Types.{type_of}
use Rattle.end_points.specs.Lent.{Lent}
use Rattle.call_arrive.specs.Arriving.{ours, entry_of, entry_answer, arrival_answer}
use Rattle.end_points.specs.declared.answers.Arrival.{Arrival}

-- behind 10 and 11, whatever the memory holds [R15, R16, R17, R18, R37, R43]
unfoldable pub ArrivalFaults : Type 0
ArrivalFaults = (x : Lent) (f : List ℕ) (w : Refusal) → IsFault w
    → (arrival_answer x f ≡ Err w)
    ↔ ((sound_of f ≡ true) × ((ours x.node f ≡ true) × HasFault f w))

-- an answer with the number that it had
abbrev pub arrived_before : Result Arrival Refusal → (Result Arrival Refusal) ⊎ ℕ
arrived_before (Ok a) = inl (Ok a)
arrived_before (Err w) = inr (number_before w)

-- with that an arrival is paper 01's: 10, 11, 12, and then what the entry answers to the header [R48]
unfoldable pub ArrivesAsBefore : Type 0
ArrivesAsBefore = (x : Lent) (f : List ℕ)
    → let h = header_at (type_of (type_at f)) f in
    arrived_before (arrival_answer x f)
    ≡ pick (not (sound_of f)) (inr (number_of refusal.BadFrame))
    (pick (not (ours x.node f)) (inr (number_of refusal.NotOurs))
    (pick (breaks_rules f) (inr against_rules) (arrived_before (entry_answer x (entry_of x h) h (payload_of f)))))
