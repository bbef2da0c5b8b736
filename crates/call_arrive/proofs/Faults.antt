-- Which faults an arrival tells, and that but for their numbers its answers are those of before: what specs/Faults.antt
-- states. Assumes nothing.
use Prim.Native.Nat.{ℕ}
use mathlib.Core.Path.{◌≡◌, refl, sym, ap, ◌∙◌}
use mathlib.Core.Logic.Iff
use mathlib.Core.Logic.{◌≢◌, ◌↔◌, ◌⊎◌, inl, inr}
use mathlib.Core.Bool.{Bool, true, false, not, true≢false}
use mathlib.Core.List.{List, [], ◌∷◌}
use native.Mathlib.Omega.{arith}
use lib.ListN.{length}
use Rattle.units.specs.Refusals.{number_of, pick, verdict, Verdict}
use Rattle.units.specs.declared.refusals.Refusal.{Refusal}
use Rattle.units.specs.declared.refusals.Refusal.TheVariants as refusal
use Rattle.units.proofs.Judging.{not_given, below_lacks}
use Rattle.frame.specs.AgainstRules.{HasFault, IsFault, against_rules, breaks_rules}
use Rattle.frame.specs.Layout.{type_at, payload_of}
use Rattle.frame.specs.Reading.{sound_of, header_at, header_of}
use Rattle.frame.specs.Types.{type_of}
use Rattle.frame.specs.declared.Header.{Header}
use Rattle.frame.proofs.AgainstRules.{header_before}
use Rattle.frame.proofs.FaultLaws.{least, fault_late, fault_was_12}
use Rattle.end_points.specs.Ends.{end_of}
use Rattle.end_points.specs.Lent.{Lent}
use Rattle.call_arrive.specs.Arriving.{ours, entry_tests, entry_of, entry_verdict, taken_in_answer, answer_as, entry_answer}
use Rattle.call_arrive.specs.Arriving.{read_answer, arrival_answer}
use Rattle.call_arrive.specs.Faults.{ArrivalFaults, arrived_before, ArrivesAsBefore}
use Rattle.std.specs.Prelude.{Result, Ok, Err}
use Rattle.end_points.specs.declared.answers.Arrival.{Arrival}

-- ---- the faults that are told

module _ (w : Refusal) (k : IsFault w) where
  -- none of the tests at an entry refuses for a fault
  entry_tells : (x : Lent) (i : ℕ) (h : Header) (p : List ℕ) → entry_answer x i h p ≢ Err w
  unfolding entry_answer
  entry_tells x i h p = sides (entry_verdict x i h) refl
    where
      tests : List (Bool × Refusal)
      tests = entry_tests x.node i (end_of x.node i) h.kind h.length (length x.store) (length x.out)

      sides : (v : Verdict) → entry_verdict x i h ≡ v
          → answer_as v (Ok (record { entry = i; was = taken_in_answer x i (end_of x.node i) h.kind h.seq.0 p })) ≢ Err w
      sides (Ok _) e z = let q : ◌≡◌ {A = ℕ} 0 1 = cc in absurd (omega arith)
      sides (Err u) e z = not_given tests w (below_lacks tests least (number_of w) (fault_late w k) refl) (e ∙ cc)

  read_tells : (x : Lent) (r : Result Header Refusal) (p : List ℕ) → (read_answer x r p ≡ Err w) ↔ (r ≡ Err w)
  unfolding read_answer
  read_tells x (Err u) p = (λ e. cc, λ e. cc)
  read_tells x (Ok h) p =
      (λ e. absurd (entry_tells x (entry_of x h) h p e), λ e. let q : ◌≡◌ {A = ℕ} 0 1 = cc in absurd (omega arith))

  -- nor do 10 and 11
  frame_tells : (s o : Bool) (a : Result Arrival Refusal)
      → (answer_as (verdict ((not s, refusal.BadFrame) ∷ (not o, refusal.NotOurs) ∷ [])) a ≡ Err w)
      ↔ ((s ≡ true) × ((o ≡ true) × (a ≡ Err w)))
  frame_tells false o a =
      (λ e. let z : refusal.BadFrame ≡ w = cc in absurd (omega (arith, fault_late w k, ap number_of z)), λ y. absurd (true≢false (sym y.0)))
  frame_tells true false a =
      (λ e. let z : refusal.NotOurs ≡ w = cc in absurd (omega (arith, fault_late w k, ap number_of z)), λ y. absurd (true≢false (sym y.1.0)))
  frame_tells true true a = (λ e. (refl, (refl, e)), λ y. y.1.1)

pub arrival_faults : ArrivalFaults
unfolding ArrivalFaults arrival_answer
arrival_faults x f w k =
    Iff.trans (frame_tells w k (sound_of f) (ours x.node f) (read_answer x (header_of f) (payload_of f)))
    (Iff.and Iff.rfl (Iff.and Iff.rfl (read_tells w k x (header_of f) (payload_of f))))

-- ---- as it was before

module _ (x : Lent) (f : List ℕ) where
  abbrev header : Header
  header = header_at (type_of (type_at f)) f

  read_before :
      arrived_before (read_answer x (header_of f) (payload_of f))
      ≡ pick (breaks_rules f) (inr against_rules) (arrived_before (entry_answer x (entry_of x header) header (payload_of f)))
  unfolding read_answer
  read_before = sides (header_before f)
    where
      sides : ((breaks_rules f ≡ true) × ((w : Refusal) × (IsFault w × HasFault f w))) ⊎ ((breaks_rules f ≡ false) × (header_of f ≡ Ok header))
          → arrived_before (read_answer x (header_of f) (payload_of f))
          ≡ pick (breaks_rules f) (inr against_rules) (arrived_before (entry_answer x (entry_of x header) header (payload_of f)))
      sides (inl k) = rw (k.0, k.1.1.1, fault_was_12 k.1.0 k.1.1.0)
      sides (inr k) = rw (k.0, k.1)

  frame_before : (s o : Bool) (a : Result Arrival Refusal)
      → arrived_before (answer_as (verdict ((not s, refusal.BadFrame) ∷ (not o, refusal.NotOurs) ∷ [])) a)
      ≡ pick (not s) (inr (number_of refusal.BadFrame)) (pick (not o) (inr (number_of refusal.NotOurs)) (arrived_before a))
  frame_before false o a = refl
  frame_before true false a = refl
  frame_before true true a = refl

pub arrives_as_before : ArrivesAsBefore
unfolding ArrivesAsBefore arrival_answer
arrives_as_before x f =
    frame_before x f (sound_of f) (ours x.node f) (read_answer x (header_of f) (payload_of f))
    ∙ rw (read_before x f)
