-- A plan follows the machine's, send by send. Assumes nothing.
use Prim.Native.Nat.{ℕ, ◌+◌}
use mathlib.Core.Path.{◌≡◌, refl, sym, ap, ◌∙◌, subst}
use mathlib.Core.Bool.{Bool, true, false, true≢false, not}
use mathlib.Core.List.{List, [], ◌∷◌}
use lib.ListN.{get_or}
use lib.Dec.{eqb}
use Rattle.units.specs.Refusals.{pick, Verdict}
use Rattle.units.specs.declared.refusals.Refusal.TheVariants as refusal
use Rattle.units.proofs.Judging.{refused_not_zero}
use Rattle.blocks.specs.Reading.{is_plan, read_block}
use Rattle.end_points.specs.Answers.{answer_of, planned_of}
use Rattle.end_points.specs.Lent.{Lent}
use Rattle.call_send.specs.Sending.{send_answer, send_after}
use Rattle.call_plan.specs.Planning.{InOrder, goes_on, sent_in_order, sent_block, plan_answer, plan_after}
use Rattle.good.specs.Calls.{Memory, lent, kept, answer, after}
use Rattle.good.proofs.Planned.{lent_kept}
use Rattle.machine.specs.Calls.{Call, sends, plans, Answer}
use Rattle.machine.specs.Machine.{Machine, Outcome, answers, unless, sending, accepts, sending_all, planning, step}
use Rattle.std.specs.Prelude.{Result, Ok, Err}
use Rattle.units.specs.declared.refusals.Refusal.{Refusal}
use Rattle.end_points.specs.declared.answers.Plan.{Plan}

-- what a memory stands for, in whatever sense: where every send keeps to it and answers as the machine's, so does a plan
module _ (R : Memory → Machine → Type 0) (i : ℕ) where
  abbrev pub Does : Memory → Machine → Call → Type 0
  Does n m c = (answer n c ≡ (step m c).answer) × R (after n c) (step m c).machine

  module _ (send : (n : Memory) (m : Machine) (p : List ℕ) → R n m → Does n m (sends i p)) where
    abbrev Same : InOrder → Outcome → Type 0
    Same s o =
        (record { numbers = planned_of (Ok (record { accepted = s.accepted; stop = s.stop })); out = [] } ≡ o.answer)
        × R (kept s.left) o.machine

    same : (n : Memory) (m : Machine) (k : ℕ) (ps : List (List ℕ)) → R n m → Same (sent_in_order (lent n []) i k ps) (sending_all m i k ps)
    unfolding sent_in_order sending_all answer after step
    same n m k [] r = (refl, r)
    same n m k (p ∷ ps) r =
        let s = send n m p r in
        let y = send_after (lent n []) i p (send_answer (lent n []) i p) in
        sides (send_answer (lent n []) i p) (accepts o) y (ap (λ (a : Answer). a.numbers) s.0) refl s.1
        (sent_in_order y i (k + 1) ps)
        (subst (λ (x : Lent). Same (sent_in_order x i (k + 1) ps) (sending_all o.machine i (k + 1) ps)) (lent_kept n i p (send_answer (lent n []) i p))
        (same (kept y) o.machine (k + 1) ps s.1))
      where
        o : Outcome
        o = sending m i p

        sides : (v : Verdict) (b : Bool) (y : Lent) → answer_of v ≡ o.answer.numbers → accepts o ≡ b → R (kept y) o.machine
            → (others : InOrder) → Same others (sending_all o.machine i (k + 1) ps)
            → Same (goes_on v k y others)
            (pick b (sending_all o.machine i (k + 1) ps) (answers (0 ∷ k ∷ o.answer.numbers) [] o.machine))
        sides (Ok _) true y a h r others e = e
        sides (Ok _) false y a h r others e = absurd (true≢false (ap (λ (l : List ℕ). eqb (get_or l 0 0) 0) a ∙ h))
        sides (Err w) true y a h r others e =
            absurd (true≢false (sym h ∙ sym (ap (λ (l : List ℕ). eqb (get_or l 0 0) 0) a) ∙ refused_not_zero w))
        sides (Err w) false y a h r others e = (ap (λ (l : List ℕ). record { numbers = 0 ∷ k ∷ l; out = [] }) a, r)

    pub plans_do : (n : Memory) (m : Machine) (block : List ℕ) → R n m → Does n m (plans i block)
    unfolding answer after step planning plan_answer plan_after
    plans_do n m block r = sides (is_plan block)
      where
        x : Lent
        x = lent n []

        sides : (b : Bool) →
            let s = sent_block x i block in
            let a = pick {A = Result Plan Refusal} b (Ok (record { accepted = s.accepted; stop = s.stop })) (Err refusal.BadBlock) in
            let o = unless ((not b, refusal.BadBlock) ∷ []) [] m (sending_all m i 0 (read_block block)) in
            (record { numbers = planned_of a; out = [] } ≡ o.answer) × R (kept (plan_after x i block a)) o.machine
        sides true = same n m 0 (read_block block) r
        sides false = (refl, r)
