-- A plan by what each of its sends does, and its laws (specs/LawsPlan.antt). Assumes nothing.
use Prim.Native.Nat.{ℕ, zero, suc, ◌+◌, ◌<◌}
use mathlib.Core.Path.{◌≡◌, refl, sym, subst}
use mathlib.Core.Bool.{Bool, true, false, not}
use mathlib.Core.List.{List, [], ◌∷◌}
use native.Mathlib.Omega.{arith}
use lib.ListN.{get_or}
use borrow.Author.Tests.{eqb-true, eqb-false}
use Rattle.units.specs.Refusals.{number_of}
use Rattle.units.specs.declared.refusals.Refusal.{Refusal}
use Rattle.units.specs.declared.refusals.Refusal.TheVariants as refusal
use Rattle.units.proofs.Judging.{refused_some}
use Rattle.frame.specs.Faults.{refused_of}
use Rattle.blocks.specs.Reading.{read_block, is_plan}
use Rattle.machine.specs.Machine.{Machine, Outcome, answers, unless, send_tests, sending, accepts, sending_all, planning, step}
use Rattle.machine.specs.LawsPlan.{PlanGoes, sent_singly, answer_at, Singly, PlanIsSends}
use Rattle.machine.proofs.Hosting.{sent}
use Rattle.machine.proofs.Judged.{by_verdict}
use Rattle.machine.proofs.Touching.{by_done}
use Rattle.machine.proofs.Sends.{by_sends}

-- ---- what holds of every plan

abbrev pub plan_tests : List ℕ → List (Bool × Refusal)
plan_tests block = (not (is_plan block), refusal.BadBlock) ∷ []

-- what holds of a plan where it holds of what its sends come to
module _ (P : Machine → Outcome → Type 0) (i : ℕ)
    (done : (m : Machine) (ns : List ℕ) → P m (answers (0 ∷ ns) [] m))
    (before : (m : Machine) (p : List ℕ) (o : Outcome) → P (sending m i p).machine o → P m o) where
  pub by_plan : ((m : Machine) (w : Refusal) → P m (answers (refused_of w) [] m)) → (m : Machine) (block : List ℕ) → P m (planning m i block)
  unfolding planning
  by_plan refused m block =
      by_verdict (P m) (plan_tests block) [] m (sending_all m i 0 (read_block block)) (refused m)
      (λ v. by_sends P i done before m 0 (read_block block))

-- ---- it is refused for its block alone

pub first_zero : (m : Machine) (i n : ℕ) (ps : List (List ℕ)) → get_or (sending_all m i n ps).answer.numbers 0 0 ≡ 0
first_zero m i n ps = by_sends (λ m o. get_or o.answer.numbers 0 0 ≡ 0) i (λ m ns. refl) (λ m p o h. h) m n ps

pub plan_is : (m : Machine) (i : ℕ) (block : List ℕ) → is_plan block ≡ true → planning m i block ≡ sending_all m i 0 (read_block block)
unfolding planning
plan_is m i block h = rw h

pub plan_goes : PlanGoes
unfolding PlanGoes step planning
plan_goes m i block = (only (is_plan block), (λ h. subst (λ (o : Outcome). get_or o.answer.numbers 0 0 ≡ 0) (sym (plan_is m i block h)) (first_zero m i 0 (read_block block))))
  where
    only : (b : Bool)
        → get_or (unless ((not b, refusal.BadBlock) ∷ []) [] m (sending_all m i 0 (read_block block))).answer.numbers 0 0 ≡ 0
        → b ≡ true
    only true h = refl
    only false h = absurd (omega arith)

-- ---- else it is so many single sends

-- a send that is not refused answers 0 and no more
pub accepted_done : (m : Machine) (i : ℕ) (p : List ℕ) → accepts (sending m i p) ≡ true → (sending m i p).answer.numbers ≡ 0 ∷ []
unfolding sending
accepted_done m i p =
    by_done (λ o. accepts o ≡ true → o.answer.numbers ≡ 0 ∷ []) m i (λ e. send_tests m e p) (sent m i p)
    (λ w h. absurd (let z : number_of w ≡ 0 = eqb-true (number_of w) 0 h in omega (arith, refused_some w))) (λ e here h. refl)

-- what sends of ps come to, n being accepted before them
pub record Come (m : Machine) (i n : ℕ) (ps : List (List ℕ)) : Type 0 where
  pub accepted : ℕ
  pub stop : List ℕ
  pub numbers : (sending_all m i n ps).answer.numbers ≡ 0 ∷ (n + accepted) ∷ stop
  pub singly : Singly m i ps (sending_all m i n ps).machine accepted stop

pub come : (m : Machine) (i n : ℕ) (ps : List (List ℕ)) → Come m i n ps
unfolding sending_all sent_singly step
come m i n [] =
    record {
      accepted = 0;
      stop = 0 ∷ [];
      numbers = let z : n + 0 ≡ n = omega arith in rw z;
      singly =
          record {
            within = omega arith;
            accepted = λ k h. absurd (omega arith);
            stopped = λ h. absurd (omega arith);
            all = λ h. refl;
            left = refl;
          };
    }
come m i n (p ∷ ps) = sides (accepts (sending m i p)) refl (come (sending m i p).machine i (n + 1) ps)
  where
    o : Outcome
    o = sending m i p

    sides : (b : Bool) → accepts o ≡ b → Come o.machine i (n + 1) ps → Come m i n (p ∷ ps)
    sides true g c =
        let s = c.singly in
        let one : n + 1 + c.accepted ≡ n + suc c.accepted = omega arith in
        let more : suc c.accepted + 1 ≡ suc (c.accepted + 1) = omega arith in
        record {
          accepted = suc c.accepted;
          stop = c.stop;
          numbers = rw (g, ← one) c.numbers;
          singly =
              record {
                within = omega (arith, s.within);
                accepted = λ k h. before k h;
                stopped = λ h. s.stopped (omega arith);
                all = λ h. s.all (omega arith);
                left = rw (g, more) s.left;
              };
        }
      where
        before : (k : ℕ) → k < suc c.accepted → answer_at m i (p ∷ ps) k ≡ 0 ∷ []
        before zero h = accepted_done m i p g
        before (suc k) h = c.singly.accepted k (omega arith)
    sides false g c =
        record {
          accepted = 0;
          stop = o.answer.numbers;
          numbers = let z : n + 0 ≡ n = omega arith in rw (z, g);
          singly =
              record {
                within = omega arith;
                accepted = λ k h. absurd (omega arith);
                stopped = λ h. (refl, eqb-false _ _ g);
                all = λ h. absurd (omega arith);
                left = rw g;
              };
        }

pub plan_is_sends : PlanIsSends
unfolding PlanIsSends step
plan_is_sends m i block h =
    let c = come m i 0 (read_block block) in
    let z : 0 + c.accepted ≡ c.accepted = omega arith in
    let is = sym (plan_is m i block h) in (
      c.accepted,
      c.stop,
      subst (λ (o : Outcome). o.answer.numbers ≡ 0 ∷ c.accepted ∷ c.stop) is (rw z at c.numbers),
      subst (λ (o : Outcome). Singly m i (read_block block) o.machine c.accepted c.stop) is c.singly,
    )
