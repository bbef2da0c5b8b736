-- A plan is so many single sends (specs/Planning.antt). Assumes nothing.
use Prim.Native.Nat.{ℕ, zero, suc, ◌+◌, ◌<◌}
use mathlib.Core.Path.{◌≡◌, refl, ap}
use mathlib.Core.Bool.{Bool, true, false}
use mathlib.Core.List.{List, [], ◌∷◌}
use native.Mathlib.Omega.{arith}
use Rattle.units.specs.Refusals.{pick, Verdict}
use Rattle.units.specs.declared.refusals.Refusal.TheVariants as refusal
use Rattle.blocks.specs.Reading.{is_plan, read_block}
use Rattle.end_points.specs.Lent.{Lent}
use Rattle.call_send.specs.Sending.{send_answer, send_after}
use Rattle.call_plan.specs.Planning.{InOrder, goes_on, sent_in_order, sent_block, plan_answer, plan_after, sent_singly, answer_at, Singly, PlanIsSends}
use Rattle.std.specs.Prelude.{Result, Ok, Err}
use Rattle.units.specs.declared.refusals.Refusal.{Refusal}
use Rattle.end_points.specs.declared.answers.Plan.{Plan}

-- what sends of ps come to, n being accepted before them
record Come (x : Lent) (i : ℕ) (ps : List (List ℕ)) (n : ℕ) (s : InOrder) : Type 0 where
  more : ℕ
  accepted : s.accepted ≡ n + more
  singly : Singly x i ps more s.stop s.left

come : (x : Lent) (i n : ℕ) (ps : List (List ℕ)) → Come x i ps n (sent_in_order x i n ps)
unfolding sent_in_order sent_singly
come x i n [] =
    record {
      more = 0;
      accepted = omega arith;
      singly =
          record {
            within = omega arith;
            accepted = λ k h. absurd (omega arith);
            stopped = λ h. absurd (omega arith);
            all = λ h. refl;
            as_left = refl;
          };
    }
come x i n (p ∷ ps) = sides (send_answer x i p) refl (come y i (n + 1) ps)
  where
    y : Lent
    y = send_after x i p (send_answer x i p)

    sides : (v : Verdict) → send_answer x i p ≡ v → Come y i ps (n + 1) (sent_in_order y i (n + 1) ps)
        → Come x i (p ∷ ps) n (goes_on v n y (sent_in_order y i (n + 1) ps))
    sides (Ok _) e c =
        let s = c.singly in
        let more : suc c.more + 1 ≡ suc (c.more + 1) = omega arith in
        record {
          more = suc c.more;
          accepted = omega (arith, c.accepted);
          singly =
              record {
                within = omega (arith, s.within);
                accepted = before;
                stopped = λ h. s.stopped (omega arith);
                all = λ h. s.all (omega arith);
                as_left = rw more s.as_left;
              };
        }
      where
        before : (k : ℕ) → k < suc c.more → answer_at x i (p ∷ ps) k ≡ Ok tt
        before zero h = e
        before (suc k) h = c.singly.accepted k (omega arith)
    sides (Err w) e c =
        record {
          more = 0;
          accepted = omega arith;
          singly =
              record {
                within = omega arith;
                accepted = λ k h. absurd (omega arith);
                stopped = λ h. (e, (λ z. let d : ◌≡◌ {A = ℕ} 0 1 = cc in omega arith));
                all = λ h. absurd (omega arith);
                as_left = refl;
              };
        }

-- an answer with so many accepted is that of a block that is a plan
answer_of : (b : Bool) (s : InOrder) (n : ℕ) (stop : Verdict)
    → pick {A = Result Plan Refusal} b (Ok (record { accepted = s.accepted; stop = s.stop })) (Err refusal.BadBlock) ≡ Ok (record { accepted = n; stop = stop })
    → (s.accepted ≡ n) × (s.stop ≡ stop)
answer_of true s n stop h =
    let same : ◌≡◌ {A = Plan} (record { accepted = s.accepted; stop = s.stop }) (record { accepted = n; stop = stop }) = cc in
    (ap (λ (p : Plan). p.accepted) same, ap (λ (p : Plan). p.stop) same)
answer_of false s n stop h = absurd (let d : ◌≡◌ {A = ℕ} 0 1 = cc in omega arith)

pub plan_is_sends : PlanIsSends
unfolding PlanIsSends plan_answer plan_after
plan_is_sends x i block n stop h =
    let s = sent_block x i block in
    let c = come x i 0 (read_block block) in
    let a = answer_of (is_plan block) s n stop h in
    let m : c.more ≡ n = omega (arith, c.accepted, a.0) in
    rw (m, a.1) at c.singly
