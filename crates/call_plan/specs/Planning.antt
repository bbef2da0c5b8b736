-- A plan: the payloads of a block are sent one after the other. Which answer, and what all that was lent holds
-- afterwards, by what single sends give. Assumes nothing.
use Rattle.std.specs.Prelude.{ℕ, ◌+◌, ◌≤◌, ◌<◌, ◌≡◌, List, [], ◌∷◌, length, take, get_or, Result, Ok, Err}
use Rattle.units.specs.Refusals.{pick, Verdict}
use Rattle.units.specs.declared.refusals.Refusal.TheVariants as refusal
use Rattle.blocks.specs.Reading.{is_plan, read_block}
use Rattle.end_points.specs.Lent.{Lent}
use Rattle.call_send.specs.Sending.{send_answer, send_after}
use Rattle.end_points.specs.declared.answers.Plan.{Plan}
use Rattle.units.specs.declared.refusals.Refusal.{Refusal}

-- what sends made one after the other come to: how many payloads were accepted, what the next was refused with, if
-- there was one, and all that was lent afterwards
pub record InOrder : Type 0 where
  pub accepted : ℕ
  pub stop : Verdict
  pub left : Lent

-- n were accepted, and the next send answered v and left x: refused, it is the last; else the others follow [E18]
abbrev pub goes_on : Verdict → ℕ → Lent → InOrder → InOrder
goes_on (Ok _) n x others = others
goes_on (Err w) n x others = record { accepted = n; stop = Err w; left = x }

-- payloads sent in order, up to and including the first that is refused; n were accepted before them [E18]
unfoldable pub sent_in_order : Lent → ℕ → ℕ → List (List ℕ) → InOrder
sent_in_order x i n [] = record { accepted = n; stop = Ok tt; left = x }
sent_in_order x i n (p ∷ ps) =
    let v = send_answer x i p in
    let y = send_after x i p v in
    goes_on v n y (sent_in_order y i (n + 1) ps)

-- those of a block
abbrev pub sent_block : Lent → ℕ → List ℕ → InOrder
sent_block x i block = sent_in_order x i 0 (read_block block)

-- 22 before everything [R22, R50, O10]
unfoldable pub plan_answer : Lent → ℕ → List ℕ → Result Plan Refusal
plan_answer x i block =
    let s = sent_block x i block in
    pick (is_plan block) (Ok (record { accepted = s.accepted; stop = s.stop })) (Err refusal.BadBlock)

-- refused, all is as it was; a stop is no refusal [E18, R44]
unfoldable pub plan_after : Lent → ℕ → List ℕ → Result Plan Refusal → Lent
plan_after x i block (Err w) = x
plan_after x i block (Ok p) = (sent_block x i block).left

-- ---- the law, proved in proofs/Singly.antt: a plan is so many single sends

-- what single sends of payloads leave, each whatever it answers [E18]
unfoldable pub sent_singly : Lent → ℕ → List (List ℕ) → Lent
sent_singly x i [] = x
sent_singly x i (p ∷ ps) = sent_singly (send_after x i p (send_answer x i p)) i ps

-- what the send of payload k answers, behind the others
abbrev pub answer_at : Lent → ℕ → List (List ℕ) → ℕ → Verdict
answer_at x i ps k = send_answer (sent_singly x i (take k ps)) i (get_or ps k [])

-- the first n were accepted; with `stop` the next was refused, or there is no next; and all that was lent is as these
-- sends left it, the refused one among them [E18, O10]
pub record Singly (x : Lent) (i : ℕ) (ps : List (List ℕ)) (n : ℕ) (stop : Verdict) (left : Lent) : Type 0 where
  pub within : n ≤ length ps
  pub accepted : (k : ℕ) → k < n → answer_at x i ps k ≡ Ok tt
  pub stopped : n < length ps → (answer_at x i ps n ≡ stop) × (stop ≡ Ok tt → ⊥)
  pub all : n ≡ length ps → stop ≡ Ok tt
  pub as_left : left ≡ sent_singly x i (take (n + 1) ps)

-- so every plan that is not refused, for every content of the memory [E18, O10]
unfoldable pub PlanIsSends : Type 0
PlanIsSends = (x : Lent) (i : ℕ) (block : List ℕ) (n : ℕ) (stop : Verdict)
    → plan_answer x i block ≡ Ok (record { accepted = n; stop = stop })
    → Singly x i (read_block block) n stop (plan_after x i block (Ok (record { accepted = n; stop = stop })))
