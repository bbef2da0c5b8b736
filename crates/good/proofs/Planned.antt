-- A plan by its single sends: what holds from what a send leaves, and so from what was there before it, holds from
-- before a plan. Assumes nothing.
use Prim.Native.Nat.{ℕ, ◌+◌}
use mathlib.Core.Path.{◌≡◌, refl, subst}
use mathlib.Core.Bool.{Bool, true, false}
use mathlib.Core.List.{List, [], ◌∷◌}
use Rattle.units.specs.Refusals.{pick, Verdict}
use Rattle.units.specs.declared.refusals.Refusal.TheVariants as refusal
use Rattle.blocks.specs.Reading.{is_plan, read_block}
use Rattle.end_points.specs.Lent.{Lent}
use Rattle.call_send.specs.Sending.{send_answer, send_after}
use Rattle.call_plan.specs.Planning.{goes_on, sent_in_order, sent_block, plan_answer, plan_after}
use Rattle.machine.specs.Calls.{sends, plans}
use Rattle.good.specs.Calls.{Memory, lent, kept, after}
use Rattle.std.specs.Prelude.{Ok, Err}

-- what a send leaves is what the next one is lent
pub lent_kept : (n : Memory) (i : ℕ) (p : List ℕ) (v : Verdict)
    → lent (kept (send_after (lent n []) i p v)) [] ≡ send_after (lent n []) i p v
unfolding send_after
lent_kept n i p (Ok _) = refl
lent_kept n i p (Err w) = refl

module _ (P : Memory → Memory → Type 0) (i : ℕ) (same : (n : Memory) → P n n)
    (before : (n : Memory) (p : List ℕ) (m : Memory) → P (after n (sends i p)) m → P n m) where
  by_sends : (n : Memory) (k : ℕ) (ps : List (List ℕ)) → P n (kept (sent_in_order (lent n []) i k ps).left)
  unfolding sent_in_order after
  by_sends n k [] = same n
  by_sends n k (p ∷ ps) =
      before n p _
      (sides (send_answer (lent n []) i p)
      (subst (λ (x : Lent). P (kept y) (kept (sent_in_order x i (k + 1) ps).left)) (lent_kept n i p (send_answer (lent n []) i p))
      (by_sends (kept y) (k + 1) ps)))
    where
      y : Lent
      y = send_after (lent n []) i p (send_answer (lent n []) i p)

      sides : (v : Verdict) → P (kept y) (kept (sent_in_order y i (k + 1) ps).left)
          → P (kept y) (kept (goes_on v k y (sent_in_order y i (k + 1) ps)).left)
      sides (Ok _) others = others
      sides (Err w) others = same (kept y)

  pub by_plan : (n : Memory) (block : List ℕ) → P n (after n (plans i block))
  unfolding after plan_answer plan_after
  by_plan n block = sides (is_plan block)
    where
      sides : (b : Bool) → let s = sent_block (lent n []) i block in
          P n (kept (plan_after (lent n []) i block (pick b (Ok (record { accepted = s.accepted; stop = s.stop })) (Err refusal.BadBlock))))
      sides true = by_sends n 0 (read_block block)
      sides false = same n
