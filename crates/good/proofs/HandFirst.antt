-- What goes out next: the first of a queue or the oldest acknowledgement, whose it is, and in which state its end point is then.
-- Assumes nothing.
use Prim.Native.Nat.{ℕ, zero, suc, ◌≤◌, ◌<◌}
use mathlib.Core.Path.{◌≡◌, refl, sym, ap, subst, ◌∙◌}
use mathlib.Core.Logic.{◌≢◌}
use mathlib.Core.Bool.{Bool, true, false}
use mathlib.Core.List.Memᴰ
use mathlib.Core.List.{List, [], ◌∷◌, Memᴰ}
use native.Mathlib.Omega.{arith}
use lib.Dec.{eqb, ltb, leb}
use borrow.Author.Tests.{eqb-true, le-ltb, ltb-true, leb-true}
use Rattle.units.specs.Refusals.{pick}
use Rattle.memory.specs.Layout.{ids_end, resets, urgents, resends, datas, reset_id}
use Rattle.waiting.specs.Queues.{next_of}
use Rattle.waiting.specs.Acks.{waiting_of, oldest_of, ack_of}
use Rattle.waiting.proofs.Linked.{first, queue_first}
use Rattle.end_points.specs.Heads.{count_in}
use Rattle.end_points.specs.declared.State.{State}
use Rattle.end_points.specs.declared.State.TheVariants.{Closed, Enabled, Open, Failing}
use Rattle.end_points.specs.declared.EndPoint.{EndPoint}
use Rattle.call_hand_out.specs.declared.Next.{Next}
use Rattle.call_hand_out.specs.declared.Next.TheVariants as next
use Rattle.call_hand_out.specs.Handing.{next_out}
use Rattle.memory.specs.Layout.{id_entry}
use Rattle.memory.specs.Layout.{owner_of, Ranged}
use Rattle.good.specs.Good.{Lists, Lines, mine, Silent, Stated, Good}
use Rattle.good.proofs.Members.{mine_all}

-- ---- what waits first

-- why a sort is the next one
abbrev pub Says : List ℕ → List ℕ → Next → Type 0
Says ws b next.Nothing = Unit {0}
Says ws b (next.Ack a) = (a ≡ ack_of (oldest_of ws)) × (0 < waiting_of ws)
Says ws b (next.Reset n) = (n ≡ next_of b resets) × (4 ≤ n)
Says ws b (next.Urgent n) = (n ≡ next_of b urgents) × (4 ≤ n)
Says ws b (next.Resend n) = (n ≡ next_of b resends) × (4 ≤ n)
Says ws b (next.Data n) = (n ≡ next_of b datas) × (4 ≤ n)

says_either : (ws b : List ℕ) (z : Bool) (m n : Next) → (z ≡ true → Says ws b m) → Says ws b n → Says ws b (pick z m n)
says_either ws b true m n f s = f refl
says_either ws b false m n f s = s

pub next_says : (ws b : List ℕ) → Says ws b (next_out ws b)
unfolding next_out
next_says ws b =
    says_either ws b (ltb 0 (waiting_of ws)) (next.Ack (ack_of (oldest_of ws))) _ (λ e. (refl, ltb-true 0 (waiting_of ws) e))
    (says_either ws b (leb 4 (next_of b resets)) (next.Reset (next_of b resets)) _ (λ e. (refl, leb-true 4 (next_of b resets) e))
    (says_either ws b (leb 4 (next_of b urgents)) (next.Urgent (next_of b urgents)) _ (λ e. (refl, leb-true 4 (next_of b urgents) e))
    (says_either ws b (leb 4 (next_of b resends)) (next.Resend (next_of b resends)) _ (λ e. (refl, leb-true 4 (next_of b resends) e))
    (says_either ws b (leb 4 (next_of b datas)) (next.Data (next_of b datas)) next.Nothing (λ e. (refl, leb-true 4 (next_of b datas) e)) tt))))

-- the first of a queue
pub record First (n : ℕ) (xs : List ℕ) : Type 0 where
  pub rest : List ℕ
  pub parts : xs ≡ n ∷ rest

pub first_of : (b : List ℕ) (l : Lists) → Lines b l → (q : ℕ) → q < 4 → (n : ℕ) → n ≡ next_of b q → 4 ≤ n → First n (l q)
first_of b l L q hq n e high = sides (l q) (queue_first b q (l q) (L.queue q hq))
  where
    sides : (xs : List ℕ) → next_of b q ≡ first xs q → First n xs
    sides [] h = absurd (omega arith)
    sides (y ∷ ys) h = record { rest = ys; parts = ap (λ (z : ℕ). z ∷ ys) (sym h ∙ sym e) }

pub first_in : (n : ℕ) (xs : List ℕ) → First n xs → Memᴰ n xs
first_in n xs f = subst (λ (ys : List ℕ). Memᴰ n ys) (sym f.parts) (Memᴰ.head refl)

-- ---- in which state something of an entry waits

silent_empty : (l : Lists) (i : ℕ) (rs : List ℕ) → Silent l i rs → (q : ℕ) → q < 4 → q ≢ resets → mine i (l q) ≡ []
silent_empty l i rs a zero h n = absurd (n refl)
silent_empty l i rs a (suc zero) h n = a.share.urgents
silent_empty l i rs a (suc (suc zero)) h n = a.resends
silent_empty l i rs a (suc (suc (suc zero))) h n = a.share.datas
silent_empty l i rs a (suc (suc (suc (suc q)))) h n = absurd (omega arith)

no_member : {C : Type 0} (n : ℕ) (xs : List ℕ) → xs ≡ [] → Memᴰ n xs → C
no_member n xs e m = absurd (Memᴰ.not-nil (subst (λ (ys : List ℕ). Memᴰ n ys) e m))

module _ (b : List ℕ) (l : Lists) (i : ℕ) (e : EndPoint) (n : ℕ) where
  -- an Urgent, a retransmission or data: an open sender
  pub open_only : (q : ℕ) → q < 4 → q ≢ resets → Memᴰ n (mine i (l q)) → (k : Bool) (st : State) → Stated b l i e k st → (k ≡ true) × (st ≡ Open)
  open_only q h d m k Closed a = no_member n (mine i (l q)) (silent_empty l i [] a.silent q h d) m
  open_only q h d m true (Enabled t sent) a = no_member n (mine i (l q)) (silent_empty l i (pick (eqb t 0) (reset_id i ∷ []) []) a.silent q h d) m
  open_only q h d m false (Enabled t sent) a = no_member n (mine i (l q)) (silent_empty l i [] a.0.silent q h d) m
  open_only q h d m true Open a = (refl, refl)
  open_only q h d m false Open a = no_member n (mine i (l q)) (silent_empty l i [] a.silent q h d) m
  open_only q h d m true (Failing z) a = no_member n (mine i (l q)) (silent_empty l i [] a.silent q h d) m
  open_only q h d m false (Failing z) a = absurd a

  -- a Reset: an enabled sender whose timer does not run
  pub enabled_only : Memᴰ n (mine i (l resets)) → (k : Bool) (st : State) → Stated b l i e k st → (k ≡ true) × ((sent : Bool) × (st ≡ Enabled 0 sent))
  enabled_only m k Closed a = no_member n (mine i (l resets)) a.silent.share.resets m
  enabled_only m true (Enabled t sent) a = sides (eqb t 0) refl a.silent.share.resets
    where
      sides : (z : Bool) → eqb t 0 ≡ z → mine i (l resets) ≡ pick z (reset_id i ∷ []) [] → (true ≡ true) × ((y : Bool) × (Enabled t sent ≡ Enabled 0 y))
      sides true q r = (refl, (sent, ap (λ (z : ℕ). Enabled z sent) (eqb-true t 0 q)))
      sides false q r = no_member n (mine i (l resets)) r m
  enabled_only m false (Enabled t sent) a = no_member n (mine i (l resets)) a.0.silent.share.resets m
  enabled_only m true Open a = no_member n (mine i (l resets)) a.share.resets m
  enabled_only m false Open a = no_member n (mine i (l resets)) a.silent.share.resets m
  enabled_only m true (Failing z) a = no_member n (mine i (l resets)) a.silent.share.resets m
  enabled_only m false (Failing z) a = absurd a

-- ---- whose the first is

pub record Whose (ws : List ℕ) (l : Lists) (q n i : ℕ) : Type 0 where
  pub known : i < count_in ws
  pub own : owner_of n ≡ i
  pub waits : Memᴰ n (l q)
  pub share : Memᴰ n (mine i (l q))

pub ranged_reset : (n : ℕ) → Ranged 0 n → (16 ≤ n) × (n < 32)
unfolding Ranged
ranged_reset n h = h

pub ranged_urgent : (n : ℕ) → Ranged 1 n → (32 ≤ n) × (n < 48)
unfolding Ranged
ranged_urgent n h = h

pub ranged_slot : (q n : ℕ) → Ranged (suc (suc q)) n → (64 ≤ n) × (n < ids_end)
unfolding Ranged
ranged_slot q n h = h

pub slot_owner : (n : ℕ) → 64 ≤ n → n < ids_end → owner_of n ≡ id_entry n
unfolding owner_of
slot_owner n h k = rw (le-ltb n 32 (omega arith), le-ltb n 64 h) (omega arith)

module _ (t ws b : List ℕ) (l : Lists) (G : Good t ws b l) (q : ℕ) (hq : q < 4) (n : ℕ) (m : Memᴰ n (l q)) where
  pub whose : (i : ℕ) → owner_of n ≡ i → Whose ws l q n i
  whose i o = record { known = subst (λ (j : ℕ). j < count_in ws) o (G.known q hq n m).0; own = o; waits = m; share = mine_all i n (l q) m o }
