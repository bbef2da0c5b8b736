-- Open, close and counts are the machine's. Assumes nothing.
use Prim.Native.Nat.{ℕ, ◌≤◌, ◌<◌}
use mathlib.Core.Path.{◌≡◌, refl, ◌∙◌, sym}
use mathlib.Core.Bool.{Bool, true, false, not}
use mathlib.Core.List.{List, [], ◌∷◌}
use lib.ListN.{length}
use Rattle.units.specs.Refusals.{pick}
use Rattle.units.specs.declared.refusals.Refusal.TheVariants.{WrongState, OtherKind}
use Rattle.memory.specs.Layout as layout
use Rattle.waiting.specs.Queues.{appended}
use Rattle.waiting.specs.Acks.{dropped}
use Rattle.waiting.specs.Order.{acks_in, not_of}
use Rattle.waiting.proofs.Ringed.{drop_acks}
use Rattle.table.specs.Areas.{store_of}
use Rattle.end_points.specs.Ends.{end_of}
use Rattle.end_points.specs.Heads.{count_in}
use Rattle.end_points.specs.Runs as runs
use Rattle.end_points.specs.States.{is_sends, is_closed}
use Rattle.end_points.specs.declared.State.TheVariants.{Closed, Enabled}
use Rattle.end_points.specs.declared.EndPoint.{EndPoint}
use Rattle.end_points.specs.Answers.{counted_of}
use Rattle.call_open.specs.Opening.{counted_as, open_answer, open_after, close_answer, close_after, counts_answer}
use Rattle.good.specs.Good.{Lists, Silent, Good, mine}
use Rattle.good.specs.Calls.{Memory, bare, kept_bare, answer, after}
use Rattle.machine.specs.Calls.{opens, closes, counts}
use Rattle.good.proofs.Turns.{saved_acks, turned_to, ring_of}
use Rattle.good.proofs.OpenKeeps.{open_keeps, open_passed}
use Rattle.good.proofs.Payloads.{unaltered}
use Rattle.good.proofs.Known.{silent_nil}
use Rattle.good.proofs.CloseKeeps.{close_keeps, close_passed}
use Rattle.machine.specs.Machine.{resets, Machine, anew, turned, waits, enabled, done, opening, step, silent}
use Rattle.machine.specs.Machine.{answers, closing, counting}
use Rattle.refinement.specs.Standing.{read_at, end_for, end_at, stands_for, Stands, Follows}
use Rattle.refinement.proofs.Elsewhere.{Leaves, leaves, end_at_holds, turned_stands, still}
use Rattle.refinement.proofs.Waiting.{silent_steady, waits_still, waits_reset, sender_acks, silent_stands}
use Rattle.refinement.proofs.Following.{closed_for, low_at, stated_at, follows, begun_end, enabled_end, stated_then}
use Rattle.std.specs.Prelude.{Ok}

module _ (t : List ℕ) (n : Memory) (l : Lists) (g : Good t n.node n.book l) (room : store_of t ≤ length n.store) (i : ℕ) where
  abbrev M : Machine
  M = stands_for t n l

  abbrev e : EndPoint
  e = end_of n.node i

  -- ---- open

  module _ (li : i < count_in n.node) (h : open_answer (bare n) i ≡ Ok tt) where
    abbrev now : Memory
    now = kept_bare n (open_after (bare n) i (open_answer (bare n) i))

    left : Leaves t n now l i
    left = leaves (open_keeps t (bare n) l i g li) n.store (unaltered refl)

    quiet : Silent l i []
    quiet = (stated_at g li (is_sends e.entry.kind) refl Closed (open_passed t (bare n) l i g h).0).silent

    here : end_at now i ≡ anew (Enabled 0 false) (end_at n i)
    here =
        end_at_holds left (open_passed t (bare n) l i g h).1
        ∙ enabled_end (read_at n) refl (read_at n) n.store now.book n.store n.book i e false

    acks_stay : acks_in now.node ≡ acks_in n.node
    unfolding open_after
    acks_stay = rw h (saved_acks n.node i (Enabled 0 false) (runs.anew e.run)).1

    book : now.book ≡ pick (is_sends e.entry.kind) (appended n.book layout.resets (layout.reset_id i)) n.book
    unfolding open_after
    book = rw h

    opened : Stands t now (enabled i (end_at n i) M)
    unfolding enabled end_for
    opened = sides (is_sends e.entry.kind) refl
      where
        sides : (k : Bool) → is_sends e.entry.kind ≡ k
            → Stands t now (let m = turned i (anew (Enabled 0 false) (end_at n i)) M in pick k (waits resets i 0 m) m)
        sides true s = turned_stands g room li left here (waits_reset left g.lines (low_at g li) quiet acks_stay (book ∙ rw s))
        sides false s = turned_stands g room li left here (waits_still left (silent_steady quiet) acks_stay (book ∙ rw s) g.lines)

  pub open_follows : Follows t n M (opens i)
  unfolding answer after step opening open_answer open_after end_for
  open_follows =
      follows g room i ((not (is_closed e.state), WrongState) ∷ []) (done (enabled i (end_at n i) M)) _ refl (λ li. rw (closed_for (read_at n) n.store n.book i e e.state))
      (λ w h. (rw h, rw h)) (λ li h. (rw h, opened li h))

  -- ---- close

  module _ (li : i < count_in n.node) (h : close_answer (bare n) i ≡ Ok tt) where
    abbrev now_c : Memory
    now_c = kept_bare n (close_after (bare n) i (close_answer (bare n) i))

    left_c : Leaves t n now_c l i
    left_c = leaves (close_keeps t (bare n) l i g li) n.store (unaltered refl)

    end : end_of now_c.node i ≡ turned_to e Closed (runs.anew e.run)
    end = close_passed t (bare n) l i g h

    gone : (q : ℕ) → q < 4 → mine i (left_c.lists q) ≡ []
    gone = silent_nil left_c.lists i (stated_then left_c li (is_sends e.entry.kind) refl Closed end).silent

    acks_gone : acks_in now_c.node ≡ not_of i (acks_in n.node)
    unfolding close_after
    acks_gone =
        rw h ((saved_acks (pick (is_sends e.entry.kind) n.node (dropped i n.node)) i Closed
        (runs.anew e.run)).1 ∙ sides (is_sends e.entry.kind) refl)
      where
        sides : (k : Bool) → is_sends e.entry.kind ≡ k → acks_in (pick k n.node (dropped i n.node)) ≡ not_of i (acks_in n.node)
        sides true s = sym (sender_acks g i s)
        sides false s = drop_acks i n.node (ring_of t n.node n.book l g)

    closed : Stands t now_c (silent i (turned i (anew Closed (end_at n i)) M))
    closed =
        silent_stands g room li left_c gone acks_gone
        (end_at_holds left_c end ∙ begun_end (read_at n) (read_at n) n.store now_c.book n.store n.book i e Closed)

  pub close_follows : Follows t n M (closes i)
  unfolding answer after step closing close_answer close_after end_for
  close_follows =
      follows g room i ((is_closed e.state, WrongState) ∷ []) (done (silent i (turned i (anew Closed (end_at n i)) M))) _ refl
      (λ li. rw (closed_for (read_at n) n.store n.book i e e.state))
      (λ w h. (rw h, rw h)) (λ li h. (rw h, closed li h))

  -- ---- counts: nothing alters

  pub counts_follow : Follows t n M (counts i)
  unfolding answer after counts_answer step counting end_for
  counts_follow =
      follows g room i ((not (is_sends e.entry.kind), OtherKind) ∷ [])
      (answers (counted_of (counted_as (Ok tt) e.run)) [] M) _ refl (λ li. refl)
      (λ w h. (rw h, refl)) (λ li h. (rw h, still g room))
