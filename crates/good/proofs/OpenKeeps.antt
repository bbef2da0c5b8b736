-- Open keeps a good node good: what it alters is one entry's, and that entry is Enabled as it must be. Refused, it leaves everything.
-- Assumes nothing.
use Prim.Native.Nat.{ℕ, ◌≤◌, ◌<◌}
use mathlib.Core.Path.{◌≡◌, refl}
use mathlib.Core.Bool.{Bool, true, false, not}
use mathlib.Core.List.{List, [], ◌∷◌}
use native.Mathlib.Omega.{arith}
use lib.Dec.{leb}
use borrow.Author.Tests.{le-leb, leb-false, not-false}
use Rattle.units.specs.Refusals.{pick}
use Rattle.units.specs.declared.refusals.Refusal.TheVariants as refusal
use Rattle.units.proofs.Judging.{clear}
use Rattle.memory.specs.Layout.{resets, reset_id}
use Rattle.waiting.specs.Queues.{appended}
use Rattle.window.specs.Windows.{Good as GoodWindow}
use Rattle.end_points.specs.Ends.{end_of, saved}
use Rattle.end_points.specs.Heads.{count_in}
use Rattle.end_points.specs.States.{is_sends, is_closed}
use Rattle.end_points.specs.Runs.{anew}
use Rattle.end_points.specs.Lent.{Lent}
use Rattle.end_points.specs.declared.State.TheVariants.{Closed, Enabled}
use Rattle.end_points.specs.declared.EndPoint.{EndPoint}
use Rattle.call_open.specs.Opening.{open_answer, open_after}
use Rattle.good.specs.Good.{Lists, Silent, Anew, Entered, Good}
use Rattle.good.proofs.Lined.{added}
use Rattle.good.proofs.Known.{stated_as, entered_as}
use Rattle.good.proofs.Framing.{Within, within_same, apart_saved, entry_low}
use Rattle.good.proofs.Turns.{run_fits, turned_to, end_saved, anew_fits, anew_size, anew_fresh, anew_window, free_turn, not_owed, Kept, kept_either}
use Rattle.good.proofs.Senders.{reset_within, reset_under, reset_silent, enabled_sender}
use Rattle.std.specs.Prelude.{Ok}
use Rattle.end_points.proofs.Telling.{is_closed_holds}

-- ---- the entry: Enabled, and its Reset waits where it sends

-- it was Closed
closed_anew : (b : List ℕ) (l : Lists) (i : ℕ) (e : EndPoint) → Entered b l i e → e.state ≡ Closed → Anew l i e []
closed_anew b l i e n h = stated_as b l i e n (is_sends e.entry.kind) refl Closed h

abbrev enabled_end : EndPoint → EndPoint
enabled_end e = turned_to e (Enabled 0 false) (anew e.run)

enabled_receiver : (b : List ℕ) (l : Lists) (i : ℕ) (e : EndPoint) → is_sends e.entry.kind ≡ false → GoodWindow e.run.window → Silent l i []
    → Entered b l i (enabled_end e)
enabled_receiver b l i e k w s =
    entered_as b l i (enabled_end e) (anew_window e.run w) false k (Enabled 0 false) refl (record { fresh = anew_fresh e.run; silent = s }, refl, refl)

-- ---- the call

-- all that was lent, for an entry that sends or not
abbrev enabled_as : Lent → ℕ → EndPoint → Bool → Lent
enabled_as x i e k =
    record {
      node = saved x.node i (Enabled 0 false) (anew e.run);
      book = pick k (appended x.book resets (reset_id i)) x.book;
      store = x.store;
      out = x.out;
    }

module _ (x : Lent) (i : ℕ) where
  open_known : open_answer x i ≡ Ok tt → (i < count_in x.node) × ((end_of x.node i).state ≡ Closed)
  unfolding open_answer
  open_known h =
      let c = clear ((leb (count_in x.node) i, refusal.NoEntry) ∷ (not (is_closed (end_of x.node i).state), refusal.WrongState) ∷ []) h in
      (leb-false (count_in x.node) i c.0, is_closed_holds (end_of x.node i).state (not-false (is_closed (end_of x.node i).state) c.1.0))

  module _ (t : List ℕ) (l : Lists) (g : Good t x.node x.book l) (li : i < count_in x.node) (shut : (end_of x.node i).state ≡ Closed) where
    small : i < 16
    small = entry_low t x.node x.book l g i li

    silent : Silent l i []
    silent = (closed_anew x.book l i (end_of x.node i) (g.entered i li) shut).silent

    turn : (b : List ℕ) (l' : Lists) → Within i x.book b l l' → Entered b l' i (enabled_end (end_of x.node i))
        → Good t (saved x.node i (Enabled 0 false) (anew (end_of x.node i).run)) b l'
    turn b l' v n =
        let r = (end_of x.node i).run in
        free_turn t x.node x.book l g i li
        (not_owed t x.node x.book l g i li (λ o. let z : ◌≡◌ {A = ℕ} 0 1 = cc in omega arith))
        (Enabled 0 false) (anew r) (omega arith) (anew_fits r (run_fits x.node i)) (anew_size r) b l' v n (λ z runs. absurd (runs refl))

    -- one that sends or not
    enabled_kept : (k : Bool) → is_sends (end_of x.node i).entry.kind ≡ k → Kept t x (enabled_as x i (end_of x.node i) k) l i
    enabled_kept true h =
        let v = reset_within x.book l g.lines i small silent in
        let b = appended x.book resets (reset_id i) in
        let l' = added l resets (reset_id i) in
        record {
          lists = l';
          good = turn b l' v (enabled_sender b l' i (end_of x.node i) h (g.entered i li).window (reset_silent x.book l g.lines i small silent));
          apart = apart_saved i x.node (Enabled 0 false) (anew (end_of x.node i).run);
          within = v;
          under = reset_under x.book l g.lines i small silent;
        }
    enabled_kept false h =
        let v = within_same i x.book l g.lines in
        record {
          lists = l;
          good = turn x.book l v (enabled_receiver x.book l i (end_of x.node i) h (g.entered i li).window silent);
          apart = apart_saved i x.node (Enabled 0 false) (anew (end_of x.node i).run);
          within = v;
          under = refl;
        }

pub open_keeps : (t : List ℕ) (x : Lent) (l : Lists) (i : ℕ) → Good t x.node x.book l → i < count_in x.node → Kept t x (open_after x i (open_answer x i)) l i
unfolding open_after
open_keeps t x l i g li =
    kept_either t x l i g (open_after x i) (λ w. refl) (open_answer x i)
    (λ h. enabled_kept x i t l g li (open_known x i h).1 (is_sends (end_of x.node i).entry.kind) refl)

-- no such entry: everything stays
pub open_refused : (x : Lent) (i : ℕ) → count_in x.node ≤ i → open_after x i (open_answer x i) ≡ x
unfolding open_answer open_after
open_refused x i h = rw (le-leb (count_in x.node) i h)

-- where it went through the entry was Closed, and is Enabled with a run begun anew
pub open_passed : (t : List ℕ) (x : Lent) (l : Lists) (i : ℕ) → Good t x.node x.book l → open_answer x i ≡ Ok tt
    → ((end_of x.node i).state ≡ Closed)
    × (end_of (open_after x i (open_answer x i)).node i ≡ turned_to (end_of x.node i) (Enabled 0 false) (anew (end_of x.node i).run))
unfolding open_after
open_passed t x l i g h =
    let k = open_known x i h in
    let r = (end_of x.node i).run in (
      k.1,
      rw h (end_saved x.node i (Enabled 0 false) (anew r) g.long (entry_low t x.node x.book l g i k.0) (omega arith)
          (anew_fits r (run_fits x.node i)) (anew_size r)),
    )
