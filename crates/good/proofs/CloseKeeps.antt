-- Close keeps a good node good: nothing of the entry waits any more, neither a sender's frames nor a receiver's acknowledgements, and its
-- run begins anew. Refused, it leaves everything. Assumes nothing.
use Prim.Native.Nat.{ℕ, ◌/◌, ◌≤◌, ◌<◌}
use mathlib.Core.Path.{◌≡◌, refl, sym, ap, subst, ◌∙◌}
use mathlib.Core.Logic.{◌≢◌}
use mathlib.Core.Bool.{Bool, true, false}
use mathlib.Core.List.{List, [], ◌∷◌, Memᴰ}
use native.Mathlib.Omega.{arith}
use lib.Dec.{eqb, leb}
use borrow.Author.Tests.{le-leb, leb-false}
use Rattle.units.specs.Refusals.{pick}
use Rattle.units.specs.declared.refusals.Refusal.TheVariants as refusal
use Rattle.units.proofs.Judging.{clear}
use Rattle.memory.specs.Layout.{resets, reset_id}
use Rattle.waiting.specs.Queues.{unlinked}
use Rattle.waiting.specs.Acks.{dropped}
use Rattle.waiting.specs.Order.{acks_in}
use Rattle.waiting.specs.Port.{under_in}
use Rattle.waiting.proofs.Ringed.{Ring, drop_acks, drop_ring}
use Rattle.window.specs.Windows.{Good as GoodWindow}
use Rattle.end_points.specs.Ends.{end_of, saved}
use Rattle.end_points.specs.Heads.{count_in}
use Rattle.end_points.specs.States.{is_sends, is_closed}
use Rattle.end_points.specs.Runs.{anew}
use Rattle.end_points.specs.Lent.{Lent}
use Rattle.end_points.specs.declared.State.{State}
use Rattle.end_points.specs.declared.State.TheVariants.{Closed, Enabled, Open, Failing}
use Rattle.end_points.specs.declared.EndPoint.{EndPoint}
use Rattle.call_open.specs.Opening.{close_answer, silenced, close_after}
use Rattle.timing.specs.Timing.{clock_in, quiet_in}
use Rattle.good.specs.Good.{Lists, Lines, Silent, Stated, Entered, Timely, Good}
use Rattle.good.proofs.Lined.{less, unlink_under}
use Rattle.good.proofs.Known.{stated_as, receiver_silent}
use Rattle.good.proofs.Framing.{Within, within_same, within_unlink, Apart, apart_then, apart_saved, framed, apart_count, apart_timely, entry_low}
use Rattle.good.proofs.Offsets.{reset_owner}
use Rattle.good.proofs.Turns.{run_fits, turned_to, end_saved, anew_fits, anew_size, anew_fresh, anew_window, ring_of, owed_other, free_turn, sender_turn, drop_apart, drop_end, not_in, Kept, kept_either}
use Rattle.good.proofs.Senders.{reset_waited, reset_gone_holds}
use Rattle.good.proofs.Idling.{idle}
use Rattle.std.specs.Prelude.{Ok}

-- ---- nothing of the entry waits

record Quiet (i : ℕ) (b b' : List ℕ) (l : Lists) : Type 0 where
  lists : Lists
  within : Within i b b' l lists
  under : under_in b' ≡ under_in b
  silent : Silent lists i []

module _ (b : List ℕ) (l : Lists) (i : ℕ) (low : i < 16) (L : Lines b l) where
  quiet_same : Silent l i [] → Quiet i b b l
  quiet_same s = record { lists = l; within = within_same i b l L; under = refl; silent = s }

  -- its Reset, where one waits
  quiet_reset : (t : Bool) → Silent l i (pick t (reset_id i ∷ []) []) → Quiet i b (pick t (unlinked b (reset_id i)) b) l
  quiet_reset true s =
      record {
        lists = less l (reset_id i);
        within = within_unlink i b l L resets (reset_id i) (omega arith) (reset_waited b l L i s) (reset_owner i low);
        under = unlink_under b l L resets (reset_id i) (omega arith) (reset_waited b l L i s);
        silent = reset_gone_holds b l L i s;
      }
  quiet_reset false s = quiet_same s

  module _ (e : EndPoint) (g : GoodWindow e.run.window) where
    quiet_sender : (s : State) → Stated b l i e true s → Quiet i b (silenced i s e.run b) l
    unfolding silenced
    quiet_sender Closed h = quiet_same h.silent
    quiet_sender (Enabled t sent) h = quiet_reset (eqb t 0) h.silent
    quiet_sender Open h =
        let d = idle b l i low L e g h in
        record { lists = d.lists; within = d.within; under = d.under; silent = subst (Silent d.lists i) h.share.resets d.silent }
    quiet_sender (Failing n) h = quiet_same h.silent

-- the entry then
closed_entered : (b : List ℕ) (l : Lists) (i : ℕ) (e : EndPoint) → GoodWindow e.run.window → Silent l i [] → Entered b l i (turned_to e Closed (anew e.run))
closed_entered b l i e g s = record { window = anew_window e.run g; stated = record { fresh = anew_fresh e.run; silent = s } }

-- ---- a receiver's acknowledgements are dropped

module _ (t ws b : List ℕ) (l : Lists) (g : Good t ws b l) (i : ℕ) (li : i < count_in ws) where
  ring : Ring ws
  ring = ring_of t ws b l g

  apart : Apart i ws (dropped i ws)
  apart = drop_apart i i ws ring

  -- what is left is owed to others
  left : (w : ℕ) → Memᴰ w (acks_in (dropped i ws)) → Memᴰ w (acks_in ws) × (w / 256 ≢ i)
  left w m =
      let p = not_in i (acks_in ws) w (subst (λ (ys : List ℕ). Memᴰ w ys) (drop_acks i ws ring) m) in
      let n = p.1 in
      (p.0, λ e. n (let h = entry_low t ws b l g i li in omega arith))

  drop_good : Good t (dropped i ws) b l
  drop_good =
      framed i ws (dropped i ws) apart t b b l l g (within_same i b l g.lines) li (drop_ring i ws ring).most
      (λ w m. let p = left w m in owed_other i ws (dropped i ws) apart w (g.owed w p.0) p.1)
      (subst (Entered b l i) (sym (drop_end i i ws ring)) (g.entered i li))
      (subst (λ (e : EndPoint). Timely (clock_in (dropped i ws)) (quiet_in (dropped i ws)) b i e e.state) (sym (drop_end i i ws ring))
      (apart_timely i ws (dropped i ws) apart b i (end_of ws i) (end_of ws i).state (g.timely i li)))

  drop_known : i < count_in (dropped i ws)
  drop_known = rw (apart_count i ws (dropped i ws) apart) li

  -- and is Closed
  drop_closed : Silent l i [] → Good t (saved (dropped i ws) i Closed (anew (end_of ws i).run)) b l
  drop_closed s =
      let r = (end_of ws i).run in
      let h = drop_end i i ws ring in
      free_turn t (dropped i ws) b l drop_good i drop_known (λ w m. (left w m).1) Closed (anew r) tt (anew_fits r (run_fits ws i))
      (anew_size r ∙ ap (λ (e : EndPoint). e.run.window.size) (sym h)) b l (within_same i b l g.lines)
      (subst (λ (e : EndPoint). Entered b l i (turned_to e Closed (anew r))) (sym h) (closed_entered b l i (end_of ws i) (g.entered i li).window s)) tt

  drop_end_closed : end_of (saved (dropped i ws) i Closed (anew (end_of ws i).run)) i ≡ turned_to (end_of ws i) Closed (anew (end_of ws i).run)
  drop_end_closed =
      let r = (end_of ws i).run in
      let h = drop_end i i ws ring in
      end_saved (dropped i ws) i Closed (anew r) (apart.long ∙ g.long) (entry_low t ws b l g i li) tt (anew_fits r (run_fits ws i)) (anew_size r ∙ ap (λ (e : EndPoint). e.run.window.size) (sym h))
      ∙ ap (λ (e : EndPoint). turned_to e Closed (anew r)) h

-- ---- the call

-- all that was lent, for an entry that sends or not
abbrev closed_as : Lent → ℕ → EndPoint → Bool → Lent
closed_as x i e k =
    record {
      node = saved (pick k x.node (dropped i x.node)) i Closed (anew e.run);
      book = pick k (silenced i e.state e.run x.book) x.book;
      store = x.store;
      out = x.out;
    }

module _ (x : Lent) (i : ℕ) (t : List ℕ) (l : Lists) (g : Good t x.node x.book l) (li : i < count_in x.node) where
  closed_kept : (k : Bool) → is_sends (end_of x.node i).entry.kind ≡ k → Kept t x (closed_as x i (end_of x.node i) k) l i
  closed_kept true h =
      let e = end_of x.node i in
      let n = g.entered i li in
      let b = silenced i e.state e.run x.book in
      let q = quiet_sender x.book l i (entry_low t x.node x.book l g i li) g.lines e n.window e.state (stated_as x.book l i e n true h e.state refl) in
      record {
        lists = q.lists;
        good =
            sender_turn t x.node x.book l g i li h Closed (anew e.run) tt (anew_fits e.run (run_fits x.node i)) (anew_size e.run) b q.lists q.within
            (closed_entered b q.lists i e n.window q.silent) tt;
        apart = apart_saved i x.node Closed (anew e.run);
        within = q.within;
        under = q.under;
      }
  closed_kept false h =
      let e = end_of x.node i in
      let n = g.entered i li in
      let s = receiver_silent x.book l i e e.state (stated_as x.book l i e n false h e.state refl) in
      record {
        lists = l;
        good = drop_closed t x.node x.book l g i li s;
        apart =
            apart_then i x.node (dropped i x.node) (saved (dropped i x.node) i Closed (anew e.run)) (apart t x.node x.book l g i li)
            (apart_saved i (dropped i x.node) Closed (anew e.run));
        within = within_same i x.book l g.lines;
        under = refl;
      }

  closed_end : (k : Bool) → end_of (closed_as x i (end_of x.node i) k).node i ≡ turned_to (end_of x.node i) Closed (anew (end_of x.node i).run)
  closed_end true =
      let r = (end_of x.node i).run in
      end_saved x.node i Closed (anew r) g.long (entry_low t x.node x.book l g i li) tt (anew_fits r (run_fits x.node i)) (anew_size r)
  closed_end false = drop_end_closed t x.node x.book l g i li

pub close_keeps : (t : List ℕ) (x : Lent) (l : Lists) (i : ℕ) → Good t x.node x.book l → i < count_in x.node → Kept t x (close_after x i (close_answer x i)) l i
unfolding close_after
close_keeps t x l i g li =
    kept_either t x l i g (close_after x i) (λ w. refl) (close_answer x i)
    (λ h. closed_kept x i t l g li (is_sends (end_of x.node i).entry.kind) refl)

-- no such entry: everything stays
pub close_refused : (x : Lent) (i : ℕ) → count_in x.node ≤ i → close_after x i (close_answer x i) ≡ x
unfolding close_answer close_after
close_refused x i h = rw (le-leb (count_in x.node) i h)

-- where it went through there is such an entry
pub close_known : (x : Lent) (i : ℕ) → close_answer x i ≡ Ok tt → i < count_in x.node
unfolding close_answer
close_known x i h =
    leb-false (count_in x.node) i
    (clear ((leb (count_in x.node) i, refusal.NoEntry) ∷ (is_closed (end_of x.node i).state, refusal.WrongState) ∷ []) h).0

-- where it went through the entry is Closed with a run begun anew
pub close_passed : (t : List ℕ) (x : Lent) (l : Lists) (i : ℕ) → Good t x.node x.book l → close_answer x i ≡ Ok tt
    → end_of (close_after x i (close_answer x i)).node i ≡ turned_to (end_of x.node i) Closed (anew (end_of x.node i).run)
unfolding close_after
close_passed t x l i g h = rw h (closed_end x i t l g (close_known x i h) (is_sends (end_of x.node i).entry.kind))
