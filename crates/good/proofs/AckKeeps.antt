-- An acknowledgement taken in by a sender keeps a good node good; what becomes of its end point, and that no payload's length
-- alters. Assumes nothing.
use Prim.Native.Nat.{ℕ, ◌-◌, ◌≤◌, ◌<◌}
use mathlib.Core.Path.{◌≡◌, refl, sym, ap, subst, ◌∙◌}
use mathlib.Core.Bool.{Bool, true, false, ◌&&◌, true≢false}
use mathlib.Core.List.Memᴰ
use mathlib.Core.List.{List, [], ◌∷◌, Memᴰ}
use native.Mathlib.Omega.{arith}
use lib.ListN.{get_or, set}
use lib.Dec.{eqb}
use borrow.Author.Tests.{eqb-true, ltb-true}
use Rattle.units.specs.Refusals.{pick}
use Rattle.memory.specs.Layout.{all_cells, cells_at, resets, urgents, datas, reset_id, length_at, timer_at, quiet_at}
use Rattle.waiting.specs.Queues.{unlinked}
use Rattle.waiting.specs.Port.{under_in}
use Rattle.window.specs.Windows.{offset_of}
use Rattle.window.proofs.Resetting.{reset_held, reset_good}
use Rattle.window.proofs.WindowLaw.{distance_back}
use Rattle.end_points.proofs.Kept.{StateFits, RunFits}
use Rattle.end_points.specs.Ends.{end_of, saved}
use Rattle.end_points.specs.Heads.{count_in}
use Rattle.end_points.specs.States.{is_sends}
use Rattle.end_points.specs.Lent.{Lent}
use Rattle.end_points.specs.declared.State.{State}
use Rattle.end_points.specs.declared.State.TheVariants.{Closed, Enabled, Open, Failing}
use Rattle.end_points.specs.declared.answers.Was.TheVariants as was
use Rattle.slots.specs.Slots.{cell, past, length_in, timer_in}
use Rattle.arrive_ack.specs.Acking.{counts, passing, acked_run, opened_run, ack_answer, reset_gone, stopped, fewer}
use Rattle.arrive_ack.specs.Acking.{counted_node, ack_node, ack_book, ack_after}
use Rattle.good.specs.Good.{Lists, mine, ids, Silent, Sending, OpenSender, FailingSender, Outlast, Timely, Good}
use Rattle.good.proofs.Lined.{less, unlink_cells, unlink_under}
use Rattle.good.proofs.Framing.{Within, within_same, within_unlink, Apart, apart_same, apart_then, apart_saved}
use Rattle.good.proofs.Framing.{outlasts_fewer, timely_fewer, entry_low}
use Rattle.good.proofs.Offsets.{reset_owner}
use Rattle.good.proofs.Turns.{run_fits, state_fits, turned_to, end_saved, saved_acks, sender_put, sender_turn, Kept}
use Rattle.good.proofs.RunSets.{counted_puts, counted_end}
use Rattle.good.proofs.Senders.{Timed, timed_set, within_timed, reset_waited, reset_gone_holds, entry_window, sender_stated, sender_entered}
use Rattle.timing.specs.Timing.{clock_in, quiet_in, roused}
use Rattle.good.proofs.Clocked.{Clocked, clocked_set, clocked_end, clocked_waiting, clocked_acks, roused_apart, roused_quiet}
use Rattle.good.proofs.AckRuns.{Passes, Counts, counts_says, passes, moved_sending, moved_fits, moved_outlasts, moved_standing, moved_timers, moved_resends, moved_datas, Gone, open_book}

-- ---- what a call comes to

-- of the end point: nothing, opened, or a number acknowledged at Open or at Failing
pub data Acked (ws b ws' b' : List ℕ) (i s : ℕ) : Type 0 where
  ignored : ws' ≡ ws → b' ≡ b → ack_answer (end_of ws i) (end_of ws i).state s ≡ was.Ignored → Acked ws b ws' b' i s
  opened : (t : ℕ) → (end_of ws i).state ≡ Enabled t true → s ≡ 0 → end_of ws' i ≡ turned_to (end_of ws i) Open (opened_run (end_of ws i).run) → Acked ws b ws' b' i s
  counted : (end_of ws i).state ≡ Open → counts (end_of ws i).run s ≡ true → end_of ws' i ≡ turned_to (end_of ws i) Open (acked_run (end_of ws i).run s)
      → Acked ws b ws' b' i s
  failed : (n : ℕ) → (end_of ws i).state ≡ Failing n → counts (end_of ws i).run s ≡ true
      → end_of ws' i ≡ turned_to (end_of ws i) (Failing (fewer (timer_in b (cell i (end_of ws i).run.window s)) n)) (acked_run (end_of ws i).run s) → Acked ws b ws' b' i s

record Outcome (t ws b : List ℕ) (l : Lists) (ws' b' : List ℕ) (i s : ℕ) : Type 0 where
  lists : Lists
  good : Good t ws' b' lists
  apart : Apart i ws ws'
  within : Within i b b' l lists
  under : under_in b' ≡ under_in b
  ends : Acked ws b ws' b' i s
  lengths : (c : ℕ) → c < all_cells → length_in b' c ≡ length_in b c

-- ---- the states

module _ (t ws b : List ℕ) (l : Lists) (G : Good t ws b l) (i s : ℕ) (li : i < count_in ws) (kind : is_sends (end_of ws i).entry.kind ≡ true) (hs : s < 256) where
  -- the number's cell
  number_here : past (end_of ws i).run.window (offset_of (end_of ws i).run.window s) ≡ s
  number_here = distance_back (end_of ws i).run.window.start.0 s (entry_window t ws b l G i li).byte hs

  module _ (c : counts (end_of ws i).run s ≡ true) where
    says : Counts (end_of ws i).run s
    says = counts_says (end_of ws i).run s c

    pass : Passes i (end_of ws i).run.window (offset_of (end_of ws i).run.window s) (passing (end_of ws i).run s).run (passing (end_of ws i).run s).window
    pass = passes i (end_of ws i).run s (entry_window t ws b l G i li) says

    inside : offset_of (end_of ws i).run.window s < (end_of ws i).run.window.size
    inside = ltb-true (offset_of (end_of ws i).run.window s) (end_of ws i).run.window.size says.inside

    -- Open
    module _ (o : OpenSender b l i (end_of ws i)) where
      open_gone : Gone b (stopped b (cell i (end_of ws i).run.window s)) l i (end_of ws i).run.window (offset_of (end_of ws i).run.window s)
      open_gone =
          subst (λ (z : ℕ). Gone b (stopped b (cell i (end_of ws i).run.window z)) l i (end_of ws i).run.window (offset_of (end_of ws i).run.window s)) number_here
          (open_book b l G.lines i (entry_low t ws b l G i li) (end_of ws i).run (entry_window t ws b l G i li) o.resends (offset_of (end_of ws i).run.window s) says.handed inside says.missing)

      open_sender : OpenSender (stopped b (cell i (end_of ws i).run.window s)) open_gone.lists i (turned_to (end_of ws i) Open (acked_run (end_of ws i).run s))
      unfolding acked_run
      open_sender =
          let r = (end_of ws i).run in
          let b' = stopped b (cell i r.window s) in
          let k = offset_of r.window s in
          let z = open_gone in
          record {
            sending = moved_sending b b' i (entry_low t ws b l G i li) r (entry_window t ws b l G i li) (run_fits ws i) (end_of ws i).entry.largest o.sending k says.handed (passing r s) pass z.timed;
            share = record {
              resets = ap (mine i) (z.others resets (omega arith) (λ e. omega arith)) ∙ o.share.resets;
              urgents = ap (mine i) (z.others urgents (omega arith) (λ e. omega arith)) ∙ o.share.urgents;
              datas = ap (mine i) (z.others datas (omega arith) (λ e. omega arith)) ∙ o.share.datas
                  ∙ sym (moved_datas b b' i (entry_low t ws b l G i li) r (entry_window t ws b l G i li) (run_fits ws i) (end_of ws i).entry.largest o.sending k says.handed (passing r s) pass z.timed);
            };
            resends = moved_resends b b' i (entry_low t ws b l G i li) r (entry_window t ws b l G i li) (run_fits ws i) (end_of ws i).entry.largest o.sending k says.handed (passing r s) pass z.timed
                l z.lists o.resends z.gone z.kept;
            standing = moved_standing b b' i (entry_low t ws b l G i li) r (entry_window t ws b l G i li) (run_fits ws i) (end_of ws i).entry.largest o.sending k says.handed (passing r s) pass z.timed o.standing;
          }

      open_fits : RunFits (acked_run (end_of ws i).run s)
      unfolding acked_run
      open_fits =
          let r = (end_of ws i).run in
          moved_fits b (stopped b (cell i r.window s)) i (entry_low t ws b l G i li) r (entry_window t ws b l G i li) (run_fits ws i) (end_of ws i).entry.largest o.sending (offset_of r.window s) says.handed (passing r s) pass
          open_gone.timed

      open_timely : (end_of ws i).state ≡ Open
          → Timely (clock_in ws) (quiet_in ws) (stopped b (cell i (end_of ws i).run.window s)) i (turned_to (end_of ws i) Open (acked_run (end_of ws i).run s)) Open
      unfolding acked_run
      open_timely q =
          let r = (end_of ws i).run in
          moved_outlasts b (stopped b (cell i r.window s)) i (entry_low t ws b l G i li) r (entry_window t ws b l G i li) (run_fits ws i) (end_of ws i).entry.largest o.sending (offset_of r.window s) says.handed (passing r s) pass
          open_gone.timed (clock_in ws) (quiet_in ws) (subst (Timely (clock_in ws) (quiet_in ws) b i (end_of ws i)) q (G.timely i li))

      abbrev book_then : List ℕ
      book_then = stopped b (cell i (end_of ws i).run.window s)

      open_end : (end_of ws i).state ≡ Open → end_of (counted_node ws i (acked_run (end_of ws i).run s)) i
          ≡ turned_to (end_of ws i) Open (acked_run (end_of ws i).run s)
      unfolding acked_run
      open_end q =
          counted_end ws i G.long (entry_low t ws b l G i li) (acked_run (end_of ws i).run s) open_fits pass.size
          refl refl ∙ rw q

      open_outcome : (end_of ws i).state ≡ Open
          → Outcome t ws b l (counted_node ws i (acked_run (end_of ws i).run s)) book_then i s
      unfolding acked_run
      open_outcome q =
          let r = acked_run (end_of ws i).run s in
          let z = open_gone in
          let p = counted_puts ws i G.long (entry_low t ws b l G i li) r in
          let soon = timely_fewer (clock_in ws) (quiet_in ws) (quiet_in (counted_node ws i r)) book_then i
          (turned_to (end_of ws i) Open r) Open p.apart.quiet (open_timely q) in
          record {
            lists = z.lists;
            good = sender_put t ws b l G i li kind (counted_node ws i r) p.apart p.waits p.acks book_then
                z.lists z.within (turned_to (end_of ws i) Open r) (open_end q)
                (sender_entered t ws b l G i li kind book_then z.lists Open r pass.good open_sender) soon;
            apart = p.apart;
            within = z.within;
            under = z.timed.under;
            ends = counted q c (open_end q);
            lengths = z.timed.lengths;
          }

    -- Failing
    module _ (n : ℕ) (q : (end_of ws i).state ≡ Failing n) (o : FailingSender b l i (end_of ws i) n) where
      failing_timed : Timed b (set b (timer_at (cell i (end_of ws i).run.window s)) 0) i (end_of ws i).run.window (offset_of (end_of ws i).run.window s) 0
      failing_timed =
          let w = (end_of ws i).run.window in
          subst (λ (z : ℕ). Timed b (set b (timer_at (cell i w z)) 0) i w (offset_of w s) 0) number_here
          (timed_set i (entry_low t ws b l G i li) w (entry_window t ws b l G i li) (offset_of w s) inside 0 b G.lines.long)

      failing_within : Within i b (set b (timer_at (cell i (end_of ws i).run.window s)) 0) l l
      failing_within =
          let w = (end_of ws i).run.window in
          subst (λ (z : ℕ). Within i b (set b (timer_at (cell i w z)) 0) l l) number_here
          (within_timed i (entry_low t ws b l G i li) w (entry_window t ws b l G i li) (offset_of w s) inside 0 b l G.lines)

      failing_sender : FailingSender (set b (timer_at (cell i (end_of ws i).run.window s)) 0) l i
          (turned_to (end_of ws i) (Failing (fewer (timer_in b (cell i (end_of ws i).run.window s)) n)) (acked_run (end_of ws i).run s))
          (fewer (timer_in b (cell i (end_of ws i).run.window s)) n)
      unfolding acked_run
      failing_sender =
          let r = (end_of ws i).run in
          let b' = set b (timer_at (cell i r.window s)) 0 in
          let k = offset_of r.window s in
          record {
            sending = moved_sending b b' i (entry_low t ws b l G i li) r (entry_window t ws b l G i li) (run_fits ws i) (end_of ws i).entry.largest o.sending k says.handed (passing r s) pass failing_timed;
            urgent = o.urgent;
            silent = o.silent;
            timers =
                ap (λ (x : ℕ). fewer (timer_in b (cell i r.window x)) n) (sym number_here)
                ∙ moved_timers b b' i (entry_low t ws b l G i li) r (entry_window t ws b l G i li) (run_fits ws i) (end_of ws i).entry.largest o.sending k says.handed (passing r s) pass failing_timed n o.timers;
            standing = moved_standing b b' i (entry_low t ws b l G i li) r (entry_window t ws b l G i li) (run_fits ws i) (end_of ws i).entry.largest o.sending k says.handed (passing r s) pass failing_timed o.standing;
          }

      failing_fits : RunFits (acked_run (end_of ws i).run s)
      unfolding acked_run
      failing_fits =
          let r = (end_of ws i).run in
          moved_fits b (set b (timer_at (cell i r.window s)) 0) i (entry_low t ws b l G i li) r (entry_window t ws b l G i li) (run_fits ws i) (end_of ws i).entry.largest o.sending (offset_of r.window s) says.handed (passing r s) pass
          failing_timed

      fewer_fits : fewer (timer_in b (cell i (end_of ws i).run.window s)) n < 65536
      fewer_fits = sides (eqb (timer_in b (cell i (end_of ws i).run.window s)) 0) (subst StateFits q (state_fits ws i))
        where
          sides : (z : Bool) → n < 65536 → pick z n (n - 1) < 65536
          sides true h = h
          sides false h = omega arith

      failing_timely : (q' : ℕ) → q' ≤ quiet_in ws → Outlast (clock_in ws) q' (set b (timer_at (cell i (end_of ws i).run.window s)) 0) i (acked_run (end_of ws i).run s)
      unfolding acked_run
      failing_timely q' f =
          let r = (end_of ws i).run in
          let was = subst (Timely (clock_in ws) (quiet_in ws) b i (end_of ws i)) q (G.timely i li) in
          moved_outlasts b (set b (timer_at (cell i r.window s)) 0) i (entry_low t ws b l G i li) r (entry_window t ws b l G i li) (run_fits ws i) (end_of ws i).entry.largest o.sending (offset_of r.window s) says.handed (passing r s) pass
          failing_timed (clock_in ws) q' (λ j h d. outlasts_fewer (clock_in ws) (quiet_in ws) q' _ f (was.0 j h d))

      failing_outcome :
          Outcome t ws b l (roused (saved ws i (Failing (fewer (timer_in b (cell i (end_of ws i).run.window s)) n)) (acked_run (end_of ws i).run s)))
          (set b (timer_at (cell i (end_of ws i).run.window s)) 0) i s
      unfolding acked_run
      failing_outcome =
          let r = acked_run (end_of ws i).run s in
          let b' = set b (timer_at (cell i (end_of ws i).run.window s)) 0 in
          let m = fewer (timer_in b (cell i (end_of ws i).run.window s)) n in
          let ws' = saved ws i (Failing m) r in
          let c' : Clocked ws' (roused ws') = clocked_set ws' quiet_at 0 (omega arith) (omega arith) in
          let saves = apart_saved i ws (Failing m) r in
          let apart = apart_then i ws ws' (roused ws') saves (roused_apart ws' (saves.long ∙ G.long) i) in
          let end = clocked_end ws' (roused ws') c' i ∙ end_saved ws i (Failing m) r G.long (entry_low t ws b l G i li) fewer_fits failing_fits pass.size in
          let acks = saved_acks ws i (Failing m) r in
          record {
            lists = l;
            good = sender_put t ws b l G i li kind (roused ws') apart (clocked_waiting ws' (roused ws') c' ∙ acks.0) (clocked_acks ws' (roused ws') c' ∙ acks.1) b' l failing_within
                (turned_to (end_of ws i) (Failing m) r) end (sender_entered t ws b l G i li kind b' l (Failing m) r pass.good failing_sender)
                (failing_timely (quiet_in (roused ws')) apart.quiet, λ z o. roused_quiet ws' (saves.long ∙ G.long));
            apart = apart;
            within = failing_within;
            under = failing_timed.under;
            ends = failed n q c end;
            lengths = failing_timed.lengths;
          }

  -- Enabled, opened by number 0
  fresh_sending : (b' : List ℕ) → Sending b' i (opened_run (end_of ws i).run) (end_of ws i).entry.largest
  unfolding opened_run
  fresh_sending b' =
      let none = reset_held (end_of ws i).run.window in
      record {
        taken = omega arith;
        handed = omega arith;
        acked = λ k h. absurd (true≢false (sym h ∙ none k));
        first = none 0;
        counted = refl;
        filled = λ k h. absurd (omega arith);
        stopped = λ k h. absurd (true≢false (sym h ∙ none k));
        urgent = omega arith;
      }

  fresh_sender : (b' : List ℕ) (l' : Lists) → Silent l' i [] → OpenSender b' l' i (turned_to (end_of ws i) Open (opened_run (end_of ws i).run))
  unfolding opened_run ids
  fresh_sender b' l' h =
      record {
        sending = fresh_sending b';
        share = h.share;
        resends = record {
          each = λ x m. absurd (Memᴰ.not-nil (subst (λ (ys : List ℕ). Memᴰ x ys) h.resends m));
          all = λ x p. absurd (omega (arith, p.handed));
        };
        standing = λ k h. absurd (omega arith);
      }

  fresh_fits : RunFits (opened_run (end_of ws i).run)
  unfolding opened_run
  fresh_fits =
      record { start = omega arith; taken = omega arith; handed = omega arith; accepted = omega arith; confirmed = omega arith; urgent = omega arith }

  opened_outcome : (t₀ : ℕ) → (end_of ws i).state ≡ Enabled t₀ true → s ≡ 0 → (b' : List ℕ) (l' : Lists) → Within i b b' l l' → ((c : ℕ) → cells_at ≤ c → get_or b' c 0 ≡ get_or b c 0) → under_in b' ≡ under_in b → Silent l' i []
      → Outcome t ws b l (saved ws i Open (opened_run (end_of ws i).run)) b' i s
  unfolding opened_run
  opened_outcome t₀ q z b' l' v same under h =
      let r = opened_run (end_of ws i).run in
      record {
        lists = l';
        good = sender_turn t ws b l G i li kind Open r tt fresh_fits refl b' l' v
            (sender_entered t ws b l G i li kind b' l' Open r (reset_good (end_of ws i).run.window (entry_window t ws b l G i li)) (fresh_sender b' l' h)) (λ k n d. absurd (omega arith));
        apart = apart_saved i ws Open r;
        within = v;
        under = under;
        ends = opened t₀ q z (end_saved ws i Open r G.long (entry_low t ws b l G i li) tt fresh_fits refl);
        lengths = λ c l. same (length_at c) (omega arith);
      }

  -- its Reset waited, or not
  opened_kept : (t₀ : ℕ) → (end_of ws i).state ≡ Enabled t₀ true → s ≡ 0 → (z : Bool) → Silent l i (pick z (reset_id i ∷ []) [])
      → Outcome t ws b l (saved ws i Open (opened_run (end_of ws i).run)) (pick z (unlinked b (reset_id i)) b) i s
  opened_kept t₀ q e true a =
      opened_outcome t₀ q e (unlinked b (reset_id i)) (less l (reset_id i))
      (within_unlink i b l G.lines resets (reset_id i) (omega arith) (reset_waited b l G.lines i a) (reset_owner i (entry_low t ws b l G i li)))
      (unlink_cells b l G.lines resets (reset_id i) (omega arith) (reset_waited b l G.lines i a))
      (unlink_under b l G.lines resets (reset_id i) (omega arith) (reset_waited b l G.lines i a)) (reset_gone_holds b l G.lines i a)
  opened_kept t₀ q e false a = opened_outcome t₀ q e b l (within_same i b l G.lines) (λ c h. refl) refl a

  -- nothing
  nothing : ack_answer (end_of ws i) (end_of ws i).state s ≡ was.Ignored → Outcome t ws b l ws b i s
  nothing h =
      record {
        lists = l;
        good = G;
        apart = apart_same i ws;
        within = within_same i b l G.lines;
        under = refl;
        ends = ignored refl refl h;
        lengths = λ c g. refl;
      }

  -- ---- all of them

  outcome : (st : State) → (end_of ws i).state ≡ st → Outcome t ws b l (ack_node ws b i (end_of ws i) st s) (ack_book b i (end_of ws i) st s) i s
  unfolding ack_node ack_book ack_answer
  outcome Closed q = nothing (rw q)
  outcome (Enabled t₀ sent) q = sides sent (eqb s 0) q refl
    where
      sides : (y z : Bool) → (end_of ws i).state ≡ Enabled t₀ y → eqb s 0 ≡ z
          → Outcome t ws b l (pick (y && z) (saved ws i Open (opened_run (end_of ws i).run)) ws) (pick (y && z) (reset_gone b i t₀) b) i s
      sides true true q e = opened_kept t₀ q (eqb-true s 0 e) (eqb t₀ 0) (sender_stated t ws b l G i li kind (Enabled t₀ true) q).silent
      sides true false q e = nothing (rw (q, e))
      sides false z q e = nothing (rw q)
  outcome Open q = sides (counts (end_of ws i).run s) refl
    where
      sides : (z : Bool) → counts (end_of ws i).run s ≡ z
          → Outcome t ws b l (pick z (counted_node ws i (acked_run (end_of ws i).run s)) ws)
          (pick z (stopped b (cell i (end_of ws i).run.window s)) b) i s
      sides true c = open_outcome c (sender_stated t ws b l G i li kind Open q) q
      sides false c = nothing (rw (q, c))
  outcome (Failing n) q = sides (counts (end_of ws i).run s) refl
    where
      sides : (z : Bool) → counts (end_of ws i).run s ≡ z
          → Outcome t ws b l (pick z (roused (saved ws i (Failing (fewer (timer_in b (cell i (end_of ws i).run.window s)) n)) (acked_run (end_of ws i).run s))) ws)
          (pick z (set b (timer_at (cell i (end_of ws i).run.window s)) 0) b) i s
      sides true c = failing_outcome c n q (sender_stated t ws b l G i li kind (Failing n) q)
      sides false c = nothing (rw (q, c))

-- ---- the call

module _ (t : List ℕ) (x : Lent) (l : Lists) (i s : ℕ) (g : Good t x.node x.book l) (li : i < count_in x.node)
    (kind : is_sends (end_of x.node i).entry.kind ≡ true) (hs : s < 256) where
  whole : Outcome t x.node x.book l (ack_node x.node x.book i (end_of x.node i) (end_of x.node i).state s)
      (ack_book x.book i (end_of x.node i) (end_of x.node i).state s) i s
  whole = outcome t x.node x.book l g i s li kind hs (end_of x.node i).state refl

  pub ack_keeps : Kept t x (ack_after x i (end_of x.node i) (end_of x.node i).state s) l i
  ack_keeps = record { lists = whole.lists; good = whole.good; apart = whole.apart; within = whole.within; under = whole.under }

  -- what becomes of the end point
  pub ack_ends : Acked x.node x.book (ack_after x i (end_of x.node i) (end_of x.node i).state s).node
      (ack_after x i (end_of x.node i) (end_of x.node i).state s).book i s
  ack_ends = whole.ends
