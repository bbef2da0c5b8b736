-- Handing out nothing, an acknowledgement, a Reset or an Urgent keeps a good node good; and what is used of any open sender of which
-- something goes out. Assumes nothing.
use Prim.Native.Nat.{ℕ, ◌/◌, ◌≤◌, ◌<◌}
use mathlib.Core.Path.{◌≡◌, refl, sym, ap, subst, ◌∙◌}
use mathlib.Core.Logic.{◌≢◌}
use mathlib.Core.Bool.{Bool, true, false, true≢false}
use mathlib.Core.List.{List, [], ◌∷◌, Memᴰ}
use native.Mathlib.Nat.{mod-eq_of_lt}
use native.Mathlib.Omega.{arith}
use lib.ListN.{get_or}
use Rattle.memory.specs.Layout.{cells_at, resets, urgents, resends, datas, reset_id, urgent_id, length_at, timer_at}
use Rattle.waiting.specs.Queues.{unlinked}
use Rattle.waiting.specs.Acks.{waiting_of, oldest_of, ack_of, popped}
use Rattle.waiting.specs.Order.{acks_in}
use Rattle.waiting.specs.Port.{under_in, no_number, data_out}
use Rattle.waiting.proofs.Ringed.{Ring, pop_acks, pop_ring}
use Rattle.window.specs.Windows.{Good as GoodWindow}
use Rattle.end_points.proofs.Kept.{RunFits}
use Rattle.end_points.specs.Ends.{end_of, saved}
use Rattle.end_points.specs.Heads.{count_in}
use Rattle.end_points.specs.States.{is_sends}
use Rattle.end_points.specs.Runs.{urgent_gone}
use Rattle.end_points.specs.Lent.{Lent}
use Rattle.end_points.specs.declared.State.{State}
use Rattle.end_points.specs.declared.State.TheVariants.{Enabled, Open}
use Rattle.end_points.specs.declared.Run.{Run}
use Rattle.end_points.specs.declared.EndPoint.{EndPoint}
use Rattle.slots.specs.Slots.{cell, past}
use Rattle.timing.specs.Timing.{clock_in, quiet_in, standing}
use Rattle.frame.specs.declared.FrameType.TheVariants as type
use Rattle.memory.specs.Layout.{owner_of}
use Rattle.good.proofs.Porting.{none_idle, within_begun, begun_no_data, begun_reset, begun_no_reset, port_cells}
use Rattle.call_hand_out.specs.declared.Next.TheVariants as next
use Rattle.call_hand_out.specs.Handing.{sent, out_node, out_book, handed_out}
use Rattle.memory.specs.Layout.{reset_entry, urgent_entry}
use Rattle.good.specs.Good.{Lists, mine, Silent, OpenSender, EnabledSender, Entered, Outlasts, Timely, Owed, Good}
use Rattle.good.proofs.Lined.{less, unlink_cells, unlink_under}
use Rattle.good.proofs.Known.{stated_as}
use Rattle.good.proofs.Framing.{Within, within_then, within_unlink, Apart, apart_saved, same_entered, framed, count_low, entry_low}
use Rattle.good.proofs.Offsets.{reset_owner, urgent_owner}
use Rattle.good.proofs.Turns.{run_fits, turned_to, end_saved, gone_fits, ring_of, saved_acks, owed_open, sender_put, sender_turn, pop_apart, pop_end}
use Rattle.good.proofs.Senders.{sending_kept, urgent_sending, resends_kept, gone_one, reset_gone_holds, entry_window, sender_stated, sender_entered}
use Rattle.good.proofs.HandRuns.{urgent_waited, share_kept}
use Rattle.good.proofs.Handed.{Went, HandKept, nothing, acked, reset, urgent}
use Rattle.good.proofs.HandFirst.{open_only, enabled_only, Whose, ranged_reset, ranged_urgent, whose}

-- ---- the sorts

module _ (t : List ℕ) (x : Lent) (l : Lists) (G : Good t x.node x.book l) (none : under_in x.book ≡ 0) where
  pub hand_nothing : Went x (handed_out x next.Nothing) next.Nothing → HandKept t x (handed_out x next.Nothing) l
  unfolding out_node out_book
  hand_nothing W = record { lists = l; good = G; store = refl; lengths = λ c h. refl; what = nothing W refl refl }

  -- an acknowledgement
  ring : Ring x.node
  ring = ring_of t x.node x.book l G

  module _ (some : 0 < waiting_of x.node) where
    oldest_owed : Owed x.node (oldest_of x.node)
    oldest_owed =
        G.owed (oldest_of x.node)
        (subst (λ (ys : List ℕ). Memᴰ (oldest_of x.node) ys) (sym (pop_acks x.node ring some)) (Memᴰ.head refl))

    ack_entry : (ack_of (oldest_of x.node)).entry ≡ oldest_of x.node / 256
    ack_entry = mod-eq_of_lt (omega (arith, oldest_owed.known, count_low t x.node x.book l G))

    ack_known : (ack_of (oldest_of x.node)).entry < count_in x.node
    ack_known = rw ack_entry oldest_owed.known

    ack_receives : is_sends (end_of x.node (ack_of (oldest_of x.node)).entry).entry.kind ≡ false
    ack_receives = rw ack_entry oldest_owed.receives

    ack_open : (end_of x.node (ack_of (oldest_of x.node)).entry).state ≡ Open
    ack_open = rw ack_entry oldest_owed.opened

    ack_low : (ack_of (oldest_of x.node)).entry < 16
    ack_low = entry_low t x.node x.book l G (ack_of (oldest_of x.node)).entry ack_known

    abbrev ack_book : List ℕ
    ack_book = sent x.book type.Acknowledge (ack_of (oldest_of x.node)).entry (ack_of (oldest_of x.node)).seq.0

    ack_within : Within (ack_of (oldest_of x.node)).entry x.book ack_book l l
    ack_within = within_begun x.book l G.lines 1 (ack_of (oldest_of x.node)).entry (ack_of (oldest_of x.node)).seq.0 ack_low (omega arith) none

    -- the receiver sees nothing of it: it has neither Data nor a Reset under way
    ack_entered : Entered ack_book l (ack_of (oldest_of x.node)).entry (end_of x.node (ack_of (oldest_of x.node)).entry)
    ack_entered =
        let i = (ack_of (oldest_of x.node)).entry in
        let s = (ack_of (oldest_of x.node)).seq.0 in
        same_entered i ack_low x.book ack_book l l (λ k h o. port_cells x.book _ k h) (λ q h. refl)
        (λ k h o. absurd (omega (arith, begun_no_data x.book l G.lines 1 i s ack_low (omega arith) (omega arith) (omega arith), h, o)))
        (λ z. absurd (true≢false (sym z ∙ begun_no_reset x.book l G.lines 1 i s ack_low (omega arith) (λ e. omega arith) (omega arith))))
        (end_of x.node i) (G.entered i ack_known)

    ack_timely : Timely (clock_in (popped x.node)) (quiet_in (popped x.node)) ack_book (ack_of (oldest_of x.node)).entry
        (end_of x.node (ack_of (oldest_of x.node)).entry) (end_of x.node (ack_of (oldest_of x.node)).entry).state
    ack_timely =
        let i = (ack_of (oldest_of x.node)).entry in
        let e = end_of x.node i in
        let r = (stated_as x.book l i e (G.entered i ack_known) false ack_receives Open ack_open).receiving in
        subst (Timely (clock_in (popped x.node)) (quiet_in (popped x.node)) ack_book i e) (sym ack_open) (λ k h. absurd (omega (arith, r.handed)))

    ack_good : Good t (popped x.node) ack_book l
    ack_good =
        let i = (ack_of (oldest_of x.node)).entry in
        let ws = x.node in
        let same = pop_end i ws ring in
        framed i ws (popped ws) (pop_apart i ws ring) t x.book ack_book l l G ack_within ack_known (pop_ring ws ring some).most
        (λ w m.
        owed_open i ws (popped ws) (pop_apart i ws ring) (rw same ack_receives) (rw same ack_open) w
        (G.owed w (subst (λ (ys : List ℕ). Memᴰ w ys) (sym (pop_acks ws ring some)) (Memᴰ.tail m))))
        (subst (Entered ack_book l i) (sym same) ack_entered)
        (subst (λ (e : EndPoint). Timely (clock_in (popped ws)) (quiet_in (popped ws)) ack_book i e e.state) (sym same) ack_timely)

    pub hand_ack : Went x (handed_out x (next.Ack (ack_of (oldest_of x.node)))) (next.Ack (ack_of (oldest_of x.node))) → HandKept t x (handed_out x (next.Ack (ack_of (oldest_of x.node)))) l
    unfolding out_node out_book
    hand_ack W =
        let i = (ack_of (oldest_of x.node)).entry in
        record {
          lists = l;
          good = ack_good;
          store = refl;
          lengths = λ c h. port_cells x.book _ (length_at c) (omega arith);
          what = acked (oldest_of x.node) W
              (record {
                alone = record { known = ack_known; apart = pop_apart i x.node ring; within = ack_within };
                acks = pop_acks x.node ring some;
                receives = ack_receives;
                opened = ack_open;
                ends = λ j. pop_end j x.node ring;
                book = refl;
              });
        }

  -- a Reset
  module _ (n : ℕ) (m : Memᴰ n (l resets)) where
    reset_is : n ≡ reset_id (reset_entry n)
    reset_is = let h = ranged_reset n (G.known resets (omega arith) n m).1 in omega arith

    reset_whose : Whose x.node l resets n (reset_entry n)
    reset_whose =
        let h = ranged_reset n (G.known resets (omega arith) n m).1 in
        whose t x.node x.book l G resets (omega arith) n m (reset_entry n) (ap owner_of reset_is ∙ reset_owner (reset_entry n) (omega arith))

    reset_state : (is_sends (end_of x.node (reset_entry n)).entry.kind ≡ true) × ((sent : Bool) × ((end_of x.node (reset_entry n)).state ≡ Enabled 0 sent))
    reset_state =
        let i = reset_entry n in
        enabled_only x.book l i (end_of x.node i) n reset_whose.share (is_sends (end_of x.node i).entry.kind) (end_of x.node i).state
        (G.entered i reset_whose.known).stated

    reset_sender : EnabledSender x.book l (reset_entry n) (end_of x.node (reset_entry n)) 0 reset_state.1.0
    reset_sender =
        sender_stated t x.node x.book l G (reset_entry n) reset_whose.known reset_state.0 (Enabled 0 reset_state.1.0) reset_state.1.1

    reset_low : reset_entry n < 16
    reset_low = entry_low t x.node x.book l G (reset_entry n) reset_whose.known

    reset_unlink : Within (reset_entry n) x.book (unlinked x.book n) l (less l n)
    reset_unlink = within_unlink (reset_entry n) x.book l G.lines resets n (omega arith) m reset_whose.own

    abbrev reset_book : List ℕ
    reset_book = sent (unlinked x.book n) type.Reset (reset_entry n) 0

    reset_within : Within (reset_entry n) x.book reset_book l (less l n)
    reset_within =
        within_then (reset_entry n) x.book (unlinked x.book n) reset_book l (less l n) (less l n) reset_unlink
        (within_begun (unlinked x.book n) (less l n) reset_unlink.lines 2 (reset_entry n) 0 reset_low (omega arith)
        (unlink_under x.book l G.lines resets n (omega arith) m ∙ none))

    abbrev reset_says : State
    reset_says = Enabled standing true

    reset_then : EnabledSender reset_book (less l n) (reset_entry n) (turned_to (end_of x.node (reset_entry n)) reset_says (end_of x.node (reset_entry n)).run) standing true
    reset_then =
        record {
          fresh = reset_sender.fresh;
          silent = subst (λ (z : ℕ). Silent (less l z) (reset_entry n) []) (sym reset_is) (reset_gone_holds x.book l G.lines (reset_entry n) reset_sender.silent);
          unsent = λ h. absurd (true≢false h);
          standing = λ z h e. omega arith;
        }

    abbrev reset_saved : List ℕ
    reset_saved = saved x.node (reset_entry n) reset_says (end_of x.node (reset_entry n)).run

    reset_apart : Apart (reset_entry n) x.node reset_saved
    reset_apart = apart_saved (reset_entry n) x.node reset_says (end_of x.node (reset_entry n)).run

    reset_end : end_of reset_saved (reset_entry n) ≡ turned_to (end_of x.node (reset_entry n)) reset_says (end_of x.node (reset_entry n)).run
    reset_end = end_saved x.node (reset_entry n) reset_says (end_of x.node (reset_entry n)).run G.long reset_low (omega arith) (run_fits x.node (reset_entry n)) refl

    reset_acks : (waiting_of reset_saved ≡ waiting_of x.node) × (acks_in reset_saved ≡ acks_in x.node)
    reset_acks = saved_acks x.node (reset_entry n) reset_says (end_of x.node (reset_entry n)).run

    reset_good : Good t reset_saved reset_book (less l n)
    reset_good =
        let i = reset_entry n in
        let e = end_of x.node i in
        let s = reset_says in
        sender_put t x.node x.book l G i reset_whose.known reset_state.0 reset_saved reset_apart reset_acks.0 reset_acks.1 reset_book (less l n) reset_within
        (turned_to e s e.run) reset_end
        (sender_entered t x.node x.book l G i reset_whose.known reset_state.0 reset_book (less l n) s e.run
        (entry_window t x.node x.book l G i reset_whose.known) reset_then)
        (λ z. absurd (true≢false (sym (begun_reset (unlinked x.book n) (less l n) reset_unlink.lines 2 i 0 reset_low (omega arith) refl) ∙ z)))

    pub hand_reset : Went x (handed_out x (next.Reset n)) (next.Reset n) → HandKept t x (handed_out x (next.Reset n)) l
    unfolding out_node out_book
    hand_reset W =
        let i = reset_entry n in
        record {
          lists = less l n;
          good = reset_good;
          store = refl;
          lengths = λ c h. port_cells (unlinked x.book n) _ (length_at c) (omega arith)
              ∙ unlink_cells x.book l G.lines resets n (omega arith) m (length_at c) (omega arith);
          what = reset n W
              (record {
                at = i;
                entry = refl;
                is = reset_is;
                alone = record {
                  known = reset_whose.known;
                  apart = reset_apart;
                  within = reset_within;
                };
                sends = reset_state.0;
                sent = reset_state.1.0;
                enabled = reset_state.1.1;
                ends = reset_end;
                acks = reset_acks.1;
              });
        }

  -- something else of an open sender
  module _ (q : ℕ) (hq : q < 4) (d : q ≢ resets) (n i : ℕ) (w : Whose x.node l q n i) where
    pub open_state : (is_sends (end_of x.node i).entry.kind ≡ true) × ((end_of x.node i).state ≡ Open)
    open_state =
        open_only x.book l i (end_of x.node i) n q hq d w.share (is_sends (end_of x.node i).entry.kind) (end_of x.node i).state (G.entered i w.known).stated

    pub open_sender : OpenSender x.book l i (end_of x.node i)
    open_sender = sender_stated t x.node x.book l G i w.known open_state.0 Open open_state.1

    pub open_within : Within i x.book (unlinked x.book n) l (less l n)
    open_within = within_unlink i x.book l G.lines q n hq w.waits w.own

    pub open_beyond : (k : ℕ) → cells_at ≤ k → get_or (unlinked x.book n) k 0 ≡ get_or x.book k 0
    open_beyond = unlink_cells x.book l G.lines q n hq w.waits

    pub open_share : (r : ℕ) → r < 4 → r ≢ q → (xs : List ℕ) → mine i (l r) ≡ xs → mine i (less l n r) ≡ xs
    open_share = share_kept x.book l G.lines i n q hq w.waits

    module _ (r : Run) (fits : RunFits r) (g : GoodWindow r.window) (size : r.window.size ≡ (end_of x.node i).run.window.size) where
      pub open_good : (b' : List ℕ) → Within i x.book b' l (less l n) → OpenSender b' (less l n) i (turned_to (end_of x.node i) Open r)
          → Timely (clock_in x.node) (quiet_in x.node) b' i (turned_to (end_of x.node i) Open r) Open
          → Good t (saved x.node i (end_of x.node i).state r) b' (less l n)
      open_good b' v o soon =
          subst (λ (z : State). Good t (saved x.node i z r) b' (less l n)) (sym open_state.1)
          (sender_turn t x.node x.book l G i w.known open_state.0 Open r tt fits size b' (less l n) v
          (sender_entered t x.node x.book l G i w.known open_state.0 b' (less l n) Open r g o) soon)

      open_end : end_of (saved x.node i (end_of x.node i).state r) i ≡ turned_to (end_of x.node i) Open r
      open_end =
          ap (λ (z : State). end_of (saved x.node i z r) i) open_state.1
          ∙ end_saved x.node i Open r G.long (entry_low t x.node x.book l G i w.known) tt fits size

  -- an Urgent
  module _ (n : ℕ) (m : Memᴰ n (l urgents)) where
    urgent_is : n ≡ urgent_id (urgent_entry n)
    urgent_is = let h = ranged_urgent n (G.known urgents (omega arith) n m).1 in omega arith

    urgent_whose : Whose x.node l urgents n (urgent_entry n)
    urgent_whose =
        let h = ranged_urgent n (G.known urgents (omega arith) n m).1 in
        whose t x.node x.book l G urgents (omega arith) n m (urgent_entry n) (ap owner_of urgent_is ∙ urgent_owner (urgent_entry n) (omega arith))

    urgent_sender : OpenSender x.book l (urgent_entry n) (end_of x.node (urgent_entry n))
    urgent_sender = open_sender urgents (omega arith) (λ e. omega arith) n (urgent_entry n) urgent_whose

    urgent_was : ((end_of x.node (urgent_entry n)).run.urgent ≢ 0) × (mine (urgent_entry n) (l urgents) ≡ urgent_id (urgent_entry n) ∷ [])
    urgent_was =
        urgent_waited (urgent_entry n) (end_of x.node (urgent_entry n)).run.urgent n (mine (urgent_entry n) (l urgents)) urgent_sender.share.urgents urgent_whose.share

    abbrev urgent_book : List ℕ
    urgent_book = sent (unlinked x.book n) type.Urgent (urgent_entry n) 0

    urgent_beyond : (k : ℕ) → cells_at ≤ k → get_or urgent_book k 0 ≡ get_or x.book k 0
    urgent_beyond k h = port_cells (unlinked x.book n) _ k h ∙ open_beyond urgents (omega arith) (λ e. omega arith) n (urgent_entry n) urgent_whose k h

    urgent_low : urgent_entry n < 16
    urgent_low = entry_low t x.node x.book l G (urgent_entry n) urgent_whose.known

    urgent_unlink : Within (urgent_entry n) x.book (unlinked x.book n) l (less l n)
    urgent_unlink = open_within urgents (omega arith) (λ z. omega arith) n (urgent_entry n) urgent_whose

    urgent_within : Within (urgent_entry n) x.book urgent_book l (less l n)
    urgent_within =
        within_then (urgent_entry n) x.book (unlinked x.book n) urgent_book l (less l n) (less l n) urgent_unlink
        (within_begun (unlinked x.book n) (less l n) urgent_unlink.lines 3 (urgent_entry n) 0 urgent_low (omega arith)
        (unlink_under x.book l G.lines urgents n (omega arith) m ∙ none))

    -- no Data is under way
    urgent_no_data : data_out urgent_book (urgent_entry n) ≡ no_number
    urgent_no_data = begun_no_data (unlinked x.book n) (less l n) urgent_unlink.lines 3 (urgent_entry n) 0 urgent_low (omega arith) (omega arith) (omega arith)

    urgent_then : OpenSender urgent_book (less l n) (urgent_entry n) (turned_to (end_of x.node (urgent_entry n)) Open (urgent_gone (end_of x.node (urgent_entry n)).run))
    unfolding urgent_gone
    urgent_then =
        let i = urgent_entry n in
        let e = end_of x.node i in
        let b' = urgent_book in
        let o = urgent_sender in
        let kept = open_share urgents (omega arith) (λ z. omega arith) n i urgent_whose in
        record {
          sending = urgent_sending b' i e.run e.entry.largest
              (sending_kept x.book b' i (entry_low t x.node x.book l G i urgent_whose.known) e.run (entry_window t x.node x.book l G i urgent_whose.known) e.entry.largest
              (λ c h. urgent_beyond (length_at c) (omega arith)) (λ k h. urgent_beyond (timer_at (cell i e.run.window (past e.run.window k))) (omega arith)) o.sending);
          share = record {
            resets = kept resets (omega arith) (λ z. omega arith) [] o.share.resets;
            urgents = gone_one i n (l urgents) (urgent_was.1 ∙ ap (λ (y : ℕ). y ∷ []) (sym urgent_is));
            datas = kept datas (omega arith) (λ z. omega arith) _ o.share.datas;
          };
          resends = resends_kept x.book b' l (less l n) i e.run (urgent_gone e.run) refl refl (λ k. urgent_beyond (timer_at (cell i e.run.window (past e.run.window k))) (omega arith))
              (kept resends (omega arith) (λ z. omega arith) (mine i (l resends)) refl) o.resends;
          standing = λ k h g z. absurd (let y = z ∙ urgent_no_data in omega arith);
        }

    urgent_timely : Timely (clock_in x.node) (quiet_in x.node) urgent_book (urgent_entry n) (turned_to (end_of x.node (urgent_entry n)) Open (urgent_gone (end_of x.node (urgent_entry n)).run)) Open
    unfolding urgent_gone
    urgent_timely k h d =
        let i = urgent_entry n in
        let e = end_of x.node i in
        let c = clock_in x.node in
        let state = open_state urgents (omega arith) (λ z. omega arith) n i urgent_whose in
        let was = subst (Timely c (quiet_in x.node) x.book i e) state.1 (G.timely i urgent_whose.known) in
        subst (Outlasts c (quiet_in x.node)) (sym (urgent_beyond (timer_at (cell i e.run.window (past e.run.window k))) (omega arith)))
        (was k h (λ z. let y = z ∙ (none_idle x.book i none).data! in omega arith))

    urgent_fits : RunFits (urgent_gone (end_of x.node (urgent_entry n)).run)
    urgent_fits = gone_fits (end_of x.node (urgent_entry n)).run (run_fits x.node (urgent_entry n))

    pub hand_urgent : Went x (handed_out x (next.Urgent n)) (next.Urgent n) → HandKept t x (handed_out x (next.Urgent n)) l
    unfolding out_node out_book urgent_gone
    hand_urgent W =
        let i = urgent_entry n in
        let e = end_of x.node i in
        let r = urgent_gone e.run in
        let b' = urgent_book in
        let g = entry_window t x.node x.book l G i urgent_whose.known in
        let state = open_state urgents (omega arith) (λ z. omega arith) n i urgent_whose in
        let within = urgent_within in
        record {
          lists = less l n;
          good = open_good urgents (omega arith) (λ z. omega arith) n i urgent_whose r urgent_fits g refl b' within urgent_then urgent_timely;
          store = refl;
          lengths = λ c h. urgent_beyond (length_at c) (omega arith);
          what = urgent n W
              (record {
                at = i;
                entry = refl;
                is = urgent_is;
                alone = record { known = urgent_whose.known; apart = apart_saved i x.node e.state r; within = within };
                sends = state.0;
                opened = state.1;
                waits = urgent_was.0;
                ends = open_end urgents (omega arith) (λ z. omega arith) n i urgent_whose r urgent_fits g refl;
                acks = (saved_acks x.node i e.state r).1;
              });
        }
