-- Handing out data, again or for the first time, keeps a good node good; the number in the frame is the one that its slot holds, and
-- the payload has 1 to P bytes. Assumes nothing.
use Prim.Native.Nat.{ℕ, suc, ◌+◌, ◌-◌, ◌%◌, ◌≤◌, ◌<◌}
use mathlib.Core.Path.{◌≡◌, refl, sym, ap, subst, ◌∙◌}
use mathlib.Core.Logic.{◌≢◌}
use mathlib.Core.Bool.{Bool, true, false}
use mathlib.Core.List.{List, [], Memᴰ}
use native.Mathlib.Omega.{arith}
use lib.ListN.{get_or, set}
use Rattle.memory.specs.Layout.{all_cells, cells_at, resets, urgents, resends, datas, length_at, timer_at}
use Rattle.waiting.specs.Queues.{unlinked}
use Rattle.waiting.specs.Acks.{waiting_of}
use Rattle.waiting.specs.Order.{acks_in, Distinct}
use Rattle.waiting.specs.Port.{under_in, data_out}
use Rattle.window.specs.Windows.{held, Good as GoodWindow}
use Rattle.window.proofs.Sizes.{size_le}
use Rattle.end_points.specs.Ends.{end_of}
use Rattle.end_points.specs.States.{is_sends}
use Rattle.end_points.specs.Lent.{Lent}
use Rattle.end_points.specs.declared.State.{State}
use Rattle.end_points.specs.declared.State.TheVariants.{Open}
use Rattle.end_points.specs.declared.Run.{Run}
use Rattle.slots.specs.Slots.{cell, past, number_in, length_in, timer_in}
use Rattle.timing.specs.Timing.{clock_in, quiet_in, standing}
use Rattle.frame.specs.declared.FrameType.TheVariants as type
use Rattle.call_hand_out.specs.declared.Next.TheVariants as next
use Rattle.call_hand_out.specs.Handing.{handed_run, handed_node, stood, sent, data_sent, out_node, out_book, handed_out}
use Rattle.memory.specs.Layout.{id_cell, id_entry, id_slot}
use Rattle.good.specs.Good.{Lists, mine, id_at, ids, Resend, Resends, OpenSender, Standing, Stated, Outlasts, Outlast, Timely, Good}
use Rattle.good.proofs.Members.{without_in, without_keeps, mine_in, mine_without}
use Rattle.good.proofs.Lined.{less, unlink_under}
use Rattle.good.proofs.Porting.{none_idle, within_begun, begun_data, port_cells}
use Rattle.good.proofs.Framing.{Within, within_then, Apart, apart_same, timely_fewer, entry_low}
use Rattle.good.proofs.Turns.{turned_to, sender_put}
use Rattle.good.proofs.Senders.{Timed, timed_set, timed_after, within_timed, sending_kept, resends_kept, entry_window, sender_entered}
use Rattle.good.proofs.HandRuns.{with_handed, NextData, handed_sending, timed_sending, timed_resends, id_cell_holds, id_slot_holds, id_number, share_first, share_rest, next_data}
use Rattle.good.proofs.RunSets.{handed_puts, handed_end}
use Rattle.good.proofs.Handed.{Went, SlotOut, HandKept, resent, handed}
use Rattle.good.proofs.HandFirst.{First, first_in, Whose, ranged_slot, slot_owner, whose}
use Rattle.good.proofs.HandSorts.{open_state, open_sender, open_within, open_beyond, open_share}

module _ (t : List ℕ) (x : Lent) (l : Lists) (G : Good t x.node x.book l) (none : under_in x.book ≡ 0) where
  -- a slot: the number k past the start
  module _ (q : ℕ) (n : ℕ) (m : Memᴰ n (l (suc (suc q)))) (hq : suc (suc q) < 4) where
    slot_whose : Whose x.node l (suc (suc q)) n (id_entry n)
    slot_whose =
        let h = ranged_slot q n (G.known (suc (suc q)) hq n m).1 in
        whose t x.node x.book l G (suc (suc q)) hq n m (id_entry n) (slot_owner n h.0 h.1)

    slot_low : id_entry n < 16
    slot_low = entry_low t x.node x.book l G (id_entry n) slot_whose.known

    slot_window : GoodWindow (end_of x.node (id_entry n)).run.window
    slot_window = entry_window t x.node x.book l G (id_entry n) slot_whose.known

    slot_state : (is_sends (end_of x.node (id_entry n)).entry.kind ≡ true) × ((end_of x.node (id_entry n)).state ≡ Open)
    slot_state = open_state t x l G none (suc (suc q)) hq (λ e. omega arith) n (id_entry n) slot_whose

    slot_sender : OpenSender x.book l (id_entry n) (end_of x.node (id_entry n))
    slot_sender = open_sender t x l G none (suc (suc q)) hq (λ e. omega arith) n (id_entry n) slot_whose

    slot_share : (r : ℕ) → r < 4 → r ≢ suc (suc q) → (xs : List ℕ) → mine (id_entry n) (l r) ≡ xs → mine (id_entry n) (less l n r) ≡ xs
    slot_share = open_share t x l G none (suc (suc q)) hq (λ e. omega arith) n (id_entry n) slot_whose

    module _ (k : ℕ) (is : n ≡ id_at (id_entry n) (end_of x.node (id_entry n)).run.window k) (taken : k < (end_of x.node (id_entry n)).run.taken) where
      slot_fit : k < (end_of x.node (id_entry n)).run.window.size
      slot_fit = omega (arith, slot_sender.sending.taken)

      slot_cell : id_cell n ≡ cell (id_entry n) (end_of x.node (id_entry n)).run.window (past (end_of x.node (id_entry n)).run.window k)
      slot_cell = id_cell_holds (id_entry n) slot_low (end_of x.node (id_entry n)).run.window slot_window n k is

      -- its timer stands
      slot_stood : Within (id_entry n) x.book (stood x.book n) l (less l n)
      slot_stood =
          let i = id_entry n in
          let w = (end_of x.node i).run.window in
          let one = open_within t x l G none (suc (suc q)) hq (λ e. omega arith) n i slot_whose in
          subst (λ (c : ℕ). Within i x.book (set (unlinked x.book n) (timer_at c) standing) l (less l n)) (sym slot_cell)
          (within_then i x.book (unlinked x.book n) (set (unlinked x.book n) (timer_at (cell i w (past w k))) standing) l (less l n) (less l n) one
          (within_timed i slot_low w slot_window k slot_fit standing (unlinked x.book n) (less l n) one.lines))

      slot_timed : Timed x.book (stood x.book n) (id_entry n) (end_of x.node (id_entry n)).run.window k standing
      slot_timed =
          let i = id_entry n in
          let w = (end_of x.node i).run.window in
          let b' = unlinked x.book n in
          subst (λ (c : ℕ). Timed x.book (set b' (timer_at c) standing) i w k standing) (sym slot_cell)
          (timed_after i slot_low w slot_window k slot_fit standing x.book b' (set b' (timer_at (cell i w (past w k))) standing)
          (open_beyond t x l G none (suc (suc q)) hq (λ e. omega arith) n i slot_whose)
          (unlink_under x.book l G.lines (suc (suc q)) n hq m)
          (timed_set i slot_low w slot_window k slot_fit standing b' (open_within t x l G none (suc (suc q)) hq (λ e. omega arith) n i slot_whose).lines.long))

      slot_number : number_in (end_of x.node (id_entry n)).run.window (id_slot n) ≡ past (end_of x.node (id_entry n)).run.window k
      slot_number = id_number (id_entry n) slot_low (end_of x.node (id_entry n)).run.window slot_window n k is slot_fit

      -- and it is under way
      slot_book : data_sent x.node x.book n ≡ sent (stood x.book n) type.Data (id_entry n) (past (end_of x.node (id_entry n)).run.window k)
      unfolding data_sent
      slot_book = ap (sent (stood x.book n) type.Data (id_entry n)) slot_number

      slot_idle : under_in (stood x.book n) ≡ 0
      slot_idle = slot_timed.under ∙ none

      slot_within : Within (id_entry n) x.book (data_sent x.node x.book n) l (less l n)
      slot_within =
          let s = past (end_of x.node (id_entry n)).run.window k in
          subst (λ (b : List ℕ). Within (id_entry n) x.book b l (less l n)) (sym slot_book)
          (within_then (id_entry n) x.book (stood x.book n) (sent (stood x.book n) type.Data (id_entry n) s) l (less l n) (less l n) slot_stood
          (within_begun (stood x.book n) (less l n) slot_stood.lines 0 (id_entry n) s slot_low (omega arith) slot_idle))

      slot_under : data_out (data_sent x.node x.book n) (id_entry n) ≡ past (end_of x.node (id_entry n)).run.window k
      slot_under =
          let s = past (end_of x.node (id_entry n)).run.window k in
          ap (λ (b : List ℕ). data_out b (id_entry n)) slot_book
          ∙ begun_data (stood x.book n) (less l n) slot_stood.lines 0 (id_entry n) s slot_low (omega arith) refl

      slot_beyond : (j : ℕ) → cells_at ≤ j → get_or (data_sent x.node x.book n) j 0 ≡ get_or (stood x.book n) j 0
      slot_beyond j h = ap (λ (b : List ℕ). get_or b j 0) slot_book ∙ port_cells (stood x.book n) _ j h

      slot_timer : (j : ℕ) → timer_in (data_sent x.node x.book n) (cell (id_entry n) (end_of x.node (id_entry n)).run.window (past (end_of x.node (id_entry n)).run.window j))
          ≡ timer_in (stood x.book n) (cell (id_entry n) (end_of x.node (id_entry n)).run.window (past (end_of x.node (id_entry n)).run.window j))
      slot_timer j = slot_beyond (timer_at (cell (id_entry n) (end_of x.node (id_entry n)).run.window (past (end_of x.node (id_entry n)).run.window j))) (omega arith)

      slot_lengths : (c : ℕ) → c < all_cells → length_in (data_sent x.node x.book n) c ≡ length_in x.book c
      slot_lengths c h = slot_beyond (length_at c) (omega arith) ∙ slot_timed.lengths c h

      -- the number under way has a timer that stands
      slot_standing : (h : ℕ) → Standing (data_sent x.node x.book n) (id_entry n) (with_handed (end_of x.node (id_entry n)).run h)
      slot_standing h j g missing o z =
          let i = id_entry n in
          let w = (end_of x.node i).run.window in
          let e : past w j ≡ past w k = o ∙ slot_under in
          let y : ◌≡◌ {A = ℕ} standing 0 = sym slot_timed.here ∙ sym (slot_timer k) ∙ ap (λ (s : ℕ). timer_in (data_sent x.node x.book n) (cell i w s)) (sym e) ∙ z in
          omega (arith, y)

      -- those of the other numbers handed out run on
      slot_outlasts : (h : ℕ) → h ≤ (end_of x.node (id_entry n)).run.window.size → ((j : ℕ) → j < h → j ≢ k → j < (end_of x.node (id_entry n)).run.handed)
          → Outlast (clock_in x.node) (quiet_in x.node) (data_sent x.node x.book n) (id_entry n) (with_handed (end_of x.node (id_entry n)).run h)
      slot_outlasts h few others j l d =
          let i = id_entry n in
          let w = (end_of x.node i).run.window in
          let c = clock_in x.node in
          let was = subst (Timely c (quiet_in x.node) x.book i (end_of x.node i)) slot_state.1 (G.timely i slot_whose.known) in
          let other : j ≢ k = λ e. d (ap (past w) e ∙ sym slot_under) in
          subst (Outlasts c (quiet_in x.node)) (sym (slot_timer j ∙ slot_timed.there j (omega arith) other))
          (was j (others j l other) (λ z. let y = z ∙ (none_idle x.book i none).data! in omega arith))

      slot_out : (x' : Lent) → x'.book ≡ data_sent x.node x.book n → Apart (id_entry n) x.node x'.node → acks_in x'.node ≡ acks_in x.node
          → SlotOut x x' l (less l n) n (id_entry n) k
      slot_out x' book apart acks =
          let i = id_entry n in
          let w = (end_of x.node i).run.window in
          let f = slot_sender.sending.filled k taken in
          record {
            entry = refl;
            is = is;
            alone = record { known = slot_whose.known; apart = apart; within = rw book slot_within };
            sends = slot_state.0;
            opened = slot_state.1;
            taken = taken;
            here = slot_cell;
            slot = id_slot_holds i slot_low w slot_window n k is;
            number = slot_number;
            some = subst (λ (c : ℕ). 1 ≤ length_in x.book c) (sym slot_cell) f.some;
            most = subst (λ (c : ℕ). length_in x.book c ≤ (end_of x.node i).entry.largest) (sym slot_cell) f.most;
            acks = acks;
          }

  -- a retransmission
  module _ (n : ℕ) (m : Memᴰ n (l resends)) where
    again : Resend x.book (id_entry n) (end_of x.node (id_entry n)).run n
    again = (slot_sender 0 n m (omega arith)).resends.each n (slot_whose 0 n m (omega arith)).share

    again_taken : again.at < (end_of x.node (id_entry n)).run.taken
    again_taken = omega (arith, again.handed, (slot_sender 0 n m (omega arith)).sending.handed)

    again_timed : Timed x.book (stood x.book n) (id_entry n) (end_of x.node (id_entry n)).run.window again.at standing
    again_timed = slot_timed 0 n m (omega arith) again.at again.is again_taken

    again_resends : Resends (stood x.book n) (less l n) (id_entry n) (end_of x.node (id_entry n)).run
    again_resends =
        let i = id_entry n in
        let r = (end_of x.node i).run in
        let s = (slot_sender 0 n m (omega arith)).sending in
        let same = mine_without i n (l resends) in
        timed_resends x.book (stood x.book n) i (slot_low 0 n m (omega arith)) r (slot_window 0 n m (omega arith)) again.at standing
        (omega arith) (slot_fit 0 n m (omega arith) again.at again.is again_taken) again.missing again_timed
        r.handed (omega arith) (λ j h d. h) (omega (arith, s.taken, s.handed)) l (less l n) (slot_sender 0 n m (omega arith)).resends
        (λ y k. let d = without_in n y (mine i (l resends)) (subst (λ (ys : List ℕ). Memᴰ y ys) same k) in (d.0, λ e. d.1 (e ∙ sym again.is)))
        (λ y k d. subst (λ (ys : List ℕ). Memᴰ y ys) (sym same) (without_keeps n y (mine i (l resends)) k (λ e. d (e ∙ again.is))))

    abbrev again_book : List ℕ
    again_book = data_sent x.node x.book n

    again_then : OpenSender again_book (less l n) (id_entry n) (end_of x.node (id_entry n))
    again_then =
        let i = id_entry n in
        let e = end_of x.node i in
        let o = slot_sender 0 n m (omega arith) in
        let kept = slot_share 0 n m (omega arith) in
        let timers = slot_timer 0 n m (omega arith) again.at again.is again_taken in
        record {
          sending = sending_kept (stood x.book n) again_book i (slot_low 0 n m (omega arith)) e.run (slot_window 0 n m (omega arith)) e.entry.largest
              (λ c h. slot_beyond 0 n m (omega arith) again.at again.is again_taken (length_at c) (omega arith)) (λ k h. timers k)
              (timed_sending x.book (stood x.book n) i (slot_low 0 n m (omega arith)) e.run (slot_window 0 n m (omega arith)) again.at standing
              (omega arith) (slot_fit 0 n m (omega arith) again.at again.is again_taken) again.missing again_timed e.entry.largest o.sending);
          share = record {
            resets = kept resets (omega arith) (λ z. omega arith) [] o.share.resets;
            urgents = kept urgents (omega arith) (λ z. omega arith) _ o.share.urgents;
            datas = kept datas (omega arith) (λ z. omega arith) _ o.share.datas;
          };
          resends = resends_kept (stood x.book n) again_book (less l n) (less l n) i e.run e.run refl refl timers refl again_resends;
          standing = slot_standing 0 n m (omega arith) again.at again.is again_taken e.run.handed;
        }

    again_within : Within (id_entry n) x.book again_book l (less l n)
    again_within = slot_within 0 n m (omega arith) again.at again.is again_taken

    again_good : Good t x.node again_book (less l n)
    again_good =
        let i = id_entry n in
        let e = end_of x.node i in
        let known = (slot_whose 0 n m (omega arith)).known in
        let state = slot_state 0 n m (omega arith) in
        let s = (slot_sender 0 n m (omega arith)).sending in
        sender_put t x.node x.book l G i known state.0 x.node (apart_same i x.node) refl refl
        again_book (less l n) again_within e refl
        (sender_entered t x.node x.book l G i known state.0 again_book (less l n) e.state e.run (slot_window 0 n m (omega arith))
        (subst (λ (z : State). Stated again_book (less l n) i e true z) (sym state.1) again_then))
        (subst (Timely (clock_in x.node) (quiet_in x.node) again_book i e) (sym state.1)
        (slot_outlasts 0 n m (omega arith) again.at again.is again_taken e.run.handed (omega (arith, s.taken, s.handed)) (λ j h d. h)))

    pub hand_resend : Went x (handed_out x (next.Resend n)) (next.Resend n) → HandKept t x (handed_out x (next.Resend n)) l
    unfolding out_node out_book
    hand_resend W =
        record {
          lists = less l n;
          good = again_good;
          store = refl;
          lengths = slot_lengths 0 n m (omega arith) again.at again.is again_taken;
          what = resent n W
              (record {
                at = id_entry n;
                offset = again.at;
                slot = slot_out 0 n m (omega arith) again.at again.is again_taken (handed_out x (next.Resend n)) refl (apart_same (id_entry n) x.node) refl;
                handed = again.handed;
                missing = again.missing;
                ends = λ j. refl;
              });
        }

  -- data for the first time
  module _ (n : ℕ) (f : First n (l datas)) where
    m : Memᴰ n (l datas)
    m = first_in n (l datas) f

    data_sender : OpenSender x.book l (id_entry n) (end_of x.node (id_entry n))
    data_sender = slot_sender 1 n m (omega arith)

    data_next : NextData (id_entry n) (end_of x.node (id_entry n)).run.window (end_of x.node (id_entry n)).run.handed (end_of x.node (id_entry n)).run.taken n
        (mine (id_entry n) f.rest)
    data_next =
        let i = id_entry n in
        let r = (end_of x.node i).run in
        next_data i r.window r.handed r.taken n (mine i f.rest)
        (sym (share_first i n (l datas) f.rest f.parts (slot_whose 1 n m (omega arith)).own) ∙ data_sender.share.datas)

    data_missing : held (end_of x.node (id_entry n)).run.window (end_of x.node (id_entry n)).run.handed ≡ false
    data_missing = sides (held (end_of x.node (id_entry n)).run.window (end_of x.node (id_entry n)).run.handed) refl
      where
        sides : (z : Bool) → held (end_of x.node (id_entry n)).run.window (end_of x.node (id_entry n)).run.handed ≡ z → z ≡ false
        sides true e = absurd (omega (arith, data_sender.sending.acked (end_of x.node (id_entry n)).run.handed e))
        sides false e = refl

    data_count : ((end_of x.node (id_entry n)).run.handed + 1) % 256 ≡ suc (end_of x.node (id_entry n)).run.handed
    data_count =
        omega (arith, data_next.more, data_sender.sending.taken, size_le (end_of x.node (id_entry n)).run.window.size (slot_window 1 n m (omega arith)).sized)

    data_timed : Timed x.book (stood x.book n) (id_entry n) (end_of x.node (id_entry n)).run.window (end_of x.node (id_entry n)).run.handed standing
    data_timed = slot_timed 1 n m (omega arith) (end_of x.node (id_entry n)).run.handed data_next.is data_next.more

    data_resends : Resends (stood x.book n) (less l n) (id_entry n) (with_handed (end_of x.node (id_entry n)).run (suc (end_of x.node (id_entry n)).run.handed))
    data_resends =
        let i = id_entry n in
        let r = (end_of x.node i).run in
        let s = data_sender.sending in
        let same = slot_share 1 n m (omega arith) resends (omega arith) (λ z. omega arith) (mine i (l resends)) refl in
        timed_resends x.book (stood x.book n) i (slot_low 1 n m (omega arith)) r (slot_window 1 n m (omega arith)) r.handed standing
        (omega arith) (slot_fit 1 n m (omega arith) r.handed data_next.is data_next.more) data_missing data_timed
        (suc r.handed) (omega arith) (λ j h d. omega arith) (omega (arith, s.taken, data_next.more)) l (less l n) data_sender.resends
        (λ y k. let d = subst (λ (ys : List ℕ). Memᴰ y ys) same k in (
          d,
          λ e. G.lines.apart resends datas (omega arith) (omega arith) (λ z. omega arith) y (mine_in i y (l resends) d).0
              (subst (λ (z : ℕ). Memᴰ z (l datas)) (data_next.is ∙ sym e) m),
        ))
        (λ y k d. subst (λ (ys : List ℕ). Memᴰ y ys) (sym same) k)

    -- the rest of them waits
    data_rest : mine (id_entry n) (less l n datas)
        ≡ ids (id_entry n) (end_of x.node (id_entry n)).run.window (suc (end_of x.node (id_entry n)).run.handed) ((end_of x.node (id_entry n)).run.taken - suc (end_of x.node (id_entry n)).run.handed)
    data_rest =
        share_rest (id_entry n) n (l datas) f.rest f.parts (subst Distinct f.parts (G.lines.queue datas (omega arith)).distinct.1).0 ∙ data_next.rest

    abbrev data_book : List ℕ
    data_book = data_sent x.node x.book n

    abbrev data_next_run : Run
    data_next_run = with_handed (end_of x.node (id_entry n)).run (suc (end_of x.node (id_entry n)).run.handed)

    data_then : OpenSender data_book (less l n) (id_entry n) (turned_to (end_of x.node (id_entry n)) Open data_next_run)
    data_then =
        let i = id_entry n in
        let e = end_of x.node i in
        let b' = stood x.book n in
        let o = data_sender in
        let kept = slot_share 1 n m (omega arith) in
        let timers = slot_timer 1 n m (omega arith) e.run.handed data_next.is data_next.more in
        record {
          sending = sending_kept b' data_book i (slot_low 1 n m (omega arith)) data_next_run (slot_window 1 n m (omega arith)) e.entry.largest
              (λ c h. slot_beyond 1 n m (omega arith) e.run.handed data_next.is data_next.more (length_at c) (omega arith)) (λ k h. timers k)
              (handed_sending b' i e.run e.entry.largest (suc e.run.handed) (omega arith) data_next.more
              (timed_sending x.book b' i (slot_low 1 n m (omega arith)) e.run (slot_window 1 n m (omega arith)) e.run.handed standing
              (omega arith) (slot_fit 1 n m (omega arith) e.run.handed data_next.is data_next.more) data_missing data_timed e.entry.largest o.sending));
          share = record {
            resets = kept resets (omega arith) (λ z. omega arith) [] o.share.resets;
            urgents = kept urgents (omega arith) (λ z. omega arith) _ o.share.urgents;
            datas = data_rest;
          };
          resends = resends_kept b' data_book (less l n) (less l n) i data_next_run data_next_run refl refl timers refl data_resends;
          standing = slot_standing 1 n m (omega arith) e.run.handed data_next.is data_next.more (suc e.run.handed);
        }

    -- the run as it is saved
    data_run : handed_run (end_of x.node (id_entry n)).run ≡ with_handed (end_of x.node (id_entry n)).run (suc (end_of x.node (id_entry n)).run.handed)
    unfolding handed_run
    data_run = ap (with_handed (end_of x.node (id_entry n)).run) data_count

    -- the node with one number more handed out
    abbrev data_put : List ℕ
    data_put = handed_node x.node (id_entry n) (end_of x.node (id_entry n)).run

    data_puts : Apart (id_entry n) x.node data_put
        × (waiting_of data_put ≡ waiting_of x.node) × (acks_in data_put ≡ acks_in x.node)
    data_puts =
        let p = handed_puts x.node (id_entry n) G.long (slot_low 1 n m (omega arith)) in
        (p.apart, p.waits, p.acks)

    data_end : end_of data_put (id_entry n)
        ≡ turned_to (end_of x.node (id_entry n)) Open (handed_run (end_of x.node (id_entry n)).run)
    data_end = rw (slot_state 1 n m (omega arith)).1 at (handed_end x.node (id_entry n) G.long (slot_low 1 n m (omega arith)))

    data_timely : Timely (clock_in x.node) (quiet_in data_put) data_book (id_entry n) (turned_to (end_of x.node (id_entry n)) Open data_next_run) Open
    data_timely =
        let e = end_of x.node (id_entry n) in
        timely_fewer (clock_in x.node) (quiet_in x.node) (quiet_in data_put) data_book (id_entry n) (turned_to e Open data_next_run) Open data_puts.0.quiet
        (slot_outlasts 1 n m (omega arith) e.run.handed data_next.is data_next.more (suc e.run.handed)
        (omega (arith, data_sender.sending.taken, data_next.more)) (λ j h d. omega arith))

    pub hand_data : Went x (handed_out x (next.Data n)) (next.Data n) → HandKept t x (handed_out x (next.Data n)) l
    unfolding out_node out_book handed_run
    hand_data W =
        let i = id_entry n in
        let e = end_of x.node i in
        let r = handed_run e.run in
        let b' = data_book in
        let g = slot_window 1 n m (omega arith) in
        let w = slot_whose 1 n m (omega arith) in
        let sends = (slot_state 1 n m (omega arith)).0 in
        record {
          lists = less l n;
          good = sender_put t x.node x.book l G i w.known sends data_put data_puts.0 data_puts.1 data_puts.2 b' (less l n)
              (slot_within 1 n m (omega arith) e.run.handed data_next.is data_next.more) (turned_to e Open r) data_end
              (sender_entered t x.node x.book l G i w.known sends b' (less l n) Open r g
              (subst (λ (z : Run). OpenSender b' (less l n) i (turned_to e Open z)) (sym data_run) data_then))
              (subst (λ (z : Run). Timely (clock_in x.node) (quiet_in data_put) b' i (turned_to e Open z) Open) (sym data_run) data_timely);
          store = refl;
          lengths = slot_lengths 1 n m (omega arith) e.run.handed data_next.is data_next.more;
          what = handed n W
              (record {
                at = i;
                slot = slot_out 1 n m (omega arith) e.run.handed data_next.is data_next.more (handed_out x (next.Data n)) refl data_puts.0 data_puts.2;
                ends = data_end;
              });
        }
