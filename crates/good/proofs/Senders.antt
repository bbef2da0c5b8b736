-- A sender that a call is on: one of its timers alters, one of its that waits goes, and what a good node says of its end point.
-- Assumes nothing.
use Prim.Native.Nat.{ℕ, zero, suc, ◌+◌, ◌≤◌, ◌<◌}
use mathlib.Core.Path.{◌≡◌, refl, sym, ap, subst, ◌∙◌}
use mathlib.Core.Logic.{◌≢◌}
use mathlib.Core.Bool.{Bool, true, false, true≢false}
use mathlib.Core.List.{List, [], ◌∷◌, Memᴰ}
use native.Mathlib.Decide.{ℕ_discrete}
use native.Mathlib.Nat.{mod-lt}
use native.Mathlib.Omega.{arith}
use lib.ListN.{length, get_or, set}
use lib.Seq.{get_or-set_same, get_or-set_other}
use lib.Dec.{eqb}
use borrow.Author.Tests.{eq-eqb}
use Rattle.units.specs.Refusals.{pick}
use Rattle.memory.specs.Layout.{all_cells, cells_at, under_at, retries_at, resets, urgents, resends, datas, reset_id, length_at, timer_at, book_halves}
use Rattle.waiting.specs.Queues.{appended}
use Rattle.waiting.specs.Port.{under_in}
use Rattle.window.specs.Windows.{held, Good as GoodWindow}
use Rattle.window.specs.declared.Window.{Window}
use Rattle.table.specs.Layout.{count_of}
use Rattle.table.proofs.Good.{GoodEntry, good_entry}
use Rattle.end_points.specs.Ends.{word, load_entry, end_of}
use Rattle.end_points.specs.Heads.{count_in}
use Rattle.end_points.specs.States.{is_sends}
use Rattle.end_points.specs.Runs.{anew, urgent_gone}
use Rattle.end_points.specs.declared.State.{State}
use Rattle.end_points.specs.declared.State.TheVariants.{Enabled}
use Rattle.end_points.specs.declared.Run.{Run}
use Rattle.end_points.specs.declared.EndPoint.{EndPoint}
use Rattle.slots.specs.Slots.{cell, past, length_in, timer_in}
use Rattle.good.specs.Good.{Lists, Lines, mine, Resends, Silent, Filled, Sending, running, Standing, Stated, Entered, Outlasts, Good}
use Rattle.good.proofs.Members.{mem_out, without, without_out, mine_in, mine_append, mine_own, mine_without}
use Rattle.good.proofs.Lined.{added, less, added_here, added_there, append_cells, append_under}
use Rattle.good.proofs.Known.{is_sends_holds, stated_as, entered_as, silent_out}
use Rattle.good.proofs.Framing.{same_under, Within, within_append, within_set, cell_low, timer_owner, running_ext}
use Rattle.good.proofs.Offsets.{reset_owner, reset_ranged, cell_inj}
use Rattle.good.proofs.Turns.{turned_to, anew_fresh, anew_window}

-- ---- the timer of one number

-- the timer of the number k past the start is at v; no other timer of the window, no length and nothing of what is under
-- way altered
pub record Timed (b b' : List ℕ) (i : ℕ) (w : Window) (k v : ℕ) : Type 0 where
  pub lengths : (g : ℕ) → g < all_cells → length_in b' g ≡ length_in b g
  pub here : timer_in b' (cell i w (past w k)) ≡ v
  pub there : (j : ℕ) → j < w.size → j ≢ k → timer_in b' (cell i w (past w j)) ≡ timer_in b (cell i w (past w j))
  pub under : under_in b' ≡ under_in b

-- of the first n numbers those timers of which X holds outlast q ticks then, where that one's does and the others' did
pub timed_outlasts : (b b' : List ℕ) (i : ℕ) (w : Window) (k v : ℕ) → Timed b b' i w k v → (c q : ℕ) (X : ℕ → Type 0) → (X k → Outlasts c q v) → (n : ℕ) → n ≤ w.size
    → ((j : ℕ) → j < n → j ≢ k → X j → Outlasts c q (timer_in b (cell i w (past w j)))) → (j : ℕ) → j < n → X j → Outlasts c q (timer_in b' (cell i w (past w j)))
timed_outlasts b b' i w k v T c q X o n few h j m x = sides (ℕ_discrete j k)
  where
    sides : Dec (j ≡ k) → Outlasts c q (timer_in b' (cell i w (past w j)))
    sides (yes e) = subst (λ (z : ℕ). Outlasts c q (timer_in b' (cell i w (past w z)))) (sym e) (subst (Outlasts c q) (sym T.here) (o (subst X e x)))
    sides (no d) = subst (Outlasts c q) (sym (T.there j (omega arith) d)) (h j m d x)

module _ (i : ℕ) (low : i < 16) (w : Window) (g : GoodWindow w) (k : ℕ) (hk : k < w.size) (v : ℕ) where
  pub timed_set : (b : List ℕ) → length b ≡ book_halves → Timed b (set b (timer_at (cell i w (past w k))) v) i w k v
  timed_set b long =
      let h = cell_low i low w g (past w k) in
      record {
        lengths = λ c l. get_or-set_other b (timer_at (cell i w (past w k))) (length_at c) v 0 (λ e. omega arith);
        here = get_or-set_same b (timer_at (cell i w (past w k))) v 0 (omega arith);
        there = λ j l n. get_or-set_other b (timer_at (cell i w (past w k))) (timer_at (cell i w (past w j))) v 0
            (λ e. n (cell_inj w g i j k l hk (omega arith)));
        under = get_or-set_other b (timer_at (cell i w (past w k))) under_at v 0 (λ e. omega arith);
      }

  -- after something that alters the links alone
  pub timed_after : (b c b' : List ℕ) → ((x : ℕ) → cells_at ≤ x → get_or c x 0 ≡ get_or b x 0) → under_in c ≡ under_in b → Timed c b' i w k v → Timed b b' i w k v
  timed_after b c b' same under d =
      record {
        lengths = λ x l. d.lengths x l ∙ same (length_at x) (omega arith);
        here = d.here;
        there = λ j l n. d.there j l n ∙ same (timer_at (cell i w (past w j))) (omega arith);
        under = d.under ∙ under;
      }

  -- before something that alters what is beyond the timers
  pub timed_then : (b c b' : List ℕ) → Timed b c i w k v → ((x : ℕ) → cells_at ≤ x → x < (retries_at 0) → get_or b' x 0 ≡ get_or c x 0) → under_in b' ≡ under_in c → Timed b b' i w k v
  timed_then b c b' d same under =
      record {
        lengths = λ x l. same (length_at x) (omega arith) (omega arith) ∙ d.lengths x l;
        here = same (timer_at (cell i w (past w k))) (omega arith) (omega (arith, cell_low i low w g (past w k))) ∙ d.here;
        there = λ j l n. same (timer_at (cell i w (past w j))) (omega arith) (omega (arith, cell_low i low w g (past w j))) ∙ d.there j l n;
        under = under ∙ d.under;
      }

  -- as a turn of the book
  pub within_timed : (b : List ℕ) (l : Lists) → Lines b l → Within i b (set b (timer_at (cell i w (past w k))) v) l l
  within_timed b l L = within_set i b l L (timer_at (cell i w (past w k))) v (omega arith) (timer_owner i low w g (past w k))

-- ---- what it sends

-- where no length altered, nor the timer of an acknowledged number
pub sending_kept : (b b' : List ℕ) (i : ℕ) → i < 16 → (r : Run) → GoodWindow r.window → (largest : ℕ) → ((c : ℕ) → c < all_cells → length_in b' c ≡ length_in b c)
    → ((k : ℕ) → held r.window k ≡ true → timer_in b' (cell i r.window (past r.window k)) ≡ timer_in b (cell i r.window (past r.window k)))
    → Sending b i r largest → Sending b' i r largest
sending_kept b b' i low r g largest lengths timers s =
    record {
      taken = s.taken;
      handed = s.handed;
      acked = s.acked;
      first = s.first;
      counted = s.counted;
      filled = λ k h. filled k (s.filled k h);
      stopped = λ k h. timers k h ∙ s.stopped k h;
      urgent = s.urgent;
    }
  where
    filled : (k : ℕ) → Filled b i r.window largest k → Filled b' i r.window largest k
    filled k f =
        let same = lengths (cell i r.window (past r.window k)) (cell_low i low r.window g (past r.window k)) in
        record { some = rw same f.some; most = rw same f.most }

-- its Urgent is gone
pub urgent_sending : (b : List ℕ) (i : ℕ) (r : Run) (largest : ℕ) → Sending b i r largest → Sending b i (urgent_gone r) largest
unfolding urgent_gone
urgent_sending b i r largest s =
    record {
      taken = s.taken;
      handed = s.handed;
      acked = s.acked;
      first = s.first;
      counted = s.counted;
      filled = s.filled;
      stopped = s.stopped;
      urgent = omega arith;
    }

-- where no timer of it altered, and its share is the same, the same retransmissions wait
pub resends_kept : (b b' : List ℕ) (l l' : Lists) (i : ℕ) (r r' : Run) → r'.window ≡ r.window → r'.handed ≡ r.handed
    → ((j : ℕ) → timer_in b' (cell i r.window (past r.window j)) ≡ timer_in b (cell i r.window (past r.window j)))
    → mine i (l' resends) ≡ mine i (l resends) → Resends b l i r → Resends b' l' i r'
resends_kept b b' l l' i r r' w h timers same R =
    record {
      each = λ x m. let q = R.each x (subst (λ (ys : List ℕ). Memᴰ x ys) same m) in
          record { at = q.at; handed = rw h q.handed; missing = rw w q.missing; idle = rw w (timers q.at ∙ q.idle); is = rw w q.is };
      all = λ x q. subst (λ (ys : List ℕ). Memᴰ x ys) (sym same)
          (R.all x (record {
            at = q.at;
            handed = rw (← h) q.handed;
            missing = rw (← w) q.missing;
            idle = sym (timers q.at) ∙ rw (← w) q.idle;
            is = rw (← w) q.is;
          }));
    }

-- nor what is under way: its timer stands as it did
pub standing_kept : (b b' : List ℕ) (i : ℕ) (r r' : Run) → r'.window ≡ r.window → r'.handed ≡ r.handed
    → ((j : ℕ) → timer_in b' (cell i r.window (past r.window j)) ≡ timer_in b (cell i r.window (past r.window j)))
    → under_in b' ≡ under_in b → Standing b i r → Standing b' i r'
standing_kept b b' i r r' w h timers u s k l m o z =
    s k (rw (← h) l) (rw (← w) m) (rw (← w) (o ∙ (same_under i b b' u).data!)) (sym (timers k) ∙ rw (← w) z)

-- ---- how many timers run

-- no more timers run than there are
pub running_le : (b : List ℕ) (i : ℕ) (w : Window) (n : ℕ) → running b i w n ≤ n
unfolding running
running_le b i w zero = omega arith
running_le b i w (suc n) = sides (running_le b i w n) (eqb (timer_in b (cell i w (past w n))) 0)
  where
    sides : running b i w n ≤ n → (t : Bool) → pick t (running b i w n) (suc (running b i w n)) ≤ suc n
    sides h true = omega arith
    sides h false = omega arith

-- as many run where the same ones do
pub running_alike : (b b' : List ℕ) (i : ℕ) (w : Window) (n : ℕ)
    → ((k : ℕ) → k < n → eqb (timer_in b' (cell i w (past w k))) 0 ≡ eqb (timer_in b (cell i w (past w k))) 0) → running b' i w n ≡ running b i w n
unfolding running
running_alike b b' i w zero h = refl
running_alike b b' i w (suc n) h = rw (h n (omega arith), running_alike b b' i w n (λ k l. h k (omega arith)))

-- one that stops is one fewer
pub running_stopped : (b b' : List ℕ) (i : ℕ) (w : Window) (k : ℕ) → Timed b b' i w k 0 → (n : ℕ) → k < n → n ≤ w.size
    → running b i w n ≡ running b' i w n + pick (eqb (timer_in b (cell i w (past w k))) 0) 0 1
unfolding running
running_stopped b b' i w k d zero l m = absurd (omega arith)
running_stopped b b' i w k d (suc n) l m = sides (running_stopped b b' i w k d n) (ℕ_discrete n k)
  where
    once : (t : Bool) (x y : ℕ) → y ≡ x → pick t x (suc x) ≡ y + pick t 0 1
    once true x y e = omega arith
    once false x y e = omega arith

    on : (t : Bool) (x y z : ℕ) → x ≡ y + z → pick t x (suc x) ≡ pick t y (suc y) + z
    on true x y z e = e
    on false x y z e = omega arith

    sides : (k < n → n ≤ w.size → running b i w n ≡ running b' i w n + pick (eqb (timer_in b (cell i w (past w k))) 0) 0 1) → Dec (n ≡ k)
        → pick (eqb (timer_in b (cell i w (past w n))) 0) (running b i w n) (suc (running b i w n))
        ≡ pick (eqb (timer_in b' (cell i w (past w n))) 0) (running b' i w n) (suc (running b' i w n)) + pick (eqb (timer_in b (cell i w (past w k))) 0) 0 1
    sides below (yes e) =
        rw (e, d.here)
        (once (eqb (timer_in b (cell i w (past w k))) 0) (running b i w k) (running b' i w k)
        (running_ext b b' i w k (λ j h. d.there j (omega arith) (λ q. omega arith))))
    sides below (no q) =
        rw (d.there n (omega arith) q)
        (on (eqb (timer_in b (cell i w (past w n))) 0) (running b i w n) (running b' i w n) _ (below (omega arith) (omega arith)))

-- where the first p do not run, none of them is missed from a window whose start passed them
pub running_none : (b : List ℕ) (i : ℕ) (w : Window) (p : ℕ) → ((j : ℕ) → j < p → timer_in b (cell i w (past w j)) ≡ 0) → running b i w p ≡ 0
unfolding running
running_none b i w zero h = refl
running_none b i w (suc p) h = rw (h p (omega arith)) (running_none b i w p (λ j l. h j (omega arith)))

pub running_moved : (b : List ℕ) (i : ℕ) (w u : Window) (p : ℕ) → ((j : ℕ) → j < p → timer_in b (cell i w (past w j)) ≡ 0)
    → ((j : ℕ) → cell i u (past u j) ≡ cell i w (past w (p + j))) → (n : ℕ) → running b i w (p + n) ≡ running b i u n
unfolding running
running_moved b i w u p stopped cells zero = ap (running b i w) (let e : p + zero ≡ p = omega arith in e) ∙ running_none b i w p stopped
running_moved b i w u p stopped cells (suc n) =
    ap (running b i w) (let e : p + suc n ≡ suc (p + n) = omega arith in e) ∙ rw (cells n, running_moved b i w u p stopped cells n)

-- ---- one that waited is gone

module _ (b : List ℕ) (l : Lists) (L : Lines b l) (q x : ℕ) (hq : q < 4) (m : Memᴰ x (l q)) where
  -- the other queues are as they were
  pub gone_other : (r : ℕ) → r < 4 → r ≢ q → less l x r ≡ l r
  gone_other r hr n = without_out x (l r) (mem_out x (l r) (λ k. L.apart r q hr hq n x k m))

-- it was all of an entry's share
pub gone_one : (i x : ℕ) (xs : List ℕ) → mine i xs ≡ x ∷ [] → mine i (without x xs) ≡ []
gone_one i x xs e = mine_without i x xs ∙ ap (without x) e ∙ rw (eq-eqb x x refl)

-- a Reset, where nothing else of an entry waits
module _ (b : List ℕ) (l : Lists) (L : Lines b l) (i : ℕ) (a : Silent l i (reset_id i ∷ [])) where
  pub reset_waited : Memᴰ (reset_id i) (l resets)
  reset_waited = (mine_in i (reset_id i) (l resets) (subst (λ (ys : List ℕ). Memᴰ (reset_id i) ys) (sym a.share.resets) (Memᴰ.head refl))).0

  pub reset_gone_holds : Silent (less l (reset_id i)) i []
  reset_gone_holds =
      let other = gone_other b l L resets (reset_id i) (omega arith) reset_waited in
      record {
        share = record {
          resets = gone_one i (reset_id i) (l resets) a.share.resets;
          urgents = ap (mine i) (other urgents (omega arith) (λ e. omega arith)) ∙ a.share.urgents;
          datas = ap (mine i) (other datas (omega arith) (λ e. omega arith)) ∙ a.share.datas;
        };
        resends = ap (mine i) (other resends (omega arith) (λ e. omega arith)) ∙ a.resends;
      }

-- ---- its Reset is one more, where nothing of it waited

module _ (b : List ℕ) (l : Lists) (L : Lines b l) (i : ℕ) (low : i < 16) (s : Silent l i []) where
  pub reset_within : Within i b (appended b resets (reset_id i)) l (added l resets (reset_id i))
  reset_within =
      within_append i b l L resets (reset_id i) (omega arith) (omega arith) (omega arith)
      (silent_out l i s (reset_id i) (reset_owner i low)) (reset_owner i low) (reset_ranged i low)

  pub reset_cells : (k : ℕ) → cells_at ≤ k → get_or (appended b resets (reset_id i)) k 0 ≡ get_or b k 0
  reset_cells k h =
      append_cells b l L resets (reset_id i) (omega arith) (omega arith) (omega arith) (silent_out l i s (reset_id i) (reset_owner i low)) k h

  pub reset_under : under_in (appended b resets (reset_id i)) ≡ under_in b
  reset_under = append_under b l L resets (reset_id i) (omega arith) (omega arith) (omega arith) (silent_out l i s (reset_id i) (reset_owner i low))

  pub reset_silent : Silent (added l resets (reset_id i)) i (reset_id i ∷ [])
  reset_silent =
      record {
        share =
            record {
              resets =
                  ap (mine i) (added_here l resets (reset_id i)) ∙ mine_append i (l resets) (reset_id i ∷ [])
                  ∙ rw s.share.resets (mine_own i (reset_id i) (reset_owner i low));
              urgents = ap (mine i) (added_there l resets (reset_id i) urgents (λ e. omega arith)) ∙ s.share.urgents;
              datas = ap (mine i) (added_there l resets (reset_id i) datas (λ e. omega arith)) ∙ s.share.datas;
            };
        resends = ap (mine i) (added_there l resets (reset_id i) resends (λ e. omega arith)) ∙ s.resends;
      }

-- it is Enabled then, with a run begun anew
pub enabled_sender : (b : List ℕ) (l : Lists) (i : ℕ) (e : EndPoint) → is_sends e.entry.kind ≡ true → GoodWindow e.run.window → Silent l i (reset_id i ∷ [])
    → Entered b l i (turned_to e (Enabled 0 false) (anew e.run))
enabled_sender b l i e k w s =
    entered_as b l i (turned_to e (Enabled 0 false) (anew e.run)) (anew_window e.run w) true k (Enabled 0 false) refl
    (record { fresh = anew_fresh e.run; silent = s; unsent = λ h. refl; standing = λ z h. absurd (true≢false (sym h)) })

-- ---- the end point of a sender

module _ (t ws b : List ℕ) (l : Lists) (G : Good t ws b l) (i : ℕ) (li : i < count_in ws) where
  pub entry_window : GoodWindow (end_of ws i).run.window
  entry_window = (G.entered i li).window

  -- what the table says of it
  pub entry_good : GoodEntry (end_of ws i).entry
  unfolding end_of
  entry_good =
      let h : i < count_of t = omega (arith, G.tabled.count) in
      subst GoodEntry (sym (G.tabled.entry i h)) (good_entry t G.table i h)

  module _ (kind : is_sends (end_of ws i).entry.kind ≡ true) where
    pub sender_stated : (st : State) → (end_of ws i).state ≡ st → Stated b l i (end_of ws i) true st
    sender_stated st q = stated_as b l i (end_of ws i) (G.entered i li) true kind st q

    -- back to a kind that is not computed yet
    pub sender_entered : (b' : List ℕ) (l' : Lists) (st : State) (r : Run) → GoodWindow r.window → Stated b' l' i (turned_to (end_of ws i) st r) true st
        → Entered b' l' i (turned_to (end_of ws i) st r)
    sender_entered b' l' st r g h = entered_as b' l' i (turned_to (end_of ws i) st r) g true kind st refl h

    -- its timers start at 1 at least
    pub sender_timeout : 1 ≤ (end_of ws i).entry.timeout
    sender_timeout = entry_good.sender (is_sends_holds (end_of ws i).entry.kind kind)

-- they fit their word
pub timeout_fits : (ws : List ℕ) (i : ℕ) → (end_of ws i).entry.timeout < 65536
unfolding end_of load_entry
timeout_fits ws i = mod-lt (word ws i 6) (omega arith)
