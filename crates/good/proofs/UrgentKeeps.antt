-- Urgent keeps a good node good: entry i's Urgent waits, and no cell alters. Also what an Urgent that passed made of the entry.
-- Assumes nothing.
use Prim.Native.Nat.{ℕ, zero, suc, ◌≤◌, ◌<◌}
use mathlib.Core.Path.{◌≡◌, refl, sym, ap, subst, ◌∙◌}
use mathlib.Core.Bool.{true}
use mathlib.Core.List.Memᴰ
use mathlib.Core.List.{List, [], ◌∷◌, ◌++◌, Memᴰ}
use native.Mathlib.Nat.{mod-lt}
use native.Mathlib.Omega.{arith}
use lib.ListN.{length, get_or}
use lib.Seq.{sets}
use lib.Dec.{eqb, leb}
use borrow.Author.Tests.{not-false, eqb-true, eqb-false, leb-false, ltb-false, le-leb, eq-eqb, ne_eqb}
use Rattle.units.specs.Refusals.{pick}
use Rattle.units.specs.declared.refusals.Refusal.TheVariants as refusal
use Rattle.units.proofs.Judging.{clear}
use Rattle.memory.specs.Layout.{cells_at, urgents, urgent_id, length_at, timer_at}
use Rattle.waiting.specs.Queues.{appended}
use Rattle.waiting.specs.Port.{under_in}
use Rattle.end_points.proofs.Kept.{RunFits}
use Rattle.window.specs.declared.Window.{Window}
use Rattle.end_points.specs.Ends.{word, load_entry, end_of}
use Rattle.end_points.specs.Heads.{count_in, need_in}
use Rattle.end_points.specs.Lent.{Lent}
use Rattle.end_points.specs.declared.State.{State}
use Rattle.end_points.specs.declared.State.TheVariants.{Open}
use Rattle.end_points.specs.declared.Run.{Run}
use Rattle.end_points.specs.declared.EndPoint.{EndPoint}
use Rattle.slots.specs.Slots.{cell, spot, past, length_in}
use Rattle.call_send.specs.Sending.{urgent_tests, urgent_answer, urgent_run, urged, urgent_after}
use Rattle.timing.specs.Timing.{clock_in, quiet_in}
use Rattle.memory.specs.Layout.{Ranged}
use Rattle.good.specs.Good.{Lists, Lines, mine, Resends, Sending, OpenSender, Entered, Timely, Good}
use Rattle.good.proofs.Members.{mine_all, mine_append, mine_own}
use Rattle.good.proofs.Lined.{added, append_cells, append_under}
use Rattle.good.proofs.Known.{stated_as, entered_as}
use Rattle.good.proofs.Framing.{same_under, Within, within_append, apart_saved, timely_as, entry_low}
use Rattle.good.proofs.Offsets.{urgent_owner, urgent_ranged}
use Rattle.good.proofs.Asked.{Asked}
use Rattle.good.proofs.Turns.{run_fits, state_fits, turned_to, end_saved, sender_turn, Kept, kept_either}
use Rattle.good.proofs.Senders.{resends_kept, standing_kept}
use Rattle.std.specs.Prelude.{Ok}
use Rattle.end_points.proofs.Telling.{is_open_holds}

-- ---- what waits

-- no Urgent of an open sender waits while its run says so
urgent_waits : (t ws b : List ℕ) (l : Lists) → Good t ws b l → (i : ℕ) → i < count_in ws → OpenSender b l i (end_of ws i) → (end_of ws i).run.urgent ≡ 0
    → (q : ℕ) → q < 4 → Memᴰ (urgent_id i) (l q) → ⊥
unfolding Ranged
urgent_waits t ws b l g i li o u q hq m = queue q hq m
  where
    low : i < 16
    low = entry_low t ws b l g i li

    none : mine i (l 1) ≡ []
    none = o.share.urgents ∙ rw (eq-eqb (end_of ws i).run.urgent 0 u)

    queue : (q : ℕ) → q < 4 → Memᴰ (urgent_id i) (l q) → ⊥
    queue zero hq m = let k = (g.known 0 hq (urgent_id i) m).1 in omega arith
    queue (suc zero) hq m = Memᴰ.not-nil (subst (Memᴰ (urgent_id i)) none (mine_all i (urgent_id i) (l 1) m (urgent_owner i low)))
    queue (suc (suc q)) hq m = let k = (g.known (suc (suc q)) hq (urgent_id i) m).1 in omega (arith, low)

-- ---- the book and the entry

module _ (b : List ℕ) (l : Lists) (L : Lines b l) (i : ℕ) (low : i < 16) (e : EndPoint) (o : OpenSender b l i e) (u : e.run.urgent ≡ 0) (n : ℕ)
    (some : 1 ≤ n) (most : n ≤ e.entry.largest) (none : (q : ℕ) → q < 4 → Memᴰ (urgent_id i) (l q) → ⊥) where
  abbrev book : List ℕ
  book = appended b urgents (urgent_id i)

  abbrev lists : Lists
  lists = added l urgents (urgent_id i)

  cells : (k : ℕ) → cells_at ≤ k → get_or book k 0 ≡ get_or b k 0
  cells k h = append_cells b l L urgents (urgent_id i) (omega arith) (omega arith) (omega arith) none k h

  under : under_in book ≡ under_in b
  under = append_under b l L urgents (urgent_id i) (omega arith) (omega arith) (omega arith) none

  urged_within : Within i b book l lists
  urged_within = within_append i b l L urgents (urgent_id i) (omega arith) (omega arith) (omega arith) none (urgent_owner i low) (urgent_ranged i low)

  urged_sending : Sending book i (urgent_run e.run n) e.entry.largest
  unfolding urgent_run
  urged_sending =
      let s = o.sending in
      record {
        taken = s.taken;
        handed = s.handed;
        acked = s.acked;
        first = s.first;
        counted = s.counted;
        filled = λ k h. let f = s.filled k h in
            let c = cells (length_at (cell i e.run.window (past e.run.window k))) (omega arith) in
            record { some = rw c f.some; most = rw c f.most };
        stopped = λ k h. cells (timer_at (cell i e.run.window (past e.run.window k))) (omega arith) ∙ s.stopped k h;
        urgent = most;
      }

  urged_urgents : mine i (l urgents ++ (urgent_id i ∷ [])) ≡ pick (eqb n 0) [] (urgent_id i ∷ [])
  urged_urgents =
      mine_append i (l urgents) (urgent_id i ∷ [])
      ∙ rw (o.share.urgents, mine_own i (urgent_id i) (urgent_owner i low), eq-eqb e.run.urgent 0 u, ne_eqb n 0 (λ z. omega arith))

  urged_resends : Resends book lists i (urgent_run e.run n)
  unfolding urgent_run
  urged_resends =
      resends_kept b book l lists i e.run (urgent_run e.run n) refl refl
      (λ k. cells (timer_at (cell i e.run.window (past e.run.window k))) (omega arith)) refl o.resends

  urged_open : (s : State) → OpenSender book lists i (turned_to e s (urgent_run e.run n))
  unfolding urgent_run
  urged_open s =
      record {
        sending = urged_sending;
        share = record { resets = o.share.resets; urgents = urged_urgents; datas = o.share.datas };
        resends = urged_resends;
        standing = standing_kept b book i e.run (urgent_run e.run n) refl refl
            (λ k. cells (timer_at (cell i e.run.window (past e.run.window k))) (omega arith)) under o.standing;
      }

-- ---- the call

-- no test of the call fits
record Tested (x : Lent) (i : ℕ) (p : List ℕ) : Type 0 where
  asked : Asked x i p
  waits : (end_of x.node i).run.urgent ≡ 0

tested : (x : Lent) (i : ℕ) (p : List ℕ) → urgent_answer x i p ≡ Ok tt → Tested x i p
unfolding urgent_answer
tested x i p h =
    let e = end_of x.node i in
    let c = clear ((leb (count_in x.node) i, refusal.NoEntry) ∷ urgent_tests e (length p) (length x.store) (need_in x.node)) h in
    let k = c.1 in
    record {
      asked = record {
        known = leb-false _ _ c.0;
        sends = not-false _ k.0;
        opened = is_open_holds _ (not-false _ k.1.0);
        some = (let z = eqb-false (length p) 0 k.1.1.0 in omega arith);
        most = ltb-false _ _ k.1.1.1.0;
        need = ltb-false _ _ k.1.1.1.1.1.0;
      };
      waits = eqb-true _ _ (not-false _ k.1.1.1.1.0);
    }

-- what an Urgent that passed made of the entry
pub record UrgentPassed (x : Lent) (i : ℕ) (p : List ℕ) (e : EndPoint) (after : Lent) : Type 0 where
  pub asked : Asked x i p
  pub waits : e.run.urgent ≡ 0
  pub is : after ≡ urged x i e p
  pub end : end_of after.node i ≡ turned_to e Open (urgent_run e.run (length p))
  pub lengths : (c : ℕ) → length_in after.book c ≡ length_in x.book c
  pub stored : after.store ≡ sets x.store (spot e.place e.entry.largest e.run.window.size) p

-- the run still fits its words
largest_small : (ws : List ℕ) (i : ℕ) → (end_of ws i).entry.largest < 65536
unfolding end_of load_entry
largest_small ws i = mod-lt (word ws i 5) (omega arith)

urged_fits : (r : Run) (n : ℕ) → RunFits r → n < 65536 → RunFits (urgent_run r n)
unfolding urgent_run
urged_fits r n f h =
    record { start = f.start; taken = f.taken; handed = f.handed; accepted = f.accepted; confirmed = f.confirmed; urgent = h }

urged_window : (r : Run) (n : ℕ) → (urgent_run r n).window ≡ r.window
unfolding urgent_run
urged_window r n = refl

after_passed : (x : Lent) (i : ℕ) (p : List ℕ) → urgent_answer x i p ≡ Ok tt → urgent_after x i p (urgent_answer x i p) ≡ urged x i (end_of x.node i) p
unfolding urgent_after
after_passed x i p h = rw h

module _ (t : List ℕ) (x : Lent) (l : Lists) (i : ℕ) (p : List ℕ) (g : Good t x.node x.book l) (d : Tested x i p) where
  abbrev e : EndPoint
  e = end_of x.node i

  abbrev after : EndPoint
  after = turned_to e e.state (urgent_run e.run (length p))

  low : i < 16
  low = entry_low t x.node x.book l g i d.asked.known

  was : OpenSender x.book l i e
  was = stated_as x.book l i e (g.entered i d.asked.known) true d.asked.sends Open d.asked.opened

  none : (q : ℕ) → q < 4 → Memᴰ (urgent_id i) (l q) → ⊥
  none = urgent_waits t x.node x.book l g i d.asked.known was d.waits

  fits : RunFits (urgent_run e.run (length p))
  fits = urged_fits e.run (length p) (run_fits x.node i) (omega (arith, d.asked.most, largest_small x.node i))

  same_size : (urgent_run e.run (length p)).window.size ≡ e.run.window.size
  same_size = ap (λ (w : Window). w.size) (urged_window e.run (length p))

  now : Entered (urged x i e p).book (added l urgents (urgent_id i)) i after
  now =
      entered_as (urged x i e p).book (added l urgents (urgent_id i)) i after (rw (urged_window e.run (length p)) (g.entered i d.asked.known).window)
      true d.asked.sends Open d.asked.opened
      (urged_open x.book l g.lines i low e was d.waits (length p) d.asked.some d.asked.most none e.state)

  soon : Timely (clock_in x.node) (quiet_in x.node) (urged x i e p).book i after e.state
  unfolding urgent_run
  soon =
      timely_as (clock_in x.node) (quiet_in x.node) x.book (urged x i e p).book i e after
      (same_under i x.book (urged x i e p).book (under x.book l g.lines i low e was d.waits (length p) d.asked.some d.asked.most none)) refl refl
      (λ k. cells x.book l g.lines i low e was d.waits (length p) d.asked.some d.asked.most none (timer_at (cell i e.run.window (past e.run.window k))) (omega arith))
      e.state (g.timely i d.asked.known)

  within : Within i x.book (urged x i e p).book l (added l urgents (urgent_id i))
  within = urged_within x.book l g.lines i low e was d.waits (length p) d.asked.some d.asked.most none

  urged_kept : Kept t x (urged x i e p) l i
  urged_kept =
      record {
        lists = added l urgents (urgent_id i);
        good = sender_turn t x.node x.book l g i d.asked.known d.asked.sends e.state (urgent_run e.run (length p)) (state_fits x.node i) fits same_size
            (urged x i e p).book (added l urgents (urgent_id i)) within now soon;
        apart = apart_saved i x.node e.state (urgent_run e.run (length p));
        within = within;
        under = under x.book l g.lines i low e was d.waits (length p) d.asked.some d.asked.most none;
      }

  urged_passed : UrgentPassed x i p e (urged x i e p)
  urged_passed =
      record {
        asked = d.asked;
        waits = d.waits;
        is = refl;
        end = end_saved x.node i e.state (urgent_run e.run (length p)) g.long low (state_fits x.node i) fits same_size
            ∙ ap (λ (s : State). turned_to e s (urgent_run e.run (length p))) d.asked.opened;
        lengths = λ c. cells x.book l g.lines i low e was d.waits (length p) d.asked.some d.asked.most none (length_at c) (omega arith);
        stored = refl;
      }

pub urgent_passed : (t : List ℕ) (x : Lent) (l : Lists) (i : ℕ) (p : List ℕ) → Good t x.node x.book l → urgent_answer x i p ≡ Ok tt
    → UrgentPassed x i p (end_of x.node i) (urgent_after x i p (urgent_answer x i p))
urgent_passed t x l i p g h =
    subst (UrgentPassed x i p (end_of x.node i)) (sym (after_passed x i p h)) (urged_passed t x l i p g (tested x i p h))

-- An entry that there is not is refused, and nothing alters.
pub urgent_refused : (x : Lent) (i : ℕ) (p : List ℕ) → count_in x.node ≤ i → urgent_after x i p (urgent_answer x i p) ≡ x
unfolding urgent_answer urgent_after
urgent_refused x i p h = rw (le-leb (count_in x.node) i h)

-- Urgent keeps a good node good.
pub urgent_keeps : (t : List ℕ) (x : Lent) (l : Lists) (i : ℕ) (p : List ℕ) → Good t x.node x.book l → i < count_in x.node
    → Kept t x (urgent_after x i p (urgent_answer x i p)) l i
unfolding urgent_after
urgent_keeps t x l i p g h =
    kept_either t x l i g (urgent_after x i p) (λ w. refl) (urgent_answer x i p) (λ q. urged_kept t x l i p g (tested x i p q))
