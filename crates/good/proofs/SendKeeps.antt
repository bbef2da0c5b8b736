-- Send keeps a good node good: the payload's number waits last as data, and its cell has the payload's length. Also what a send that
-- passed made of the entry. Assumes nothing.
use Prim.Native.Nat.{ℕ, zero, suc, ◌+◌, ◌-◌, ◌≤◌, ◌<◌}
use mathlib.Core.Path.{◌≡◌, refl, sym, ap, subst, ◌∙◌}
use mathlib.Core.Logic.{◌≢◌}
use mathlib.Core.Bool.{true}
use mathlib.Core.List.{List, [], ◌∷◌, ◌++◌, Memᴰ}
use native.Mathlib.Decide.{dec_lt}
use native.Mathlib.Omega.{arith}
use lib.ListN.{length, get_or, set}
use lib.Seq.{sets, get_or-set_same, get_or-set_other}
use lib.Dec.{eqb, leb}
use borrow.Author.Tests.{not-false, eqb-false, leb-false, ltb-false, le-leb}
use Rattle.units.specs.Refusals.{pick}
use Rattle.units.specs.declared.refusals.Refusal.TheVariants as refusal
use Rattle.units.proofs.Judging.{clear}
use Rattle.memory.specs.Layout.{all_cells, cells_at, ids_end, under_at, datas, urgent_id, length_at, timer_at, retries_at}
use Rattle.waiting.specs.Queues.{appended}
use Rattle.waiting.specs.Port.{under_in}
use Rattle.window.specs.Windows.{Good as GoodWindow}
use Rattle.window.specs.declared.Window.{Window}
use Rattle.window.proofs.Sizes.{size_le}
use Rattle.end_points.specs.Ends.{end_of}
use Rattle.end_points.specs.Heads.{count_in, need_in}
use Rattle.end_points.specs.Lent.{Lent}
use Rattle.end_points.specs.declared.State.{State}
use Rattle.end_points.specs.declared.State.TheVariants.{Open}
use Rattle.end_points.specs.declared.Run.{Run}
use Rattle.end_points.specs.declared.EndPoint.{EndPoint}
use Rattle.slots.specs.Slots.{slot_for, cell, spot, past, length_in, timer_in}
use Rattle.call_send.specs.Sending.{send_tests, send_answer, next_number, sent_run, sent_book, sent, send_after}
use Rattle.timing.specs.Timing.{clock_in, quiet_in}
use Rattle.memory.specs.Layout.{Ranged}
use Rattle.good.specs.Good.{Lists, Lines, mine, id_at, ids, Share, Resends, Filled, Sending, OpenSender, Entered, Timely, Good}
use Rattle.good.proofs.Members.{mine_all, mine_append, mine_own}
use Rattle.good.proofs.Lined.{added, append_cells, append_under}
use Rattle.good.proofs.Known.{stated_as, entered_as}
use Rattle.good.proofs.Framing.{same_under, Within, within_then, within_append, within_set, entry_low, cell_low, length_owner, retries_owner, timely_as, timely_fewer}
use Rattle.good.proofs.Offsets.{id_high, id_owner, data_ranged, cell_inj, id_inj, ids_more, ids_in}
use Rattle.good.proofs.Turns.{run_fits, turned_to, sender_put, Kept, kept_either}
use Rattle.good.proofs.Asked.{Asked}
use Rattle.good.proofs.RunSets.{sent_puts, sent_end}
use Rattle.good.proofs.Senders.{resends_kept, standing_kept}
use Rattle.std.specs.Prelude.{Ok}
use Rattle.end_points.proofs.Telling.{is_open_holds}

-- ---- what waits

-- the number after the last one taken waits nowhere
pub next_waits : (t ws b : List ℕ) (l : Lists) → Good t ws b l → (i : ℕ) → i < count_in ws → OpenSender b l i (end_of ws i)
    → (end_of ws i).run.taken < (end_of ws i).run.window.size
    → (q : ℕ) → q < 4 → Memᴰ (id_at i (end_of ws i).run.window (end_of ws i).run.taken) (l q) → ⊥
unfolding Ranged
next_waits t ws b l g i li o room q hq m = queue q hq m
  where
    r : Run
    r = (end_of ws i).run

    good : GoodWindow r.window
    good = (g.entered i li).window

    x : ℕ
    x = id_at i r.window r.taken

    ours : (q : ℕ) → Memᴰ x (l q) → Memᴰ x (mine i (l q))
    ours q m = mine_all i x (l q) m (id_owner i (entry_low t ws b l g i li) r.window good r.taken)

    queue : (q : ℕ) → q < 4 → Memᴰ x (l q) → ⊥
    queue zero hq m = let k = (g.known 0 hq x m).1 in omega arith
    queue (suc zero) hq m = let k = (g.known 1 hq x m).1 in omega arith
    queue (suc (suc zero)) hq m =
        let p = o.resends.each x (ours 2 m) in
        let s = o.sending in
        let e = id_inj r.window good i r.taken p.at room (omega (arith, p.handed, s.handed)) p.is in
        omega (arith, p.handed, s.handed)
    queue (suc (suc (suc zero))) hq m =
        let p = ids_in i r.window r.handed (r.taken - r.handed) x (subst (Memᴰ x) o.share.datas (ours 3 m)) in
        let s = o.sending in
        let e = id_inj r.window good i r.taken p.at room (omega (arith, p.high, s.handed)) p.is in
        omega (arith, p.high, s.handed)
    queue (suc (suc (suc (suc q)))) hq m = absurd (omega arith)

-- ---- the book

-- the next payload of entry i has n bytes, and waits as data
module _ (b : List ℕ) (l : Lists) (L : Lines b l) (i : ℕ) (low : i < 16) (w : Window) (g : GoodWindow w) (taken n : ℕ)
    (none : (q : ℕ) → q < 4 → Memᴰ (id_at i w taken) (l q) → ⊥) where
  abbrev at : ℕ
  at = cell i w (past w taken)

  small : (s : ℕ) → cell i w s < all_cells
  small = cell_low i low w g

  abbrev sized : List ℕ
  sized = set b (length_at at) n

  abbrev stored : List ℕ
  stored = set sized (retries_at at) 0

  within_sized : Within i b sized l l
  within_sized = within_set i b l L (length_at at) n (omega arith) (length_owner i low w g (past w taken))

  within_stored : Within i b stored l l
  within_stored =
      within_then i b sized stored l l l within_sized
      (within_set i sized l within_sized.lines (retries_at at) 0 (omega arith) (retries_owner i low w g (past w taken)))

  high : 16 ≤ id_at i w taken
  high = omega arith

  below : id_at i w taken < ids_end
  below = id_high i low w g taken

  sent_within : Within i b (sent_book b at n) l (added l datas (id_at i w taken))
  unfolding sent_book
  sent_within =
      within_then i b stored (appended stored datas (id_at i w taken)) l l (added l datas (id_at i w taken)) within_stored
      (within_append i stored l within_stored.lines datas (id_at i w taken) (omega arith) high below none (id_owner i low w g taken) (data_ranged i low w g taken))

  sent_cells : (k : ℕ) → cells_at ≤ k → get_or (sent_book b at n) k 0 ≡ get_or stored k 0
  unfolding sent_book
  sent_cells k h = append_cells stored l within_stored.lines datas (id_at i w taken) (omega arith) high below none k h

  sent_under : under_in (sent_book b at n) ≡ under_in b
  unfolding sent_book
  sent_under =
      append_under stored l within_stored.lines datas (id_at i w taken) (omega arith) high below none
      ∙ get_or-set_other sized (retries_at at) under_at 0 0 (λ e. omega arith)
      ∙ get_or-set_other b (length_at at) under_at n 0 (λ e. omega arith)

  sent_here : length_in (sent_book b at n) at ≡ n
  sent_here =
      let h = small (past w taken) in
      sent_cells (length_at at) (omega arith)
      ∙ get_or-set_other sized (retries_at at) (length_at at) 0 0 (λ e. omega arith)
      ∙ get_or-set_same b (length_at at) n 0 (omega (arith, L.long))

  sent_there : (c : ℕ) → c < all_cells → c ≢ at → length_in (sent_book b at n) c ≡ length_in b c
  sent_there c h d =
      sent_cells (length_at c) (omega arith)
      ∙ get_or-set_other sized (retries_at at) (length_at c) 0 0 (λ e. omega arith)
      ∙ get_or-set_other b (length_at at) (length_at c) n 0 (λ e. d (omega arith))

  sent_timer : (c : ℕ) → c < all_cells → timer_in (sent_book b at n) c ≡ timer_in b c
  sent_timer c h =
      let a = small (past w taken) in
      sent_cells (timer_at c) (omega arith)
      ∙ get_or-set_other sized (retries_at at) (timer_at c) 0 0 (λ e. omega arith)
      ∙ get_or-set_other b (length_at at) (timer_at c) n 0 (λ e. omega arith)

-- ---- the entry

module _ (b : List ℕ) (l : Lists) (L : Lines b l) (i : ℕ) (low : i < 16) (e : EndPoint) (g : GoodWindow e.run.window) (o : OpenSender b l i e) (n : ℕ)
    (some : 1 ≤ n) (most : n ≤ e.entry.largest) (room : e.run.taken < e.run.window.size)
    (none : (q : ℕ) → q < 4 → Memᴰ (id_at i e.run.window e.run.taken) (l q) → ⊥) where
  abbrev w : Window
  w = e.run.window

  abbrev book : List ℕ
  book = sent_book b (cell i w (next_number e.run)) n

  abbrev lists : Lists
  lists = added l datas (id_at i w e.run.taken)

  timer : (k : ℕ) → timer_in book (cell i w (past w k)) ≡ timer_in b (cell i w (past w k))
  timer k = sent_timer b l L i low w g e.run.taken n none (cell i w (past w k)) (cell_low i low w g (past w k))

  others : (k : ℕ) → k < e.run.taken → length_in book (cell i w (past w k)) ≡ length_in b (cell i w (past w k))
  others k h =
      sent_there b l L i low w g e.run.taken n none (cell i w (past w k)) (cell_low i low w g (past w k))
      (λ c. let z = cell_inj w g i k e.run.taken (omega arith) room c in omega arith)

  filled : (k : ℕ) → k < e.run.taken + 1 → Filled book i w e.entry.largest k
  filled k h = sides (dec_lt k e.run.taken)
    where
      sides : Dec (k < e.run.taken) → Filled book i w e.entry.largest k
      sides (yes p) = let f = o.sending.filled k p in record { some = rw (others k p) f.some; most = rw (others k p) f.most }
      sides (no p) =
          let z : e.run.taken ≡ k = omega arith in
          let f = sent_here b l L i low w g e.run.taken n none in
          subst (Filled book i w e.entry.largest) z (record { some = rw f some; most = rw f most })

  sent_sending : Sending book i (sent_run e.run) e.entry.largest
  unfolding sent_run
  sent_sending =
      let s = o.sending in
      record {
        taken = omega arith;
        handed = omega (arith, s.handed);
        acked = s.acked;
        first = s.first;
        counted = omega (arith, s.counted);
        filled = filled;
        stopped = λ k h. timer k ∙ s.stopped k h;
        urgent = s.urgent;
      }

  sent_datas : mine i (l datas ++ (id_at i w e.run.taken ∷ [])) ≡ ids i w e.run.handed (e.run.taken + 1 - e.run.handed)
  sent_datas =
      let h = o.sending.handed in
      let x = id_at i w e.run.taken in
      let more : e.run.taken + 1 - e.run.handed ≡ suc (e.run.taken - e.run.handed) = omega arith in
      let last : e.run.handed + (e.run.taken - e.run.handed) ≡ e.run.taken = omega arith in
      mine_append i (l datas) (x ∷ [])
      ∙ rw (o.share.datas, mine_own i x (id_owner i low w g e.run.taken), more, ids_more i w e.run.handed (e.run.taken - e.run.handed), last)

  sent_share : Share lists i [] (pick (eqb e.run.urgent 0) [] (urgent_id i ∷ [])) (ids i w e.run.handed (e.run.taken + 1 - e.run.handed))
  sent_share = record { resets = o.share.resets; urgents = o.share.urgents; datas = sent_datas }

  under : under_in book ≡ under_in b
  under = sent_under b l L i low w g e.run.taken n none

  sent_resends : Resends book lists i (sent_run e.run)
  unfolding sent_run
  sent_resends =
      resends_kept b book l lists i e.run (sent_run e.run) refl refl timer refl o.resends

  sent_open : (s : State) → OpenSender book lists i (turned_to e s (sent_run e.run))
  unfolding sent_run
  sent_open s =
      record {
        sending = sent_sending;
        share = sent_share;
        resends = sent_resends;
        standing = standing_kept b book i e.run (sent_run e.run) refl refl timer under o.standing;
      }

-- ---- the call

-- no test of the call fits
record Tested (x : Lent) (i : ℕ) (p : List ℕ) : Type 0 where
  asked : Asked x i p
  counted : (end_of x.node i).run.accepted.0 ≢ 4294967295
  room : (end_of x.node i).run.taken < (end_of x.node i).run.window.size

tested : (x : Lent) (i : ℕ) (p : List ℕ) → send_answer x i p ≡ Ok tt → Tested x i p
unfolding send_answer
tested x i p h =
    let e = end_of x.node i in
    let c = clear ((leb (count_in x.node) i, refusal.NoEntry) ∷ send_tests e (length p) (length x.store) (need_in x.node)) h in
    let k = c.1 in
    record {
      asked = record {
        known = leb-false _ _ c.0;
        sends = not-false _ k.0;
        opened = is_open_holds _ (not-false _ k.1.0);
        some = (let z = eqb-false (length p) 0 k.1.1.0 in omega arith);
        most = ltb-false _ _ k.1.1.1.0;
        need = ltb-false _ _ k.1.1.1.1.1.1.0;
      };
      counted = eqb-false _ _ k.1.1.1.1.0;
      room = leb-false _ _ k.1.1.1.1.1.0;
    }

-- what a send that passed made of the entry
pub record SendPassed (x : Lent) (i : ℕ) (p : List ℕ) (e : EndPoint) (after : Lent) : Type 0 where
  pub asked : Asked x i p
  pub counted : e.run.accepted.0 ≢ 4294967295
  pub room : e.run.taken < e.run.window.size
  pub is : after ≡ sent x i e p
  pub end : end_of after.node i ≡ turned_to e Open (sent_run e.run)
  pub filled : length_in after.book (cell i e.run.window (next_number e.run)) ≡ length p
  pub others : (k : ℕ) → k < e.run.taken
      → length_in after.book (cell i e.run.window (past e.run.window k)) ≡ length_in x.book (cell i e.run.window (past e.run.window k))
  pub stored : after.store ≡ sets x.store (spot e.place e.entry.largest (slot_for e.run.window (next_number e.run))) p

sent_size : (r : Run) → (sent_run r).window ≡ r.window
unfolding sent_run
sent_size r = refl

after_passed : (x : Lent) (i : ℕ) (p : List ℕ) → send_answer x i p ≡ Ok tt → send_after x i p (send_answer x i p) ≡ sent x i (end_of x.node i) p
unfolding send_after
after_passed x i p h = rw h

module _ (t : List ℕ) (x : Lent) (l : Lists) (i : ℕ) (p : List ℕ) (g : Good t x.node x.book l) (d : Tested x i p) where
  abbrev e : EndPoint
  e = end_of x.node i

  low : i < 16
  low = entry_low t x.node x.book l g i d.asked.known

  window : GoodWindow e.run.window
  window = (g.entered i d.asked.known).window

  was : OpenSender x.book l i e
  was = stated_as x.book l i e (g.entered i d.asked.known) true d.asked.sends Open d.asked.opened

  none : (q : ℕ) → q < 4 → Memᴰ (id_at i e.run.window e.run.taken) (l q) → ⊥
  none = next_waits t x.node x.book l g i d.asked.known was d.room

  now : Entered (sent x i e p).book (added l datas (id_at i e.run.window e.run.taken)) i (turned_to e e.state (sent_run e.run))
  now =
      entered_as (sent x i e p).book (added l datas (id_at i e.run.window e.run.taken)) i (turned_to e e.state (sent_run e.run))
      (rw (sent_size e.run) window) true d.asked.sends Open d.asked.opened
      (sent_open x.book l g.lines i low e window was (length p) d.asked.some d.asked.most d.room none e.state)

  within : Within i x.book (sent x i e p).book l (added l datas (id_at i e.run.window e.run.taken))
  within = sent_within x.book l g.lines i low e.run.window window e.run.taken (length p) none

  few : e.run.taken < 255
  few = let s = size_le e.run.window.size window.sized in let r = d.room in omega arith

  low_count : e.run.accepted.0 < 4294967295
  low_count = let f = (run_fits x.node i).accepted in let c = d.counted in omega arith

  put_end : end_of (sent x i e p).node i ≡ turned_to e e.state (sent_run e.run)
  put_end = sent_end x.node i g.long low few low_count

  soon : Timely (clock_in x.node) (quiet_in (sent x i e p).node) (sent x i e p).book i (turned_to e e.state (sent_run e.run)) e.state
  unfolding sent_run
  soon =
      let a = (sent_puts x.node i g.long low).apart in
      timely_as (clock_in x.node) (quiet_in (sent x i e p).node) x.book (sent x i e p).book i e (turned_to e e.state (sent_run e.run))
      (same_under i x.book (sent x i e p).book (under x.book l g.lines i low e window was (length p) d.asked.some d.asked.most d.room none)) refl refl
      (timer x.book l g.lines i low e window was (length p) d.asked.some d.asked.most d.room none) e.state
      (timely_fewer (clock_in x.node) (quiet_in x.node) (quiet_in (sent x i e p).node) x.book i e e.state a.quiet (g.timely i d.asked.known))

  sent_kept : Kept t x (sent x i e p) l i
  sent_kept =
      record {
        lists = added l datas (id_at i e.run.window e.run.taken);
        good =
            let a = sent_puts x.node i g.long low in
            sender_put t x.node x.book l g i d.asked.known d.asked.sends (sent x i e p).node a.apart a.waits
            a.acks
            (sent x i e p).book (added l datas (id_at i e.run.window e.run.taken)) within
            (turned_to e e.state (sent_run e.run)) put_end now soon;
        apart = (sent_puts x.node i g.long low).apart;
        within = within;
        under = under x.book l g.lines i low e window was (length p) d.asked.some d.asked.most d.room none;
      }

  sent_passed : SendPassed x i p e (sent x i e p)
  sent_passed =
      record {
        asked = d.asked;
        counted = d.counted;
        room = d.room;
        is = refl;
        end = put_end
            ∙ ap (λ (s : State). turned_to e s (sent_run e.run)) d.asked.opened;
        filled = sent_here x.book l g.lines i low e.run.window window e.run.taken (length p) none;
        others = others x.book l g.lines i low e window was (length p) d.asked.some d.asked.most d.room none;
        stored = refl;
      }

pub send_passed : (t : List ℕ) (x : Lent) (l : Lists) (i : ℕ) (p : List ℕ) → Good t x.node x.book l → send_answer x i p ≡ Ok tt
    → SendPassed x i p (end_of x.node i) (send_after x i p (send_answer x i p))
send_passed t x l i p g h =
    subst (SendPassed x i p (end_of x.node i)) (sym (after_passed x i p h)) (sent_passed t x l i p g (tested x i p h))

-- An entry that there is not is refused, and nothing alters.
pub send_refused : (x : Lent) (i : ℕ) (p : List ℕ) → count_in x.node ≤ i → send_after x i p (send_answer x i p) ≡ x
unfolding send_answer send_after
send_refused x i p h = rw (le-leb (count_in x.node) i h)

-- Send keeps a good node good.
pub send_keeps : (t : List ℕ) (x : Lent) (l : Lists) (i : ℕ) (p : List ℕ) → Good t x.node x.book l → i < count_in x.node
    → Kept t x (send_after x i p (send_answer x i p)) l i
unfolding send_after
send_keeps t x l i p g h =
    kept_either t x l i g (send_after x i p) (λ w. refl) (send_answer x i p) (λ q. sent_kept t x l i p g (tested x i p q))
