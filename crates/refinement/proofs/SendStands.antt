-- Send and Urgent are the machine's: a payload is put into the store, and waits as the last of the data or the Urgents.
-- Assumes nothing.
use Prim.Native.Nat.{ℕ, ◌+◌, ◌≤◌, ◌<◌, zero, suc}
use mathlib.Core.Path.{◌≡◌, refl, sym, ap, ◌∙◌, subst}
use mathlib.Core.Logic.{◌≢◌}
use mathlib.Core.Bool.{true, false, Bool, not}
use mathlib.Core.List.Memᴰ
use mathlib.Core.List.{List, [], ◌∷◌, ◌++◌, Memᴰ}
use mathlib.Core.Option.{none, some}
use native.Mathlib.Numerals.{add-one}
use native.Mathlib.Omega.{arith}
use lib.ListN.{length, get_or, take, drop}
use lib.Dec.{eqb}
use borrow.Author.Tests.{le-ltb, ne_eqb, eq-eqb}
use Rattle.units.specs.Refusals.{verdict, pick, Verdict}
use Rattle.units.specs.declared.refusals.Refusal.{Refusal}
use Rattle.units.specs.declared.refusals.Refusal.TheVariants.{UrgentWaits}
use Rattle.memory.specs.Layout as layout
use Rattle.memory.specs.Layout.{cells_at, length_at, timer_at, retries_at, cell_id}
use Rattle.waiting.specs.Queues.{appended}
use Rattle.waiting.specs.Order.{acks_in}
use Rattle.window.specs.Windows.{Good as GoodWindow}
use Rattle.window.specs.declared.Window.{Window}
use Rattle.table.specs.Layout.{entry_of}
use Rattle.table.specs.Areas.{slots_of, store_of}
use Rattle.end_points.specs.Ends.{end_of}
use Rattle.end_points.specs.Heads.{count_in, need_in}
use Rattle.end_points.specs.Lent.{Lent}
use Rattle.end_points.specs.declared.State.{State}
use Rattle.end_points.specs.declared.State.TheVariants.{Open}
use Rattle.end_points.specs.declared.EndPoint.{EndPoint}
use Rattle.slots.specs.Slots.{slot_for, cell, past, timer_in, retries_in, spot}
use Rattle.call_hand_out.specs.Handing.{urgent_payload}
use Rattle.call_send.specs.Sending as memory
use Rattle.call_send.specs.Sending.{next_number, sent_run, sent_book, send_answer, send_after, urgent_run, urgent_answer, urgent_after}
use Rattle.memory.specs.Layout.{Ranged}
use Rattle.good.specs.Good.{Lists, OpenSender, Good}
use Rattle.good.specs.Calls.{Memory, lent, kept, answer, after}
use Rattle.machine.specs.Calls.{sends, urges}
use Rattle.good.proofs.Lined.{append_cells, append_lines}
use Rattle.good.proofs.Offsets.{cell_inj, slot_inj, urgent_owner}
use Rattle.good.proofs.Framing.{same_under, cell_low, slot_lt}
use Rattle.good.proofs.Turns.{turned_to, saved_acks}
use Rattle.good.proofs.RunSets.{sent_puts}
use Rattle.good.proofs.SendKeeps.{next_waits, SendPassed, send_passed, send_keeps}
use Rattle.good.proofs.Stores.{slot_low, urgent_low, slots_stay}
use Rattle.good.proofs.Payloads.{payload_apart, s_filled, put}
use Rattle.good.proofs.Members.{mine_all}
use Rattle.good.proofs.UrgentKeeps.{UrgentPassed, urgent_passed, urgent_keeps}
use Rattle.machine.specs.Machine.{number, End, datas, Machine, listed, taking, turned, waits, done, judged, send_tests}
use Rattle.machine.specs.Machine.{sending, step, sender_tests, urgents, urging, is_some, too_short, urgent_sending}
use Rattle.machine.specs.Machine as machine
use Rattle.refinement.specs.Standing.{read_at, payload_for, number_for, end_for, end_at, slot_item, stands_for, Stands, Follows}
use Rattle.machine.proofs.Listed.{length_listed, listed_ext}
use Rattle.refinement.proofs.Listing.{Put, put_both}
use Rattle.refinement.proofs.Elsewhere.{numbers_same, no_places, urgent_most, put_read, Leaves, leaves, end_at_holds, turned_stands}
use Rattle.refinement.proofs.Waiting.{waits_more, window_steady}
use Rattle.refinement.proofs.Following.{follows, open_for, low_at, stated_at, unheld, item_for, size_is}
use Rattle.std.specs.Prelude.{Ok}

module _ (t : List ℕ) (n : Memory) (l : Lists) (g : Good t n.node n.book l) (room : store_of t ≤ length n.store)
    (i : ℕ) (p : List ℕ) where
  abbrev M : Machine
  M = stands_for t n l

  abbrev e : EndPoint
  e = end_of n.node i

  abbrev E : End
  E = end_at n i

  abbrev w : Window
  w = e.run.window

  long : length E.numbers ≡ e.run.taken
  unfolding end_for
  long = length_listed e.run.taken (number_for (read_at n) n.store n.book i e)

  -- ---- send, where it went through

  module _ (li : i < count_in n.node) (h : send_answer (lent n []) i p ≡ Ok tt) where
    abbrev now : Memory
    now = kept (send_after (lent n []) i p (send_answer (lent n []) i p))

    abbrev at : ℕ
    at = cell i w (past w e.run.taken)

    abbrev slot : ℕ
    slot = slot_for w (next_number e.run)

    went : SendPassed (lent n []) i p e (send_after (lent n []) i p (send_answer (lent n []) i p))
    went = send_passed t (lent n []) l i p g h

    slot_fits : slot < slots_of (entry_of t i).kind (entry_of t i).window
    slot_fits = slot_low t n.node n.book l g i li (next_number e.run)

    left : Leaves t n now l i
    left = leaves (send_keeps t (lent n []) l i p g li) now.store (put slot p li slot_fits went.asked.most went.stored)

    low : i < 16
    low = low_at g li

    good : GoodWindow w
    good = (g.entered i li).window

    was : OpenSender n.book l i e
    was = stated_at g li true went.asked.sends Open went.asked.opened

    -- a length and the retries put, and one more that waits as data
    put_s : Put n.book (sent_book n.book at (length p)) l (length_at at) (length p) (retries_at at) 0 3 (cell_id at)
    unfolding sent_book
    put_s =
        let h = cell_low i low w good (past w e.run.taken) in
        put_both g.lines (length_at at) (length p) (retries_at at) 0 3 (cell_id at) (omega arith) (omega arith) (omega arith) (omega arith)
        (omega arith) (omega arith) (next_waits t n.node n.book l g i li was went.room)

    book : now.book ≡ sent_book n.book at (length p)
    book = ap (λ (x : Lent). x.book) went.is

    end : end_of now.node i ≡ turned_to e e.state (sent_run e.run)
    end = went.end ∙ ap (λ (s : State). turned_to e s (sent_run e.run)) (sym went.asked.opened)

    -- its numbers: the new one, and those before it

    new_payload : payload_for now.store now.book i e e.run.taken ≡ p
    new_payload = rw (went.filled, went.stored) (put_read n g room li slot p slot_fits went.asked.most)

    old_payload : (k : ℕ) → k < e.run.taken → payload_for now.store now.book i e k ≡ payload_for n.store n.book i e k
    old_payload k hk =
        rw went.stored
        (payload_apart t n l g i li room slot p slot_fits went.asked.most now.book k
        (s_filled t n.node n.book l g i li went.asked.sends k hk)
        (λ c. let z = slot_inj w good k e.run.taken (omega (arith, went.room)) went.room c in omega arith)
        (went.others k hk))

    new_number : number_for (read_at n) now.store now.book i e e.run.taken ≡ number p 0 false false 0
    new_number =
        rw (
          new_payload,
          ap (λ (b : List ℕ). retries_in b at) book ∙ put_s.second,
          le-ltb e.run.taken e.run.handed was.sending.handed,
          unheld was.sending e.run.taken was.sending.handed,
        )

    old_number : (k : ℕ) → k < e.run.taken → number_for (read_at n) now.store now.book i e k ≡ number_for (read_at n) n.store n.book i e k
    old_number k hk =
        let c = cell i w (past w k) in
        let hc = cell_low i low w good (past w k) in
        let ha = cell_low i low w good (past w e.run.taken) in
        let apart : c ≢ at = (λ z. let y = cell_inj w good i k e.run.taken (omega (arith, went.room)) went.room z in omega arith) in
        numbers_same (read_at n) n.store now.store n.book now.book i e (same_under i n.book now.book left.under).data! k (old_payload k hk)
        (ap (λ (b : List ℕ). retries_in b c) book ∙ put_s.others (retries_at c) (omega arith) (λ z. omega arith) (λ z. apart (omega arith)))
        (ap (λ (b : List ℕ). timer_in b c) book ∙ put_s.others (timer_at c) (omega arith) (λ z. omega arith) (λ z. omega arith))

    numbers : listed (e.run.taken + 1) (number_for (read_at n) now.store now.book i e)
        ≡ listed e.run.taken (number_for (read_at n) n.store n.book i e) ++ (number p 0 false false 0 ∷ [])
    unfolding listed
    numbers =
        rw (
          add-one e.run.taken,
          listed_ext e.run.taken (number_for (read_at n) now.store now.book i e) (number_for (read_at n) n.store n.book i e) old_number,
          new_number,
        )

    -- its Urgent lies in another slot
    urgent : urgent_payload now.store e ≡ urgent_payload n.store e
    urgent =
        rw went.stored
        (slots_stay t n.node n.book l g i i w.size slot e.run.urgent n.store p li li
        (urgent_low t n.node n.book l g i li went.asked.sends) slot_fits (urgent_most g li went.asked.sends) went.asked.most room
        refl (λ z. let y = slot_lt w (next_number e.run) good in omega arith))

    here : end_at now i ≡ taking p E
    unfolding end_for sent_run
    here =
        end_at_holds left end
        ∙ rw (went.asked.opened, numbers, no_places now.store now.book i e went.asked.sends, no_places n.store n.book i e went.asked.sends, urgent)

    -- what waits: one more, last of the data

    window_stays : (end_of now.node i).run.window ≡ w
    unfolding sent_run
    window_stays = ap (λ (x : EndPoint). x.run.window) end

    acks_stay : acks_in now.node ≡ acks_in n.node
    acks_stay = rw went.is (sent_puts n.node i g.long low).acks

    abbrev next : ℕ
    next = machine.past E (length E.numbers)

    new_item : slot_item now.node (cell_id at) ≡ record { entry = i; number = next }
    unfolding end_for
    new_item = item_for now.node i low w window_stays good e.run.taken went.room ∙ rw long

    sent_stands : Stands t now (waits datas i next (turned i (taking p E) M))
    sent_stands =
        turned_stands g room li left here
        (waits_more left (window_steady window_stays) acks_stay datas 3 refl book (cell_id at ∷ [])
        put_s.lines (rw new_item))

  -- ---- send, the call

  -- the tests are the same: the window in force, how many numbers are taken, the store that is needed
  same : i < count_in n.node → verdict (send_tests M E p) ≡ verdict (memory.send_tests e (length p) (length n.store) (need_in n.node))
  unfolding end_for
  same li = rw (open_for (read_at n) n.store n.book i e e.state, long, size_is g li, g.tabled.need)

  abbrev then : Machine
  then = waits datas i (machine.past E (length E.numbers)) (turned i (taking p E) M)

  pub send_follows : Follows t n M (sends i p)
  unfolding answer after step sending send_answer send_after
  send_follows =
      follows g room i (memory.send_tests e (length p) (length n.store) (need_in n.node)) (done then) _ refl
      (λ li. ap (λ (v : Verdict). judged v [] M (done then)) (same li)) (λ w h. (rw h, rw h)) (λ li h. (rw h, sent_stands li h))

  -- ---- Urgent, where it went through

  module _ (li : i < count_in n.node) (h : urgent_answer (lent n []) i p ≡ Ok tt) where
    abbrev now_u : Memory
    now_u = kept (urgent_after (lent n []) i p (urgent_answer (lent n []) i p))

    abbrev id : ℕ
    id = layout.urgent_id i

    went_u : UrgentPassed (lent n []) i p e (urgent_after (lent n []) i p (urgent_answer (lent n []) i p))
    went_u = urgent_passed t (lent n []) l i p g h

    last_fits : w.size < slots_of (entry_of t i).kind (entry_of t i).window
    last_fits = urgent_low t n.node n.book l g i li went_u.asked.sends

    left_u : Leaves t n now_u l i
    left_u = leaves (urgent_keeps t (lent n []) l i p g li) now_u.store (put w.size p li last_fits went_u.asked.most went_u.stored)

    low_u : i < 16
    low_u = low_at g li

    was_u : OpenSender n.book l i e
    was_u = stated_at g li true went_u.asked.sends Open went_u.asked.opened

    book_u : now_u.book ≡ appended n.book layout.urgents id
    book_u = ap (λ (x : Lent). x.book) went_u.is

    end_u : end_of now_u.node i ≡ turned_to e e.state (urgent_run e.run (length p))
    end_u = went_u.end ∙ ap (λ (s : State). turned_to e s (urgent_run e.run (length p))) (sym went_u.asked.opened)

    -- it waited nowhere
    none_waits_u : (q : ℕ) → q < 4 → Memᴰ id (l q) → ⊥
    unfolding Ranged
    none_waits_u zero hq m = let k = (g.known 0 hq id m).1 in omega arith
    none_waits_u (suc zero) hq m =
        Memᴰ.not-nil (subst (λ (ys : List ℕ). Memᴰ id ys) (was_u.share.urgents ∙ rw (eq-eqb e.run.urgent 0 went_u.waits))
        (mine_all i id (l 1) m (urgent_owner i low_u)))
    none_waits_u (suc (suc q)) hq m = let k = (g.known (suc (suc q)) hq id m).1 in omega arith

    cells_u : (k : ℕ) → cells_at ≤ k → get_or now_u.book k 0 ≡ get_or n.book k 0
    cells_u k hk =
        ap (λ (b : List ℕ). get_or b k 0) book_u
        ∙ append_cells n.book l g.lines layout.urgents id (omega arith) (omega arith) (omega arith) none_waits_u k hk

    payload_u : (k : ℕ) → k < e.run.taken → payload_for now_u.store now_u.book i e k ≡ payload_for n.store n.book i e k
    payload_u k hk =
        rw went_u.stored
        (payload_apart t n l g i li room w.size p last_fits went_u.asked.most now_u.book k
        (s_filled t n.node n.book l g i li went_u.asked.sends k hk)
        (λ z. let y = slot_lt w (past w k) (g.entered i li).window in omega arith)
        (cells_u (length_at (cell i w (past w k))) (omega arith)))

    numbers_u : (k : ℕ) → k < e.run.taken → number_for (read_at n) now_u.store now_u.book i e k ≡ number_for (read_at n) n.store n.book i e k
    numbers_u k hk =
        let c = cell i w (past w k) in
        numbers_same (read_at n) n.store now_u.store n.book now_u.book i e (same_under i n.book now_u.book left_u.under).data! k (payload_u k hk)
        (cells_u (retries_at c) (omega arith)) (cells_u (timer_at c) (omega arith))

    urgent_new : take (length p) (drop (spot e.place e.entry.largest w.size) now_u.store) ≡ p
    urgent_new = rw went_u.stored (put_read n g room li w.size p last_fits went_u.asked.most)

    here_u : end_at now_u i ≡ urging (some p) E
    unfolding end_for urgent_run
    here_u =
        end_at_holds left_u end_u
        ∙ rw (
          went_u.asked.opened,
          listed_ext e.run.taken (number_for (read_at n) now_u.store now_u.book i e) (number_for (read_at n) n.store n.book i e) numbers_u,
          no_places now_u.store now_u.book i e went_u.asked.sends,
          no_places n.store n.book i e went_u.asked.sends,
          ne_eqb (length p) 0 (λ z. omega (arith, went_u.asked.some)),
          urgent_new,
        )

    -- what waits: one more, last of the Urgents

    window_stays_u : (end_of now_u.node i).run.window ≡ w
    unfolding urgent_run
    window_stays_u = ap (λ (x : EndPoint). x.run.window) end_u

    acks_stay_u : acks_in now_u.node ≡ acks_in n.node
    acks_stay_u = rw went_u.is (saved_acks n.node i e.state (urgent_run e.run (length p))).1

    urged_stands : Stands t now_u (waits urgents i 0 (turned i (urging (some p) E) M))
    urged_stands =
        turned_stands g room li left_u here_u
        (waits_more left_u (window_steady window_stays_u) acks_stay_u urgents 1 refl book_u (id ∷ [])
        (append_lines n.book l g.lines layout.urgents id (omega arith) (omega arith) (omega arith) none_waits_u)
        (rw (urgent_owner i low_u)))

  -- ---- Urgent, the call

  abbrev asks : End → List (Bool × Refusal)
  asks e = sender_tests e p ++ (is_some e.urgent, UrgentWaits) ∷ too_short M ∷ []

  -- the tests are the same: an Urgent waits, and the store that is needed
  same_u : verdict (asks E) ≡ verdict (memory.urgent_tests e (length p) (length n.store) (need_in n.node))
  unfolding end_for
  same_u = rw (open_for (read_at n) n.store n.book i e e.state, waits_is (eqb e.run.urgent 0), g.tabled.need)
    where
      waits_is : (b : Bool) → is_some (pick b none (some (urgent_payload n.store e))) ≡ not b
      waits_is true = refl
      waits_is false = refl

  pub urgent_follows : Follows t n M (urges i p)
  unfolding answer after step urgent_sending urgent_answer urgent_after
  urgent_follows =
      follows g room i (memory.urgent_tests e (length p) (length n.store) (need_in n.node))
      (done (waits urgents i 0 (turned i (urging (some p) E) M))) _ refl
      (λ li. ap (λ (v : Verdict). judged v [] M (done (waits urgents i 0 (turned i (urging (some p) E) M)))) same_u)
      (λ w h. (rw h, rw h)) (λ li h. (rw h, urged_stands li h))
