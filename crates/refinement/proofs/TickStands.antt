-- A tick of one entry, in any state, is the machine's. Assumes nothing.
use Prim.Native.Nat.{ℕ, zero, suc, ◌+◌, ◌≤◌, ◌<◌, ◌-◌}
use mathlib.Core.Path.{◌≡◌, refl, sym, ap, ◌∙◌, fun_ext, subst}
use mathlib.Core.Logic.{◌≢◌}
use mathlib.Core.Bool.{Bool, true, false, not, ◌&&◌}
use mathlib.Core.List.{List, [], ◌∷◌, ◌++◌, append_assoc, map, map-append}
use native.Mathlib.Omega.{arith}
use lib.ListN.{length}
use lib.Dec.{eqb}
use borrow.Author.Tests.{le-ltb, eq-eqb, eqb-true, eqb-false}
use Rattle.units.specs.Refusals.{pick}
use Rattle.memory.specs.Layout as layout
use Rattle.memory.specs.Layout.{reset_id}
use Rattle.waiting.specs.Queues.{appended}
use Rattle.waiting.specs.Order.{acks_in}
use Rattle.waiting.specs.Port.{under_in, is_reset, data_out}
use Rattle.window.specs.Windows.{Good as GoodWindow}
use Rattle.window.specs.declared.Window.{Window}
use Rattle.table.specs.Areas.{store_of}
use Rattle.end_points.specs.Ends.{end_of, saved}
use Rattle.end_points.specs.Heads.{count_in}
use Rattle.end_points.specs.States.{is_sends}
use Rattle.end_points.specs.Runs.{urgent_gone}
use Rattle.end_points.specs.Lent.{Lent}
use Rattle.end_points.specs.declared.State.TheVariants.{Open, Failing, Closed, Enabled}
use Rattle.end_points.specs.declared.EndPoint.{EndPoint}
use Rattle.end_points.specs.declared.Run.{Run}
use Rattle.end_points.specs.declared.State.{State}
use Rattle.slots.specs.Slots.{cell, past, timer_in}
use Rattle.call_tick.specs.Ticking as memory
use Rattle.timing.specs.Timing.{clock_in, quiet_in, later, left_of}
use Rattle.timing.proofs.Falling.{left_zero, left_one, left_ticks}
use Rattle.call_tick.specs.Ticking.{Ticked, Scanned, tick_state, tick_entry, tick_slots}
use Rattle.good.specs.Good as good
use Rattle.good.specs.Good.{Lists, OpenSender, FailingSender, Good, mine, id_at, Silent, Timely}
use Rattle.good.proofs.Timely.{outlasts_number}
use Rattle.good.specs.Calls.{Memory, bare, kept_bare}
use Rattle.good.proofs.Members.{rest_all}
use Rattle.good.proofs.Known.{silent_nil}
use Rattle.good.proofs.Turns.{turned_to, end_saved, run_fits, gone_fits, saved_acks}
use Rattle.good.proofs.Senders.{running_le}
use Rattle.good.proofs.TickSlots.{Lives, Slots, slots_all}
use Rattle.good.proofs.TickEntry.{tick_entry_keeps}
use Rattle.good.proofs.Payloads.{unaltered}
use Rattle.machine.specs.Machine as machine
use Rattle.machine.specs.Machine.{Number, End, Item, Sort, resends, Machine, listed, stated, numbered, rank}
use Rattle.machine.specs.Machine.{only, waiting_as, turned, waits, silent, ticked_all, any_spent, again_from}
use Rattle.machine.specs.Machine.{failing, ticked, node, resets}
use Rattle.machine.proofs.Timers.{append_none}
use Rattle.refinement.specs.Standing.{Reading, number_for, state_for, end_for, slot_item}
use Rattle.machine.proofs.Listed.{length_listed}
use Rattle.refinement.proofs.Listing.{beyond}
use Rattle.refinement.proofs.Elsewhere.{no_places, Leaves, leaves, none_taken}
use Rattle.refinement.proofs.Readings.{Readings, end_with, stands_with, StandsWith, same_with, turned_with, silent_with}
use Rattle.refinement.proofs.Waiting.{window_steady, silent_steady, waits_same, waits_more, waits_still}
use Rattle.refinement.proofs.Waiting.{waits_reset, sender_acks}
use Rattle.refinement.proofs.Following.{low_at, stated_at, stated_then, item_at}
use Rattle.refinement.proofs.TickNumbers.{Come, flag, flag_spent, on_beyond, numbers_fall, come, again}

-- ---- those tried again, in the machine

abbrev try_again : List Item → Machine → Machine
try_again ys = waiting_as (only resends (λ xs. xs ++ ys))

pub again_snoc : (i : ℕ) (e : End) (k : ℕ) (xs : List Number) (x : Number) (m : Machine)
    → again_from i e k (xs ++ (x ∷ [])) m
    ≡ (let m' = again_from i e k xs m in pick (eqb x.timer 1) (waits resends i (machine.past e (k + length xs)) m') m')
unfolding again_from
again_snoc i e k [] x m = let z : k + 0 ≡ k = omega arith in rw z
again_snoc i e k (y ∷ ys) x m =
    let z : suc k + length ys ≡ k + suc (length ys) = omega arith in
    again_snoc i e (suc k) ys x (pick (eqb y.timer 1) (waits resends i (machine.past e k) m) m) ∙ rw z

-- none; and one more after ys
again_none : (m : Machine) → m ≡ try_again [] m
again_none m =
    ap (λ (f : Sort → List Item). node m m.ends f) (fun_ext (λ q. append_none (m.waiting q) (eqb (rank q) 3)))

again_more : (i s : ℕ) (ys : List Item) (m : Machine)
    → waits resends i s (try_again ys m) ≡ try_again (ys ++ (record { entry = i; number = s } ∷ [])) m
again_more i s ys m = ap (λ (f : Sort → List Item). node m m.ends f) (fun_ext (λ q. both (m.waiting q) (eqb (rank q) 3)))
  where
    x : List Item
    x = record { entry = i; number = s } ∷ []

    both : (xs : List Item) (z : Bool) → pick z (pick z (xs ++ ys) xs ++ x) (pick z (xs ++ ys) xs) ≡ pick z (xs ++ (ys ++ x)) xs
    both xs true = append_assoc xs ys x
    both xs false = refl

-- ---- an entry

pub none_listed : (f g : ℕ → Number) (k : ℕ) → k ≡ 0 → listed k f ≡ listed k g
unfolding listed
none_listed f g k z = rw z

module _ (t : List ℕ) (n : Memory) (l : Lists) (g : Good t n.node n.book l) (room : store_of t ≤ length n.store)
    (idle : quiet_in n.node ≡ 0) (i : ℕ) (li : i < count_in n.node) (c : ℕ) (clock : c ≤ 65535) (m₀ : ℕ) (R R' : Readings)
    (old : R i ≡ left_of c) (new : R' i ≡ left_of (later c 1)) (read : (j : ℕ) → j ≢ i → R' j ≡ R j) where
  abbrev M : Machine
  M = stands_with R t n l

  abbrev now : ℕ
  now = later c 1

  abbrev L₀ : Reading
  L₀ = left_of c

  abbrev L₁ : Reading
  L₁ = left_of now

  abbrev e : EndPoint
  e = end_of n.node i

  abbrev E : End
  E = end_for L₀ n.store n.book i e

  abbrev R₀ : ℕ
  R₀ = e.entry.retries

  -- its Reset is under way
  abbrev out : Bool
  out = is_reset (under_in n.book) i

  abbrev x : Scanned
  x = record { lent = bare n; least = m₀ }

  abbrev y : Lent
  y = (tick_entry now i x).lent

  left : Leaves t n (kept_bare n y) l i
  left = leaves (tick_entry_keeps t now x l g i li idle).kept n.store (unaltered refl)

  y_at : (st : State) → e.state ≡ st → y ≡ (tick_state now x i e st).lent
  unfolding tick_entry
  y_at st q = ap (λ (s : State). (tick_state now x i e s).lent) q

  timely : (st : State) → e.state ≡ st → Timely (clock_in n.node) (quiet_in n.node) n.book i e st
  timely st q = subst (Timely (clock_in n.node) (quiet_in n.node) n.book i e) q (g.timely i li)

  -- the entry, read anew
  anew_is : {E' : End} → end_for L₁ n.store y.book i (end_of y.node i) ≡ E' → end_with R' (kept_bare n y) i ≡ E'
  anew_is h = ap (λ (L : Reading). end_for L n.store y.book i (end_of y.node i)) new ∙ h

  E-old : end_with R n i ≡ E
  E-old = ap (λ (L : Reading). end_for L n.store n.book i e) old

  -- the memory stays as it is, and so does what waits
  stays_as : {E' : End} → y ≡ bare n → end_for L₁ n.store n.book i e ≡ E' → StandsWith R' t (kept_bare n y) (turned i E' M)
  stays_as {E'} z h =
      turned_with g room li read left
      (anew_is (ap (λ (z : Lent). end_for L₁ n.store z.book i (end_of z.node i)) z ∙ h))
      (waits_still left (window_steady (ap (λ (z : Lent). (end_of z.node i).run.window) z)) (ap (λ (z : Lent). acks_in z.node) z)
      (ap (λ (z : Lent). z.book) z) g.lines)

  stays : y ≡ bare n → end_for L₁ n.store n.book i e ≡ E → StandsWith R' t (kept_bare n y) M
  stays z h = subst (StandsWith R' t (kept_bare n y)) (sym (same_with R n g li E-old)) (stays_as z h)

  -- no numbers, and a state that reads the same
  reads_same : state_for L₁ out E.numbers e.state ≡ state_for L₀ out E.numbers e.state → e.run.taken ≡ 0
      → end_for L₁ n.store n.book i e ≡ E
  unfolding end_for
  reads_same s z =
      rw (none_listed (number_for L₁ n.store n.book i e) (number_for L₀ n.store n.book i e) e.run.taken z, s)

  -- ---- a sender

  module _ (kind : is_sends e.entry.kind ≡ true) where
    abbrev w : Window
    w = e.run.window

    abbrev N : ℕ → Number
    N = number_for L₀ n.store n.book i e

    low : i < 16
    low = low_at g li

    window : GoodWindow w
    window = (g.entered i li).window

    -- ---- Enabled, the timer running

    module _ (d : ℕ) (sent : Bool) (q : e.state ≡ Enabled d sent) (runs : eqb d 0 ≡ false) (free : out ≡ false) where
      abbrev falls : State
      falls = Enabled (L₀ d - 1) sent

      number : d ≤ 65535
      number = outlasts_number _ _ d (timely (Enabled d sent) q free)

      y_is : (a : Bool) → eqb d now ≡ a
          → y ≡ pick a (memory.both (bare n) (saved n.node i (Enabled 0 sent) e.run) (appended n.book layout.resets (reset_id i))) (bare n)
      unfolding tick_state
      y_is true z = y_at (Enabled d sent) q ∙ rw (runs, free, z)
      y_is false z = y_at (Enabled d sent) q ∙ rw (runs, free, z)

      quiet : Silent l i []
      quiet = rw runs at (stated_at g li true kind (Enabled d sent) q).silent

      no_numbers : e.run.taken ≡ 0
      no_numbers = (stated_at g li true kind (Enabled d sent) q).fresh.taken

      falls_end : (b' : List ℕ) → under_in b' ≡ under_in n.book → (v : ℕ) → L₁ v ≡ L₀ d - 1
          → end_for L₁ n.store b' i (turned_to e (Enabled v sent) e.run) ≡ stated falls E
      unfolding end_for
      falls_end b' under v z =
          rw (
            under,
            free,
            z,
            none_listed (number_for L₁ n.store b' i (turned_to e (Enabled v sent) e.run)) (number_for L₀ n.store n.book i e) e.run.taken no_numbers,
            no_places n.store b' i (turned_to e (Enabled v sent) e.run) kind,
            ← no_places n.store n.book i e kind,
          )

      falls_stands : (a : Bool) → eqb d now ≡ a
          → StandsWith R' t (kept_bare n y) (pick a (waits resets i 0 (turned i (stated falls E) M)) (turned i (stated falls E) M))
      falls_stands true z =
          let p = y_is true z in
          let w : List ℕ = saved n.node i (Enabled 0 sent) e.run in
          let end : end_of y.node i ≡ turned_to e (Enabled 0 sent) e.run =
          ap (λ (z : Lent). end_of z.node i) p
          ∙ end_saved n.node i (Enabled 0 sent) e.run g.long low (omega arith) (run_fits n.node i) refl in
          let due : L₁ 0 ≡ L₀ d - 1 = ap (λ (a : Bool). L₁ (pick a 0 d)) (sym z) ∙ left_ticks c d clock number in
          turned_with g room li read left
          (anew_is (ap (end_for L₁ n.store y.book i) end ∙ falls_end y.book left.under 0 due))
          (waits_reset left g.lines low quiet
          (ap (λ (z : Lent). acks_in z.node) p ∙ (saved_acks n.node i (Enabled 0 sent) e.run).1) (ap (λ (z : Lent). z.book) p))
      falls_stands false z =
          let on : L₁ d ≡ L₀ d - 1 = ap (λ (a : Bool). L₁ (pick a 0 d)) (sym z) ∙ left_ticks c d clock number in
          let same : e ≡ turned_to e (Enabled d sent) e.run = ap (λ (s : State). turned_to e s e.run) q in
          stays_as (y_is false z) (ap (end_for L₁ n.store n.book i) same ∙ falls_end n.book refl d on)

    -- words of the round
    abbrev Round : Type 0
    Round = (k : ℕ) → k < e.run.handed → past w k ≢ data_out n.book i → timer_in n.book (cell i w (past w k)) ≤ 65535

    abbrev failed : ℕ → EndPoint
    failed m = turned_to e (Failing m) (urgent_gone e.run)

    -- as far as the timers have come, from an end that is Failing or not
    module _ (f : Bool) (lives : Lives f n.book l i e) (S : good.Sending n.book i e.run e.entry.largest)
        (round : Round) where
      abbrev T : Ticked
      T = memory.ticked now i e f n.book m₀

      abbrev ns : List Number
      ns = ticked_all R₀ (not f) E.numbers

      wide : e.run.handed ≤ w.size
      wide = omega (arith, S.handed, S.taken)

      C : Come n.store n.book l g.lines i low e window f lives wide c clock m₀ round e.run.handed T
      C = come n.store n.book l g.lines i low e window f lives wide c clock m₀ round e.run.handed (omega arith)

      slots : Slots i low e window n.book l e.run.handed T
      slots = slots_all i low e window now n.book l g.lines f m₀ lives

      goes_on : flag R₀ (not f) (listed e.run.handed N) ≡ (not f && not (any_spent R₀ E.numbers))
      unfolding end_for
      goes_on =
          sym (on_beyond n.store n.book l g.lines i low e window f lives wide c clock m₀ round e.run.taken S.handed)
          ∙ flag_spent R₀ (not f) E.numbers

      numbers_at : (s : State) (r : Run) → r.window ≡ w → r.handed ≡ e.run.handed
          → listed e.run.taken (number_for L₁ n.store T.book i (turned_to e s r)) ≡ ns
      unfolding end_for
      numbers_at s r p q = numbers_fall n.store n.book l g.lines i low e window f lives wide c clock m₀ round s r p q S.taken

      running_fits : T.running < 65536
      running_fits =
          let z = running_le T.book i w e.run.handed in let c = slots.count in let r = (run_fits n.node i).handed in omega arith

      -- the entry is Failing then
      module _ (book_is : y.book ≡ T.book) (end_is : end_of y.node i ≡ failed T.running) where
        gone : (q : ℕ) → q < 4 → mine i (left.lists q) ≡ []
        gone = silent_nil left.lists i (stated_then left li true kind (Failing T.running) end_is).silent

        E-failed : end_with R' (kept_bare n y) i ≡ failing ns E
        unfolding end_for urgent_gone
        E-failed =
            anew_is (ap (end_for L₁ n.store y.book i) end_is
            ∙ ap (λ (b : List ℕ). end_for L₁ n.store b i (failed T.running)) book_is
            ∙ rw (
              numbers_at (Failing T.running) (urgent_gone e.run) refl refl,
              no_places n.store T.book i (failed T.running) kind,
              ← no_places n.store n.book i e kind,
            ))

    -- ---- Failing before

    module _ (m : ℕ) (q : e.state ≡ Failing m) where
      F : FailingSender n.book l i e m
      F = stated_at g li true kind (Failing m) q

      abbrev T-f : Ticked
      T-f = memory.ticked now i e true n.book m₀

      round_f : Round
      round_f k h u = outlasts_number _ _ _ ((timely (Failing m) q).0 k h u)

      y_f : y ≡ (memory.tick_failing x i e T-f).lent
      unfolding tick_state
      y_f = y_at (Failing m) q

      end_f : end_of y.node i ≡ failed T-f.running
      unfolding urgent_gone
      end_f =
          ap (λ (y : Lent). end_of y.node i) y_f
          ∙ end_saved n.node i (Failing T-f.running) e.run g.long low
          (running_fits true (F.sending, F.silent, F.standing) F.sending round_f) (run_fits n.node i) refl
          ∙ ap (λ (u : ℕ). turned_to e (Failing T-f.running) (urged u)) F.urgent
        where
          urged : ℕ → Run
          urged u =
              let r = e.run in
              record { window = w; taken = r.taken; handed = r.handed; accepted = r.accepted; confirmed = r.confirmed; urgent = u }

      book_f : y.book ≡ T-f.book
      book_f = ap (λ (y : Lent). y.book) y_f

      -- nothing of it waited, and nothing does
      lists_f : (r : ℕ) → r < 4 → left.lists r ≡ l r
      lists_f r h =
          sym (rest_all i (left.lists r) (gone true (F.sending, F.silent, F.standing) F.sending round_f book_f end_f r h))
          ∙ left.within.order r h ∙ rest_all i (l r) (silent_nil l i F.silent r h)

      failing_stands : StandsWith R' t (kept_bare n y) (turned i (failing (ticked_all R₀ false E.numbers) E) M)
      failing_stands =
          turned_with g room li read left
          (E-failed true (F.sending, F.silent, F.standing) F.sending round_f book_f end_f)
          (waits_same left.apart (silent_steady F.silent)
          (ap (λ (y : Lent). acks_in y.node) y_f ∙ (saved_acks n.node i (Failing T-f.running) e.run).1) lists_f)

    -- ---- Open before

    module _ (q : e.state ≡ Open) where
      O : OpenSender n.book l i e
      O = stated_at g li true kind Open q

      abbrev T-o : Ticked
      T-o = memory.ticked now i e false n.book m₀

      round_o : Round
      round_o k h u = outlasts_number _ _ _ (timely Open q k h u)

      abbrev ns_o : List Number
      ns_o = ticked_all R₀ true E.numbers

      y_o : y ≡ (memory.tick_open x i e T-o).lent
      unfolding tick_state
      y_o = y_at Open q

      book_o : y.book ≡ T-o.book
      book_o = ap (λ (y : Lent). y.book) y_o

      fails_o : T-o.failing ≡ not (true && not (any_spent R₀ E.numbers))
      fails_o = (C false O O.sending round_o).failing ∙ ap not (goes_on false O O.sending round_o)

      node_o : (z : Bool) → T-o.failing ≡ z → y.node ≡ pick z (saved n.node i (Failing T-o.running) (urgent_gone e.run)) n.node
      node_o z h = ap (λ (y : Lent). y.node) y_o ∙ rw h

      -- one is spent
      module _ (spent : any_spent R₀ E.numbers ≡ true) where
        saved_o : y.node ≡ saved n.node i (Failing T-o.running) (urgent_gone e.run)
        saved_o = node_o true (fails_o ∙ rw spent)

        end_o : end_of y.node i ≡ failed T-o.running
        unfolding urgent_gone
        end_o =
            ap (λ (ws : List ℕ). end_of ws i) saved_o
            ∙ end_saved n.node i (Failing T-o.running) (urgent_gone e.run) g.long low
            (running_fits false O O.sending round_o) (gone_fits e.run (run_fits n.node i)) refl

        failed_stands : StandsWith R' t (kept_bare n y) (silent i (turned i (failing ns_o E) M))
        failed_stands =
            silent_with g room li read left (gone false O O.sending round_o book_o end_o)
            (ap acks_in saved_o ∙ (saved_acks n.node i (Failing T-o.running) (urgent_gone e.run)).1 ∙ sym (sender_acks g i kind))
            (E-failed false O O.sending round_o book_o end_o)

      -- none is spent: those due wait again
      module _ (none_spent : any_spent R₀ E.numbers ≡ false) where
        node_n : y.node ≡ n.node
        node_n = node_o false (fails_o ∙ rw none_spent)

        abbrev tried : ℕ → List ℕ
        tried k = again n.store n.book l g.lines i low e window false O (wide false O O.sending round_o) c clock m₀ round_o k

        -- in the machine the same, of those handed out
        tried_is : (m : Machine) (k : ℕ) → k ≤ e.run.handed
            → again_from i E 0 (listed k N) m ≡ try_again (map (slot_item n.node) (tried k)) m
        unfolding again listed again_from end_for
        tried_is m zero h = again_none m
        tried_is m (suc k) h =
            again_snoc i E 0 (listed k N) (N k) m
            ∙ rw (length_listed k N, tried_is m k (omega arith)) (sides (eqb (N k).timer 1))
          where
            item : slot_item n.node (id_at i w k) ≡ record { entry = i; number = machine.past E (0 + k) }
            item = let z : 0 + k ≡ k = omega arith in item_at n.node i low window k (omega (arith, wide false O O.sending round_o)) ∙ rw z

            m' : Machine
            m' = try_again (map (slot_item n.node) (tried k)) m

            sides : (a : Bool) → pick a (waits resends i (machine.past E (0 + k)) m') m'
                ≡ try_again (map (slot_item n.node) (pick a (tried k ++ (id_at i w k ∷ [])) (tried k))) m
            sides true = again_more i (machine.past E (0 + k)) (map (slot_item n.node) (tried k)) m
                ∙ sym (rw (map-append (slot_item n.node) (tried k) (id_at i w k ∷ []), item))
            sides false = refl

        -- of the others no timer runs
        again_is : (m : Machine) → again_from i E 0 E.numbers m ≡ try_again (map (slot_item y.node) (tried e.run.handed)) m
        unfolding end_for listed
        again_is m =
            beyond (λ k. again_from i E 0 (listed k N) m) e.run.handed
            (λ k h. again_snoc i E 0 (listed k N) (N k) m ∙ rw (le-ltb k e.run.handed h)) e.run.taken O.sending.handed
            ∙ rw node_n (tried_is m e.run.handed (omega arith))

        state_n : state_for L₁ (is_reset (under_in T-o.book) i) ns_o e.state ≡ state_for L₀ out E.numbers e.state
        state_n = rw q

        E-n : end_with R' (kept_bare n y) i ≡ numbered E.start ns_o E
        unfolding end_for
        E-n =
            anew_is (ap (λ (ws : List ℕ). end_for L₁ n.store y.book i (end_of ws i)) node_n ∙ ap (λ (b : List ℕ). end_for L₁ n.store b i e) book_o
            ∙ rw (
              numbers_at false O O.sending round_o e.state e.run refl refl,
              state_n,
              no_places n.store T-o.book i e kind,
              ← no_places n.store n.book i e kind,
            ))

        open_stands : StandsWith R' t (kept_bare n y) (again_from i E 0 E.numbers (turned i (numbered E.start ns_o E) M))
        open_stands =
            rw (again_is (turned i (numbered E.start ns_o E) M))
            (turned_with g room li read left E-n
            (waits_more left (window_steady (ap (λ (ws : List ℕ). (end_of ws i).run.window) node_n)) (ap acks_in node_n) resends 2 refl book_o
            (tried e.run.handed) ((C false O O.sending round_o).queued (goes_on false O O.sending round_o ∙ rw none_spent)) refl))

  -- ---- a receiver that is Open: it has no numbers

  none_here : is_sends e.entry.kind ≡ false → E.numbers ≡ []
  unfolding end_for listed
  none_here s = ap (λ (k : ℕ). listed k (number_for L₀ n.store n.book i e)) (none_taken g li s)

  receiver_same : is_sends e.entry.kind ≡ false → e.state ≡ Open → y ≡ bare n
  unfolding tick_state tick_slots
  receiver_same s q =
      y_at Open q
      ∙ ap (λ (k : ℕ). (memory.tick_open x i e (tick_slots now i e (data_out n.book i) k (record { book = n.book; failing = false; running = 0; least = m₀ }))).lent)
      (stated_at g li false s Open q).receiving.handed

  abbrev openly : List Number → Machine
  openly xs =
      pick (any_spent R₀ xs) (silent i (turned i (failing (ticked_all R₀ true xs) E) M))
      (again_from i E 0 xs (turned i (numbered E.start (ticked_all R₀ true xs) E) M))

  open_receiver : is_sends e.entry.kind ≡ false → e.state ≡ Open → StandsWith R' t (kept_bare n y) (openly E.numbers)
  unfolding ticked_all any_spent again_from
  open_receiver s q =
      subst (λ (xs : List Number). StandsWith R' t (kept_bare n y) (openly xs)) (sym (none_here s))
      (subst (λ (xs : List Number). StandsWith R' t (kept_bare n y) (turned i (numbered E.start xs E) M)) (none_here s)
      (stays_as (receiver_same s q) (reads_same (rw q) (none_taken g li s))))

  open_sender : is_sends e.entry.kind ≡ true → e.state ≡ Open → StandsWith R' t (kept_bare n y) (openly E.numbers)
  open_sender s q = sides (any_spent R₀ E.numbers) refl
    where
      sides : (a : Bool) → any_spent R₀ E.numbers ≡ a → StandsWith R' t (kept_bare n y) (openly E.numbers)
      sides true z = rw z (failed_stands s q z)
      sides false z = rw z (open_stands s q z)

  -- ---- all states

  abbrev enabledly : ℕ → Bool → Machine
  enabledly v sent =
      pick (eqb v 0) M
      (pick (eqb v 1) (waits resets i 0 (turned i (stated (Enabled (v - 1) sent) E) M)) (turned i (stated (Enabled (v - 1) sent) E) M))

  -- Enabled, and the timer does not run: it is at zero, or it stands while the Reset is under way
  rests_stands : (d : ℕ) (sent : Bool) → e.state ≡ Enabled d sent → y ≡ bare n → ((c : ℕ) → pick out 0 (left_of c d) ≡ 0) → e.run.taken ≡ 0
      → StandsWith R' t (kept_bare n y) (enabledly (pick out 0 (L₀ d)) sent)
  rests_stands d sent q same rests empty = rw (rests c) (stays same (reads_same (rw (q, rests now, rests c)) empty))

  zero_stands : (d : ℕ) (sent : Bool) → e.state ≡ Enabled d sent → d ≡ 0 → e.run.taken ≡ 0
      → StandsWith R' t (kept_bare n y) (enabledly (pick out 0 (L₀ d)) sent)
  unfolding tick_state
  zero_stands d sent q z = rests_stands d sent q (y_at (Enabled d sent) q ∙ rw (eq-eqb d 0 z)) (λ c. rw z (zeros out))
    where
      zeros : (a : Bool) → ◌≡◌ {A = ℕ} (pick a 0 0) 0
      zeros true = refl
      zeros false = refl

  under_stands : (d : ℕ) (sent : Bool) → e.state ≡ Enabled d sent → out ≡ true → e.run.taken ≡ 0
      → StandsWith R' t (kept_bare n y) (enabledly (pick out 0 (L₀ d)) sent)
  unfolding tick_state
  under_stands d sent q o = rests_stands d sent q (y_at (Enabled d sent) q ∙ rw o (both (eqb d 0))) (λ c. rw o)
    where
      both : (a : Bool) → (pick a x x).lent ≡ bare n
      both true = refl
      both false = refl

  enabled_sender : is_sends e.entry.kind ≡ true → (d : ℕ) (sent : Bool) → e.state ≡ Enabled d sent
      → StandsWith R' t (kept_bare n y) (enabledly (pick out 0 (L₀ d)) sent)
  enabled_sender s d sent q = sides (eqb d 0) refl out refl
    where
      empty : e.run.taken ≡ 0
      empty = (stated_at g li true s (Enabled d sent) q).fresh.taken

      sides : (a : Bool) → eqb d 0 ≡ a → (o : Bool) → out ≡ o → StandsWith R' t (kept_bare n y) (enabledly (pick out 0 (L₀ d)) sent)
      sides true z o h = zero_stands d sent q (eqb-true d 0 z) empty
      sides false z true h = under_stands d sent q h empty
      sides false z false h =
          let number = outlasts_number _ _ d (timely (Enabled d sent) q h) in
          rw (h, left_zero c d ∙ z, left_one c d clock number (eqb-false d 0 z)) (falls_stands s d sent q z h (eqb d now) refl)

  ticks_in : (st : State) → e.state ≡ st → (k : Bool) → is_sends e.entry.kind ≡ k
      → StandsWith R' t (kept_bare n y) (ticked M i E (state_for L₀ out E.numbers st))
  unfolding ticked tick_state end_for
  ticks_in Closed q true s = stays (y_at Closed q) (reads_same (rw q) (stated_at g li true s Closed q).fresh.taken)
  ticks_in Closed q false s = stays (y_at Closed q) (reads_same (rw q) (stated_at g li false s Closed q).fresh.taken)
  ticks_in (Enabled d sent) q true s = enabled_sender s d sent q
  ticks_in (Enabled d sent) q false s =
      let a = stated_at g li false s (Enabled d sent) q in
      zero_stands d sent q a.1 a.0.fresh.taken
  ticks_in Open q true s = open_sender s q
  ticks_in Open q false s = open_receiver s q
  ticks_in (Failing m) q true s = failing_stands s m q
  ticks_in (Failing m) q false s = absurd (stated_at g li false s (Failing m) q)

  ticks_here : StandsWith R' t (kept_bare n y) (ticked M i E E.state)
  unfolding end_for
  ticks_here = ticks_in e.state refl (is_sends e.entry.kind) refl

  pub entry_ticks : StandsWith R' t (kept_bare n y) (ticked M i (end_with R n i) (end_with R n i).state)
  entry_ticks = subst (λ (E : End). StandsWith R' t (kept_bare n y) (ticked M i E E.state)) (sym E-old) ticks_here
