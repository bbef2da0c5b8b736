-- An entry's timers in a tick, one by one: each that is due stops, and no other alters; what is left of each that runs on is no less than the
-- least that the tick found. Assumes nothing.
use Prim.Native.Nat.{ℕ, zero, suc, ◌+◌, ◌≤◌, ◌<◌, min}
use mathlib.Core.Path.{◌≡◌, refl, sym, ap, subst, ◌∙◌}
use mathlib.Core.Logic.{◌≢◌}
use mathlib.Core.Bool.{Bool, true, false}
use mathlib.Core.List.{List}
use native.Mathlib.Decide.{ℕ_discrete}
use native.Mathlib.Omega.{arith}
use lib.ListN.{length, get_or, set}
use lib.Seq.{get_or-set_same, get_or-set_other}
use lib.Dec.{eqb, ltb}
use borrow.Author.Tests.{eq-eqb, ne_eqb, eqb-true, eqb-false}
use Rattle.units.specs.Refusals.{pick}
use Rattle.memory.specs.Layout.{all_cells, cells_at, resends, timer_at, retries_at, book_halves}
use Rattle.waiting.specs.Queues.{appended}
use Rattle.waiting.specs.Port.{data_out}
use Rattle.window.specs.Windows.{Good as GoodWindow}
use Rattle.end_points.specs.declared.EndPoint.{EndPoint}
use Rattle.slots.specs.Slots.{cell, past, timer_in, retries_in, idled}
use Rattle.timing.specs.Timing.{left_of, soonest}
use Rattle.call_tick.specs.Ticking.{Ticked, expired, tick_cell, stood_cell, tick_slot, tick_slots, ticked}
use Rattle.good.specs.Good.{Lists, Lines, id_at, OpenSender, Outlasts}
use Rattle.good.proofs.Framing.{same_under, le_trans, cell_low}
use Rattle.good.proofs.Lined.{append_cells, set_lines}
use Rattle.good.proofs.Offsets.{id_low, id_high, cell_inj}
use Rattle.good.proofs.Idling.{idle}
use Rattle.good.proofs.TickSlots.{Lives, runs_alone, slots_first}

pub min_left : (a b : ℕ) → min a b ≤ a
min_left a b = omega arith

pub min_right : (a b : ℕ) → min a b ≤ b
min_right a b = omega arith

module _ (i : ℕ) (low : i < 16) (e : EndPoint) (g : GoodWindow e.run.window) where
  abbrev at : ℕ → ℕ
  at k = cell i e.run.window (past e.run.window k)

  at_low : (k : ℕ) → at k < all_cells
  at_low k = cell_low i low e.run.window g (past e.run.window k)

  -- ---- one turn

  -- the timer of the number k stops where it is due and does not stand, with the number n under way; of the book's cells none but its timer and
  -- its retries alter
  abbrev stays : ℕ → ℕ → ℕ → ℕ → ℕ
  stays now n k d = pick (eqb (past e.run.window k) n) d (pick (eqb d now) 0 d)

  record Turn (now n k : ℕ) (b b' : List ℕ) : Type 0 where
    here : timer_in b' (at k) ≡ stays now n k (timer_in b (at k))
    there : (x : ℕ) → cells_at ≤ x → x ≢ timer_at (at k) → x ≢ retries_at (at k) → get_or b' x 0 ≡ get_or b x 0

  -- the timer of the number under way
  stood_turn : (now n k : ℕ) (b : List ℕ) → eqb (past e.run.window k) n ≡ true → Turn now n k b b
  stood_turn now n k b q = record { here = sym (rw q); there = λ x a y z. refl }

  module _ (now n : ℕ) (b : List ℕ) (l : Lists) (L : Lines b l) (k : ℕ) (h : k < e.run.handed) (not_out : eqb (past e.run.window k) n ≡ false) (other : past e.run.window k ≢ data_out b i) where
    due_zero : timer_in b (at k) ≡ now → 0 ≡ stays now n k (timer_in b (at k))
    due_zero d = sym (rw (not_out, eq-eqb (timer_in b (at k)) now d))

    -- set to zero, where it is due
    set_turn : (b' : List ℕ) → length b' ≡ book_halves → timer_in b (at k) ≡ now → ((x : ℕ) → cells_at ≤ x → get_or b' x 0 ≡ get_or b x 0)
        → Turn now n k b (set b' (timer_at (at k)) 0)
    set_turn b' long d same =
        record {
          here = get_or-set_same b' (timer_at (at k)) 0 0 (omega (arith, at_low k)) ∙ due_zero d;
          there = λ x a n m. get_or-set_other b' (timer_at (at k)) x 0 0 n ∙ same x a;
        }

    zero_turn : timer_in b (at k) ≡ 0 → Turn now n k b b
    zero_turn z = record { here = rw (z, not_out) (zeros (eqb 0 now)); there = λ x a y m. refl }
      where
        zeros : (t : Bool) → ◌≡◌ {A = ℕ} 0 (pick t 0 0)
        zeros true = refl
        zeros false = refl

    still_turn : timer_in b (at k) ≢ now → Turn now n k b b
    still_turn z = record { here = sym (rw (not_out, ne_eqb (timer_in b (at k)) now z)); there = λ x a y m. refl }

    -- with retries left: retries and links alter too
    resent_turn : OpenSender b l i e → timer_in b (at k) ≢ 0 → timer_in b (at k) ≡ now → (v : ℕ)
        → Turn now n k b (appended (set (set b (timer_at (at k)) 0) (retries_at (at k)) v) resends (id_at i e.run.window k))
    resent_turn o runs one v =
        let c = set b (timer_at (at k)) 0 in
        let d = set c (retries_at (at k)) v in
        let lines = set_lines c l (set_lines b l L (timer_at (at k)) 0 (omega arith)) (retries_at (at k)) v (omega arith) in
        let same = append_cells d l lines resends (id_at i e.run.window k) (omega arith) (omega (arith, id_low i low e.run.window g k)) (id_high i low e.run.window g k)
        (runs_alone i low e g b l o k h runs) in
        let timed = set_turn b L.long one (λ x a. refl) in
        record {
          here = same (timer_at (at k)) (omega arith) ∙ get_or-set_other c (retries_at (at k)) (timer_at (at k)) v 0 (λ z. omega (arith, at_low k)) ∙ timed.here;
          there = λ x a n m. same x a ∙ get_or-set_other c (retries_at (at k)) x v 0 m ∙ timed.there x a n m;
        }

    failed_turn : OpenSender b l i e → timer_in b (at k) ≡ now
        → Turn now n k b (set (idled i e.run b) (timer_at (at k)) 0)
    failed_turn o one =
        let z = idle b l i low L e g o in
        set_turn (idled i e.run b) z.within.lines.long one z.cells

    expired_turn : (f : Bool) (c m : ℕ) → Lives f b l i e → timer_in b (at k) ≢ 0 → timer_in b (at k) ≡ now → Turn now n k b (expired i e (at k) (record { book = b; failing = f; running = c; least = m })).book
    expired_turn true c m o runs one = set_turn b L.long one (λ x a. refl)
    expired_turn false c m o runs one = sides (ltb (retries_in b (at k)) e.entry.retries)
      where
        sides : (t : Bool)
            → Turn now n k b (pick {A = Ticked} t (record { book = appended (set (set b (timer_at (at k)) 0) (retries_at (at k)) (retries_in b (at k) + 1)) resends (id_at i e.run.window k); failing = false; running = c; least = m })
            (record { book = set (idled i e.run b) (timer_at (at k)) 0; failing = true; running = c; least = m })).book
        sides true = resent_turn o runs one (retries_in b (at k) + 1)
        sides false = failed_turn o one

    runs_turn : (f : Bool) (c m : ℕ) → Lives f b l i e → Turn now n k b (tick_cell now i e (at k) (timer_in b (at k)) (record { book = b; failing = f; running = c; least = m })).book
    runs_turn f c m o = sides (eqb (timer_in b (at k)) 0) (eqb (timer_in b (at k)) now) refl refl
      where
        sides : (z u : Bool) → eqb (timer_in b (at k)) 0 ≡ z → eqb (timer_in b (at k)) now ≡ u
            → Turn now n k b (pick z (record { book = b; failing = f; running = c; least = m }) (pick u (expired i e (at k) (record { book = b; failing = f; running = c; least = m }))
            (record { book = b; failing = f; running = c + 1; least = soonest m now (timer_in b (at k)) }))).book
        sides true u p q = zero_turn (eqb-true (timer_in b (at k)) 0 p)
        sides false true p q = expired_turn f c m o (eqb-false (timer_in b (at k)) 0 p) (eqb-true (timer_in b (at k)) now q)
        sides false false p q = still_turn (eqb-false (timer_in b (at k)) now q)

  pick_book : (z : Bool) (x y : Ticked) (C : List ℕ → Type 0) → C x.book → C y.book → C (pick z x y).book
  pick_book true x y C p q = p
  pick_book false x y C p q = q

  turn : (now n : ℕ) (b : List ℕ) (l : Lists) → Lines b l → n ≡ data_out b i → (k : ℕ) → k < e.run.handed → (f : Bool) (c m : ℕ) → Lives f b l i e
      → Turn now n k b (tick_slot now i e n k (record { book = b; failing = f; running = c; least = m })).book
  unfolding tick_slot
  turn now n b l L under k h f c m o = sides (eqb (past e.run.window k) n) refl
    where
      sides : (y : Bool) → eqb (past e.run.window k) n ≡ y
          → Turn now n k b (pick y (stood_cell (timer_in b (at k)) (record { book = b; failing = f; running = c; least = m }))
          (tick_cell now i e (at k) (timer_in b (at k)) (record { book = b; failing = f; running = c; least = m }))).book
      sides true q =
          pick_book (eqb (timer_in b (at k)) 0) (record { book = b; failing = f; running = c; least = m }) (record { book = b; failing = f; running = c + 1; least = m }) (λ d. Turn now n k b d)
          (stood_turn now n k b q) (stood_turn now n k b q)
      sides false q = runs_turn now n b l L k h q (λ z. eqb-false (past e.run.window k) n q (z ∙ sym under)) f c m o

  -- the least only falls, and takes in the timer that runs on
  pick_least : (z : Bool) (x y : Ticked) (m : ℕ) → x.least ≤ m → y.least ≤ m → (pick z x y).least ≤ m
  pick_least true x y m p q = p
  pick_least false x y m p q = q

  turn_least : (now n : ℕ) (t : Ticked) (k : ℕ) → (tick_slot now i e n k t).least ≤ t.least
  unfolding tick_slot
  turn_least now n t k =
      pick_least (eqb (past e.run.window k) n) _ _ _ (pick_least (eqb (timer_in t.book (at k)) 0) _ _ _ (omega arith) (omega arith))
      (pick_least (eqb (timer_in t.book (at k)) 0) _ _ _ (omega arith)
      (pick_least (eqb (timer_in t.book (at k)) now) _ _ _
      (pick_least t.failing _ _ _ (omega arith) (pick_least (ltb (retries_in t.book (at k)) e.entry.retries) _ _ _ (omega arith) (omega arith)))
      (min_left t.least (left_of now (timer_in t.book (at k))))))

  turn_takes : (now n : ℕ) (t : Ticked) (k : ℕ) → past e.run.window k ≢ n → timer_in t.book (at k) ≢ 0 → timer_in t.book (at k) ≢ now
      → (tick_slot now i e n k t).least ≤ left_of now (timer_in t.book (at k))
  unfolding tick_slot
  turn_takes now n t k other runs on =
      let d = timer_in t.book (at k) in
      subst (λ (z : Bool). (pick z (stood_cell d t) (tick_cell now i e (at k) d t)).least ≤ left_of now d) (sym (ne_eqb (past e.run.window k) n other))
      (subst (λ (z : Bool). (pick z t (pick (eqb d now) (expired i e (at k) t) (record { book = t.book; failing = t.failing; running = t.running + 1; least = soonest t.least now d }))).least ≤ left_of now d) (sym (ne_eqb d 0 runs))
      (subst (λ (z : Bool). (pick z (expired i e (at k) t) (record { book = t.book; failing = t.failing; running = t.running + 1; least = soonest t.least now d })).least ≤ left_of now d) (sym (ne_eqb d now on))
      (min_right t.least (left_of now d))))

  -- ---- all turns

  module _ (now : ℕ) (b : List ℕ) (l : Lists) (L : Lines b l) (f : Bool) (m : ℕ) (o : Lives f b l i e) (most : e.run.handed ≤ e.run.window.size) where
    abbrev turns : ℕ → Ticked
    turns k = tick_slots now i e (data_out b i) k (record { book = b; failing = f; running = 0; least = m })

    turn_at : (k : ℕ) → k < e.run.handed → Turn now (data_out b i) k (turns k).book (tick_slot now i e (data_out b i) k (turns k)).book
    turn_at k h =
        let s = slots_first i low e g now b l L f m o k (omega arith) in
        turn now (data_out b i) (turns k).book s.lists s.within.lines (sym (same_under i b (turns k).book s.under).data!) k h (turns k).failing (turns k).running (turns k).least s.lives

    -- other numbers have other cells
    cells_differ : (j k : ℕ) → j < e.run.handed → k < e.run.handed → j ≢ k → at j ≢ at k
    cells_differ j k hj hk d q = d (cell_inj e.run.window g i j k (omega arith) (omega arith) q)

    -- those whose turn has not come
    to_come : (k : ℕ) → k ≤ e.run.handed → (j : ℕ) → k ≤ j → j < e.run.handed
        → (timer_in (turns k).book (at j) ≡ timer_in b (at j)) × (retries_in (turns k).book (at j) ≡ retries_in b (at j))
    unfolding tick_slots
    to_come zero h j w hj = (refl, refl)
    to_come (suc k) h j w hj =
        let p = to_come k (omega arith) j (omega arith) hj in
        let s = turn_at k h in
        let d = cells_differ j k hj h (λ z. omega arith) in (
          s.there (timer_at (at j)) (omega arith) (λ z. d (omega arith)) (λ z. omega (arith, at_low j)) ∙ p.0,
          s.there (retries_at (at j)) (omega arith) (λ z. omega (arith, at_low k)) (λ z. d (omega arith)) ∙ p.1,
        )

    -- those whose turn was
    fallen : (k : ℕ) → k ≤ e.run.handed → (j : ℕ) → j < k → timer_in (turns k).book (at j) ≡ stays now (data_out b i) j (timer_in b (at j))
    unfolding tick_slots
    fallen zero h j w = absurd (omega arith)
    fallen (suc k) h j w = sides (λ l. fallen k (omega arith) j l) (ℕ_discrete j k)
      where
        sides : (j < k → timer_in (turns k).book (at j) ≡ stays now (data_out b i) j (timer_in b (at j))) → Dec (j ≡ k) → timer_in (tick_slot now i e (data_out b i) k (turns k)).book (at j) ≡ stays now (data_out b i) j (timer_in b (at j))
        sides before (yes q) = rw q ((turn_at k h).here ∙ ap (stays now (data_out b i) k) (to_come k (omega arith) k (omega arith) h).0)
        sides before (no d) =
            (turn_at k h).there (timer_at (at j)) (omega arith) (λ z. cells_differ j k (omega arith) h d (omega arith)) (λ z. omega (arith, at_low j)) ∙ before (omega arith)

    pub timers_stay : (j : ℕ) → j < e.run.handed → timer_in (ticked now i e f b m).book (at j) ≡ stays now (data_out b i) j (timer_in b (at j))
    timers_stay j h = fallen e.run.handed (omega arith) j h

    -- so where it is not the one under way
    timer_stays : (j : ℕ) → j < e.run.handed → past e.run.window j ≢ data_out b i → timer_in (ticked now i e f b m).book (at j) ≡ pick (eqb (timer_in b (at j)) now) 0 (timer_in b (at j))
    timer_stays j h d = timers_stay j h ∙ rw (ne_eqb (past e.run.window j) (data_out b i) d)

    -- so a timer that outlasts some ticks does so afterwards
    pub still_outlasts : (c q j : ℕ) → j < e.run.handed → past e.run.window j ≢ data_out b i → Outlasts c q (timer_in b (at j)) → Outlasts c q (timer_in (ticked now i e f b m).book (at j))
    still_outlasts c q j h d o = subst (Outlasts c q) (sym (timer_stays j h d)) (sides (eqb (timer_in b (at j)) now))
      where
        sides : (z : Bool) → Outlasts c q (pick z 0 (timer_in b (at j)))
        sides true = λ runs. absurd (runs refl)
        sides false = o

    -- what is left of each that runs on is no less than the least
    least_on : (k : ℕ) → k ≤ e.run.handed → (j : ℕ) → j < k → past e.run.window j ≢ data_out b i → timer_in b (at j) ≢ 0 → timer_in b (at j) ≢ now → (turns k).least ≤ left_of now (timer_in b (at j))
    unfolding tick_slots
    least_on zero h j w other runs on = absurd (omega arith)
    least_on (suc k) h j w other runs on = sides (λ l. least_on k (omega arith) j l other runs on) (ℕ_discrete j k)
      where
        sides : (j < k → (turns k).least ≤ left_of now (timer_in b (at j))) → Dec (j ≡ k) → (tick_slot now i e (data_out b i) k (turns k)).least ≤ left_of now (timer_in b (at j))
        sides before (yes q) =
            let p = (to_come k (omega arith) k (omega arith) h).0 in
            let same = p ∙ ap (λ (z : ℕ). timer_in b (at z)) (sym q) in
            subst (λ (d : ℕ). (tick_slot now i e (data_out b i) k (turns k)).least ≤ left_of now d) same
            (turn_takes now (data_out b i) (turns k) k (λ z. other (ap (past e.run.window) q ∙ z)) (λ z. runs (sym same ∙ z)) (λ z. on (sym same ∙ z)))
        sides before (no d) = let x = before (omega arith) in let y = turn_least now (data_out b i) (turns k) k in le_trans y x

    pub least_bounds : (j : ℕ) → j < e.run.handed → past e.run.window j ≢ data_out b i → timer_in b (at j) ≢ 0 → timer_in b (at j) ≢ now → (ticked now i e f b m).least ≤ left_of now (timer_in b (at j))
    least_bounds j h other runs on = least_on e.run.handed (omega arith) j h other runs on

    -- so of each that runs afterwards
    pub runs_bound : (j : ℕ) → j < e.run.handed → past e.run.window j ≢ data_out b i → timer_in (ticked now i e f b m).book (at j) ≢ 0 → (ticked now i e f b m).least ≤ left_of now (timer_in (ticked now i e f b m).book (at j))
    runs_bound j h other runs = sides (ℕ_discrete (timer_in b (at j)) now)
      where
        sides : Dec (timer_in b (at j) ≡ now) → (ticked now i e f b m).least ≤ left_of now (timer_in (ticked now i e f b m).book (at j))
        sides (yes d) = absurd (runs (timer_stays j h other ∙ rw (eq-eqb (timer_in b (at j)) now d)))
        sides (no d) =
            let same : timer_in (ticked now i e f b m).book (at j) ≡ timer_in b (at j) = timer_stays j h other ∙ rw (ne_eqb (timer_in b (at j)) now d) in
            subst (λ (z : ℕ). (ticked now i e f b m).least ≤ left_of now z) (sym same) (least_bounds j h other (λ z. runs (same ∙ z)) d)

    least_down : (k : ℕ) → (turns k).least ≤ m
    unfolding tick_slots
    least_down zero = omega arith
    least_down (suc k) = le_trans (turn_least now (data_out b i) (turns k) k) (least_down k)

    pub least_falls : (ticked now i e f b m).least ≤ m
    least_falls = least_down e.run.handed
