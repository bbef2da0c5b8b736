-- A tick over a sender's numbers, in the machine and in the book: as far as it has come, which timers fell, which were
-- tried again, and whether the end is Failing. The timer of a number under way does not run, and its place stays as it
-- is. Assumes nothing.
use Prim.Native.Nat.{ℕ, zero, suc, ◌+◌, ◌-◌, ◌≤◌, ◌<◌}
use mathlib.Core.Path.{◌≡◌, refl, sym, ap, subst, ◌∙◌, fun_ext}
use mathlib.Core.Logic.{◌≢◌}
use mathlib.Core.Bool.{Bool, true, false, not, ◌&&◌, ◌||◌, and-true, and-false}
use mathlib.Core.List.{List, [], ◌∷◌, ◌++◌, append_assoc, Memᴰ}
use native.Mathlib.Decide.{dec_lt, ℕ_discrete}
use native.Mathlib.Omega.{arith}
use lib.ListN.{length, get_or, set}
use lib.Seq.{get_or-set_same, get_or-set_other}
use lib.Dec.{eqb, leb, ltb}
use borrow.Author.Tests.{le-ltb, le-leb, lt-leb, eqb-true, eqb-false, eq-eqb, ne_eqb, ltb-true, ltb-false}
use Rattle.units.specs.Refusals.{pick}
use Rattle.memory.specs.Layout as layout
use Rattle.memory.specs.Layout.{all_cells, cells_at, timer_at, retries_at, cell_id, book_halves}
use Rattle.waiting.specs.Queues.{appended}
use Rattle.waiting.specs.Port.{data_out}
use Rattle.window.specs.Windows.{held, Good as GoodWindow}
use Rattle.window.specs.declared.Window.{Window}
use Rattle.end_points.specs.declared.State.{State}
use Rattle.end_points.specs.declared.Run.{Run}
use Rattle.end_points.specs.declared.EndPoint.{EndPoint}
use Rattle.slots.specs.Slots.{cell, past, timer_in, retries_in, idled}
use Rattle.timing.specs.Timing.{left_of, later, soonest}
use Rattle.timing.proofs.Falling.{left_zero, left_one, left_ticks}
use Rattle.call_tick.specs.Ticking.{Ticked, expired, stood_cell, tick_cell, tick_slot, tick_slots}
use Rattle.good.specs.Good.{Lists, Lines, OpenSender, id_at}
use Rattle.good.proofs.Turns.{turned_to}
use Rattle.good.proofs.Lined.{added}
use Rattle.good.proofs.Offsets.{id_low, id_high, cell_inj}
use Rattle.good.proofs.Framing.{same_under, cell_low}
use Rattle.good.proofs.Idling.{idle}
use Rattle.good.proofs.TickSlots.{Lives, runs_alone, Slots, slots_first}
use Rattle.machine.specs.Machine.{Number, listed, is_spent, fallen, ticked_all, any_spent}
use Rattle.machine.proofs.Timers.{append_none}
use Rattle.refinement.specs.Standing.{Reading, payload_for, number_for}
use Rattle.machine.proofs.Listed.{listed_ext}
use Rattle.refinement.proofs.Listing.{beyond, Put, put_both}
use Rattle.refinement.proofs.Elsewhere.{number_as, timer_as}
use Rattle.refinement.proofs.Numbers.{timer_unhanded, timer_under, timer_else}
use Rattle.refinement.proofs.Waiting.{lists_are}

-- ---- the machine's, from the front and from the back

-- none so far was spent
unfoldable pub flag : ℕ → Bool → List Number → Bool
flag M a [] = a
flag M a (x ∷ xs) = flag M (a && not (is_spent M x)) xs

flag_snoc : (M : ℕ) (a : Bool) (xs : List Number) (x : Number) → flag M a (xs ++ (x ∷ [])) ≡ (flag M a xs && not (is_spent M x))
unfolding flag
flag_snoc M a [] x = refl
flag_snoc M a (y ∷ ys) x = flag_snoc M (a && not (is_spent M y)) ys x

ticked_snoc : (M : ℕ) (a : Bool) (xs : List Number) (x : Number)
    → ticked_all M a (xs ++ (x ∷ [])) ≡ ticked_all M a xs ++ (fallen (flag M a xs && not (is_spent M x)) x ∷ [])
unfolding flag ticked_all
ticked_snoc M a [] x = refl
ticked_snoc M a (y ∷ ys) x = ap (λ (l : List Number). fallen (a && not (is_spent M y)) y ∷ l) (ticked_snoc M (a && not (is_spent M y)) ys x)

pub flag_spent : (M : ℕ) (a : Bool) (xs : List Number) → flag M a xs ≡ (a && not (any_spent M xs))
unfolding flag any_spent
flag_spent M true [] = refl
flag_spent M false [] = refl
flag_spent M a (x ∷ xs) = flag_spent M (a && not (is_spent M x)) xs ∙ sides a (is_spent M x) (any_spent M xs)
  where
    sides : (a b c : Bool) → ((a && not b) && not c) ≡ (a && not (b || c))
    sides true true c = refl
    sides true false c = refl
    sides false b c = refl

module _ (M : ℕ) (a : Bool) (N : ℕ → Number) where
  abbrev on : ℕ → Bool
  on k = flag M a (listed k N)

  on_more : (k : ℕ) → on (suc k) ≡ (on k && not (is_spent M (N k)))
  unfolding listed
  on_more k = flag_snoc M a (listed k N) (N k)

  pub ticked_listed : (n : ℕ) → ticked_all M a (listed n N) ≡ listed n (λ j. fallen (on (suc j)) (N j))
  unfolding listed ticked_all
  ticked_listed zero = refl
  ticked_listed (suc n) =
      ticked_snoc M a (listed n N) (N n)
      ∙ rw (ticked_listed n) (ap (λ (z : Bool). listed n (λ j. fallen (on (suc j)) (N j)) ++ (fallen z (N n) ∷ [])) (sym (on_more n)))

-- ---- the book's, as far as it has come

module _ (st b : List ℕ) (l : Lists) (L : Lines b l) (i : ℕ) (low : i < 16) (e : EndPoint)
    (g : GoodWindow e.run.window) (f : Bool) (lives : Lives f b l i e) (wide : e.run.handed ≤ e.run.window.size)
    (c : ℕ) (clock : c ≤ 65535) (m₀ : ℕ)
    (round : (k : ℕ) → k < e.run.handed → past e.run.window k ≢ data_out b i
    → timer_in b (cell i e.run.window (past e.run.window k)) ≤ 65535) where
  -- before the tick what is left is read by the tick before, and afterwards by this one
  abbrev was : Reading
  was = left_of c

  abbrev now : ℕ
  now = later c 1

  abbrev stays : ℕ → ℕ
  stays d = pick (eqb d now) 0 d

  abbrev w : Window
  w = e.run.window

  abbrev at : ℕ → ℕ
  at k = cell i w (past w k)

  abbrev M : ℕ
  M = e.entry.retries

  abbrev N : ℕ → Number
  N = number_for was st b i e

  abbrev good_to : ℕ → Bool
  good_to = on M (not f) N

  abbrev turns : ℕ → Ticked
  turns k = tick_slots now i e (data_out b i) k (record { book = b; failing = f; running = 0; least = m₀ })

  slots : (k : ℕ) → k ≤ e.run.handed → Slots i low e g b l k (turns k)
  slots k h = slots_first i low e g now b l L f m₀ lives k h

  -- those tried again so far
  unfoldable pub again : ℕ → List ℕ
  again zero = []
  again (suc k) = pick (eqb (N k).timer 1) (again k ++ (id_at i w k ∷ [])) (again k)

  pub record Come (k : ℕ) (t : Ticked) : Type 0 where
    pub failing : t.failing ≡ not (good_to k)
    -- but for the number under way, whose place is not read
    pub fell : (j : ℕ) → j < k → past w j ≢ data_out b i → timer_in t.book (at j) ≡ stays (timer_in b (at j))
    pub stands : (j : ℕ) → k ≤ j → j < w.size → timer_in t.book (at j) ≡ timer_in b (at j)
    pub tried : (j : ℕ) → j < k
        → retries_in t.book (at j) ≡ pick (good_to (suc j) && eqb (N j).timer 1) (retries_in b (at j) + 1) (retries_in b (at j))
    pub untried : (j : ℕ) → k ≤ j → j < w.size → retries_in t.book (at j) ≡ retries_in b (at j)
    pub queued : good_to k ≡ true → Lines t.book (λ r. pick (eqb r layout.resends) (l r ++ again k) (l r))

  -- ---- one number further

  module _ (k : ℕ) (hk : k < e.run.handed) (C : Come k (turns k)) where
    abbrev t : Ticked
    t = turns k

    abbrev d : ℕ
    d = timer_in b (at k)

    abbrev v : ℕ
    v = (N k).timer

    abbrev r : ℕ
    r = retries_in b (at k)

    abbrev Next : Ticked → Type 0
    Next t' = Come (suc k) t'

    abbrev come_to : List ℕ → Bool → ℕ → ℕ → Ticked
    come_to b' f' x u = record { book = b'; failing = f'; running = x; least = u }

    S : Slots i low e g b l k t
    S = slots k (omega arith)

    long : length t.book ≡ book_halves
    long = S.within.lines.long

    inside : k < w.size
    inside = omega arith

    here : timer_in t.book (at k) ≡ d
    here = C.stands k (omega arith) inside

    r_here : retries_in t.book (at k) ≡ r
    r_here = C.untried k (omega arith) inside

    on_next : good_to (suc k) ≡ (good_to k && not (eqb v 1 && leb M r))
    on_next = on_more M (not f) N k

    at_small : (j : ℕ) → at j < all_cells
    at_small j = cell_low i low w g (past w j)

    other : (j : ℕ) → j < w.size → j ≢ k → at j ≢ at k
    other j h d z = d (cell_inj w g i j k h inside z)

    -- a book in which only this number's timer and retries are others
    record Moved (b' : List ℕ) : Type 0 where
      timer : past w k ≢ data_out b i → timer_in b' (at k) ≡ stays d
      timers : (j : ℕ) → j < w.size → j ≢ k → timer_in b' (at j) ≡ timer_in t.book (at j)
      retries : retries_in b' (at k) ≡ pick (good_to (suc k) && eqb v 1) (r + 1) r
      others : (j : ℕ) → j < w.size → j ≢ k → retries_in b' (at j) ≡ retries_in t.book (at j)

    further : (t' : Ticked) → t'.failing ≡ not (good_to (suc k)) → Moved t'.book
        → (good_to (suc k) ≡ true → Lines t'.book (λ r. pick (eqb r layout.resends) (l r ++ again (suc k)) (l r))) → Next t'
    further t' fails m q =
        record {
          failing = fails;
          fell = λ j h. fell j h (ℕ_discrete j k);
          stands = λ j h s. m.timers j s (λ z. omega arith) ∙ C.stands j (omega arith) s;
          tried = λ j h. tried j h (ℕ_discrete j k);
          untried = λ j h s. m.others j s (λ z. omega arith) ∙ C.untried j (omega arith) s;
          queued = q;
        }
      where
        fell : (j : ℕ) → j < suc k → Dec (j ≡ k) → past w j ≢ data_out b i → timer_in t'.book (at j) ≡ stays (timer_in b (at j))
        fell j h (yes z) = rw z m.timer
        fell j h (no z) = λ o. m.timers j (omega arith) z ∙ C.fell j (omega arith) o

        tried : (j : ℕ) → j < suc k → Dec (j ≡ k)
            → retries_in t'.book (at j) ≡ pick (good_to (suc j) && eqb (N j).timer 1) (retries_in b (at j) + 1) (retries_in b (at j))
        tried j h (yes z) = rw z m.retries
        tried j h (no z) = m.others j (omega arith) z ∙ C.tried j (omega arith)

    -- where its timer does not come to zero it is not tried again, and all goes on as it was
    quiet : eqb v 1 ≡ false → (good_to (suc k) ≡ good_to k) × (again (suc k) ≡ again k) × (pick (good_to (suc k) && eqb v 1) (r + 1) r ≡ r)
    unfolding again
    quiet z = (on_next ∙ rw z (and-true (good_to k)), rw z, rw z (ap (λ (y : Bool). pick y (r + 1) r) (and-false (good_to (suc k)))))

    -- in the same book
    unmoved : eqb v 1 ≡ false → (past w k ≢ data_out b i → d ≡ stays d) → (x u : ℕ) → Next (come_to t.book t.failing x u)
    unmoved z y x u =
        let q = quiet z in
        further (come_to t.book t.failing x u) (C.failing ∙ ap not (sym q.0))
        (record { timer = λ o. here ∙ y o; timers = λ j h d. refl; retries = r_here ∙ sym q.2; others = λ j h d. refl })
        (λ y. rw q.1 (C.queued (sym q.0 ∙ y)))

    -- it is under way: its timer does not run
    stood : past w k ≡ data_out b i → (x u : ℕ) → Next (come_to t.book t.failing x u)
    stood under = unmoved (rw (timer_under was (left_zero c) st b i e k under)) (λ free. absurd (free under))

    not_flips : (a c : Bool) → a ≡ not c → c ≡ not a
    not_flips true true h = absurd (let z : ◌≡◌ {A = ℕ} 0 1 = cc in omega arith)
    not_flips true false h = refl
    not_flips false true h = refl
    not_flips false false h = absurd (let z : ◌≡◌ {A = ℕ} 0 1 = cc in omega arith)

    good_is : (a : Bool) → t.failing ≡ a → good_to k ≡ not a
    good_is a h = not_flips a (good_to k) (sym h ∙ C.failing)

    -- at an end that is not Failing
    open_now : good_to k ≡ true → OpenSender t.book S.lists i e
    open_now y = let z : t.failing ≡ false = C.failing ∙ rw y in subst (λ (f : Bool). Lives f t.book S.lists i e) z S.lives

    abbrev n₁ : ℕ
    n₁ = timer_in t.book (at k)

    abbrev r₁ : ℕ
    r₁ = retries_in t.book (at k)

    abbrev timer_book : List ℕ
    timer_book = set t.book (timer_at (at k)) 0

    abbrev tried_book : List ℕ
    tried_book = set timer_book (retries_at (at k)) (r₁ + 1)

    -- ---- it is not under way

    module _ (free : past w k ≢ data_out b i) where
      v_is : v ≡ was d
      v_is = timer_else was (left_zero c) st b i e k hk free

      -- what is due runs out, and nothing else does
      one_due : d ≢ 0 → eqb v 1 ≡ eqb d now
      one_due n = ap (λ (x : ℕ). eqb x 1) v_is ∙ left_one c d clock (round k hk free) n

      due_one : d ≢ 0 → d ≡ now → eqb v 1 ≡ true
      due_one n z = one_due n ∙ eq-eqb d now z

      due_stops : d ≡ now → 0 ≡ stays d
      due_stops z = sym (rw (eq-eqb d now z))

      -- it does not run
      rests : d ≡ 0 → (x u : ℕ) → Next (come_to t.book t.failing x u)
      rests z = unmoved (rw (v_is, z)) (λ o. rw z (zeros (eqb 0 now)))
        where
          zeros : (a : Bool) → ◌≡◌ {A = ℕ} 0 (pick a 0 0)
          zeros true = refl
          zeros false = refl

      -- it runs on
      runs : d ≢ 0 → d ≢ now → (x u : ℕ) → Next (come_to t.book t.failing x u)
      runs n z = unmoved (one_due n ∙ ne_eqb d now z) (λ o. sym (rw (ne_eqb d now z)))

      -- a timer put anew, and nothing else
      timer_moved : (c : List ℕ) → ((x : ℕ) → cells_at ≤ x → get_or c x 0 ≡ get_or t.book x 0) → length c ≡ book_halves → (y : ℕ) → y ≡ stays d
          → pick (good_to (suc k) && eqb v 1) (r + 1) r ≡ r → Moved (set c (timer_at (at k)) y)
      timer_moved c same c-long y is none =
          record {
            timer = λ o. get_or-set_same c (timer_at (at k)) y 0 (let z = at_small k in omega arith) ∙ is;
            timers = λ j h d. get_or-set_other c (timer_at (at k)) (timer_at (at j)) y 0 (λ z. other j h d (omega arith))
                ∙ same (timer_at (at j)) (omega arith);
            retries = far k ∙ r_here ∙ sym none;
            others = λ j h d. far j;
          }
        where
          far : (j : ℕ) → retries_in (set c (timer_at (at k)) y) (at j) ≡ retries_in t.book (at j)
          far j =
              get_or-set_other c (timer_at (at k)) (retries_at (at j)) y 0 (λ z. let u = at_small k in omega arith)
              ∙ same (retries_at (at j)) (omega arith)

      -- it comes to zero, and the end is Failing then: nothing is tried again; the book c differs in links at most
      fails : d ≡ now → good_to (suc k) ≡ false → (c : List ℕ) → ((x : ℕ) → cells_at ≤ x → get_or c x 0 ≡ get_or t.book x 0)
          → length c ≡ book_halves → (x u : ℕ)
          → Next (come_to (set c (timer_at (at k)) 0) true x u)
      fails z o c same c-long x u =
          further (come_to (set c (timer_at (at k)) 0) true x u) (sym (rw o)) (timer_moved c same c-long 0 (due_stops z) (rw o))
          (λ u. absurd (let p : ◌≡◌ {A = ℕ} 0 1 = cc in omega arith))

      -- at an end that is not: tried again
      tries : d ≢ 0 → d ≡ now → good_to k ≡ true → leb M r ≡ false → (x u : ℕ)
          → Next (come_to (appended tried_book layout.resends (cell_id (at k))) false x u)
      unfolding again
      tries n due y u x least =
          let z = due_one n due in
          let o : good_to (suc k) ≡ true = on_next ∙ rw (y, u) (ap not (and-false (eqb v 1))) in
          let q = due_stops due in
          let s = at_small k in
          further (come_to (appended tried_book layout.resends (cell_id (at k))) false x least) (sym (rw o))
          (record {
            timer = λ a. P.first ∙ q;
            timers = λ j h d. let a = at_small j in P.others (timer_at (at j)) (omega arith)
                (λ p. other j h d (omega arith)) (λ p. omega arith);
            retries = P.second ∙ ap (λ (a : ℕ). a + 1) r_here ∙ sym (rw (o, z));
            others = λ j h d. P.others (retries_at (at j)) (omega arith) (λ p. omega arith) (λ p. other j h d (omega arith));
          })
          (λ p. rw z (subst (Lines (appended tried_book layout.resends (cell_id (at k)))) (fun_ext joins) P.lines))
        where
          so_far : Lists
          so_far = λ r. pick (eqb r layout.resends) (l r ++ again k) (l r)

          none : (q : ℕ) → q < 4 → Memᴰ (cell_id (at k)) (so_far q) → ⊥
          none q h m =
              runs_alone i low e g t.book S.lists (open_now y) k hk (λ u. n (sym here ∙ u)) q h
              (subst (λ (xs : List ℕ). Memᴰ (cell_id (at k)) xs) (lists_are refl (C.queued y) S.within.lines q h) m)

          P : Put t.book (appended tried_book layout.resends (cell_id (at k))) so_far (timer_at (at k)) 0
              (retries_at (at k)) (r₁ + 1) 2 (cell_id (at k))
          P =
              let s = at_small k in
              put_both (C.queued y) (timer_at (at k)) 0 (retries_at (at k)) (r₁ + 1) 2 (cell_id (at k)) (omega arith)
              (omega arith) (omega arith) (omega arith)
              (omega (arith, id_low i low w g k)) (id_high i low w g k) none

          joins : (q : ℕ) → added so_far layout.resends (cell_id (at k)) q
              ≡ pick (eqb q layout.resends) (l q ++ (again k ++ (id_at i w k ∷ []))) (l q)
          joins q = sides (eqb q layout.resends)
            where
              sides : (a : Bool) → pick a (pick a (l q ++ again k) (l q) ++ (cell_id (at k) ∷ [])) (pick a (l q ++ again k) (l q))
                  ≡ pick a (l q ++ (again k ++ (id_at i w k ∷ []))) (l q)
              sides true = append_assoc (l q) (again k) (cell_id (at k) ∷ [])
              sides false = refl

      -- Failing before; tried again; or spent, so that the end is Failing and what of it waits goes
      by_end : d ≢ 0 → d ≡ now → (a : Bool) → t.failing ≡ a → (c : Bool) → ltb r₁ M ≡ c
          → Next (pick a (come_to timer_book true t.running t.least)
          (pick c (come_to (appended tried_book layout.resends (cell_id (at k))) false t.running t.least)
          (come_to (set (idled i e.run t.book) (timer_at (at k)) 0) true t.running t.least)))
      by_end n z true h c q = fails z (on_next ∙ rw (good_is true h)) t.book (λ u h. refl) long t.running t.least
      by_end n z false h true q = tries n z (good_is false h) (lt-leb M r (let y = ltb-true r₁ M q in let u = r_here in omega arith)) t.running t.least
      by_end n z false h false q =
          let y = ltb-false r₁ M q in
          let s : leb M r ≡ true = le-leb M r (omega (arith, r_here)) in
          let I = idle t.book S.lists i low S.within.lines e g (open_now (good_is false h)) in
          fails z (on_next ∙ rw (good_is false h, s, due_one n z))
          (idled i e.run t.book) I.cells I.within.lines.long t.running t.least

      by_timer : (a : Bool) → eqb n₁ 0 ≡ a → (c : Bool) → eqb n₁ now ≡ c
          → Next (pick a t (pick c (expired i e (at k) t) (come_to t.book t.failing (t.running + 1) (soonest t.least now n₁))))
      by_timer true h c q = rests (sym here ∙ eqb-true n₁ 0 h) t.running t.least
      by_timer false h true q =
          by_end (λ z. eqb-false n₁ 0 h (here ∙ z)) (sym here ∙ eqb-true n₁ now q) t.failing refl (ltb r₁ M) refl
      by_timer false h false q =
          runs (λ z. eqb-false n₁ 0 h (here ∙ z)) (λ z. eqb-false n₁ now q (here ∙ z)) (t.running + 1) (soonest t.least now n₁)

    -- ---- or it is

    by_place : past w k ≡ data_out b i → (a : Bool) → Next (pick a t (come_to t.book t.failing (t.running + 1) t.least))
    by_place under true = stood under t.running t.least
    by_place under false = stood under (t.running + 1) t.least

    step : Next (tick_slot now i e (data_out b i) k t)
    unfolding tick_slot
    step = sides (eqb (past w k) (data_out b i)) refl
      where
        sides : (a : Bool) → eqb (past w k) (data_out b i) ≡ a → Next (pick a (stood_cell n₁ t) (tick_cell now i e (at k) n₁ t))
        sides true z = by_place (eqb-true (past w k) (data_out b i) z) (eqb n₁ 0)
        sides false z = by_timer (eqb-false (past w k) (data_out b i) z) (eqb n₁ 0) refl (eqb n₁ now) refl

  pub come : (k : ℕ) → k ≤ e.run.handed → Come k (turns k)
  unfolding tick_slots flag listed again
  come zero h =
      record {
        failing = not_not f;
        fell = λ j l. absurd (omega arith);
        stands = λ j l s. refl;
        tried = λ j l. absurd (omega arith);
        untried = λ j l s. refl;
        queued = λ y. subst (Lines b) (fun_ext (λ r. append_none (l r) (eqb r layout.resends))) L;
      }
    where
      not_not : (a : Bool) → a ≡ not (not a)
      not_not true = refl
      not_not false = refl
  come (suc k) h = step k (omega arith) (come k (omega arith))

  -- ---- the numbers then

  pub on_beyond : (k : ℕ) → e.run.handed ≤ k → good_to k ≡ good_to e.run.handed
  on_beyond = beyond good_to e.run.handed (λ k h. on_more M (not f) N k ∙ rw (le-ltb k e.run.handed h) (and-true (good_to k)))

  -- of the end point in another state and with another run of the same window and as many handed out, in the book then
  module _ (st' : State) (r' : Run) (same_window : r'.window ≡ w) (same_handed : r'.handed ≡ e.run.handed)
      (narrow : e.run.taken ≤ w.size) where
    abbrev b' : List ℕ
    b' = (turns e.run.handed).book

    abbrev e' : EndPoint
    e' = turned_to e st' r'

    C' : Come e.run.handed (turns e.run.handed)
    C' = come e.run.handed (omega arith)

    abbrev N₁ : ℕ → Number
    N₁ = number_for (left_of now) st b' i e

    out_stays : data_out b' i ≡ data_out b i
    out_stays = (same_under i b b' (slots e.run.handed (omega arith)).under).data!

    payload_stays : (j : ℕ) → payload_for st b' i e' j ≡ payload_for st b i e j
    payload_stays j = rw (same_window, (slots e.run.handed (omega arith)).lengths (at j) (cell_low i low w g (past w j)))

    -- one that is not handed out has no timer, and waits for no retry
    retries_then : (j : ℕ) → j < e.run.taken → Dec (j < e.run.handed)
        → retries_in b' (at j) ≡ pick (good_to (suc j) && eqb (N j).timer 1) (retries_in b (at j) + 1) (retries_in b (at j))
    retries_then j h (yes d) = C'.tried j d
    retries_then j h (no d) =
        C'.untried j (omega arith) (omega arith)
        ∙ sym (rw (timer_unhanded was (left_zero c) st b i e j (omega arith), and-false (good_to (suc j))))

    -- what is left falls by one; the number under way has none left, before and afterwards
    timer_then : (j : ℕ) → Dec (j < e.run.handed) → Dec (past w j ≡ data_out b i) → (N₁ j).timer ≡ (N j).timer - 1
    timer_then j (yes d) (yes u) =
        timer_under (left_of now) (left_zero now) st b' i e j (u ∙ sym out_stays)
        ∙ ap (λ (x : ℕ). x - 1) (sym (timer_under was (left_zero c) st b i e j u))
    timer_then j (yes d) (no u) =
        timer_else (left_of now) (left_zero now) st b' i e j d (λ z. u (z ∙ out_stays))
        ∙ ap (left_of now) (C'.fell j d u) ∙ left_ticks c (timer_in b (at j)) clock (round j d u)
        ∙ ap (λ (x : ℕ). x - 1) (sym (timer_else was (left_zero c) st b i e j d u))
    timer_then j (no d) u =
        timer_unhanded (left_of now) (left_zero now) st b' i e j (omega arith)
        ∙ ap (λ (x : ℕ). x - 1) (sym (timer_unhanded was (left_zero c) st b i e j (omega arith)))

    number_falls : (j : ℕ) → j < e.run.taken → number_for (left_of now) st b' i e' j ≡ fallen (good_to (suc j)) (N j)
    number_falls j h =
        number_as (payload_stays j)
        (ap (λ (u : Window). retries_in b' (cell i u (past u j))) same_window ∙ retries_then j h (dec_lt j e.run.handed))
        (ap (ltb j) same_handed) (ap (λ (u : Window). held u j) same_window)
        (timer_as (left_of now) b' b' i i e.run r' j j (ap (ltb j) same_handed) (ap (λ (u : Window). eqb (past u j) (data_out b' i)) same_window)
        (ap (λ (u : Window). timer_in b' (cell i u (past u j))) same_window)
        ∙ timer_then j (dec_lt j e.run.handed) (ℕ_discrete (past w j) (data_out b i)))

    pub numbers_fall : listed e.run.taken (number_for (left_of now) st b' i e') ≡ ticked_all M (not f) (listed e.run.taken N)
    numbers_fall =
        listed_ext e.run.taken (number_for (left_of now) st b' i e') (λ j. fallen (good_to (suc j)) (N j))
        number_falls ∙ sym (ticked_listed M (not f) N e.run.taken)
