-- A call on one entry leaves what every other entry stands for; and so what the whole node stands for then, from what
-- that entry and what waits stand for. Assumes nothing.
use Prim.Native.Nat.{ℕ, ◌≤◌, ◌<◌}
use mathlib.Core.Path.{◌≡◌, refl, sym, ap, subst, ◌∙◌, fun_ext}
use mathlib.Core.Logic.{◌≢◌}
use mathlib.Core.Bool.{Bool, true, false, not, ◌&&◌}
use mathlib.Core.Option.{Option, none, some}
use mathlib.Core.List.{List}
use native.Mathlib.Omega.{arith}
use lib.ListN.{length, get_or, take, drop, replicate, set}
use lib.Dec.{eqb, ltb}
use lib.Seq.{sets}
use borrow.Author.Tests.{not-true, eq-eqb}
use Rattle.std.proofs.lemmas.Bool.{and_parts}
use Rattle.units.specs.Refusals.{pick}
use Rattle.waiting.specs.Port.{under_in, is_reset, data_out}
use Rattle.memory.specs.Layout.{cells_at, length_at, timer_at, retries_at}
use Rattle.window.specs.Windows.{held, Good as GoodWindow}
use Rattle.table.specs.Layout.{count_of, entry_of}
use Rattle.table.specs.Areas.{store_of, slots_of}
use Rattle.end_points.specs.Ends.{end_of}
use Rattle.end_points.specs.Heads.{count_in}
use Rattle.end_points.specs.States.{is_sends}
use Rattle.end_points.specs.Lent.{Lent}
use Rattle.end_points.specs.declared.State.{State}
use Rattle.end_points.specs.declared.State.TheVariants.{Closed, Enabled, Open, Failing}
use Rattle.end_points.specs.declared.EndPoint.{EndPoint}
use Rattle.end_points.specs.declared.Run.{Run}
use Rattle.timing.specs.Timing.{left_of}
use Rattle.slots.specs.Slots.{cell, past, spot, timer_in, retries_in}
use Rattle.call_hand_out.specs.Handing.{urgent_payload}
use Rattle.good.specs.Good.{Lists, Stated, Good}
use Rattle.good.specs.Calls.{Memory}
use Rattle.good.proofs.Turns.{Kept}
use Rattle.good.proofs.Known.{stated_as}
use Rattle.good.proofs.Framing.{Within, Apart, entry_low, timer_owner, retries_owner}
use Rattle.good.proofs.Stores.{urgent_low, areas_stay, read_own, slot_room}
use Rattle.good.proofs.Payloads.{s_filled, r_filled, Stored, unaltered, put, stored_long, payload_stays}
use Rattle.machine.specs.Machine.{End, Item, Sort, Out, number, stated, node, port, listed, turned}
use Rattle.refinement.specs.Standing.{Reading, read_at, payload_for, number_for, place_for, state_for, end_for, end_at, waiting_for, under_for, stands_for, Stands}
use Rattle.machine.proofs.Listed.{listed_ext, listed_replicate, set_listed}

-- ---- an end point stands for the same, in another book and store

-- a number, part by part
pub number_as : {p q : List ℕ} {r s : ℕ} {h k a c : Bool} {t u : ℕ} → p ≡ q → r ≡ s → h ≡ k → a ≡ c → t ≡ u → number p r h a t ≡ number q s k c u
number_as f r h a t = rw (f, r, h, a, t)

-- a timer, as it is read: it is the number's own where that was handed out and is not under way
abbrev pub timer_for : Reading → List ℕ → ℕ → Run → ℕ → ℕ
timer_for L b i r k =
    pick (ltb k r.handed && not (eqb (past r.window k) (data_out b i))) (L (timer_in b (cell i r.window (past r.window k)))) 0

pub timer_as : (L : Reading) (b b' : List ℕ) (i i' : ℕ) (r r' : Run) (k k' : ℕ) → ltb k' r'.handed ≡ ltb k r.handed
    → eqb (past r'.window k') (data_out b' i') ≡ eqb (past r.window k) (data_out b i)
    → timer_in b' (cell i' r'.window (past r'.window k')) ≡ timer_in b (cell i r.window (past r.window k))
    → timer_for L b' i' r' k' ≡ timer_for L b i r k
timer_as L b b' i i' r r' k k' h u t = parts h u (ap L t)
  where
    parts : {h g u v : Bool} {s t : ℕ} → h ≡ g → u ≡ v → s ≡ t → pick (h && not u) s 0 ≡ pick (g && not v) t 0
    parts a b c = rw (a, b, c)

module _ (L : Reading) (st st' b b' : List ℕ) (i : ℕ) (e : EndPoint) where
  abbrev Same : (List ℕ → ℕ → ℕ) → ℕ → Type 0
  Same read k = read b' (cell i e.run.window (past e.run.window k)) ≡ read b (cell i e.run.window (past e.run.window k))

  places_same : ((k : ℕ) → is_sends e.entry.kind ≡ false → held e.run.window k ≡ true → payload_for st' b' i e k
      ≡ payload_for st b i e k)
      → (k : ℕ) → place_for st' b' i e k ≡ place_for st b i e k
  places_same p k = sides (not (is_sends e.entry.kind) && held e.run.window k) refl
    where
      sides : (t : Bool) → (not (is_sends e.entry.kind) && held e.run.window k) ≡ t
          → ◌≡◌ {A = Option (List ℕ)} (pick t (some (payload_for st' b' i e k)) none) (pick t (some (payload_for st b i e k)) none)
      sides true h =
          let z = and_parts (not (is_sends e.entry.kind)) (held e.run.window k) h in
          ap some (p k (not-true (is_sends e.entry.kind) z.0) z.1)
      sides false h = refl

  pub numbers_same : data_out b' i ≡ data_out b i → (k : ℕ) → payload_for st' b' i e k ≡ payload_for st b i e k → Same retries_in k → Same timer_in k
      → number_for L st' b' i e k ≡ number_for L st b i e k
  numbers_same u k p r t = number_as p r refl refl (timer_as L b b' i i e.run e.run k k refl (ap (eqb (past e.run.window k)) u) t)

  abbrev urgent_in : List ℕ → Option (List ℕ)
  urgent_in st = pick (eqb e.run.urgent 0) none (some (urgent_payload st e))

  urgent_same : (is_sends e.entry.kind ≡ true → urgent_payload st' e ≡ urgent_payload st e)
      → (is_sends e.entry.kind ≡ false → e.run.urgent ≡ 0)
      → urgent_in st' ≡ urgent_in st
  urgent_same s r = sides (is_sends e.entry.kind) refl
    where
      sides : (t : Bool) → is_sends e.entry.kind ≡ t → urgent_in st' ≡ urgent_in st
      sides true h = rw (s h)
      sides false h = rw (eq-eqb e.run.urgent 0 (r h))

  pub end_same : is_reset (under_in b') i ≡ is_reset (under_in b) i
      → ((k : ℕ) → k < e.run.taken → number_for L st' b' i e k ≡ number_for L st b i e k)
      → ((k : ℕ) → is_sends e.entry.kind ≡ false → held e.run.window k ≡ true → payload_for st' b' i e k ≡ payload_for st b i e k)
      → (is_sends e.entry.kind ≡ true → urgent_payload st' e ≡ urgent_payload st e)
      → (is_sends e.entry.kind ≡ false → e.run.urgent ≡ 0)
      → end_for L st' b' i e ≡ end_for L st b i e
  unfolding end_for
  end_same reset ns ps us ur =
      rw (
        reset,
        listed_ext e.run.taken (number_for L st' b' i e) (number_for L st b i e) ns,
        listed_ext e.entry.window (place_for st' b' i e) (place_for st b i e) (λ k h. places_same ps k),
        urgent_same us ur,
      )

-- where only links alter, and what is under way, and every timer reads the same: all but the state, which sees whether a
-- Reset is under way
pub cells_read : (L : Reading) (st b b' : List ℕ) (i : ℕ) (e : EndPoint) → ((k : ℕ) → cells_at ≤ k → get_or b' k 0 ≡ get_or b k 0)
    → ((k : ℕ) → timer_for L b' i e.run k ≡ timer_for L b i e.run k)
    → end_for L st b' i e
    ≡ stated (state_for L (is_reset (under_in b') i) (listed e.run.taken (number_for L st b i e)) e.state) (end_for L st b i e)
unfolding end_for
cells_read L st b b' i e c u =
    rw (
      listed_ext e.run.taken (number_for L st b' i e) (number_for L st b i e)
          (λ k h. number_as (payload k) (c (retries_at (at k)) (omega arith)) refl refl (u k)),
      listed_ext e.entry.window (place_for st b' i e) (place_for st b i e) (λ k h. places_same L st st b b' i e (λ j s l. payload j) k),
    )
  where
    at : ℕ → ℕ
    at k = cell i e.run.window (past e.run.window k)

    payload : (k : ℕ) → payload_for st b' i e k ≡ payload_for st b i e k
    payload k = rw (c (length_at (at k)) (omega arith))

-- so where the same Data of entry i is under way
pub cells_but : (L : Reading) (st b b' : List ℕ) (i : ℕ) (e : EndPoint) → ((k : ℕ) → cells_at ≤ k → get_or b' k 0 ≡ get_or b k 0)
    → data_out b' i ≡ data_out b i
    → end_for L st b' i e
    ≡ stated (state_for L (is_reset (under_in b') i) (listed e.run.taken (number_for L st b i e)) e.state) (end_for L st b i e)
cells_but L st b b' i e c u =
    cells_read L st b b' i e c
    (λ k. timer_as L b b' i i e.run e.run k k refl (ap (eqb (past e.run.window k)) u) (c (timer_at (cell i e.run.window (past e.run.window k))) (omega arith)))

-- and where its Reset is too, or is not, the state as well
pub cells_as : (L : Reading) (st b b' : List ℕ) (i : ℕ) (e : EndPoint) → ((k : ℕ) → cells_at ≤ k → get_or b' k 0 ≡ get_or b k 0)
    → data_out b' i ≡ data_out b i → is_reset (under_in b') i ≡ is_reset (under_in b) i → end_for L st b' i e ≡ end_for L st b i e
unfolding end_for
cells_as L st b b' i e c u r =
    cells_but L st b b' i e c u
    ∙ ap (λ (z : Bool). stated (state_for L z (listed e.run.taken (number_for L st b i e)) e.state) (end_for L st b i e)) r

-- a sender has no places
pub no_places : (st b : List ℕ) (i : ℕ) (e : EndPoint) → is_sends e.entry.kind ≡ true
    → listed e.entry.window (place_for st b i e) ≡ replicate e.entry.window none
no_places st b i e k = listed_replicate e.entry.window (place_for st b i e) none (λ j. rw k)

-- nor has a window in which nothing is held
pub none_held : (st b : List ℕ) (i : ℕ) (e : EndPoint) → ((k : ℕ) → held e.run.window k ≡ false)
    → listed e.entry.window (place_for st b i e) ≡ replicate e.entry.window none
none_held st b i e h =
    listed_replicate e.entry.window (place_for st b i e) none (λ k. rw (h k) (sides (not (is_sends e.entry.kind)) k))
  where
    sides : (z : Bool) (k : ℕ) → ◌≡◌ {A = Option (List ℕ)} (pick (z && false) (some (payload_for st b i e k)) none) none
    sides true k = refl
    sides false k = refl

-- ---- what Good says of numbers and Urgents

module _ {t ws b : List ℕ} {l : Lists} (g : Good t ws b l) {i : ℕ} (li : i < count_in ws) where
  abbrev e : EndPoint
  e = end_of ws i

  -- a receiver takes no numbers and has no Urgent
  receiver_none : is_sends e.entry.kind ≡ false → (e.run.taken ≡ 0) × (e.run.urgent ≡ 0)
  receiver_none k = sides e.state (stated_as b l i e (g.entered i li) false k e.state refl)
    where
      sides : (s : State) → Stated b l i e false s → (e.run.taken ≡ 0) × (e.run.urgent ≡ 0)
      sides Closed a = (a.fresh.taken, a.fresh.urgent)
      sides (Enabled t sent) a = (a.0.fresh.taken, a.0.fresh.urgent)
      sides Open a = (a.receiving.taken, a.receiving.urgent)
      sides (Failing n) a = absurd a

  pub none_taken : is_sends e.entry.kind ≡ false → e.run.taken ≡ 0
  none_taken k = (receiver_none k).0

  pub no_urgent : is_sends e.entry.kind ≡ false → e.run.urgent ≡ 0
  no_urgent k = (receiver_none k).1

  pub urgent_most : is_sends e.entry.kind ≡ true → e.run.urgent ≤ e.entry.largest
  urgent_most k = sides e.state (stated_as b l i e (g.entered i li) true k e.state refl)
    where
      sides : (s : State) → Stated b l i e true s → e.run.urgent ≤ e.entry.largest
      sides Closed a = let z = a.fresh.urgent in omega arith
      sides (Enabled t sent) a = let z = a.fresh.urgent in omega arith
      sides Open a = a.sending.urgent
      sides (Failing n) a = a.sending.urgent

-- ---- a payload put into a slot of an entry's is read back

pub put_read : {t : List ℕ} (n : Memory) {l : Lists} (g : Good t n.node n.book l) → store_of t ≤ length n.store
    → {i : ℕ} (li : i < count_in n.node) (r : ℕ) (p : List ℕ) → r < slots_of (entry_of t i).kind (entry_of t i).window
    → length p ≤ (end_of n.node i).entry.largest
    → let at = spot (end_of n.node i).place (end_of n.node i).entry.largest r in take (length p) (drop at (sets n.store at p)) ≡ p
put_read {t} n {l} g room {i} li r p low most =
    read_own n.store p (spot (end_of n.node i).place (end_of n.node i).entry.largest r)
    (omega (arith, slot_room t n.node n.book l g i li r low, most, room))

-- ---- elsewhere: a call on entry j, seen from entry i

module _ (t : List ℕ) (n m : Memory) (l l' : Lists) (g : Good t n.node n.book l)
    (room : store_of t ≤ length n.store) (L : Reading) (i j : ℕ) (li : i < count_in n.node) (d : i ≢ j)
    (a : Apart j n.node m.node) (v : Within j n.book m.book l l') (st : Stored t n m.store j) where
  abbrev was : EndPoint
  was = end_of n.node i

  low : i < 16
  low = entry_low t n.node n.book l g i li

  window : GoodWindow was.run.window
  window = (g.entered i li).window

  retries_stay : (k : ℕ) → Same L n.store m.store n.book m.book i was retries_in k
  retries_stay k =
      v.cells (retries_at (cell i was.run.window (past was.run.window k))) (omega arith)
      (λ c. d (sym (retries_owner i low was.run.window window (past was.run.window k)) ∙ c))

  timer_stays : (k : ℕ) → Same L n.store m.store n.book m.book i was timer_in k
  timer_stays k =
      v.cells (timer_at (cell i was.run.window (past was.run.window k))) (omega arith)
      (λ c. d (sym (timer_owner i low was.run.window window (past was.run.window k)) ∙ c))

  payload_there : (k : ℕ) → payload_for m.store m.book i (end_of m.node i) k ≡ payload_for n.store n.book i was k
      → payload_for m.store m.book i was k ≡ payload_for n.store n.book i was k
  payload_there k h =
      subst (λ (e : EndPoint). payload_for m.store m.book i e k ≡ payload_for n.store n.book i was k) (a.others i d) h

  urgent_stays : is_sends was.entry.kind ≡ true → urgent_payload m.store was ≡ urgent_payload n.store was
  urgent_stays k = read st
    where
      read : Stored t n m.store j → urgent_payload m.store was ≡ urgent_payload n.store was
      read (unaltered e) = rw e
      read (put r p hj hr hp e) =
          rw e (areas_stay t n.node n.book l g i j was.run.window.size r was.run.urgent n.store p li hj
          (urgent_low t n.node n.book l g i li k) hr (urgent_most g li k) hp room d)

  taken_stays : (k : ℕ) → k < was.run.taken → payload_for m.store m.book i was k ≡ payload_for n.store n.book i was k
  taken_stays k h = sides (is_sends was.entry.kind) refl
    where
      sides : (s : Bool) → is_sends was.entry.kind ≡ s
          → payload_for m.store m.book i was k ≡ payload_for n.store n.book i was k
      sides true s = payload_there k (payload_stays t n m l l' g room i j li d a v st k (s_filled t n.node n.book l g i li s k h))
      sides false s = absurd (omega (arith, none_taken g li s))

  pub elsewhere : end_for L m.store m.book i (end_of m.node i) ≡ end_for L n.store n.book i was
  elsewhere =
      ap (end_for L m.store m.book i) (a.others i d)
      ∙ end_same L n.store m.store n.book m.book i was (v.under i low d).reset
      (λ k h. numbers_same L n.store m.store n.book m.book i was (v.under i low d).data! k (taken_stays k h) (retries_stay k) (timer_stays k))
      (λ k s h. payload_there k (payload_stays t n m l l' g room i j li d a v st k (r_filled t n.node n.book l g i li s k h)))
      urgent_stays (no_urgent g li)

-- ---- the whole node

-- what a call on entry i leaves of the memory n
pub record Leaves (t : List ℕ) (n m : Memory) (l : Lists) (i : ℕ) : Type 0 where
  pub lists : Lists
  pub good : Good t m.node m.book lists
  pub apart : Apart i n.node m.node
  pub within : Within i n.book m.book l lists
  pub stored : Stored t n m.store i
  pub under : under_in m.book ≡ under_in n.book

pub leaves : {t : List ℕ} {n : Memory} {store out : List ℕ} {y : Lent} {l : Lists} {i : ℕ}
    → Kept t (record { node = n.node; book = n.book; store = store; out = out }) y l i → (st : List ℕ) → Stored t n st i
    → Leaves t n (record { node = y.node; book = y.book; store = st }) l i
leaves k st s = record { lists = k.lists; good = k.good; apart = k.apart; within = k.within; stored = s; under = k.under }

-- entry i is read as it was: no tick has passed
pub end_at_holds : {t : List ℕ} {n m : Memory} {l : Lists} {i : ℕ} → Leaves t n m l i → {e : EndPoint} → end_of m.node i ≡ e
    → end_at m i ≡ end_for (read_at n) m.store m.book i e
end_at_holds {n = n} {m = m} {i = i} k end =
    ap (λ (c : ℕ). end_for (left_of c) m.store m.book i (end_of m.node i)) k.apart.clock
    ∙ ap (end_for (read_at n) m.store m.book i) end

-- nothing was altered
pub still : {t : List ℕ} {n : Memory} {l : Lists} → Good t n.node n.book l → store_of t ≤ length n.store
    → Stands t n (stands_for t n l)
still {l = l} g room = record { lists = l; good = g; room = room; is = refl }

-- entry i turned to what it was
pub turned_same : {t : List ℕ} (n : Memory) {l : Lists} → Good t n.node n.book l → {i : ℕ} → i < count_in n.node
    → stands_for t n l ≡ turned i (end_at n i) (stands_for t n l)
turned_same {t} n {l} g {i} li =
    ap (λ (es : List End). node (stands_for t n l) es (stands_for t n l).waiting)
    (set_listed (count_of t) (end_at n) (end_at n) i (end_at n i) (let c = g.tabled.count in omega arith) refl (λ j h d. refl))

-- entry i stands for E now, what waits for w, and what is under way for u
pub ported_stands : {t : List ℕ} {n : Memory} {l : Lists} (g : Good t n.node n.book l) → store_of t ≤ length n.store
    → {i : ℕ} → i < count_in n.node → {m : Memory} {l' : Lists} → Good t m.node m.book l' → Apart i n.node m.node
    → Within i n.book m.book l l' → Stored t n m.store i → {E : End} {w : Sort → List Item} {u : Option Out}
    → end_at m i ≡ E → ((q : Sort) → waiting_for m.node l' q ≡ w q) → under_for (under_in m.book) ≡ u
    → Stands t m (port u (node (stands_for t n l) (set (listed (count_of t) (end_at n)) i E) w))
ported_stands {t} {n} {l} g room {i} li {m} {l'} good apart within stored {E} here waits under =
    let c = g.tabled.count in
    let long = stored_long t n m.store i stored in
    record {
      lists = l';
      good = good;
      room = rw long room;
      is = rw (long, set_listed (count_of t) (end_at n) (end_at m) i E (omega arith) here away, fun_ext waits, under);
    }
  where
    away : (j : ℕ) → j < count_of t → j ≢ i → end_at m j ≡ end_at n j
    away j h d =
        ap (λ (c : ℕ). end_for (left_of c) m.store m.book j (end_of m.node j)) apart.clock
        ∙ elsewhere t n m l l' g room (read_at n) j i (omega (arith, g.tabled.count)) d apart within stored

-- and what is under way is as it was
pub turned_stands : {t : List ℕ} {n : Memory} {l : Lists} (g : Good t n.node n.book l) → store_of t ≤ length n.store
    → {i : ℕ} → i < count_in n.node → {m : Memory} (k : Leaves t n m l i) {E : End} {w : Sort → List Item}
    → end_at m i ≡ E → ((q : Sort) → waiting_for m.node k.lists q ≡ w q)
    → Stands t m (node (stands_for t n l) (set (listed (count_of t) (end_at n)) i E) w)
turned_stands g room li k here waits = ported_stands g room li k.good k.apart k.within k.stored here waits (ap under_for k.under)
