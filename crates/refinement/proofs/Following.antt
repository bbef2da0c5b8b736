-- What the calls on one entry share: a verdict and its answer, what Good says of the entry before and after, a window
-- begun anew, and the number that a payload waits as. Assumes nothing.
use Prim.Native.Nat.{ℕ, ◌≤◌, ◌<◌}
use mathlib.Core.Path.{◌≡◌, refl, sym, ap, subst, ◌∙◌}
use mathlib.Core.Bool.{Bool, true, false}
use mathlib.Core.List.{List, [], ◌∷◌}
use native.Mathlib.Decide.{dec_lt}
use native.Mathlib.Omega.{arith}
use lib.ListN.{length}
use lib.Dec.{leb}
use borrow.Author.Tests.{le-leb, lt-leb}
use Rattle.units.specs.Refusals.{pick, verdict, Verdict}
use Rattle.units.specs.declared.refusals.Refusal.{Refusal}
use Rattle.units.specs.declared.refusals.Refusal.TheVariants.{NoEntry}
use Rattle.window.specs.Windows.{held, Good as GoodWindow}
use Rattle.window.proofs.Sizes.{size_le}
use Rattle.window.specs.declared.Window.{Window}
use Rattle.window.proofs.Resetting.{new_held}
use Rattle.table.specs.Layout.{count_of}
use Rattle.table.specs.Areas.{store_of}
use Rattle.table.specs.declared.Entry.{Entry}
use Rattle.end_points.specs.Ends.{end_of}
use Rattle.end_points.specs.Heads.{count_in}
use Rattle.end_points.specs.Runs as runs
use Rattle.end_points.specs.Answers.{answer_of}
use Rattle.end_points.specs.declared.State.{State}
use Rattle.end_points.specs.declared.State.TheVariants.{Closed, Enabled, Open, Failing}
use Rattle.end_points.specs.declared.EndPoint.{EndPoint}
use Rattle.end_points.specs.States.{is_sends, is_closed, is_open}
use Rattle.end_points.specs.declared.Run.{Run}
use Rattle.slots.specs.Slots.{slot_for, past}
use Rattle.memory.specs.Layout.{id_slot}
use Rattle.waiting.specs.Port.{under_in, is_reset}
use Rattle.good.specs.Good.{Lists, Sending, Stated, Entered, Good, id_at}
use Rattle.good.specs.Calls.{Memory, answer, after}
use Rattle.machine.specs.Calls.{Call}
use Rattle.good.proofs.Stores.{end_entry, end_size}
use Rattle.good.proofs.Framing.{slot_lt, entry_low, apart_count}
use Rattle.good.proofs.Known.{stated_as}
use Rattle.good.proofs.Offsets.{id_owner, number_at}
use Rattle.good.proofs.Turns.{turned_to}
use Rattle.machine.specs.Machine.{End, Machine, Outcome, listed, anew, answers, judged, on_entry, step}
use Rattle.refinement.specs.Standing.{Reading, state_for, number_for, end_for, end_at, slot_item, stands_for, Stands, Follows}
use Rattle.machine.proofs.Listed.{elem_listed, elem_none}
use Rattle.refinement.proofs.Elsewhere.{none_held, Leaves, still}
use Rattle.std.specs.Prelude.{Ok, Err}

-- ---- a call on entry i that answers a verdict

-- the call c, by the verdict of its tests: refused, or with the outcome o. The machine makes f of an entry.
pub follows : {t : List ℕ} {n : Memory} {l : Lists} → Good t n.node n.book l → store_of t ≤ length n.store
    → (i : ℕ) {c : Call} (tests : List (Bool × Refusal)) (o : Outcome) (f : End → Outcome)
    → let m = stands_for t n l in
    let v = verdict ((leb (count_in n.node) i, NoEntry) ∷ tests) in
    step m c ≡ on_entry m i f
    → (i < count_in n.node → f (end_at n i) ≡ judged (verdict tests) [] m o)
    → ((w : Refusal) → v ≡ Err w → (answer n c ≡ (answers (answer_of (Err w)) [] m).answer) × (after n c ≡ n))
    → (i < count_in n.node → v ≡ Ok tt → (answer n c ≡ o.answer) × Stands t (after n c) o.machine) → Follows t n m c
follows {t} {n} {l} g room i {c} tests o f steps same refused passed = sides (dec_lt i (count_in n.node))
  where
    M : Machine
    M = stands_for t n l

    v : Verdict
    v = verdict ((leb (count_in n.node) i, NoEntry) ∷ tests)

    refuses : (w : Refusal) → v ≡ Err w → step M c ≡ answers (answer_of (Err w)) [] M → Follows t n M c
    refuses w h s = record { answers = rw s (refused w h).0; stands = rw (s, (refused w h).1) (still g room) }

    by : i < count_in n.node → (u : Verdict) → v ≡ u → step M c ≡ judged u [] M o → Follows t n M c
    by li (Ok _) h s = record { answers = rw s (passed li h).0; stands = rw s (passed li h).1 }
    by li (Err w) h s = refuses w h s

    sides : Dec (i < count_in n.node) → Follows t n M c
    sides (yes li) =
        let k : verdict tests ≡ v = sym (rw (lt-leb (count_in n.node) i li)) in
        by li v refl (steps ∙ rw (elem_listed (count_of t) (end_at n) i (omega (arith, g.tabled.count))) (same li
        ∙ ap (λ (u : Verdict). judged u [] M o) k))
    sides (no h) =
        refuses NoEntry (rw (le-leb (count_in n.node) i (omega arith)))
        (steps ∙ rw (elem_none (count_of t) (end_at n) i (omega (arith, g.tabled.count))))

-- ---- a state, however its timer is read

-- in the book b, at an end point that is otherwise e
abbrev pub state_in : Reading → List ℕ → List ℕ → ℕ → EndPoint → State → State
state_in L st b i e = state_for L (is_reset (under_in b) i) (listed e.run.taken (number_for L st b i e))

pub closed_for : (L : Reading) (st b : List ℕ) (i : ℕ) (e : EndPoint) (s : State) → is_closed (state_in L st b i e s) ≡ is_closed s
closed_for L st b i e Closed = refl
closed_for L st b i e (Enabled d sent) = refl
closed_for L st b i e Open = refl
closed_for L st b i e (Failing n) = refl

pub open_for : (L : Reading) (st b : List ℕ) (i : ℕ) (e : EndPoint) (s : State) → is_open (state_in L st b i e s) ≡ is_open s
open_for L st b i e Closed = refl
open_for L st b i e (Enabled d sent) = refl
open_for L st b i e Open = refl
open_for L st b i e (Failing n) = refl

-- ---- the entry then, as Good states it

pub stated_then : {t : List ℕ} {n m : Memory} {l : Lists} {i : ℕ} (k : Leaves t n m l i) → i < count_in n.node
    → (z : Bool) → is_sends (end_of n.node i).entry.kind ≡ z → (s : State) {r : Run}
    → end_of m.node i ≡ turned_to (end_of n.node i) s r
    → Stated m.book k.lists i (turned_to (end_of n.node i) s r) z s
stated_then {n = n} {m = m} {i = i} k li z kind s {r} e =
    stated_as m.book k.lists i (turned_to (end_of n.node i) s r)
    (subst (Entered m.book k.lists i) e (k.good.entered i (rw (apart_count i n.node m.node k.apart) li))) z kind s refl

-- ---- a window begun anew

pub begun_end : (L L₀ : Reading) (st b st₀ b₀ : List ℕ) (i : ℕ) (e : EndPoint) (s : State)
    → end_for L st b i (turned_to e s (runs.anew e.run)) ≡ anew (state_for L (is_reset (under_in b) i) [] s) (end_for L₀ st₀ b₀ i e)
unfolding end_for runs.anew listed
begun_end L L₀ st b st₀ b₀ i e s = rw (none_held st b i (turned_to e s (runs.anew e.run)) (new_held e.run.window.size))

-- as Enabled: no timer of it runs, whatever is under way
pub enabled_end : (L : Reading) → L 0 ≡ 0 → (L₀ : Reading) (st b st₀ b₀ : List ℕ) (i : ℕ) (e : EndPoint) (sent : Bool)
    → end_for L st b i (turned_to e (Enabled 0 sent) (runs.anew e.run)) ≡ anew (Enabled 0 sent) (end_for L₀ st₀ b₀ i e)
enabled_end L zero L₀ st b st₀ b₀ i e sent =
    begun_end L L₀ st b st₀ b₀ i e (Enabled 0 sent)
    ∙ ap (λ (z : ℕ). anew (Enabled z sent) (end_for L₀ st₀ b₀ i e)) (none (is_reset (under_in b) i))
  where
    none : (u : Bool) → pick u 0 (L 0) ≡ 0
    none true = refl
    none false = zero

-- ---- a payload that waits

-- the number k past the start of a window, which is entry i's, waits as that number
pub item_for : (ws : List ℕ) (i : ℕ) → i < 16 → (w : Window) → (end_of ws i).run.window ≡ w → GoodWindow w → (k : ℕ) → k < w.size
    → slot_item ws (id_at i w k) ≡ record { entry = i; number = past w k }
item_for ws i low w e g k h =
    let s = slot_lt w (past w k) g in
    let z = size_le w.size g.sized in
    let d : id_slot (id_at i w k) ≡ slot_for w (past w k) = omega arith in
    rw (id_owner i low w g k, e, d, number_at w g k h)

pub item_at : (ws : List ℕ) (i : ℕ) → i < 16 → GoodWindow (end_of ws i).run.window → (k : ℕ) → k < (end_of ws i).run.window.size
    → slot_item ws (id_at i (end_of ws i).run.window k) ≡ record { entry = i; number = past (end_of ws i).run.window k }
item_at ws i low g k h = item_for ws i low (end_of ws i).run.window refl g k h

-- ---- what Good says of entry i

module _ {t ws b : List ℕ} {l : Lists} (g : Good t ws b l) {i : ℕ} (li : i < count_in ws) where
  pub low_at : i < 16
  low_at = entry_low t ws b l g i li

  -- of its kind and state
  pub stated_at : (k : Bool) → is_sends (end_of ws i).entry.kind ≡ k → (s : State) → (end_of ws i).state ≡ s → Stated b l i (end_of ws i) k s
  stated_at = stated_as b l i (end_of ws i) (g.entered i li)

  -- the window is as large as the entry says
  pub size_is : (end_of ws i).run.window.size ≡ (end_of ws i).entry.window
  size_is = end_size t ws b l g i li ∙ ap (λ (x : Entry). x.window) (sym (end_entry t ws b l g i li))

-- ---- a number that was not handed out is not acknowledged

pub unheld : {b : List ℕ} {i : ℕ} {r : Run} {largest : ℕ} → Sending b i r largest → (k : ℕ) → r.handed ≤ k → held r.window k ≡ false
unheld {r = r} S k h = sides (held r.window k) refl
  where
    sides : (z : Bool) → held r.window k ≡ z → z ≡ false
    sides true z = absurd (omega (arith, S.acked k z))
    sides false z = refl
