-- The payloads of an entry's numbers: what Good says of their lengths, and that a call on another entry, or on another slot of the same
-- entry, leaves them. Assumes nothing.
use Prim.Native.Nat.{ℕ, ◌≤◌, ◌<◌}
use mathlib.Core.Path.{◌≡◌, refl, sym, ap, ◌∙◌}
use mathlib.Core.Logic.{◌≢◌}
use mathlib.Core.Bool.{true, false, true≢false}
use mathlib.Core.List.{List}
use native.Mathlib.Omega.{arith}
use lib.ListN.{length, take, drop}
use lib.Seq.{sets, length-sets}
use Rattle.memory.specs.Layout.{length_at}
use Rattle.window.specs.Windows.{held, Good as GoodWindow}
use Rattle.window.specs.declared.Window.{Window}
use Rattle.window.proofs.Resetting.{new_held}
use Rattle.table.specs.Layout.{entry_of}
use Rattle.table.specs.Areas.{slots_of, store_of}
use Rattle.end_points.specs.Ends.{end_of}
use Rattle.end_points.specs.Heads.{count_in}
use Rattle.end_points.specs.States.{is_sends}
use Rattle.end_points.specs.declared.State.{State}
use Rattle.end_points.specs.declared.State.TheVariants as state
use Rattle.end_points.specs.declared.Run.{Run}
use Rattle.end_points.specs.declared.EndPoint.{EndPoint}
use Rattle.slots.specs.Slots.{slot_for, cell, past, spot, length_in}
use Rattle.blocks.specs.Payloads.{payload_at}
use Rattle.good.specs.Good.{Lists, Fresh, Filled, Stated, Good}
use Rattle.good.specs.Calls.{Memory}
use Rattle.good.proofs.Known.{stated_as}
use Rattle.good.proofs.Framing.{Within, Apart, entry_low, length_owner}
use Rattle.good.proofs.Stores.{slot_low, areas_stay, slots_stay}

-- the payload of the number k past the start, of end point e of entry i, and of that entry of a node
abbrev pub payload_by : List ℕ → List ℕ → ℕ → EndPoint → ℕ → List ℕ
payload_by st b i e k = payload_at st b i e.place e.entry.largest e.run.window k

abbrev pub payload_of : Memory → ℕ → ℕ → List ℕ
payload_of n i k = payload_by n.store n.book i (end_of n.node i) k

-- ---- what Good says of the payloads

fresh_taken : (r : Run) → Fresh r → (k : ℕ) → k < r.taken → ⊥
fresh_taken r f k h = let e = f.taken in omega arith

s_filled_at : (b : List ℕ) (l : Lists) (i : ℕ) (e : EndPoint) (s : State) → Stated b l i e true s → (k : ℕ) → k < e.run.taken
    → Filled b i e.run.window e.entry.largest k
s_filled_at b l i e state.Closed a k h = absurd (fresh_taken e.run a.fresh k h)
s_filled_at b l i e (state.Enabled t sent) a k h = absurd (fresh_taken e.run a.fresh k h)
s_filled_at b l i e state.Open a k h = a.sending.filled k h
s_filled_at b l i e (state.Failing n) a k h = a.sending.filled k h

-- a sender's numbers taken have payloads of 1 to P bytes
pub s_filled : (t ws b : List ℕ) (l : Lists) → Good t ws b l → (i : ℕ) → i < count_in ws → is_sends (end_of ws i).entry.kind ≡ true
    → (k : ℕ) → k < (end_of ws i).run.taken → Filled b i (end_of ws i).run.window (end_of ws i).entry.largest k
s_filled t ws b l g i li q k h =
    s_filled_at b l i (end_of ws i) (end_of ws i).state (stated_as b l i (end_of ws i) (g.entered i li) true q (end_of ws i).state refl) k h

-- and are at most W
pub s_narrow : (t ws b : List ℕ) (l : Lists) → Good t ws b l → (i : ℕ) → i < count_in ws → is_sends (end_of ws i).entry.kind ≡ true
    → (end_of ws i).run.taken ≤ (end_of ws i).run.window.size
s_narrow t ws b l g i li q =
    at (end_of ws i) (end_of ws i).state (stated_as b l i (end_of ws i) (g.entered i li) true q (end_of ws i).state refl)
  where
    at : (e : EndPoint) (s : State) → Stated b l i e true s → e.run.taken ≤ e.run.window.size
    at e state.Closed a = let z = a.fresh.taken in omega arith
    at e (state.Enabled t sent) a = let z = a.fresh.taken in omega arith
    at e state.Open a = a.sending.taken
    at e (state.Failing n) a = a.sending.taken

pub fresh_held : (r : Run) → Fresh r → (k : ℕ) → held r.window k ≡ true → ⊥
fresh_held r f k h = true≢false (sym h ∙ ap (λ (w : Window). held w k) f.window ∙ new_held r.window.size k)

r_filled_at : (b : List ℕ) (l : Lists) (i : ℕ) (e : EndPoint) (s : State) → Stated b l i e false s → (k : ℕ) → held e.run.window k ≡ true
    → Filled b i e.run.window e.entry.largest k
r_filled_at b l i e state.Closed a k h = absurd (fresh_held e.run a.fresh k h)
r_filled_at b l i e (state.Enabled t sent) a k h = absurd (fresh_held e.run a.0.fresh k h)
r_filled_at b l i e state.Open a k h = a.receiving.filled k h
r_filled_at b l i e (state.Failing n) a k h = absurd a

-- a receiver's numbers held have payloads
pub r_filled : (t ws b : List ℕ) (l : Lists) → Good t ws b l → (i : ℕ) → i < count_in ws → is_sends (end_of ws i).entry.kind ≡ false
    → (k : ℕ) → held (end_of ws i).run.window k ≡ true → Filled b i (end_of ws i).run.window (end_of ws i).entry.largest k
r_filled t ws b l g i li q k h =
    r_filled_at b l i (end_of ws i) (end_of ws i).state (stated_as b l i (end_of ws i) (g.entered i li) false q (end_of ws i).state refl) k h

-- ---- what is done elsewhere

-- a store after a call on entry j: as it was, or with a payload in one of that entry's slots
pub data Stored (t : List ℕ) (n : Memory) (st : List ℕ) (j : ℕ) : Type 0 where
  unaltered : st ≡ n.store → Stored t n st j
  put : (r : ℕ) (p : List ℕ) → j < count_in n.node → r < slots_of (entry_of t j).kind (entry_of t j).window → length p ≤ (end_of n.node j).entry.largest
      → st ≡ sets n.store (spot (end_of n.node j).place (end_of n.node j).entry.largest r) p → Stored t n st j

pub stored_long : (t : List ℕ) (n : Memory) (st : List ℕ) (j : ℕ) → Stored t n st j → length st ≡ length n.store
stored_long t n st j (unaltered e) = ap length e
stored_long t n st j (put r p hj hr hp e) = ap length e ∙ length-sets n.store (spot (end_of n.node j).place (end_of n.node j).entry.largest r) p

module _ (t : List ℕ) (n m : Memory) (l l' : Lists) (g : Good t n.node n.book l) (room : store_of t ≤ length n.store) (i j : ℕ) (li : i < count_in n.node) (d : i ≢ j)
    (a : Apart j n.node m.node) (v : Within j n.book m.book l l') (st : Stored t n m.store j) where
  pub end_stays : end_of m.node i ≡ end_of n.node i
  end_stays = a.others i d

  -- the payload of a number whose cell is filled stays
  pub payload_stays : (k : ℕ) → Filled n.book i (end_of n.node i).run.window (end_of n.node i).entry.largest k → payload_of m i k ≡ payload_of n i k
  payload_stays k f = rw (end_stays, same) (read st)
    where
      good_w : GoodWindow (end_of n.node i).run.window
      good_w = (g.entered i li).window

      same : length_in m.book (cell i (end_of n.node i).run.window (past (end_of n.node i).run.window k)) ≡ length_in n.book (cell i (end_of n.node i).run.window (past (end_of n.node i).run.window k))
      same =
          v.cells (length_at (cell i (end_of n.node i).run.window (past (end_of n.node i).run.window k))) (omega arith)
          (λ e. d (sym (length_owner i (entry_low t n.node n.book l g i li) (end_of n.node i).run.window good_w (past (end_of n.node i).run.window k)) ∙ e))

      read : Stored t n m.store j
          → take (length_in n.book (cell i (end_of n.node i).run.window (past (end_of n.node i).run.window k)))
          (drop (spot (end_of n.node i).place (end_of n.node i).entry.largest (slot_for (end_of n.node i).run.window (past (end_of n.node i).run.window k))) m.store)
          ≡ payload_of n i k
      read (unaltered e) = rw e
      read (put r p hj hr hp e) =
          rw e (areas_stay t n.node n.book l g i j (slot_for (end_of n.node i).run.window (past (end_of n.node i).run.window k)) r
          (length_in n.book (cell i (end_of n.node i).run.window (past (end_of n.node i).run.window k))) n.store p li hj (slot_low t n.node n.book l g i li (past (end_of n.node i).run.window k)) hr f.most hp room d)

-- ---- one of an entry's own slots put anew

module _ (t : List ℕ) (n : Memory) (l : Lists) (g : Good t n.node n.book l) (i : ℕ) (li : i < count_in n.node) where
  abbrev was : EndPoint
  was = end_of n.node i

  -- the payloads of the other slots stay
  pub payload_apart : store_of t ≤ length n.store → (r : ℕ) (p : List ℕ) → r < slots_of (entry_of t i).kind (entry_of t i).window → length p ≤ was.entry.largest
      → (b : List ℕ) (k : ℕ) → Filled n.book i was.run.window was.entry.largest k → slot_for was.run.window (past was.run.window k) ≢ r
      → length_in b (cell i was.run.window (past was.run.window k)) ≡ length_in n.book (cell i was.run.window (past was.run.window k))
      → payload_by (sets n.store (spot was.place was.entry.largest r) p) b i was k ≡ payload_of n i k
  payload_apart room r p hr hp b k f d same =
      rw same
      (slots_stay t n.node n.book l g i i (slot_for was.run.window (past was.run.window k)) r
      (length_in n.book (cell i was.run.window (past was.run.window k))) n.store p li li (slot_low t n.node n.book l g i li (past was.run.window k)) hr f.most hp room
      refl d)
