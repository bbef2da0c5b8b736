-- A Reset and Data taken in by a receiver keep a good node good. Assumes nothing.
use Prim.Native.Nat.{ℕ, suc, ◌+◌, ◌*◌, ◌/◌, ◌%◌, ◌≤◌, ◌<◌}
use mathlib.Core.Path.{◌≡◌, refl, sym, ap, subst, ◌∙◌}
use mathlib.Core.Logic.{◌≢◌, ◌⊎◌, inl, inr}
use mathlib.Core.Bool.{Bool, true, false, true≢false}
use mathlib.Core.List.Memᴰ
use mathlib.Core.List.{List, [], ◌∷◌, ◌++◌, Memᴰ}
use native.Mathlib.Decide.{ℕ_discrete}
use native.Mathlib.Omega.{arith}
use lib.ListN.{length, set}
use lib.Seq.{get_or-set_same, get_or-set_other}
use lib.Dec.{eqb}
use borrow.Author.Tests.{ltb-true}
use Rattle.units.specs.Refusals.{pick}
use Rattle.memory.specs.Layout.{under_at, length_at, node_words, book_halves}
use Rattle.waiting.specs.Acks.{place_of, waiting_of, dropped}
use Rattle.waiting.specs.Order.{acks_in, not_of}
use Rattle.waiting.proofs.Ringed.{Ring, from_length, push_acks, push_ring, drop_acks, drop_ring}
use Rattle.window.specs.Windows.{offset_of, inside_of, held, accept_of, pass_of, run_of, Good as GoodWindow}
use Rattle.window.specs.declared.Window.{Window}
use Rattle.window.proofs.Accepting.{found_new, accept_size, accept_good, accept_held}
use Rattle.window.proofs.Passing.{pass_good, pass_held, pass_first, pass_size}
use Rattle.window.proofs.Holding.{held_below_holds}
use Rattle.window.proofs.Resetting.{new_held, reset_good}
use Rattle.window.proofs.WindowLaw.{distance_back}
use Rattle.end_points.specs.Ends.{end_of, saved}
use Rattle.end_points.specs.Heads.{count_in}
use Rattle.end_points.specs.States.{is_sends}
use Rattle.end_points.specs.Runs.{is_new, anew}
use Rattle.end_points.specs.Lent.{Lent}
use Rattle.end_points.specs.declared.State.TheVariants.{Open}
use Rattle.end_points.specs.declared.Run.{Run}
use Rattle.end_points.specs.declared.EndPoint.{EndPoint}
use Rattle.slots.specs.Slots.{cell, past, length_in}
use Rattle.arrive_data.specs.Receiving.{acknowledged, reset_after, reset_node, with_window, window_node, put_book}
use Rattle.arrive_data.specs.Receiving.{first_time, repeated, data_after}
use Rattle.arrive_data.proofs.Taking.{data_after_new, data_after_other}
use Rattle.timing.specs.Timing.{clock_in, quiet_in}
use Rattle.good.specs.Good.{Lists, Filled, OpenReceiver, Entered, Timely, Owed, Good}
use Rattle.good.proofs.Known.{is_new_holds, either, stated_as, entered_as, receiver_silent}
use Rattle.good.proofs.Framing.{Within, within_same, within_set, Apart, apart_then, apart_saved, framed, apart_count, apart_timely, count_low, entry_low, cell_low, length_owner}
use Rattle.good.proofs.Offsets.{cell_inj, cell_pass}
use Rattle.good.proofs.RunSets.{window_puts, window_end}
use Rattle.good.proofs.Turns.{run_fits, turned_to, end_saved, anew_fits, anew_size, ring_of, saved_acks, owed_other, owed_open, push_apart, push_end, drop_apart, drop_end, not_in, Kept}

-- ---- general

length_not : (i : ℕ) (l : List ℕ) → length (not_of i l) ≤ length l
length_not i [] = omega arith
length_not i (x ∷ xs) = sides (length_not i xs) (eqb (x / 256 % 256) i)
  where
    sides : length (not_of i xs) ≤ length xs → (t : Bool) → length (pick t (not_of i xs) (x ∷ not_of i xs)) ≤ suc (length xs)
    sides h true = omega arith
    sides h false = omega arith

-- ---- a receiver's end point is Open, however it was put back, with acknowledgements that are others' or its own

module _ (t ws b : List ℕ) (l : Lists) (g : Good t ws b l) (i : ℕ) (li : i < count_in ws)
    (k : is_sends (end_of ws i).entry.kind ≡ false) where
  receiver_put : (ws' : List ℕ) → Apart i ws ws' → waiting_of ws' ≤ 32
      → ((w : ℕ) → Memᴰ w (acks_in ws') → (Owed ws w × (w / 256 ≢ i)) ⊎ (w / 256 ≡ i))
      → (r : Run) → end_of ws' i ≡ turned_to (end_of ws i) Open r
      → (b' : List ℕ) → Within i b b' l l → Entered b' l i (turned_to (end_of ws i) Open r) → Good t ws' b' l
  receiver_put ws' whole most acks r now b' v e =
      framed i ws ws' whole t b b' l l g v li most (λ w m. owed w (acks w m)) (subst (Entered b' l i) (sym now) e)
      (subst (λ (z : EndPoint). Timely (clock_in ws') (quiet_in ws') b' i z z.state) (sym now)
      (λ j h. absurd (omega (arith, none))))
    where
      -- a receiver hands out no data
      none : r.handed ≡ 0
      none = (stated_as b' l i (turned_to (end_of ws i) Open r) e false k Open refl).receiving.handed

      owed : (w : ℕ) → (Owed ws w × (w / 256 ≢ i)) ⊎ (w / 256 ≡ i) → Owed ws' w
      owed w (inl o) = owed_other i ws ws' whole w o.0 o.1
      owed w (inr h) =
          record { known = rw (h, apart_count i ws ws' whole) li; receives = rw (h, now) k; opened = rw (h, now) }

-- ---- a Reset

module _ (t : List ℕ) (x : Lent) (l : Lists) (g : Good t x.node x.book l) (i : ℕ) (li : i < count_in x.node)
    (k : is_sends (end_of x.node i).entry.kind ≡ false) where
  ring : Ring x.node
  ring = ring_of t x.node x.book l g

  shorter : waiting_of (dropped i x.node) ≤ waiting_of x.node
  shorter =
      let a = from_length x.node (place_of x.node) (waiting_of x.node) in
      let c = from_length (dropped i x.node) (place_of (dropped i x.node)) (waiting_of (dropped i x.node)) in
      let d = ap length (drop_acks i x.node ring) in
      omega (arith, length_not i (acks_in x.node))

  -- what of the others' is left stays owed
  left_owed : (w : ℕ) → Memᴰ w (not_of i (acks_in x.node)) → Owed x.node w × (w / 256 ≢ i)
  left_owed w m =
      let p = not_in i (acks_in x.node) w m in
      let o = g.owed w p.0 in
      let c = count_low t x.node x.book l g in
      (o, λ h. p.1 (let z = o.known in omega arith))

  reset_entered : Entered x.book l i (turned_to (end_of x.node i) Open (anew (end_of x.node i).run))
  unfolding anew
  reset_entered =
      let e = end_of x.node i in
      let a = g.entered i li in
      let none = new_held e.run.window.size in
      entered_as x.book l i (turned_to e Open (anew e.run)) (reset_good e.run.window a.window) false k Open refl
      (record {
        receiving = record { taken = refl; handed = refl; urgent = refl; first = none 0; filled = λ n h. absurd (true≢false (sym h ∙ none n)) };
        silent = receiver_silent x.book l i e e.state (stated_as x.book l i e a false k e.state refl);
      })

  -- the node before the end point is put back
  pub reset_acks : waiting_of x.node < 32 → acks_in (acknowledged (dropped i x.node) i 0) ≡ not_of i (acks_in x.node) ++ ((i * 256 + 0) ∷ [])
  reset_acks h =
      push_acks (dropped i x.node) (drop_ring i x.node ring) (i * 256 + 0) (omega (arith, shorter)) ∙ ap (λ (ws : List ℕ). ws ++ ((i * 256 + 0) ∷ [])) (drop_acks i x.node ring)

  reset_apart : Apart i x.node (acknowledged (dropped i x.node) i 0)
  reset_apart =
      apart_then i x.node (dropped i x.node) (acknowledged (dropped i x.node) i 0) (drop_apart i i x.node ring)
      (push_apart i (dropped i x.node) (i * 256 + 0) (drop_ring i x.node ring))

  reset_same : end_of (acknowledged (dropped i x.node) i 0) i ≡ end_of x.node i
  reset_same = push_end i (dropped i x.node) (i * 256 + 0) (drop_ring i x.node ring) ∙ drop_end i i x.node ring

  pub reset_end : end_of (reset_after x i (end_of x.node i)).node i ≡ turned_to (end_of x.node i) Open (anew (end_of x.node i).run)
  unfolding reset_after reset_node
  reset_end =
      end_saved (acknowledged (dropped i x.node) i 0) i Open (anew (end_of x.node i).run) (reset_apart.long ∙ g.long)
      (entry_low t x.node x.book l g i li) tt (anew_fits (end_of x.node i).run (run_fits x.node i)) (rw reset_same (anew_size (end_of x.node i).run))
      ∙ ap (λ (e : EndPoint). turned_to e Open (anew (end_of x.node i).run)) reset_same

  pub reset_keeps : waiting_of x.node < 32 → Kept t x (reset_after x i (end_of x.node i)) l i
  unfolding reset_after reset_node
  reset_keeps h =
      record {
        lists = l;
        good =
            receiver_put t x.node x.book l g i li k (saved vs i Open r) whole
            (rw same.0
            (push_ring (dropped i x.node) (drop_ring i x.node ring) (i * 256 + 0) (omega (arith, shorter))).most)
            (λ w m. sides w (Memᴰ.append_cases (not_of i (acks_in x.node))
            (subst (λ (ws : List ℕ). Memᴰ w ws) (same.1 ∙ reset_acks h) m)))
            r reset_end x.book (within_same i x.book l g.lines) reset_entered;
        apart = whole;
        within = within_same i x.book l g.lines;
        under = refl;
      }
    where
      vs : List ℕ
      vs = acknowledged (dropped i x.node) i 0

      r : Run
      r = anew (end_of x.node i).run

      whole : Apart i x.node (saved vs i Open r)
      whole = apart_then i x.node vs (saved vs i Open r) reset_apart (apart_saved i vs Open r)

      same : (waiting_of (saved vs i Open r) ≡ waiting_of vs) × (acks_in (saved vs i Open r) ≡ acks_in vs)
      same = saved_acks vs i Open r

      sides : (w : ℕ) → Memᴰ w (not_of i (acks_in x.node)) ⊎ Memᴰ w ((i * 256 + 0) ∷ []) → (Owed x.node w × (w / 256 ≢ i)) ⊎ (w / 256 ≡ i)
      sides w (inl m) = inl (left_owed w m)
      sides w (inr m) = inr (let e = Memᴰ.eq_of_singleton m in omega arith)

-- ---- Data

-- a number in the window and new, as the book has the numbers then
module _ (b : List ℕ) (long : length b ≡ book_halves) (i : ℕ) (low : i < 16) (w : Window) (g : GoodWindow w) (s : ℕ) (byte : s < 256) (new : is_new (accept_of w s).found ≡ true) where
  inside : inside_of w s ≡ true
  inside = (found_new w s (is_new_holds (accept_of w s).found new)).0

  pub offset_lt : offset_of w s < w.size
  offset_lt = ltb-true (offset_of w s) w.size inside

  -- its own cell is that of its offset
  pub own_cell : cell i w s ≡ cell i w (past w (offset_of w s))
  own_cell = ap (cell i w) (sym (distance_back w.start.0 s g.byte byte))

  pub length_own : (n : ℕ) → length_in (set b (length_at (cell i w s)) n) (cell i w (past w (offset_of w s))) ≡ n
  length_own n =
      ap (λ (c : ℕ). length_in (set b (length_at (cell i w s)) n) c) (sym own_cell)
      ∙ get_or-set_same b (length_at (cell i w s)) n 0 (omega (arith, cell_low i low w g s))

  pub length_other : (n m : ℕ) → m < w.size → m ≢ offset_of w s → length_in (set b (length_at (cell i w s)) n) (cell i w (past w m)) ≡ length_in b (cell i w (past w m))
  length_other n m h d =
      get_or-set_other b (length_at (cell i w s)) (length_at (cell i w (past w m))) n 0
      (λ e. d (cell_inj w g i m (offset_of w s) h offset_lt (let z = own_cell in omega arith)))

  -- those held then have their payloads
  filled_then : (n largest : ℕ) → 1 ≤ n → n ≤ largest → ((k : ℕ) → held w k ≡ true → Filled b i w largest k) → (m : ℕ) → held (accept_of w s).window m ≡ true
      → (1 ≤ length_in (set b (length_at (cell i w s)) n) (cell i w (past w m))) × (length_in (set b (length_at (cell i w s)) n) (cell i w (past w m)) ≤ largest)
  filled_then n largest some most f m h = sides (ℕ_discrete m (offset_of w s)) (either m (offset_of w s) (held w m) (sym (accept_held w s g inside m) ∙ h))
    where
      sides : Dec (m ≡ offset_of w s) → (m ≡ offset_of w s) ⊎ (held w m ≡ true)
          → (1 ≤ length_in (set b (length_at (cell i w s)) n) (cell i w (past w m))) × (length_in (set b (length_at (cell i w s)) n) (cell i w (past w m)) ≤ largest)
      sides (yes e) q = rw (e, length_own n) (some, most)
      sides (no d) (inl q) = absurd (d q)
      sides (no d) (inr q) = rw (length_other n m (held_below_holds w g m q) d) ((f m q).some, (f m q).most)

module _ (t : List ℕ) (x : Lent) (l : Lists) (g : Good t x.node x.book l) (i : ℕ) (li : i < count_in x.node)
    (k : is_sends (end_of x.node i).entry.kind ≡ false) (o : (end_of x.node i).state ≡ Open) (s : ℕ) (byte : s < 256) (p : List ℕ)
    (some : 1 ≤ length p) (most : length p ≤ (end_of x.node i).entry.largest) (room : waiting_of x.node < 32) where
  abbrev e : EndPoint
  e = end_of x.node i

  abbrev w : Window
  w = (end_of x.node i).run.window

  abbrev a : Window
  a = (accept_of (end_of x.node i).run.window s).window

  abbrev v : Window
  v = (pass_of (accept_of (end_of x.node i).run.window s).window).window

  good_w : GoodWindow w
  good_w = (g.entered i li).window

  good_a : GoodWindow a
  good_a = accept_good w s good_w

  was : OpenReceiver x.book l i e
  was = stated_as x.book l i e (g.entered i li) false k Open o

  small : i < 16
  small = entry_low t x.node x.book l g i li

  acks_ring : Ring x.node
  acks_ring = ring_of t x.node x.book l g

  apart_acked : Apart i x.node (acknowledged x.node i s)
  apart_acked = push_apart i x.node (i * 256 + s) acks_ring

  end_acked : end_of (acknowledged x.node i s) i ≡ end_of x.node i
  end_acked = push_end i x.node (i * 256 + s) acks_ring

  v_size : v.size ≡ w.size
  v_size = pass_size a ∙ accept_size w s

  data_entered : is_new (accept_of w s).found ≡ true → Entered (put_book x.book i e s p) l i (turned_to e Open (with_window e.run v))
  unfolding with_window
  data_entered new =
      entered_as (put_book x.book i e s p) l i (turned_to e Open (with_window e.run v)) (pass_good a good_a) false k Open refl (record {
        receiving = record {
          taken = was.receiving.taken;
          handed = was.receiving.handed;
          urgent = was.receiving.urgent;
          first = pass_first a good_a;
          filled = λ m h. let q = filled_then x.book g.lines.long i small w good_w s byte new (length p) e.entry.largest some most was.receiving.filled (run_of a + m) (sym (pass_held a good_a m) ∙ h) in
              record { some = rw (cell_pass i w s m) q.0; most = rw (cell_pass i w s m) q.1 };
        };
        silent = was.silent;
      })

  long_acked : length (acknowledged x.node i s) ≡ node_words
  long_acked = apart_acked.long ∙ g.long

  pub data_end : end_of (window_node (acknowledged x.node i s) i v) i ≡ turned_to e Open (with_window e.run v)
  data_end =
      window_end (acknowledged x.node i s) i long_acked small v (pass_good a good_a).byte (v_size ∙ rw end_acked)
      ∙ rw (end_acked, o)

  -- an acknowledgement more
  pub data_acks : acks_in (acknowledged x.node i s) ≡ acks_in x.node ++ ((i * 256 + s) ∷ [])
  data_acks = push_acks x.node acks_ring (i * 256 + s) room

  acks_owed : (m : ℕ) → Memᴰ m (acks_in (acknowledged x.node i s)) → (Owed x.node m) ⊎ (m / 256 ≡ i)
  acks_owed m h = sides (Memᴰ.append_cases (acks_in x.node) (subst (λ (ws : List ℕ). Memᴰ m ws) data_acks h))
    where
      sides : Memᴰ m (acks_in x.node) ⊎ Memᴰ m ((i * 256 + s) ∷ []) → (Owed x.node m) ⊎ (m / 256 ≡ i)
      sides (inl q) = inl (g.owed m q)
      sides (inr q) = inr (let z = Memᴰ.eq_of_singleton q in omega arith)

  -- the window is put, and no acknowledgement alters by that
  pub data_puts : Apart i x.node (window_node (acknowledged x.node i s) i v)
      × (waiting_of (window_node (acknowledged x.node i s) i v) ≡ waiting_of (acknowledged x.node i s))
      × (acks_in (window_node (acknowledged x.node i s) i v) ≡ acks_in (acknowledged x.node i s))
  data_puts =
      let p = window_puts (acknowledged x.node i s) i long_acked small v in
      (apart_then i x.node (acknowledged x.node i s) _ apart_acked p.apart, p.waits, p.acks)

  taken_keeps : is_new (accept_of w s).found ≡ true → Kept t x (first_time x i e s p) l i
  taken_keeps new = record {
    lists = l;
    good =
        receiver_put t x.node x.book l g i li k (first_time x i e s p).node data_puts.0
        (rw data_puts.1 (push_ring x.node acks_ring (i * 256 + s) room).most)
        (λ m h. sides m (ℕ_discrete (m / 256) i)
        (acks_owed m (subst (λ (ws : List ℕ). Memᴰ m ws) data_puts.2 h)))
        (with_window e.run v) data_end (put_book x.book i e s p) within (data_entered new);
    apart = data_puts.0;
    within = within;
    under = get_or-set_other x.book (length_at (cell i w s)) under_at (length p) 0 (λ z. omega arith);
  }
    where
      within : Within i x.book (put_book x.book i e s p) l l
      within = within_set i x.book l g.lines (length_at (cell i w s)) (length p) (omega arith) (length_owner i small w good_w s)

      sides : (m : ℕ) → Dec (m / 256 ≡ i) → (Owed x.node m) ⊎ (m / 256 ≡ i) → (Owed x.node m × (m / 256 ≢ i)) ⊎ (m / 256 ≡ i)
      sides m (yes h) q = inr h
      sides m (no n) (inl q) = inl (q, n)
      sides m (no n) (inr q) = inr q

  repeated_keeps : Kept t x (repeated x i s) l i
  repeated_keeps =
      record {
        lists = l;
        good =
            framed i x.node (acknowledged x.node i s) apart_acked t x.book x.book l l g (within_same i x.book l g.lines) li
            (push_ring x.node acks_ring (i * 256 + s) room).most (λ m h. owed m (acks_owed m h)) (subst (Entered x.book l i) (sym end_acked) (g.entered i li))
            (subst (λ (z : EndPoint). Timely (clock_in (acknowledged x.node i s)) (quiet_in (acknowledged x.node i s)) x.book i z z.state) (sym end_acked)
            (apart_timely i x.node (acknowledged x.node i s) apart_acked x.book i (end_of x.node i) (end_of x.node i).state (g.timely i li)));
        apart = apart_acked;
        within = within_same i x.book l g.lines;
        under = refl;
      }
    where
      owed : (m : ℕ) → (Owed x.node m) ⊎ (m / 256 ≡ i) → Owed (acknowledged x.node i s) m
      owed m (inl q) = owed_open i x.node (acknowledged x.node i s) apart_acked (rw end_acked k) (rw end_acked o) m q
      owed m (inr h) =
          record {
            known = rw (h, apart_count i x.node (acknowledged x.node i s) apart_acked) li;
            receives = rw (h, end_acked) k;
            opened = rw (h, end_acked) o;
          }

  pub data_keeps : Kept t x (data_after x i e s p) l i
  data_keeps = sides (is_new (accept_of w s).found) refl
    where
      sides : (n : Bool) → is_new (accept_of w s).found ≡ n → Kept t x (data_after x i e s p) l i
      sides true h = rw (data_after_new x i e s p h) (taken_keeps h)
      sides false h = rw (data_after_other x i e s p h) repeated_keeps
