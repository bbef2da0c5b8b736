-- A call's business is one entry's: whatever alters no other entry's end point, cells and share of what waits keeps the rest of a
-- good node good. Assumes nothing.
use Prim.Native.Nat.{ℕ, zero, suc, ◌+◌, ◌%◌, ◌≤◌, ◌<◌}
use mathlib.Core.Path.{◌≡◌, refl, sym, ap, subst, ◌∙◌}
use mathlib.Core.Logic.{◌≢◌, ◌⊎◌, inl, inr}
use mathlib.Core.Bool.{Bool, true, false, not, ◌&&◌}
use mathlib.Core.List.{List, [], ◌∷◌, ◌++◌, Memᴰ, append-nil}
use native.Mathlib.Decide.{ℕ_discrete, dec_le}
use native.Mathlib.Nat.{mod-lt}
use native.Mathlib.Omega.{arith}
use lib.ListN.{length, get_or, set}
use lib.Seq.{get_or-set_same, get_or-set_other, length-sets}
use lib.Dec.{eqb}
use borrow.Author.Tests.{ne_eqb}
use Rattle.units.specs.Refusals.{pick}
use Rattle.memory.specs.Layout.{all_cells, cells_at, ids_end, under_at, resets, urgents, resends, datas, clock_at, quiet_at, row_at, entry_at, length_at, timer_at, retries_at, cell_owner}
use Rattle.waiting.specs.Queues.{appended, unlinked}
use Rattle.waiting.specs.Acks.{waiting_of}
use Rattle.waiting.specs.Order.{acks_in}
use Rattle.waiting.specs.Port.{under_in, out_entry, out_number, is_own, is_data, is_reset, no_number, data_out}
use Rattle.end_points.proofs.Kept.{end_ext, saved_word, saved_head, saved_other}
use Rattle.window.specs.Windows.{Good as GoodWindow}
use Rattle.window.specs.declared.Window.{Window}
use Rattle.window.proofs.Sizes.{size_pos, size_le}
use Rattle.end_points.specs.Ends.{word, load_entry, end_of, state_words, run_words, saved}
use Rattle.end_points.specs.Heads.{count_in}
use Rattle.end_points.specs.States.{is_sends}
use Rattle.end_points.specs.declared.State.{State}
use Rattle.end_points.specs.declared.State.TheVariants.{Closed, Enabled, Open, Failing}
use Rattle.end_points.specs.declared.Run.{Run}
use Rattle.end_points.specs.declared.EndPoint.{EndPoint}
use Rattle.arrive_lookup.specs.Lookup.{row_in, Indexed}
use Rattle.arrive_lookup.proofs.Rows.{row_ext}
use Rattle.slots.specs.Slots.{slot_for, cell, past, length_in, timer_in}
use Rattle.timing.specs.Timing.{clock_in, quiet_in}
use Rattle.table.proofs.Good.{good_head}
use Rattle.memory.specs.Layout.{owner_of, Ranged}
use Rattle.good.specs.Good.{Lists, Lines, mine, Share, Resends, Silent, Filled, Sending, Receiving, running, Standing, Anew, Stated, Entered, Outlasts, Outlast, Timely, Tabled, Owed, UnderWay, Good}
use Rattle.good.proofs.Members.{mine_append, mine_other, mine_apart, without_in, rest, rest_append, rest_own, rest_without}
use Rattle.good.proofs.Lined.{added, less, added_here, added_there, added_in, append_lines, append_cells, append_under, unlink_lines, unlink_cells, unlink_under, port_lines, set_lines}

-- ---- the book: only entry i's cells and share alter

-- what entry j has under way is the same
pub record SameUnder (j : ℕ) (b b' : List ℕ) : Type 0 where
  pub data! : data_out b' j ≡ data_out b j
  pub reset : is_reset (under_in b') j ≡ is_reset (under_in b) j
  pub own : is_own b' j ≡ is_own b j

pub same_under : (j : ℕ) (b b' : List ℕ) → under_in b' ≡ under_in b → SameUnder j b b'
same_under j b b' e =
    record {
      data! = ap (λ (u : ℕ). pick (is_data u j) (out_number u) no_number) e;
      reset = ap (λ (u : ℕ). is_reset u j) e;
      own = ap (λ (u : ℕ). not (eqb u 0) && eqb (out_entry u) j) e;
    }

under_then : {j : ℕ} {a b c : List ℕ} → SameUnder j a b → SameUnder j b c → SameUnder j a c
under_then v w = record { data! = w.data! ∙ v.data!; reset = w.reset ∙ v.reset; own = w.own ∙ v.own }

-- a frame of entry i, of one of the four types
pub record Own (i u : ℕ) : Type 0 where
  pub entry : out_entry u ≡ i
  pub least : 4096 ≤ u
  pub most : u < 20480

pub record Within (i : ℕ) (b b' : List ℕ) (l l' : Lists) : Type 0 where
  pub lines : Lines b' l'
  pub cells : (k : ℕ) → cells_at ≤ k → cell_owner k ≢ i → get_or b' k 0 ≡ get_or b k 0
  pub shares : (j : ℕ) → j ≢ i → (q : ℕ) → q < 4 → mine j (l' q) ≡ mine j (l q)
  pub known : (q : ℕ) → q < 4 → (x : ℕ) → Memᴰ x (l' q) → Memᴰ x (l q) ⊎ ((owner_of x ≡ i) × Ranged q x)
  -- what is not entry i's keeps its order
  pub order : (q : ℕ) → q < 4 → rest i (l' q) ≡ rest i (l q)
  -- what is under way is the same, but perhaps for entry i's
  pub under : (j : ℕ) → j < 16 → j ≢ i → SameUnder j b b'
  pub port : under_in b' ≢ 0 → (under_in b' ≡ under_in b) ⊎ Own i (under_in b')

pub within_same : (i : ℕ) (b : List ℕ) (l : Lists) → Lines b l → Within i b b l l
within_same i b l L = record { lines = L; cells = λ k h n. refl; shares = λ j n q h. refl; known = λ q h x m. inl m; order = λ q h. refl; under = λ j h n. same_under j b b refl; port = λ h. inl refl }

pub within_then : (i : ℕ) (a b c : List ℕ) (k l m : Lists) → Within i a b k l → Within i b c l m → Within i a c k m
within_then i a b c k l m v w =
    record {
      lines = w.lines;
      cells = λ x h n. w.cells x h n ∙ v.cells x h n;
      shares = λ j n q h. w.shares j n q h ∙ v.shares j n q h;
      known = λ q h x e. sides q x (v.known q h x) (w.known q h x e);
      order = λ q h. w.order q h ∙ v.order q h;
      under = λ j h n. under_then (v.under j h n) (w.under j h n);
      port = λ h. by h (w.port h);
    }
  where
    more : under_in c ≡ under_in b → (under_in b ≡ under_in a) ⊎ Own i (under_in b) → (under_in c ≡ under_in a) ⊎ Own i (under_in c)
    more e (inl d) = inl (e ∙ d)
    more e (inr o) = inr (subst (Own i) (sym e) o)

    by : under_in c ≢ 0 → (under_in c ≡ under_in b) ⊎ Own i (under_in c) → (under_in c ≡ under_in a) ⊎ Own i (under_in c)
    by h (inl e) = more e (v.port (λ z. h (e ∙ z)))
    by h (inr o) = inr o

    sides : (q x : ℕ) → (Memᴰ x (l q) → Memᴰ x (k q) ⊎ ((owner_of x ≡ i) × Ranged q x)) → Memᴰ x (l q) ⊎ ((owner_of x ≡ i) × Ranged q x)
        → Memᴰ x (k q) ⊎ ((owner_of x ≡ i) × Ranged q x)
    sides q x f (inl e) = f e
    sides q x f (inr o) = inr o

-- one of entry i's more
pub within_append : (i : ℕ) (b : List ℕ) (l : Lists) → Lines b l → (q x : ℕ) → q < 4 → 16 ≤ x → x < ids_end → ((r : ℕ) → r < 4 → Memᴰ x (l r) → ⊥)
    → owner_of x ≡ i → Ranged q x → Within i b (appended b q x) l (added l q x)
within_append i b l L q x hq low hx none o g =
    record {
      lines = append_lines b l L q x hq low hx none;
      cells = λ k h n. append_cells b l L q x hq low hx none k h;
      shares = λ j n r hr. share j n r (ℕ_discrete r q);
      known = λ r hr y m. sides r y (added_in l q x r y m);
      order = λ r hr. stays r (ℕ_discrete r q);
      under = λ j h n. same_under j b (appended b q x) (append_under b l L q x hq low hx none);
      port = λ h. inl (append_under b l L q x hq low hx none);
    }
  where
    stays : (r : ℕ) → Dec (r ≡ q) → rest i (added l q x r) ≡ rest i (l r)
    stays r (yes e) =
        ap (λ (k : ℕ). rest i (added l q x k)) e ∙ ap (rest i) (added_here l q x) ∙ rest_append i (l q) (x ∷ [])
        ∙ ap (λ (ys : List ℕ). rest i (l q) ++ ys) (rest_own i x o) ∙ append-nil (rest i (l q)) ∙ ap (λ (k : ℕ). rest i (l k)) (sym e)
    stays r (no d) = ap (rest i) (added_there l q x r d)

    share : (j : ℕ) → j ≢ i → (r : ℕ) → Dec (r ≡ q) → mine j (added l q x r) ≡ mine j (l r)
    share j n r (yes e) =
        ap (λ (k : ℕ). mine j (added l q x k)) e ∙ ap (mine j) (added_here l q x) ∙ mine_append j (l q) (x ∷ [])
        ∙ ap (λ (ys : List ℕ). mine j (l q) ++ ys) (mine_other j x (λ h. n (sym h ∙ o))) ∙ append-nil (mine j (l q)) ∙ ap (λ (k : ℕ). mine j (l k)) (sym e)
    share j n r (no d) = ap (mine j) (added_there l q x r d)

    sides : (r y : ℕ) → Memᴰ y (l r) ⊎ ((r ≡ q) × (y ≡ x)) → Memᴰ y (l r) ⊎ ((owner_of y ≡ i) × Ranged r y)
    sides r y (inl m) = inl m
    sides r y (inr e) = inr (ap owner_of e.1 ∙ o, subst (λ (k : ℕ). Ranged k y) (sym e.0) (subst (Ranged q) (sym e.1) g))

-- one of entry i's fewer
pub within_unlink : (i : ℕ) (b : List ℕ) (l : Lists) → Lines b l → (q x : ℕ) → q < 4 → Memᴰ x (l q) → owner_of x ≡ i
    → Within i b (unlinked b x) l (less l x)
within_unlink i b l L q x hq m o =
    record {
      lines = unlink_lines b l L q x hq m;
      cells = λ k h n. unlink_cells b l L q x hq m k h;
      shares = λ j n r hr. mine_apart j x (l r) (λ e. n (sym e ∙ o));
      known = λ r hr y k. inl (without_in x y (l r) k).0;
      order = λ r hr. rest_without i x (l r) o;
      under = λ j h n. same_under j b (unlinked b x) (unlink_under b l L q x hq m);
      port = λ h. inl (unlink_under b l L q x hq m);
    }

-- a store in a cell of entry i's
pub within_set : (i : ℕ) (b : List ℕ) (l : Lists) → Lines b l → (k v : ℕ) → cells_at ≤ k → cell_owner k ≡ i → Within i b (set b k v) l l
within_set i b l L k v h o =
    record {
      lines = set_lines b l L k v h;
      cells = λ j g n. get_or-set_other b k j v 0 (λ e. n (ap cell_owner e ∙ o));
      shares = λ j n q g. refl;
      known = λ q g x m. inl m;
      order = λ q g. refl;
      under = λ j g n. same_under j b (set b k v) (get_or-set_other b k under_at v 0 (λ e. omega arith));
      port = λ g. inl (get_or-set_other b k under_at v 0 (λ e. omega arith));
    }

-- another frame of entry i is under way, or none
pub within_port : (i : ℕ) (b : List ℕ) (l : Lists) → Lines b l → (u : ℕ) → ((j : ℕ) → j < 16 → j ≢ i → SameUnder j b (set b under_at u))
    → (u ≢ 0 → Own i u) → Within i b (set b under_at u) l l
within_port i b l L u others own =
    record {
      lines = port_lines b l L u;
      cells = λ j g n. get_or-set_other b under_at j u 0 (λ e. omega arith);
      shares = λ j n q g. refl;
      known = λ q g x m. inl m;
      order = λ q g. refl;
      under = others;
      port = λ h. inr (subst (Own i) (sym here) (own (λ z. h (here ∙ z))));
    }
  where
    here : under_in (set b under_at u) ≡ u
    here = get_or-set_same b under_at u 0 (omega (arith, L.long))

-- ---- the node: only entry i's end point alters, and perhaps the waiting acknowledgements; no tick passes, and no more may than before

pub record Apart (i : ℕ) (ws ws' : List ℕ) : Type 0 where
  pub long : length ws' ≡ length ws
  pub head : (k : ℕ) → k < 4 → get_or ws' k 0 ≡ get_or ws k 0
  pub clock : clock_in ws' ≡ clock_in ws
  pub quiet : quiet_in ws' ≤ quiet_in ws
  pub table : (j k : ℕ) → k < 8 → word ws' j k ≡ word ws j k
  pub rows : (v : ℕ) → v < 256 → get_or ws' (row_at v) 0 ≡ get_or ws (row_at v) 0
  pub others : (j : ℕ) → j ≢ i → end_of ws' j ≡ end_of ws j

pub le_trans : {a b c : ℕ} → a ≤ b → b ≤ c → a ≤ c
le_trans p q = omega (arith, p, q)

le_same : {a b : ℕ} → a ≡ b → a ≤ b
le_same p = omega (arith, p)

pub apart_then : (i : ℕ) (a b c : List ℕ) → Apart i a b → Apart i b c → Apart i a c
apart_then i a b c v w =
    record {
      long = w.long ∙ v.long;
      head = λ k h. w.head k h ∙ v.head k h;
      clock = w.clock ∙ v.clock;
      quiet = le_trans w.quiet v.quiet;
      table = λ j k h. w.table j k h ∙ v.table j k h;
      rows = λ u h. w.rows u h ∙ v.rows u h;
      others = λ j n. w.others j n ∙ v.others j n;
    }

pub apart_same : (i : ℕ) (ws : List ℕ) → Apart i ws ws
apart_same i ws = record { long = refl; head = λ k h. refl; clock = refl; quiet = omega arith; table = λ j k h. refl; rows = λ v h. refl; others = λ j n. refl }

saved_long : (ws : List ℕ) (i : ℕ) (s : State) (r : Run) → length (saved ws i s r) ≡ length ws
unfolding saved
saved_long ws i s r = length-sets ws (entry_at i + 8) (state_words s ++ run_words r)

pub apart_saved : (i : ℕ) (ws : List ℕ) (s : State) (r : Run) → Apart i ws (saved ws i s r)
apart_saved i ws s r =
    record {
      long = saved_long ws i s r;
      head = λ k h. saved_head ws i s r k (omega arith);
      clock = ap (λ (x : ℕ). x % 65536) (saved_head ws i s r clock_at (omega arith));
      quiet = le_same (saved_head ws i s r quiet_at (omega arith));
      table = λ j k h. sides j k h (dec_le j i);
      rows = λ v h. saved_word ws i s r (row_at v) (inl (omega arith));
      others = λ j n. saved_other ws i j s r n;
    }
  where
    sides : (j k : ℕ) → k < 8 → Dec (j ≤ i) → word (saved ws i s r) j k ≡ word ws j k
    sides j k h (yes l) = saved_word ws i s r (entry_at j + k) (inl (omega arith))
    sides j k h (no l) = saved_word ws i s r (entry_at j + k) (inr (omega arith))

-- whatever alters the waiting acknowledgements alone, or how many ticks may pass
pub apart_rest : (i : ℕ) (ws ws' : List ℕ) → length ws' ≡ length ws → ((k : ℕ) → k < 4 → get_or ws' k 0 ≡ get_or ws k 0)
    → clock_in ws' ≡ clock_in ws → quiet_in ws' ≤ quiet_in ws → ((k : ℕ) → 64 ≤ k → get_or ws' k 0 ≡ get_or ws k 0)
    → Apart i ws ws'
apart_rest i ws ws' l h c q r =
    record {
      long = l;
      head = h;
      clock = c;
      quiet = q;
      table = λ j k g. r (entry_at j + k) (omega arith);
      rows = λ v g. r (row_at v) (omega arith);
      others = λ j n. end_ext ws' ws j (λ k g. r (entry_at j + k) (omega arith));
    }

-- ---- an entry that nothing was done to

pub slot_lt : (w : Window) (s : ℕ) → GoodWindow w → slot_for w s < w.size
slot_lt w s g =
    let p = size_pos w.size g.sized in
    rw (ne_eqb w.size 0 (λ e. omega arith)) (mod-lt s p)

-- a slot is one of 128
pub slot_small : (w : Window) → GoodWindow w → (s : ℕ) → slot_for w s < 128
slot_small w g s = omega (arith, slot_lt w s g, size_le w.size g.sized)

-- a cell is one of 2048
pub cell_low : (i : ℕ) → i < 16 → (w : Window) → GoodWindow w → (s : ℕ) → cell i w s < all_cells
cell_low i h w g s = omega (arith, slot_small w g s)

module _ (j : ℕ) (low : j < 16) (w : Window) (g : GoodWindow w) where
  pub length_owner : (s : ℕ) → cell_owner (length_at (cell j w s)) ≡ j
  length_owner s = let h = slot_small w g s in omega arith

  pub timer_owner : (s : ℕ) → cell_owner (timer_at (cell j w s)) ≡ j
  timer_owner s = let h = slot_small w g s in omega arith

  pub retries_owner : (s : ℕ) → cell_owner (retries_at (cell j w s)) ≡ j
  retries_owner s = let h = slot_small w g s in omega arith

pub running_ext : (b b' : List ℕ) (i : ℕ) (w : Window) (n : ℕ)
    → ((k : ℕ) → k < n → timer_in b' (cell i w (past w k)) ≡ timer_in b (cell i w (past w k))) → running b' i w n ≡ running b i w n
unfolding running
running_ext b b' i w zero h = refl
running_ext b b' i w (suc n) h = rw (h n (omega arith), running_ext b b' i w n (λ k l. h k (omega arith)))

-- the same numbers handed out with the same timers, and the same under way, are as timely
module _ (c q : ℕ) (b b' : List ℕ) (i : ℕ) (e e' : EndPoint) (u : SameUnder i b b') (w : e'.run.window ≡ e.run.window) (n : e'.run.handed ≡ e.run.handed)
    (timers : (k : ℕ) → timer_in b' (cell i e.run.window (past e.run.window k)) ≡ timer_in b (cell i e.run.window (past e.run.window k))) where
  outlasts_as : Outlast c q b i e.run → Outlast c q b' i e'.run
  outlasts_as h k m d =
      subst (λ (z : Window). Outlasts c q (timer_in b' (cell i z (past z k)))) (sym w)
      (subst (Outlasts c q) (sym (timers k))
      (h k (subst (λ (z : ℕ). k < z) n m) (λ z. d (ap (λ (y : Window). past y k) w ∙ z ∙ sym u.data!))))

  pub timely_as : (s : State) → Timely c q b i e s → Timely c q b' i e' s
  timely_as Closed h = tt
  timely_as (Enabled d sent) h = λ z. h (sym u.reset ∙ z)
  timely_as Open h = outlasts_as h
  timely_as (Failing m) h = (outlasts_as h.0, λ z o. h.1 z (sym u.own ∙ o))

module _ (j : ℕ) (low : j < 16) (b b' : List ℕ) (l l' : Lists)
    (cells : (k : ℕ) → cells_at ≤ k → cell_owner k ≡ j → get_or b' k 0 ≡ get_or b k 0)
    (shares : (q : ℕ) → q < 4 → mine j (l' q) ≡ mine j (l q)) (under : (s : ℕ) → s < 256 → s ≡ data_out b' j → s ≡ data_out b j) (reset : is_reset (under_in b') j ≡ true → is_reset (under_in b) j ≡ true) where
  module _ (r : Run) (g : GoodWindow r.window) where
    same_length : (s : ℕ) → length_in b' (cell j r.window s) ≡ length_in b (cell j r.window s)
    same_length s = cells (length_at (cell j r.window s)) (omega arith) (length_owner j low r.window g s)

    same_timer : (s : ℕ) → timer_in b' (cell j r.window s) ≡ timer_in b (cell j r.window s)
    same_timer s = cells (timer_at (cell j r.window s)) (omega arith) (timer_owner j low r.window g s)

    same_filled : (largest k : ℕ) → Filled b j r.window largest k → Filled b' j r.window largest k
    same_filled largest k f =
        record { some = rw (same_length (past r.window k)) f.some; most = rw (same_length (past r.window k)) f.most }

    same_sending : (largest : ℕ) → Sending b j r largest → Sending b' j r largest
    same_sending largest s =
        record {
          taken = s.taken;
          handed = s.handed;
          acked = s.acked;
          first = s.first;
          counted = s.counted;
          filled = λ k h. same_filled largest k (s.filled k h);
          stopped = λ k h. same_timer (past r.window k) ∙ s.stopped k h;
          urgent = s.urgent;
        }

    same_receiving : (largest : ℕ) → Receiving b j r largest → Receiving b' j r largest
    same_receiving largest s =
        record { taken = s.taken; handed = s.handed; urgent = s.urgent; first = s.first; filled = λ k h. same_filled largest k (s.filled k h) }

    same_resends : Resends b l j r → Resends b' l' j r
    same_resends s =
        record {
          each = λ x m. let p = s.each x (subst (λ (ys : List ℕ). Memᴰ x ys) (shares resends (omega arith)) m) in
              record { at = p.at; handed = p.handed; missing = p.missing; idle = same_timer (past r.window p.at) ∙ p.idle; is = p.is };
          all = λ x p. subst (λ (ys : List ℕ). Memᴰ x ys) (sym (shares resends (omega arith)))
              (s.all x (record { at = p.at; handed = p.handed; missing = p.missing; idle = sym (same_timer (past r.window p.at)) ∙ p.idle; is = p.is }));
        }

    same_standing : Standing b j r → Standing b' j r
    same_standing s k h m o z = s k h m (under (past r.window k) (omega arith) o) (sym (same_timer (past r.window k)) ∙ z)

  same_share : (rs us ds : List ℕ) → Share l j rs us ds → Share l' j rs us ds
  same_share rs us ds s =
      record {
        resets = shares resets (omega arith) ∙ s.resets;
        urgents = shares urgents (omega arith) ∙ s.urgents;
        datas = shares datas (omega arith) ∙ s.datas;
      }

  same_silent : (rs : List ℕ) → Silent l j rs → Silent l' j rs
  same_silent rs s = record { share = same_share rs [] [] s.share; resends = shares resends (omega arith) ∙ s.resends }

  same_anew : (e : EndPoint) (rs : List ℕ) → Anew l j e rs → Anew l' j e rs
  same_anew e rs a = record { fresh = a.fresh; silent = same_silent rs a.silent }

  same_stated : (e : EndPoint) → GoodWindow e.run.window → (sends : Bool) (s : State) → Stated b l j e sends s → Stated b' l' j e sends s
  same_stated e g sends Closed a = same_anew e [] a
  same_stated e g true (Enabled t sent) a =
      record {
        fresh = a.fresh;
        silent = same_silent (pick (eqb t 0) _ []) a.silent;
        unsent = a.unsent;
        standing = λ z. a.standing (reset z);
      }
  same_stated e g false (Enabled t sent) a = (same_anew e [] a.0, a.1, a.2)
  same_stated e g true Open a =
      record {
        sending = same_sending e.run g e.entry.largest a.sending;
        share = same_share _ _ _ a.share;
        resends = same_resends e.run g a.resends;
        standing = same_standing e.run g a.standing;
      }
  same_stated e g false Open a = record { receiving = same_receiving e.run g e.entry.largest a.receiving; silent = same_silent [] a.silent }
  same_stated e g true (Failing n) a =
      record {
        sending = same_sending e.run g e.entry.largest a.sending;
        urgent = a.urgent;
        silent = same_silent [] a.silent;
        timers = a.timers ∙ sym (running_ext b b' j e.run.window e.run.handed (λ k h. same_timer e.run g (past e.run.window k)));
        standing = same_standing e.run g a.standing;
      }
  same_stated e g false (Failing n) a = a

  pub same_entered : (e : EndPoint) → Entered b l j e → Entered b' l' j e
  same_entered e a = record { window = a.window; stated = same_stated e a.window (is_sends e.entry.kind) e.state a.stated }

-- the same timers are as timely
pub same_timely : (j : ℕ) → j < 16 → (b b' : List ℕ) → ((k : ℕ) → cells_at ≤ k → cell_owner k ≡ j → get_or b' k 0 ≡ get_or b k 0) → SameUnder j b b'
    → (c q : ℕ) (e : EndPoint) → GoodWindow e.run.window → (s : State) → Timely c q b j e s → Timely c q b' j e s
same_timely j low b b' cells u c q e g s h =
    timely_as c q b b' j e e u refl refl
    (λ k. cells (timer_at (cell j e.run.window (past e.run.window k))) (omega arith) (timer_owner j low e.run.window g (past e.run.window k))) s h

-- where fewer ticks may pass
pub outlasts_fewer : (c q q' d : ℕ) → q' ≤ q → Outlasts c q d → Outlasts c q' d
outlasts_fewer c q q' d f h runs = let p = h runs in (p.0, omega (arith, f, p.1))

pub timely_fewer : (c q q' : ℕ) (b : List ℕ) (j : ℕ) (e : EndPoint) (s : State) → q' ≤ q → Timely c q b j e s → Timely c q' b j e s
timely_fewer c q q' b j e Closed f h = tt
timely_fewer c q q' b j e (Enabled d sent) f h = λ z. outlasts_fewer c q q' d f (h z)
timely_fewer c q q' b j e Open f h = λ k m o. outlasts_fewer c q q' _ f (h k m o)
timely_fewer c q q' b j e (Failing n) f h = (λ k m o. outlasts_fewer c q q' _ f (h.0 k m o), λ z o. let y = h.1 z o in omega (arith, f, y))

-- ---- the node as a whole

pub count_low : (t ws b : List ℕ) (l : Lists) → Good t ws b l → count_in ws ≤ 16
count_low t ws b l g = let h = (good_head t g.table).count in omega (arith, g.tabled.count)

-- an entry that there is has one of 16 numbers
pub entry_low : (t ws b : List ℕ) (l : Lists) → Good t ws b l → (i : ℕ) → i < count_in ws → i < 16
entry_low t ws b l g i h = let c = count_low t ws b l g in omega arith

-- what the table says is in the head, the entries' first words and the index
module _ (ws ws' : List ℕ) (head : (k : ℕ) → k < 4 → get_or ws' k 0 ≡ get_or ws k 0) (table : (j k : ℕ) → k < 8 → word ws' j k ≡ word ws j k)
    (rows : (v : ℕ) → v < 256 → get_or ws' (row_at v) 0 ≡ get_or ws (row_at v) 0) where
  same_count : count_in ws' ≡ count_in ws
  same_count = ap (λ (x : ℕ). x % 256) (head 0 (omega arith))

  same_entry : (j : ℕ) → load_entry ws' j ≡ load_entry ws j
  unfolding load_entry
  same_entry j =
      let z : entry_at j + 0 ≡ entry_at j = omega arith in
      let h0 : get_or ws' (entry_at j) 0 ≡ get_or ws (entry_at j) 0 = rw z at (table j 0 (omega arith)) in
      rw (h0, table j 1 (omega arith), table j 2 (omega arith), table j 3 (omega arith), table j 4 (omega arith), table j 5 (omega arith), table j 6 (omega arith))

  same_row : (v : ℕ) → row_in ws' v ≡ row_in ws v
  same_row v = row_ext ws' ws v (rows v)

  same_index : Indexed ws → Indexed ws'
  same_index x =
      record {
        few = rw same_count x.few;
        channels = λ sends v i h. rw (same_row v, same_count, same_entry i) (x.channels sends v i h);
        remotes = λ v i h. rw (same_row v, same_count, same_entry i) (x.remotes v i h);
      }

  pub same_tabled : (t : List ℕ) → Tabled ws t → Tabled ws' t
  same_tabled t h =
      record {
        count = same_count ∙ h.count;
        own = rw (head 1 (omega arith)) h.own;
        protocol = rw (head 2 (omega arith)) h.protocol;
        need = head 3 (omega arith) ∙ h.need;
        entry = λ j l. same_entry j ∙ h.entry j l;
        place = λ j l. rw (table j 7 (omega arith)) (h.place j l);
        index = same_index h.index;
      }

module _ (i : ℕ) (ws ws' : List ℕ) (a : Apart i ws ws') where
  pub apart_count : count_in ws' ≡ count_in ws
  apart_count = same_count ws ws' a.head a.table a.rows

  -- timers that stay stay timely
  pub apart_timely : (b : List ℕ) (j : ℕ) (e : EndPoint) (s : State) → Timely (clock_in ws) (quiet_in ws) b j e s → Timely (clock_in ws') (quiet_in ws') b j e s
  apart_timely b j e s h =
      subst (λ (c : ℕ). Timely c (quiet_in ws') b j e s) (sym a.clock) (timely_fewer (clock_in ws) (quiet_in ws) (quiet_in ws') b j e s a.quiet h)

  -- The framing lemma.
  pub framed : (t b b' : List ℕ) (l l' : Lists) → Good t ws b l → Within i b b' l l' → i < count_in ws → waiting_of ws' ≤ 32
      → ((w : ℕ) → Memᴰ w (acks_in ws') → Owed ws' w) → Entered b' l' i (end_of ws' i)
      → Timely (clock_in ws') (quiet_in ws') b' i (end_of ws' i) (end_of ws' i).state → Good t ws' b' l'
  framed t b b' l l' g v li acks owed here soon =
      record {
        table = g.table;
        long = a.long ∙ g.long;
        tabled = same_tabled ws ws' a.head a.table a.rows t g.tabled;
        acks = acks;
        owed = owed;
        lines = v.lines;
        known = λ q h x m. known q x (g.known q h x) (v.known q h x m);
        entered = λ j h. there j (rw (← apart_count) h) (ℕ_discrete j i);
        under = λ h. under (v.port h) h;
        timely = λ j h. on j (rw (← apart_count) h) (ℕ_discrete j i);
      }
    where
      under : (under_in b' ≡ under_in b) ⊎ Own i (under_in b') → under_in b' ≢ 0 → UnderWay (count_in ws') (under_in b')
      under (inl e) h = subst (λ (u : ℕ). UnderWay (count_in ws') u) (sym e) (rw apart_count (g.under (λ z. h (e ∙ z))))
      under (inr o) h = record { known = rw (apart_count, o.entry) li; least = o.least; most = o.most }

      known : (q x : ℕ) → (Memᴰ x (l q) → (owner_of x < count_in ws) × Ranged q x) → Memᴰ x (l q) ⊎ ((owner_of x ≡ i) × Ranged q x) → (owner_of x < count_in ws') × Ranged q x
      known q x f (inl m) = let p = f m in (rw apart_count p.0, p.1)
      known q x f (inr o) = (rw (apart_count, o.0) li, o.1)

      there : (j : ℕ) → j < count_in ws → Dec (j ≡ i) → Entered b' l' j (end_of ws' j)
      there j h (yes e) = subst (λ (k : ℕ). Entered b' l' k (end_of ws' k)) (sym e) here
      there j h (no n) =
          subst (Entered b' l' j) (sym (a.others j n))
          (same_entered j (entry_low t ws b l g j h) b b' l l' (λ k m o. v.cells k m (λ e. n (sym o ∙ e))) (λ q m. v.shares j n q m)
          (λ s m o. o ∙ (v.under j (entry_low t ws b l g j h) n).data!) (λ z. sym (v.under j (entry_low t ws b l g j h) n).reset ∙ z) (end_of ws j) (g.entered j h))

      on : (j : ℕ) → j < count_in ws → Dec (j ≡ i) → Timely (clock_in ws') (quiet_in ws') b' j (end_of ws' j) (end_of ws' j).state
      on j h (yes e) = subst (λ (k : ℕ). Timely (clock_in ws') (quiet_in ws') b' k (end_of ws' k) (end_of ws' k).state) (sym e) soon
      on j h (no n) =
          subst (λ (z : EndPoint). Timely (clock_in ws') (quiet_in ws') b' j z z.state) (sym (a.others j n))
          (apart_timely b' j (end_of ws j) (end_of ws j).state
          (same_timely j (entry_low t ws b l g j h) b b' (λ k m o. v.cells k m (λ e. n (sym o ∙ e)))
          (v.under j (entry_low t ws b l g j h) n) (clock_in ws) (quiet_in ws) (end_of ws j)
          (g.entered j h).window (end_of ws j).state (g.timely j h)))
