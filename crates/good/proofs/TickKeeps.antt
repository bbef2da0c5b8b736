-- A tick keeps a good node good: first every entry's timers, then the recovery of each failing end with none running. What becomes of each
-- end point, with the bit that the tick answers of it, and what stays. Assumes nothing.
use Prim.Native.Nat.{ℕ, zero, suc, ◌+◌, ◌-◌, ◌/◌, ◌%◌, ◌^◌, ◌≤◌, ◌<◌}
use mathlib.Core.Path.{◌≡◌, refl, sym, ap, subst, ◌∙◌}
use mathlib.Core.Logic.{◌≢◌, ◌⊎◌, inl, inr}
use mathlib.Core.Bool.{Bool, true, false, not, ◌&&◌, false≢true}
use mathlib.Core.List.{List, []}
use native.Mathlib.Decide.{ℕ_discrete}
use native.Mathlib.Nat.{two-pow-succ, add-mul-div_right, add-div_right, div-eq_of_lt, min-eq_left}
use native.Mathlib.Omega.{arith}
use lib.ListN.{get_or, set}
use lib.Seq.{get_or-set_other}
use lib.Dec.{eqb}
use lib.Pow.{pow_pos, pow-add}
use borrow.Author.Tests.{eqb-true, eqb-false}
use Rattle.units.specs.Refusals.{pick}
use Rattle.memory.specs.Layout.{all_cells, cells_at, resets, reset_id, length_at, timer_at, clock_at, quiet_at, cell_owner}
use Rattle.waiting.specs.Queues.{appended}
use Rattle.waiting.specs.Order.{acks_in}
use Rattle.waiting.specs.Port.{under_in, is_own}
use Rattle.end_points.proofs.Kept.{RunFits}
use Rattle.window.specs.Windows.{Good as GoodWindow}
use Rattle.end_points.specs.Ends.{end_of}
use Rattle.end_points.specs.Heads.{count_in}
use Rattle.end_points.specs.States.{is_sends}
use Rattle.end_points.specs.Runs.{anew, urgent_gone}
use Rattle.end_points.specs.Lent.{Lent}
use Rattle.end_points.specs.declared.State.{State}
use Rattle.end_points.specs.declared.State.TheVariants.{Closed, Enabled, Open, Failing}
use Rattle.end_points.specs.declared.Run.{Run}
use Rattle.end_points.specs.declared.EndPoint.{EndPoint}
use Rattle.slots.specs.Slots.{cell, past, length_in, timer_in}
use Rattle.timing.specs.Timing.{clock_in, quiet_in, later, left_of, passed as passing}
use Rattle.timing.proofs.Falling.{later_next}
use Rattle.call_tick.specs.Ticking.{Scanned, tick_entry, tick_entries, Recovered, again, recover, recover_all, entries, scanned, scan_both, scan_after, still_after, tick_both, tick_after, tick_answer}
use Rattle.call_tick.proofs.Apart.{begun, timed, tick_only, scan_head}
use Rattle.end_points.specs.States.{is_over}
use Rattle.good.specs.Good.{Lists, Silent, Stated, Timely, Good}
use Rattle.good.proofs.Lined.{added}
use Rattle.good.proofs.Known.{stated_as}
use Rattle.good.proofs.Clocked.{pass_clocked, pass_quiet, pass_clock, clocked_end, clocked_acks, clocked_good}
use Rattle.good.proofs.Framing.{SameUnder, same_under, le_trans, apart_saved, apart_count, count_low, entry_low, timer_owner}
use Rattle.good.proofs.Turns.{run_fits, turned_to, end_saved, anew_fits, anew_size, acks_ext, sender_turn, Kept, kept_same}
use Rattle.good.proofs.Senders.{reset_within, reset_cells, reset_under, reset_silent, enabled_sender}
use Rattle.good.proofs.TickEntry.{Ticks, closed, enabled, opened, failed, failing, EntryTicked, tick_entry_keeps, Bound, Bounds}
use Rattle.good.proofs.Timely.{falls_on, passes_over, found_on}
use Rattle.end_points.proofs.Telling.{is_over_holds}

-- ---- a bound stays while the entry's timers do, and where it is lowered

module _ (c m m' : ℕ) (down : m' ≤ m) (b b' : List ℕ) (j : ℕ) (low : j < 16) (e : EndPoint) (g : GoodWindow e.run.window)
    (cells : (k : ℕ) → cells_at ≤ k → cell_owner k ≡ j → get_or b' k 0 ≡ get_or b k 0) (under : SameUnder j b b') where
  one_kept : (k : ℕ) → Bound c m (timer_in b (cell j e.run.window (past e.run.window k))) → Bound c m' (timer_in b' (cell j e.run.window (past e.run.window k)))
  one_kept k h =
      let w = e.run.window in
      let same = cells (timer_at (cell j w (past w k))) (omega arith) (timer_owner j low w g (past w k)) in
      λ runs. le_trans down (subst (λ (z : ℕ). m ≤ left_of c z) (sym same) (h (λ z. runs (same ∙ z))))

  pub bounds_kept : (s : State) → Bounds c m b j e s → Bounds c m' b' j e s
  bounds_kept Closed h = tt
  bounds_kept (Enabled d sent) h = λ o runs. le_trans down (h (sym under.reset ∙ o) runs)
  bounds_kept Open h = λ k l o. one_kept k (h k l (λ z. o (z ∙ sym under.data!)))
  bounds_kept (Failing n) h = λ k l o. one_kept k (h k l (λ z. o (z ∙ sym under.data!)))

-- ---- every entry's timers

-- of entry j, none runs out before m more ticks
abbrev pub Bounded : ℕ → ℕ → Lent → ℕ → Type 0
Bounded c m x j = Bounds c m x.book j (end_of x.node j) (end_of x.node j).state

-- after the turns of the first n entries: those end points have ticked, the others are as they were
pub record Pass (t : List ℕ) (c : ℕ) (x : Lent) (y : Scanned) (n : ℕ) : Type 0 where
  pub lists : Lists
  pub good : Good t y.lent.node y.lent.book lists
  pub count : count_in y.lent.node ≡ count_in x.node
  pub idle : quiet_in y.lent.node ≡ 0
  pub ticks : (j : ℕ) → j < n → Ticks (end_of x.node j) (end_of y.lent.node j)
  pub later : (j : ℕ) → n ≤ j → end_of y.lent.node j ≡ end_of x.node j
  pub lengths : (g : ℕ) → g < all_cells → length_in y.lent.book g ≡ length_in x.book g
  pub under : under_in y.lent.book ≡ under_in x.book
  pub store : y.lent.store ≡ x.store
  pub out : y.lent.out ≡ x.out
  pub heeds : (j : ℕ) → j < n → Bounded c y.least y.lent j

pass_then : (t : List ℕ) (c : ℕ) (x : Lent) (y y' : Scanned) (n : ℕ) → n < count_in x.node → (p : Pass t c x y n) → EntryTicked t c y y' p.lists n
    → quiet_in y'.lent.node ≡ quiet_in y.lent.node → Pass t c x y' (suc n)
pass_then t c x y y' n known p s quiet =
    record {
      lists = s.kept.lists;
      good = s.kept.good;
      count = apart_count n y.lent.node y'.lent.node s.kept.apart ∙ p.count;
      idle = quiet ∙ p.idle;
      ticks = λ j h. sides j h (ℕ_discrete j n);
      later = λ j h. s.kept.apart.others j (λ m. omega arith) ∙ p.later j (omega arith);
      lengths = λ g h. s.lengths g h ∙ p.lengths g h;
      under = s.kept.under ∙ p.under;
      store = s.store ∙ p.store;
      out = s.out ∙ p.out;
      heeds = λ j h. heed j h (ℕ_discrete j n);
    }
  where
    sides : (j : ℕ) → j < suc n → Dec (j ≡ n) → Ticks (end_of x.node j) (end_of y'.lent.node j)
    sides j h (yes m) =
        subst (λ (k : ℕ). Ticks (end_of x.node k) (end_of y'.lent.node k)) (sym m)
        (subst (λ (e : EndPoint). Ticks e (end_of y'.lent.node n)) (p.later n (omega arith)) s.ticks)
    sides j h (no m) = subst (Ticks (end_of x.node j)) (sym (s.kept.apart.others j m)) (p.ticks j (omega arith))

    heed : (j : ℕ) → j < suc n → Dec (j ≡ n) → Bounded c y'.least y'.lent j
    heed j h (yes m) = subst (Bounded c y'.least y'.lent) (sym m) s.heeds
    heed j h (no m) =
        let there : j < count_in y.lent.node = omega (arith, p.count) in
        let e = end_of y.lent.node j in
        subst (λ (z : EndPoint). Bounds c y'.least y'.lent.book j z z.state) (sym (s.kept.apart.others j m))
        (bounds_kept c y.least y'.least s.falls y.lent.book y'.lent.book j (entry_low t y.lent.node y.lent.book p.lists p.good j there) e
        (p.good.entered j there).window (λ k l o. s.kept.within.cells k l (λ q. m (sym o ∙ q))) (same_under j y.lent.book y'.lent.book s.kept.under)
        e.state (p.heeds j (omega arith)))

pub passed : (t : List ℕ) (c : ℕ) (x : Lent) (l : Lists) → Good t x.node x.book l → quiet_in x.node ≡ 0 → (n : ℕ) → n ≤ count_in x.node → Pass t c x (tick_entries c n (begun x)) n
unfolding tick_entries
passed t c x l g idle zero h =
    record {
      lists = l;
      good = g;
      count = refl;
      idle = idle;
      ticks = λ j m. absurd (omega arith);
      later = λ j m. refl;
      lengths = λ c m. refl;
      under = refl;
      store = refl;
      out = refl;
      heeds = λ j m. absurd (omega arith);
    }
passed t c x l g idle (suc n) h =
    let p = passed t c x l g idle n (omega arith) in
    let y = tick_entries c n (begun x) in
    pass_then t c x y (tick_entry c n y) n h p (tick_entry_keeps t c y p.lists p.good n (omega (arith, p.count)) p.idle) ((tick_only c n y).before quiet_at (omega arith))

-- ---- the bits

-- one more above leaves those below
bit_above : (a j m : ℕ) → (a + 2 ^ (suc m + j)) / 2 ^ j % 2 ≡ a / 2 ^ j % 2
bit_above a j m =
    rw (pow-add 2 (suc m) j, add-mul-div_right a (2 ^ suc m) (pow_pos j)) (omega (arith, two-pow-succ m))

bit_below : (a j n : ℕ) → j < n → (a + 2 ^ n) / 2 ^ j % 2 ≡ a / 2 ^ j % 2
bit_below a j n h =
    let e : suc (n - suc j) + j ≡ n = omega arith in
    subst (λ (m : ℕ). (a + 2 ^ m) / 2 ^ j % 2 ≡ a / 2 ^ j % 2) e (bit_above a j (n - suc j))

bit_here : (a n : ℕ) → a < 2 ^ n → (a + 2 ^ n) / 2 ^ n % 2 ≡ 1
bit_here a n h = omega (arith, add-div_right a (pow_pos n), div-eq_of_lt h)

bit_none : (a n : ℕ) → a < 2 ^ n → a / 2 ^ n % 2 ≡ 0
bit_none a n h = omega (arith, div-eq_of_lt h)

-- ---- recovery

-- only a sender fails, and then nothing of it waits
failing_sends : (b : List ℕ) (l : Lists) (i : ℕ) (e : EndPoint) (k : Bool) (n : ℕ) → Stated b l i e k (Failing n) → (k ≡ true) × Silent l i []
failing_sends b l i e true n h = (refl, h.silent)
failing_sends b l i e false n h = absurd h

-- whether an end point recovers, told by a bit; own says whether a frame of its own is under way
pub data Recovers (own : Bool) (bit : ℕ) (e e' : EndPoint) : Type 0 where
  stays : bit ≡ 0 → (is_over e.state && not own) ≡ false → e' ≡ e → Recovers own bit e e'
  recovers : bit ≡ 1 → own ≡ false → e.state ≡ Failing 0 → e' ≡ turned_to e (Enabled 0 false) (anew e.run) → Recovers own bit e e'

record Recovery (t : List ℕ) (r r' : Recovered) (l : Lists) (i : ℕ) : Type 0 where
  kept : Kept t r.lent r'.lent l i
  fate : r.bits < 2 ^ i → Recovers (is_own r.lent.book i) (r'.bits / 2 ^ i % 2) (end_of r.lent.node i) (end_of r'.lent.node i)
  below : (j : ℕ) → j < i → r'.bits / 2 ^ j % 2 ≡ r.bits / 2 ^ j % 2
  most : r.bits < 2 ^ i → r'.bits < 2 ^ suc i
  lengths : (c : ℕ) → c < all_cells → length_in r'.lent.book c ≡ length_in r.lent.book c
  store : r'.lent.store ≡ r.lent.store
  out : r'.lent.out ≡ r.lent.out
  heeds : (c m : ℕ) → Bounded c m r.lent i → Bounded c m r'.lent i

module _ (t : List ℕ) (r : Recovered) (l : Lists) (g : Good t r.lent.node r.lent.book l) (i : ℕ) (li : i < count_in r.lent.node) where
  low : i < 16
  low = entry_low t r.lent.node r.lent.book l g i li

  abbrev e : EndPoint
  e = end_of r.lent.node i

  goes_on : (is_over e.state && not (is_own r.lent.book i)) ≡ false → Recovery t r r l i
  goes_on h =
      record {
        kept = kept_same t r.lent l i g;
        fate = λ b. stays (bit_none r.bits i b) h refl;
        below = λ j b. refl;
        most = λ b. omega (arith, two-pow-succ i);
        lengths = λ c b. refl;
        store = refl;
        out = refl;
        heeds = λ c m b. b;
      }

  begins : is_own r.lent.book i ≡ false → e.state ≡ Failing 0 → is_sends e.entry.kind ≡ true → Silent l i [] → Recovery t r (again i r) l i
  begins own s k q =
      record {
        kept =
            record {
              lists = added l resets (reset_id i);
              good =
                  sender_turn t r.lent.node r.lent.book l g i li k (Enabled 0 false) (anew e.run) (omega arith) fits (anew_size e.run)
                  (appended r.lent.book resets (reset_id i)) (added l resets (reset_id i)) (reset_within r.lent.book l g.lines i low q)
                  (enabled_sender (appended r.lent.book resets (reset_id i)) (added l resets (reset_id i)) i e k (g.entered i li).window
                  (reset_silent r.lent.book l g.lines i low q)) (λ o runs. absurd (runs refl));
              apart = apart_saved i r.lent.node (Enabled 0 false) (anew e.run);
              within = reset_within r.lent.book l g.lines i low q;
              under = reset_under r.lent.book l g.lines i low q;
            };
        fate = λ b. recovers (bit_here r.bits i b) own s
            (end_saved r.lent.node i (Enabled 0 false) (anew e.run) g.long low (omega arith) fits (anew_size e.run));
        below = λ j h. bit_below r.bits j i h;
        most = λ b. omega (arith, two-pow-succ i);
        lengths = λ c h. reset_cells r.lent.book l g.lines i low q (length_at c) (omega arith);
        store = refl;
        out = refl;
        heeds = λ c m b.
            subst (λ (z : EndPoint). Bounds c m (appended r.lent.book resets (reset_id i)) i z z.state)
            (sym (end_saved r.lent.node i (Enabled 0 false) (anew e.run) g.long low (omega arith) fits (anew_size e.run))) (λ o runs. absurd (runs refl));
      }
    where
      fits : RunFits (anew e.run)
      fits = anew_fits e.run (run_fits r.lent.node i)

  recovery : Recovery t r (recover i r) l i
  unfolding recover
  recovery = sides (is_over e.state) (is_own r.lent.book i) refl refl
    where
      over : is_own r.lent.book i ≡ false → e.state ≡ Failing 0 → Recovery t r (again i r) l i
      over own s =
          let p = failing_sends r.lent.book l i e (is_sends e.entry.kind) 0
          (stated_as r.lent.book l i e (g.entered i li) (is_sends e.entry.kind) refl (Failing 0) s) in
          begins own s p.0 p.1

      sides : (o w : Bool) → is_over e.state ≡ o → is_own r.lent.book i ≡ w → Recovery t r (pick (o && not w) (again i r) r) l i
      sides true true o w = goes_on (rw (o, w))
      sides true false o w = over w (is_over_holds e.state o)
      sides false w o own = goes_on (rw o)

-- after the recovery of the first n entries
pub record Round (t : List ℕ) (y r : Recovered) (n : ℕ) : Type 0 where
  pub lists : Lists
  pub good : Good t r.lent.node r.lent.book lists
  pub count : count_in r.lent.node ≡ count_in y.lent.node
  pub most : r.bits < 2 ^ n
  pub fate : (j : ℕ) → j < n → Recovers (is_own y.lent.book j) (r.bits / 2 ^ j % 2) (end_of y.lent.node j) (end_of r.lent.node j)
  pub later : (j : ℕ) → n ≤ j → end_of r.lent.node j ≡ end_of y.lent.node j
  pub lengths : (c : ℕ) → c < all_cells → length_in r.lent.book c ≡ length_in y.lent.book c
  pub under : under_in r.lent.book ≡ under_in y.lent.book
  pub store : r.lent.store ≡ y.lent.store
  pub out : r.lent.out ≡ y.lent.out
  pub heeds : (c m j : ℕ) → j < count_in y.lent.node → Bounded c m y.lent j → Bounded c m r.lent j

round_then : (t : List ℕ) (y r r' : Recovered) (n : ℕ) (p : Round t y r n) → Recovery t r r' p.lists n → Round t y r' (suc n)
round_then t y r r' n p s =
    record {
      lists = s.kept.lists;
      good = s.kept.good;
      count = apart_count n r.lent.node r'.lent.node s.kept.apart ∙ p.count;
      most = s.most p.most;
      fate = λ j h. sides j h (ℕ_discrete j n);
      later = λ j h. s.kept.apart.others j (λ m. omega arith) ∙ p.later j (omega arith);
      lengths = λ c h. s.lengths c h ∙ p.lengths c h;
      under = s.kept.under ∙ p.under;
      store = s.store ∙ p.store;
      out = s.out ∙ p.out;
      heeds = λ c m j h b. heed c m j h b (ℕ_discrete j n);
    }
  where
    sides : (j : ℕ) → j < suc n → Dec (j ≡ n) → Recovers (is_own y.lent.book j) (r'.bits / 2 ^ j % 2) (end_of y.lent.node j) (end_of r'.lent.node j)
    sides j h (yes m) =
        subst (λ (k : ℕ). Recovers (is_own y.lent.book k) (r'.bits / 2 ^ k % 2) (end_of y.lent.node k) (end_of r'.lent.node k)) (sym m)
        (subst (λ (o : Bool). Recovers o (r'.bits / 2 ^ n % 2) (end_of y.lent.node n) (end_of r'.lent.node n)) (same_under n y.lent.book r.lent.book p.under).own
        (subst (λ (e : EndPoint). Recovers (is_own r.lent.book n) (r'.bits / 2 ^ n % 2) e (end_of r'.lent.node n)) (p.later n (omega arith)) (s.fate p.most)))
    sides j h (no m) =
        let l : j < n = omega arith in
        subst (λ (b : ℕ). Recovers (is_own y.lent.book j) b (end_of y.lent.node j) (end_of r'.lent.node j)) (sym (s.below j l))
        (subst (Recovers (is_own y.lent.book j) (r.bits / 2 ^ j % 2) (end_of y.lent.node j)) (sym (s.kept.apart.others j m)) (p.fate j l))

    heed : (c m j : ℕ) → j < count_in y.lent.node → Bounded c m y.lent j → Dec (j ≡ n) → Bounded c m r'.lent j
    heed c m j h b (yes q) = subst (Bounded c m r'.lent) (sym q) (s.heeds c m (subst (Bounded c m r.lent) q (p.heeds c m j h b)))
    heed c m j h b (no q) =
        let there : j < count_in r.lent.node = omega (arith, p.count) in
        let e = end_of r.lent.node j in
        subst (λ (z : EndPoint). Bounds c m r'.lent.book j z z.state) (sym (s.kept.apart.others j q))
        (bounds_kept c m m (omega arith) r.lent.book r'.lent.book j (entry_low t r.lent.node r.lent.book p.lists p.good j there) e
        (p.good.entered j there).window (λ k l o. s.kept.within.cells k l (λ z. q (sym o ∙ z))) (same_under j r.lent.book r'.lent.book s.kept.under)
        e.state (p.heeds c m j h b))

pub rounds : (t : List ℕ) (y : Recovered) (l : Lists) → Good t y.lent.node y.lent.book l → y.bits ≡ 0 → (n : ℕ) → n ≤ count_in y.lent.node
    → Round t y (recover_all n y) n
unfolding recover_all
rounds t y l g z zero h =
    record {
      lists = l;
      good = g;
      count = refl;
      most = omega arith;
      fate = λ j m. absurd (omega arith);
      later = λ j m. refl;
      lengths = λ c m. refl;
      under = refl;
      store = refl;
      out = refl;
      heeds = λ c m j h b. b;
    }
rounds t y l g z (suc n) h =
    let p = rounds t y l g z n (omega arith) in
    round_then t y (recover_all n y) (recover n (recover_all n y)) n p
    (recovery t (recover_all n y) p.lists p.good n (omega (arith, p.count)))

-- ---- the tick

-- what becomes of an end point: it ticks, and is no failing end without timers, unless it waits for a frame of its own under way, as own says; or it
-- was open or failing, recovers, and its bit says so
pub data Fate (own : Bool) (bit : ℕ) (e e' : EndPoint) : Type 0 where
  ticks : bit ≡ 0 → Ticks e e' → (is_over e'.state && not own) ≡ false → Fate own bit e e'
  recovered : bit ≡ 1 → own ≡ false → (e.state ≡ Open) ⊎ ((n : ℕ) × (e.state ≡ Failing n)) → e' ≡ turned_to e (Enabled 0 false) (anew e.run) → Fate own bit e e'

anew_gone : (r : Run) → anew (urgent_gone r) ≡ anew r
unfolding anew urgent_gone
anew_gone r = refl

not_over : (e m : EndPoint) → is_over e.state ≡ false → m ≡ e → m.state ≡ Failing 0 → ⊥
not_over e m o h s = false≢true (sym o ∙ ap (λ (y : EndPoint). is_over y.state) (sym h) ∙ ap is_over s)

fate_over : (own : Bool) (bit : ℕ) (e m e' : EndPoint) → bit ≡ 1 → own ≡ false → m.state ≡ Failing 0 → e' ≡ turned_to m (Enabled 0 false) (anew m.run) → Ticks e m → Fate own bit e e'
fate_over own bit e m e' b w s h (closed o q) = absurd (not_over e m (ap is_over o) q s)
fate_over own bit e m e' b w s h (enabled n k sent o q) = absurd (not_over (turned_to e (Enabled k sent) e.run) m refl q s)
fate_over own bit e m e' b w s h (opened o q) = absurd (not_over e m (ap is_over o) q s)
fate_over own bit e m e' b w s h (failed k o q) =
    recovered b w (inl o)
    (h ∙ ap (λ (y : EndPoint). turned_to y (Enabled 0 false) (anew y.run)) q ∙ ap (turned_to e (Enabled 0 false)) (anew_gone e.run))
fate_over own bit e m e' b w s h (failing n k o q) =
    recovered b w (inr (n, o)) (h ∙ ap (λ (y : EndPoint). turned_to y (Enabled 0 false) (anew y.run)) q)

fate_both : (own : Bool) (bit : ℕ) (e m e' : EndPoint) → Ticks e m → Recovers own bit m e' → Fate own bit e e'
fate_both own bit e m e' k (stays b o h) = ticks b (subst (Ticks e) (sym h) k) (ap (λ (y : EndPoint). is_over y.state && not own) h ∙ o)
fate_both own bit e m e' k (recovers b w s h) = fate_over own bit e m e' b w s h k

-- what going through the entries in tick c leaves of a good node
pub record ScanKept (t : List ℕ) (c : ℕ) (x : Lent) : Type 0 where
  pub lists : Lists
  pub good : Good t (scan_both c x).lent.node (scan_both c x).lent.book lists
  pub head : (k : ℕ) → k < 64 → get_or (scan_both c x).lent.node k 0 ≡ get_or x.node k 0
  pub acks : acks_in (scan_both c x).lent.node ≡ acks_in x.node
  pub fate : (j : ℕ) → j < count_in x.node → Fate (is_own x.book j) ((scan_both c x).bits / 2 ^ j % 2) (end_of x.node j) (end_of (scan_both c x).lent.node j)
  pub most : (scan_both c x).bits < 2 ^ count_in x.node
  pub lengths : (g : ℕ) → g < all_cells → length_in (scan_both c x).lent.book g ≡ length_in x.book g
  pub under : under_in (scan_both c x).lent.book ≡ under_in x.book
  pub store : (scan_both c x).lent.store ≡ x.store
  pub out : (scan_both c x).lent.out ≡ x.out
  pub heeds : (j : ℕ) → j < count_in x.node → Bounded c (scanned c x).least (scan_both c x).lent j

pub scan_keeps : (t : List ℕ) (c : ℕ) (x : Lent) (l : Lists) → Good t x.node x.book l → quiet_in x.node ≡ 0 → ScanKept t c x
unfolding scan_both
scan_keeps t c x l g idle =
    let n : entries x ≡ count_in x.node = min-eq_left (count_low t x.node x.book l g) in
    let y : Recovered = timed c x in
    let p = passed t c x l g idle (entries x) (omega arith) in
    let q = rounds t y p.lists p.good refl (entries x) (omega (arith, p.count)) in
    record {
      lists = q.lists;
      good = q.good;
      head = scan_head c x;
      acks = (acks_ext x.node (scan_both c x).lent.node (scan_head c x)).1;
      fate = λ j h. fate_both _ _ _ _ _ (p.ticks j (omega arith))
          (subst (λ (o : Bool). Recovers o ((recover_all (entries x) y).bits / 2 ^ j % 2) (end_of y.lent.node j) (end_of (recover_all (entries x) y).lent.node j)) (same_under j x.book y.lent.book p.under).own (q.fate j (omega arith)));
      most = subst (λ (z : ℕ). (recover_all (entries x) (timed c x)).bits < 2 ^ z) n q.most;
      lengths = λ g h. q.lengths g h ∙ p.lengths g h;
      under = q.under ∙ p.under;
      store = q.store ∙ p.store;
      out = q.out ∙ p.out;
      heeds = λ j h. q.heeds c (scanned c x).least j (omega (arith, p.count)) (p.heeds j (omega arith));
    }

-- ---- the tick as a whole

-- what a tick leaves of a good node
pub record TickKept (t : List ℕ) (x x' : Lent) (bits : ℕ) : Type 0 where
  pub lists : Lists
  pub good : Good t x'.node x'.book lists
  pub head : (k : ℕ) → k < 64 → k ≢ clock_at → k ≢ quiet_at → get_or x'.node k 0 ≡ get_or x.node k 0
  pub clock : clock_in x'.node ≡ later (clock_in x.node) 1
  pub acks : acks_in x'.node ≡ acks_in x.node
  pub fate : (j : ℕ) → j < count_in x.node → Fate (is_own x.book j) (bits / 2 ^ j % 2) (end_of x.node j) (end_of x'.node j)
  pub most : bits < 2 ^ count_in x.node
  pub lengths : (g : ℕ) → g < all_cells → length_in x'.book g ≡ length_in x.book g
  pub under : under_in x'.book ≡ under_in x.book
  pub store : x'.store ≡ x.store
  pub out : x'.out ≡ x.out

-- the head but for the clock's words
passed_head : (ws : List ℕ) (c q k : ℕ) → k ≢ clock_at → k ≢ quiet_at → get_or (passing ws c q) k 0 ≡ get_or ws k 0
passed_head ws c q k m n = get_or-set_other (set ws clock_at c) quiet_at k q 0 n ∙ get_or-set_other ws clock_at k c 0 m

-- an end point that a tick leaves as it is has ticked
ticks_on : (e : EndPoint) (s : State) → e.state ≡ s → Ticks e e
ticks_on e Closed s = closed s refl
ticks_on e (Enabled n sent) s = enabled n n sent s (ap (λ (z : State). turned_to e z e.run) s)
ticks_on e Open s = opened s refl
ticks_on e (Failing n) s = failing n n s (ap (λ (z : State). turned_to e z e.run) s)

fate_not_over : {own : Bool} {bit : ℕ} {e e' : EndPoint} → Fate own bit e e' → (is_over e'.state && not own) ≡ false
fate_not_over (ticks b k o) = o
fate_not_over {own} (recovered b w s h) = ap (λ (y : EndPoint). is_over y.state && not own) h

module _ (t : List ℕ) (x : Lent) (l : Lists) (g : Good t x.node x.book l) where
  abbrev now : ℕ
  now = later (clock_in x.node) 1

  now_small : now ≤ 65535
  now_small = later_next (clock_in x.node) (omega arith)

  -- where none can run out
  still_kept : quiet_in x.node ≢ 0 → TickKept t x (still_after now x).lent (still_after now x).bits
  still_kept some =
      let ws = x.node in
      let q = quiet_in ws - 1 in
      let ws' = passing ws now q in
      let p = pass_clocked ws now q in
      let clock = pass_clock ws now q g.long now_small in
      record {
        lists = l;
        good = clocked_good ws ws' p t x.book l g (λ j h.
            subst (λ (c : ℕ). Timely c (quiet_in ws') x.book j (end_of ws j) (end_of ws j).state) (sym clock)
            (subst (λ (z : ℕ). Timely now z x.book j (end_of ws j) (end_of ws j).state) (sym (pass_quiet ws now q g.long))
            (falls_on (clock_in ws) (quiet_in ws) (omega arith) some x.book j (end_of ws j) (end_of ws j).state (g.timely j h))));
        head = λ k h m n. passed_head ws now q k m n;
        clock = clock;
        acks = clocked_acks ws ws' p;
        fate = λ j h.
            let e = end_of ws j in
            subst (Fate (is_own x.book j) (0 / 2 ^ j % 2) e) (sym (clocked_end ws ws' p j))
            (ticks (bit_none 0 j (pow_pos j)) (ticks_on e e.state refl)
            (passes_over (clock_in ws) (quiet_in ws) (omega arith) some x.book j e e.state (g.timely j h)));
        most = pow_pos (count_in ws);
        lengths = λ c h. refl;
        under = refl;
        store = refl;
        out = refl;
      }

  -- where one can
  scan_kept : quiet_in x.node ≡ 0 → TickKept t x (scan_after now x).lent (scan_after now x).bits
  unfolding scan_after
  scan_kept idle =
      let S = scan_keeps t now x l g idle in
      let ws = (scan_both now x).lent.node in
      let b = (scan_both now x).lent.book in
      let m = (scanned now x).least in
      let ws' = passing ws now (m - 1) in
      let p = pass_clocked ws now (m - 1) in
      let clock = pass_clock ws now (m - 1) S.good.long now_small in
      let count : count_in ws ≡ count_in x.node = ap (λ (z : ℕ). z % 256) (S.head 0 (omega arith)) in
      record {
        lists = S.lists;
        good = clocked_good ws ws' p t b S.lists S.good (λ j h.
            let there : j < count_in x.node = omega (arith, count) in
            subst (λ (c : ℕ). Timely c (quiet_in ws') b j (end_of ws j) (end_of ws j).state) (sym clock)
            (subst (λ (z : ℕ). Timely now z b j (end_of ws j) (end_of ws j).state) (sym (pass_quiet ws now (m - 1) S.good.long))
            (found_on now (clock_in ws) m (quiet_in ws) b j (end_of ws j) (end_of ws j).state (S.heeds j there) (S.good.timely j h)
            (ap (λ (o : Bool). is_over (end_of ws j).state && not o) (same_under j x.book b S.under).own ∙ fate_not_over (S.fate j there)))));
        head = λ k h u v. passed_head ws now (m - 1) k u v ∙ S.head k h;
        clock = clock;
        acks = clocked_acks ws ws' p ∙ S.acks;
        fate = λ j h. subst (Fate (is_own x.book j) ((scan_both now x).bits / 2 ^ j % 2) (end_of x.node j)) (sym (clocked_end ws ws' p j)) (S.fate j h);
        most = S.most;
        lengths = S.lengths;
        under = S.under;
        store = S.store;
        out = S.out;
      }

pub tick_keeps : (t : List ℕ) (x : Lent) (l : Lists) → Good t x.node x.book l → TickKept t x (tick_after x) (tick_answer x)
unfolding tick_after tick_answer tick_both
tick_keeps t x l g = sides (eqb (quiet_in x.node) 0) refl
  where
    sides : (z : Bool) → eqb (quiet_in x.node) 0 ≡ z
        → TickKept t x (pick z (scan_after (now t x l g) x) (still_after (now t x l g) x)).lent (pick z (scan_after (now t x l g) x) (still_after (now t x l g) x)).bits
    sides true q = scan_kept t x l g (eqb-true (quiet_in x.node) 0 q)
    sides false q = still_kept t x l g (eqb-false (quiet_in x.node) 0 q)
