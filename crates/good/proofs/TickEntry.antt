-- A tick's turn of one entry keeps a good node good, and what it makes of that entry's end point. No other entry's business alters.
-- Assumes nothing.
use Prim.Native.Nat.{ℕ, ◌≤◌, ◌<◌}
use mathlib.Core.Path.{◌≡◌, refl, sym, ap, subst, ◌∙◌}
use mathlib.Core.Logic.{◌≢◌}
use mathlib.Core.Bool.{Bool, true, false, true≢false}
use mathlib.Core.List.{List, [], ◌∷◌}
use native.Mathlib.Omega.{arith}
use lib.Dec.{eqb}
use borrow.Author.Tests.{eq-eqb, eqb-true}
use Rattle.units.specs.Refusals.{pick}
use Rattle.memory.specs.Layout.{all_cells, resets, reset_id, length_at}
use Rattle.waiting.specs.Queues.{appended}
use Rattle.waiting.specs.Port.{under_in, is_reset, data_out}
use Rattle.end_points.proofs.Kept.{StateFits, RunFits}
use Rattle.window.specs.Windows.{Good as GoodWindow}
use Rattle.end_points.specs.Ends.{end_of, saved}
use Rattle.end_points.specs.Heads.{count_in}
use Rattle.end_points.specs.States.{is_sends}
use Rattle.end_points.specs.Runs.{urgent_gone}
use Rattle.end_points.specs.Lent.{Lent}
use Rattle.end_points.specs.declared.State.{State}
use Rattle.end_points.specs.declared.State.TheVariants.{Closed, Enabled, Open, Failing}
use Rattle.end_points.specs.declared.Run.{Run}
use Rattle.end_points.specs.declared.EndPoint.{EndPoint}
use Rattle.slots.specs.Slots.{cell, past, length_in, timer_in}
use Rattle.timing.specs.Timing.{clock_in, quiet_in, left_of, soonest}
use Rattle.call_tick.specs.Ticking.{Ticked, Scanned, tick_slots, ticked, both, tick_enabled, tick_open, tick_failing, tick_state, tick_entry}
use Rattle.good.specs.Good.{Lists, Silent, Fresh, Sending, running, Standing, OpenSender, FailingSender, EnabledSender, Stated, Entered, Outlast, Timely, Good}
use Rattle.good.proofs.Lined.{added}
use Rattle.good.proofs.Known.{entered_as}
use Rattle.good.proofs.Framing.{same_under, Within, apart_same, apart_saved, entry_low}
use Rattle.good.proofs.Turns.{run_fits, turned_to, end_saved, gone_fits, book_turn, sender_turn, Kept, kept_same}
use Rattle.good.proofs.Senders.{running_le, urgent_sending, reset_within, reset_cells, reset_under, reset_silent}
use Rattle.good.proofs.TickSlots.{Slots, slots_all, stays_failing}
use Rattle.good.proofs.TickTimers.{still_outlasts, runs_bound, least_falls, min_left, min_right}

-- ---- what a tick's first pass makes of an end point

pub data Ticks (e e' : EndPoint) : Type 0 where
  closed : e.state ≡ Closed → e' ≡ e → Ticks e e'
  enabled : (n m : ℕ) (sent : Bool) → e.state ≡ Enabled n sent → e' ≡ turned_to e (Enabled m sent) e.run → Ticks e e'
  opened : e.state ≡ Open → e' ≡ e → Ticks e e'
  failed : (m : ℕ) → e.state ≡ Open → e' ≡ turned_to e (Failing m) (urgent_gone e.run) → Ticks e e'
  failing : (n m : ℕ) → e.state ≡ Failing n → e' ≡ turned_to e (Failing m) e.run → Ticks e e'

-- ---- an entry's turn

-- no timer that runs out at tick d does so, after tick c, before m more
abbrev pub Bound : ℕ → ℕ → ℕ → Type 0
Bound c m d = d ≢ 0 → m ≤ left_of c d

-- none of the numbers handed out, but for the one under way, whose timer stands
abbrev pub NumberBounds : ℕ → ℕ → List ℕ → ℕ → Run → Type 0
NumberBounds c m b i r = (k : ℕ) → k < r.handed → past r.window k ≢ data_out b i → Bound c m (timer_in b (cell i r.window (past r.window k)))

-- none of entry i's
abbrev pub Bounds : ℕ → ℕ → List ℕ → ℕ → EndPoint → State → Type 0
Bounds c m b i e Closed = Unit {0}
Bounds c m b i e (Enabled d sent) = is_reset (under_in b) i ≡ false → Bound c m d
Bounds c m b i e Open = NumberBounds c m b i e.run
Bounds c m b i e (Failing n) = NumberBounds c m b i e.run

-- a good node stays good, only entry i's business altered; what became of its end point; every payload's length stays; the least that is left
-- takes this entry's timers in
pub record EntryTicked (t : List ℕ) (c : ℕ) (y y' : Scanned) (l : Lists) (i : ℕ) : Type 0 where
  pub kept : Kept t y.lent y'.lent l i
  pub ticks : Ticks (end_of y.lent.node i) (end_of y'.lent.node i)
  pub lengths : (g : ℕ) → g < all_cells → length_in y'.lent.book g ≡ length_in y.lent.book g
  pub store : y'.lent.store ≡ y.lent.store
  pub out : y'.lent.out ≡ y.lent.out
  pub falls : y'.least ≤ y.least
  pub heeds : Bounds c y'.least y'.lent.book i (end_of y'.lent.node i) (end_of y'.lent.node i).state

gone_size : (r : Run) → (urgent_gone r).window.size ≡ r.window.size
unfolding urgent_gone
gone_size r = refl

-- a sender that fails, and one that goes on failing
failed_entered : (b : List ℕ) (l : Lists) (i : ℕ) (e : EndPoint) (n : ℕ) → GoodWindow e.run.window → is_sends e.entry.kind ≡ true
    → Sending b i e.run e.entry.largest → Silent l i [] → n ≡ running b i e.run.window e.run.handed → Standing b i e.run
    → Entered b l i (turned_to e (Failing n) (urgent_gone e.run))
unfolding urgent_gone
failed_entered b l i e n g k s q c stands =
    entered_as b l i (turned_to e (Failing n) (urgent_gone e.run)) g true k (Failing n) refl
    (record {
      sending = urgent_sending b i e.run e.entry.largest s;
      urgent = refl;
      silent = q;
      timers = c;
      standing = stands;
    })

module _ (t : List ℕ) (c : ℕ) (y : Scanned) (l : Lists) (g : Good t y.lent.node y.lent.book l) (i : ℕ) (li : i < count_in y.lent.node)
    (idle : quiet_in y.lent.node ≡ 0) where
  low : i < 16
  low = entry_low t y.lent.node y.lent.book l g i li

  abbrev x : Lent
  x = y.lent

  abbrev e : EndPoint
  e = end_of x.node i

  window : GoodWindow e.run.window
  window = (g.entered i li).window

  -- only the least alters
  stands : (m : ℕ) → m ≤ y.least → (s : State) → e.state ≡ s → Bounds c m x.book i e s → Ticks e e → EntryTicked t c y (record { lent = x; least = m }) l i
  stands m f s q b h =
      record {
        kept = kept_same t x l i g;
        ticks = h;
        lengths = λ d p. refl;
        store = refl;
        out = refl;
        falls = f;
        heeds = subst (Bounds c m x.book i e) (sym q) b;
      }

  -- a sender is saved in another state
  saves : is_sends e.entry.kind ≡ true → (s : State) (r : Run) → StateFits s → RunFits r → r.window.size ≡ e.run.window.size
      → (b' : List ℕ) (l' : Lists) → Within i x.book b' l l' → ((d : ℕ) → d < all_cells → length_in b' d ≡ length_in x.book d) → under_in b' ≡ under_in x.book
      → Entered b' l' i (turned_to e s r) → Ticks e (turned_to e s r) → (m : ℕ) → m ≤ y.least → Bounds c m b' i (turned_to e s r) s
      → Timely (clock_in x.node) (quiet_in x.node) b' i (turned_to e s r) s
      → EntryTicked t c y (record { lent = both x (saved x.node i s r) b'; least = m }) l i
  saves k s r sf rf size b' l' v d w n h m f u o =
      let q = end_saved x.node i s r g.long low sf rf size in
      record {
        kept =
            record {
              lists = l';
              good = sender_turn t x.node x.book l g i li k s r sf rf size b' l' v n o;
              apart = apart_saved i x.node s r;
              within = v;
              under = w;
            };
        ticks = subst (Ticks e) (sym q) h;
        lengths = d;
        store = refl;
        out = refl;
        falls = f;
        heeds = subst (λ (z : EndPoint). Bounds c m b' i z z.state) (sym q) u;
      }

  -- at Enabled
  module _ (k : is_sends e.entry.kind ≡ true) (n : ℕ) (sent : Bool) (s : e.state ≡ Enabled n sent) where
    itself : Ticks e e
    itself = enabled n n sent s (ap (λ (z : State). turned_to e z e.run) s)

    waits : is_reset (under_in x.book) i ≡ false → Fresh e.run → Silent l i [] → EntryTicked t c y (record { lent = both x (saved x.node i (Enabled 0 sent) e.run) (appended x.book resets (reset_id i)); least = y.least }) l i
    waits r f q =
        let same = reset_under x.book l g.lines i low q in
        saves k (Enabled 0 sent) e.run (omega arith) (run_fits x.node i) refl (appended x.book resets (reset_id i)) (added l resets (reset_id i))
        (reset_within x.book l g.lines i low q)
        (λ d p. reset_cells x.book l g.lines i low q (length_at d) (omega arith)) same
        (entered_as (appended x.book resets (reset_id i)) (added l resets (reset_id i)) i (turned_to e (Enabled 0 sent) e.run) window true k (Enabled 0 sent) refl
        (record {
          fresh = f;
          silent = reset_silent x.book l g.lines i low q;
          unsent = λ h. refl;
          standing = λ z. absurd (true≢false (sym z ∙ ap (λ (u : ℕ). is_reset u i) same ∙ r));
        }))
        (enabled n 0 sent s refl) y.least (omega arith) (λ u z. absurd (z refl)) (λ u z. absurd (z refl))

    enabled_turn : EnabledSender x.book l i e n sent → EntryTicked t c y (tick_enabled c y i e n sent) l i
    enabled_turn a = sides (eqb n 0) (is_reset (under_in x.book) i) (eqb n c) refl refl a.silent
      where
        sides : (z v u : Bool) → eqb n 0 ≡ z → is_reset (under_in x.book) i ≡ v → Silent l i (pick z (reset_id i ∷ []) [])
            → EntryTicked t c y
            (pick z y (pick v y (pick u (record { lent = both x (saved x.node i (Enabled 0 sent) e.run) (appended x.book resets (reset_id i)); least = y.least })
            (record { lent = x; least = soonest y.least c n })))) l i
        sides true v u z r q = stands y.least (omega arith) (Enabled n sent) s (λ o h. absurd (h (eqb-true n 0 z))) itself
        sides false true u z r q = stands y.least (omega arith) (Enabled n sent) s (λ o. absurd (true≢false (sym r ∙ o))) itself
        sides false false true z r q = waits r a.fresh q
        sides false false false z r q = stands (soonest y.least c n) (min_left y.least (left_of c n)) (Enabled n sent) s (λ o h. min_right y.least (left_of c n)) itself

  -- a count of timers fits its word
  count_fits : (b : List ℕ) (d : ℕ) → d ≡ running b i e.run.window e.run.handed → d < 65536
  count_fits b d q = omega (arith, running_le b i e.run.window e.run.handed, (run_fits x.node i).handed)

  -- what its numbers' turns leave of the least
  abbrev Runs-on : Ticked → Type 0
  Runs-on k = NumberBounds c k.least k.book i e.run

  gone_bounds : (b' : List ℕ) (d m : ℕ) → Runs-on (record { book = b'; failing = true; running = d; least = m }) → Bounds c m b' i (turned_to e (Failing d) (urgent_gone e.run)) (Failing d)
  unfolding urgent_gone
  gone_bounds b' d m u = u

  -- and of the ticks that may pass, which are none
  abbrev Lasts-on : List ℕ → Type 0
  Lasts-on b' = Outlast (clock_in x.node) (quiet_in x.node) b' i e.run

  gone_timely : (b' : List ℕ) (d : ℕ) → Lasts-on b' → Timely (clock_in x.node) (quiet_in x.node) b' i (turned_to e (Failing d) (urgent_gone e.run)) (Failing d)
  unfolding urgent_gone
  gone_timely b' d o = (o, λ z h. idle)

  -- at Open
  open_turn : is_sends e.entry.kind ≡ true → e.state ≡ Open → (b' : List ℕ) (f : Bool) (d m : ℕ)
      → Slots i low e window x.book l e.run.handed (record { book = b'; failing = f; running = d; least = m })
      → m ≤ y.least → Runs-on (record { book = b'; failing = f; running = d; least = m }) → Lasts-on b'
      → EntryTicked t c y (tick_open y i e (record { book = b'; failing = f; running = d; least = m })) l i
  open_turn k s b' false d m p h u o =
      record {
        kept =
            record {
              lists = p.lists;
              good =
                  book_turn t x.node x.book l g i li b' p.lists p.within
                  (entered_as b' p.lists i e window true k Open s p.lives) (subst (Timely (clock_in x.node) (quiet_in x.node) b' i e) (sym s) o);
              apart = apart_same i x.node;
              within = p.within;
              under = p.under;
            };
        ticks = opened s refl;
        lengths = p.lengths;
        store = refl;
        out = refl;
        falls = h;
        heeds = subst (Bounds c m b' i e) (sym s) u;
      }
  open_turn k s b' true d m p h u o =
      saves k (Failing d) (urgent_gone e.run) (count_fits b' d p.count) (gone_fits e.run (run_fits x.node i)) (gone_size e.run)
      b' p.lists p.within p.lengths p.under
      (failed_entered b' p.lists i e d window k p.lives.0 p.lives.1 p.count p.lives.2)
      (failed d s refl) m h (gone_bounds b' d m u) (gone_timely b' d o)

  -- at Failing
  failing_turn : is_sends e.entry.kind ≡ true → (n : ℕ) → e.state ≡ Failing n → e.run.urgent ≡ 0 → (b' : List ℕ) (f : Bool) (d m : ℕ) → f ≡ true
      → Slots i low e window x.book l e.run.handed (record { book = b'; failing = f; running = d; least = m })
      → m ≤ y.least → Runs-on (record { book = b'; failing = f; running = d; least = m }) → Lasts-on b'
      → EntryTicked t c y (tick_failing y i e (record { book = b'; failing = f; running = d; least = m })) l i
  failing_turn k n s u b' false d m q p h v o = absurd (true≢false (sym q))
  failing_turn k n s u b' true d m q p h v o =
      saves k (Failing d) e.run (count_fits b' d p.count) (run_fits x.node i) refl b' p.lists p.within p.lengths p.under
      (entered_as b' p.lists i (turned_to e (Failing d) e.run) window true k (Failing d) refl
      (record { sending = p.lives.0; urgent = u; silent = p.lives.1; timers = p.count; standing = p.lives.2 }))
      (failing n d s refl) m h v (o, λ z w. idle)

  -- a receiver has no timers
  receiver_turn : e.run.handed ≡ 0 → record { lent = x; least = y.least } ≡ tick_open y i e (ticked c i e false x.book y.least)
  unfolding tick_slots
  receiver_turn z = rw z

  was : e.state ≡ Open → Timely (clock_in x.node) (quiet_in x.node) x.book i e Open
  was s = subst (Timely (clock_in x.node) (quiet_in x.node) x.book i e) s (g.timely i li)

  failing_was : (n : ℕ) → e.state ≡ Failing n → Timely (clock_in x.node) (quiet_in x.node) x.book i e (Failing n)
  failing_was n s = subst (Timely (clock_in x.node) (quiet_in x.node) x.book i e) s (g.timely i li)

  -- what is under way is the same number
  open_under : (h : OpenSender x.book l i e) → data_out (ticked c i e false x.book y.least).book i ≡ data_out x.book i
  open_under h = (same_under i x.book (ticked c i e false x.book y.least).book (slots_all i low e window c x.book l g.lines false y.least h).under).data!

  fails_under : (n : ℕ) (h : FailingSender x.book l i e n) → data_out (ticked c i e true x.book y.least).book i ≡ data_out x.book i
  fails_under n h =
      (same_under i x.book (ticked c i e true x.book y.least).book
      (slots_all i low e window c x.book l g.lines true y.least (h.sending, h.silent, h.standing)).under).data!

  by_state : (k : Bool) → is_sends e.entry.kind ≡ k → (s : State) → e.state ≡ s → Stated x.book l i e k s → EntryTicked t c y (tick_state c y i e s) l i
  unfolding tick_state
  by_state k ke Closed s h = stands y.least (omega arith) Closed s tt (closed s refl)
  by_state true ke (Enabled n sent) s h = enabled_turn ke n sent s h
  by_state false ke (Enabled n sent) s h =
      rw (eq-eqb n 0 h.1) (stands y.least (omega arith) (Enabled n sent) s (λ o q. absurd (q h.1)) (enabled n n sent s (ap (λ (z : State). turned_to e z e.run) s)))
  by_state true ke Open s h =
      let k = ticked c i e false x.book y.least in
      let most : e.run.handed ≤ e.run.window.size = omega (arith, h.sending.handed, h.sending.taken) in
      open_turn ke s k.book k.failing k.running k.least (slots_all i low e window c x.book l g.lines false y.least h)
      (least_falls i low e window c x.book l g.lines false y.least h most)
      (λ j q d. runs_bound i low e window c x.book l g.lines false y.least h most j q (λ z. d (z ∙ sym (open_under h))))
      (λ j q d. let o : past e.run.window j ≢ data_out x.book i = λ z. d (z ∙ sym (open_under h)) in
      still_outlasts i low e window c x.book l g.lines false y.least h most _ _ j q o (was s j q o))
  by_state false ke Open s h =
      subst (λ (z : Scanned). EntryTicked t c y z l i) (receiver_turn h.receiving.handed)
      (stands y.least (omega arith) Open s (λ k q d. absurd (omega (arith, h.receiving.handed))) (opened s refl))
  by_state true ke (Failing n) s h =
      let k = ticked c i e true x.book y.least in
      let most : e.run.handed ≤ e.run.window.size = omega (arith, h.sending.handed, h.sending.taken) in
      failing_turn ke n s h.urgent k.book k.failing k.running k.least (stays_failing c i e x.book y.least)
      (slots_all i low e window c x.book l g.lines true y.least (h.sending, h.silent, h.standing))
      (least_falls i low e window c x.book l g.lines true y.least (h.sending, h.silent, h.standing) most)
      (λ j q d. runs_bound i low e window c x.book l g.lines true y.least (h.sending, h.silent, h.standing) most j q (λ z. d (z ∙ sym (fails_under n h))))
      (λ j q d. let o : past e.run.window j ≢ data_out x.book i = λ z. d (z ∙ sym (fails_under n h)) in
      still_outlasts i low e window c x.book l g.lines true y.least (h.sending, h.silent, h.standing) most _ _ j q o ((failing_was n s).0 j q o))
  by_state false ke (Failing n) s h = absurd h

  pub tick_entry_keeps : EntryTicked t c y (tick_entry c i y) l i
  unfolding tick_entry
  tick_entry_keeps = by_state (is_sends e.entry.kind) refl e.state refl (g.entered i li).stated
