-- A tick in which no timer can run out: of every entry the machine's timers fall by one, and nothing else alters.
-- Assumes nothing.
use Prim.Native.Nat.{ℕ, zero, suc, ◌+◌, ◌-◌, ◌≤◌, ◌<◌}
use mathlib.Core.Path.{◌≡◌, refl, sym, ap, ◌∙◌, subst}
use mathlib.Core.Logic.{◌≢◌}
use mathlib.Core.Bool.{Bool, true, false, ◌&&◌, and-false}
use mathlib.Core.Option.{some}
use mathlib.Core.List.{List}
use native.Mathlib.Decide.{dec_lt, ℕ_discrete}
use native.Mathlib.Omega.{arith}
use lib.ListN.{length, get_elem?}
use lib.Dec.{eqb}
use borrow.Author.Tests.{eq-eqb, ne_eqb, eqb-true, eqb-false}
use Rattle.units.specs.Refusals.{pick}
use Rattle.waiting.specs.Port.{under_in, is_reset, data_out}
use Rattle.window.specs.declared.Window.{Window}
use Rattle.table.specs.Layout.{count_of}
use Rattle.table.specs.Areas.{store_of}
use Rattle.end_points.specs.Ends.{end_of}
use Rattle.end_points.specs.Heads.{count_in}
use Rattle.end_points.specs.States.{is_sends}
use Rattle.end_points.specs.declared.State.{State}
use Rattle.end_points.specs.declared.State.TheVariants.{Closed, Enabled, Open, Failing}
use Rattle.end_points.specs.declared.EndPoint.{EndPoint}
use Rattle.slots.specs.Slots.{cell, past, timer_in}
use Rattle.timing.specs.Timing.{clock_in, quiet_in, later, left_of}
use Rattle.timing.proofs.Falling.{left_zero}
use Rattle.good.specs.Good.{Lists, Outlasts, Outlast, Timely, Good}
use Rattle.good.specs.Calls.{Memory}
use Rattle.good.proofs.Timely.{passes_none}
use Rattle.machine.specs.Machine.{Number, End, Machine, listed, number, node, turned, stated, numbered, failing, running, fallen}
use Rattle.machine.specs.Machine.{ticked_all, any_spent, again_from, ticked}
use Rattle.machine.proofs.Entries.{elem_lt}
use Rattle.machine.proofs.Listed.{length_listed, listed_ext, elem_listed, set_listed}
use Rattle.machine.proofs.Numbers.{none_spent}
use Rattle.refinement.specs.Standing.{Reading, number_for, state_for, end_for}
use Rattle.refinement.proofs.Readings.{Readings, end_with, stands_with, StandsWith, same_with}
use Rattle.refinement.proofs.Following.{stated_at}
use Rattle.refinement.proofs.Numbers.{timer_unhanded, timer_under, timer_else}
use Rattle.refinement.proofs.TickNumbers.{flag, ticked_listed}
use Rattle.refinement.proofs.TickStands.{again_snoc, none_listed}

module _ (t : List ℕ) (n : Memory) (l : Lists) (g : Good t n.node n.book l) (room : store_of t ≤ length n.store)
    (bound : quiet_in n.node ≢ 0) (i : ℕ) (li : i < count_in n.node) (R R' : Readings)
    (old : R i ≡ left_of (clock_in n.node)) (new : R' i ≡ left_of (later (clock_in n.node) 1)) (read : (j : ℕ) → j ≢ i → R' j ≡ R j) where
  abbrev M : Machine
  M = stands_with R t n l

  abbrev c : ℕ
  c = clock_in n.node

  abbrev q : ℕ
  q = quiet_in n.node

  abbrev now : ℕ
  now = later c 1

  abbrev L₀ : Reading
  L₀ = left_of c

  abbrev L₁ : Reading
  L₁ = left_of now

  abbrev e : EndPoint
  e = end_of n.node i

  abbrev E : End
  E = end_for L₀ n.store n.book i e

  abbrev w : Window
  w = e.run.window

  abbrev R₀ : ℕ
  R₀ = e.entry.retries

  -- its Reset is under way
  abbrev out : Bool
  out = is_reset (under_in n.book) i

  E-old : end_with R n i ≡ E
  E-old = ap (λ (L : Reading). end_for L n.store n.book i e) old

  -- the entry, read anew
  anew_stands : {E' : End} → end_for L₁ n.store n.book i e ≡ E' → StandsWith R' t n (turned i E' M)
  anew_stands {E'} here =
      record {
        lists = l;
        good = g;
        room = room;
        is = ap (λ (es : List End). node M es M.waiting)
            (set_listed (count_of t) (end_with R n) (end_with R' n) i E' (let c = g.tabled.count in omega arith)
            (ap (λ (L : Reading). end_for L n.store n.book i e) new ∙ here)
            (λ j h d. ap (λ (L : Reading). end_for L n.store n.book j (end_of n.node j)) (read j d)));
      }

  same_stands : end_for L₁ n.store n.book i e ≡ E → StandsWith R' t n M
  same_stands h = subst (StandsWith R' t n) (sym (same_with R n g li E-old)) (anew_stands h)

  passes : (d : ℕ) → Outlasts c q d → (L₀ d ≢ 1) × (L₁ d ≡ L₀ d - 1)
  passes = passes_none c q (omega arith) bound

  timely : (s : State) → e.state ≡ s → Timely c q n.book i e s
  timely s z = subst (Timely c q n.book i e) z (g.timely i li)

  -- ---- without numbers: Closed and Enabled

  module _ (empty : e.run.taken ≡ 0) where
    reads : (s : State) → state_for L₁ out E.numbers e.state ≡ s → end_for L₁ n.store n.book i e ≡ stated s E
    unfolding end_for
    reads s z = rw (none_listed (number_for L₁ n.store n.book i e) (number_for L₀ n.store n.book i e) e.run.taken empty, z)

    closed_stands : e.state ≡ Closed → StandsWith R' t n M
    unfolding end_for
    closed_stands z = same_stands (reads (state_for L₀ out E.numbers e.state) (rw z))

    -- while the Reset is under way its timer reads 0, whatever stands in its place
    enabled_stands : (d : ℕ) (sent : Bool) → e.state ≡ Enabled d sent → StandsWith R' t n (ticked M i E (Enabled (pick out 0 (L₀ d)) sent))
    unfolding ticked end_for
    enabled_stands d sent z = sides (eqb v 0) refl
      where
        v : ℕ
        v = pick out 0 (L₀ d)

        left : (o : Bool) → out ≡ o → (pick o 0 (L₀ d) ≢ 1) × (pick o 0 (L₁ d) ≡ pick o 0 (L₀ d) - 1)
        left true h = ((λ o. omega arith), refl)
        left false h = passes d (timely (Enabled d sent) z h)

        next : state_for L₁ out E.numbers e.state ≡ Enabled (v - 1) sent
        next = rw (z, (left out refl).1)

        none_left : v ≡ 0 → Enabled (v - 1) sent ≡ state_for L₀ out E.numbers e.state
        none_left o = rw (z, o)

        sides : (a : Bool) → eqb v 0 ≡ a → StandsWith R' t n (ticked M i E (Enabled v sent))
        sides true a = rw a (same_stands (reads (state_for L₀ out E.numbers e.state) (next ∙ none_left (eqb-true v 0 a))))
        sides false a = rw (a, ne_eqb v 1 (left out refl).0) (anew_stands (reads (Enabled (v - 1) sent) next))

  -- ---- numbers

  abbrev N : ℕ → Number
  N = number_for L₀ n.store n.book i e

  abbrev N₁ : ℕ → Number
  N₁ = number_for L₁ n.store n.book i e

  module _ (outlast : Outlast c q n.book i e.run) where
    abbrev d : ℕ → ℕ
    d k = timer_in n.book (cell i w (past w k))

    -- of one that was not handed out, or is under way, none is left
    timer_passes : (k : ℕ) → ((N k).timer ≢ 1) × ((N₁ k).timer ≡ (N k).timer - 1)
    timer_passes k = sides (dec_lt k e.run.handed) (ℕ_discrete (past w k) (data_out n.book i))
      where
        reads : {v v₁ x x₁ : ℕ} → v ≡ x → v₁ ≡ x₁ → (x ≢ 1) × (x₁ ≡ x - 1) → (v ≢ 1) × (v₁ ≡ v - 1)
        reads p q h = rw (p, q) h

        none : (◌≢◌ {A = ℕ} 0 1) × (◌≡◌ {A = ℕ} 0 (0 - 1))
        none = ((λ z. omega arith), refl)

        sides : Dec (k < e.run.handed) → Dec (past w k ≡ data_out n.book i) → ((N k).timer ≢ 1) × ((N₁ k).timer ≡ (N k).timer - 1)
        sides (yes h) (yes u) =
            reads (timer_under L₀ (left_zero c) n.store n.book i e k u) (timer_under L₁ (left_zero now) n.store n.book i e k u) none
        sides (yes h) (no u) =
            reads (timer_else L₀ (left_zero c) n.store n.book i e k h u) (timer_else L₁ (left_zero now) n.store n.book i e k h u)
            (passes (d k) (outlast k h u))
        sides (no h) u =
            reads (timer_unhanded L₀ (left_zero c) n.store n.book i e k (omega arith))
            (timer_unhanded L₁ (left_zero now) n.store n.book i e k (omega arith)) none

    timer_not : (k : ℕ) → eqb (N k).timer 1 ≡ false
    timer_not k = ne_eqb (N k).timer 1 (timer_passes k).0

    not_retried : (k : ℕ) (a : Bool) → (a && eqb (N k).timer 1) ≡ false
    not_retried k a = ap (λ (z : Bool). a && z) (timer_not k) ∙ and-false a

    number_falls : (k : ℕ) (a : Bool) → fallen a (N k) ≡ N₁ k
    number_falls k a =
        ap (λ (z : Bool). number (N k).payload (pick z ((N k).retries + 1) (N k).retries) (N k).handed (N k).acked ((N k).timer - 1)) (not_retried k a)
        ∙ ap (λ (v : ℕ). number (N k).payload (N k).retries (N k).handed (N k).acked v) (sym (timer_passes k).1)

    numbers_fall : (a : Bool) (k : ℕ) → ticked_all R₀ a (listed k N) ≡ listed k N₁
    numbers_fall a k = ticked_listed R₀ a N k ∙ listed_ext k (λ j. fallen (flag R₀ a (listed (suc j) N)) (N j)) N₁ (λ j h. number_falls j (flag R₀ a (listed (suc j) N)))

    not_spent : (k : ℕ) → any_spent R₀ (listed k N) ≡ false
    not_spent k = none_spent R₀ (listed k N) (λ j x h o. absurd (runs_out j x h o))
      where
        runs_out : (j : ℕ) (x : Number) → get_elem? (listed k N) j ≡ some x → x.timer ≡ 1 → ⊥
        runs_out j x h o =
            let lj : j < k = omega (arith, elem_lt (listed k N) j h, length_listed k N) in
            let is : x ≡ N j = (let a : some x ≡ some (N j) = sym h ∙ elem_listed k N j lj in cc) in
            eqb-false (N j).timer 1 (timer_not j) (ap (λ (y : Number). y.timer) (sym is) ∙ o)

    not_again : (m : Machine) (k : ℕ) → again_from i E 0 (listed k N) m ≡ m
    unfolding again_from listed
    not_again m zero = refl
    not_again m (suc k) = again_snoc i E 0 (listed k N) (N k) m ∙ rw (timer_not k) (not_again m k)

    open_end : e.state ≡ Open → end_for L₁ n.store n.book i e ≡ numbered E.start (ticked_all R₀ true E.numbers) E
    unfolding end_for
    open_end z =
        let s : state_for L₁ out (listed e.run.taken N₁) e.state ≡ state_for L₀ out (listed e.run.taken N) e.state = rw z in
        rw (s, numbers_fall true e.run.taken)

    open_stands : e.state ≡ Open → StandsWith R' t n (ticked M i E Open)
    unfolding ticked end_for
    open_stands z = rw (not_spent e.run.taken, not_again (turned i (numbered E.start (ticked_all R₀ true E.numbers) E) M) e.run.taken) (anew_stands (open_end z))

    module _ (m : ℕ) (z : e.state ≡ Failing m) (urgent : e.run.urgent ≡ 0) where
      failing_end : end_for L₁ n.store n.book i e ≡ failing (ticked_all R₀ false E.numbers) E
      unfolding end_for
      failing_end =
          let s : state_for L₁ out (listed e.run.taken N₁) e.state ≡ Failing (running (listed e.run.taken N₁)) = rw z in
          rw (s, numbers_fall false e.run.taken, eq-eqb e.run.urgent 0 urgent)

      failing_stands : StandsWith R' t n (turned i (failing (ticked_all R₀ false E.numbers) E) M)
      failing_stands = anew_stands failing_end

  -- ---- all states

  passes_in : (s : State) → e.state ≡ s → (k : Bool) → is_sends e.entry.kind ≡ k
      → StandsWith R' t n (ticked M i E (state_for L₀ out E.numbers s))
  unfolding ticked end_for
  passes_in Closed z true k = closed_stands (stated_at g li true k Closed z).fresh.taken z
  passes_in Closed z false k = closed_stands (stated_at g li false k Closed z).fresh.taken z
  passes_in (Enabled d sent) z true k = enabled_stands (stated_at g li true k (Enabled d sent) z).fresh.taken d sent z
  passes_in (Enabled d sent) z false k = enabled_stands (stated_at g li false k (Enabled d sent) z).0.fresh.taken d sent z
  passes_in Open z b k = open_stands (timely Open z) z
  passes_in (Failing m) z true k = failing_stands (timely (Failing m) z).0 m z (stated_at g li true k (Failing m) z).urgent
  passes_in (Failing m) z false k = absurd (stated_at g li false k (Failing m) z)

  passes_here : StandsWith R' t n (ticked M i E E.state)
  unfolding end_for
  passes_here = passes_in e.state refl (is_sends e.entry.kind) refl

  pub entry_passes : StandsWith R' t n (ticked M i (end_with R n i) (end_with R n i).state)
  entry_passes = subst (λ (E : End). StandsWith R' t n (ticked M i E E.state)) (sym E-old) passes_here
