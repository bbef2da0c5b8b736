-- A sender's numbers: how many timers run, one handed out, and one acknowledged. Assumes nothing.
use Prim.Native.Nat.{ℕ, zero, suc, ◌+◌, ◌-◌, ◌≤◌, ◌<◌}
use mathlib.Core.Path.{◌≡◌, refl, sym, ap, ◌∙◌}
use mathlib.Core.Logic.{◌≢◌, ◌⊎◌, inl, inr}
use mathlib.Core.Bool.{Bool, true, false, not, ◌&&◌}
use mathlib.Core.List.{List, [], ◌∷◌, ◌++◌}
use native.Mathlib.Decide.{dec_lt, ℕ_discrete}
use native.Mathlib.Omega.{arith}
use lib.ListN.{length, get_or, drop, length-set, length-drop, get_or-eq_default}
use lib.Seq.{ext_get_or, get_or-set_same, get_or-set_other, get_or-drop}
use lib.Dec.{ltb, eqb}
use borrow.Author.Tests.{lt-ltb, le-ltb, eqb-true, eq-eqb, ne_eqb}
use Rattle.units.specs.Refusals.{pick}
use Rattle.memory.specs.Layout.{all_cells}
use Rattle.waiting.specs.Port.{under_in, is_reset, no_number, data_out}
use Rattle.window.specs.Windows.{offset_of, held, accept_of, with_held, Good as GoodWindow}
use Rattle.window.specs.declared.Found.TheVariants.{New, Held}
use Rattle.window.specs.declared.Window.{Window}
use Rattle.window.specs.declared.Accepted.{Accepted}
use Rattle.window.specs.Numbers.{distance_of}
use Rattle.window.proofs.Sizes.{size_le}
use Rattle.end_points.specs.Runs.{is_new}
use Rattle.end_points.specs.declared.State.{State}
use Rattle.end_points.specs.declared.Run.{Run}
use Rattle.end_points.specs.declared.EndPoint.{EndPoint}
use Rattle.end_points.specs.States.{is_sends}
use Rattle.slots.specs.Slots.{cell, past, length_in, timer_in, retries_in}
use Rattle.arrive_ack.specs.Acking as acking
use Rattle.good.specs.Good.{Sending}
use Rattle.good.specs.Good as good
use Rattle.good.proofs.Framing.{same_under, cell_low}
use Rattle.good.proofs.Turns.{turned_to}
use Rattle.good.proofs.Senders.{Timed}
use Rattle.good.proofs.AckRuns.{Passes, Counts, passes, passed_le}
use Rattle.machine.specs.Machine.{Number, End, listed, number_at, timed, acked_run, number, stated, numbered, running}
use Rattle.refinement.specs.Standing.{Reading, payload_for, number_for, state_for, end_for}
use Rattle.machine.proofs.Listed.{length_listed, get_d_listed, set_listed}
use Rattle.refinement.proofs.Listing.{beyond, count_snoc}
use Rattle.refinement.proofs.Elsewhere.{number_as, timer_for, timer_as, no_places}
use Rattle.refinement.proofs.Passing.{payload_past}

-- ---- how many timers run, one more at the end

abbrev more : Number → ℕ → ℕ
more x n = pick (eqb x.timer 0) n (suc n)

running_snoc : (xs : List Number) (x : Number) → running (xs ++ (x ∷ [])) ≡ more x (running xs)
unfolding running
running_snoc = count_snoc running more (λ x xs. refl) (λ x y. both (eqb x.timer 0) (eqb y.timer 0))
  where
    both : (a b : Bool) (n : ℕ) → pick a (pick b n (suc n)) (suc (pick b n (suc n))) ≡ pick b (pick a n (suc n)) (suc (pick a n (suc n)))
    both true b n = refl
    both false true n = refl
    both false false n = refl

-- ---- how many are acknowledged without a gap

abbrev nobody : Number
nobody = number [] 0 false false 0

acked_run_holds : (ns : List Number) (p : ℕ) → p ≤ length ns → ((j : ℕ) → j < p → (get_or ns j nobody).acked ≡ true)
    → (p < length ns → (get_or ns p nobody).acked ≡ false) → acked_run ns ≡ p
unfolding acked_run
acked_run_holds [] p h all gap = omega arith
acked_run_holds (x ∷ xs) zero h all gap = rw (gap (omega arith))
acked_run_holds (x ∷ xs) (suc p) h all gap =
    rw (all 0 (omega arith)) (ap suc (acked_run_holds xs p (omega arith) (λ j l. all (suc j) (omega arith)) (λ l. gap (omega arith))))

-- ---- of an end point

-- h numbers of e handed out
abbrev pub handed_to : EndPoint → ℕ → EndPoint
handed_to e h =
    let r = e.run in
    turned_to e e.state
    (record { window = r.window; taken = r.taken; handed = h; accepted = r.accepted; confirmed = r.confirmed; urgent = r.urgent })

module _ (L : Reading) (zero_left : (d : ℕ) → eqb (L d) 0 ≡ eqb d 0) (st b : List ℕ) (i : ℕ) (e : EndPoint) where
  abbrev r : Run
  r = e.run

  abbrev w : Window
  w = r.window

  abbrev E : End
  E = end_for L st b i e

  abbrev N : ℕ → Number
  N = number_for L st b i e

  none_left : L 0 ≡ 0
  none_left = eqb-true (L 0) 0 (zero_left 0)

  -- ---- a number's timer, as it is read

  pub timer_unhanded : (k : ℕ) → r.handed ≤ k → (N k).timer ≡ 0
  timer_unhanded k h = rw (le-ltb k r.handed h)

  pub timer_under : (k : ℕ) → past w k ≡ data_out b i → (N k).timer ≡ 0
  timer_under k u = parts (ltb k r.handed) (L (timer_in b (cell i w (past w k)))) (eq-eqb (past w k) (data_out b i) u)
    where
      parts : (h : Bool) {u : Bool} (t : ℕ) → u ≡ true → pick (h && not u) t 0 ≡ 0
      parts true t e = rw e
      parts false t e = refl

  pub timer_else : (k : ℕ) → k < r.handed → past w k ≢ data_out b i → (N k).timer ≡ L (timer_in b (cell i w (past w k)))
  timer_else k h u = parts (lt-ltb k r.handed h) (ne_eqb (past w k) (data_out b i) u)
    where
      parts : {h u : Bool} {t : ℕ} → h ≡ true → u ≡ false → pick (h && not u) t 0 ≡ t
      parts h e = rw (h, e)

  -- ---- how many timers run, in the machine as in the book, where none of its numbers is under way

  module _ (none : data_out b i ≡ no_number) where
    not_out : (k : ℕ) → past w k ≢ data_out b i
    not_out k u = omega (arith, u, none)

    among : (n : ℕ) → n ≤ r.handed → running (listed n N) ≡ good.running b i w n
    unfolding listed running good.running
    among zero h = refl
    among (suc n) h =
        running_snoc (listed n N) (N n)
        ∙ rw (timer_else n (omega arith) (not_out n), zero_left (timer_in b (cell i w (past w n))), among n (omega arith))

    pub running_is : (n : ℕ) → r.handed ≤ n → running (listed n N) ≡ good.running b i w r.handed
    unfolding listed
    running_is n h =
        beyond (λ k. running (listed k N)) r.handed (λ k h. running_snoc (listed k N) (N k) ∙ rw (timer_unhanded k h)) n h
        ∙ among r.handed (omega arith)

  -- ---- one handed out

  module _ (g : GoodWindow w) (k : ℕ) (hk : k < r.taken) (wide : r.taken ≤ w.size) where
    back : distance_of w.start.0 (past w k) ≡ k
    back = let z = g.byte in let y = size_le w.size g.sized in omega arith

    -- the number k past the start, in the machine
    pub number_is : number_at E (past w k) ≡ N k
    unfolding end_for
    number_is = rw back (get_d_listed r.taken N k _ hk)

    -- two numbers of the window differ
    apart : (j : ℕ) → j < r.taken → j ≢ k → past w j ≢ past w k
    apart j hj d p = let y = size_le w.size g.sized in d (omega (arith, p))

    -- in another book its timer reads v, and no other number alters
    module _ (b' : List ℕ) (low : i < 16) (sends : is_sends e.entry.kind ≡ true) (h v : ℕ)
        (lengths : (c : ℕ) → c < all_cells → length_in b' c ≡ length_in b c)
        (retries : (c : ℕ) → c < all_cells → retries_in b' c ≡ retries_in b c)
        (timers : (j : ℕ) → j < w.size → j ≢ k → timer_in b' (cell i w (past w j)) ≡ timer_in b (cell i w (past w j)))
        (under : (s : ℕ) → s < 256 → s ≢ past w k → eqb s (data_out b' i) ≡ eqb s (data_out b i))
        (starts : timer_for L b' i (handed_to e h).run k ≡ v) (out : k < h) (missing : held w k ≡ false)
        (others : (j : ℕ) → j ≢ k → ltb j h ≡ ltb j r.handed) where
      abbrev then : EndPoint
      then = handed_to e h

      payload_stays : (j : ℕ) → payload_for st b' i then j ≡ payload_for st b i e j
      payload_stays j = rw (lengths (cell i w (past w j)) (cell_low i low w g (past w j)))

      abbrev its : Number
      its = number_at E (past w k)

      here : number_for L st b' i then k ≡ number its.payload its.retries true false v
      here =
          number_as (payload_stays k) (retries (cell i w (past w k)) (cell_low i low w g (past w k))) (lt-ltb k h out) missing starts
          ∙ ap (λ (x : Number). number x.payload x.retries true false v) (sym number_is)

      there : (j : ℕ) → j < r.taken → j ≢ k → number_for L st b' i then j ≡ N j
      there j hj d =
          number_as (payload_stays j) (retries (cell i w (past w j)) (cell_low i low w g (past w j))) (others j d) refl
          (timer_as L b b' i i r then.run j j (others j d) (under (past w j) (omega arith) (apart j hj d)) (timers j (omega arith) d))

      pub numbers_timed : listed r.taken (number_for L st b' i then) ≡ timed v false E (past w k)
      unfolding end_for
      numbers_timed = set_listed r.taken N (number_for L st b' i then) k _ hk here there ∙ rw back

      pub timed_end : end_for L st b' i then
          ≡ stated (state_for L (is_reset (under_in b') i) (timed v false E (past w k)) e.state) (numbered E.start (timed v false E (past w k)) E)
      unfolding end_for
      timed_end = rw (numbers_timed, no_places st b' i then sends, no_places st b i e sends)

  -- ---- the number s acknowledged

  module _ (s : ℕ) (S : Sending b i r e.entry.largest) where
    abbrev at : ℕ
    at = offset_of w s

    -- whether it counts
    pub counts_is : acking.counts r s ≡ ((number_at E s).handed && not (number_at E s).acked)
    unfolding acking.counts accept_of end_for
    counts_is = sides (dec_lt at r.taken)
      where
        found : (z : Bool) → is_new
            (pick {A = Accepted} z (record { window = w; found = Held }) (record { window = with_held w at; found = New })).found ≡ not z
        found true = refl
        found false = refl

        sides : Dec (at < r.taken)
            → (ltb at r.handed && is_new (accept_of w s).found) ≡ ((number_at E s).handed && not (number_at E s).acked)
        sides (yes h) =
            rw (get_d_listed r.taken N at nobody h, lt-ltb at w.size (omega (arith, S.taken)))
            (ap (λ (z : Bool). ltb at r.handed && z) (found (held w at)))
        sides (no h) =
            rw (
              get_or-eq_default (listed r.taken N) nobody {n = at} (rw (length_listed r.taken N) (omega arith)),
              le-ltb at r.handed (omega (arith, S.handed)),
            )

    -- of another book, where its timer stands and all else is as it was
    module _ (g : GoodWindow w) (b' : List ℕ) (low : i < 16) (C : Counts r s) (T : Timed b b' i w at 0)
        (R : (c : ℕ) → c < all_cells → retries_in b' c ≡ retries_in b c) where
      abbrev p : ℕ
      p = (acking.passing r s).run

      abbrev u : Window
      u = (acking.passing r s).window

      abbrev ns : List Number
      ns = timed 0 true E s

      P : Passes i w at p u
      P = passes i r s g C

      at_taken : at < r.taken
      at_taken = omega (arith, C.handed, S.handed)

      passed : p ≤ r.taken
      passed = omega (arith, passed_le b i r e.entry.largest S at C.handed p u P, S.handed)

      long : length ns ≡ r.taken
      unfolding end_for
      long = length-set (listed r.taken N) at _ ∙ length_listed r.taken N

      ns_here : get_or ns at nobody ≡ number (payload_for st b i e at) (retries_in b (cell i w (past w at))) true true 0
      unfolding end_for
      ns_here =
          get_or-set_same (listed r.taken N) at _ nobody (rw (length_listed r.taken N) at_taken)
          ∙ rw (get_d_listed r.taken N at nobody at_taken)

      ns_there : (j : ℕ) → j < r.taken → j ≢ at → get_or ns j nobody ≡ N j
      unfolding end_for
      ns_there j h d = get_or-set_other (listed r.taken N) at j _ nobody d ∙ get_d_listed r.taken N j nobody h

      pub run_is : acked_run ns ≡ p
      run_is = acked_run_holds ns p (rw long passed) (λ j h. under_p j h (ℕ_discrete j at) (P.under j h)) gap
        where
          under_p : (j : ℕ) → j < p → Dec (j ≡ at) → (j ≡ at) ⊎ (held w j ≡ true) → (get_or ns j nobody).acked ≡ true
          under_p j h (yes z) q = rw z (ap (λ (x : Number). x.acked) ns_here)
          under_p j h (no z) (inl q) = absurd (z q)
          under_p j h (no z) (inr q) = ap (λ (x : Number). x.acked) (ns_there j (omega (arith, passed)) z) ∙ q

          gap : p < length ns → (get_or ns p nobody).acked ≡ false
          gap h =
              let f = P.none 0 P.first in
              let z : p + 0 ≡ p = omega arith in
              ap (λ (x : Number). x.acked) (ns_there p (omega (arith, long)) (λ c. f.0 (z ∙ c))) ∙ ap (held w) (sym z) ∙ f.1

      -- the number j past the new start
      abbrev e' : State → EndPoint
      e' z = turned_to e z (acking.acked_run r s)

      payload_is : (z : State) (j : ℕ) → payload_for st b' i (e' z) j ≡ payload_for st b i e (p + j)
      unfolding acking.acked_run
      payload_is z j =
          payload_past st b' i e.place e.entry.largest w u at p P j
          ∙ rw (T.lengths (cell i w (past w (p + j))) (cell_low i low w g (past w (p + j))))

      retries_is : (j : ℕ) → retries_in b' (cell i u (past u j)) ≡ retries_in b (cell i w (past w (p + j)))
      retries_is j = ap (retries_in b') (P.cells j) ∙ R (cell i w (past w (p + j))) (cell_low i low w g (past w (p + j)))

      handed_is : (j : ℕ) → ltb j (r.handed - p) ≡ ltb (p + j) r.handed
      handed_is j = sides (dec_lt (p + j) r.handed)
        where
          sides : Dec (p + j < r.handed) → ltb j (r.handed - p) ≡ ltb (p + j) r.handed
          sides (yes h) = lt-ltb j (r.handed - p) (omega arith) ∙ sym (lt-ltb (p + j) r.handed h)
          sides (no h) = le-ltb j (r.handed - p) (omega arith) ∙ sym (le-ltb (p + j) r.handed (omega arith))

      held_here : (j : ℕ) → p + j ≡ at → (z : Bool) → held u j ≡ z → z ≡ true
      held_here j h true q = refl
      held_here j h false q = absurd ((P.none j q).0 h)

      held_there : (j : ℕ) → p + j ≢ at → (z : Bool) → held u j ≡ z → z ≡ held w (p + j)
      held_there j d true q = sides (P.each j q)
        where
          sides : (p + j ≡ at) ⊎ (held w (p + j) ≡ true) → true ≡ held w (p + j)
          sides (inl z) = absurd (d z)
          sides (inr z) = sym z
      held_there j d false q = sym (P.none j q).1

      out_is : (j : ℕ) → eqb (past u j) (data_out b' i) ≡ eqb (past w (p + j)) (data_out b i)
      out_is j = ap (λ (x : ℕ). eqb x (data_out b' i)) (P.numbers j) ∙ ap (eqb (past w (p + j))) (same_under i b b' T.under).data!

      -- where it stands, it reads 0, whatever is under way
      timer_none : (j : ℕ) → p + j ≡ at → timer_for L b' i (acking.acked_run r s) j ≡ 0
      unfolding acking.acked_run
      timer_none j q =
          parts (ltb j (r.handed - p) && not (eqb (past u j) (data_out b' i)))
          (ap L (ap (timer_in b') (P.cells j) ∙ ap (λ (k : ℕ). timer_in b' (cell i w (past w k))) q ∙ T.here) ∙ none_left)
        where
          parts : (z : Bool) {t : ℕ} → t ≡ 0 → pick z t 0 ≡ 0
          parts true e = e
          parts false e = refl

      later : (z : State) (j : ℕ) → j < r.taken - p → Dec (p + j ≡ at) → get_or ns (p + j) nobody ≡ number_for L st b' i (e' z) j
      unfolding acking.acked_run
      later z j h (yes q) =
          rw (q, ns_here)
          (sym (number_as (payload_is z j ∙ ap (payload_for st b i e) q) (retries_is j ∙ ap (λ (k : ℕ). retries_in b (cell i w (past w k))) q)
          (handed_is j ∙ lt-ltb (p + j) r.handed (rw q C.handed)) (held_here j q (held u j) refl) (timer_none j q)))
      later z j h (no d) =
          ns_there (p + j) (omega arith) d
          ∙ sym (number_as (payload_is z j) (retries_is j) (handed_is j) (held_there j d (held u j) refl)
          (timer_as L b b' i i r (acking.acked_run r s) (p + j) j (handed_is j) (out_is j)
          (ap (timer_in b') (P.cells j) ∙ T.there (p + j) (omega (arith, S.taken)) d)))

      pub numbers_then : (z : State) → drop p ns ≡ listed (r.taken - p) (number_for L st b' i (e' z))
      numbers_then z =
          ext_get_or nobody (drop p ns) (listed (r.taken - p) (number_for L st b' i (e' z)))
          (length-drop p ns ∙ ap (λ (m : ℕ). m - p) long ∙ sym (length_listed (r.taken - p) (number_for L st b' i (e' z))))
          (λ j h. let hj : j < r.taken - p = omega (arith, length-drop p ns, long) in
          get_or-drop p ns j nobody ∙ later z j hj (ℕ_discrete (p + j) at)
          ∙ sym (get_d_listed (r.taken - p) (number_for L st b' i (e' z)) j nobody hj))
