-- A receiver's places: how many are held, which number is new, and what is delivered once it is put. Assumes nothing.
use Prim.Native.Nat.{ℕ, zero, suc, ◌+◌, ◌-◌, ◌≤◌, ◌<◌}
use mathlib.Core.Path.{◌≡◌, refl, sym, ap, ◌∙◌}
use mathlib.Core.Logic.{◌≢◌, ◌⊎◌, inl, inr}
use mathlib.Core.Bool.{Bool, true, false, not, true≢false}
use mathlib.Core.Option.{Option, none, some}
use mathlib.Core.List.{List, [], ◌∷◌, ◌++◌}
use native.Mathlib.Decide.{dec_lt, ℕ_discrete}
use native.Mathlib.Omega.{arith}
use lib.ListN.{length, get_or, set, drop, replicate, length-set, length-drop, length-append, length-replicate}
use lib.ListN.{get_or-replicate, get_or-append, get_or-eq_default}
use lib.Seq.{ext_get_or, get_or-set_same, get_or-set_other, get_or-drop, get_or-append-add}
use borrow.Author.Tests.{lt-ltb, le-ltb}
use Rattle.units.specs.Refusals.{pick}
use Rattle.window.specs.Windows.{offset_of, held, held_count, accept_of, with_held, Good as GoodWindow}
use Rattle.window.specs.declared.Window.{Window}
use Rattle.window.specs.declared.Accepted.{Accepted}
use Rattle.window.specs.declared.Found.TheVariants.{New, Held}
use Rattle.window.proofs.Holding as holding
use Rattle.window.proofs.Holding.{held_beyond, count_below}
use Rattle.end_points.specs.States.{is_sends}
use Rattle.end_points.specs.Runs.{is_new}
use Rattle.end_points.specs.declared.EndPoint.{EndPoint}
use Rattle.end_points.specs.declared.State.{State}
use Rattle.blocks.specs.Payloads.{payloads}
use Rattle.arrive_data.specs.Receiving.{with_window}
use Rattle.good.proofs.Turns.{turned_to}
use Rattle.good.proofs.AckRuns.{Passes}
use Rattle.machine.specs.Machine as machine
use Rattle.machine.specs.Machine.{listed, is_some, held_run}
use Rattle.refinement.specs.Standing.{Reading, payload_for, place_for, end_for}
use Rattle.machine.proofs.Listed.{length_listed, get_d_listed}
use Rattle.refinement.proofs.Listing.{count_snoc}
use Rattle.refinement.proofs.Passing.{payload_past}

abbrev Place : Type 0
Place = Option (List ℕ)

-- ---- lists of places

abbrev more : Place → ℕ → ℕ
more p n = pick (is_some p) (suc n) n

held_snoc : (ps : List Place) (p : Place) → machine.held_count (ps ++ (p ∷ [])) ≡ more p (machine.held_count ps)
unfolding machine.held_count
held_snoc = count_snoc machine.held_count more (λ p ps. refl) (λ p q. both (is_some p) (is_some q))
  where
    both : (a b : Bool) (n : ℕ) → pick a (suc (pick b (suc n) n)) (pick b (suc n) n) ≡ pick b (suc (pick a (suc n) n)) (pick a (suc n) n)
    both true true n = refl
    both true false n = refl
    both false b n = refl

-- one more in front
listed_cons : {A : Type 0} (n : ℕ) (f : ℕ → A) → listed (suc n) f ≡ f 0 ∷ listed n (λ k. f (suc k))
unfolding listed
listed_cons zero f = refl
listed_cons (suc n) f = ap (λ (l : List _). l ++ (f (suc n) ∷ [])) (listed_cons n f)

-- those held without a gap
run_of : (ps : List Place) (q : ℕ) (f : ℕ → List ℕ) → q ≤ length ps → ((j : ℕ) → j < q → get_or ps j none ≡ some (f j))
    → (q < length ps → get_or ps q none ≡ none)
    → held_run ps ≡ listed q f
unfolding held_run listed
run_of [] q f h all gap = let z : 0 ≡ q = omega arith in ap (λ (n : ℕ). listed n f) z
run_of (none ∷ ps) zero f h all gap = refl
run_of (none ∷ ps) (suc q) f h all gap = absurd (let z = all 0 (omega arith) in let y : ◌≡◌ {A = ℕ} 0 1 = cc in omega arith)
run_of (some p ∷ ps) zero f h all gap = absurd (let z = gap (omega arith) in let y : ◌≡◌ {A = ℕ} 0 1 = cc in omega arith)
run_of (some p ∷ ps) (suc q) f h all gap =
    let z : p ≡ f 0 = (let y = all 0 (omega arith) in cc) in
    rw (z, run_of ps q (λ k. f (suc k)) (omega arith) (λ j l. all (suc j) (omega arith)) (λ l. gap (omega arith))) (sym (listed_cons q f))

pub payloads_listed : (store b : List ℕ) (i : ℕ) (e : EndPoint) (q : ℕ)
    → payloads store b i e.place e.entry.largest e.run.window q ≡ listed q (payload_for store b i e)
unfolding payloads listed
payloads_listed store b i e zero = refl
payloads_listed store b i e (suc q) = rw (payloads_listed store b i e q)

-- ---- of an end point that receives

module _ (L : Reading) (st b : List ℕ) (i : ℕ) (e : EndPoint) (k : is_sends e.entry.kind ≡ false) (g : GoodWindow e.run.window)
    (size : e.run.window.size ≡ e.entry.window) where
  abbrev w : Window
  w = e.run.window

  place_is : (j : ℕ) → place_for st b i e j ≡ pick (held w j) (some (payload_for st b i e j)) none
  place_is j = rw k

  below : (n : ℕ) → machine.held_count (listed n (place_for st b i e)) ≡ holding.held_below w n
  unfolding listed machine.held_count
  below zero = refl
  below (suc n) = held_snoc (listed n (place_for st b i e)) (place_for st b i e n) ∙ rw (place_is n, below n) (sides (held w n))
    where
      sides : (z : Bool) → pick (is_some (pick z (some (payload_for st b i e n)) none)) (suc (holding.held_below w n))
          (holding.held_below w n) ≡ pick z 1 0 + holding.held_below w n
      sides true = omega arith
      sides false = omega arith

  pub count_is : held_count w ≡ machine.held_count (end_for L st b i e).places
  unfolding end_for
  count_is = count_below w g ∙ ap (holding.held_below w) size ∙ sym (below e.entry.window)

  place_at : (j : ℕ) (d : Place) → j < e.entry.window
      → get_or (end_for L st b i e).places j d ≡ pick (held w j) (some (payload_for st b i e j)) none
  unfolding end_for
  place_at j d h = get_d_listed e.entry.window (place_for st b i e) j d h ∙ place_is j

  long : length (end_for L st b i e).places ≡ e.entry.window
  unfolding end_for
  long = length_listed e.entry.window (place_for st b i e)

  pub new_is : (s : ℕ) → machine.is_new (end_for L st b i e) s ≡ is_new (accept_of w s).found
  unfolding accept_of end_for
  new_is s = sides (dec_lt (offset_of w s) w.size)
    where
      found : (z : Bool) → not (is_some (pick z (some (payload_for st b i e (offset_of w s))) none))
          ≡ is_new (pick {A = Accepted} z (record { window = w; found = Held })
          (record { window = with_held w (offset_of w s); found = New })).found
      found true = refl
      found false = refl

      sides : Dec (offset_of w s < w.size) → machine.is_new (end_for L st b i e) s ≡ is_new (accept_of w s).found
      sides (yes h) =
          rw (lt-ltb (offset_of w s) w.size h, place_at (offset_of w s) (some []) (rw (← size) h)) (found (held w (offset_of w s)))
      sides (no h) =
          let far : length (end_for L st b i e).places ≤ offset_of w s = omega (arith, long, size) in
          rw (le-ltb (offset_of w s) w.size (omega arith), get_or-eq_default (end_for L st b i e).places (some []) far)

-- ---- once the number s is put, with payload p, into another store and book

module _ (L : Reading) (st b st' b' : List ℕ) (i : ℕ) (e : EndPoint) (k : is_sends e.entry.kind ≡ false)
    (g : GoodWindow e.run.window) (size : e.run.window.size ≡ e.entry.window)
    (s : ℕ) (p : List ℕ) (inside : offset_of e.run.window s < e.run.window.size) (q : ℕ) (u : Window)
    (P : Passes i e.run.window (offset_of e.run.window s) q u) (few : q ≤ e.run.window.size)
    (here : payload_for st' b' i e (offset_of e.run.window s) ≡ p)
    (there : (j : ℕ) → held e.run.window j ≡ true → j ≢ offset_of
    e.run.window s → payload_for st' b' i e j ≡ payload_for st b i e j) where
  abbrev v : Window
  v = e.run.window

  abbrev at : ℕ
  at = offset_of v s

  abbrev ps : List Place
  ps = set (end_for L st b i e).places at (some p)

  long_ps : length ps ≡ v.size
  long_ps = length-set (end_for L st b i e).places at (some p) ∙ long L st b i e k g size ∙ sym size

  ps_here : get_or ps at none ≡ some p
  ps_here = get_or-set_same (end_for L st b i e).places at (some p) none (rw (long L st b i e k g size, ← size) inside)

  ps_there : (j : ℕ) → j < v.size → j ≢ at → get_or ps j none ≡ pick (held v j) (some (payload_for st b i e j)) none
  ps_there j h d = get_or-set_other (end_for L st b i e).places at j (some p) none d ∙ place_at L st b i e k g size j none (rw (← size) h)

  -- held then: it, and those held before
  ps_held : (j : ℕ) → j < v.size → (j ≡ at) ⊎ (held v j ≡ true) → get_or ps j none ≡ some (payload_for st' b' i e j)
  ps_held j h (inl z) = rw z (ps_here ∙ ap some (sym here))
  ps_held j h (inr z) = sides (ℕ_discrete j at)
    where
      sides : Dec (j ≡ at) → get_or ps j none ≡ some (payload_for st' b' i e j)
      sides (yes y) = rw y (ps_here ∙ ap some (sym here))
      sides (no y) = ps_there j h y ∙ rw z (ap some (sym (there j z y)))

  ps_none : (j : ℕ) → j < v.size → j ≢ at → held v j ≡ false → get_or ps j none ≡ none
  ps_none j h d z = ps_there j h d ∙ rw z

  pub delivered_is : held_run ps ≡ listed q (payload_for st' b' i e)
  delivered_is =
      run_of ps q (payload_for st' b' i e) (rw long_ps few) (λ j h. ps_held j (omega arith) (P.under j h))
      (λ h. let f = P.none 0 P.first in let z : q + 0 ≡ q = omega arith in
      ps_none q (omega (arith, long_ps)) (λ c. f.0 (z ∙ c)) (ap (held v) (sym z) ∙ f.1))

  abbrev then : State → EndPoint
  then z = turned_to e z (with_window e.run u)

  payload_is : (z : State) (j : ℕ) → payload_for st' b' i (then z) j ≡ payload_for st' b' i e (q + j)
  unfolding with_window
  payload_is z j = payload_past st' b' i e.place e.entry.largest v u at q P j

  place_then : (z : State) (j : ℕ) → place_for st' b' i (then z) j ≡ pick (held u j) (some (payload_for st' b' i (then z) j)) none
  unfolding with_window
  place_then z j = rw k

  nearer : (z : State) (j : ℕ) → q + j < v.size → (h : Bool) → held u j ≡ h
      → get_or ps (q + j) none ≡ pick h (some (payload_for st' b' i (then z) j)) none
  nearer z j l true h = ps_held (q + j) l (P.each j h) ∙ ap some (sym (payload_is z j))
  nearer z j l false h = let f = P.none j h in ps_none (q + j) l f.0 f.1

  beyond : (j : ℕ) → v.size ≤ q + j → held u j ≡ false
  beyond j l = sides (held u j) refl
    where
      at_last : (q + j ≡ at) ⊎ (held v (q + j) ≡ true) → ⊥
      at_last (inl z) = omega arith
      at_last (inr z) = true≢false (sym z ∙ held_beyond v g (q + j) l)

      sides : (h : Bool) → held u j ≡ h → h ≡ false
      sides true h = absurd (at_last (P.each j h))
      sides false h = refl

  long_rest : length (drop q ps) ≡ v.size - q
  long_rest = length-drop q ps ∙ ap (λ (m : ℕ). m - q) long_ps

  pub places_then : (z : State) → drop q ps ++ replicate q none ≡ listed e.entry.window (place_for st' b' i (then z))
  places_then z =
      ext_get_or none (drop q ps ++ replicate q none) (listed e.entry.window (place_for st' b' i (then z)))
      (length-append (drop q ps) (replicate q none)
      ∙ (let y : length (drop q ps) + length (replicate q none) ≡ e.entry.window = omega
      (arith, long_rest, length-replicate {A = Place} q none, size) in y)
      ∙ sym (length_listed e.entry.window (place_for st' b' i (then z))))
      (λ j h. let hj : j < v.size = omega
      (arith, length-append (drop q ps) (replicate q none), long_rest, length-replicate {A = Place} q none) in
      sides j hj (dec_lt j (v.size - q))
      ∙ sym (get_d_listed e.entry.window (place_for st' b' i (then z)) j none (rw (← size) hj) ∙ place_then z j))
    where
      sides : (j : ℕ) → j < v.size → Dec (j < v.size - q)
          → get_or (drop q ps ++ replicate q none) j none ≡ pick (held u j) (some (payload_for st' b' i (then z) j)) none
      sides j h (yes l) =
          get_or-append (drop q ps) (replicate q none) none j (rw long_rest l) ∙ get_or-drop q ps j none
          ∙ nearer z j (omega arith) (held u j) refl
      sides j h (no l) =
          let y : j ≡ length (drop q ps) + (j - (v.size - q)) = omega (arith, long_rest) in
          ap (λ (m : ℕ). get_or (drop q ps ++ replicate q none) m none) y
          ∙ get_or-append-add (drop q ps) (replicate q none) (j - (v.size - q)) none
          ∙ get_or-replicate q (j - (v.size - q)) none none (omega arith)
          ∙ sym (rw (beyond j (omega arith)))
