-- The timers of one entry: what a tick makes of it and of what waits, as one pass over the entries. Assumes nothing.
use Prim.Native.Nat.{ℕ, suc, ◌-◌}
use mathlib.Core.Path.{◌≡◌, refl, sym, ap, ◌∙◌, fun_ext}
use mathlib.Core.Logic.{◌⊎◌, inl, inr}
use mathlib.Core.Bool.{Bool, true, false}
use mathlib.Core.List.Memᴰ
use mathlib.Core.List.{List, [], ◌∷◌, ◌++◌, append-nil, append_assoc, Memᴰ}
use native.Mathlib.Omega.{arith}
use lib.ListN.{set}
use lib.Dec.{eqb}
use borrow.Author.Tests.{ne_eqb, eqb-true}
use Rattle.units.specs.Refusals.{pick}
use Rattle.end_points.specs.States.{is_open}
use Rattle.end_points.specs.declared.State.{State}
use Rattle.end_points.specs.declared.State.TheVariants.{Closed, Enabled, Open, Failing}
use Rattle.machine.specs.Machine.{Number, End, Item, Sort, acks, resets, urgents, resends, datas, Machine, node, stated, numbered, turned, rank, only, waiting_as, waits, silent, past, failing, ticked_all, any_spent, again_from, ticked, without}
use Rattle.machine.specs.Laws.{Is, item}
use Rattle.machine.specs.LawsTick.{fails, due_from, due_reset, due}
use Rattle.machine.proofs.Entries.{set_same}
use Rattle.machine.proofs.Passes.{passed}

-- ---- what an entry becomes

abbrev pub fell : State → End → End
fell Closed e = e
fell (Enabled timer sent) e = stated (Enabled (timer - 1) sent) e
fell Open e =
    pick (any_spent e.entry.retries e.numbers)
    (failing (ticked_all e.entry.retries true e.numbers) e)
    (numbered e.start (ticked_all e.entry.retries true e.numbers) e)
fell (Failing n) e = failing (ticked_all e.entry.retries false e.numbers) e

abbrev pub timed : End → End
timed e = fell e.state e

-- ---- what of it begins to wait is its own

due_from_own : (i : ℕ) (e : End) (k : ℕ) (xs : List Number) (x : Item) → Memᴰ x (due_from i e k xs) → x.entry ≡ i
unfolding due_from
due_from_own i e k [] x h = absurd (Memᴰ.not-nil h)
due_from_own i e k (y ∷ ys) x h = sides (eqb y.timer 1) (due_from_own i e (suc k) ys x) h
  where
    first : (Memᴰ x (due_from i e (suc k) ys) → x.entry ≡ i) → (x ≡ item i (past e k)) ⊎ Memᴰ x (due_from i e (suc k) ys) → x.entry ≡ i
    first below (inl z) = ap (λ (y : Item). y.entry) z
    first below (inr z) = below z

    sides : (b : Bool) → (Memᴰ x (due_from i e (suc k) ys) → x.entry ≡ i)
        → Memᴰ x (pick b (item i (past e k) ∷ due_from i e (suc k) ys) (due_from i e (suc k) ys)) → x.entry ≡ i
    sides true below z = first below (Memᴰ.cases_cons z)
    sides false below z = below z

pub one_own : (b : Bool) (i s : ℕ) (x : Item) → Memᴰ x (pick b (item i s ∷ []) []) → x.entry ≡ i
one_own true i s x h = ap (λ (y : Item). y.entry) (Memᴰ.eq_of_singleton h)
one_own false i s x h = absurd (Memᴰ.not-nil h)

pub due_own : (q : Sort) (i : ℕ) (e : End) (x : Item) → Memᴰ x (due q i e) → x.entry ≡ i
due_own acks i e x h = absurd (Memᴰ.not-nil h)
due_own resets i e x h = sides e.state h
  where
    sides : (s : State) → Memᴰ x (due_reset s i) → x.entry ≡ i
    sides Closed h = absurd (Memᴰ.not-nil h)
    sides (Enabled timer sent) h = one_own (eqb timer 1) i 0 x h
    sides Open h = absurd (Memᴰ.not-nil h)
    sides (Failing n) h = absurd (Memᴰ.not-nil h)
due_own urgents i e x h = absurd (Memᴰ.not-nil h)
due_own resends i e x h = sides (is_open e.state) (fails e) h
  where
    sides : (a b : Bool) → Memᴰ x (pick a (pick b [] (due_from i e 0 e.numbers)) []) → x.entry ≡ i
    sides true true h = absurd (Memᴰ.not-nil h)
    sides true false h = due_from_own i e 0 e.numbers x h
    sides false b h = absurd (Memᴰ.not-nil h)
due_own datas i e x h = absurd (Memᴰ.not-nil h)

-- neither its Reset nor data
pub nothing_due : (i : ℕ) (e : End) → due_reset e.state i ≡ [] → due resends i e ≡ [] → (q : Sort) → due q i e ≡ []
nothing_due i e r d acks = refl
nothing_due i e r d resets = r
nothing_due i e r d urgents = refl
nothing_due i e r d resends = d
nothing_due i e r d datas = refl

-- ---- retransmissions, one after the other, are those that are due

same_node : (m : Machine) (es : List End) (v w : Sort → List Item) → ((q : Sort) → v q ≡ w q) → node m es v ≡ node m es w
same_node m es v w h = ap (λ (f : Sort → List Item). node m es f) (fun_ext h)

-- nothing more of a sort, whether or not it is the one
pub append_none : {A : Type 0} (xs : List A) (z : Bool) → xs ≡ pick z (xs ++ []) xs
append_none xs true = sym (append-nil xs)
append_none xs false = refl

again_is : (i : ℕ) (e : End) (k : ℕ) (xs : List Number) (m : Machine) → again_from i e k xs m ≡ waiting_as (only resends (λ l. l ++ due_from i e k xs)) m
unfolding again_from due_from
again_is i e k [] m = same_node m m.ends _ _ (λ q. append_none (m.waiting q) (eqb (rank q) 3))
again_is i e k (x ∷ xs) m = sides (eqb x.timer 1) (again_is i e (suc k) xs (waits resends i (past e k) m)) (again_is i e (suc k) xs m)
  where
    both : (q : Sort) (z : Bool)
        → pick z (pick z (m.waiting q ++ (item i (past e k) ∷ [])) (m.waiting q) ++ due_from i e (suc k) xs) (pick z (m.waiting q ++ (item i (past e k) ∷ [])) (m.waiting q))
        ≡ pick z (m.waiting q ++ (item i (past e k) ∷ due_from i e (suc k) xs)) (m.waiting q)
    both q true = append_assoc (m.waiting q) (item i (past e k) ∷ []) (due_from i e (suc k) xs)
    both q false = refl

    sides : (z : Bool) → again_from i e (suc k) xs (waits resends i (past e k) m) ≡ waiting_as (only resends (λ l. l ++ due_from i e (suc k) xs)) (waits resends i (past e k) m)
        → again_from i e (suc k) xs m ≡ waiting_as (only resends (λ l. l ++ due_from i e (suc k) xs)) m
        → again_from i e (suc k) xs (pick z (waits resends i (past e k) m) m)
        ≡ waiting_as (only resends (λ l. l ++ pick z (item i (past e k) ∷ due_from i e (suc k) xs) (due_from i e (suc k) xs))) m
    sides true a b = a ∙ same_node m m.ends _ _ (λ q. both q (eqb (rank q) 3))
    sides false a b = b

-- ---- an entry's timers are a pass

module _ (m : Machine) (i : ℕ) (e : End) (here : Is m i e) where
  abbrev then : Machine
  then = passed (λ i. timed) fails due due_own i e m

  -- the end that it becomes, and what then waits
  becomes : (s : State) (d : End) (w : Sort → List Item) → e.state ≡ s → fell s e ≡ d
      → ((q : Sort) → pick (fails e) (without (λ x. eqb x.entry i) (m.waiting q)) (m.waiting q) ++ due q i e ≡ w q)
      → node m (set m.ends i d) w ≡ then
  becomes s d w h f g =
      ap (λ (z : End). node m (set m.ends i z) w) (sym f ∙ ap (λ (z : State). fell z e) (sym h)) ∙ same_node m _ _ _ (λ q. sym (g q))

  -- nothing of it goes and nothing is added
  still_waits : fails e ≡ false → due_reset e.state i ≡ [] → due resends i e ≡ [] → (q : Sort)
      → pick (fails e) (without (λ x. eqb x.entry i) (m.waiting q)) (m.waiting q) ++ due q i e ≡ m.waiting q
  still_waits f r d q = rw (f, nothing_due i e r d q) (append-nil (m.waiting q))

  closed_is : e.state ≡ Closed → m ≡ then
  closed_is h =
      ap (λ (l : List End). node m l m.waiting) (sym (set_same m.ends i here)) ∙ becomes Closed e m.waiting h refl (still_waits (rw h) (rw h) (rw h))

  enabled_is : (timer : ℕ) (sent : Bool) → e.state ≡ Enabled timer sent → ticked m i e (Enabled timer sent) ≡ then
  unfolding ticked
  enabled_is timer sent h = sides (eqb timer 0) (eqb timer 1) refl refl
    where
      e' : End
      e' = stated (Enabled (timer - 1) sent) e

      others : (q : Sort) (b : Bool) → eqb timer 1 ≡ b
          → pick (fails e) (without (λ x. eqb x.entry i) (m.waiting q)) (m.waiting q) ++ due q i e ≡ only resets (λ l. l ++ pick b (item i 0 ∷ []) []) q (m.waiting q)
      others acks b z = rw h (append-nil (m.waiting acks))
      others resets b z = rw (h, z)
      others urgents b z = rw h (append-nil (m.waiting urgents))
      others resends b z = rw h (append-nil (m.waiting resends))
      others datas b z = rw h (append-nil (m.waiting datas))

      nothing : (q : Sort) → only resets (λ l. l ++ []) q (m.waiting q) ≡ m.waiting q
      nothing acks = refl
      nothing resets = append-nil (m.waiting resets)
      nothing urgents = refl
      nothing resends = refl
      nothing datas = refl

      still : eqb timer 0 ≡ true → e' ≡ e
      still z = let y : timer - 1 ≡ timer = omega (arith, eqb-true timer 0 z) in ap (λ (k : ℕ). stated (Enabled k sent) e) y ∙ ap (λ (s : State). stated s e) (sym h)

      zero_is : eqb timer 0 ≡ true → eqb timer 1 ≡ false
      zero_is z = ne_eqb timer 1 (λ y. omega (arith, eqb-true timer 0 z))

      sides : (a b : Bool) → eqb timer 0 ≡ a → eqb timer 1 ≡ b
          → pick a m (pick b (waits resets i 0 (turned i e' m)) (turned i e' m)) ≡ then
      sides true b y z =
          ap (λ (l : List End). node m l m.waiting) (sym (set_same m.ends i here))
          ∙ becomes (Enabled timer sent) e m.waiting h (still y) (λ q. others q false (zero_is y) ∙ nothing q)
      sides false true y z = becomes (Enabled timer sent) e' (waits resets i 0 m).waiting h refl (λ q. others q true z)
      sides false false y z = becomes (Enabled timer sent) e' m.waiting h refl (λ q. others q false z ∙ nothing q)

  open_is : e.state ≡ Open → ticked m i e Open ≡ then
  unfolding ticked
  open_is h = sides (any_spent e.entry.retries e.numbers) refl
    where
      ns : List Number
      ns = ticked_all e.entry.retries true e.numbers

      fell_is : (b : Bool) → any_spent e.entry.retries e.numbers ≡ b → fell Open e ≡ pick b (failing ns e) (numbered e.start ns e)
      fell_is b z = rw z

      gone : any_spent e.entry.retries e.numbers ≡ true → (q : Sort)
          → pick (fails e) (without (λ x. eqb x.entry i) (m.waiting q)) (m.waiting q) ++ due q i e ≡ without (λ x. eqb x.entry i) (m.waiting q)
      gone z q = let f : fails e ≡ true = rw (h, z) in rw (f, nothing_due i e (rw h) (rw (h, z)) q) (append-nil _)

      more : any_spent e.entry.retries e.numbers ≡ false → (q : Sort)
          → pick (fails e) (without (λ x. eqb x.entry i) (m.waiting q)) (m.waiting q) ++ due q i e ≡ only resends (λ l. l ++ due_from i e 0 e.numbers) q (m.waiting q)
      more z acks = rw (h, z) (append-nil _)
      more z resets = rw (h, z) (append-nil _)
      more z urgents = rw (h, z) (append-nil _)
      more z resends = rw (h, z)
      more z datas = rw (h, z) (append-nil _)

      sides : (b : Bool) → any_spent e.entry.retries e.numbers ≡ b
          → pick b (silent i (turned i (failing ns e) m)) (again_from i e 0 e.numbers (turned i (numbered e.start ns e) m)) ≡ then
      sides true z = becomes Open (failing ns e) (silent i m).waiting h (fell_is true z) (gone z)
      sides false z =
          again_is i e 0 e.numbers (turned i (numbered e.start ns e) m)
          ∙ becomes Open (numbered e.start ns e) (waiting_as (only resends (λ l. l ++ due_from i e 0 e.numbers)) m).waiting h (fell_is false z) (more z)

  failing_is : (n : ℕ) → e.state ≡ Failing n → ticked m i e (Failing n) ≡ then
  unfolding ticked
  failing_is n h = becomes (Failing n) (failing (ticked_all e.entry.retries false e.numbers) e) m.waiting h refl (still_waits (rw h) (rw h) (rw h))

  pub ticked_is : ticked m i e e.state ≡ then
  unfolding ticked
  ticked_is = sides e.state refl
    where
      sides : (s : State) → e.state ≡ s → ticked m i e s ≡ then
      sides Closed h = closed_is h
      sides (Enabled timer sent) h = enabled_is timer sent h
      sides Open h = open_is h
      sides (Failing n) h = failing_is n h
