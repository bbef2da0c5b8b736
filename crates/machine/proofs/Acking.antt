-- The laws of acknowledgements (specs/LawsArriving.antt). Assumes nothing.
use Prim.Native.Nat.{ℕ, zero, suc, ◌+◌, ◌≤◌, ◌<◌}
use mathlib.Core.Path.{◌≡◌, refl, ap, ◌∙◌}
use mathlib.Core.Bool.{Bool, true, false, not, ◌&&◌, false≢true}
use mathlib.Core.Option.{some}
use mathlib.Core.List.{List, [], ◌∷◌}
use native.Mathlib.Omega.{arith}
use lib.ListN.{length, drop, get_or, get_elem?, set, length-set}
use Rattle.units.specs.Refusals.{pick}
use Rattle.frame.specs.declared.FrameType.TheVariants as type
use Rattle.end_points.specs.States.{is_closed}
use Rattle.end_points.specs.declared.State.{State}
use Rattle.end_points.specs.declared.State.TheVariants.{Closed, Enabled, Open, Failing}
use Rattle.end_points.specs.declared.answers.Was.TheVariants as was
use Rattle.machine.specs.Calls.{arrives}
use Rattle.machine.specs.Machine.{Number, End, Sort, Machine, number, stated, counted, turned, not_again, anew, offset, number_at, acked_run, running, passing, told, acked, acking, taken_in, step}
use Rattle.machine.specs.Sound.{Sound}
use Rattle.machine.specs.Laws.{Is, answer, after}
use Rattle.machine.specs.LawsArriving.{Comes, Opens, AckOpens, Ignored, EnabledIgnores, Runs, stopped, state_after, Confirms, AckConfirms, OtherIgnored}
use Rattle.machine.proofs.Entries.{not_none, elem_lt, elem_get_d, elem_set_same}
use Rattle.machine.proofs.Coming.{May, come_is}
use Rattle.machine.proofs.Receiving.{carry}

-- ---- what the entry makes of it, by its state

ack_may : (m : Machine) (e : End) (p block : List ℕ) → is_closed e.state ≡ false → May m e type.Acknowledge p block
ack_may m e p block up =
    record { up = up; opened = λ d. absurd (false≢true d); short = λ d. absurd (false≢true d); few = λ d. absurd (false≢true d); room = λ d. absurd (false≢true d) }

ack_is : (t : List ℕ) (m : Machine) → Sound t m → (i : ℕ) (e : End) (s : ℕ) (p block f : List ℕ) → Comes m f i e type.Acknowledge s p
    → (z : State) → e.state ≡ z → is_closed z ≡ false → step m (arrives block f) ≡ acking m block i e s z
unfolding taken_in
ack_is t m S i e s p block f c z h up =
    come_is t m S f i e type.Acknowledge s p block c (ack_may m e p block (ap is_closed h ∙ up)) ∙ ap (acking m block i e s) h

-- ---- at Enabled

pub ack_opens : AckOpens
unfolding AckOpens acking
ack_opens t m S i e timer p block f c h =
    carry (λ m' a. (a.numbers ≡ 0 ∷ 2 ∷ i ∷ []) × (a.out ≡ block) × Opens m m' i e) (ack_is t m S i e 0 p block f c (Enabled timer true) h refl) (
      refl,
      refl,
      record {
        end = now;
        is = elem_set_same m.ends i now (elem_lt m.ends i c.there);
        anew = record { entry = refl; state = refl; start = refl; numbers = refl; places = refl; urgent = refl };
        accepted = refl;
        confirmed = refl;
        waiting = λ q. refl;
      },
    )
  where
    now : End
    now = counted 0 0 (anew Open e)

ignores : (m : Machine) (i : ℕ) (block : List ℕ) → Ignored m m (told i was.Ignored block m).answer i block
ignores m i block = record { numbers = refl; out = refl; same = refl }

pub enabled_ignores : EnabledIgnores
unfolding EnabledIgnores acking
enabled_ignores t m S i e s timer sent p block f c h other =
    carry (λ m' a. Ignored m m' a i block) (ack_is t m S i e s p block f c (Enabled timer sent) h refl ∙ rw other) (ignores m i block)

-- ---- those acknowledged without a gap

run_acked : (ns : List Number) (k : ℕ) (y : Number) → k < acked_run ns → get_elem? ns k ≡ some y → y.acked ≡ true
unfolding acked_run
run_acked [] k y l h = not_none h
run_acked (x ∷ xs) k y l h = sides k x.acked refl l h (λ j. run_acked xs j y)
  where
    sides : (k : ℕ) (b : Bool) → x.acked ≡ b → k < pick b (suc (acked_run xs)) 0 → get_elem? (x ∷ xs) k ≡ some y
        → ((j : ℕ) → j < acked_run xs → get_elem? xs j ≡ some y → y.acked ≡ true) → y.acked ≡ true
    sides k false a l h below = absurd (omega arith)
    sides zero true a l h below = let z : x ≡ y = cc in rw (← z) a
    sides (suc k) true a l h below = below k (omega arith) h

run_next : (ns : List Number) (y : Number) → get_elem? ns (acked_run ns) ≡ some y → y.acked ≡ false
unfolding acked_run
run_next [] y h = not_none h
run_next (x ∷ xs) y h = sides x.acked refl h (run_next xs y)
  where
    sides : (b : Bool) → x.acked ≡ b → get_elem? (x ∷ xs) (pick b (suc (acked_run xs)) 0) ≡ some y
        → (get_elem? xs (acked_run xs) ≡ some y → y.acked ≡ false) → y.acked ≡ false
    sides true a h below = below h
    sides false a h below = let z : x ≡ y = cc in rw (← z) a

run_within : (ns : List Number) → acked_run ns ≤ length ns
unfolding acked_run
run_within [] = omega arith
run_within (x ∷ xs) = sides x.acked (run_within xs)
  where
    sides : (b : Bool) → acked_run xs ≤ length xs → pick b (suc (acked_run xs)) 0 ≤ suc (length xs)
    sides true h = omega arith
    sides false h = omega arith

run_first : (ns : List Number) (k : ℕ) (x y : Number) → get_elem? ns k ≡ some x → k ≡ 0 → y.acked ≡ true → 1 ≤ acked_run (set ns k y)
unfolding acked_run
run_first [] k x y h z a = not_none h
run_first (n ∷ ns) zero x y h z a = rw a (omega arith)
run_first (n ∷ ns) (suc k) x y h z a = absurd (omega arith)

-- ---- at Open and Failing

module _ (m : Machine) (block : List ℕ) (i : ℕ) (e : End) (s : ℕ) (x : Number) (here : get_elem? e.numbers (offset e s) ≡ some x) where
  abbrev ns : List Number
  ns = set e.numbers (offset e s) (number x.payload x.retries true true 0)

  abbrev n : ℕ
  n = acked_run ns

  -- it counts
  acked_is : x.handed ≡ true → x.acked ≡ false → (g : End → Machine) → acked m block i e s g ≡ told i (was.Acknowledged n) block (g (passing n ns e))
  acked_is h a g =
      let z : number_at e s ≡ x = elem_get_d e.numbers (offset e s) _ here in
      rw (z, h, a)

  -- an end with the numbers that are left; Failing says how many timers still run
  confirms : (m' : Machine) (end : End) → Is m' i end → end.numbers ≡ drop n ns → end.confirmed ≡ e.confirmed + n → end.accepted ≡ e.accepted
      → end.start ≡ (passing n ns e).start → end.entry ≡ e.entry → end.places ≡ e.places → end.urgent ≡ e.urgent → end.state ≡ state_after e.state end.numbers
      → ((q : Sort) → m'.waiting q ≡ stopped e.state i s q (m.waiting q))
      → Confirms m m' (told i (was.Acknowledged n) block m').answer i e s x
  confirms m' end is left c a k x' ps u z w =
      record {
        passed = n;
        numbers = refl;
        end = end;
        is = is;
        left = (left, run_acked ns, run_next ns);
        within = let y = run_within ns in omega (arith, length-set e.numbers (offset e s) (number x.payload x.retries true true 0));
        first = λ o. run_first e.numbers (offset e s) x (number x.payload x.retries true true 0) here o refl;
        confirmed = c;
        accepted = a;
        start = k;
        state = z;
        entry = x';
        places = ps;
        urgent = u;
        waiting = w;
      }

pub ack_confirms : AckConfirms
unfolding AckConfirms acking
ack_confirms t m S i e s x p block f c runs here handed missing = sides e.state refl runs
  where
    e' : End
    e' = passing (n m block i e s x here) (ns m block i e s x here) e

    low : i < length m.ends
    low = elem_lt m.ends i c.there

    sides : (z : State) → e.state ≡ z → Runs z → Confirms m (after m (arrives block f)) (answer m (arrives block f)) i e s x × ((answer m (arrives block f)).out ≡ block)
    sides Closed h r = absurd r
    sides (Enabled timer sent) h r = absurd r
    sides Open h r =
        carry (λ m' a. Confirms m m' a i e s x × (a.out ≡ block))
        (ack_is t m S i e s p block f c Open h refl ∙ acked_is m block i e s x here handed missing (λ d. not_again i s (turned i d m)))
        (confirms m block i e s x here (not_again i s (turned i e' m)) e' (elem_set_same m.ends i e' low) refl refl refl refl refl refl refl (rw h) (λ q. rw h), refl)
    sides (Failing k) h r =
        let d : End = stated (Failing (running e'.numbers)) e' in
        carry (λ m' a. Confirms m m' a i e s x × (a.out ≡ block))
        (ack_is t m S i e s p block f c (Failing k) h refl
        ∙ acked_is m block i e s x here handed missing (λ d. turned i (stated (Failing (running d.numbers)) d) m))
        (confirms m block i e s x here (turned i d m) d (elem_set_same m.ends i d low) refl refl refl refl refl refl refl (rw h) (λ q. rw h), refl)

-- it does not count
module _ (m : Machine) (block : List ℕ) (e : End) (s : ℕ)
    (other : (x : Number) → get_elem? e.numbers (offset e s) ≡ some x → x.handed ≡ true → x.acked ≡ false → ⊥) where
  not_counted : ((number_at e s).handed && not (number_at e s).acked) ≡ false
  not_counted = sides e.numbers (offset e s) other
    where
      sides : (ns : List Number) (k : ℕ) → ((x : Number) → get_elem? ns k ≡ some x → x.handed ≡ true → x.acked ≡ false → ⊥)
          → ((get_or ns k (number [] 0 false false 0)).handed && not (get_or ns k (number [] 0 false false 0)).acked) ≡ false
      sides [] k o = refl
      sides (x ∷ xs) zero o = falls x.handed x.acked refl refl
        where
          falls : (a b : Bool) → x.handed ≡ a → x.acked ≡ b → (a && not b) ≡ false
          falls true true y z = refl
          falls true false y z = absurd (o x refl y z)
          falls false b y z = refl
      sides (x ∷ xs) (suc k) o = sides xs k o

pub other_ignored : OtherIgnored
unfolding OtherIgnored acking
other_ignored t m S i e s p block f c runs other = sides e.state refl runs
  where
    sides : (z : State) → e.state ≡ z → Runs z → Ignored m (after m (arrives block f)) (answer m (arrives block f)) i block
    sides Closed h r = absurd r
    sides (Enabled timer sent) h r = absurd r
    sides Open h r =
        carry (λ m' a. Ignored m m' a i block) (ack_is t m S i e s p block f c Open h refl ∙ rw (not_counted m block e s other)) (ignores m i block)
    sides (Failing k) h r =
        carry (λ m' a. Ignored m m' a i block) (ack_is t m S i e s p block f c (Failing k) h refl ∙ rw (not_counted m block e s other)) (ignores m i block)
