-- A call on an entry behind its tests: it is done exactly where the entry is there and no test fits, and where it is
-- refused all is as it was. Assumes nothing.
use Prim.Native.Nat.{ℕ}
use mathlib.Core.Path.{◌≡◌, refl}
use mathlib.Core.Bool.{Bool}
use mathlib.Core.Option.{Option, none, some}
use mathlib.Core.List.{List, [], ◌∷◌}
use native.Mathlib.Omega.{arith}
use lib.ListN.{get_elem?}
use Rattle.units.specs.Refusals.{number_of, verdict, Verdict}
use Rattle.units.specs.declared.refusals.Refusal.{Refusal}
use Rattle.units.specs.declared.refusals.Refusal.TheVariants as refusal
use Rattle.units.proofs.Judging.{Clear, clear, refused_some}
use Rattle.frame.specs.Faults.{refused_of}
use Rattle.machine.specs.Machine.{End, Machine, Outcome, at, found, answers, judged, unless, on_entry}
use Rattle.machine.specs.Laws.{Is}
use Rattle.std.specs.Prelude.{Ok, Err}

-- ---- a refusal is no 0

pub refused_not : (w : Refusal) (ns : List ℕ) → refused_of w ≡ 0 ∷ ns → ⊥
refused_not w ns h = let z : number_of w ≡ 0 = cc in omega (arith, refused_some w)

-- ---- what holds of every outcome

module _ (P : Outcome → Type 0) where
  pub by_entry : (m : Machine) (i : ℕ) (a : Outcome) (f : End → Outcome) → P a → ((e : End) → Is m i e → P (f e)) → P (at m i a f)
  by_entry m i a f x g = sides (get_elem? m.ends i) refl
    where
      sides : (o : Option End) → get_elem? m.ends i ≡ o → P (found o a f)
      sides none h = x
      sides (some e) h = g e h

  pub by_verdict : (tests : List (Bool × Refusal)) (out : List ℕ) (m : Machine) (o : Outcome)
      → ((w : Refusal) → P (answers (refused_of w) out m)) → (verdict tests ≡ Ok tt → P o) → P (unless tests out m o)
  by_verdict tests out m o x g = sides (verdict tests) refl
    where
      sides : (v : Verdict) → verdict tests ≡ v → P (judged v out m o)
      sides (Ok _) h = g h
      sides (Err w) h = x w

-- ---- where no test fits

pub passes : (tests : List (Bool × Refusal)) → Clear tests → verdict tests ≡ Ok tt
passes [] c = refl
passes (t ∷ ts) c = rw c.0 (passes ts c.1)

-- it is done, then, and only then
pub done_is : (m : Machine) (i : ℕ) (e : End) (tests : End → List (Bool × Refusal)) (g : End → Outcome) → Is m i e → Clear (tests e)
    → on_entry m i (λ e. unless (tests e) [] m (g e)) ≡ g e
done_is m i e tests g h c = rw (h, passes (tests e) c)

pub only_done : (m : Machine) (i : ℕ) (ns : List ℕ) (tests : End → List (Bool × Refusal)) (g : End → Outcome)
    → (on_entry m i (λ e. unless (tests e) [] m (g e))).answer.numbers ≡ 0 ∷ ns
    → (e : End) × Is m i e × Clear (tests e) × ((g e).answer.numbers ≡ 0 ∷ ns)
only_done m i ns tests g =
    by_entry (λ o. o.answer.numbers ≡ 0 ∷ ns → (e : End) × Is m i e × Clear (tests e) × ((g e).answer.numbers ≡ 0 ∷ ns)) m i _ _
    (λ h. absurd (refused_not refusal.NoEntry ns h))
    (λ e h. by_verdict (λ o. o.answer.numbers ≡ 0 ∷ ns → (e : End) × Is m i e × Clear (tests e) × ((g e).answer.numbers ≡ 0 ∷ ns)) (tests e) [] m (g e)
    (λ w z. absurd (refused_not w ns z)) (λ v z. (e, h, clear (tests e) v, z)))
