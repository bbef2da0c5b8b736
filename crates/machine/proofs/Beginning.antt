-- Setup goes through exactly where the table is good and the store long enough, and what it leaves. Assumes nothing.
use Prim.Native.Nat.{◌≤◌}
use mathlib.Core.Path.{◌≡◌, refl}
use mathlib.Core.Bool.{Bool, true, false, not}
use mathlib.Core.List.{[], ◌∷◌}
use lib.Dec.{ltb}
use borrow.Author.Tests.{le-ltb, ltb-false}
use Rattle.units.specs.Refusals.{pick}
use Rattle.units.specs.declared.refusals.Refusal.TheVariants as refusal
use Rattle.table.specs.Layout.{count_of, entry_of}
use Rattle.table.specs.Areas.{store_of}
use Rattle.table.specs.Rules.{good_table}
use Rattle.machine.specs.Machine.{first, begun, done, judged, setting}
use Rattle.machine.specs.LawsCalls.{SetupGoes, SetupBegins}
use Rattle.machine.proofs.Judged.{refused_not}
use Rattle.machine.proofs.Listed.{length_listed, elem_listed}
use Rattle.std.specs.Prelude.{Ok, Err}

pub setup_goes : SetupGoes
unfolding SetupGoes setting
setup_goes m t room = (λ h. goes (good_table t) (ltb room (store_of t)) refl h, λ h. rw (h.0, le-ltb room (store_of t) h.1))
  where
    goes : (g s : Bool) → ltb room (store_of t) ≡ s
        → (judged (pick (not g) (Err refusal.BadTable) (pick s (Err refusal.TooShort) (Ok tt))) [] m (done (begun t room))).answer.numbers ≡ 0 ∷ []
        → (g ≡ true) × (store_of t ≤ room)
    goes true true q h = absurd (refused_not refusal.TooShort [] h)
    goes true false q h = (refl, ltb-false room (store_of t) q)
    goes false s q h = absurd (refused_not refusal.BadTable [] h)

pub setup_begins : SetupBegins
unfolding SetupBegins setting begun
setup_begins m t room g s =
    rw (g, le-ltb room (store_of t) s)
    (record {
      own = refl;
      protocol = refl;
      need = refl;
      room = refl;
      count = length_listed (count_of t) (λ i. first (entry_of t i));
      ends = λ i h. elem_listed (count_of t) (λ k. first (entry_of t k)) i h;
      waiting = λ q. refl;
      under = refl;
    })
