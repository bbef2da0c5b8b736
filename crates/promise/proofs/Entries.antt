-- Machines entry by entry: the entry that a frame is for, and which entry a frame names. Assumes nothing.
use Prim.Native.Nat.{ℕ, suc, ◌<◌}
use mathlib.Core.Path.{◌≡◌, refl, sym, ap, ◌∙◌}
use mathlib.Core.Logic.{◌≢◌}
use mathlib.Core.Bool.{Bool, true, false}
use mathlib.Core.Option.{some, some-injective}
use mathlib.Core.List.{List, [], ◌∷◌}
use native.Mathlib.Omega.{arith}
use lib.ListN.{get_elem?}
use lib.Dec.{eqb}
use borrow.Author.Tests.{eq-eqb, eqb-true}
use Rattle.std.proofs.lemmas.Bool.{and_parts, false_from_ne_true}
use Rattle.units.specs.Refusals.{pick}
use Rattle.table.specs.Layout.{count_of, entry_of}
use Rattle.table.specs.declared.Entry.{Entry}
use Rattle.table.proofs.Good.{one_entry}
use Rattle.frame.specs.Types.{for_sender}
use Rattle.frame.specs.declared.Header.{Header}
use Rattle.end_points.specs.States.{is_sends}
use Rattle.arrive_lookup.specs.Fitting.{fits}
use Rattle.arrive_lookup.proofs.Found.{Fitting, fitting}
use Rattle.machine.specs.Machine.{End, Machine, place_of, entry_for}
use Rattle.machine.specs.Sound.{Receives, Sound}
use Rattle.machine.proofs.Entries.{not_none, elem_lt}
use Rattle.promise.specs.Seen.{names}
use Rattle.end_points.proofs.Telling.{same_kind}

-- ---- the entry that a frame is for

placed : (test : End → Bool) (es : List End) (e : End) → get_elem? es (place_of test es) ≡ some e → test e ≡ true
unfolding place_of
placed test [] e h = not_none h
placed test (x ∷ xs) e h = sides (test x) refl h (placed test xs e)
  where
    sides : (b : Bool) → test x ≡ b → get_elem? (x ∷ xs) (pick b 0 (suc (place_of test xs))) ≡ some e
        → (get_elem? xs (place_of test xs) ≡ some e → test e ≡ true) → test e ≡ true
    sides true q g below = ap test (sym (some-injective _ _ g)) ∙ q
    sides false q g below = below g

pub found_fits : (m : Machine) (h : Header) (e : End) → get_elem? m.ends (entry_for m h) ≡ some e
    → Fitting e.entry (for_sender h.kind) h.source.0 h.channel.0
found_fits m h e g =
    fitting e.entry (for_sender h.kind) h.source.0 h.channel.0
    (placed (λ x. fits x.entry (for_sender h.kind) h.source.0 h.channel.0) m.ends e g)

-- ---- which entry a frame names

module _ (t : List ℕ) (m : Machine) (S : Sound t m) (i : ℕ) (e : End) (there : get_elem? m.ends i ≡ some e) where
  known : i < count_of t
  known = let z = elem_lt m.ends i there in let y = S.count in omega arith

  pub entry_is : e.entry ≡ entry_of t i
  entry_is = (S.bounded i e there).entry

  -- a receiver takes no numbers, and never fails
  pub receiver_runs : is_sends e.entry.kind ≡ false → Receives e
  receiver_runs h = (S.bounded i e there).receives (ap (λ (x : Entry). is_sends x.kind) (sym entry_is) ∙ h)

  -- by its own address and channel
  pub names_own : names (entry_of t i) e.entry.remote.0 e.entry.channel.0 ≡ true
  names_own =
      let x = entry_of t i in
      rw entry_is (simp (eq-eqb x.remote.0 x.remote.0 refl, eq-eqb x.channel.0 x.channel.0 refl))

  -- not by another entry's of its kind
  module _ (k : ℕ) (f : End) (here : get_elem? m.ends k ≡ some f) where
    abbrev own : Entry
    own = entry_of t i

    abbrev named : Bool
    named = names own f.entry.remote.0 f.entry.channel.0

    clash : is_sends e.entry.kind ≡ is_sends f.entry.kind → named ≡ true → i ≡ k
    clash q h =
        let p = and_parts (eqb own.remote.0 f.entry.remote.0) (eqb own.channel.0 f.entry.channel.0) h in
        let x : f.entry ≡ entry_of t k = (S.bounded k f here).entry in
        one_entry t S.table i k known (let z = elem_lt m.ends k here in let y = S.count in omega arith)
        (ap (λ (y : Entry). y.kind) (sym entry_is) ∙ same_kind _ _ q ∙ ap (λ (y : Entry). y.kind) x)
        (eqb-true _ _ p.0 ∙ ap (λ (y : Entry). y.remote.0) x)
        (eqb-true _ _ p.1 ∙ ap (λ (y : Entry). y.channel.0) x)

    pub names_other : is_sends e.entry.kind ≡ is_sends f.entry.kind → i ≢ k → named ≡ false
    names_other q d = false_from_ne_true named (λ h. d (clash q h))
