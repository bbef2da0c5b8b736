-- The laws of what a receiver takes in (specs/LawsArriving.antt): Data, a Reset, an Urgent. Assumes nothing.
use Prim.Native.Nat.{ℕ, zero, suc, ◌+◌, ◌≤◌, ◌<◌}
use mathlib.Core.Path.{◌≡◌, refl, sym, ap, subst, ◌∙◌}
use mathlib.Core.Logic.{◌≢◌}
use mathlib.Core.Bool.{false≢true}
use mathlib.Core.Option.{none, some}
use mathlib.Core.List.{List, [], ◌∷◌, ◌++◌, append-nil}
use native.Mathlib.Omega.{arith}
use lib.ListN.{length, drop, get_elem?, set, replicate, length-set}
use lib.Seq.{sets, drop-set-lt}
use Rattle.window.specs.Numbers.{byte_of}
use Rattle.table.specs.Layout.{count_of}
use Rattle.table.proofs.Good.{good_entry}
use Rattle.frame.specs.declared.FrameType.TheVariants as type
use Rattle.end_points.specs.Answers.{arrived_of}
use Rattle.end_points.specs.States.{is_closed}
use Rattle.end_points.specs.declared.State.TheVariants.{Open}
use Rattle.end_points.specs.declared.answers.Was.TheVariants as was
use Rattle.blocks.specs.Blocks.{block_of}
use Rattle.blocks.specs.Reading.{read_block}
use Rattle.blocks.proofs.Appending.{length_one}
use Rattle.blocks.proofs.Reading.{reads_back}
use Rattle.machine.specs.Calls.{Answer, arrives}
use Rattle.machine.specs.Machine.{End, acks, Machine, Outcome, node, turned, waits, holding, handing_on, anew, offset, held_run, block_room, delivering, receiving, resetting, taken_in, step}
use Rattle.machine.specs.Sound.{Sound}
use Rattle.machine.specs.Laws.{Is, answer, after, Free}
use Rattle.machine.specs.LawsArriving.{Comes, Ready, Told, Delivers, StartDelivers, Holds, LaterHeld, OtherAcked, Begins, ResetBegins, UrgentDelivers}
use Rattle.machine.proofs.Entries.{not_none, elem_lt, elem_in, elem_set_same}
use Rattle.machine.proofs.Items.{rank_other, waits_last}
use Rattle.machine.proofs.Blocks.{Places, run_start, run_later, run_behind, gap_behind, new_there, not_new, block_fits, run_fits, put_short, beyond_stays}
use Rattle.machine.proofs.Coming.{May, come_is}
use Rattle.machine.proofs.Hosting.{not_closed, anew_is}
use Rattle.std.specs.Prelude.{Ok}

-- what holds of what the entry makes of it holds of the call
pub carry : {o : Outcome} (P : Machine → Answer → Type 0) {n : Outcome} → o ≡ n → P n.machine n.answer → P o.machine o.answer
carry P h x = rw h x

-- there is a place at the start
one : (t : List ℕ) (m : Machine) → Sound t m → (i : ℕ) (e : End) → Is m i e → 1 ≤ length e.places
one t m S i e here =
    let b = S.bounded i e here in
    let l : i < count_of t = (let n = S.count in let k = elem_lt m.ends i here in omega arith) in
    omega (arith, (good_entry t S.table i l).window_low, b.places)

-- ---- Data

ready : (m : Machine) (e : End) (p block : List ℕ) → Ready m e p block → May m e type.Data p block
ready m e p block r =
    record { up = ap is_closed r.opened; opened = λ d. r.opened; short = λ d. r.short; few = λ d. r.few; room = λ d. r.room }

tells : (m : Machine) (es : List End) (i s : ℕ) (ps : List (List ℕ)) (block : List ℕ) → length (block_of ps) ≤ length block
    → Told m (waits acks i s (node m es m.waiting)) (record { numbers = arrived_of (Ok (record { entry = i; was = was.Data (length (block_of ps)) })); out = sets block 0 (block_of ps) }) i s ps block
tells m es i s ps block h =
    record { numbers = refl; holds = reads_back block ps h; beyond = beyond_stays block (block_of ps) h; behind = waits_last m es acks i s }

module _ (t : List ℕ) (m : Machine) (S : Sound t m) (i : ℕ) (e : End) (s : ℕ) (p block f : List ℕ) (c : Comes m f i e type.Data s p) (r : Ready m e p block) where
  held_short : (k : ℕ) (q : List ℕ) → get_elem? e.places k ≡ some (some q) → length q ≤ e.entry.largest
  held_short k q h =
      let b = S.bounded i e c.there in
      let z = (b.held q (elem_in e.places k h)).most in
      rw b.entry z

  long : length e.places ≡ e.entry.window
  long = let b = S.bounded i e c.there in b.places ∙ ap (λ x. x.window) (sym b.entry)

  abbrev ps : Places
  ps = set e.places (offset e s) (some p)

  fit : length (block_of (held_run ps)) ≤ length block
  fit =
      let z = run_fits e.entry ps (length-set e.places (offset e s) (some p) ∙ long) (put_short e.places e.entry.largest (offset e s) p held_short r.short) in
      omega (arith, r.room)

  none_fit : length (block_of []) ≤ length block
  none_fit = let z : length (block_of []) ≤ block_room e.entry = block_fits e.entry [] (omega arith) (λ k q h. not_none h) in omega (arith, r.room)

  -- new: put at its place, and what is held without a gap goes into the block
  module _ (new : get_elem? e.places (offset e s) ≡ some none) where
    abbrev e' : End
    e' = handing_on (length (held_run ps)) ps e

    new_is : step m (arrives block f) ≡ delivering i was.Data (held_run ps) block (waits acks i s (turned i e' m))
    unfolding receiving taken_in
    new_is = come_is t m S f i e type.Data s p block c (ready m e p block r) ∙ rw (new_there e.places (offset e s) new)

    new_end : Is (waits acks i s (turned i e' m)) i e'
    new_end = elem_set_same m.ends i e' (elem_lt m.ends i c.there)

    abbrev then : Outcome
    then = delivering i was.Data (held_run ps) block (waits acks i s (turned i e' m))

    new_told : {l : List (List ℕ)} → held_run ps ≡ l → Told m then.machine then.answer i s l block
    new_told h = subst (λ (l : List (List ℕ)). Told m then.machine then.answer i s l block) h (tells m (set m.ends i e') i s (held_run ps) block fit)

    delivers : offset e s ≡ 0 → Delivers m (after m (arrives block f)) (answer m (arrives block f)) i e s p block
    delivers first =
        carry (λ m' a. Delivers m m' a i e s p block) new_is
        (record {
          more = more;
          told = new_told run;
          all = run_behind e.places;
          gap = gap_behind e.places;
          end = new_end ∙ ap some now;
        })
      where
        more : List (List ℕ)
        more = held_run (drop 1 e.places)

        run : held_run ps ≡ p ∷ more
        run = ap (λ (k : ℕ). held_run (set e.places k (some p))) first ∙ run_start e.places p (ap (get_elem? e.places) (sym first) ∙ new)

        now : e' ≡ holding (byte_of (e.start + suc (length more))) (drop (suc (length more)) e.places ++ replicate (suc (length more)) none) e
        now =
            ap (λ (l : List (List ℕ)). handing_on (length l) ps e) run
            ∙ ap (λ (l : Places). holding (byte_of (e.start + suc (length more))) (l ++ replicate (suc (length more)) none) e)
            (drop-set-lt (suc (length more)) e.places (offset e s) (some p) (omega arith))

    holds : offset e s ≢ 0 → Free e → Holds m (after m (arrives block f)) (answer m (arrives block f)) i e s p block
    holds later free =
        carry (λ m' a. Holds m m' a i e s p block) new_is
        (record {
          told = new_told run;
          end = new_end ∙ ap some now;
        })
      where
        run : held_run ps ≡ []
        run = run_later e.places (offset e s) p later free

        now : e' ≡ holding e.start ps e
        now =
            let z : byte_of (e.start + 0) ≡ e.start = (let b = (S.bounded i e c.there).start in omega arith) in
            ap (λ (l : List (List ℕ)). handing_on (length l) ps e) run ∙ rw (z, append-nil ps)

  -- not new
  repeats : get_elem? e.places (offset e s) ≢ some none
      → Told m (after m (arrives block f)) (answer m (arrives block f)) i s [] block × ((after m (arrives block f)).ends ≡ m.ends)
  unfolding receiving taken_in
  repeats old =
      carry (λ m' a. Told m m' a i s [] block × (m'.ends ≡ m.ends))
      (come_is t m S f i e type.Data s p block c (ready m e p block r) ∙ rw (not_new e.places (offset e s) old))
      (tells m m.ends i s [] block none_fit, refl)

pub start_delivers : StartDelivers
unfolding StartDelivers
start_delivers t m S i e s p block f c r free first =
    delivers t m S i e s p block f c r (ap (get_elem? e.places) first ∙ nothing e.places (one t m S i e c.there) free) first
  where
    nothing : (ps : Places) → 1 ≤ length ps → ((q : List ℕ) → get_elem? ps 0 ≢ some (some q)) → get_elem? ps 0 ≡ some none
    nothing [] l h = absurd (omega arith)
    nothing (none ∷ ps) l h = refl
    nothing (some q ∷ ps) l h = absurd (h q refl)

pub later_held : LaterHeld
unfolding LaterHeld
later_held t m S i e s p block f c r free new later = holds t m S i e s p block f c r new later free

pub other_acked : OtherAcked
unfolding OtherAcked
other_acked t m S i e s p block f c r old = repeats t m S i e s p block f c r old

-- ---- a Reset and an Urgent

pub reset_begins : ResetBegins
unfolding ResetBegins resetting taken_in
reset_begins t m S i e s p block f c up few =
    carry (λ m' a. Begins m m' a i e × (a.out ≡ block))
    (come_is t m S f i e type.Reset s p block c
    (record { up = not_closed e.state up; opened = λ d. absurd (false≢true d); short = λ d. absurd (false≢true d); few = λ d. few; room = λ d. absurd (false≢true d) })) (
      record {
        numbers = refl;
        end = anew Open e;
        is = elem_set_same m.ends i (anew Open e) (elem_lt m.ends i c.there);
        anew = anew_is Open e;
        counts = record { accepted = refl; confirmed = refl };
        behind = refl;
        others = λ q d. rw (rank_other q acks d);
      },
      refl,
    )

pub urgent_delivers : UrgentDelivers
unfolding UrgentDelivers taken_in
urgent_delivers t m S i e s p block f c opened short room =
    carry (λ m' a. (a.numbers ≡ 0 ∷ 5 ∷ i ∷ (10 + length p) ∷ []) × (read_block a.out ≡ p ∷ []) × (drop (10 + length p) a.out ≡ drop (10 + length p) block) × (m' ≡ m))
    (come_is t m S f i e type.Urgent s p block c
    (record { up = ap is_closed opened; opened = λ d. opened; short = λ d. short; few = λ d. absurd (false≢true d); room = λ d. room })) (
      rw (length_one p),
      reads_back block (p ∷ []) fit,
      subst (λ (n : ℕ). drop n (sets block 0 (block_of (p ∷ []))) ≡ drop n block) (length_one p) (beyond_stays block (block_of (p ∷ [])) fit),
      refl,
    )
  where
    only : (k : ℕ) (q : List ℕ) → get_elem? (p ∷ []) k ≡ some q → length q ≤ e.entry.largest
    only zero q h = let z : p ≡ q = cc in rw (← z) short
    only (suc k) q h = not_none h

    wide : 1 ≤ e.entry.window
    wide =
        let b = S.bounded i e c.there in
        let w : e.entry.window ≡ length e.places = ap (λ x. x.window) b.entry ∙ sym b.places in
        omega (arith, one t m S i e c.there)

    fit : length (block_of (p ∷ [])) ≤ length block
    fit = let z = block_fits e.entry (p ∷ []) wide only in omega arith
