-- A receiver of the machine, seen as the channel's receiving end point, and what a Reset and Data make of it there.
-- Assumes nothing.
use Prim.Native.Nat.{ℕ, suc, ◌+◌, ◌-◌, ◌<◌}
use mathlib.Core.Path.{◌≡◌, refl, sym, ap, ◌∙◌, fun_ext}
use mathlib.Core.Bool.{Bool, true, false, true≢false, not, ◌&&◌}
use mathlib.Core.Option.{Option, none, some}
use mathlib.Core.List.{List, [], ◌∷◌, ◌++◌}
use native.Mathlib.Decide.{dec_lt}
use native.Mathlib.Nat.{add-zero, add-suc, suc-add, zero-add}
use native.Mathlib.Omega.{arith}
use lib.ListN.{length, drop, get_or, set, replicate, length-drop, length-set, length-replicate, get_or-replicate, get_or-append, get_or-eq_default}
use lib.Seq.{get_or-drop, get_or-append-add}
use lib.Dec.{ltb}
use borrow.Author.Tests.{lt-ltb, le-ltb}
use Rattle.units.specs.Refusals.{pick}
use Rattle.frame.specs.declared.FrameType.{FrameType}
use Rattle.frame.specs.declared.FrameType.TheVariants as type
use Rattle.end_points.specs.declared.State.{State}
use Rattle.end_points.specs.declared.State.TheVariants.{Closed, Enabled, Open, Failing}
use Rattle.machine.specs.Machine.{End, numbered, offset, number_at, timed, is_some, or_none, held_run, handing_on, is_new, data_timed, recounted, reset_timed, ended}
use Rattle.machine.proofs.Entries.{elem_there, elem_get_d}
use Rattle.machine.proofs.Blocks.{Places}
use Rattle.promise.specs.History.{Pay}
use Rattle.promise.proofs.Windows.{Marks, mark, put, run}
use Rattle.promise.proofs.Offsets.{put_reads, run_marks}
use Rattle.promise.proofs.Channel.{RState, r_closed, r_enabled, r_open, Recv, r_reset, outs, r_take}

abbrev nth : Places → ℕ → Option (List ℕ)
nth ps k = get_or ps k none

-- ---- the view

abbrev pub r_state_of : State → RState
r_state_of Closed = r_closed
r_state_of (Enabled t sent) = r_enabled
r_state_of Open = r_open
r_state_of (Failing n) = r_closed

abbrev view : RState → ℕ → Places → List ℕ → Recv
view s start ps w =
    record { state = s; start = start; held = λ k. is_some (nth ps k); payloads = λ k. or_none (nth ps k); waiting = w }

-- end point e, with the acknowledgements w waiting
abbrev pub recv_of : End → List ℕ → Recv
recv_of e w = view (r_state_of e.state) e.start e.places w

-- ---- places passed, and a Reset

-- in an empty place there is nothing
none_there : (n i : ℕ) → nth (replicate n none) i ≡ none
none_there n i = sides (dec_lt i n)
  where
    sides : Dec (i < n) → nth (replicate n none) i ≡ none
    sides (yes h) = get_or-replicate n i none none h
    sides (no h) =
        let z = length-replicate {A = Option (List ℕ)} n none in
        get_or-eq_default (replicate n none) none {n = i} (omega arith)

-- a Reset leaves none held
pub reset_view : (n : ℕ) → view r_open 1 (replicate n none) (0 ∷ []) ≡ r_reset
reset_view n = rw (fun_ext (λ k. ap is_some (none_there n k)), fun_ext (λ k. ap or_none (none_there n k)))

-- the start passes n of the places
pass_reads : (n : ℕ) (ps : Places) (k : ℕ) → nth (drop n ps ++ replicate n none) k ≡ nth ps (n + k)
pass_reads n ps k = sides (dec_lt k (length (drop n ps)))
  where
    sides : Dec (k < length (drop n ps)) → nth (drop n ps ++ replicate n none) k ≡ nth ps (n + k)
    sides (yes h) = get_or-append (drop n ps) (replicate n none) none k h ∙ get_or-drop n ps k none
    sides (no h) =
        let l = length-drop n ps in
        let i = k - length (drop n ps) in
        let z : length (drop n ps) + i ≡ k = omega arith in
        ap (nth (drop n ps ++ replicate n none)) (sym z)
        ∙ get_or-append-add (drop n ps) (replicate n none) i none ∙ none_there n i
        ∙ sym (get_or-eq_default ps none {n = n + k} (omega arith))

-- ---- Data in the window and new

-- those held without a gap, one by one
run_one : (x : Option (List ℕ)) (xs : Places)
    → length (held_run (x ∷ xs)) ≡ pick (is_some x) (suc (length (held_run xs))) 0
unfolding held_run
run_one none xs = refl
run_one (some p) xs = refl

run_given : (i : ℕ) (ps : Places) (f : ℕ → Pay) → ((k : ℕ) → f (i + k) ≡ or_none (nth ps k))
    → held_run ps ≡ outs f i (length (held_run ps))
unfolding held_run outs
run_given i [] f h = refl
run_given i (none ∷ xs) f h = refl
run_given i (some p ∷ xs) f h =
    let here : f i ≡ p = sym (ap f (add-zero i)) ∙ h 0 in
    let below = run_given (suc i) xs f (λ k. ap f (suc-add i k ∙ sym (add-suc i k)) ∙ h (suc k)) in
    rw (here, ← below)

module _ (W : ℕ) (e : End) (wide : length e.places ≡ W) (s : ℕ) (p : List ℕ) where
  abbrev d : ℕ
  d = offset e s

  abbrev ps : Places
  ps = set e.places d (some p)

  -- its test is the channel's
  pub new_same : is_new e s ≡ (ltb d W && not (is_some (nth e.places d)))
  new_same = sides (dec_lt d (length e.places))
    where
      sides : Dec (d < length e.places) → is_new e s ≡ (ltb d W && not (is_some (nth e.places d)))
      sides (yes h) =
          let x = elem_there e.places d h in
          rw (lt-ltb d W (omega arith), elem_get_d e.places d (some []) x.1, elem_get_d e.places d none x.1)
      sides (no h) =
          rw (le-ltb d W (omega arith), get_or-eq_default e.places (some []) {n = d} (omega arith))

  module _ (new : is_new e s ≡ true) where
    inside : d < length e.places
    inside = sides (dec_lt d (length e.places))
      where
        sides : Dec (d < length e.places) → d < length e.places
        sides (yes h) = h
        sides (no h) =
            let z : is_new e s ≡ false = rw (get_or-eq_default e.places (some []) {n = d} (omega arith)) in
            absurd (true≢false (sym new ∙ z))

    abbrev marks : Marks
    marks = mark d (λ k. is_some (nth e.places k))

    abbrev pays : ℕ → Pay
    pays = put d p (λ k. or_none (nth e.places k))

    held_then : (k : ℕ) → is_some (nth ps k) ≡ marks k
    held_then = put_reads none is_some e.places d (some p) inside

    pays_then : (k : ℕ) → or_none (nth ps k) ≡ pays k
    pays_then = put_reads none or_none e.places d (some p) inside

    run_then : length (held_run ps) ≡ run W 0 marks
    unfolding held_run
    run_then =
        let l = length-set e.places d (some p) in
        run_marks none is_some (λ l. length (held_run l)) refl run_one refl W 0 ps marks
        (λ k. ap marks (zero-add k) ∙ sym (held_then k)) (omega arith)

    -- what is delivered
    pub given_then : (w : List ℕ) → (r_take W (recv_of e w) s p).given ≡ held_run ps
    given_then w =
        ap (outs pays 0) (sym run_then) ∙ sym (run_given 0 ps pays (λ k. ap pays (zero-add k) ∙ sym (pays_then k)))

    -- what is left
    pub view_then : (w : List ℕ)
        → recv_of (handing_on (length (held_run ps)) ps e) (w ++ (s ∷ [])) ≡ (r_take W (recv_of e w) s p).next
    view_then w =
        let n = length (held_run ps) in
        rw (
          fun_ext (λ k. ap is_some (pass_reads n ps k) ∙ held_then (n + k)),
          fun_ext (λ k. ap or_none (pass_reads n ps k) ∙ pays_then (n + k)),
          run_then,
        )

-- ---- the end of a frame

module _ (w : List ℕ) where
  -- Data's alters no place
  data_view : (e : End) (s : ℕ) → recv_of (data_timed e s) w ≡ recv_of e w
  data_view e s = sides ((number_at e s).handed && not (number_at e s).acked)
    where
      sides : (b : Bool)
          → recv_of (pick b (numbered e.start (timed e.entry.timeout false e s) e) e) w ≡ recv_of e w
      sides true = refl
      sides false = refl

  recounted_view : (z : State) (d : End) → r_state_of d.state ≡ r_state_of z → recv_of (recounted z d) w ≡ recv_of d w
  recounted_view Closed d q = refl
  recounted_view (Enabled timer sent) d q = refl
  recounted_view Open d q = refl
  recounted_view (Failing n) d q = rw q

  timer_view : (z : State) (e : End) → e.state ≡ z → recv_of (reset_timed z e) w ≡ recv_of e w
  timer_view Closed e q = refl
  timer_view (Enabled timer true) e q = rw q
  timer_view (Enabled timer false) e q = refl
  timer_view Open e q = refl
  timer_view (Failing n) e q = refl

  -- timers are no part of what is seen
  pub ended_view : (e : End) (q : FrameType) (s : ℕ) → recv_of (ended q e s) w ≡ recv_of e w
  ended_view e type.Data s =
      let v = data_view e s in recounted_view e.state (data_timed e s) (ap (λ (x : Recv). x.state) v) ∙ v
  ended_view e type.Acknowledge s = refl
  ended_view e type.Reset s = timer_view e.state e refl
  ended_view e type.Urgent s = refl
