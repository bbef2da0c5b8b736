-- No record answers 6 (specs/Replayed.antt): each answer is a machine's, whose laws of room say so. Assumes nothing.
use Prim.Native.Nat.{ℕ, zero, suc, ◌≤◌, ◌<◌}
use mathlib.Core.Path.{◌≡◌, refl, sym, ap, subst, ◌∙◌}
use mathlib.Core.Logic.{◌≢◌}
use mathlib.Core.Bool.{Bool, true, false, not}
use mathlib.Core.List.{List}
use native.Mathlib.Omega.{arith}
use borrow.Author.Tests.{le-ltb}
use lib.Dec.{eqb, ltb}
use lib.ListN.{length, get_or}
use Rattle.units.specs.Refusals.{pick, Verdict}
use Rattle.units.specs.declared.refusals.Refusal.TheVariants as refusal
use Rattle.table.specs.Areas.{store_of}
use Rattle.table.specs.Rules.{good_table}
use Rattle.table.proofs.Good.{store_fits}
use Rattle.end_points.specs.Answers.{answer_of}
use Rattle.end_points.specs.Lent.{Lent}
use Rattle.call_open.specs.Setup.{setup_answer}
use Rattle.trace.specs.Kinds.{open_kind, close_kind, send_kind, urgent_kind, arrival_kind, tick_kind, hand_out_kind}
use Rattle.trace.specs.Layout.{count_of, begin_of, head_from, bytes_from}
use Rattle.trace_step.specs.Told.{told_of}
use Rattle.trace_step.specs.Steps.{Outcome, stored_of, step_of}
use Rattle.trace_step.specs.Replay.{state_after, told_at, is_refused, made_of}
use Rattle.machine.specs.Calls.{Call, opens, closes, counts, sends, urges, plans, arrives, hands_out, reports, ticks, Answer, Fed}
use Rattle.machine.specs.Machine.{Machine, step}
use Rattle.machine.specs.Sound.{Sound}
use Rattle.machine.specs.LawsRoom.{most_out, Roomy, NeverShort, BuffersStay}
use Rattle.machine.proofs.Room.{never_short, buffers_stay}
use Rattle.good.specs.Calls.{kept, answer}
use Rattle.refinement.specs.Standing.{Stands, Refines, ReachStands, StandsSound}
use Rattle.refinement.proofs.Refining.{refines, reach_stands}
use Rattle.refinement.proofs.Sounding.{stands_sound}
use Rattle.replayed.specs.Replayed.{table_in, call_named, call_at, buffer_after, numbers_told, Given, RefusedEnds, NeverSix}
use Rattle.replayed.proofs.Replaying.{first_is, later_is, reaches, refused_ends}
use Rattle.std.specs.Prelude.{Ok, Err}

-- the block or the frame buffer that a call is lent, if any, is this
abbrev Uses : List ℕ → Call → Type 0
Uses out (opens i) = Unit {0}
Uses out (closes i) = Unit {0}
Uses out (counts i) = Unit {0}
Uses out (sends i p) = Unit {0}
Uses out (urges i p) = Unit {0}
Uses out (plans i block) = Unit {0}
Uses out (arrives block f) = block ≡ out
Uses out (hands_out buffer) = buffer ≡ out
Uses out reports = Unit {0}
Uses out ticks = Unit {0}

either : (P : Call → Type 0) (b : Bool) {c d : Call} → P c → P d → P (pick b c d)
either P true p q = p
either P false p q = q

named_uses : (kind i : ℕ) (b out : List ℕ) → Uses out (call_named kind i b out)
named_uses kind i b out =
    let P = Uses out in
    either P (eqb kind open_kind) tt
    (either P (eqb kind close_kind) tt
    (either P (eqb kind send_kind) tt
    (either P (eqb kind urgent_kind) tt
    (either P (eqb kind arrival_kind) refl
    (either P (eqb kind tick_kind) tt
    (either P (eqb kind hand_out_kind) refl
    tt))))))

at_uses : (f : List ℕ) (k : ℕ) (out : List ℕ) → Uses out (call_at f k out)
at_uses f k out = let at = begin_of f k in named_uses (head_from f at).kind (head_from f at).index (bytes_from f at) out

-- it is long enough where the buffer is
roomy : (out : List ℕ) → most_out ≤ length out → (c : Call) → Uses out c → Roomy c
roomy out l (opens i) u = tt
roomy out l (closes i) u = tt
roomy out l (counts i) u = tt
roomy out l (sends i p) u = tt
roomy out l (urges i p) u = tt
roomy out l (plans i block) u = tt
roomy out l (arrives block f) u = rw u l
roomy out l (hands_out buffer) u = rw u l
roomy out l reports u = tt
roomy out l ticks u = tt

-- and keeps its length
kept_long : (y : Lent) (m : Machine) (c : Call) → answer (kept y) c ≡ (step m c).answer → Uses y.out c
    → length (buffer_after c y.out (answer (kept y) c).out) ≡ length y.out
unfolding BuffersStay
kept_long y m (opens i) e u = refl
kept_long y m (closes i) e u = refl
kept_long y m (counts i) e u = refl
kept_long y m (sends i p) e u = refl
kept_long y m (urges i p) e u = refl
kept_long y m (plans i block) e u = refl
kept_long y m (arrives block f) e u = ap (λ (a : Answer). length a.out) e ∙ buffers_stay m (arrives block f) ∙ ap length u
kept_long y m (hands_out buffer) e u = ap (λ (a : Answer). length a.out) e ∙ buffers_stay m (hands_out buffer) ∙ ap length u
kept_long y m reports e u = refl
kept_long y m ticks e u = refl

-- what is told is not 6, whatever a tick's bits are
told_roomed : (c : Call) (ns : List ℕ) → (c ≢ ticks → get_or ns 0 0 ≢ 6) → get_or (numbers_told c ns) 0 0 ≢ 6
told_roomed (opens i) ns h = h (λ e. let z : ◌≡◌ {A = ℕ} 0 1 = cc in omega arith)
told_roomed (closes i) ns h = h (λ e. let z : ◌≡◌ {A = ℕ} 0 1 = cc in omega arith)
told_roomed (counts i) ns h = h (λ e. let z : ◌≡◌ {A = ℕ} 0 1 = cc in omega arith)
told_roomed (sends i p) ns h = h (λ e. let z : ◌≡◌ {A = ℕ} 0 1 = cc in omega arith)
told_roomed (urges i p) ns h = h (λ e. let z : ◌≡◌ {A = ℕ} 0 1 = cc in omega arith)
told_roomed (plans i block) ns h = h (λ e. let z : ◌≡◌ {A = ℕ} 0 1 = cc in omega arith)
told_roomed (arrives block f) ns h = h (λ e. let z : ◌≡◌ {A = ℕ} 0 1 = cc in omega arith)
told_roomed (hands_out buffer) ns h = h (λ e. let z : ◌≡◌ {A = ℕ} 0 1 = cc in omega arith)
told_roomed reports ns h = h (λ e. let z : ◌≡◌ {A = ℕ} 0 1 = cc in omega arith)
told_roomed ticks ns h = λ z. omega arith

-- a store as long as any table takes
setup_roomed : (x : Lent) (t : List ℕ) → 32768 ≤ length x.store → get_or (answer_of (setup_answer (stored_of x) t)) 0 0 ≢ 6
unfolding setup_answer
setup_roomed x t long = sides (good_table t) refl
  where
    sides : (g : Bool) → good_table t ≡ g
        → get_or (answer_of (pick (not g) (Err refusal.BadTable) (pick (ltb (length x.store) (store_of t)) (Err refusal.TooShort) (Ok tt)))) 0 0 ≢ 6
    sides false h z = omega arith
    sides true h z =
        let short : ltb (length x.store) (store_of t) ≡ false = le-ltb (length x.store) (store_of t) (omega (arith, store_fits t h)) in
        let y : ◌≡◌ {A = ℕ} 0 6 = rw short at z in
        omega arith

module _ (x : Lent) (f : List ℕ) (given : Given x f) (begins : setup_answer (stored_of x) (table_in f) ≡ Ok tt) where
  -- the machine that the node stands for after record n + 1
  stands : (n : ℕ) → suc n ≤ count_of f → (m : Machine) × Stands (table_in f) (kept (state_after x f (suc n))) m
  unfolding ReachStands
  stands n l = reach_stands (table_in f) _ (reaches x f given begins n l)

  -- what a call on it answers is the machine's
  as_machine : (n : ℕ) → suc n ≤ count_of f → (c : Call) → Fed c → (m : Machine) × Sound (table_in f) m × (answer (kept (state_after x f (suc n))) c ≡ (step m c).answer)
  unfolding Refines StandsSound
  as_machine n l c fed =
      let s = stands n l in
      (s.0, stands_sound _ _ _ s.1, (refines _ _ _ s.1 c fed).answers)

  -- the buffer keeps its length, from record to record
  out_long : (n : ℕ) → suc n ≤ count_of f → length (state_after x f (suc n)).out ≡ length x.out
  unfolding state_after
  out_long zero l = ap (λ (o : Outcome). length o.lent.out) (first_is x f given)
  out_long (suc n) l =
      let y = state_after x f (suc n) in
      let s = later_is x f given (suc n) (omega arith) (omega arith) in
      let c = call_at f (suc n) y.out in
      let m = as_machine n (omega arith) c s.fed in
      ap length s.buffer ∙ kept_long y m.0 c m.2 (at_uses f (suc n) y.out) ∙ out_long n (omega arith)

  -- and all records are made
  goes_on : is_refused (step_of x f 0).told ≡ false
  goes_on = ap (λ (o : Outcome). is_refused o.told) (first_is x f given) ∙ rw begins

  later_roomed : most_out ≤ length x.out → (n : ℕ) → suc n < count_of f → get_or (told_of (told_at x f (suc n))) 0 0 ≢ 6
  unfolding NeverShort
  later_roomed long n l =
      let y = state_after x f (suc n) in
      let s = later_is x f given (suc n) (omega arith) l in
      let c = call_at f (suc n) y.out in
      let m = as_machine n (omega arith) c s.fed in
      let r = roomy y.out (rw (out_long n (omega arith)) long) c (at_uses f (suc n) y.out) in
      rw s.told
      (told_roomed c (answer (kept y) c).numbers
      (λ d. subst (λ (a : Answer). get_or a.numbers 0 0 ≢ 6) (sym m.2) (never_short (table_in f) m.0 m.1 c d r)))

pub never_six : NeverSix
unfolding NeverSix made_of state_after RefusedEnds
never_six x f given store out zero l =
    subst (λ (o : Outcome). get_or (told_of o.told) 0 0 ≢ 6) (sym (first_is x f given)) (setup_roomed x (table_in f) store)
never_six x f given store out (suc n) l = sides (setup_answer (stored_of x) (table_in f)) refl
  where
    sides : (v : Verdict) → setup_answer (stored_of x) (table_in f) ≡ v → get_or (told_of (told_at x f (suc n))) 0 0 ≢ 6
    sides (Ok _) h = later_roomed x f given h out n (rw (goes_on x f given h) at l)
    sides (Err w) h = let e = (refused_ends x f given w h).made in absurd (omega arith)
