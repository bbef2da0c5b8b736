-- Laws of saving and loading an end point. Assumes nothing.
use Prim.Native.Nat.{ℕ, ◌+◌, ◌%◌, ◌≤◌, ◌<◌}
use mathlib.Core.Path.{◌≡◌, refl, ◌∙◌}
use mathlib.Core.Bool.{Bool, true, false}
use mathlib.Core.List.{List, ◌++◌}
use mathlib.Core.Logic.{◌≢◌, ◌⊎◌, inl, inr}
use native.Mathlib.Decide.{dec_lt}
use native.Mathlib.Nat.{mod-eq_of_lt}
use native.Mathlib.Omega.{arith}
use lib.ListN.{length, get_or, get_or-append}
use lib.Seq.{get_or-append-add}
use lib.Dec.{eqb}
use Rattle.units.proofs.Runs.{get_d_sets_before, get_d_sets_after, get_d_sets_at}
use Rattle.memory.specs.Layout.{entry_at, node_words}
use Rattle.end_points.specs.Ends.{word, state_of, load_entry, place_in, load_state, load_run, end_of, flag_of, state_words, run_words, saved}
use Rattle.end_points.specs.declared.State.{State}
use Rattle.end_points.specs.declared.State.TheVariants.{Closed, Enabled, Open, Failing}
use Rattle.end_points.specs.declared.Run.{Run}

-- ---- an end point is its nineteen words

entry_ext : (ws vs : List ℕ) (i : ℕ) → ((k : ℕ) → k < 19 → word ws i k ≡ word vs i k) → load_entry ws i ≡ load_entry vs i
unfolding load_entry
entry_ext ws vs i h =
    let z : entry_at i + 0 ≡ entry_at i = omega arith in
    let h0 : get_or ws (entry_at i) 0 ≡ get_or vs (entry_at i) 0 = rw z at (h 0 (omega arith)) in
    rw (h0, h 1 (omega arith), h 2 (omega arith), h 3 (omega arith), h 4 (omega arith), h 5 (omega arith), h 6 (omega arith))

run_ext : (ws vs : List ℕ) (i size : ℕ) → ((k : ℕ) → k < 19 → word ws i k ≡ word vs i k) → load_run ws i size ≡ load_run vs i size
unfolding load_run
run_ext ws vs i size h =
    rw (h 11 (omega arith), h 12 (omega arith), h 13 (omega arith), h 14 (omega arith), h 15 (omega arith), h 16 (omega arith), h 17 (omega arith), h 18 (omega arith))

pub end_ext : (ws vs : List ℕ) (i : ℕ) → ((k : ℕ) → k < 19 → word ws i k ≡ word vs i k) → end_of ws i ≡ end_of vs i
unfolding end_of
end_ext ws vs i h =
    rw (entry_ext ws vs i h, h 7 (omega arith), h 8 (omega arith), h 9 (omega arith), h 10 (omega arith), run_ext ws vs i ((load_entry vs i).window % 256) h)

-- ---- the words that a save stores

state_three : (s : State) → length (state_words s) ≡ 3
state_three Closed = refl
state_three (Enabled t f) = refl
state_three Open = refl
state_three (Failing n) = refl

saved_length : (s : State) (r : Run) → length (state_words s ++ run_words r) ≡ 11
saved_length Closed r = refl
saved_length (Enabled t f) r = refl
saved_length Open r = refl
saved_length (Failing n) r = refl

-- any word before or after those eleven stays
pub saved_word : (ws : List ℕ) (i : ℕ) (s : State) (r : Run) (k : ℕ) → (k < entry_at i + 8) ⊎ (entry_at i + 19 ≤ k) → get_or (saved ws i s r) k 0 ≡ get_or ws k 0
unfolding saved
saved_word ws i s r k (inl h) = get_d_sets_before (state_words s ++ run_words r) ws (entry_at i + 8) k 0 h
saved_word ws i s r k (inr h) = get_d_sets_after (state_words s ++ run_words r) ws (entry_at i + 8) k 0 (omega (arith, saved_length s r))

-- the head and what waits there
pub saved_head : (ws : List ℕ) (i : ℕ) (s : State) (r : Run) (k : ℕ) → k < 64 → get_or (saved ws i s r) k 0 ≡ get_or ws k 0
saved_head ws i s r k h = saved_word ws i s r k (inl (omega arith))

-- every other end point
pub saved_other : (ws : List ℕ) (i j : ℕ) (s : State) (r : Run) → j ≢ i → end_of (saved ws i s r) j ≡ end_of ws j
saved_other ws i j s r n = end_ext (saved ws i s r) ws j (λ k l. sides k l (dec_lt j i))
  where
    sides : (k : ℕ) → k < 19 → Dec (j < i) → word (saved ws i s r) j k ≡ word ws j k
    sides k l (yes h) = saved_word ws i s r (entry_at j + k) (inl (omega arith))
    sides k l (no h) = saved_word ws i s r (entry_at j + k) (inr (let g : i < j = omega arith in omega arith))

-- ---- what is saved is loaded

abbrev pub StateFits : State → Type 0
StateFits Closed = Unit {0}
StateFits (Enabled t f) = t < 65536
StateFits Open = Unit {0}
StateFits (Failing n) = n < 65536

pub record RunFits (r : Run) : Type 0 where
  pub start : r.window.start.0 < 256
  pub taken : r.taken < 256
  pub handed : r.handed < 256
  pub accepted : r.accepted.0 < 4294967296
  pub confirmed : r.confirmed.0 < 4294967296
  pub urgent : r.urgent < 65536

flag_back : (f : Bool) → eqb (flag_of f % 2) 1 ≡ f
flag_back true = refl
flag_back false = refl

state_back : (s : State) → StateFits s → state_of (get_or (state_words s) 0 0) (get_or (state_words s) 1 0) (get_or (state_words s) 2 0) ≡ s
unfolding state_of
state_back Closed h = refl
state_back (Enabled t f) h = rw (mod-eq_of_lt h, flag_back f)
state_back Open h = refl
state_back (Failing n) h = rw (mod-eq_of_lt h)

state_at : (s : State) (r : Run) (k : ℕ) → k < 3 → get_or (state_words s ++ run_words r) k 0 ≡ get_or (state_words s) k 0
state_at s r k h = get_or-append (state_words s) (run_words r) 0 k (rw (state_three s) h)

run_at : (s : State) (r : Run) (k : ℕ) → get_or (state_words s ++ run_words r) (3 + k) 0 ≡ get_or (run_words r) k 0
run_at Closed r k = get_or-append-add (state_words Closed) (run_words r) k 0
run_at (Enabled t f) r k = get_or-append-add (state_words (Enabled t f)) (run_words r) k 0
run_at Open r k = get_or-append-add (state_words Open) (run_words r) k 0
run_at (Failing n) r k = get_or-append-add (state_words (Failing n)) (run_words r) k 0

module _ (ws : List ℕ) (i : ℕ) (s : State) (r : Run) (long : length ws ≡ node_words) (low : i < 16) where
  -- word k of those saved
  here : (k : ℕ) → k < 11 → word (saved ws i s r) i (8 + k) ≡ get_or (state_words s ++ run_words r) k 0
  unfolding saved
  here k h =
      let e : entry_at i + (8 + k) ≡ entry_at i + 8 + k = omega arith in
      rw e (get_d_sets_at (state_words s ++ run_words r) ws (entry_at i + 8) k 0 (omega (arith, saved_length s r)) (omega arith))

  here_state : (k : ℕ) → k < 3 → word (saved ws i s r) i (8 + k) ≡ get_or (state_words s) k 0
  here_state k h = here k (omega arith) ∙ state_at s r k h

  here_run : (k : ℕ) → k < 8 → word (saved ws i s r) i (11 + k) ≡ get_or (run_words r) k 0
  here_run k h =
      let e : 11 + k ≡ 8 + (3 + k) = omega arith in
      rw e (here (3 + k) (omega arith) ∙ run_at s r k)

  pub saved_state : StateFits s → load_state (saved ws i s r) i ≡ s
  saved_state f = rw (here_state 0 (omega arith), here_state 1 (omega arith), here_state 2 (omega arith)) (state_back s f)

  pub saved_run : (size : ℕ) → RunFits r → r.window.size ≡ size → load_run (saved ws i s r) i size ≡ r
  unfolding load_run
  saved_run size f e =
      rw (
        here_run 0 (omega arith),
        here_run 1 (omega arith),
        here_run 2 (omega arith),
        here_run 3 (omega arith),
        here_run 4 (omega arith),
        here_run 5 (omega arith),
        here_run 6 (omega arith),
        here_run 7 (omega arith),
        mod-eq_of_lt f.start,
        mod-eq_of_lt f.taken,
        mod-eq_of_lt f.handed,
        mod-eq_of_lt f.accepted,
        mod-eq_of_lt f.confirmed,
        mod-eq_of_lt f.urgent,
        ← e,
      )

  saved_entry : load_entry (saved ws i s r) i ≡ load_entry ws i
  unfolding load_entry
  saved_entry =
      let stays : (k : ℕ) → k < 8 → word (saved ws i s r) i k ≡ word ws i k = λ k h. saved_word ws i s r (entry_at i + k) (inl (omega arith)) in
      let h0 : get_or (saved ws i s r) (entry_at i) 0 ≡ get_or ws (entry_at i) 0 = saved_word ws i s r (entry_at i) (inl (omega arith)) in
      rw (h0, stays 1 (omega arith), stays 2 (omega arith), stays 3 (omega arith), stays 4 (omega arith), stays 5 (omega arith), stays 6 (omega arith))

  -- the end point is as it was put, and what the table says of it as before
  pub saved_here : StateFits s → RunFits r → r.window.size ≡ (load_entry ws i).window % 256
      → end_of (saved ws i s r) i ≡ record { entry = load_entry ws i; place = place_in ws i; state = s; run = r }
  unfolding end_of
  saved_here sf rf e =
      rw (saved_entry, saved_word ws i s r (entry_at i + 7) (inl (omega arith)), saved_state sf, saved_run ((load_entry ws i).window % 256) rf e)
