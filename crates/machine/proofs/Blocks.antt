-- A receiver's places: what is held without a gap is delivered, and has room in the host's block. Assumes nothing.
use Prim.Native.Nat.{ℕ, zero, suc, ◌+◌, ◌*◌, ◌≤◌, ◌<◌}
use mathlib.Core.Path.{◌≡◌, refl, sym, ap, ◌∙◌}
use mathlib.Core.Logic.{◌≢◌}
use mathlib.Core.Bool.{true, false, not}
use mathlib.Core.Option.{Option, none, some}
use mathlib.Core.List.{List, [], ◌∷◌}
use native.Mathlib.Decide.{ℕ_discrete}
use native.Mathlib.Nat.{mul-le-mul_right}
use native.Mathlib.Omega.{arith}
use lib.ListN.{length, drop, get_or, get_elem?, set, length-append, length-set}
use lib.Seq.{sets, sets-eq, drop_at}
use Rattle.table.specs.declared.Entry.{Entry}
use Rattle.blocks.specs.Blocks.{block_of, joined_up}
use Rattle.blocks.proofs.Appending.{length_block}
use Rattle.machine.specs.Machine.{is_some, held_run, block_room}
use Rattle.machine.proofs.Entries.{not_none, elem_lt, elem_get_d, elem_drop, elem_set_same, elem_set_other}

abbrev pub Places : Type 0
Places = List (Option (List ℕ))

-- ---- held without a gap

pub run_all : (ps : Places) (k : ℕ) (q : List ℕ) → get_elem? (held_run ps) k ≡ some q → get_elem? ps k ≡ some (some q)
unfolding held_run
run_all [] k q h = not_none h
run_all (none ∷ ps) k q h = not_none h
run_all (some p ∷ ps) zero q h = let z : p ≡ q = cc in rw z
run_all (some p ∷ ps) (suc k) q h = run_all ps k q h

pub run_gap : (ps : Places) (q : List ℕ) → get_elem? ps (length (held_run ps)) ≢ some (some q)
unfolding held_run
run_gap [] q h = not_none h
run_gap (none ∷ ps) q h = absurd (let z : ◌≡◌ {A = ℕ} 0 1 = cc in omega arith)
run_gap (some p ∷ ps) q h = run_gap ps q h

run_short : (ps : Places) → length (held_run ps) ≤ length ps
unfolding held_run
run_short [] = omega arith
run_short (none ∷ ps) = omega arith
run_short (some p ∷ ps) = omega (arith, run_short ps)

-- with one put at the start, and with one put after it
pub run_start : (ps : Places) (p : List ℕ) → get_elem? ps 0 ≡ some none → held_run (set ps 0 (some p)) ≡ p ∷ held_run (drop 1 ps)
unfolding held_run
run_start [] p h = not_none h
run_start (x ∷ xs) p h = refl

pub run_later : (ps : Places) (k : ℕ) (p : List ℕ) → k ≢ 0 → ((q : List ℕ) → get_elem? ps 0 ≢ some (some q)) → held_run (set ps k (some p)) ≡ []
unfolding held_run
run_later [] k p d free = refl
run_later (x ∷ xs) zero p d free = absurd (d refl)
run_later (none ∷ xs) (suc k) p d free = refl
run_later (some q ∷ xs) (suc k) p d free = absurd (free q refl)

pub run_behind : (ps : Places) (k : ℕ) (q : List ℕ) → get_elem? (held_run (drop 1 ps)) k ≡ some q → get_elem? ps (suc k) ≡ some (some q)
run_behind ps k q h = let z : suc k ≡ 1 + k = omega arith in ap (get_elem? ps) z ∙ sym (elem_drop 1 ps k) ∙ run_all (drop 1 ps) k q h

pub gap_behind : (ps : Places) (q : List ℕ) → get_elem? ps (suc (length (held_run (drop 1 ps)))) ≢ some (some q)
gap_behind ps q h =
    let n = length (held_run (drop 1 ps)) in
    let z : 1 + n ≡ suc n = omega arith in
    run_gap (drop 1 ps) q (elem_drop 1 ps n ∙ ap (get_elem? ps) z ∙ h)

-- ---- new or not

pub new_there : (ps : Places) (k : ℕ) → get_elem? ps k ≡ some none → not (is_some (get_or ps k (some []))) ≡ true
new_there ps k h = rw (elem_get_d ps k (some []) h)

pub not_new : (ps : Places) (k : ℕ) → get_elem? ps k ≢ some none → not (is_some (get_or ps k (some []))) ≡ false
not_new [] k h = refl
not_new (none ∷ ps) zero h = absurd (h refl)
not_new (some p ∷ ps) zero h = refl
not_new (p ∷ ps) (suc k) h = not_new ps k h

-- ---- room in the block

joined_short : (ps : List (List ℕ)) (P : ℕ) → ((k : ℕ) (q : List ℕ) → get_elem? ps k ≡ some q → length q ≤ P) → length (joined_up ps) ≤ length ps * P
unfolding joined_up
joined_short [] P h = omega arith
joined_short (p ∷ ps) P h =
    let a = joined_short ps P (λ k. h (suc k)) in
    let b = h 0 p refl in
    omega (arith, length-append p (joined_up ps))

pub block_fits : (x : Entry) (ps : List (List ℕ)) → length ps ≤ x.window → ((k : ℕ) (q : List ℕ) → get_elem? ps k ≡ some q → length q ≤ x.largest) → length (block_of ps) ≤ block_room x
block_fits x ps few short =
    let a = joined_short ps x.largest short in
    let b : length ps * (4 + x.largest) ≤ x.window * (4 + x.largest) = mul-le-mul_right (4 + x.largest) few in
    omega (arith, length_block ps)

pub run_fits : (x : Entry) (ps : Places) → length ps ≡ x.window → ((k : ℕ) (q : List ℕ) → get_elem? ps k ≡ some (some q) → length q ≤ x.largest)
    → length (block_of (held_run ps)) ≤ block_room x
run_fits x ps long short = block_fits x (held_run ps) (omega (arith, run_short ps)) (λ k q h. short k q (run_all ps k q h))

-- those held, and one more
pub put_short : (ps : Places) (P i : ℕ) (p : List ℕ) → ((k : ℕ) (q : List ℕ) → get_elem? ps k ≡ some (some q) → length q ≤ P) → length p ≤ P
    → (k : ℕ) (q : List ℕ) → get_elem? (set ps i (some p)) k ≡ some (some q) → length q ≤ P
put_short ps P i p h l k q e = sides (ℕ_discrete k i)
  where
    long : k < length ps
    long = rw (length-set ps i (some p)) at (elem_lt (set ps i (some p)) k e)

    sides : Dec (k ≡ i) → length q ≤ P
    sides (yes z) =
        let a : get_elem? (set ps i (some p)) i ≡ some (some p) = elem_set_same ps i (some p) (omega (arith, long)) in
        let b : get_elem? (set ps i (some p)) i ≡ some (some q) = rw z at e in
        let c : p ≡ q = cc in
        rw (← c) l
    sides (no z) = h k q (sym (elem_set_other ps i k (some p) z) ∙ e)

-- ---- what stands behind the block

pub beyond_stays : (out bs : List ℕ) → length bs ≤ length out → drop (length bs) (sets out 0 bs) ≡ drop (length bs) out
beyond_stays out bs h =
    let z : 0 + length bs ≡ length bs = omega arith in
    rw (sets-eq bs out 0 (omega arith), z) (drop_at bs (drop (length bs) out) (length bs) refl)
