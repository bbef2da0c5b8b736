-- An entry past the table's end: wherever it begins, its bytes are 0. Assumes nothing.
use mathlib.Core.Path.{◌≡◌, sym, ◌∙◌}
use mathlib.Core.List.{List, []}
use Prim.Native.Nat.{ℕ, ◌+◌, ◌≤◌}
use native.Mathlib.Omega.{arith}
use lib.ListN.{length, get_or, get_or-eq_default}
use Rattle.units.specs.Bytes.{get16_of}
use Rattle.units.proofs.Runs.{far16}
use Rattle.table.specs.Layout.{entry_from}

blank : (t : List ℕ) (a : ℕ) → length t ≤ a → entry_from t a ≡ entry_from [] 0
unfolding entry_from get16_of
blank t a h =
    let b : (k : ℕ) → get_or t (a + k) 0 ≡ 0 = λ k. get_or-eq_default t 0 (omega arith) in
    let b0 : get_or t a 0 ≡ 0 = get_or-eq_default t 0 h in
    let w : (k : ℕ) → get16_of t (a + k) ≡ 0 = λ k. far16 t (a + k) (omega arith) in
    rw (b0, b 1, b 2, b 3, w 4, w 6, w 8)

pub entry_past : (t : List ℕ) (a b : ℕ) → length t ≤ a → length t ≤ b → entry_from t a ≡ entry_from t b
entry_past t a b p q = blank t a p ∙ sym (blank t b q)
