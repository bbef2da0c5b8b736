-- An entry past the node's end: nothing of it is read, and nothing stored. Assumes nothing.
use mathlib.Core.Path.{◌≡◌, refl, sym, ap, ◌∙◌}
use mathlib.Core.List.{List, [], ◌++◌}
use Prim.Native.Nat.{ℕ, zero, suc, ◌+◌, ◌≤◌}
use native.Mathlib.Omega.{arith}
use lib.ListN.{length, take, drop, drop_of_length-le}
use Rattle.units.proofs.Runs.{sets_out}
use Rattle.memory.specs.Layout.{entry_at}
use Rattle.end_points.specs.Ends.{state_words, run_words, entry_words, saved, saved_entry}
use Rattle.end_points.specs.declared.State.{State}
use Rattle.end_points.specs.declared.Run.{Run}
use Rattle.table.specs.declared.Entry.{Entry}

of_none : (n : ℕ) → take {A = ℕ} n [] ≡ []
of_none zero = refl
of_none (suc n) = refl

pub none_there : (ws : List ℕ) (i n : ℕ) → length ws ≤ entry_at i → [] ≡ take n (drop (entry_at i) ws)
none_there ws i n h = sym (ap (take n) (drop_of_length-le ws h) ∙ of_none n)

pub none_saved : (ws : List ℕ) (i : ℕ) (s : State) (r : Run) → length ws ≤ entry_at i → ws ≡ saved ws i s r
unfolding saved
none_saved ws i s r h = sym (sets_out (state_words s ++ run_words r) ws (entry_at i + 8) (omega arith))

pub no_entry_saved : (ws : List ℕ) (i : ℕ) (e : Entry) (place : ℕ) → length ws ≤ entry_at i → ws ≡ saved_entry ws i e place
unfolding saved_entry
no_entry_saved ws i e place h = sym (sets_out (entry_words e place) ws (entry_at i) h)
