-- The laws of good trace files (specs/Laws.antt). Assumes nothing.
use Prim.Native.Nat.{ℕ, zero, suc, ◌+◌, ◌-◌, ◌≤◌, ◌<◌}
use mathlib.Core.Path.{◌≡◌, sym, subst, ◌∙◌}
use mathlib.Core.Logic.{◌≢◌}
use mathlib.Core.Bool.{true, false, ◌&&◌, true≢false}
use mathlib.Core.List.{List}
use native.Mathlib.Omega.{arith}
use borrow.Author.Tests.{eqb-true, leb-true, eq-eqb, ne_eqb, not-true}
use lib.Dec.{eqb, leb}
use lib.ListN.{length, drop, length-drop}
use lib.Seq.{length-take-le}
use Rattle.std.proofs.lemmas.Bool.{and_parts}
use Rattle.table.specs.Rules.{every_below}
use Rattle.table.proofs.Every.{every_at}
use Rattle.trace.specs.Kinds.{table_kind, is_kind, takes_index}
use Rattle.trace.specs.Layout.{header_size, most_bytes, most_records, count_of, begin_of, head_from, bytes_from, end_from}
use Rattle.trace.specs.Rules.{header_good, taken_or_zero, form_good, placed, record_good, unused_good, good_trace}
use Rattle.trace.specs.Laws.{Filled, GoodIsFilled, GoodIsRecorded}

-- ---- the rules taken apart

module _ (f : List ℕ) (g : good_trace f ≡ true) where
  groups : (header_good f ≡ true) × (every_below (count_of f) (record_good f) ≡ true)
  unfolding good_trace
  groups = and_parts (header_good f) (every_below (count_of f) (record_good f)) (and_parts _ (unused_good f) g).0

  pub filled : Filled f
  unfolding header_good
  filled =
      let last = and_parts _ (eqb (begin_of f (count_of f)) (length f)) groups.0 in
      let first = and_parts _ (eqb (begin_of f 0) header_size) last.0 in
      let few = and_parts _ (leb (count_of f) most_records) first.0 in
      let some = and_parts (leb header_size (length f) && leb (length f) most_bytes) (leb 1 (count_of f)) few.0 in
      record {
        some = leb-true 1 (count_of f) some.1;
        first = eqb-true (begin_of f 0) header_size first.1;
        last = eqb-true (begin_of f (count_of f)) (length f) last.1;
      }

  module _ (k : ℕ) (l : k < count_of f) where
    abbrev at : ℕ
    at = begin_of f k

    parts : (eqb (begin_of f (k + 1)) (end_from f at) ≡ true) × (form_good (head_from f at) ≡ true) × (placed k (head_from f at).kind ≡ true)
    unfolding record_good
    parts =
        let p = and_parts _ (placed k (head_from f at).kind) (every_at (count_of f) (record_good f) groups.1 k l) in
        let q = and_parts (eqb (begin_of f (k + 1)) (end_from f at)) (form_good (head_from f at)) p.0 in
        (q.0, q.1, p.1)

    follows : begin_of f (k + 1) ≡ end_from f at
    follows = eqb-true (begin_of f (k + 1)) (end_from f at) parts.0

    known : is_kind (head_from f at).kind ≡ true
    unfolding form_good
    known = (and_parts (is_kind (head_from f at).kind) (taken_or_zero (takes_index (head_from f at).kind) (head_from f at).index) (and_parts _ _ parts.1).0).0

    table : k ≡ 0 → (head_from f at).kind ≡ table_kind
    table e = eqb-true (head_from f at).kind table_kind (rw (eq-eqb k 0 e) at parts.2)

    other : k ≢ 0 → (head_from f at).kind ≢ table_kind
    other d e =
        let no : eqb (head_from f at).kind table_kind ≡ false = not-true _ (rw (ne_eqb k 0 d) at parts.2) in
        true≢false (sym (eq-eqb (head_from f at).kind table_kind e) ∙ no)

  -- each of the last j records begins at or before the file's end
  below : (j k : ℕ) → j + k ≡ count_of f → begin_of f k ≤ length f
  unfolding end_from
  below zero k e = let s : k ≡ count_of f = omega arith in omega (arith, subst (λ (n : ℕ). begin_of f n ≡ length f) (sym s) filled.last)
  below (suc j) k e =
      let l : k < count_of f = omega arith in
      let n : begin_of f (k + 1) ≤ length f = below j (k + 1) (omega arith) in
      omega (arith, follows k l)

pub good_is_filled : GoodIsFilled
unfolding GoodIsFilled
good_is_filled = filled

module _ (f : List ℕ) (g : good_trace f ≡ true) (k : ℕ) (l : k < count_of f) where
  inside : end_from f (begin_of f k) ≤ length f
  inside = let b = below f g (count_of f - (k + 1)) (k + 1) (omega arith) in omega (arith, follows f g k l)

  whole : length (bytes_from f (begin_of f k)) ≡ (head_from f (begin_of f k)).length
  unfolding bytes_from end_from
  whole =
      length-take-le (head_from f (begin_of f k)).length (drop (begin_of f k + 4) f)
      (rw (length-drop (begin_of f k + 4) f) (omega (arith, inside)))

pub good_is_recorded : GoodIsRecorded
unfolding GoodIsRecorded
good_is_recorded f g k l =
    record {
      next = follows f g k l;
      inside = inside f g k l;
      bytes = whole f g k l;
      known = known f g k l;
      table = table f g k l;
      other = other f g k l;
    }
