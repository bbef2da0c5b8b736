-- The call of a record is one single call of the node, whatever is lent. Assumes nothing.
use Prim.Native.Nat.{ℕ, ◌+◌, ◌≤◌, ◌<◌}
use mathlib.Core.Path.{◌≡◌, refl, sym, subst}
use mathlib.Core.Logic.{◌≢◌}
use mathlib.Core.Bool.{true}
use mathlib.Core.List.{List}
use native.Mathlib.Decide.{ℕ_discrete, dec_lt}
use native.Mathlib.Omega.{arith}
use borrow.Author.Tests.{leb-true}
use lib.Dec.{leb}
use lib.ListN.{get_or, take, drop, get_or-eq_default, length-take}
use lib.Seq.{get_or-take, get_or-drop}
use Rattle.std.proofs.lemmas.Bool.{and_parts}
use Rattle.end_points.specs.Lent.{Lent}
use Rattle.trace.specs.Kinds.{table_kind, report_kind, is_kind}
use Rattle.trace.specs.Layout.{head_size, head_from, bytes_from}
use Rattle.trace_step.specs.Told.{told_of}
use Rattle.trace_step.specs.Steps.{call_of}
use Rattle.machine.specs.Calls.{Bytes}
use Rattle.good.specs.Calls.{answer, after}
use Rattle.replayed.specs.Replayed.{call_named, Single}

-- a part of bytes is bytes
part_bytes : (f : List ℕ) → Bytes f → (n i : ℕ) → Bytes (take n (drop i f))
part_bytes f b n i k = sides (dec_lt k n)
  where
    sides : Dec (k < n) → get_or (take n (drop i f)) k 0 < 256
    sides (yes l) = rw (get_or-take, get_or-drop) (b (i + k))
    sides (no l) =
        let e : get_or (take n (drop i f)) k 0 ≡ 0 = get_or-eq_default (take n (drop i f)) 0 (rw (length-take n (drop i f)) (omega arith)) in
        rw e (omega arith)

pub record_bytes : (f : List ℕ) → Bytes f → (at : ℕ) → Bytes (bytes_from f at)
unfolding bytes_from
record_bytes f b at = part_bytes f b (head_from f at).length (at + head_size)

-- the next number, and the last
above : (n k : ℕ) → n ≤ k → k ≢ n → n + 1 ≤ k
above n k l d = omega arith

last_kind : (k : ℕ) → 9 ≤ k → k ≤ 9 → k ≡ 9
last_kind k l m = omega arith

module _ (x : Lent) (i : ℕ) (b : List ℕ) where
  -- the call of a kind
  abbrev Made : ℕ → Type 0
  Made kind = Single x (call_of x kind i b).lent (call_named kind i b x.out) (told_of (call_of x kind i b).told)

  open_made : Made 2
  unfolding call_of answer after
  open_made = record { fed = tt; left = refl; buffer = refl; told = refl }

  close_made : Made 3
  unfolding call_of answer after
  close_made = record { fed = tt; left = refl; buffer = refl; told = refl }

  send_made : Made 4
  unfolding call_of answer after
  send_made = record { fed = tt; left = refl; buffer = refl; told = refl }

  urgent_made : Made 5
  unfolding call_of answer after
  urgent_made = record { fed = tt; left = refl; buffer = refl; told = refl }

  arrival_made : Bytes b → Made 6
  unfolding call_of answer after
  arrival_made f = record { fed = f; left = refl; buffer = refl; told = refl }

  tick_made : Made 7
  unfolding call_of answer after
  tick_made = record { fed = tt; left = refl; buffer = refl; told = refl }

  hand_out_made : Made 8
  unfolding call_of answer after
  hand_out_made = record { fed = tt; left = refl; buffer = refl; told = refl }

  report_made : Made 9
  unfolding call_of answer after
  report_made = record { fed = tt; left = refl; buffer = refl; told = refl }

  pub made : Bytes b → (kind : ℕ) → is_kind kind ≡ true → kind ≢ table_kind → Made kind
  made f kind known other = sides (is 2) (is 3) (is 4) (is 5) (is 6) (is 7) (is 8)
    where
      is : (n : ℕ) → Dec (kind ≡ n)
      is n = ℕ_discrete kind n

      bounds : (1 ≤ kind) × (kind ≤ 9)
      bounds = let p = and_parts (leb table_kind kind) (leb kind report_kind) known in (leb-true 1 kind p.0, leb-true kind 9 p.1)

      sides : Dec (kind ≡ 2) → Dec (kind ≡ 3) → Dec (kind ≡ 4) → Dec (kind ≡ 5) → Dec (kind ≡ 6) → Dec (kind ≡ 7) → Dec (kind ≡ 8) → Made kind
      sides (yes e) _ _ _ _ _ _ = subst Made (sym e) open_made
      sides (no _) (yes e) _ _ _ _ _ = subst Made (sym e) close_made
      sides (no _) (no _) (yes e) _ _ _ _ = subst Made (sym e) send_made
      sides (no _) (no _) (no _) (yes e) _ _ _ = subst Made (sym e) urgent_made
      sides (no _) (no _) (no _) (no _) (yes e) _ _ = subst Made (sym e) (arrival_made f)
      sides (no _) (no _) (no _) (no _) (no _) (yes e) _ = subst Made (sym e) tick_made
      sides (no _) (no _) (no _) (no _) (no _) (no _) (yes e) = subst Made (sym e) hand_out_made
      sides (no a) (no c) (no d) (no g) (no h) (no l) (no m) =
          let three = above 2 kind (above 1 kind bounds.0 other) a in
          let five = above 4 kind (above 3 kind three c) d in
          let seven = above 6 kind (above 5 kind five g) h in
          let nine = above 8 kind (above 7 kind seven l) m in
          subst Made (sym (last_kind kind nine bounds.1)) report_made
