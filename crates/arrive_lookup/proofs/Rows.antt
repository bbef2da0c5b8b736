-- What putting an entry into the index does: to each row's digits, and to no other word. Assumes nothing.
use Prim.Native.Nat.{ℕ, ◌+◌, ◌^◌, ◌≤◌, ◌<◌}
use mathlib.Core.Bool.{Bool, true, false, ◌&&◌, ◌||◌, or-false, and-false}
use mathlib.Core.List.{List}
use mathlib.Core.Logic.{◌⊎◌, inl, inr, ◌≢◌}
use mathlib.Core.Path.{◌≡◌, refl, sym, ap, ◌∙◌}
use native.Mathlib.Decide.{ℕ_discrete}
use native.Mathlib.Omega.{arith}
use lib.Bits.{bit_or}
use lib.Dec.{eqb, ltb}
use lib.ListN.{length, get_or, length-set}
use lib.Seq.{get_or-set_same, get_or-set_other}
use borrow.Author.Tests.{eq-eqb, ne_eqb, lt-ltb, ltb-true}
use Rattle.units.specs.Refusals.{pick}
use Rattle.memory.specs.Layout.{entry_at, row_at}
use Rattle.window.specs.Marks.{bit}
use Rattle.window.proofs.Bits.{bit_or_holds, bit_pow}
use Rattle.table.specs.declared.Entry.{Entry}
use Rattle.end_points.specs.States.{is_sends}
use Rattle.arrive_lookup.specs.Lookup.{row_in, channel_digit, remote_digit, marked, indexed}
use Rattle.arrive_lookup.specs.Fitting.{same}

-- ---- one mark

-- a row is its word
pub row_ext : (ws vs : List ℕ) (u : ℕ) → (u < 256 → get_or ws (row_at u) 0 ≡ get_or vs (row_at u) 0) → row_in ws u ≡ row_in vs u
row_ext ws vs u h = go (ltb u 256) refl
  where
    go : (b : Bool) → ltb u 256 ≡ b → pick b (get_or ws (row_at u) 0) 0 ≡ pick b (get_or vs (row_at u) 0) 0
    go true e = h (ltb-true u 256 e)
    go false e = refl

pub row_zero : (ws : List ℕ) (u : ℕ) → (u < 256 → get_or ws (row_at u) 0 ≡ 0) → row_in ws u ≡ 0
row_zero ws u h = go (ltb u 256) refl
  where
    go : (b : Bool) → ltb u 256 ≡ b → pick b (get_or ws (row_at u) 0) 0 ≡ 0
    go true e = h (ltb-true u 256 e)
    go false e = refl

module _ (ws : List ℕ) (long : (entry_at 0) ≤ length ws) (v : ℕ) (low : v < 256) (k : ℕ) where
  mark_here : row_in (marked ws v k) v ≡ bit_or (row_in ws v) (2 ^ k)
  mark_here =
      ap (λ (b : Bool). pick b (get_or (marked ws v k) (row_at v) 0) 0) (lt-ltb v 256 low)
      ∙ get_or-set_same ws (row_at v) (bit_or (row_in ws v) (2 ^ k)) 0 (omega arith)

  mark_there : (u : ℕ) → u ≢ v → row_in (marked ws v k) u ≡ row_in ws u
  mark_there u n = row_ext (marked ws v k) ws u (λ h. get_or-set_other ws (row_at v) (row_at u) (bit_or (row_in ws v) (2 ^ k)) 0 (λ e. n (omega arith)))

  mark_digit : (u j : ℕ) → bit (row_in (marked ws v k) u) j ≡ (bit (row_in ws u) j || (eqb u v && eqb j k))
  mark_digit u j = sides (ℕ_discrete u v)
    where
      sides : Dec (u ≡ v) → bit (row_in (marked ws v k) u) j ≡ (bit (row_in ws u) j || (eqb u v && eqb j k))
      sides (yes e) =
          rw (e, eq-eqb v v refl)
          (ap (λ (n : ℕ). bit n j) mark_here ∙ bit_or_holds (row_in ws v) (2 ^ k) j ∙ ap (λ (b : Bool). bit (row_in ws v) j || b) (bit_pow k j))
      sides (no n) = rw (ne_eqb u v n, mark_there u n) (sym (or-false (bit (row_in ws u) j)))

-- ---- an entry

same_digit : (a b : Bool) (i j : ℕ) → i < 16 → j < 16 → eqb (channel_digit a i) (channel_digit b j) ≡ (same a b && eqb i j)
same_digit true true i j hi hj = refl
same_digit false false i j hi hj = sides (ℕ_discrete i j)
  where
    sides : Dec (i ≡ j) → eqb (16 + i) (16 + j) ≡ eqb i j
    sides (yes e) = rw (eq-eqb i j e) (eq-eqb (16 + i) (16 + j) (omega arith))
    sides (no n) = rw (ne_eqb i j n) (ne_eqb (16 + i) (16 + j) (λ e. n (omega arith)))
same_digit true false i j hi hj = ne_eqb i (16 + j) (λ e. omega arith)
same_digit false true i j hi hj = ne_eqb (16 + i) j (λ e. omega arith)

pub digit_low : (b : Bool) (i : ℕ) → i < 16 → channel_digit b i < 32
digit_low true i h = omega arith
digit_low false i h = omega arith

module _ (ws : List ℕ) (long : (entry_at 0) ≤ length ws) (i : ℕ) (low : i < 16) (e : Entry) (over : e.channel.0 < 256) (from : e.remote.0 < 256) where
  abbrev digit : ℕ
  digit = channel_digit (is_sends e.kind) i

  abbrev half : List ℕ
  half = marked ws e.channel.0 digit

  half_long : (entry_at 0) ≤ length half
  half_long = rw (length-set ws (row_at e.channel.0) (bit_or (row_in ws e.channel.0) (2 ^ digit))) long

  indexed_digit : (u j : ℕ) → bit (row_in (indexed ws i e) u) j ≡ (bit (row_in ws u) j || (eqb u e.channel.0 && eqb j digit)) || (eqb u e.remote.0 && eqb j (remote_digit i))
  unfolding indexed
  indexed_digit u j =
      mark_digit half half_long e.remote.0 from (remote_digit i) u j
      ∙ ap (λ (b : Bool). b || (eqb u e.remote.0 && eqb j (remote_digit i))) (mark_digit ws long e.channel.0 over digit u j)

  -- those that send or receive over a channel
  pub indexed_channel : (sends : Bool) (u j : ℕ) → j < 16
      → bit (row_in (indexed ws i e) u) (channel_digit sends j) ≡ (bit (row_in ws u) (channel_digit sends j) || (eqb u e.channel.0 && (same sends (is_sends e.kind) && eqb j i)))
  indexed_channel sends u j h =
      indexed_digit u (channel_digit sends j)
      ∙ rw (same_digit sends (is_sends e.kind) j i h low, ne_eqb (channel_digit sends j) (remote_digit i) (λ q. let d = digit_low sends j h in omega arith), and-false (eqb u e.remote.0)) (or-false _)

  -- those with a remote address
  pub indexed_remote : (u j : ℕ) → j < 16 → bit (row_in (indexed ws i e) u) (remote_digit j) ≡ (bit (row_in ws u) (remote_digit j) || (eqb u e.remote.0 && eqb j i))
  indexed_remote u j h =
      indexed_digit u (remote_digit j)
      ∙ rw (ne_eqb (remote_digit j) digit (λ q. let d = digit_low (is_sends e.kind) i low in omega arith), and-false (eqb u e.channel.0), or-false (bit (row_in ws u) (remote_digit j))) (far (ℕ_discrete j i))
    where
      far : Dec (j ≡ i) → (bit (row_in ws u) (remote_digit j) || (eqb u e.remote.0 && eqb (remote_digit j) (remote_digit i))) ≡ (bit (row_in ws u) (remote_digit j) || (eqb u e.remote.0 && eqb j i))
      far (yes q) = rw (eq-eqb j i q, eq-eqb (remote_digit j) (remote_digit i) (omega arith))
      far (no n) = rw (ne_eqb j i n, ne_eqb (remote_digit j) (remote_digit i) (λ q. n (omega arith)))

  -- no word but the rows
  pub indexed_word : (k : ℕ) → (k < 64) ⊎ ((entry_at 0) ≤ k) → get_or (indexed ws i e) k 0 ≡ get_or ws k 0
  unfolding indexed
  indexed_word k (inl h) =
      get_or-set_other half (row_at e.remote.0) k (bit_or (row_in half e.remote.0) (2 ^ remote_digit i)) 0 (λ q. omega arith)
      ∙ get_or-set_other ws (row_at e.channel.0) k (bit_or (row_in ws e.channel.0) (2 ^ digit)) 0 (λ q. omega arith)
  indexed_word k (inr h) =
      get_or-set_other half (row_at e.remote.0) k (bit_or (row_in half e.remote.0) (2 ^ remote_digit i)) 0 (λ q. omega arith)
      ∙ get_or-set_other ws (row_at e.channel.0) k (bit_or (row_in ws e.channel.0) (2 ^ digit)) 0 (λ q. omega arith)

pub indexed_long : (ws : List ℕ) (i : ℕ) (e : Entry) → length (indexed ws i e) ≡ length ws
unfolding indexed
indexed_long ws i e =
    let d = channel_digit (is_sends e.kind) i in
    let half = marked ws e.channel.0 d in
    length-set half (row_at e.remote.0) (bit_or (row_in half e.remote.0) (2 ^ remote_digit i))
    ∙ length-set ws (row_at e.channel.0) (bit_or (row_in ws e.channel.0) (2 ^ d))
