-- The index that setup makes says of each entry what the table does. Assumes that the table's elements are bytes.
use Prim.Native.Nat.{ℕ, zero, suc, ◌≤◌, ◌<◌}
use mathlib.Core.Path.{◌≡◌, refl, sym, ap, ◌∙◌}
use mathlib.Core.Bool.{Bool, true, ◌&&◌, ◌||◌, and-true, and-false, or-false, and_assoc}
use mathlib.Core.List.{List}
use native.Mathlib.Decide.{ℕ_discrete, dec_lt}
use native.Mathlib.Omega.{arith}
use lib.ListN.{length, get_or}
use lib.Dec.{eqb, ltb}
use borrow.Author.Tests.{eq-eqb, ne_eqb, lt-ltb, le-ltb}
use Rattle.memory.specs.Layout.{node_words}
use Rattle.window.specs.Marks.{bit}
use Rattle.window.proofs.Bits.{bit_of_zero}
use Rattle.table.specs.declared.Entry.{Entry}
use Rattle.table.specs.Layout.{count_of, entry_of}
use Rattle.table.specs.Rules.{good_table}
use Rattle.table.proofs.Good.{good_head}
use Rattle.end_points.specs.Ends.{load_entry}
use Rattle.end_points.specs.Heads.{count_in}
use Rattle.end_points.specs.States.{is_sends}
use Rattle.arrive_lookup.specs.Lookup.{row_in, channel_digit, remote_digit, Indexed}
use Rattle.arrive_lookup.specs.Fitting.{same}
use Rattle.call_open.specs.Setup.{tabled}
use Rattle.good.proofs.Entering.{entered_channel, entered_remote, tabled_long}

-- ---- one entry more

eqb_sym : (a b : ℕ) → eqb a b ≡ eqb b a
eqb_sym a b = sides (ℕ_discrete a b)
  where
    sides : Dec (a ≡ b) → eqb a b ≡ eqb b a
    sides (yes e) = eq-eqb a b e ∙ sym (eq-eqb b a (sym e))
    sides (no n) = ne_eqb a b n ∙ sym (ne_eqb b a (λ e. n (sym e)))

-- of the first k numbers those that p holds of, and k too where it holds of it, are those of the first k + 1
one_more : (p : ℕ → Bool) (k i : ℕ) → ((ltb i k && p i) || (p k && eqb i k)) ≡ (ltb i (suc k) && p i)
one_more p k i = sides (ℕ_discrete i k)
  where
    sides : Dec (i ≡ k) → ((ltb i k && p i) || (p k && eqb i k)) ≡ (ltb i (suc k) && p i)
    sides (yes e) = rw (e, le-ltb k k (omega arith), eq-eqb k k refl, lt-ltb k (suc k) (omega arith)) (and-true (p k))
    sides (no n) = rw (ne_eqb i k n, and-false (p k), or-false (ltb i k && p i)) (ap (λ (b : Bool). b && p i) (below (dec_lt i k)))
      where
        below : Dec (i < k) → ltb i k ≡ ltb i (suc k)
        below (yes l) = lt-ltb i k l ∙ sym (lt-ltb i (suc k) (omega arith))
        below (no l) = le-ltb i k (omega arith) ∙ sym (le-ltb i (suc k) (omega arith))

-- ---- all of them

module _ (t : List ℕ) (g : good_table t ≡ true) (bytes : (j : ℕ) → get_or t j 0 < 256) (ws : List ℕ) (long : length ws ≡ node_words) (blank : (v : ℕ) → row_in ws v ≡ 0) where
  over : Bool → ℕ → ℕ → Bool
  over sends v i = eqb (entry_of t i).channel.0 v && same sends (is_sends (entry_of t i).kind)

  from : ℕ → ℕ → Bool
  from v i = eqb (entry_of t i).remote.0 v

  tabled_channel : (k : ℕ) → k ≤ count_of t → (sends : Bool) (v i : ℕ) → i < 16 → bit (row_in (tabled t k ws) v) (channel_digit sends i) ≡ (ltb i k && over sends v i)
  unfolding tabled over
  tabled_channel zero le sends v i h = rw (blank v, le-ltb i 0 (omega arith)) (bit_of_zero (channel_digit sends i))
  tabled_channel (suc k) le sends v i h =
      entered_channel t k (tabled t k ws) g bytes (omega arith) (tabled_long t k ws ∙ long) sends v i h
      ∙ rw (eqb_sym v (entry_of t k).channel.0, tabled_channel k (omega arith) sends v i h, ← and_assoc (eqb (entry_of t k).channel.0 v) (same sends (is_sends (entry_of t k).kind)) (eqb i k)) (one_more (over sends v) k i)

  tabled_remote : (k : ℕ) → k ≤ count_of t → (v i : ℕ) → i < 16 → bit (row_in (tabled t k ws) v) (remote_digit i) ≡ (ltb i k && from v i)
  unfolding tabled from
  tabled_remote zero le v i h = rw (blank v, le-ltb i 0 (omega arith)) (bit_of_zero (remote_digit i))
  tabled_remote (suc k) le v i h =
      entered_remote t k (tabled t k ws) g bytes (omega arith) (tabled_long t k ws ∙ long) v i h
      ∙ rw (eqb_sym v (entry_of t k).remote.0, tabled_remote k (omega arith) v i h) (one_more (from v) k i)

  -- what is asked of an entry there is may be asked of it as loaded
  loaded : (n : List ℕ) → ((i : ℕ) → i < count_of t → load_entry n i ≡ entry_of t i) → (p : Entry → Bool) (i : ℕ) → (ltb i (count_of t) && p (entry_of t i)) ≡ (ltb i (count_of t) && p (load_entry n i))
  loaded n is p i = sides (dec_lt i (count_of t))
    where
      sides : Dec (i < count_of t) → (ltb i (count_of t) && p (entry_of t i)) ≡ (ltb i (count_of t) && p (load_entry n i))
      sides (yes h) = rw (is i h)
      sides (no h) = rw (le-ltb i (count_of t) (omega arith))

  pub tabled_index : count_in (tabled t (count_of t) ws) ≡ count_of t → ((i : ℕ) → i < count_of t → load_entry (tabled t (count_of t) ws) i ≡ entry_of t i) → Indexed (tabled t (count_of t) ws)
  unfolding over from
  tabled_index count is =
      let n = tabled t (count_of t) ws in
      record {
        few = rw count (good_head t g).count;
        channels = λ sends v i h. rw count
            (tabled_channel (count_of t) (omega arith) sends v i h ∙ loaded n is (λ (e : Entry). eqb e.channel.0 v && same sends (is_sends e.kind)) i);
        remotes = λ v i h. rw count (tabled_remote (count_of t) (omega arith) v i h ∙ loaded n is (λ (e : Entry). eqb e.remote.0 v) i);
      }
