-- What a good table's user may rely on: its head, each entry, the store, and that a kind, a remote address and a channel pick
-- at most one entry. Assumes nothing.
use mathlib.Core.Path.{◌≡◌, refl, sym, ap}
use mathlib.Core.Bool.{Bool, true, false, not, ◌&&◌, ◌||◌}
use mathlib.Core.List.{List}
use Prim.Native.Nat.{ℕ, zero, suc, ◌≤◌, ◌<◌}
use native.Mathlib.Decide.{dec_lt}
use native.Mathlib.Omega.{arith}
use lib.Count.{ones}
use lib.Dec.{eqb, leb}
use lib.ListN.{length}
use borrow.Author.Tests.{eqb-true, leb-true, eq-eqb, not-true}
use Rattle.std.proofs.lemmas.Bool.{and_parts}
use Rattle.units.specs.Refusals.{pick}
use Rattle.units.specs.Sizes.{default_size, is_size, may_write, in_force}
use Rattle.units.specs.declared.Address.{Address}
use Rattle.table.specs.declared.Kind.{Kind}
use Rattle.table.specs.declared.Kind.TheVariants.{Sends, Receives}
use Rattle.table.specs.declared.Entry.{Entry}
use Rattle.table.specs.Layout.{head_size, start_of, count_of, first_of, own_of, protocol_of, head_zeros_of, byte_of, kind_byte_from, window_from, zeros_from, entry_from, entry_of}
use Rattle.table.specs.Areas.{store_of}
use Rattle.table.specs.Rules.{every_below, is_address, head_good, timed, numbers_good, form_good, agree, apart, entry_good, fits, good_table}
use Rattle.table.specs.Laws.{OneEntry, StoreFits}
use Rattle.table.proofs.Every.{every_at}

-- The rules taken apart

-- an address that a table may have
pub address_range : (a : Address) → is_address a ≡ true → (32 ≤ a.0) × (a.0 ≤ 254)
unfolding is_address
address_range a h =
    let p = and_parts (leb 32 a.0) (leb a.0 254) h in
    (leb-true 32 a.0 p.0, leb-true a.0 254 p.1)

-- a size is 1 to 128
pub size_range : (w : ℕ) → is_size w ≡ true → (1 ≤ w) × (w ≤ 128)
unfolding ones
size_range zero h = absurd (omega (arith, eqb-true 0 1 (and_parts (eqb 0 1) true h).0))
size_range (suc w) h = (omega arith, leb-true (suc w) 128 (and_parts (eqb (ones (suc w)) 1) (leb (suc w) 128) h).1)

-- what a table writes puts a size in force
default_size_holds : is_size default_size ≡ true
unfolding default_size ones
default_size_holds = refl

pub written_size : (w : ℕ) → may_write w ≡ true → is_size (in_force w) ≡ true
written_size w = sides (eqb w 0)
  where
    sides : (b : Bool) → (b || is_size w) ≡ true → is_size (pick b default_size w) ≡ true
    sides true h = default_size_holds
    sides false h = h

-- the three groups of rules
groups : (t : List ℕ) → good_table t ≡ true → (head_good t ≡ true) × ((every_below (count_of t) (entry_good t) ≡ true) × (store_of t ≤ 32768))
unfolding good_table fits
groups t g =
    let p = and_parts (head_good t && every_below (count_of t) (entry_good t)) (leb (store_of t) 32768) g in
    let q = and_parts (head_good t) (every_below (count_of t) (entry_good t)) p.0 in
    (q.0, (q.1, leb-true (store_of t) 32768 p.1))

-- The head

pub record GoodHead (t : List ℕ) : Type 0 where
  pub count : count_of t ≤ 16
  pub long : length t ≡ start_of (count_of t)
  pub own_low : 32 ≤ (own_of t).0
  pub own_high : (own_of t).0 ≤ 254
  pub protocol : 1 ≤ protocol_of t

head_parts : (t : List ℕ) → head_good t ≡ true → GoodHead t
unfolding head_good
head_parts t h =
    let zeros = and_parts _ (eqb (head_zeros_of t) 0) h in
    let protocol = and_parts _ (leb 1 (protocol_of t)) zeros.0 in
    let own = and_parts _ (is_address (own_of t)) protocol.0 in
    let first = and_parts _ (eqb (first_of t) head_size) own.0 in
    let long = and_parts (leb (count_of t) 16) (eqb (length t) (start_of (count_of t))) first.0 in
    record {
      count = leb-true (count_of t) 16 long.0;
      long = eqb-true (length t) (start_of (count_of t)) long.1;
      own_low = (address_range (own_of t) own.1).0;
      own_high = (address_range (own_of t) own.1).1;
      protocol = leb-true 1 (protocol_of t) protocol.1;
    }

pub good_head : (t : List ℕ) → good_table t ≡ true → GoodHead t
good_head t g = head_parts t (groups t g).0

-- The entries

pub record GoodEntry (e : Entry) : Type 0 where
  pub remote_low : 32 ≤ e.remote.0
  pub remote_high : e.remote.0 ≤ 254
  pub window : is_size e.window ≡ true
  pub window_low : 1 ≤ e.window
  pub window_high : e.window ≤ 128
  pub largest_low : 1 ≤ e.largest
  pub largest_high : e.largest ≤ 32768
  pub sender : e.kind ≡ Sends → 1 ≤ e.timeout
  pub receiver : e.kind ≡ Receives → (e.timeout ≡ 0) × (e.retries ≡ 0)

timed_sender : (k : Kind) (t m : ℕ) → timed k t m ≡ true → k ≡ Sends → 1 ≤ t
timed_sender Sends t m h e = leb-true 1 t h
timed_sender Receives t m h e = let z : ◌≡◌ {A = ℕ} 0 1 = cc in absurd (omega arith)

timed_receiver : (k : Kind) (t m : ℕ) → timed k t m ≡ true → k ≡ Receives → (t ≡ 0) × (m ≡ 0)
timed_receiver Sends t m h e = let z : ◌≡◌ {A = ℕ} 0 1 = cc in absurd (omega arith)
timed_receiver Receives t m h e =
    let p = and_parts (eqb t 0) (eqb m 0) h in
    (eqb-true t 0 p.0, eqb-true m 0 p.1)

entry_parts : (e : Entry) → numbers_good e ≡ true → is_size e.window ≡ true → GoodEntry e
unfolding numbers_good
entry_parts e h w =
    let times = and_parts _ (timed e.kind e.timeout e.retries) h in
    let high = and_parts _ (leb e.largest 32768) times.0 in
    let low = and_parts (is_address e.remote) (leb 1 e.largest) high.0 in
    record {
      remote_low = (address_range e.remote low.0).0;
      remote_high = (address_range e.remote low.0).1;
      window = w;
      window_low = (size_range e.window w).0;
      window_high = (size_range e.window w).1;
      largest_low = leb-true 1 e.largest low.1;
      largest_high = leb-true e.largest 32768 high.1;
      sender = timed_sender e.kind e.timeout e.retries times.1;
      receiver = timed_receiver e.kind e.timeout e.retries times.1;
    }

-- an entry's window is the one that its bytes put in force
window_in_force : (t : List ℕ) (i : ℕ) → (entry_of t i).window ≡ in_force (window_from t (start_of i))
unfolding entry_of entry_from
window_in_force t i = refl

form_parts : (t : List ℕ) (i : ℕ) → form_good t i ≡ true → GoodEntry (entry_of t i)
unfolding form_good
form_parts t i h =
    let numbers = and_parts _ (numbers_good (entry_of t i)) h in
    let zeros = and_parts _ (eqb (zeros_from t (start_of i)) 0) numbers.0 in
    let written = and_parts (leb (kind_byte_from t (start_of i)) 1) (may_write (window_from t (start_of i))) zeros.0 in
    entry_parts (entry_of t i) numbers.1 (rw (window_in_force t i) (written_size (window_from t (start_of i)) written.1))

-- an entry's bytes keep their rules, and it agrees with none before it
module _ (t : List ℕ) (g : good_table t ≡ true) (i : ℕ) (l : i < count_of t) where
  halves : (form_good t i ≡ true) × (apart t i ≡ true)
  unfolding entry_good
  halves = and_parts (form_good t i) (apart t i) (every_at (count_of t) (entry_good t) (groups t g).1.0 i l)

  pub good_entry : GoodEntry (entry_of t i)
  good_entry = form_parts t i halves.0

-- The store

pub store_fits : StoreFits
store_fits t g = (groups t g).1.1

-- One entry for a kind, a remote address and a channel

agree_true : (a b : Entry) → a.kind ≡ b.kind → a.remote.0 ≡ b.remote.0 → a.channel.0 ≡ b.channel.0 → agree a b ≡ true
unfolding agree
agree_true a b k r c = rw (eq-eqb _ _ (ap byte_of k), eq-eqb _ _ r, eq-eqb _ _ c)

-- an entry does not agree with an earlier one
earlier : (t : List ℕ) → good_table t ≡ true → (i j : ℕ) → i < j → j < count_of t → agree (entry_of t j) (entry_of t i) ≡ false
unfolding apart
earlier t g i j l m = not-true _ (every_at j (λ k. not (agree (entry_of t j) (entry_of t k))) (halves t g j m).1 i l)

clash : (b : Bool) → b ≡ true → b ≡ false → ⊥
clash b p q = let z : ◌≡◌ {A = ℕ} 0 1 = cc in omega arith

pub one_entry : OneEntry
one_entry t g i j li lj k r c = sides (dec_lt i j) (dec_lt j i)
  where
    sides : Dec (i < j) → Dec (j < i) → i ≡ j
    sides (yes p) q = absurd (clash _ (agree_true (entry_of t j) (entry_of t i) (sym k) (sym r) (sym c)) (earlier t g i j p lj))
    sides (no p) (yes q) = absurd (clash _ (agree_true (entry_of t i) (entry_of t j) k r c) (earlier t g j i q li))
    sides (no p) (no q) = omega arith

-- as specs/Laws.antt states them
