-- What a memory stands for where each entry's timers are read in their own way, as in a tick that has come as far as an
-- entry: those before it are read by this tick, it and the others by the tick before. Assumes nothing.
use Prim.Native.Nat.{ℕ, ◌≤◌, ◌<◌}
use mathlib.Core.Path.{◌≡◌, refl, ap, ◌∙◌, fun_ext}
use mathlib.Core.Logic.{◌≢◌}
use mathlib.Core.List.{List, []}
use native.Mathlib.Omega.{arith}
use lib.ListN.{length, set}
use lib.Dec.{eqb}
use Rattle.table.specs.Layout.{count_of, own_of, protocol_of}
use Rattle.table.specs.Areas.{store_of}
use Rattle.waiting.specs.Order.{acks_in, not_of}
use Rattle.waiting.specs.Port.{under_in}
use Rattle.end_points.specs.Ends.{end_of}
use Rattle.end_points.specs.Heads.{count_in}
use Rattle.timing.specs.Timing.{clock_in}
use Rattle.timing.proofs.Falling.{left_zero}
use Rattle.good.specs.Good.{Lists, Good, mine}
use Rattle.good.specs.Calls.{Memory}
use Rattle.good.proofs.Payloads.{stored_long}
use Rattle.machine.specs.Machine.{End, Item, Sort, Machine, node, listed, turned, silent}
use Rattle.machine.proofs.Listed.{listed_ext, set_listed}
use Rattle.refinement.specs.Standing.{Reading, read_at, end_for, waiting_for, under_for}
use Rattle.refinement.proofs.Elsewhere.{Leaves, elsewhere}
use Rattle.refinement.proofs.Waiting.{silent_waits}

-- what is read of a timer is 0 just where the book has 0
pub zero_left : (n : Memory) (d : ℕ) → eqb (read_at n d) 0 ≡ eqb d 0
zero_left n = left_zero (clock_in n.node)

abbrev pub Readings : Type 0
Readings = ℕ → Reading

abbrev pub end_with : Readings → Memory → ℕ → End
end_with R n i = end_for (R i) n.store n.book i (end_of n.node i)

abbrev pub stands_with : Readings → List ℕ → Memory → Lists → Machine
stands_with R t n l =
    record {
      own = own_of t;
      protocol = protocol_of t;
      need = store_of t;
      room = length n.store;
      ends = listed (count_of t) (end_with R n);
      waiting = waiting_for n.node l;
      under = under_for (under_in n.book);
    }

pub record StandsWith (R : Readings) (t : List ℕ) (n : Memory) (m : Machine) : Type 0 where
  pub lists : Lists
  pub good : Good t n.node n.book lists
  pub room : store_of t ≤ length n.store
  pub is : stands_with R t n lists ≡ m

-- nothing was altered, and every entry reads as it did
pub still_with : (R : Readings) {R' : Readings} {t : List ℕ} {n : Memory} {l : Lists} → Good t n.node n.book l → store_of t ≤ length n.store
    → ((j : ℕ) → j < count_of t → end_with R' n j ≡ end_with R n j) → StandsWith R' t n (stands_with R t n l)
still_with R {R'} {t} {n} {l} g room same =
    record {
      lists = l;
      good = g;
      room = room;
      is = ap (λ (es : List End). node (stands_with R t n l) es (stands_with R t n l).waiting) (listed_ext (count_of t) (end_with R' n) (end_with R n) same);
    }

-- entry i turned to what it was
pub same_with : (R : Readings) {t : List ℕ} (n : Memory) {l : Lists} → Good t n.node n.book l → {i : ℕ} → i < count_in n.node
    → {E : End} → end_with R n i ≡ E → stands_with R t n l ≡ turned i E (stands_with R t n l)
same_with R {t} n {l} g {i} li {E} here =
    ap (λ (es : List End). node (stands_with R t n l) es (stands_with R t n l).waiting)
    (set_listed (count_of t) (end_with R n) (end_with R n) i E (let c = g.tabled.count in omega arith) here (λ j h d. refl))

-- entry i, read anew, stands for E now, and what waits for w
pub turned_with : {R R' : Readings} {t : List ℕ} {n : Memory} {l : Lists} (g : Good t n.node n.book l) → store_of t ≤ length n.store
    → {i : ℕ} → i < count_in n.node → ((j : ℕ) → j ≢ i → R' j ≡ R j) → {m : Memory} (k : Leaves t n m l i) {E : End} {w : Sort → List Item}
    → end_with R' m i ≡ E → ((q : Sort) → waiting_for m.node k.lists q ≡ w q)
    → StandsWith R' t m (node (stands_with R t n l) (set (listed (count_of t) (end_with R n)) i E) w)
turned_with {R} {R'} {t} {n} {l} g room {i} li read {m} k {E} here waits =
    let c = g.tabled.count in
    let long = stored_long t n m.store i k.stored in
    record {
      lists = k.lists;
      good = k.good;
      room = rw long room;
      is = rw (long, set_listed (count_of t) (end_with R n) (end_with R' m) i E (omega arith) here away, fun_ext waits, k.under);
    }
  where
    away : (j : ℕ) → j < count_of t → j ≢ i → end_with R' m j ≡ end_with R n j
    away j h d =
        ap (λ (L : Reading). end_for L m.store m.book j (end_of m.node j)) (read j d)
        ∙ elsewhere t n m l k.lists g room (R j) j i (omega (arith, g.tabled.count)) d k.apart k.within k.stored

-- and nothing of it waits
pub silent_with : {R R' : Readings} {t : List ℕ} {n : Memory} {l : Lists} (g : Good t n.node n.book l) → store_of t ≤ length n.store
    → {i : ℕ} → i < count_in n.node → ((j : ℕ) → j ≢ i → R' j ≡ R j) → {m : Memory} (k : Leaves t n m l i)
    → ((q : ℕ) → q < 4 → mine i (k.lists q) ≡ [])
    → acks_in m.node ≡ not_of i (acks_in n.node) → {E : End} → end_with R' m i ≡ E → StandsWith R' t m (silent i (turned i E (stands_with R t n l)))
silent_with {n = n} {l = l} g room {i} li read {m} k gone left here =
    turned_with g room li read k here
    (silent_waits i n.node m.node n.book m.book l k.lists k.apart k.within gone left)
