-- What waits after a call on one entry, sort by sort: the same, one sort altered, or nothing of that entry any more.
-- Assumes nothing.
use Prim.Native.Nat.{ℕ, zero, suc, ◌<◌, ◌/◌, ◌%◌, ◌≤◌}
use mathlib.Core.Path.{◌≡◌, refl, sym, ap, subst, ◌∙◌}
use mathlib.Core.Logic.{◌≢◌}
use mathlib.Core.List.{List, [], ◌∷◌, ◌++◌, map, map-append, Memᴰ}
use mathlib.Core.Bool.{Bool, true, false, true≢false}
use native.Mathlib.Decide.{ℕ_discrete}
use native.Mathlib.Omega.{arith}
use lib.ListN.{drop, length}
use lib.Dec.{eqb}
use borrow.Author.Tests.{eq-eqb, ne_eqb}
use Rattle.units.specs.Refusals.{pick}
use Rattle.memory.specs.Layout as layout
use Rattle.waiting.specs.Queues.{appended}
use Rattle.waiting.specs.Order.{acks_in, Distinct, not_of}
use Rattle.table.specs.Areas.{store_of}
use Rattle.end_points.specs.Ends.{end_of}
use Rattle.end_points.specs.declared.EndPoint.{EndPoint}
use Rattle.end_points.specs.Heads.{count_in}
use Rattle.end_points.specs.States.{is_sends}
use Rattle.memory.specs.Layout.{owner_of}
use Rattle.good.specs.Good.{Lists, Lines, Silent, Good, mine}
use Rattle.good.specs.Calls.{Memory}
use Rattle.good.proofs.Members as members
use Rattle.good.proofs.Members.{without_out, rest, rest_all, rest_in}
use Rattle.good.proofs.Known.{silent_out}
use Rattle.good.proofs.Lined.{less}
use Rattle.good.proofs.Framing.{Apart, Within, count_low}
use Rattle.good.proofs.Senders.{gone_other, reset_within}
use Rattle.good.proofs.HandFirst.{First, first_in}
use Rattle.good.proofs.Offsets.{reset_owner}
use Rattle.machine.specs.Machine.{Item, Sort, acks, resets, urgents, resends, datas, rank, only, End, silent, turned, without, waits}
use Rattle.refinement.specs.Standing.{ack_item, plain_item, slot_item, waiting_for, end_at, stands_for, Stands}
use Rattle.refinement.proofs.Listing.{map_ext, queue_same}
use Rattle.refinement.proofs.Elsewhere.{Leaves, turned_stands}

-- ---- a sort's things in node and book, and what they stand for

abbrev pub item_of : List ℕ → Sort → ℕ → Item
item_of ws acks = ack_item
item_of ws resets = plain_item
item_of ws urgents = plain_item
item_of ws resends = slot_item ws
item_of ws datas = slot_item ws

abbrev pub things_of : List ℕ → Lists → Sort → List ℕ
things_of ws l acks = acks_in ws
things_of ws l resets = l layout.resets
things_of ws l urgents = l layout.urgents
things_of ws l resends = l layout.resends
things_of ws l datas = l layout.datas

pub waiting_is : (ws : List ℕ) (l : Lists) (q : Sort) → waiting_for ws l q ≡ map (item_of ws q) (things_of ws l q)
unfolding waiting_for
waiting_is ws l acks = refl
waiting_is ws l resets = refl
waiting_is ws l urgents = refl
waiting_is ws l resends = refl
waiting_is ws l datas = refl

-- a sort by its rank: queue k is of rank suc k
sort_at : ℕ → Sort
sort_at zero = acks
sort_at (suc zero) = resets
sort_at (suc (suc zero)) = urgents
sort_at (suc (suc (suc zero))) = resends
sort_at (suc (suc (suc (suc k)))) = datas

sort_at_holds : (q : Sort) → sort_at (rank q) ≡ q
unfolding sort_at
sort_at_holds acks = refl
sort_at_holds resets = refl
sort_at_holds urgents = refl
sort_at_holds resends = refl
sort_at_holds datas = refl

pub queue_of : (ws : List ℕ) (l : Lists) (q : Sort) (k : ℕ) → rank q ≡ suc k → (k < 4) × (things_of ws l q ≡ l k)
queue_of ws l acks k h = absurd (omega arith)
queue_of ws l resets k h = let z : 0 ≡ k = omega arith in (omega arith, ap l z)
queue_of ws l urgents k h = let z : 1 ≡ k = omega arith in (omega arith, ap l z)
queue_of ws l resends k h = let z : 2 ≡ k = omega arith in (omega arith, ap l z)
queue_of ws l datas k h = let z : 3 ≡ k = omega arith in (omega arith, ap l z)

-- ---- numbers that stay

-- payloads that wait keep their numbers, where their windows stay
pub items_stay : (ws ws' xs : List ℕ)
    → ((x : ℕ) → Memᴰ x xs → (end_of ws' (owner_of x)).run.window ≡ (end_of ws (owner_of x)).run.window)
    → map (slot_item ws') xs ≡ map (slot_item ws) xs
items_stay ws ws' xs h = map_ext (slot_item ws') (slot_item ws) xs (λ x m. rw (h x m))

-- of entry i: its window stays, or nothing of it waits
pub record Steady (i : ℕ) (ws ws' : List ℕ) (l : Lists) : Type 0 where
  pub stays : (k : ℕ) → k < 4 → (x : ℕ) → Memᴰ x (l k) → owner_of x ≡ i → (end_of ws' i).run.window ≡ (end_of ws i).run.window

pub window_steady : {i : ℕ} {ws ws' : List ℕ} {l : Lists} → (end_of ws' i).run.window ≡ (end_of ws i).run.window → Steady i ws ws' l
window_steady e = record { stays = λ k h x m o. e }

pub silent_steady : {i : ℕ} {ws ws' : List ℕ} {l : Lists} → Silent l i [] → Steady i ws ws' l
silent_steady {i} {ws} {ws'} {l} s = record { stays = λ k h x m o. absurd (silent_out l i s x o k h m) }

-- of the others always
pub windows_other : (i : ℕ) (ws ws' : List ℕ) → Apart i ws ws' → (x : ℕ)
    → (owner_of x ≡ i → (end_of ws' i).run.window ≡ (end_of ws i).run.window)
    → (end_of ws' (owner_of x)).run.window ≡ (end_of ws (owner_of x)).run.window
windows_other i ws ws' a x h = sides (ℕ_discrete (owner_of x) i)
  where
    sides : Dec (owner_of x ≡ i) → (end_of ws' (owner_of x)).run.window ≡ (end_of ws (owner_of x)).run.window
    sides (yes e) = rw e (h e)
    sides (no d) = ap (λ (e : EndPoint). e.run.window) (a.others (owner_of x) d)

-- ---- a call on entry i

module _ {i : ℕ} {ws ws' : List ℕ} {l : Lists} (a : Apart i ws ws') (stay : Steady i ws ws' l) where
  slots_same : (k : ℕ) → k < 4 → map (slot_item ws') (l k) ≡ map (slot_item ws) (l k)
  slots_same k h = items_stay ws ws' (l k) (λ x m. windows_other i ws ws' a x (stay.stays k h x m))

  items_same : (q : Sort) → map (item_of ws' q) (things_of ws l q) ≡ map (item_of ws q) (things_of ws l q)
  items_same acks = refl
  items_same resets = refl
  items_same urgents = refl
  items_same resends = slots_same 2 (omega arith)
  items_same datas = slots_same 3 (omega arith)

module _ {i : ℕ} {ws ws' : List ℕ} {l l' : Lists} (a : Apart i ws ws') (stay : Steady i ws ws' l) where
  things_same : (q : Sort) → (rank q ≡ 0 → acks_in ws' ≡ acks_in ws) → ((k : ℕ) → k < 4 → rank q ≡ suc k → l' k ≡ l k)
      → things_of ws' l' q ≡ things_of ws l q
  things_same acks e h = e refl
  things_same resets e h = h 0 (omega arith) refl
  things_same urgents e h = h 1 (omega arith) refl
  things_same resends e h = h 2 (omega arith) refl
  things_same datas e h = h 3 (omega arith) refl

  same_at : (q : Sort) → (rank q ≡ 0 → acks_in ws' ≡ acks_in ws) → ((k : ℕ) → k < 4 → rank q ≡ suc k → l' k ≡ l k)
      → waiting_for ws' l' q ≡ waiting_for ws l q
  same_at q e h = waiting_is ws' l' q ∙ ap (map (item_of ws' q)) (things_same q e h) ∙ items_same a stay q ∙ sym (waiting_is ws l q)

  -- nothing alters
  pub waits_same : acks_in ws' ≡ acks_in ws → ((k : ℕ) → k < 4 → l' k ≡ l k) → (q : Sort) → waiting_for ws' l' q ≡ waiting_for ws l q
  waits_same e h q = same_at q (λ z. e) (λ k hk z. h k hk)

  -- one sort alters, as f says
  pub waits_only : (q : Sort) (f : List Item → List Item) → map (item_of ws' q) (things_of ws' l' q) ≡ f (map (item_of ws q) (things_of ws l q))
      → (rank q ≢ 0 → acks_in ws' ≡ acks_in ws) → ((k : ℕ) → k < 4 → rank q ≢ suc k → l' k ≡ l k)
      → (r : Sort) → waiting_for ws' l' r ≡ only q f r (waiting_for ws l r)
  waits_only q f here e h r = sides (ℕ_discrete (rank r) (rank q))
    where
      sides : Dec (rank r ≡ rank q) → waiting_for ws' l' r ≡ only q f r (waiting_for ws l r)
      sides (yes z) =
          subst (λ (r : Sort). waiting_for ws' l' r ≡ only q f r (waiting_for ws l r)) (sym (sort_at_holds q) ∙ ap sort_at (sym z) ∙ sort_at_holds r)
          (waiting_is ws' l' q ∙ here ∙ ap f (sym (waiting_is ws l q)) ∙ sym (rw (eq-eqb (rank q) (rank q) refl)))
      sides (no d) = rw (ne_eqb (rank r) (rank q) d) (same_at r (λ z. e (λ y. d (z ∙ sym y))) (λ k hk z. h k hk (λ y. d (z ∙ sym y))))

  module _ (q : Sort) (k : ℕ) (is : rank q ≡ suc k) (e : acks_in ws' ≡ acks_in ws) where
    -- more wait, at the end of queue k
    pub waits_joined : (xs : List ℕ) (ys : List Item) → map (item_of ws' q) xs ≡ ys
        → ((r : ℕ) → r < 4 → l' r ≡ pick (eqb r k) (l r ++ xs) (l r))
        → (r : Sort) → waiting_for ws' l' r ≡ only q (λ zs. zs ++ ys) r (waiting_for ws l r)
    waits_joined xs ys new lists =
        let o = queue_of ws l q k is in
        let g : things_of ws' l' q ≡ things_of ws l q ++ xs = (queue_of ws' l' q k is).1 ∙ lists k o.0 ∙ rw (eq-eqb k k refl, o.1) in
        waits_only q (λ zs. zs ++ ys)
        (ap (map (item_of ws' q)) g ∙ map-append (item_of ws' q) (things_of ws l q) xs ∙ rw (items_same a stay q, new))
        (λ z. e) (λ r hr d. lists r hr ∙ rw (ne_eqb r k (λ z. d (is ∙ ap suc (sym z)))))

    -- the first of queue k waits no more
    pub waits_less : {b : List ℕ} → Lines b l → (x : ℕ) → First x (l k) → ((r : ℕ) → r < 4 → l' r ≡ less l x r)
        → (r : Sort) → waiting_for ws' l' r ≡ only q (drop 1) r (waiting_for ws l r)
    waits_less {b} L x f lists =
        let o = queue_of ws l q k is in
        let d : Distinct (x ∷ f.rest) = subst Distinct f.parts (L.queue k o.0).distinct.1 in
        let g : less l x k ≡ f.rest = ap (members.without x) f.parts ∙ rw (eq-eqb x x refl) (without_out x f.rest d.0) in
        waits_only q (drop 1)
        (ap (map (item_of ws' q)) ((queue_of ws' l' q k is).1 ∙ lists k o.0 ∙ g)
        ∙ sym (ap (λ (xs : List Item). drop 1 xs) (sym (items_same a stay q) ∙ ap (map (item_of ws' q)) (o.1 ∙ f.parts))))
        (λ z. e) (λ r hr n. lists r hr ∙ gone_other b l L k x o.0 (first_in x (l k) f) r hr (λ z. n (is ∙ ap suc (sym z))))

-- ---- by what the call leaves

-- a book holds one list a queue
pub lists_are : {b b' : List ℕ} {l l' : Lists} → b ≡ b' → Lines b l → Lines b' l' → (q : ℕ) → q < 4 → l q ≡ l' q
lists_are {b} {b'} {l} {l'} e L L' q h = queue_same b q (l q) (l' q) (L.queue q h) (rw e (L'.queue q h))

module _ {t : List ℕ} {n m : Memory} {l : Lists} {i : ℕ} (k : Leaves t n m l i) (stay : Steady i n.node m.node l)
    (acks_stay : acks_in m.node ≡ acks_in n.node) where
  -- the same, in a book b that holds the same
  pub waits_still : {b : List ℕ} → m.book ≡ b → Lines b l → (q : Sort) → waiting_for m.node k.lists q ≡ waiting_for n.node l q
  waits_still e L = waits_same k.apart stay acks_stay (lists_are e k.good.lines L)

  -- more, the last of sort q
  pub waits_more : (q : Sort) (j : ℕ) → rank q ≡ suc j → {b : List ℕ} → m.book ≡ b → (xs : List ℕ)
      → Lines b (λ r. pick (eqb r j) (l r ++ xs) (l r))
      → {ys : List Item} → map (item_of m.node q) xs ≡ ys
      → (r : Sort) → waiting_for m.node k.lists r ≡ only q (λ zs. zs ++ ys) r (waiting_for n.node l r)
  waits_more q j is e xs L {ys} new = waits_joined k.apart stay q j is acks_stay xs ys new (lists_are e k.good.lines L)

-- a Reset of an entry of which nothing waited
pub waits_reset : {t : List ℕ} {n m : Memory} {l : Lists} {i : ℕ} (k : Leaves t n m l i) → Lines n.book l → i < 16 → Silent l i []
    → acks_in m.node ≡ acks_in n.node → m.book ≡ appended n.book layout.resets (layout.reset_id i)
    → (r : Sort) → waiting_for m.node k.lists r ≡ (waits resets i 0 (stands_for t n l)).waiting r
waits_reset {n = n} {l = l} {i = i} k L low s e b =
    waits_more k (silent_steady s) e resets 0 refl b (layout.reset_id i ∷ []) (reset_within n.book l L i low s).lines
    (rw (reset_owner i low))

-- ---- lists without what a test names

-- in node and book a thing goes by the test p, in the machine by a test that says the same of what it stands for
pub without_map : (g : List ℕ → List ℕ) (p : ℕ → Bool) (test : Item → Bool) (f : ℕ → Item) → g [] ≡ []
    → ((x : ℕ) (xs : List ℕ) → g (x ∷ xs) ≡ pick (p x) (g xs) (x ∷ g xs)) → (xs : List ℕ) → ((x : ℕ) → Memᴰ x xs → test (f x) ≡ p x)
    → map f (g xs) ≡ without test (map f xs)
unfolding without
without_map g p test f none more [] h = ap (map f) none
without_map g p test f none more (x ∷ xs) h =
    rw (more x xs, h x (Memᴰ.head refl)) (sides (without_map g p test f none more xs (λ y m. h y (Memᴰ.tail m))) (p x))
  where
    sides : map f (g xs) ≡ without test (map f xs) → (z : Bool)
        → map f (pick z (g xs) (x ∷ g xs)) ≡ pick z (without test (map f xs)) (f x ∷ without test (map f xs))
    sides below true = below
    sides below false = ap (λ (l : List Item). f x ∷ l) below

abbrev of_entry : ℕ → Item → Bool
of_entry i x = eqb x.entry i

rest_map : (i : ℕ) (f : ℕ → Item) → ((x : ℕ) → (f x).entry ≡ owner_of x) → (xs : List ℕ) → map f (rest i xs) ≡ without (of_entry i) (map f xs)
rest_map i f own xs =
    without_map (rest i) (λ x. eqb (owner_of x) i) (of_entry i) f refl (λ x xs. refl) xs (λ x m. ap (λ (y : ℕ). eqb y i) (own x))

pub not_map : (i : ℕ) (xs : List ℕ) → map ack_item (not_of i xs) ≡ without (of_entry i) (map ack_item xs)
not_map i xs = without_map (not_of i) (λ x. eqb (x / 256 % 256) i) (of_entry i) ack_item refl (λ x xs. refl) xs (λ x m. refl)

-- ---- a sender has no acknowledgements waiting

not_all : (i : ℕ) (xs : List ℕ) → ((w : ℕ) → Memᴰ w xs → w / 256 % 256 ≢ i) → not_of i xs ≡ xs
not_all i [] h = refl
not_all i (x ∷ xs) h =
    rw (ne_eqb (x / 256 % 256) i (h x (Memᴰ.head refl))) (ap (λ (l : List ℕ). x ∷ l) (not_all i xs (λ y m. h y (Memᴰ.tail m))))

pub sender_acks : {t ws b : List ℕ} {l : Lists} → Good t ws b l → (i : ℕ) → is_sends (end_of ws i).entry.kind ≡ true
    → not_of i (acks_in ws) ≡ acks_in ws
sender_acks {t} {ws} {b} {l} g i k =
    not_all i (acks_in ws)
    (λ w m. λ c.
    let o = g.owed w m in
    let z : w / 256 ≡ i = omega (arith, o.known, count_low t ws b l g) in
    true≢false (sym k ∙ subst (λ (j : ℕ). is_sends (end_of ws j).entry.kind ≡ false) z o.receives))

-- ---- what waits, where nothing of entry i does any more

module _ (i : ℕ) (ws ws' b b' : List ℕ) (l l' : Lists) (a : Apart i ws ws') (v : Within i b b' l l')
    (none : (q : ℕ) → q < 4 → mine i (l' q) ≡ []) where
  rest_is : (q : ℕ) → q < 4 → l' q ≡ rest i (l q)
  rest_is q h = sym (rest_all i (l' q) (none q h)) ∙ v.order q h

  plain : (q : ℕ) → q < 4 → map plain_item (l' q) ≡ without (of_entry i) (map plain_item (l q))
  plain q h = ap (map plain_item) (rest_is q h) ∙ rest_map i plain_item (λ x. refl) (l q)

  slotted : (q : ℕ) → q < 4 → map (slot_item ws') (l' q) ≡ without (of_entry i) (map (slot_item ws) (l q))
  slotted q h =
      ap (map (slot_item ws')) (rest_is q h)
      ∙ items_stay ws ws' (rest i (l q)) (λ x m. windows_other i ws ws' a x (λ o. absurd ((rest_in i x (l q) m).1 o)))
      ∙ rest_map i (slot_item ws) (λ x. refl) (l q)

  -- and of the acknowledgements as f says
  pub silent_then : (f : List Item → List Item) → map ack_item (acks_in ws') ≡ f (without (of_entry i) (map ack_item (acks_in ws)))
      → (q : Sort) → waiting_for ws' l' q ≡ only acks f q (without (of_entry i) (waiting_for ws l q))
  unfolding waiting_for
  silent_then f e acks = e
  silent_then f e resets = plain 0 (omega arith)
  silent_then f e urgents = plain 1 (omega arith)
  silent_then f e resends = slotted 2 (omega arith)
  silent_then f e datas = slotted 3 (omega arith)

  pub silent_waits : acks_in ws' ≡ not_of i (acks_in ws) → (q : Sort) → waiting_for ws' l' q ≡ without (of_entry i) (waiting_for ws l q)
  silent_waits e q = silent_then (λ xs. xs) (ap (map ack_item) e ∙ not_map i (acks_in ws)) q ∙ either (eqb (rank q) 0)
    where
      either : (z : Bool) → pick z (without (of_entry i) (waiting_for ws l q)) (without (of_entry i) (waiting_for ws l q))
          ≡ without (of_entry i) (waiting_for ws l q)
      either true = refl
      either false = refl

-- ---- the node then

pub silent_stands : {t : List ℕ} {n : Memory} {l : Lists} (g : Good t n.node n.book l) → store_of t ≤ length n.store
    → {i : ℕ} → i < count_in n.node → {m : Memory} (k : Leaves t n m l i) → ((q : ℕ) → q < 4 → mine i (k.lists q) ≡ [])
    → acks_in m.node ≡ not_of i (acks_in n.node) → {E : End} → end_at m i ≡ E → Stands t m (silent i (turned i E (stands_for t n l)))
silent_stands {n = n} {l = l} g room {i} li {m} k gone left here =
    turned_stands g room li k here
    (silent_waits i n.node m.node n.book m.book l k.lists k.apart k.within gone left)
