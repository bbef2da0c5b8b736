-- The promise is kept, of two machines and of two nodes: every call on the sender's machine is a step of the sending
-- end point, every call on the receiver's one of the receiving end point, so what holds of one channel holds of the
-- two; and a node does what the machine does that it stands for. Assumes nothing.
use Prim.Native.Nat.{ℕ, ◌-◌, ◌<◌}
use mathlib.Core.Path.{◌≡◌, refl, sym, ap, subst, ◌∙◌}
use mathlib.Core.Bool.{Bool, true, false}
use mathlib.Core.Option.{some, some-injective}
use mathlib.Core.List.{List, [], ◌∷◌, ◌++◌, map}
use native.Mathlib.Omega.{arith}
use lib.ListN.{length, take, replicate, get_elem?, length-append, length-replicate}
use lib.Seq.{length-take-le, take_at}
use Rattle.units.specs.Sizes.{is_size}
use Rattle.memory.specs.Layout.{node_words, book_halves}
use Rattle.waiting.specs.Order.{acks_in}
use Rattle.table.specs.Layout.{count_of, entry_of}
use Rattle.table.specs.Areas.{store_of}
use Rattle.table.specs.declared.Entry.{Entry}
use Rattle.table.specs.declared.Kind.TheVariants.{Sends, Receives}
use Rattle.table.proofs.Good.{good_entry}
use Rattle.end_points.specs.Lent.{Lent}
use Rattle.end_points.specs.declared.State.{State}
use Rattle.end_points.specs.declared.State.TheVariants.{Closed, Enabled, Open, Failing}
use Rattle.end_points.specs.Ends.{end_of}
use Rattle.end_points.specs.States.{is_sends}
use Rattle.call_open.specs.Setup.{setup_after}
use Rattle.good.specs.Calls.{Memory, kept, answer, after, relent}
use Rattle.good.specs.Calls as nodes
use Rattle.machine.specs.Calls.{Call, opens, closes, counts, sends, urges, plans, arrives, hands_out, reports, ticks, Fed}
use Rattle.machine.specs.Machine.{Number, End, Machine, lending, first, begun, step, SetUp}
use Rattle.machine.specs.Sound.{Sound}
use Rattle.refinement.specs.Standing.{Reading, stands_for, state_for, read_at, end_for, end_at, ack_item, waiting_for, Stands, Follows, SetupAnswers, Begins, Refines, Relends, StandsSound}
use Rattle.machine.proofs.Listed.{elem_listed}
use Rattle.refinement.proofs.SetupStands.{setup_answers, begins}
use Rattle.refinement.proofs.Refining.{refines, restored}
use Rattle.refinement.proofs.Relending.{relends}
use Rattle.refinement.proofs.Sounding.{stands_sound}
use Rattle.promise.specs.Promise.{Demand3}
use Rattle.promise.specs.Seen.{Event, s_state_of}
use Rattle.promise.specs.Link.{Did, Lends, sender, receiver, owed_to, Promise}
use Rattle.promise.specs.Nodes as nodal
use Rattle.promise.specs.Nodes.{owed_in, NodesPromise}
use Rattle.promise.proofs.Channel.{Recv}
use Rattle.promise.proofs.Laws.{SLaws, RLaws, s_viewed}
use Rattle.promise.proofs.Lifting.{demand_3_nodes}
use Rattle.promise.proofs.Entries.{entry_is, receiver_runs}
use Rattle.promise.proofs.Watched.{Watch, owed, Step}
use Rattle.promise.proofs.SenderCalls.{s_watch, SStep, s_opens, s_closes, s_sends, s_urges, s_counts, s_reports}
use Rattle.promise.proofs.SenderPlans.{s_plans}
use Rattle.promise.proofs.SenderArrives.{s_arrives}
use Rattle.promise.proofs.SenderHands.{s_hands}
use Rattle.promise.proofs.SenderTicks.{s_ticks}
use Rattle.promise.proofs.ReceiverCalls.{r_watch, RStep, r_opens, r_closes_it, r_sends, r_urges, r_plans, r_counts, r_reports}
use Rattle.promise.proofs.ReceiverArrives.{r_arrives}
use Rattle.promise.proofs.ReceiverHands.{r_hands}
use Rattle.promise.proofs.ReceiverTicks.{r_ticks}
use Rattle.std.specs.Prelude.{Ok}

-- ---- every call is a step

module _ (t : List ℕ) (m : Machine) (S : Sound t m) (i : ℕ) (e : End) (there : get_elem? m.ends i ≡ some e) where
  s_step : is_sends e.entry.kind ≡ true → (c : Call) → SStep t m i e c (step m c)
  s_step k (opens j) = s_opens t m S i e there j
  s_step k (closes j) = s_closes t m S i e there j
  s_step k (counts j) = s_counts t m S i e there j
  s_step k (sends j p) = s_sends t m S i e there j p
  s_step k (urges j p) = s_urges t m S i e there j p
  s_step k (plans j block) = s_plans t m S i e there j block
  s_step k (arrives block f) = s_arrives t m S i e there k block f
  s_step k (hands_out buffer) = s_hands t m S i e there k buffer
  s_step k reports = s_reports t m S i e there
  s_step k ticks = s_ticks t m i e there

  r_step : is_sends e.entry.kind ≡ false → (c : Call) → RStep t m i e c (step m c)
  r_step k (opens j) = r_opens t m S i e there k j
  r_step k (closes j) = r_closes_it t m S i e there k j
  r_step k (counts j) = r_counts t m S i e there k j
  r_step k (sends j p) = r_sends t m S i e there k j p
  r_step k (urges j p) = r_urges t m S i e there k j p
  r_step k (plans j block) = r_plans t m S i e there k j block
  r_step k (arrives block f) = r_arrives t m S i e there k block f
  r_step k (hands_out buffer) = r_hands t m S i e there k buffer
  r_step k reports = r_reports t m S i e there k
  r_step k ticks = r_ticks t m i e there (receiver_runs t m S i e there k)

-- ---- a machine, the node that stands for it, and the end point that its entry i is

pub record At (t : List ℕ) (i : ℕ) (n : Memory) (m : Machine) : Type 0 where
  pub stands : Stands t n m
  pub end : End
  pub there : get_elem? m.ends i ≡ some end

module _ (t : List ℕ) (i : ℕ) (n : Memory) (m : Machine) (v : At t i n m) where
  sound : Sound t m
  unfolding StandsSound
  sound = stands_sound t n m v.stands

  follows : (c : Call) → Fed c → Follows t n m c
  unfolding Refines
  follows c f = refines t n m v.stands c f

-- ---- what setup gives

-- a node's: entry i of the machine begun is as setup makes it
set_up : (t : List ℕ) (i : ℕ) → i < count_of t → (n : Memory) → nodes.SetUp t n → At t i n (begun t (length n.store))
unfolding Begins begun
set_up t i h n u =
    record {
      stands = begins t n u;
      end = first (entry_of t i);
      there = elem_listed (count_of t) (λ k. first (entry_of t k)) i h;
    }

-- a machine's: the node that setup makes of zeros stands for it
zeros : ℕ → Lent
zeros room = record { node = replicate node_words 0; book = replicate book_halves 0; store = replicate room 0; out = [] }

zeros_up : (t : List ℕ) (m : Machine) → (u : SetUp t m) → nodes.SetUp t (kept (setup_after (zeros u.room) t (Ok tt)))
unfolding SetupAnswers zeros
zeros_up t m u =
    record {
      before = zeros u.room;
      node = length-replicate {A = ℕ} node_words 0;
      book = length-replicate {A = ℕ} book_halves 0;
      bytes = u.bytes;
      passed = setup_answers (zeros u.room) t ∙ rw (length-replicate {A = ℕ} u.room 0) u.passed;
      is = refl;
    }

begun_up : (t : List ℕ) (i : ℕ) → i < count_of t → (m : Machine) → SetUp t m → (n : Memory) × At t i n m
unfolding setup_after zeros
begun_up t i h m u =
    let n = kept (setup_after (zeros u.room) t (Ok tt)) in
    let is = ap (begun t) (length-replicate {A = ℕ} u.room 0) ∙ sym u.is in
    (n, subst (At t i n) is (set_up t i h n (zeros_up t m u)))

-- ---- so a watched entry is seen after a call as its end point's next step has it

module _ (K : Watch) (t : List ℕ) (i : ℕ) (h : i < count_of t)
    (steps : (m : Machine) → Sound t m → (e : End) → get_elem? m.ends i ≡ some e
    → is_sends e.entry.kind ≡ is_sends (entry_of t i).kind → (c : Call) → Step K i m e c (step m c)) where
  -- seen as v
  abbrev Sees : Memory → Machine → K.View → Type 0
  Sees n m v = (x : At t i n m) × (v ≡ K.view x.end (owed i m))

  law : (n : Memory) (m : Machine) (v : K.View) (c : Call) → Fed c → Sees n m v
      → (z : K.View) × K.Next v (K.seen c (step m c).answer) z × Sees (after n c) (step m c).machine z
  law n m v c f (x, q) =
      let S = sound t i n m x in
      let kind = ap (λ (y : Entry). is_sends y.kind) (entry_is t m S i x.end x.there) in
      let y = steps m S x.end x.there kind c in
      let z = K.view y.end (owed i (step m c).machine) in (
        z,
        subst (λ (w : K.View). K.Next w (K.seen c (step m c).answer) z) (sym q) y.next,
        (record { stands = (follows t i n m x c f).stands; end = y.end; there = y.there }, refl),
      )

  -- of machines, each with a node that stands for it
  abbrev SeesM : Machine → K.View → Type 0
  SeesM m v = (n : Memory) × Sees n m v

  first_machine : (m : Machine) → SetUp t m → (v : K.View) × SeesM m v
  first_machine m u = let x = begun_up t i h m u in (K.view x.1.end (owed i m), (x.0, (x.1, refl)))

  machine_law : (m m' : Machine) (e : Event) (v : K.View) → SeesM m v → Did m e m'
      → (z : K.View) × K.Next v (K.seen e.call e.answer) z × SeesM m' z
  machine_law m m' e v (n, s) d =
      let x = law n m v e.call d.fed s in
      (x.0, rw d.answered x.1, (after n e.call, rw d.left x.2))

  -- with another store of so many bytes it is seen as before: a node whose store has the same payloads stands for it
  machine_lends : (m m' : Machine) (v : K.View) → SeesM m v → Lends t m m' → (z : K.View) × SeesM m' z
  unfolding Relends
  machine_lends m m' v (n, s) d =
      let S = s.0.stands in
      let bytes = take (store_of t) n.store in
      let store = bytes ++ replicate (d.room - store_of t) 0 in
      let part : length bytes ≡ store_of t = length-take-le (store_of t) n.store S.room in
      let size : length store ≡ d.room =
      length-append bytes (replicate (d.room - store_of t) 0)
      ∙ (let r = length-replicate {A = ℕ} (d.room - store_of t) 0 in omega (arith, part, r, d.long)) in
      let alike : take (store_of t) store ≡ bytes = take_at bytes (replicate (d.room - store_of t) 0) (store_of t) part in
      let o = relent store n in
      let k = lending (length store) m in
      let is : k ≡ m' = ap (λ (r : ℕ). lending r m) size ∙ sym d.is in
      let x : At t i o k =
      record { stands = relends t n m S store (rw size d.long) alike; end = s.0.end; there = s.0.there } in
      let z = K.view x.end (owed i k) in
      (z, subst (λ (y : Machine). SeesM y z) is (o, (x, refl)))

  -- and of nodes, each with the machine that it stands for
  abbrev SeesN : Memory → K.View → Type 0
  SeesN n v = (m : Machine) × Sees n m v

  first_node : (n : Memory) → nodes.SetUp t n → (v : K.View) × SeesN n v
  first_node n u =
      let m = begun t (length n.store) in
      let x = set_up t i h n u in (K.view x.end (owed i m), (m, (x, refl)))

  node_law : (n n' : Memory) (e : Event) (v : K.View) → SeesN n v → nodal.Did n e n'
      → (z : K.View) × K.Next v (K.seen e.call e.answer) z × SeesN n' z
  node_law n n' e v (m, s) d =
      let x = law n m v e.call d.fed s in
      let a = d.answered ∙ (follows t i n m s.0 e.call d.fed).answers in
      (x.0, rw a x.1, ((step m e.call).machine, rw d.left x.2))

  -- with another store it is seen as before, but for its payloads
  node_lends : (n n' : Memory) (v : K.View) → SeesN n v → nodal.Lends t n n' → (z : K.View) × SeesN n' z
  node_lends n n' v (m, s) d =
      let S = s.0.stands in
      let o = relent d.store n in
      let x : At t i o (stands_for t o S.lists) =
      record {
        stands = restored t n m S d.store d.long;
        end = end_at o i;
        there = elem_listed (count_of t) (end_at o) i h;
      } in
      let k = stands_for t o S.lists in
      let z = K.view (end_at o i) (owed i k) in
      (z, subst (λ (y : Memory). SeesN y z) (sym d.is) (k, (x, refl)))

-- ---- the sender's side

module _ (t : List ℕ) (i : ℕ) (h : i < count_of t) (k : (entry_of t i).kind ≡ Sends) where
  abbrev W : ℕ
  W = (entry_of t i).window

  s_steps : (m : Machine) → Sound t m → (e : End) → get_elem? m.ends i ≡ some e
      → is_sends e.entry.kind ≡ is_sends (entry_of t i).kind → (c : Call) → SStep t m i e c (step m c)
  s_steps m S e there q = s_step t m S i e there (q ∙ ap is_sends k)

  machine_sends : SLaws W (sender t i)
  machine_sends =
      record {
        Views = SeesM (s_watch t i) t i h s_steps;
        first = first_machine (s_watch t i) t i h s_steps;
        agrees = λ m s v. rw (v.1.0.there, v.1.1) (refl, refl, refl);
        lends = machine_lends (s_watch t i) t i h s_steps;
        law = machine_law (s_watch t i) t i h s_steps;
      }

  -- of a node that stands for the machine
  end_there : (n : Memory) (m : Machine) (v : At t i n m) → v.end ≡ end_at n i
  end_there n m v =
      some-injective _ _ (sym v.there ∙ ap (λ (y : Machine). get_elem? y.ends i) (sym v.stands.is)
      ∙ elem_listed (count_of t) (end_at n) i h)

  -- a Reset's timer and how many of a Failing end's run are no part of what is seen
  seen_for : (L : Reading) (under : Bool) (ns : List Number) (s : State)
      → s_state_of (state_for L under ns s) ≡ s_state_of s
  seen_for L under ns Closed = refl
  seen_for L under ns (Enabled d sent) = refl
  seen_for L under ns Open = refl
  seen_for L under ns (Failing n) = refl

  node_sends : SLaws W (nodal.sender t i)
  unfolding end_for
  node_sends =
      record {
        Views = SeesN (s_watch t i) t i h s_steps;
        first = first_node (s_watch t i) t i h s_steps;
        agrees = λ n s v.
            rw (v.1.1, end_there n v.0 v.1.0)
            (seen_for (read_at n) _ _ (end_of n.node i).state, refl, refl);
        lends = node_lends (s_watch t i) t i h s_steps;
        law = node_law (s_watch t i) t i h s_steps;
      }

-- ---- the receiver's side

owed_items : (j : ℕ) (ws : List ℕ) → owed_to j (map ack_item ws) ≡ owed_in j ws
owed_items j [] = refl
owed_items j (w ∷ ws) = rw (owed_items j ws)

module _ (u : List ℕ) (j : ℕ) (h : j < count_of u) (k : (entry_of u j).kind ≡ Receives) where
  r_steps : (m : Machine) → Sound u m → (e : End) → get_elem? m.ends j ≡ some e
      → is_sends e.entry.kind ≡ is_sends (entry_of u j).kind → (c : Call) → RStep u m j e c (step m c)
  r_steps m S e there q = r_step u m S j e there (q ∙ ap is_sends k)

  machine_receives : RLaws (entry_of u j).window (receiver u j)
  machine_receives =
      record {
        Views = SeesM (r_watch u j) u j h r_steps;
        first = first_machine (r_watch u j) u j h r_steps;
        agrees = λ m r v. ap (λ (y : Recv). y.waiting) v.1.1;
        lends = machine_lends (r_watch u j) u j h r_steps;
        law = machine_law (r_watch u j) u j h r_steps;
      }

  node_receives : RLaws (entry_of u j).window (nodal.receiver u j)
  unfolding waiting_for
  node_receives =
      record {
        Views = SeesN (r_watch u j) u j h r_steps;
        first = first_node (r_watch u j) u j h r_steps;
        agrees = λ n r v.
            ap (λ (y : Recv). y.waiting) v.1.1 ∙ ap (owed j) (sym v.1.0.stands.is)
            ∙ owed_items j (acks_in n.node);
        lends = node_lends (r_watch u j) u j h r_steps;
        law = node_law (r_watch u j) u j h r_steps;
      }

-- ---- the promise

-- the sender's window is one of the sizes that a table may have
sized : (t : List ℕ) (i : ℕ) → i < count_of t → (n : Memory) (m : Machine) → At t i n m
    → is_size (entry_of t i).window ≡ true
sized t i h n m v = (good_entry t (sound t i n m v).table i h).window

pub promise : Promise
unfolding Promise Demand3 machine_sends
promise t i u j p a b delivered ra rb =
    let L = machine_sends t i p.known p.kind in
    let v = (s_viewed (entry_of t i).window (sender t i) L a ra).1 in
    let M = subst (λ (k : ℕ). RLaws k (receiver u j)) (sym p.window) (machine_receives u j p.known' p.kind') in
    demand_3_nodes (entry_of t i).window (sized t i p.known v.0 a v.1.0) (sender t i) (receiver u j) L M
    a b delivered ra rb

pub nodes_promise : NodesPromise
unfolding NodesPromise Demand3 node_sends
nodes_promise t i u j p a b delivered ra rb =
    let L = node_sends t i p.known p.kind in
    let v = (s_viewed (entry_of t i).window (nodal.sender t i) L a ra).1 in
    let N = node_receives u j p.known' p.kind' in
    let M = subst (λ (k : ℕ). RLaws k (nodal.receiver u j)) (sym p.window) N in
    demand_3_nodes (entry_of t i).window (sized t i p.known a v.0 v.1.0) (nodal.sender t i)
    (nodal.receiver u j) L M a b delivered ra rb
