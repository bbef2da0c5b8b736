-- An arrival is the machine's: the same tests, the same entry, and what each frame comes to there. Assumes nothing.
use Prim.Native.Nat.{ℕ, zero, suc, ◌≤◌, ◌<◌}
use mathlib.Core.Path.{◌≡◌, refl, sym, ap, ◌∙◌}
use mathlib.Core.Bool.{Bool, true, false, not, ◌&&◌, true≢false}
use mathlib.Core.List.{List, [], ◌∷◌}
use native.Mathlib.Decide.{dec_lt}
use native.Mathlib.Omega.{arith}
use lib.ListN.{length, get_or, length-map}
use lib.Dec.{ltb}
use borrow.Author.Tests.{lt-leb, le-leb, lt-ltb, le-ltb, not-false, ltb-false, leb-false}
use Rattle.units.specs.Refusals.{pick, verdict, Verdict}
use Rattle.units.specs.declared.Address.{Address}
use Rattle.units.specs.declared.refusals.Refusal.{Refusal}
use Rattle.units.specs.declared.refusals.Refusal.TheVariants as refusal
use Rattle.units.proofs.Judging.{clear}
use Rattle.waiting.specs.Acks.{place_of as oldest_place, waiting_of}
use Rattle.waiting.specs.Order.{acks_in}
use Rattle.waiting.proofs.Ringed.{from_length}
use Rattle.table.specs.Layout.{count_of}
use Rattle.table.specs.Areas.{store_of}
use Rattle.frame.specs.Faults.{refused_of}
use Rattle.frame.specs.Layout.{payload_of}
use Rattle.frame.specs.Reading.{sound_of, header_of, read_of}
use Rattle.frame.specs.declared.Header.{Header}
use Rattle.frame.specs.declared.FrameType.{FrameType}
use Rattle.frame.specs.declared.FrameType.TheVariants as type
use Rattle.frame.specs.Types.{for_sender, carries, answered}
use Rattle.frame.proofs.ReadLaws.{whole_read}
use Rattle.end_points.specs.Ends.{load_entry, end_of}
use Rattle.end_points.specs.Heads.{count_in}
use Rattle.end_points.specs.States.{is_sends, is_open}
use Rattle.end_points.specs.Lent.{Lent}
use Rattle.end_points.specs.declared.State.TheVariants.{Open}
use Rattle.end_points.specs.declared.EndPoint.{EndPoint}
use Rattle.arrive_lookup.specs.Lookup.{first_from, entry_for}
use Rattle.arrive_lookup.specs.Fitting.{fits}
use Rattle.arrive_lookup.proofs.First.{first_is}
use Rattle.arrive_lookup.proofs.Found.{found_fits}
use Rattle.call_arrive.specs.Arriving as memory
use Rattle.call_arrive.specs.Arriving.{entry_verdict, taken_in_answer, taken_in_after, answer_as, after_as, entry_answer, entry_after}
use Rattle.call_arrive.specs.Arriving.{read_answer, read_after, frame_tests, arrival_answer, arrival_after}
use Rattle.good.specs.Good.{Lists, Good}
use Rattle.good.specs.Calls.{Memory, lent, answer, after}
use Rattle.machine.specs.Calls.{arrives, Bytes}
use Rattle.good.proofs.Framing.{count_low}
use Rattle.good.proofs.Arrivals.{payload_size, header_byte}
use Rattle.good.proofs.NoCorners.{no_corner}
use Rattle.machine.specs.Machine as machine
use Rattle.machine.specs.Machine.{End, acks, Machine, Outcome, answers, judged, found, place_of, reading, arriving, taken_in, step}
use Rattle.refinement.specs.Standing.{read_at, end_for, end_at, ack_item, waiting_for, stands_for, Follows}
use Rattle.machine.proofs.Listed.{length_listed, get_d_listed, elem_listed, elem_none}
use Rattle.refinement.proofs.Following.{closed_for, open_for, size_is}
use Rattle.refinement.proofs.AckStands.{Takes, ack_takes}
use Rattle.refinement.proofs.ReceiveStands.{urgent_takes, reset_takes, data_takes}
use Rattle.std.specs.Prelude.{Result, Ok, Err}
use Rattle.end_points.specs.declared.answers.Arrival.{Arrival}
use Rattle.end_points.proofs.Telling.{is_open_holds}

-- ---- the first that fits

module _ (test : End → Bool) (d : End) where
  place_before : (es : List End) (j : ℕ) → j < place_of test es → test (get_or es j d) ≡ false
  unfolding place_of
  place_before [] j h = absurd (omega arith)
  place_before (e ∷ es) j h = sides (place_before es) (test e) refl j h
    where
      sides : ((j : ℕ) → j < place_of test es → test (get_or es j d) ≡ false) → (z : Bool) → test e ≡ z → (j : ℕ)
          → j < pick z 0 (suc (place_of test es)) → test (get_or (e ∷ es) j d) ≡ false
      sides below true z j h = absurd (omega arith)
      sides below false z zero h = z
      sides below false z (suc j) h = below j (omega arith)

  place_holds : (es : List End) → place_of test es < length es → test (get_or es (place_of test es) d) ≡ true
  unfolding place_of
  place_holds [] h = absurd (omega arith)
  place_holds (e ∷ es) h = sides (place_holds es) (test e) refl h
    where
      sides : (place_of test es < length es → test (get_or es (place_of test es) d) ≡ true) → (z : Bool) → test e ≡ z
          → pick z 0 (suc (place_of test es)) < suc (length es)
          → test (get_or (e ∷ es) (pick z 0 (suc (place_of test es))) d) ≡ true
      sides below true z h = z
      sides below false z h = below (omega arith)

module _ (t : List ℕ) (n : Memory) (l : Lists) (g : Good t n.node n.book l) (room : store_of t ≤ length n.store)
    (block : List ℕ) where
  abbrev M : Machine
  M = stands_for t n l

  abbrev x : Lent
  x = lent n block

  count_is : count_in n.node ≡ count_of t
  count_is = g.tabled.count

  -- ---- the entry that a frame is for

  module _ (h : Header) where
    abbrev test : End → Bool
    test e = fits e.entry (for_sender h.kind) h.source.0 h.channel.0

    abbrev j : ℕ
    j = machine.entry_for M h

    abbrev i : ℕ
    i = memory.entry_of x h

    abbrev fitting : ℕ → Bool
    fitting k = ltb k (count_in n.node) && fits (load_entry n.node k) (for_sender h.kind) h.source.0 h.channel.0

    first : i ≡ first_from fitting 0 16
    first = (no_corner t n.node n.book l g).found h.kind h.source.0 h.channel.0

    long : length M.ends ≡ count_in n.node
    long = length_listed (count_of t) (end_at n) ∙ sym count_is

    test_is : (k : ℕ) → k < count_in n.node → fitting k ≡ test (get_or M.ends k (end_at n 0))
    unfolding end_for end_of
    test_is k hk = rw (lt-ltb k (count_in n.node) hk, get_d_listed (count_of t) (end_at n) k (end_at n 0) (omega (arith, count_is)))

    same_entry : j < count_in n.node → i ≡ j
    same_entry hj =
        first
        ∙ first_is fitting 0 16 j (omega arith) (let c = count_low t n.node n.book l g in omega arith)
        (λ k lo hi. test_is k (omega arith) ∙ place_before test (end_at n 0) M.ends k hi)
        (λ z. test_is j hj ∙ place_holds test (end_at n 0) M.ends (rw long hj))

    no_entry : count_in n.node ≤ j → count_in n.node ≤ i
    no_entry hj = omega (arith, count_low t n.node n.book l g, last)
      where
        none : (k : ℕ) → Dec (k < count_in n.node) → fitting k ≡ false
        none k (yes y) = test_is k y ∙ place_before test (end_at n 0) M.ends k (omega arith)
        none k (no y) = rw (le-ltb k (count_in n.node) (omega arith))

        last : i ≡ 16
        last =
            first
            ∙ first_is fitting 0 16 16 (omega arith) (omega arith) (λ k lo hi. none k (dec_lt k (count_in n.node)))
            (λ y. absurd (omega arith))

  -- ---- refused

  refuse : (w : Refusal) → Takes t (answers (refused_of w) block M) (Err w) x
  refuse w = record { numbers = refl; out = refl; stands = record { lists = l; good = g; room = room; is = refl } }

  judge : (v : Verdict) (o : Outcome) (a : Result Arrival Refusal) (y : Lent) → (v ≡ Ok tt → Takes t o a y)
      → Takes t (judged v block M o) (answer_as v a) (after_as v x y)
  judge (Ok _) o a y h = h refl
  judge (Err w) o a y h = refuse w

  -- ---- at entry i

  and_false : (a b : Bool) → (a && b) ≡ false → a ≡ true → b ≡ false
  and_false true b h e = h
  and_false false b h e = absurd (true≢false (sym e))

  module _ (i : ℕ) (li : i < count_in n.node) (h : Header) (p : List ℕ)
      (kind : is_sends (end_of n.node i).entry.kind ≡ for_sender h.kind) (hs : h.seq.0 < 256)
      (size : length p ≡ h.length) (some : carries h.kind ≡ true → 1 ≤ length p) where
    abbrev e : EndPoint
    e = end_of n.node i

    abbrev TakesAs : FrameType → Type 0
    TakesAs q = Takes t (taken_in M block i (end_at n i) q h.seq.0 p) (Ok (record { entry = i; was = taken_in_answer x i e q h.seq.0 p })) (taken_in_after x i e q h.seq.0 p)

    took : (q : FrameType) → is_sends e.entry.kind ≡ for_sender q → (carries q ≡ true → e.state ≡ Open)
        → (carries q ≡ true → length p ≤ e.entry.largest) → (carries q ≡ true → 1 ≤ length p)
        → (answered q ≡ true → waiting_of n.node < 32) → (carries q ≡ true → memory.block_room e ≤ length block) → TakesAs q
    unfolding taken_in taken_in_answer taken_in_after
    took type.Data k o m s f r = data_takes t n l g room i li k block (o refl) h.seq.0 hs p (s refl) (m refl) (f refl) (r refl)
    took type.Acknowledge k o m s f r = ack_takes t n l g room i li k h.seq.0 hs block
    took type.Reset k o m s f r = reset_takes t n l g room i li k block (f refl) h.seq.0 p
    took type.Urgent k o m s f r = urgent_takes t n l g room i li k block p (m refl) (r refl)

    waiting_is : length (M.waiting acks) ≡ waiting_of n.node
    unfolding waiting_for
    waiting_is = length-map (acks_in n.node) ack_item ∙ from_length n.node (oldest_place n.node) (waiting_of n.node)

    -- the tests are the same: how many acknowledgements wait, the store that is needed, the window in force
    same : verdict (machine.entry_tests M (end_at n i) h.kind h.length (length block)) ≡ entry_verdict x i h
    unfolding end_for
    same = rw (closed_for (read_at n) n.store n.book i e e.state, open_for (read_at n) n.store n.book i e e.state, waiting_is, lt-leb (count_in n.node) i li, g.tabled.need, size_is g li)

    passed : entry_verdict x i h ≡ Ok tt → TakesAs h.kind
    passed v =
        let c = clear (memory.entry_tests n.node i e h.kind h.length (length n.store) (length block)) v in
        took h.kind kind
        (λ d. is_open_holds e.state (not-false (is_open e.state) (and_false (carries h.kind) _ c.1.1.0 d)))
        (λ d. rw size (ltb-false _ _ (and_false (carries h.kind) _ c.1.1.1.0 d)))
        some
        (λ d. leb-false 32 (waiting_of n.node) (and_false (answered h.kind) _ c.1.1.1.1.0 d))
        (λ d. ltb-false _ _ (and_false (carries h.kind) _ c.1.1.1.1.1.1.0 d))

    at_entry : Takes t (judged (verdict (machine.entry_tests M (end_at n i) h.kind h.length (length block))) block M
        (taken_in M block i (end_at n i) h.kind h.seq.0 p))
        (entry_answer x i h p) (entry_after x i h p)
    unfolding entry_answer entry_after
    at_entry = rw same (judge (entry_verdict x i h) _ _ _ passed)

  -- ---- the call

  module _ (f : List ℕ) (bytes : Bytes f) where
    no_end : (i : ℕ) (h : Header) → count_in n.node ≤ i → entry_verdict x i h ≡ Err refusal.NoEndPoint
    no_end i h li = rw (le-leb (count_in n.node) i li)

    refused_at : (k : ℕ) (h : Header) (p : List ℕ) → count_in n.node ≤ k
        → Takes t (answers (refused_of refusal.NoEndPoint) block M) (entry_answer x k h p) (entry_after x k h p)
    unfolding entry_answer entry_after
    refused_at k h p far = rw (no_end k h far) (refuse refusal.NoEndPoint)

    kinds : (h : Header) → i h < count_in n.node → is_sends (end_of n.node (i h)).entry.kind ≡ for_sender h.kind
    unfolding entry_for end_of
    kinds h li = (found_fits n.node g.tabled.index (for_sender h.kind) h.source.0 h.channel.0 li).kind

    abbrev Reads : Result Header Refusal → Type 0
    Reads v = Takes t (reading M block v (payload_of f)) (read_answer x v (payload_of f)) (read_after x v (payload_of f))

    framed : (h : Header) → sound_of f ≡ true → header_of f ≡ Ok h
        → Reads (Ok h)
    unfolding reading read_answer read_after
    framed h sound e = sides (dec_lt (j h) (count_in n.node))
      where
        r : read_of f ≡ Ok h
        r = whole_read f h sound e

        sides : Dec (j h < count_in n.node) → Reads (Ok h)
        sides (yes hj) =
            let z = same_entry h hj in
            let li : i h < count_in n.node = rw z hj in
            rw (← z, elem_listed (count_of t) (end_at n) (i h) (omega (arith, count_is)))
            (at_entry (i h) li h (payload_of f) (kinds h li) (header_byte f h r bytes) (payload_size f h r).0 (payload_size f h r).1)
        sides (no hj) =
            let far = no_entry h (omega arith) in
            rw (elem_none (count_of t) (end_at n) (j h) (omega (arith, count_is))) (refused_at (i h) h (payload_of f) far)

    reads : (v : Result Header Refusal) → sound_of f ≡ true → header_of f ≡ v → Reads v
    unfolding reading read_answer read_after
    reads (Err w) sound e = refuse w
    reads (Ok h) sound e = framed h sound e

    frame_same : verdict ((not (sound_of f), refusal.BadFrame) ∷ (not (machine.is_ours M f), refusal.NotOurs) ∷ [])
        ≡ verdict (frame_tests n.node f)
    frame_same = rw (ap (λ (a : Address). a.0) g.tabled.own, g.tabled.protocol)

    arrive_takes : Takes t (arriving M block f) (arrival_answer x f) (arrival_after x f)
    unfolding arriving arrival_answer arrival_after
    arrive_takes =
        rw frame_same
        (judge (verdict (frame_tests n.node f)) _ _ _
        (λ v. let c = clear (frame_tests n.node f) v in reads (header_of f) (not-false (sound_of f) c.0) refl))

    pub arrive_follows : Follows t n M (arrives block f)
    unfolding step answer after
    arrive_follows =
        let k = arrive_takes in
        record { answers = rw (k.numbers, k.out); stands = k.stands }
