-- Handing out is the machine's: the same frame, of the same sort, and what it leaves. Assumes nothing.
use Prim.Native.Nat.{ℕ, suc, ◌+◌, ◌/◌, ◌%◌, ◌≤◌, ◌<◌}
use mathlib.Core.Path.{◌≡◌, refl, sym, ap, subst, ◌∙◌}
use mathlib.Core.Logic.{◌≢◌}
use mathlib.Core.Bool.{Bool, true, false}
use mathlib.Core.Option.{none, some}
use mathlib.Core.List.{List, [], ◌∷◌, map, Memᴰ}
use native.Mathlib.Decide.{dec_lt, ℕ_discrete}
use native.Mathlib.Omega.{arith}
use lib.ListN.{length, get_or, set, drop}
use lib.Seq.{sets, get_or-set_other}
use lib.Dec.{leb, ltb, eqb}
use borrow.Author.Tests.{eq-eqb, ne_eqb, leb-false, ltb-false, le-ltb, lt-ltb}
use Rattle.units.specs.Refusals.{pick}
use Rattle.units.specs.declared.refusals.Refusal.TheVariants.{TooShort, UnderWay}
use Rattle.memory.specs.Layout.{all_cells, cells_at, reset_id, reset_entry, urgent_entry, length_at, timer_at, retries_at}
use Rattle.waiting.specs.Acks.{waiting_of, ack_of}
use Rattle.waiting.specs.Port.{under_in, per_type, out_word, out_entry, out_number, no_number, data_out}
use Rattle.waiting.specs.Queues.{next_of, unlinked}
use Rattle.waiting.specs.declared.acks.Ack.{Ack}
use Rattle.waiting.specs.Order.{from, acks_in}
use Rattle.waiting.proofs.Linked.{first, queue_first}
use Rattle.window.specs.Windows.{held, Good as GoodWindow}
use Rattle.window.specs.declared.Window.{Window}
use Rattle.window.proofs.Sizes.{size_le}
use Rattle.table.specs.Layout.{count_of, own_of, protocol_of}
use Rattle.table.specs.Areas.{store_of}
use Rattle.frame.specs.Layout.{frame_bytes}
use Rattle.frame.specs.Types.{type_number}
use Rattle.frame.specs.declared.FrameType.{FrameType}
use Rattle.frame.specs.declared.FrameType.TheVariants as type
use Rattle.end_points.specs.Ends.{end_of}
use Rattle.end_points.specs.Heads.{need_in}
use Rattle.end_points.specs.Runs.{urgent_gone}
use Rattle.end_points.specs.Lent.{Lent}
use Rattle.end_points.specs.declared.State.{State}
use Rattle.end_points.specs.declared.State.TheVariants.{Enabled, Open}
use Rattle.end_points.specs.declared.EndPoint.{EndPoint}
use Rattle.slots.specs.Slots.{cell, past, number_in, retries_in}
use Rattle.timing.specs.Timing.{left_of, standing}
use Rattle.call_hand_out.specs.Handing.{next_out, fields_to, ack_frame, reset_frame, slot_payload}
use Rattle.memory.specs.Layout.{id_entry, id_slot}
use Rattle.call_hand_out.specs.Handing.{urgent_frame, data_frame, frame_out, fitted, hand_out_answer, handed_run, sent, data_sent, out_node, out_book}
use Rattle.call_hand_out.specs.Handing.{handed_out, hand_out_after, urgent_payload}
use Rattle.call_hand_out.specs.declared.Next.{Next}
use Rattle.call_hand_out.specs.declared.Next.TheVariants as next
use Rattle.memory.specs.Layout.{owner_of}
use Rattle.good.specs.Good.{Lists, Lines, OpenSender, Good}
use Rattle.good.specs.Calls.{Memory, lent, kept, answer, after}
use Rattle.machine.specs.Calls.{Call, hands_out}
use Rattle.good.proofs.Lined.{less, unlink_lines, unlink_cells, unlink_under, port_lines, set_lines}
use Rattle.good.proofs.Offsets.{reset_owner, urgent_owner, id_owner}
use Rattle.good.proofs.Framing.{Apart, cell_low}
use Rattle.good.proofs.Turns.{turned_to}
use Rattle.good.proofs.Porting.{Idle, none_idle, word_entry, word_number, begun_under, begun_data, begun_no_data, begun_reset, begun_no_reset, port_cells}
use Rattle.good.proofs.Senders.{Timed, timed_set, timed_after}
use Rattle.good.proofs.Handed as was
use Rattle.good.proofs.Handed.{Alone, AckOut, ResetOut, UrgentOut, SlotOut, ResendOut, DataOut, Handed, HandKept}
use Rattle.good.proofs.HandFirst.{Says, next_says, First, first_of, first_in}
use Rattle.good.proofs.HandKeeps.{hand_keeps}
use Rattle.good.proofs.Payloads.{unaltered}
use Rattle.machine.specs.Machine as machine
use Rattle.machine.specs.Machine.{Number, Item, Sort, acks, resets, urgents, resends, datas, Machine, Outcome, stated}
use Rattle.machine.specs.Machine.{port, urging, number_at, turned, rank, only, waiting_as, answers, unless, type_of, frame_of, going_out}
use Rattle.machine.specs.Machine.{in_order, handing_out, step}
use Rattle.refinement.specs.Standing.{Reading, read_at, end_for, end_at, ack_item, slot_item, waiting_for, under_for, stands_for, Follows}
use Rattle.machine.proofs.Listed.{elem_listed}
use Rattle.refinement.proofs.Readings.{zero_left}
use Rattle.refinement.proofs.Elsewhere.{cells_but, cells_as, still, ported_stands}
use Rattle.refinement.proofs.Waiting.{item_of, waiting_is, queue_of, window_steady, waits_only, waits_less, lists_are}
use Rattle.refinement.proofs.Following.{low_at, stated_at, unheld}
use Rattle.refinement.proofs.Numbers.{handed_to, timer_under, number_is, timed_end}
use Rattle.std.specs.Prelude.{Ok, Err}

-- ---- what waits, by the tests that handing out makes

no_acks : (ws : List ℕ) → ltb 0 (waiting_of ws) ≡ false → acks_in ws ≡ []
unfolding from
no_acks ws h = let z : waiting_of ws ≡ 0 = omega (arith, ltb-false 0 (waiting_of ws) h) in rw z

none_in : (b : List ℕ) (l : Lists) → Lines b l → (q : ℕ) → q < 4 → leb 4 (next_of b q) ≡ false → l q ≡ []
none_in b l L q hq h = sides (l q) (queue_first b q (l q) (L.queue q hq)) (L.high q hq)
  where
    sides : (xs : List ℕ) → next_of b q ≡ first xs q → ((x : ℕ) → Memᴰ x xs → reset_id 0 ≤ x) → xs ≡ []
    sides [] e high = refl
    sides (y ∷ ys) e high = absurd (let z = high y (Memᴰ.head refl) in let v = leb-false 4 (next_of b q) h in omega arith)

-- ---- what is known of the frame that goes out as d

abbrev OutAs : Lent → Lent → Lists → Lists → Next → Type 0
OutAs x x' l l' next.Nothing = Unit {0}
OutAs x x' l l' (next.Ack a) = (w : ℕ) × (a ≡ ack_of w) × AckOut x x' l l' w
OutAs x x' l l' (next.Reset k) = ResetOut x x' l l' k
OutAs x x' l l' (next.Urgent k) = UrgentOut x x' l l' k
OutAs x x' l l' (next.Resend k) = ResendOut x x' l l' k
OutAs x x' l l' (next.Data k) = DataOut x x' l l' k

out_as : (x x' : Lent) (l l' : Lists) (d : Next) (n : ℕ) → next_out x.node x.book ≡ d
    → hand_out_answer x ≡ Ok n → Handed x x' l l' → OutAs x x' l l' d
out_as x x' l l' d n is fits (was.refused w z y) = absurd (let u : ◌≡◌ {A = ℕ} 0 1 = cc in omega arith)
out_as x x' l l' d n is fits (was.nothing W z y) = subst (OutAs x x' l l') (sym W.sort ∙ is) tt
out_as x x' l l' d n is fits (was.acked w W o) = subst (OutAs x x' l l') (sym W.sort ∙ is) (w, refl, o)
out_as x x' l l' d n is fits (was.reset m W o) = subst (OutAs x x' l l') (sym W.sort ∙ is) o
out_as x x' l l' d n is fits (was.urgent m W o) = subst (OutAs x x' l l') (sym W.sort ∙ is) o
out_as x x' l l' d n is fits (was.resent m W o) = subst (OutAs x x' l l') (sym W.sort ∙ is) o
out_as x x' l l' d n is fits (was.handed m W o) = subst (OutAs x x' l l') (sym W.sort ∙ is) o

-- ---- what goes under way

-- the word of a frame stands for that frame
word_for : (q : FrameType) (i s : ℕ) → i < 16 → s < 256 → under_for (out_word (type_number q) i s) ≡ some (q, record { entry = i; number = s })
word_for q i s low byte = parts q (word_entry (type_number q) i s low byte) (word_number (type_number q) i s byte)
  where
    parts : (q : FrameType) → out_entry (out_word (type_number q) i s) ≡ i → out_number (out_word (type_number q) i s) ≡ s
        → under_for (out_word (type_number q) i s) ≡ some (q, record { entry = i; number = s })
    parts type.Data e m = let h : out_word 0 i s / per_type ≡ 1 = omega arith in rw (ne_eqb (out_word 0 i s) 0 (λ z. omega arith), h, e, m)
    parts type.Acknowledge e m = let h : out_word 1 i s / per_type ≡ 2 = omega arith in rw (ne_eqb (out_word 1 i s) 0 (λ z. omega arith), h, e, m)
    parts type.Reset e m = let h : out_word 2 i s / per_type ≡ 3 = omega arith in rw (ne_eqb (out_word 2 i s) 0 (λ z. omega arith), h, e, m)
    parts type.Urgent e m = let h : out_word 3 i s / per_type ≡ 4 = omega arith in rw (ne_eqb (out_word 3 i s) 0 (λ z. omega arith), h, e, m)

module _ (t : List ℕ) (n : Memory) (l : Lists) (g : Good t n.node n.book l) (room : store_of t ≤ length n.store)
    (free : under_in n.book ≡ 0) where
  abbrev M : Machine
  M = stands_for t n l

  abbrev L : Reading
  L = read_at n

  -- lent a buffer that the frame fits
  abbrev X : Next → Lent
  X d = lent n (frame_out (lent n []) d)

  abbrev Y : Next → Lent
  Y d = handed_out (X d) d

  frame_any : (d : Next) (a b : List ℕ) → frame_out (lent n a) d ≡ frame_out (lent n b) d
  unfolding frame_out
  frame_any next.Nothing a b = refl
  frame_any (next.Ack k) a b = refl
  frame_any (next.Reset k) a b = refl
  frame_any (next.Urgent k) a b = refl
  frame_any (next.Resend k) a b = refl
  frame_any (next.Data k) a b = refl

  module _ (d : Next) (is : next_out n.node n.book ≡ d) where
    fits : hand_out_answer (X d) ≡ Ok (length (frame_out (lent n []) d))
    unfolding hand_out_answer
    fits =
        rw (
          eq-eqb (under_in n.book) 0 free,
          le-ltb (length n.store) (need_in n.node) (rw g.tabled.need room),
          is,
          frame_any d (frame_out (lent n []) d) [],
          le-ltb (length (frame_out (lent n []) d)) (length (frame_out (lent n []) d)) (omega arith),
        )

    keeps : HandKept t (X d) (Y d) l
    unfolding hand_out_after
    keeps =
        let z : hand_out_after (X d) (hand_out_answer (X d)) ≡ Y d = rw (fits, is) in
        subst (λ (y : Lent). HandKept t (X d) y l) z (hand_keeps t (X d) l g)

    knows : OutAs (X d) (Y d) l keeps.lists d
    knows = out_as (X d) (Y d) l keeps.lists d (length (frame_out (lent n []) d)) is fits keeps.what

    -- its end then, read as it was: no tick has passed
    end_out : {i : ℕ} → Apart i n.node (Y d).node → {e : EndPoint} → end_of (Y d).node i ≡ e
        → end_at (kept (Y d)) i ≡ end_for L n.store (Y d).book i e
    end_out {i} a end =
        ap (λ (c : ℕ). end_for (left_of c) n.store (Y d).book i (end_of (Y d).node i)) a.clock ∙ ap (end_for L n.store (Y d).book i) end

    says : Says n.node n.book d
    says = subst (Says n.node n.book) is (next_says n.node n.book)

    -- it is number s of entry i, as a frame of sort q
    record Went (q : Sort) (i s : ℕ) : Type 0 where
      alone : Alone i (X d) (Y d) l keeps.lists
      rest : List Item
      first : M.waiting q ≡ record { entry = i; number = s } ∷ rest
      frame : (buffer : List ℕ) → frame_out (lent n buffer) d ≡ frame_of M q (end_at n i) s
      end : end_at (kept (Y d)) i ≡ machine.handed q (end_at n i) s
      waits : (r : Sort) → waiting_for (Y d).node keeps.lists r ≡ (waiting_as (only q (drop 1)) M).waiting r
      under : under_for (under_in (Y d).book) ≡ some (type_of q, record { entry = i; number = s })

    -- the first of queue j, which is thing k
    queue_went : (q : Sort) (j : ℕ) → rank q ≡ suc j → {k : ℕ} (f : First k (l j)) {i s : ℕ} → Alone i (X d) (Y d) l keeps.lists
        → item_of n.node q k ≡ record { entry = i; number = s } → acks_in (Y d).node ≡ acks_in n.node → Lines (Y d).book (less l k)
        → (end_of (Y d).node i).run.window ≡ (end_of n.node i).run.window
        → ((buffer : List ℕ) → frame_out (lent n buffer) d ≡ frame_of M q (end_at n i) s)
        → end_at (kept (Y d)) i ≡ machine.handed q (end_at n i) s
        → under_for (under_in (Y d).book) ≡ some (type_of q, record { entry = i; number = s }) → Went q i s
    queue_went q j r {k} f A item e L w frame end under =
        record {
          alone = A;
          rest = map (item_of n.node q) f.rest;
          first = waiting_is n.node l q ∙ ap (map (item_of n.node q)) ((queue_of n.node l q j r).1 ∙ f.parts) ∙ rw item;
          frame = frame;
          end = end;
          waits = waits_less A.apart (window_steady w) q j r e g.lines k f (lists_are refl keeps.good.lines L);
          under = under;
        }

  -- the fields are the machine's
  fields_are : (i : ℕ) (q : FrameType) (s : ℕ) (p : List ℕ)
      → frame_bytes (fields_to n.node (end_of n.node i).entry q s) p
      ≡ frame_bytes (record {
        destination = (end_of n.node i).entry.remote;
        protocol = protocol_of t;
        source = own_of t;
        kind = type_number q;
        user = 0;
        channel = (end_of n.node i).entry.channel;
        seq = record { 0 = s };
      }) p
  unfolding fields_to
  fields_are i q s p = rw (g.tabled.own, g.tabled.protocol)

  -- ---- a frame of entry i goes under way, over a book b that differs from what it was in its links alone

  module _ (b : List ℕ) (l₀ : Lists) (lines : Lines b l₀) (cells : (c : ℕ) → cells_at ≤ c → get_or b c 0 ≡ get_or n.book c 0)
      (i s : ℕ) (low : i < 16) (byte : s < 256) (q : FrameType) where
    abbrev sent_book : List ℕ
    sent_book = sent b q i s

    sent_cells : (c : ℕ) → cells_at ≤ c → get_or sent_book c 0 ≡ get_or n.book c 0
    sent_cells c h = port_cells b (out_word (type_number q) i s) c h ∙ cells c h

    sent_under : under_for (under_in sent_book) ≡ some (q, record { entry = i; number = s })
    sent_under = ap under_for (begun_under b l₀ lines (type_number q) i s low byte) ∙ word_for q i s low byte

    idle : Idle n.book i
    idle = none_idle n.book i free

    -- one that is not Data and not a Reset
    sent_other : type_number q ≢ 2 → 1 ≤ type_number q → type_number q < 4 → (e : EndPoint) → end_for L n.store sent_book i e ≡ end_for L n.store n.book i e
    sent_other r d few e =
        cells_as L n.store n.book sent_book i e sent_cells
        (begun_no_data b l₀ lines (type_number q) i s low byte d few ∙ sym idle.data!)
        (begun_no_reset b l₀ lines (type_number q) i s low byte r few ∙ sym idle.reset)

    -- a Reset, whose timer stands
    sent_reset : type_number q ≡ 2 → (e : EndPoint) (v : ℕ)
        → end_for L n.store sent_book i (turned_to e (Enabled v true) e.run) ≡ stated (Enabled 0 true) (end_for L n.store n.book i e)
    unfolding end_for
    sent_reset r e v =
        cells_but L n.store n.book sent_book i (turned_to e (Enabled v true) e.run) sent_cells
        (begun_no_data b l₀ lines (type_number q) i s low byte (omega arith) (omega arith) ∙ sym idle.data!)
        ∙ ap (λ (z : Bool). stated (Enabled (pick z 0 (L v)) true) (end_for L n.store n.book i e)) (begun_reset b l₀ lines (type_number q) i s low byte r)

  -- ---- an acknowledgement

  module _ (a : Ack) (is : next_out n.node n.book ≡ next.Ack a) where
    abbrev ack : (w : ℕ) × (a ≡ ack_of w) × AckOut (X (next.Ack a)) (Y (next.Ack a)) l (keeps (next.Ack a) is).lists w
    ack = knows (next.Ack a) is

    abbrev K : HandKept t (X (next.Ack a)) (Y (next.Ack a)) l
    K = keeps (next.Ack a) is

    ack_went : Went (next.Ack a) is acks (ack_of ack.0).entry (ack_of ack.0).seq.0
    unfolding waiting_for frame_of frame_out ack_frame end_for
    ack_went =
        let i = (ack_of ack.0).entry in
        let s = (ack_of ack.0).seq.0 in
        let O = ack.2 in
        let low = low_at g O.alone.known in
        record {
          alone = O.alone;
          rest = map ack_item (acks_in (Y (next.Ack a)).node);
          first = ap (map ack_item) O.acks;
          frame =
              λ buffer. ap (λ (z : Ack). frame_bytes
              (fields_to n.node (end_of n.node z.entry).entry type.Acknowledge z.seq.0) []) ack.1
              ∙ fields_are i type.Acknowledge (ack_of ack.0).seq.0 [];
          end = end_out (next.Ack a) is O.alone.apart (O.ends i)
              ∙ ap (λ (b : List ℕ). end_for L n.store b i (end_of n.node i)) O.book
              ∙ sent_other n.book l g.lines (λ c h. refl) i s low (omega arith) type.Acknowledge (λ z. omega arith) (omega arith) (omega arith) (end_of n.node i);
          waits = waits_only O.alone.apart (window_steady (ap (λ (e : EndPoint). e.run.window) (O.ends i)))
              acks (drop 1) (sym (ap (λ (xs : List ℕ). drop 1 (map ack_item xs)) O.acks)) (λ z. absurd (z refl))
              (λ k h z. lists_are O.book K.good.lines (port_lines n.book l g.lines (out_word 1 i s)) k h);
          under = ap (λ (b : List ℕ). under_for (under_in b)) O.book
              ∙ sent_under n.book l g.lines (λ c h. refl) i s low (omega arith) type.Acknowledge;
        }

  -- ---- a Reset or an Urgent: only links alter in the book

  module _ (j k : ℕ) (hj : j < 4) (f : First k (l j)) where
    plain_lines : Lines (unlinked n.book k) (less l k)
    plain_lines = unlink_lines n.book l g.lines j k hj (first_in k (l j) f)

    plain_cells : (c : ℕ) → cells_at ≤ c → get_or (unlinked n.book k) c 0 ≡ get_or n.book c 0
    plain_cells = unlink_cells n.book l g.lines j k hj (first_in k (l j) f)

  module _ (k : ℕ) (is : next_out n.node n.book ≡ next.Reset k) where
    abbrev reset : ResetOut (X (next.Reset k)) (Y (next.Reset k)) l (keeps (next.Reset k) is).lists k
    reset = knows (next.Reset k) is

    reset_went : Went (next.Reset k) is resets reset.at 0
    unfolding frame_of frame_out reset_frame end_for out_book
    reset_went =
        let i = reset.at in
        let low = low_at g reset.alone.known in
        let entry = reset.entry in
        let f = first_of n.book l g.lines 0 (omega arith) k (says (next.Reset k) is).0 (says (next.Reset k) is).1 in
        queue_went (next.Reset k) is resets 0 refl f reset.alone
        (rw (ap owner_of reset.is ∙ reset_owner i (low_at g reset.alone.known)))
        reset.acks (port_lines (unlinked n.book k) (less l k) (plain_lines 0 k (omega arith) f) (out_word 2 (reset_entry k) 0))
        (ap (λ (e : EndPoint). e.run.window) reset.ends)
        (λ buffer. ap (λ (z : ℕ). frame_bytes (fields_to n.node (end_of n.node z).entry type.Reset 0) [])
        reset.entry ∙ fields_are i type.Reset 0 [])
        (end_out (next.Reset k) is reset.alone.apart reset.ends
        ∙ ap (λ (z : ℕ). end_for L n.store (sent (unlinked n.book k) type.Reset z 0) i (turned_to (end_of n.node i) (Enabled standing true) (end_of n.node i).run)) entry
        ∙ sent_reset (unlinked n.book k) (less l k) (plain_lines 0 k (omega arith) f) (plain_cells 0 k (omega arith) f) i 0 low (omega arith)
        type.Reset refl (end_of n.node i) standing)
        (ap (λ (z : ℕ). under_for (under_in (sent (unlinked n.book k) type.Reset z 0))) entry
        ∙ sent_under (unlinked n.book k) (less l k) (plain_lines 0 k (omega arith) f) (plain_cells 0 k (omega arith) f) i 0 low (omega arith) type.Reset)

  module _ (k : ℕ) (is : next_out n.node n.book ≡ next.Urgent k) where
    abbrev urgent : UrgentOut (X (next.Urgent k)) (Y (next.Urgent k)) l (keeps (next.Urgent k) is).lists k
    urgent = knows (next.Urgent k) is

    urgent_went : Went (next.Urgent k) is urgents urgent.at 0
    unfolding frame_of frame_out urgent_frame end_for out_book urgent_gone
    urgent_went =
        let i = urgent.at in
        let e = end_of n.node i in
        let low = low_at g urgent.alone.known in
        let f = first_of n.book l g.lines 1 (omega arith) k (says (next.Urgent k) is).0 (says (next.Urgent k) is).1 in
        queue_went (next.Urgent k) is urgents 1 refl f urgent.alone
        (rw (ap owner_of urgent.is ∙ urgent_owner i (low_at g urgent.alone.known)))
        urgent.acks (port_lines (unlinked n.book k) (less l k) (plain_lines 1 k (omega arith) f) (out_word 3 (urgent_entry k) 0))
        (ap (λ (e : EndPoint). e.run.window) urgent.ends)
        (λ buffer. ap (λ (z : ℕ). frame_bytes (fields_to n.node (end_of n.node z).entry type.Urgent 0)
        (urgent_payload n.store (end_of n.node z))) urgent.entry
        ∙ fields_are i type.Urgent 0 (urgent_payload n.store e) ∙ rw (ne_eqb e.run.urgent 0 urgent.waits))
        (end_out (next.Urgent k) is urgent.alone.apart (urgent.ends
        ∙ ap (λ (z : State). turned_to e z (urgent_gone e.run)) (sym urgent.opened))
        ∙ ap (λ (z : ℕ). urging none (end_for L n.store (sent (unlinked n.book k) type.Urgent z 0) i e)) urgent.entry
        ∙ ap (urging none) (sent_other (unlinked n.book k) (less l k) (plain_lines 1 k (omega arith) f) (plain_cells 1 k (omega arith) f) i 0 low (omega arith)
        type.Urgent (λ z. omega arith) (omega arith) (omega arith) e))
        (ap (λ (z : ℕ). under_for (under_in (sent (unlinked n.book k) type.Urgent z 0))) urgent.entry
        ∙ sent_under (unlinked n.book k) (less l k) (plain_lines 1 k (omega arith) f) (plain_cells 1 k (omega arith) f) i 0 low (omega arith) type.Urgent)

  -- ---- data, first time or again: the number j past the start of entry i's window

  module _ (d : Next) (is : next_out n.node n.book ≡ d) (k i j : ℕ)
      (S : SlotOut (X d) (Y d) l (keeps d is).lists k i j) (v : ℕ) (hv : v < 4) (f : First k (l v)) where
    abbrev e : EndPoint
    e = end_of n.node i

    abbrev w : Window
    w = e.run.window

    abbrev stood_book : List ℕ
    stood_book = set (unlinked n.book k) (timer_at (cell i w (past w j))) standing

    -- its timer stands, and it is under way
    abbrev slot_book : List ℕ
    slot_book = sent stood_book type.Data i (past w j)

    low : i < 16
    low = low_at g S.alone.known

    window : GoodWindow w
    window = (g.entered i S.alone.known).window

    O : OpenSender n.book l i e
    O = stated_at g S.alone.known true S.sends Open S.opened

    cells : (c : ℕ) → cells_at ≤ c → get_or (unlinked n.book k) c 0 ≡ get_or n.book c 0
    cells = unlink_cells n.book l g.lines v k hv (first_in k (l v) f)

    stood_lines : Lines stood_book (less l k)
    stood_lines = set_lines (unlinked n.book k) (less l k) (plain_lines v k hv f) (timer_at (cell i w (past w j))) standing (omega arith)

    slot_lines : Lines slot_book (less l k)
    slot_lines = port_lines stood_book (less l k) stood_lines (out_word 0 i (past w j))

    book_is : data_sent n.node n.book k ≡ slot_book
    unfolding data_sent
    book_is =
        ap (λ (c : ℕ). sent (set (unlinked n.book k) (timer_at c) standing) type.Data (id_entry k) (number_in (end_of n.node (id_entry k)).run.window (id_slot k)))
        S.here
        ∙ ap (λ (z : ℕ). sent stood_book type.Data z (number_in (end_of n.node z).run.window (id_slot k))) S.entry
        ∙ ap (sent stood_book type.Data i) S.number

    inside : j < w.size
    inside = omega (arith, S.taken, O.sending.taken)

    timer : Timed n.book stood_book i w j standing
    timer =
        timed_after i low w window j inside standing n.book (unlinked n.book k) stood_book cells
        (unlink_under n.book l g.lines v k hv (first_in k (l v) f))
        (timed_set i low w window j inside standing (unlinked n.book k) (plain_lines v k hv f).long)

    slot_cells : (c : ℕ) → cells_at ≤ c → get_or slot_book c 0 ≡ get_or stood_book c 0
    slot_cells = port_cells stood_book (out_word 0 i (past w j))

    retries : (c : ℕ) → c < all_cells → retries_in slot_book c ≡ retries_in n.book c
    retries c h =
        slot_cells (retries_at c) (omega arith)
        ∙ get_or-set_other (unlinked n.book k) (timer_at (cell i w (past w j))) (retries_at c) standing 0
        (λ z. let y = cell_low i low w window (past w j) in omega arith)
        ∙ cells (retries_at c) (omega arith)

    -- it is the one under way, and before there was none
    under_way : data_out slot_book i ≡ past w j
    under_way = begun_data stood_book (less l k) stood_lines 0 i (past w j) low (omega arith) refl

    others_not : (s : ℕ) → s < 256 → s ≢ past w j → eqb s (data_out slot_book i) ≡ eqb s (data_out n.book i)
    others_not s h d =
        ne_eqb s (data_out slot_book i) (λ z. d (z ∙ under_way))
        ∙ sym (ne_eqb s (data_out n.book i) (λ z. let y : s ≡ no_number = z ∙ (none_idle n.book i free).data! in omega arith))

    slot_item_holds : slot_item n.node k ≡ record { entry = i; number = past w j }
    slot_item_holds = rw (ap owner_of S.is ∙ id_owner i low w window j, S.number)

    -- its number is handed out, the h-th or one before it
    slot_end : (h : ℕ) → j < h → held w j ≡ false → ((m : ℕ) → m ≢ j → ltb m h ≡ ltb m e.run.handed)
        → end_for L n.store (data_sent n.node n.book k) i (handed_to e h) ≡ machine.handed datas (end_at n i) (past w j)
    unfolding end_for
    slot_end h out missing others =
        ap (λ (b : List ℕ). end_for L n.store b i (handed_to e h)) book_is
        ∙ timed_end L (zero_left n) n.store n.book i e window j S.taken O.sending.taken slot_book low S.sends h 0
        (λ c m. slot_cells (length_at c) (omega arith) ∙ timer.lengths c m) retries
        (λ m c d. slot_cells (timer_at (cell i w (past w m))) (omega arith) ∙ timer.there m c d) others_not
        (timer_under L (zero_left n) n.store slot_book i (handed_to e h) j (sym under_way)) out missing others
        ∙ rw S.opened

    slot_payload_holds : slot_payload n.book n.store e k ≡ (number_at (end_at n i) (past w j)).payload
    slot_payload_holds =
        rw (S.slot, S.here)
        (sym (ap (λ (x : Number). x.payload) (number_is L (zero_left n) n.store n.book i e window j S.taken O.sending.taken)))

    slot_frame : data_frame n.node n.book n.store k ≡ frame_of M datas (end_at n i) (past w j)
    unfolding data_frame frame_of end_for
    slot_frame =
        ap (λ (z : ℕ). frame_bytes
        (fields_to n.node (end_of n.node z).entry type.Data (number_in (end_of n.node z).run.window (id_slot k)))
        (slot_payload n.book n.store (end_of n.node z) k)) S.entry
        ∙ ap (λ (z : ℕ). frame_bytes (fields_to n.node e.entry type.Data z) (slot_payload n.book n.store e k)) S.number
        ∙ fields_are i type.Data (past w j) (slot_payload n.book n.store e k) ∙ rw slot_payload_holds

    -- of sort q, whose frame and book are those of data
    slot_went : (q : Sort) → rank q ≡ suc v → ((buffer : List ℕ) → frame_out (lent n buffer) d ≡ data_frame n.node n.book n.store k)
        → frame_of M datas (end_at n i) (past w j) ≡ frame_of M q (end_at n i) (past w j)
        → slot_item n.node k ≡ item_of n.node q k → (Y d).book ≡ data_sent n.node n.book k
        → (end_of (Y d).node i).run.window ≡ w → type_of q ≡ type.Data
        → end_at (kept (Y d)) i ≡ machine.handed q (end_at n i) (past w j) → Went d is q i (past w j)
    slot_went q r frame same item book stays sort end =
        queue_went d is q v r f S.alone (sym item ∙ slot_item_holds) S.acks (rw (book ∙ book_is) slot_lines) stays
        (λ buffer. frame buffer ∙ slot_frame ∙ same) end
        (ap (λ (b : List ℕ). under_for (under_in b)) (book ∙ book_is)
        ∙ rw (sort, begun_under stood_book (less l k) stood_lines 0 i (past w j) low (omega arith)) (word_for type.Data i (past w j) low (omega arith)))

  module _ (k : ℕ) (is : next_out n.node n.book ≡ next.Resend k) where
    abbrev resend : ResendOut (X (next.Resend k)) (Y (next.Resend k)) l (keeps (next.Resend k) is).lists k
    resend = knows (next.Resend k) is

    resend_went : Went (next.Resend k) is resends resend.at (past (end_of n.node resend.at).run.window resend.offset)
    unfolding frame_out frame_of out_book out_node end_for
    resend_went =
        let d = next.Resend k in
        let i = resend.at in
        let j = resend.offset in
        let S = resend.slot in
        let f = first_of n.book l g.lines 2 (omega arith) k (says d is).0 (says d is).1 in
        slot_went d is k i j S 2 (omega arith) f resends refl (λ buffer. refl) refl refl refl
        (ap (λ (e : EndPoint). e.run.window) (resend.ends i)) refl
        (end_out d is S.alone.apart (resend.ends i)
        ∙ slot_end d is k i j S 2 (omega arith) f (end_of n.node i).run.handed resend.handed resend.missing (λ m d. refl))

  module _ (k : ℕ) (is : next_out n.node n.book ≡ next.Data k) where
    abbrev data₁ : DataOut (X (next.Data k)) (Y (next.Data k)) l (keeps (next.Data k) is).lists k
    data₁ = knows (next.Data k) is

    abbrev e₁ : EndPoint
    e₁ = end_of n.node data₁.at

    abbrev j₁ : ℕ
    j₁ = e₁.run.handed

    others : (m : ℕ) → m ≢ j₁ → ltb m (suc j₁) ≡ ltb m j₁
    others m d = sides (dec_lt m j₁)
      where
        sides : Dec (m < j₁) → ltb m (suc j₁) ≡ ltb m j₁
        sides (yes h) = lt-ltb m (suc j₁) (omega arith) ∙ sym (lt-ltb m j₁ h)
        sides (no h) = le-ltb m (suc j₁) (omega arith) ∙ sym (le-ltb m j₁ (omega arith))

    -- one more is handed out
    one_more : e₁.run.taken ≤ e₁.run.window.size → turned_to e₁ Open (handed_run e₁.run) ≡ handed_to e₁ (suc j₁)
    unfolding handed_run
    one_more wide =
        let y = size_le e₁.run.window.size (g.entered data₁.at data₁.slot.alone.known).window.sized in
        let z : (j₁ + 1) % 256 ≡ suc j₁ = omega (arith, data₁.slot.taken) in
        rw (z, data₁.slot.opened)

    data_went : Went (next.Data k) is datas data₁.at (past e₁.run.window j₁)
    unfolding frame_out out_book end_for handed_run
    data_went =
        let d = next.Data k in
        let i = data₁.at in
        let S = data₁.slot in
        let f = first_of n.book l g.lines 3 (omega arith) k (says d is).0 (says d is).1 in
        let O₁ = O d is k i j₁ S 3 (omega arith) f in
        slot_went d is k i j₁ S 3 (omega arith) f datas refl (λ buffer. refl) refl refl refl
        (ap (λ (e : EndPoint). e.run.window) data₁.ends) refl
        (end_out d is S.alone.apart (data₁.ends ∙ one_more O₁.sending.taken)
        ∙ slot_end d is k i j₁ S 3 (omega arith) f (suc j₁) (omega arith) (unheld O₁.sending j₁ (omega arith)) others)

  -- ---- the call

  module _ (buffer : List ℕ) where
    abbrev x : Lent
    x = lent n buffer

    abbrev call : Call
    call = hands_out buffer

    answered : (d : Next) → next_out n.node n.book ≡ d → hand_out_answer x ≡ fitted buffer (frame_out x d)
    unfolding hand_out_answer
    answered d is = rw (eq-eqb (under_in n.book) 0 free, le-ltb (length n.store) (need_in n.node) (rw g.tabled.need room), is)

    -- what the machine makes of the call is o where d goes out next
    abbrev Hands : Outcome → Next → Type 0
    Hands o d = next_out n.node n.book ≡ d → step M call ≡ o → Follows t n M call

    -- the first of a sort goes out, where the frame fits
    hands_first : (d : Next) (is : next_out n.node n.book ≡ d) (q : Sort) (qs : List Sort) (i s : ℕ) → Went d is q i s
        → step M call ≡ in_order M buffer (q ∷ qs) → Follows t n M call
    unfolding answer after hand_out_after in_order going_out
    hands_first d is q qs i s W stepped = sides (ltb (length buffer) (length F)) refl
      where
        F : List ℕ
        F = frame_of M q (end_at n i) s

        then : Machine
        then =
            port (some (type_of q, record { entry = i; number = s }))
            (waiting_as (only q (drop 1)) (turned i (machine.handed q (end_at n i) s) M))

        step_is : step M call
            ≡ unless ((ltb (length buffer) (length F), TooShort) ∷ []) buffer M (answers (0 ∷ length F ∷ []) (sets buffer 0 F) then)
        step_is = stepped ∙ rw (W.first, elem_listed (count_of t) (end_at n) i (let c = g.tabled.count in omega (arith, W.alone.known)))

        sides : (z : Bool) → ltb (length buffer) (length F) ≡ z → Follows t n M call
        sides true h =
            let a : hand_out_answer x ≡ Err TooShort = answered d is ∙ ap (fitted buffer) (W.frame buffer) ∙ rw h in
            let m : step M call ≡ answers (6 ∷ []) buffer M = step_is ∙ rw h in
            record { answers = rw (a, m); stands = rw (a, m) (still g room) }
        sides false h =
            let a : hand_out_answer x ≡ Ok (length F) = answered d is ∙ ap (fitted buffer) (W.frame buffer) ∙ rw h in
            let m : step M call ≡ answers (0 ∷ length F ∷ []) (sets buffer 0 F) then = step_is ∙ rw h in
            record {
              answers = rw (a, is, m, W.frame buffer);
              stands = rw (a, is, m)
                  (ported_stands g room W.alone.known (keeps d is).good W.alone.apart W.alone.within (unaltered refl)
                  W.end W.waits W.under);
            }

    -- a sort's test, and what is next where nothing of it waits
    either : (q : Sort) (qs : List Sort) (z : Bool) (d d' : Next) → Hands (in_order M buffer (q ∷ qs)) d → (z ≡ false → M.waiting q ≡ [])
        → Hands (in_order M buffer qs) d' → Hands (in_order M buffer (q ∷ qs)) (pick z d d')
    unfolding in_order going_out
    either q qs true d d' goes empty other is s = goes is s
    either q qs false d d' goes empty other is s = other is (s ∙ rw (empty refl))

    queue_empty : (q : Sort) (j : ℕ) → rank q ≡ suc j → leb 4 (next_of n.book j) ≡ false → M.waiting q ≡ []
    queue_empty q j r h =
        let o = queue_of n.node l q j r in
        waiting_is n.node l q ∙ ap (map (item_of n.node q)) (o.1 ∙ none_in n.book l g.lines j o.0 h)

    nothing : Hands (in_order M buffer []) next.Nothing
    unfolding answer after hand_out_after frame_out out_node out_book in_order
    nothing is s =
        let a : hand_out_answer x ≡ Ok 0 = answered next.Nothing is ∙ rw (le-ltb (length buffer) 0 (omega arith)) in
        record { answers = rw (a, is, s); stands = rw (a, is, s) (still g room) }

    hands : Follows t n M call
    unfolding next_out waiting_for step handing_out
    hands =
        either acks (resets ∷ urgents ∷ resends ∷ datas ∷ []) (ltb 0 (waiting_of n.node)) (next.Ack _) _
        (λ is. hands_first (next.Ack _) is acks _ _ _ (ack_went _ is)) (λ z. ap (map ack_item) (no_acks n.node z))
        (either resets (urgents ∷ resends ∷ datas ∷ []) (leb 4 (next_of n.book 0)) (next.Reset _) _
        (λ is. hands_first (next.Reset _) is resets _ _ _ (reset_went _ is)) (queue_empty resets 0 refl)
        (either urgents (resends ∷ datas ∷ []) (leb 4 (next_of n.book 1)) (next.Urgent _) _
        (λ is. hands_first (next.Urgent _) is urgents _ _ _ (urgent_went _ is)) (queue_empty urgents 1 refl)
        (either resends (datas ∷ []) (leb 4 (next_of n.book 2)) (next.Resend _) _
        (λ is. hands_first (next.Resend _) is resends _ _ _ (resend_went _ is)) (queue_empty resends 2 refl)
        (either datas [] (leb 4 (next_of n.book 3)) (next.Data _) next.Nothing
        (λ is. hands_first (next.Data _) is datas _ _ _ (data_went _ is)) (queue_empty datas 3 refl) nothing))))
        refl (rw (eq-eqb (under_in n.book) 0 free, le-ltb (length n.store) (store_of t) room))

-- and while a frame is under way none is handed out
pub hand_follows : (t : List ℕ) (n : Memory) (l : Lists) → Good t n.node n.book l → store_of t ≤ length n.store
    → (buffer : List ℕ) → Follows t n (stands_for t n l) (hands_out buffer)
unfolding answer after hand_out_answer hand_out_after step handing_out
hand_follows t n l g room buffer = sides (ℕ_discrete (under_in n.book) 0)
  where
    sides : Dec (under_in n.book ≡ 0) → Follows t n (stands_for t n l) (hands_out buffer)
    sides (yes free) = hands t n l g room free buffer
    sides (no u) =
        let z = ne_eqb (under_in n.book) 0 u in
        let M = stands_for t n l in
        let a : hand_out_answer (lent n buffer) ≡ Err UnderWay = rw z in
        let m : step M (hands_out buffer) ≡ answers (19 ∷ []) buffer M = rw z in
        record { answers = rw (a, m); stands = rw (a, m) (still g room) }
