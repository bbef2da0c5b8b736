-- Words of an entry's run, put one at a time: of the node only that entry's run alters, and the end point afterwards is
-- the one before with the run that its words then say. So for each call that puts no more than what alters. Assumes
-- nothing.
use Prim.Native.Nat.{ℕ, ◌+◌, ◌%◌, ◌≤◌, ◌<◌}
use mathlib.Core.Path.{◌≡◌, refl, ap, ◌∙◌}
use mathlib.Core.Bool.{Bool, true, false}
use mathlib.Core.List.{List}
use native.Mathlib.Nat.{add-zero, mod-eq_of_lt}
use native.Mathlib.Omega.{arith}
use lib.ListN.{length, get_or, set, length-set}
use lib.Seq.{get_or-set_same, get_or-set_other}
use lib.Dec.{eqb}
use borrow.Author.Tests.{eqb-true, eqb-false}
use Rattle.units.specs.Refusals.{pick}
use Rattle.memory.specs.Layout.{clock_at, quiet_at, row_at, entry_at, node_words}
use Rattle.window.specs.declared.Window.{Window}
use Rattle.end_points.specs.Ends.{word, load_entry, load_run, end_of}
use Rattle.end_points.specs.declared.Run.{Run}
use Rattle.end_points.specs.declared.EndPoint.{EndPoint}
use Rattle.end_points.proofs.Kept.{end_ext, RunFits}
use Rattle.waiting.specs.Acks.{waiting_of}
use Rattle.waiting.specs.Order.{acks_in}
use Rattle.call_send.specs.Sending.{sent_run, sent_node}
use Rattle.call_hand_out.specs.Handing.{handed_run, handed_node}
use Rattle.arrive_data.specs.Receiving.{with_window, window_node}
use Rattle.arrive_ack.specs.Acking.{counted_node}
use Rattle.good.proofs.Turns.{turned_to, acks_ext}
use Rattle.good.proofs.Framing.{Apart, apart_same, apart_then}

-- words of which word k is v, and the run that words say
abbrev with : (ℕ → ℕ) → ℕ → ℕ → ℕ → ℕ
with f k v j = pick (eqb j k) v (f j)

abbrev run_in : (ℕ → ℕ) → ℕ → Run
run_in f size =
    record {
      window = record {
        start = record { 0 = f 11 % 256 };
        size = size;
        marks = record { 0 = f 12; 1 = f 13 };
      };
      taken = f 14 % 256;
      handed = f 15 % 256;
      accepted = record { 0 = f 16 % 4294967296 };
      confirmed = record { 0 = f 17 % 4294967296 };
      urgent = f 18 % 65536;
    }

-- of node ws the words of entry i's run were put, as f says
pub record Puts (ws ws' : List ℕ) (i : ℕ) (f : ℕ → ℕ) : Type 0 where
  pub apart : Apart i ws ws'
  pub waits : waiting_of ws' ≡ waiting_of ws
  pub acks : acks_in ws' ≡ acks_in ws
  words : (j : ℕ) → word ws' i j ≡ f j
  rest : (j : ℕ) → j < 11 → f j ≡ word ws i j

none : (ws : List ℕ) (i : ℕ) → Puts ws ws i (word ws i)
none ws i = record { apart = apart_same i ws; waits = refl; acks = refl; words = λ j. refl; rest = λ j h. refl }

module _ (ws : List ℕ) (i : ℕ) (long : length ws ≡ node_words) (low : i < 16) where
  -- one word more
  module _ (vs : List ℕ) (f : ℕ → ℕ) (p : Puts ws vs i f) (k v : ℕ) (first : 11 ≤ k) (last : k < 19) where
    abbrev put : List ℕ
    put = set vs (entry_at i + k) v

    elsewhere : (j : ℕ) → (j ≡ entry_at i + k → ⊥) → get_or put j 0 ≡ get_or vs j 0
    elsewhere j n = get_or-set_other vs (entry_at i + k) j v 0 n

    put_apart : Apart i vs put
    put_apart =
        record {
          long = length-set vs (entry_at i + k) v;
          head = λ j h. elsewhere j (λ e. omega arith);
          clock = ap (λ (z : ℕ). z % 65536) (elsewhere clock_at (λ e. omega arith));
          quiet = let q = elsewhere quiet_at (λ e. omega arith) in omega (arith, q);
          table = λ j m h. elsewhere (entry_at j + m) (λ e. omega arith);
          rows = λ u h. elsewhere (row_at u) (λ e. omega arith);
          others = λ j n. end_ext put vs j (λ m h. elsewhere (entry_at j + m) (λ e. n (omega arith)));
        }

    put_words : (j : ℕ) (z : Bool) → eqb j k ≡ z → word put i j ≡ pick z v (f j)
    put_words j true e =
        ap (λ (m : ℕ). word put i m) (eqb-true j k e)
        ∙ get_or-set_same vs (entry_at i + k) v 0 (omega (arith, p.apart.long, long))
    put_words j false e = elsewhere (entry_at i + j) (λ h. eqb-false j k e (omega arith)) ∙ p.words j

    put_rest : (j : ℕ) → j < 11 → (z : Bool) → eqb j k ≡ z → pick z v (f j) ≡ word ws i j
    put_rest j h true e = absurd (let m = eqb-true j k e in omega arith)
    put_rest j h false e = p.rest j h

    one_more : Puts ws put i (with f k v)
    one_more =
        let a = acks_ext vs put (λ j h. elsewhere j (λ e. omega arith)) in
        record {
          apart = apart_then i ws vs put p.apart put_apart;
          waits = a.0 ∙ p.waits;
          acks = a.1 ∙ p.acks;
          words = λ j. put_words j (eqb j k) refl;
          rest = λ j h. put_rest j h (eqb j k) refl;
        }

  -- the end point is read with the run that its words say
  put_end : {vs : List ℕ} {f : ℕ → ℕ} → Puts ws vs i f
      → end_of vs i ≡ turned_to (end_of ws i) (end_of ws i).state (run_in f (end_of ws i).run.window.size)
  unfolding end_of load_entry load_run
  put_end {vs} {f} p =
      let s : (j : ℕ) → j < 11 → word vs i j ≡ word ws i j = λ j h. p.words j ∙ p.rest j h in
      let kind : get_or vs (entry_at i) 0 ≡ get_or ws (entry_at i) 0 = rw (add-zero (entry_at i)) at (s 0 (omega arith)) in
      rw (
        kind,
        s 1 (omega arith),
        s 2 (omega arith),
        s 3 (omega arith),
        s 4 (omega arith),
        s 5 (omega arith),
        s 6 (omega arith),
        s 7 (omega arith),
        s 8 (omega arith),
        s 9 (omega arith),
        s 10 (omega arith),
        p.words 11,
        p.words 12,
        p.words 13,
        p.words 14,
        p.words 15,
        p.words 16,
        p.words 17,
        p.words 18,
      )

  abbrev e : EndPoint
  e = end_of ws i

  -- ---- a payload is sent: two words

  pub sent_puts : Puts ws (sent_node ws i e.run) i
      (with (with (word ws i) 14 (e.run.taken + 1)) 16 (e.run.accepted.0 + 1))
  sent_puts =
      let one = one_more ws (word ws i) (none ws i) 14 (e.run.taken + 1) (omega arith) (omega arith) in
      one_more _ _ one 16 (e.run.accepted.0 + 1) (omega arith) (omega arith)

  pub sent_end : e.run.taken < 255 → e.run.accepted.0 < 4294967295
      → end_of (sent_node ws i e.run) i ≡ turned_to e e.state (sent_run e.run)
  unfolding end_of load_run sent_run
  sent_end taken accepted =
      let t : (e.run.taken + 1) % 256 ≡ e.run.taken + 1 = mod-eq_of_lt (omega arith) in
      let a : (e.run.accepted.0 + 1) % 4294967296 ≡ e.run.accepted.0 + 1 = mod-eq_of_lt (omega arith) in
      put_end sent_puts ∙ rw (t, a)

  -- ---- data is handed out: one

  pub handed_puts : Puts ws (handed_node ws i e.run) i (with (word ws i) 15 ((e.run.handed + 1) % 256))
  handed_puts = one_more ws (word ws i) (none ws i) 15 ((e.run.handed + 1) % 256) (omega arith) (omega arith)

  pub handed_end : end_of (handed_node ws i e.run) i ≡ turned_to e e.state (handed_run e.run)
  unfolding end_of load_run handed_run
  handed_end =
      let h : (e.run.handed + 1) % 256 % 256 ≡ (e.run.handed + 1) % 256 = omega arith in
      put_end handed_puts ∙ rw h

  -- ---- another window: three

  module _ (w : Window) where
    pub window_puts : Puts ws (window_node ws i w) i
        (with (with (with (word ws i) 11 w.start.0) 12 w.marks.0) 13 w.marks.1)
    window_puts =
        let one = one_more ws (word ws i) (none ws i) 11 w.start.0 (omega arith) (omega arith) in
        let two = one_more _ _ one 12 w.marks.0 (omega arith) (omega arith) in
        one_more _ _ two 13 w.marks.1 (omega arith) (omega arith)

    pub window_end : w.start.0 < 256 → w.size ≡ e.run.window.size
        → end_of (window_node ws i w) i ≡ turned_to e e.state (with_window e.run w)
    unfolding end_of load_run with_window
    window_end byte size =
        let s : w.start.0 % 256 ≡ w.start.0 = mod-eq_of_lt byte in
        put_end window_puts ∙ rw (s, ← size)

  -- ---- an acknowledgement counts: six

  module _ (r : Run) where
    pub counted_puts : Puts ws (counted_node ws i r) i
        (with (with (with (with (with (with (word ws i) 11 r.window.start.0) 12 r.window.marks.0)
        13 r.window.marks.1) 14 r.taken) 15 r.handed) 17 r.confirmed.0)
    counted_puts =
        let one = one_more ws (word ws i) (none ws i) 11 r.window.start.0 (omega arith) (omega arith) in
        let two = one_more _ _ one 12 r.window.marks.0 (omega arith) (omega arith) in
        let three = one_more _ _ two 13 r.window.marks.1 (omega arith) (omega arith) in
        let four = one_more _ _ three 14 r.taken (omega arith) (omega arith) in
        let five = one_more _ _ four 15 r.handed (omega arith) (omega arith) in
        one_more _ _ five 17 r.confirmed.0 (omega arith) (omega arith)

    pub counted_end : RunFits r → r.window.size ≡ e.run.window.size → r.accepted ≡ e.run.accepted
        → r.urgent ≡ e.run.urgent → end_of (counted_node ws i r) i ≡ turned_to e e.state r
    unfolding end_of load_run
    counted_end fits size accepted urgent =
        put_end counted_puts
        ∙ rw (
          mod-eq_of_lt fits.start,
          mod-eq_of_lt fits.taken,
          mod-eq_of_lt fits.handed,
          mod-eq_of_lt fits.confirmed,
          ← size,
          ← accepted,
          ← urgent,
        )
