-- A new node stays as it is until it is set up, but for its clock. Assumes nothing.
use Prim.Native.Nat.{ℕ, ◌-◌, ◌≤◌, ◌<◌}
use mathlib.Core.Path.{◌≡◌, refl, ap, ◌∙◌}
use mathlib.Core.Logic.{◌⊎◌, inl, inr}
use mathlib.Core.Bool.{Bool, true, false}
use mathlib.Core.List.{List, []}
use native.Mathlib.Omega.{arith}
use native.Mathlib.Nat.{mod-eq_of_lt}
use lib.ListN.{replicate, set, get_or-replicate}
use lib.Seq.{get_or-set_other}
use lib.Dec.{eqb}
use borrow.Author.Tests.{le-ltb}
use Rattle.units.specs.Refusals.{pick}
use Rattle.memory.specs.Layout.{clock_at, quiet_at, under_at, row_at, node_words, book_halves}
use Rattle.window.proofs.Bits.{bit_of_zero}
use Rattle.end_points.specs.Heads.{count_in}
use Rattle.arrive_lookup.specs.Lookup.{row_in, channel_digit, remote_digit, Indexed}
use Rattle.arrive_lookup.proofs.Rows.{row_zero}
use Rattle.timing.specs.Timing.{clock_in, later}
use Rattle.timing.proofs.Falling.{later_next}
use Rattle.call_tick.specs.Ticking.{tick_after, tick_both, still_after, scan_after, scan_both, recover_all, tick_entries}
use Rattle.call_hand_out.specs.Handing.{hand_out_answer, hand_out_after, next_out, out_node, out_book}
use Rattle.call_hand_out.specs.declared.Next.TheVariants as next
use Rattle.good.specs.Calls.{Memory, lent, bare, kept, kept_bare, after}
use Rattle.machine.specs.Calls.{Call, opens, closes, counts, sends, urges, plans, arrives, hands_out, reports, ticks}
use Rattle.good.specs.NewNode.{new_at, new_after, NewStays}
use Rattle.good.proofs.Planned.{by_plan}
use Rattle.good.proofs.ReportKeeps.{report_refused}
use Rattle.good.proofs.OpenKeeps.{open_refused}
use Rattle.good.proofs.CloseKeeps.{close_refused}
use Rattle.good.proofs.SendKeeps.{send_refused}
use Rattle.good.proofs.UrgentKeeps.{urgent_refused}
use Rattle.good.proofs.Arrivals.{Taken, Refused, arrives as comes}
use Rattle.std.specs.Prelude.{Result, Ok, Err}
use Rattle.units.specs.declared.refusals.Refusal.{Refusal}

module _ (store : List ℕ) (c q : ℕ) where
  abbrev new : Memory
  new = new_at store c q

  none : (i : ℕ) → count_in new.node ≤ i
  none i = omega arith

  -- its index lists none
  zero_row : (v : ℕ) → row_in new.node v ≡ 0
  zero_row v =
      row_zero new.node v
      (λ h. get_or-set_other (set (replicate node_words 0) clock_at c) quiet_at (row_at v) q 0 (λ e. omega arith)
      ∙ get_or-set_other (replicate node_words 0) clock_at (row_at v) c 0 (λ e. omega arith)
      ∙ get_or-replicate node_words (row_at v) 0 0 (omega arith))

  new_index : Indexed new.node
  new_index =
      record {
        few = none 16;
        channels = λ sends v i h. rw (zero_row v, le-ltb i (count_in new.node) (none i)) (bit_of_zero (channel_digit sends i));
        remotes = λ v i h. rw (zero_row v, le-ltb i (count_in new.node) (none i)) (bit_of_zero (remote_digit i));
      }

  -- nothing waits
  nothing : next_out new.node new.book ≡ next.Nothing
  unfolding next_out
  nothing = refl

  hand_same : (buffer : List ℕ) (a : Result ℕ Refusal) → kept (hand_out_after (lent new buffer) a) ≡ new
  unfolding hand_out_after out_node out_book
  hand_same buffer (Err w) = refl
  hand_same buffer (Ok n) = rw nothing

  arrive_same : (block f : List ℕ) → Refused (lent new block) f ⊎ Taken (lent new block) f → after new (arrives block f) ≡ new
  unfolding after
  arrive_same block f (inl r) = ap kept r.after
  arrive_same block f (inr a) = absurd (let k = a.known in let z = none a.entry in omega arith)

  -- a tick that passes moves the clock's words, and so does one that goes through the entries: there are none
  still_new : (d : ℕ) → kept_bare new (still_after d (bare new)).lent ≡ new_at store d (q - 1)
  still_new d = refl

  scan_new : (d : ℕ) → kept_bare new (scan_after d (bare new)).lent ≡ new_at store d 65534
  unfolding scan_after scan_both recover_all tick_entries
  scan_new d = refl

  tick_moves : c ≤ 65535 → kept_bare new (tick_after (bare new)) ≡ new_at store (later c 1) (pick (eqb q 0) 65534 (q - 1))
  unfolding tick_after tick_both
  tick_moves small =
      let clock : clock_in new.node ≡ c = mod-eq_of_lt (let h : c < 65536 = omega arith in h) in
      ap (λ (z : ℕ). kept_bare new (pick (eqb q 0) (scan_after (later z 1) (bare new)) (still_after (later z 1) (bare new))).lent) clock
      ∙ sides (eqb q 0)
    where
      sides : (z : Bool)
          → kept_bare new (pick z (scan_after (later c 1) (bare new)) (still_after (later c 1) (bare new))).lent ≡ new_at store (later c 1) (pick z 65534 (q - 1))
      sides true = scan_new (later c 1)
      sides false = still_new (later c 1)

pub send_same : (store : List ℕ) (c q i : ℕ) (p : List ℕ) → after (new_at store c q) (sends i p) ≡ new_at store c q
unfolding after
send_same store c q i p = ap kept (send_refused (lent (new_at store c q) []) i p (none store c q i))

stays : (store : List ℕ) (c q : ℕ) → c ≤ 65535 → (k : Call) → after (new_at store c q) k ≡ new_after store c q k
unfolding after
stays store c q small (opens i) = ap (kept_bare (new_at store c q)) (open_refused (bare (new_at store c q)) i (none store c q i))
stays store c q small (closes i) = ap (kept_bare (new_at store c q)) (close_refused (bare (new_at store c q)) i (none store c q i))
stays store c q small (counts i) = refl
stays store c q small (sends i p) = send_same store c q i p
stays store c q small (urges i p) = ap kept (urgent_refused (lent (new_at store c q) []) i p (none store c q i))
stays store c q small (plans i block) =
    by_plan (λ n m. n ≡ new_at store c q → m ≡ new_at store c q) i (λ n e. e)
    (λ n p m s e. s (ap (λ (k : Memory). after k (sends i p)) e ∙ send_same store c q i p)) (new_at store c q) block refl
stays store c q small (arrives block f) = arrive_same store c q block f (comes (lent (new_at store c q) block) (new_index store c q) f)
stays store c q small (hands_out buffer) = hand_same store c q buffer (hand_out_answer (lent (new_at store c q) buffer))
stays store c q small reports = ap (kept_bare (new_at store c q)) (report_refused (bare (new_at store c q)) (get_or-replicate book_halves under_at 0 0 (omega arith)))
stays store c q small ticks = tick_moves store c q small

pub new_stays : NewStays
new_stays = record { begins = λ store. refl; stays = stays; small = later_next }
