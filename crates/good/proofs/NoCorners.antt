-- On a good node no case arises that is there for garbage alone. Assumes nothing.
use Prim.Native.Nat.{ℕ, ◌≤◌, ◌<◌}
use mathlib.Core.Path.{◌≡◌, refl}
use mathlib.Core.Bool.{true, ◌&&◌}
use mathlib.Core.List.{List}
use native.Mathlib.Omega.{arith}
use lib.Dec.{ltb}
use Rattle.frame.specs.declared.FrameType.{FrameType}
use Rattle.window.proofs.Sizes.{size_pos, size_le}
use Rattle.table.specs.Layout.{entry_of}
use Rattle.table.specs.Areas.{place_of}
use Rattle.table.proofs.Places.{slot_in_store}
use Rattle.end_points.specs.Ends.{load_entry, end_of}
use Rattle.end_points.specs.Heads.{count_in}
use Rattle.end_points.specs.States.{is_sends}
use Rattle.end_points.specs.declared.State.{State}
use Rattle.end_points.specs.declared.State.TheVariants.{Closed, Enabled, Open, Failing}
use Rattle.end_points.specs.declared.EndPoint.{EndPoint}
use Rattle.arrive_lookup.specs.Lookup.{first_from, entry_for}
use Rattle.frame.specs.Types.{for_sender}
use Rattle.arrive_lookup.specs.Fitting.{fits}
use Rattle.arrive_lookup.proofs.Found.{first_fit}
use Rattle.good.specs.Good.{Lists, Stated, Good}
use Rattle.good.specs.Corners.{NoCorner, NoCorners}
use Rattle.good.proofs.Known.{stated_as}
use Rattle.good.proofs.Framing.{count_low, slot_lt}
use Rattle.good.proofs.Lined.{waits_below}

sender_counts : (b : List ℕ) (l : Lists) (i : ℕ) (e : EndPoint) (s : State) → Stated b l i e true s → (e.run.handed ≤ e.run.taken) × (e.run.taken ≤ e.run.window.size)
sender_counts b l i e Closed a = let f = a.fresh in (omega (arith, f.handed), omega (arith, f.taken))
sender_counts b l i e (Enabled t sent) a = let f = a.fresh in (omega (arith, f.handed), omega (arith, f.taken))
sender_counts b l i e Open a = (a.sending.handed, a.sending.taken)
sender_counts b l i e (Failing n) a = (a.sending.handed, a.sending.taken)

module _ (t ws b : List ℕ) (l : Lists) (g : Good t ws b l) where
  table_end : (i : ℕ) → i < count_in ws → ((end_of ws i).entry ≡ entry_of t i) × ((end_of ws i).place ≡ place_of t i)
  unfolding end_of
  table_end i h = (g.tabled.entry i (omega (arith, g.tabled.count)), g.tabled.place i (omega (arith, g.tabled.count)))

  counts_at : (i : ℕ) → i < count_in ws → is_sends (end_of ws i).entry.kind ≡ true → ((end_of ws i).run.handed ≤ (end_of ws i).run.taken) × ((end_of ws i).run.taken ≤ (end_of ws i).run.window.size)
  counts_at i h k =
      sender_counts b l i (end_of ws i) (end_of ws i).state (stated_as b l i (end_of ws i) (g.entered i h) true k (end_of ws i).state refl)

  found_first : (q : FrameType) (source channel : ℕ)
      → entry_for ws q source channel ≡ first_from (λ i. ltb i (count_in ws) && fits (load_entry ws i) (for_sender q) source channel) 0 16
  unfolding entry_for
  found_first q source channel = first_fit ws g.tabled.index (for_sender q) source channel

  pub no_corner : NoCorner t ws b l
  no_corner =
      record {
        words = λ i h k m. let c = count_low t ws b l g in omega (arith, g.long);
        acks = g.acks;
        links = λ q h x m. let z = waits_below b l g.lines q h x m in omega arith;
        cells = λ i h s.
            let c = count_low t ws b l g in
            let w = (g.entered i h).window in
            let z = slot_lt (end_of ws i).run.window s w in
            omega (arith, size_le (end_of ws i).run.window.size w.sized, g.lines.long);
        slots = λ i h k m.
            let e = table_end i h in
            rw (e.0, e.1, g.tabled.need) (slot_in_store t i k (omega (arith, g.tabled.count)) m);
        sized = λ i h. size_pos (end_of ws i).run.window.size (g.entered i h).window.sized;
        handed = λ i h k. (counts_at i h k).0;
        found = found_first;
        taken = λ i h k. let z = (counts_at i h k).1 in omega (arith, size_le (end_of ws i).run.window.size (g.entered i h).window.sized);
      }

pub no_corners : NoCorners
unfolding NoCorners
no_corners t ws b l g = no_corner t ws b l g
