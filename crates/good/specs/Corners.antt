-- Cases that are there for garbage alone, to which no node from setup and calls comes: reads and stores past the end
-- of what is lent, windows without a size, counts that would wrap, an index that says something else than the table.
-- Assumes nothing.
use Rattle.std.specs.Prelude.{ℕ, ◌+◌, ◌≤◌, ◌<◌, ◌≡◌, true, ◌&&◌, length, ltb}
use mathlib.Core.List.{List, Memᴰ}
use Rattle.memory.specs.Layout.{entry_long, entry_at, ack_places, queues, prev_at, length_at, retries_at}
use Rattle.waiting.specs.Acks.{waiting_of}
use Rattle.frame.specs.declared.FrameType.{FrameType}
use Rattle.table.specs.Layout.{entry_of}
use Rattle.table.specs.Areas.{slots_of}
use Rattle.end_points.specs.Ends.{load_entry, end_of}
use Rattle.end_points.specs.Heads.{count_in, need_in}
use Rattle.end_points.specs.States.{is_sends}
use Rattle.arrive_lookup.specs.Lookup.{first_from, entry_for}
use Rattle.frame.specs.Types.{for_sender}
use Rattle.arrive_lookup.specs.Fitting.{fits}
use Rattle.slots.specs.Slots.{cell, spot}
use Rattle.good.specs.Good.{Lists, Good}

-- of a good node: none of these corners [S1, I2, O2]
pub record NoCorner (t ws b : List ℕ) (l : Lists) : Type 0 where
  -- an entry's words lie in the node; so do the acknowledgements, of which no more wait than there are places
  pub words : (i : ℕ) → i < count_in ws → (k : ℕ) → k < entry_long → entry_at i + k < length ws
  pub acks : waiting_of ws ≤ ack_places
  -- what waits has its links in the book
  pub links : (q : ℕ) → q < queues → (x : ℕ) → Memᴰ x (l q) → prev_at x < length_at 0
  -- every number's cell lies in the book, in its own entry's area
  pub cells : (i : ℕ) → i < count_in ws → (s : ℕ) → retries_at (cell i (end_of ws i).run.window s) < length b
  -- every slot lies in the store that is asked for
  pub slots : (i : ℕ) → i < count_in ws → (k : ℕ) → k < slots_of (entry_of t i).kind (entry_of t i).window
      → spot (end_of ws i).place (end_of ws i).entry.largest k + (end_of ws i).entry.largest ≤ need_in ws
  -- a window has a size
  pub sized : (i : ℕ) → i < count_in ws → 0 < (end_of ws i).run.window.size
  -- a sender's counts neither wrap nor fall below 0
  pub handed : (i : ℕ) → i < count_in ws → is_sends (end_of ws i).entry.kind
      ≡ true → (end_of ws i).run.handed ≤ (end_of ws i).run.taken
  pub taken : (i : ℕ) → i < count_in ws → is_sends (end_of ws i).entry.kind ≡ true → (end_of ws i).run.taken ≤ 128
  -- the entry that a frame is for by the index is the first that fits by the table
  pub found : (q : FrameType) (source channel : ℕ)
      → entry_for ws q source channel ≡ first_from
      (λ i. ltb i (count_in ws) && fits (load_entry ws i) (for_sender q) source channel) 0 16

-- so of every good node [S1, O2]
unfoldable pub NoCorners : Type 0
NoCorners = (t ws b : List ℕ) (l : Lists) → Good t ws b l → NoCorner t ws b l
