-- Which entry a frame is for: the one of the fitting kind, with the frame's source as remote address and its channel.
-- It is found by the index, so that a frame costs the same however many entries there are. Cited by setup and by
-- arrival. Assumes nothing.
use Rattle.std.specs.Prelude.{ℕ, zero, suc, ◌+◌, ◌^◌, ◌≤◌, ◌<◌, ◌≡◌, Bool, true, false, ◌&&◌, List, get_or, set}
use Rattle.std.specs.Prelude.{eqb, ltb}
use Rattle.std.specs.Int.Bits.{bit_or}
use Rattle.units.specs.Refusals.{pick}
use Rattle.memory.specs.Layout.{row_at}
use Rattle.window.specs.Marks.{bit}
use Rattle.frame.specs.Types.{for_sender}
use Rattle.frame.specs.declared.FrameType.{FrameType}
use Rattle.table.specs.declared.Entry.{Entry}
use Rattle.end_points.specs.Ends.{load_entry}
use Rattle.end_points.specs.Heads.{count_in}
use Rattle.end_points.specs.States.{is_sends}
use Rattle.arrive_lookup.specs.Fitting.{same}

-- ---- the index

-- row v of 256: binary digit i is 1 where entry i sends over channel v, digit 16 + i where it receives over channel v,
-- digit 32 + i where its remote address is v
abbrev pub row_in : List ℕ → ℕ → ℕ
row_in ws v = pick (ltb v 256) (get_or ws (row_at v) 0) 0

abbrev pub channel_digit : Bool → ℕ → ℕ
channel_digit true i = i
channel_digit false i = 16 + i

abbrev pub remote_digit : ℕ → ℕ
remote_digit i = 32 + i

-- row v with digit k too
abbrev pub marked : List ℕ → ℕ → ℕ → List ℕ
marked ws v k = set ws (row_at v) (bit_or (row_in ws v) (2 ^ k))

-- entry i, which is e, put into the index
unfoldable pub indexed : List ℕ → ℕ → Entry → List ℕ
indexed ws i e = marked (marked ws e.channel.0 (channel_digit (is_sends e.kind) i)) e.remote.0 (remote_digit i)

-- the index says of each entry what the table does [R13]
pub record Indexed (ws : List ℕ) : Type 0 where
  pub few : count_in ws ≤ 16
  pub channels : (sends : Bool) (v i : ℕ) → i < 16
      → bit (row_in ws v) (channel_digit sends i)
      ≡ (ltb i (count_in ws) && (eqb (load_entry ws i).channel.0 v && same sends (is_sends (load_entry ws i).kind)))
  pub remotes : (v i : ℕ) → i < 16 → bit (row_in ws v) (remote_digit i)
      ≡ (ltb i (count_in ws) && eqb (load_entry ws i).remote.0 v)

-- ---- the entry that is found

-- by the index entry i is one of a kind, a remote address and a channel
abbrev pub listed : List ℕ → Bool → ℕ → ℕ → ℕ → Bool
listed ws sends source channel i = bit (row_in ws channel) (channel_digit sends i)
    && bit (row_in ws source) (remote_digit i)

-- the first of the n numbers from k on that p holds of; k + n where it holds of none
unfoldable pub first_from : (ℕ → Bool) → ℕ → ℕ → ℕ
first_from p k zero = k
first_from p k (suc n) = pick (p k) k (first_from p (suc k) n)

-- the entry that a frame of a type is for; 16 where there is none [F16, R13]
unfoldable pub entry_for : List ℕ → FrameType → ℕ → ℕ → ℕ
entry_for ws t source channel = first_from (listed ws (for_sender t) source channel) 0 16
