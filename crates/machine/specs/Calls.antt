-- The public calls of a node as one, with what each is given and what comes back. Cited by the machine and by whatever
-- is said of nodes. Assumes nothing.
use Rattle.std.specs.Prelude.{ℕ, ◌<◌, List, get_or}

-- a call with what it is given; an arrival also with its block, handing out with its frame buffer [D1, O1]
pub data Call : Type 0 where
  opens : (index : ℕ) → Call
  closes : (index : ℕ) → Call
  counts : (index : ℕ) → Call
  sends : (index : ℕ) (payload : List ℕ) → Call
  urges : (index : ℕ) (payload : List ℕ) → Call
  plans : (index : ℕ) (block : List ℕ) → Call
  arrives : (block frame : List ℕ) → Call
  hands_out : (buffer : List ℕ) → Call
  reports : Call  -- the end of the frame under way
  ticks : Call

-- what comes back: the paper's numbers, and what block or frame buffer hold then [O1, O3]
pub record Answer : Type 0 where
  pub numbers : List ℕ
  pub out : List ℕ

-- a frame that arrives is bytes [F1]
abbrev pub Bytes : List ℕ → Type 0
Bytes l = (k : ℕ) → get_or l k 0 < 256

-- what arrives from the link is bytes; of the other calls nothing is asked [F1]
abbrev pub Fed : Call → Type 0
Fed (opens i) = Unit {0}
Fed (closes i) = Unit {0}
Fed (counts i) = Unit {0}
Fed (sends i p) = Unit {0}
Fed (urges i p) = Unit {0}
Fed (plans i block) = Unit {0}
Fed (arrives block f) = Bytes f
Fed (hands_out buffer) = Unit {0}
Fed reports = Unit {0}
Fed ticks = Unit {0}
