-- The waiting acknowledgements: a ring of 32 words in the node, each an entry and a sequence number. Cited by arrival,
-- handing out and close. Assumes nothing.
use Rattle.std.specs.Prelude.{ℕ, zero, suc, ◌+◌, ◌*◌, ◌%◌, List, get_or, set, eqb}
use Rattle.units.specs.Refusals.{pick}
use Rattle.memory.specs.Layout.{oldest_at, acks_at, ack_at, ack_places, ack_entry, ack_number}
use Rattle.waiting.specs.declared.acks.Ack.{Ack}

-- where the oldest stands, and how many wait
abbrev pub place_of : List ℕ → ℕ
place_of ws = get_or ws oldest_at 0 % ack_places

abbrev pub waiting_of : List ℕ → ℕ
waiting_of ws = get_or ws acks_at 0 % 64

abbrev pub oldest_of : List ℕ → ℕ
oldest_of ws = get_or ws (ack_at (place_of ws)) 0

abbrev pub ack_of : ℕ → Ack
ack_of w = record { entry = ack_entry w; seq = record { 0 = ack_number w } }

-- and the word of an acknowledgement
abbrev pub word_of : Ack → ℕ
word_of a = a.entry * 256 + a.seq.0

-- one more, the last [H3, I2]
unfoldable pub pushed : List ℕ → ℕ → List ℕ
pushed ws w = set (set ws (ack_at ((place_of ws + waiting_of ws) % ack_places)) w) acks_at (waiting_of ws + 1)

-- the oldest gone [H1]
unfoldable pub popped : List ℕ → List ℕ
popped ws = set (set ws oldest_at ((place_of ws + 1) % ack_places)) acks_at ((waiting_of ws + 63) % 64)

-- the oldest goes, and to the end where it is not entry i's; a full turn leaves those of the others, in their order
unfoldable pub turned : ℕ → List ℕ → List ℕ
turned i ws = pick (eqb (ack_entry (oldest_of ws)) i) (popped ws) (pushed (popped ws) (oldest_of ws))

unfoldable pub turns : ℕ → ℕ → List ℕ → List ℕ
turns i zero ws = ws
turns i (suc k) ws = turned i (turns i k ws)

-- entry i's are gone [E7, E12]
abbrev pub dropped : ℕ → List ℕ → List ℕ
dropped i ws = turns i (waiting_of ws) ws
