-- Laws of the memory that is lent for a call: with as much of it as any table can ask for, nothing is refused with 6;
-- and a block or a frame buffer keeps its length. Proved in proofs/Room.antt. Assumes nothing.
use Rattle.std.specs.Prelude.{ℕ, ◌+◌, ◌*◌, ◌≤◌, ◌≡◌, ◌≢◌, List, length, get_or}
use Rattle.units.specs.Limits.{most_store, most_window}
use Rattle.units.specs.Refusals.{number_of}
use Rattle.units.specs.declared.refusals.Refusal.TheVariants as refusal
use Rattle.blocks.specs.Blocks.{empty, offset_bytes}
use Rattle.machine.specs.Calls.{Call, opens, closes, counts, sends, urges, plans, arrives, hands_out, reports}
use Rattle.machine.specs.Calls.{ticks}
use Rattle.machine.specs.Machine.{Machine}
use Rattle.machine.specs.Sound.{Sound}
use Rattle.machine.specs.Laws.{answer, lent}

-- the most bytes of a block, whatever the table: as many payloads as a window can have, which fill the store; no frame
-- is longer [B2, H4]
abbrev pub most_out : ℕ
most_out = empty + most_window * offset_bytes + most_store

-- a block or a frame buffer of so many bytes
abbrev pub Roomy : Call → Type 0
Roomy (opens i) = Unit {0}
Roomy (closes i) = Unit {0}
Roomy (counts i) = Unit {0}
Roomy (sends i p) = Unit {0}
Roomy (urges i p) = Unit {0}
Roomy (plans i block) = Unit {0}
Roomy (arrives block f) = most_out ≤ length block
Roomy (hands_out buffer) = most_out ≤ length buffer
Roomy reports = Unit {0}
Roomy ticks = Unit {0}

-- then nothing is refused with 6: the store of a sound machine is long enough. A tick's number is no refusal. [R6, L9]
unfoldable pub NeverShort : Type 0
NeverShort = (t : List ℕ) (m : Machine) → Sound t m → (c : Call) → c ≢ ticks → Roomy c
    → get_or (answer m c).numbers 0 0 ≢ number_of refusal.TooShort

-- block and frame buffer keep their length [B4, H4]
unfoldable pub BuffersStay : Type 0
BuffersStay = (m : Machine) (c : Call) → length (answer m c).out ≡ length (lent c)
