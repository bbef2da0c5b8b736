-- OUTSIDE VECTORS OF THE MACHINE: calls on one node, each with what the C peer's desk (peer/) wrote on it, and the
-- claim that the machine (specs/Machine.antt) answers every one so, by computing. This file is written by
-- tools/machine_vectors.py, where each step of the trace is explained; tests/machine_vectors holds it to that.
-- Assumes nothing.
use Prim.Native.Nat.{ℕ}
use mathlib.Core.Path.{◌≡◌, refl}
use mathlib.Core.List.{List, [], ◌∷◌, ◌++◌}
use lib.ListN.{get_or, take, replicate}
use lib.Dec.{leb}
use Rattle.units.specs.Bytes.{get16_of, get32_of, be32}
use Rattle.units.specs.Refusals.{pick}
use Rattle.units.specs.Sizes.{default_size}
use Rattle.check8.specs.Polynomial.{times_x, times_xs, step_byte, check_from}
use Rattle.table.specs.Layout.{entry_of, entry_from}
use Rattle.table.specs.Areas as areas
use Rattle.frame.specs.Layout.{payload_of, head_bytes, body_bytes, frame_bytes}
use Rattle.frame.specs.Reading.{sound_of, header_of}
use Rattle.arrive_lookup.specs.Fitting.{fits}
use Rattle.blocks.specs.Blocks.{offsets, joined_up, block_of}
use Rattle.blocks.specs.Reading.{payload_in, payloads_in, read_block, never_fall, is_block, is_plan}
use Rattle.machine.specs.Calls.{Call, opens, closes, counts, sends, urges, plans, arrives, hands_out, reports}
use Rattle.machine.specs.Calls.{ticks, Answer}
use Rattle.machine.specs.Machine as machine
use Rattle.machine.specs.Machine.{Machine, begun, step}

-- ---- the table, and as much store as it asks for

pub table : List ℕ
table =
    0 ∷ 5 ∷ 0 ∷ 8 ∷ 64 ∷ 238 ∷ 0 ∷ 0
    ∷ 0 ∷ 65 ∷ 7 ∷ 1 ∷ 0 ∷ 4 ∷ 0 ∷ 3 ∷ 0 ∷ 1 ∷ 0 ∷ 0  -- 0 sends to 65 over 7: W 4, P 3, M 1, T 1
    ∷ 1 ∷ 65 ∷ 7 ∷ 0 ∷ 0 ∷ 4 ∷ 0 ∷ 3 ∷ 0 ∷ 0 ∷ 0 ∷ 0  -- 1 receives from 65 over 7: W 4, P 3
    ∷ 0 ∷ 66 ∷ 7 ∷ 0 ∷ 0 ∷ 2 ∷ 0 ∷ 4 ∷ 0 ∷ 2 ∷ 0 ∷ 0  -- 2 sends to 66 over 7: W 2, P 4, M 0, T 2
    ∷ 1 ∷ 66 ∷ 9 ∷ 0 ∷ 0 ∷ 0 ∷ 0 ∷ 4 ∷ 0 ∷ 0 ∷ 0 ∷ 0  -- 3 receives from 66 over 9: W 0 for 8, P 4
    ∷ 0 ∷ 66 ∷ 8 ∷ 3 ∷ 0 ∷ 2 ∷ 0 ∷ 1 ∷ 0 ∷ 3 ∷ 0 ∷ 0  -- 4 sends to 66 over 8: W 2, P 1, M 3, T 3
    ∷ []

pub room : ℕ
room = 74

-- ---- the vectors

-- a call, and the desk's line on it without number and kind: the refusal or 0; values; the bytes of a block, or of a
-- frame that went out
abbrev Vector : Type 0
Vector = Call × List ℕ

-- a block or frame buffer of n bytes
abbrev lent : ℕ → List ℕ
lent n = replicate n 0

pub vectors : List Vector
vectors =
    -- senders open: a Reset goes out, and again when its timer ends; acknowledgement 0 opens
    (opens 5, 2 ∷ [])
    ∷ (opens 3, 0 ∷ [])
    ∷ (opens 1, 0 ∷ [])
    ∷ (opens 2, 0 ∷ [])
    ∷ (opens 0, 0 ∷ [])
    ∷ (opens 0, 4 ∷ [])
    ∷ (sends 0 [], 4 ∷ [])
    ∷ (arrives (lent 0) (64 ∷ 238 ∷ 65 ∷ 1 ∷ 0 ∷ 0 ∷ 7 ∷ 0 ∷ 25 ∷ []), 0 ∷ 0 ∷ 0 ∷ [])
    ∷ (hands_out (lent 9), 0 ∷ 9 ∷ 66 ∷ 238 ∷ 64 ∷ 2 ∷ 0 ∷ 0 ∷ 7 ∷ 0 ∷ 176 ∷ [])
    ∷ (reports, 0 ∷ [])
    ∷ (hands_out (lent 9), 0 ∷ 9 ∷ 65 ∷ 238 ∷ 64 ∷ 2 ∷ 0 ∷ 0 ∷ 7 ∷ 0 ∷ 133 ∷ [])
    ∷ (reports, 0 ∷ [])
    ∷ (ticks, 0 ∷ 0 ∷ [])
    ∷ (arrives (lent 0) (64 ∷ 238 ∷ 65 ∷ 1 ∷ 0 ∷ 0 ∷ 7 ∷ 0 ∷ 25 ∷ []), 0 ∷ 2 ∷ 0 ∷ [])
    ∷ (ticks, 0 ∷ 0 ∷ [])
    ∷ (hands_out (lent 9), 0 ∷ 9 ∷ 66 ∷ 238 ∷ 64 ∷ 2 ∷ 0 ∷ 0 ∷ 7 ∷ 0 ∷ 176 ∷ [])
    ∷ (reports, 0 ∷ [])
    ∷ (arrives (lent 0) (64 ∷ 238 ∷ 66 ∷ 1 ∷ 0 ∷ 0 ∷ 7 ∷ 1 ∷ 101 ∷ []), 0 ∷ 0 ∷ 2 ∷ [])
    ∷ (arrives (lent 0) (64 ∷ 238 ∷ 66 ∷ 1 ∷ 0 ∷ 0 ∷ 7 ∷ 0 ∷ 98 ∷ []), 0 ∷ 2 ∷ 2 ∷ [])
    -- a receiver opens, delivers, holds, until 32 acknowledgements wait: no Data and no Reset then
    ∷ (arrives (lent 0) (64 ∷ 238 ∷ 66 ∷ 2 ∷ 0 ∷ 0 ∷ 9 ∷ 0 ∷ 18 ∷ []), 0 ∷ 3 ∷ 3 ∷ 0 ∷ [])
    ∷ (arrives (lent 70) (64 ∷ 238 ∷ 66 ∷ 0 ∷ 0 ∷ 1 ∷ 9 ∷ 1 ∷ 1 ∷ 40 ∷ []), 0 ∷ 4 ∷ 3 ∷ 11 ∷ 0 ∷ 1 ∷ 0 ∷ 0 ∷ 0 ∷ 10 ∷ 0 ∷ 0 ∷ 0 ∷ 11 ∷ 1 ∷ [])
    ∷ (arrives (lent 70) (64 ∷ 238 ∷ 66 ∷ 0 ∷ 0 ∷ 1 ∷ 9 ∷ 3 ∷ 3 ∷ 12 ∷ []), 0 ∷ 4 ∷ 3 ∷ 6 ∷ 0 ∷ 0 ∷ 0 ∷ 0 ∷ 0 ∷ 6 ∷ [])
    ∷ (arrives (lent 70) (64 ∷ 238 ∷ 66 ∷ 0 ∷ 0 ∷ 1 ∷ 9 ∷ 9 ∷ 9 ∷ 184 ∷ []), 0 ∷ 4 ∷ 3 ∷ 6 ∷ 0 ∷ 0 ∷ 0 ∷ 0 ∷ 0 ∷ 6 ∷ [])
    ∷ replicate 28 (arrives (lent 70) (64 ∷ 238 ∷ 66 ∷ 0 ∷ 0 ∷ 1 ∷ 9 ∷ 10 ∷ 10 ∷ 142 ∷ []), 0 ∷ 4 ∷ 3 ∷ 6 ∷ 0 ∷ 0 ∷ 0 ∷ 0 ∷ 0 ∷ 6 ∷ [])
    ++ (arrives (lent 34) (64 ∷ 238 ∷ 65 ∷ 0 ∷ 0 ∷ 4 ∷ 7 ∷ 1 ∷ 1 ∷ 2 ∷ 3 ∷ 4 ∷ 76 ∷ []), 13 ∷ [])
    ∷ (arrives (lent 70) (64 ∷ 238 ∷ 66 ∷ 0 ∷ 0 ∷ 5 ∷ 9 ∷ 2 ∷ 1 ∷ 2 ∷ 3 ∷ 4 ∷ 5 ∷ 151 ∷ []), 5 ∷ [])
    ∷ (arrives (lent 70) (64 ∷ 238 ∷ 66 ∷ 0 ∷ 0 ∷ 1 ∷ 9 ∷ 2 ∷ 2 ∷ 30 ∷ []), 14 ∷ [])
    ∷ (arrives (lent 0) (64 ∷ 238 ∷ 66 ∷ 2 ∷ 0 ∷ 0 ∷ 9 ∷ 0 ∷ 18 ∷ []), 14 ∷ [])
    ∷ (arrives (lent 73) (64 ∷ 238 ∷ 66 ∷ 3 ∷ 0 ∷ 2 ∷ 9 ∷ 9 ∷ 7 ∷ 8 ∷ 15 ∷ []), 0 ∷ 5 ∷ 3 ∷ 12 ∷ 0 ∷ 1 ∷ 0 ∷ 0 ∷ 0 ∷ 10 ∷ 0 ∷ 0 ∷ 0 ∷ 12 ∷ 7 ∷ 8 ∷ [])
    ∷ (hands_out (lent 9), 0 ∷ 9 ∷ 66 ∷ 238 ∷ 64 ∷ 1 ∷ 0 ∷ 0 ∷ 9 ∷ 0 ∷ 192 ∷ [])
    ∷ (reports, 0 ∷ [])
    ∷ (arrives (lent 0) (64 ∷ 238 ∷ 66 ∷ 2 ∷ 0 ∷ 0 ∷ 9 ∷ 0 ∷ 18 ∷ []), 0 ∷ 3 ∷ 3 ∷ 2 ∷ [])
    ∷ (arrives (lent 0) (64 ∷ 238 ∷ 65 ∷ 2 ∷ 0 ∷ 0 ∷ 7 ∷ 0 ∷ 191 ∷ []), 0 ∷ 3 ∷ 1 ∷ 0 ∷ [])
    ∷ (arrives (lent 70) (64 ∷ 238 ∷ 66 ∷ 0 ∷ 0 ∷ 1 ∷ 9 ∷ 1 ∷ 4 ∷ 51 ∷ []), 0 ∷ 4 ∷ 3 ∷ 11 ∷ 0 ∷ 1 ∷ 0 ∷ 0 ∷ 0 ∷ 10 ∷ 0 ∷ 0 ∷ 0 ∷ 11 ∷ 4 ∷ [])
    -- Data out of order is held; when the gap is filled all is delivered in one block; each is acknowledged
    ∷ (arrives (lent 34) (64 ∷ 238 ∷ 65 ∷ 0 ∷ 0 ∷ 3 ∷ 7 ∷ 3 ∷ 30 ∷ 31 ∷ 32 ∷ 48 ∷ []), 0 ∷ 4 ∷ 1 ∷ 6 ∷ 0 ∷ 0 ∷ 0 ∷ 0 ∷ 0 ∷ 6 ∷ [])
    ∷ (arrives (lent 34) (64 ∷ 238 ∷ 65 ∷ 0 ∷ 0 ∷ 2 ∷ 7 ∷ 2 ∷ 20 ∷ 21 ∷ 79 ∷ []), 0 ∷ 4 ∷ 1 ∷ 6 ∷ 0 ∷ 0 ∷ 0 ∷ 0 ∷ 0 ∷ 6 ∷ [])
    ∷ (arrives (lent 34) (64 ∷ 238 ∷ 65 ∷ 0 ∷ 0 ∷ 1 ∷ 7 ∷ 2 ∷ 99 ∷ 116 ∷ []), 0 ∷ 4 ∷ 1 ∷ 6 ∷ 0 ∷ 0 ∷ 0 ∷ 0 ∷ 0 ∷ 6 ∷ [])
    ∷ (arrives (lent 34) (64 ∷ 238 ∷ 65 ∷ 0 ∷ 0 ∷ 1 ∷ 7 ∷ 5 ∷ 50 ∷ 175 ∷ []), 0 ∷ 4 ∷ 1 ∷ 6 ∷ 0 ∷ 0 ∷ 0 ∷ 0 ∷ 0 ∷ 6 ∷ [])
    ∷ (arrives (lent 34) (64 ∷ 238 ∷ 65 ∷ 0 ∷ 0 ∷ 1 ∷ 7 ∷ 1 ∷ 10 ∷ 83 ∷ []), 0 ∷ 4 ∷ 1 ∷ 24 ∷ 0 ∷ 3 ∷ 0 ∷ 0 ∷ 0 ∷ 18 ∷ 0 ∷ 0 ∷ 0 ∷ 19 ∷ 0 ∷ 0 ∷ 0 ∷ 21 ∷ 0 ∷ 0 ∷ 0 ∷ 24 ∷ 10 ∷ 20 ∷ 21 ∷ 30 ∷ 31 ∷ 32 ∷ [])
    ∷ (hands_out (lent 9), 0 ∷ 9 ∷ 66 ∷ 238 ∷ 64 ∷ 1 ∷ 0 ∷ 0 ∷ 9 ∷ 0 ∷ 192 ∷ [])
    ∷ (reports, 0 ∷ [])
    ∷ (hands_out (lent 9), 0 ∷ 9 ∷ 65 ∷ 238 ∷ 64 ∷ 1 ∷ 0 ∷ 0 ∷ 7 ∷ 0 ∷ 35 ∷ [])
    ∷ (reports, 0 ∷ [])
    ∷ (hands_out (lent 9), 0 ∷ 9 ∷ 66 ∷ 238 ∷ 64 ∷ 1 ∷ 0 ∷ 0 ∷ 9 ∷ 1 ∷ 199 ∷ [])
    ∷ (reports, 0 ∷ [])
    ∷ (hands_out (lent 9), 0 ∷ 9 ∷ 65 ∷ 238 ∷ 64 ∷ 1 ∷ 0 ∷ 0 ∷ 7 ∷ 3 ∷ 42 ∷ [])
    ∷ (reports, 0 ∷ [])
    ∷ (hands_out (lent 9), 0 ∷ 9 ∷ 65 ∷ 238 ∷ 64 ∷ 1 ∷ 0 ∷ 0 ∷ 7 ∷ 2 ∷ 45 ∷ [])
    ∷ (reports, 0 ∷ [])
    ∷ (hands_out (lent 9), 0 ∷ 9 ∷ 65 ∷ 238 ∷ 64 ∷ 1 ∷ 0 ∷ 0 ∷ 7 ∷ 2 ∷ 45 ∷ [])
    ∷ (reports, 0 ∷ [])
    ∷ (hands_out (lent 9), 0 ∷ 9 ∷ 65 ∷ 238 ∷ 64 ∷ 1 ∷ 0 ∷ 0 ∷ 7 ∷ 5 ∷ 56 ∷ [])
    ∷ (reports, 0 ∷ [])
    ∷ (hands_out (lent 9), 0 ∷ 9 ∷ 65 ∷ 238 ∷ 64 ∷ 1 ∷ 0 ∷ 0 ∷ 7 ∷ 1 ∷ 36 ∷ [])
    ∷ (reports, 0 ∷ [])
    -- frames refused by their bytes, or since nobody takes them
    ∷ (arrives (lent 34) (65 ∷ 238 ∷ 65 ∷ 0 ∷ 0 ∷ 1 ∷ 7 ∷ 4 ∷ 40 ∷ 132 ∷ []), 10 ∷ [])
    ∷ (arrives (lent 34) (65 ∷ 238 ∷ 65 ∷ 0 ∷ 0 ∷ 1 ∷ 7 ∷ 4 ∷ 40 ∷ 133 ∷ []), 11 ∷ [])
    ∷ (arrives (lent 0) (64 ∷ 237 ∷ 65 ∷ 4 ∷ 0 ∷ 0 ∷ 7 ∷ 4 ∷ 142 ∷ []), 11 ∷ [])
    ∷ (arrives (lent 0) (64 ∷ 238 ∷ 66 ∷ 20 ∷ 0 ∷ 0 ∷ 7 ∷ 4 ∷ 161 ∷ []), 15 ∷ 3 ∷ [])
    ∷ (arrives (lent 0) (64 ∷ 238 ∷ 66 ∷ 18 ∷ 0 ∷ 1 ∷ 7 ∷ 4 ∷ 1 ∷ 137 ∷ []), 16 ∷ 3 ∷ [])
    ∷ (arrives (lent 0) (64 ∷ 238 ∷ 66 ∷ 2 ∷ 0 ∷ 1 ∷ 7 ∷ 4 ∷ 1 ∷ 23 ∷ []), 17 ∷ 4 ∷ [])
    ∷ (arrives (lent 0) (64 ∷ 238 ∷ 66 ∷ 2 ∷ 0 ∷ 0 ∷ 7 ∷ 4 ∷ 216 ∷ []), 18 ∷ 7 ∷ [])
    ∷ (arrives (lent 0) (64 ∷ 238 ∷ 66 ∷ 0 ∷ 0 ∷ 5 ∷ 7 ∷ 1 ∷ 1 ∷ 2 ∷ 3 ∷ 4 ∷ 5 ∷ 202 ∷ []), 13 ∷ [])
    -- Data is lost and sent again when its timer ends; acknowledged out of order, the start passes what it can
    ∷ (sends 1 [], 3 ∷ [])
    ∷ (sends 0 [], 5 ∷ [])
    ∷ (sends 2 (100 ∷ []), 0 ∷ [])
    ∷ (sends 0 (1 ∷ []), 0 ∷ [])
    ∷ (sends 0 (2 ∷ []), 0 ∷ [])
    ∷ (sends 0 (3 ∷ []), 0 ∷ [])
    ∷ (hands_out (lent 10), 0 ∷ 10 ∷ 66 ∷ 238 ∷ 64 ∷ 0 ∷ 0 ∷ 1 ∷ 7 ∷ 1 ∷ 100 ∷ 115 ∷ [])
    ∷ (reports, 0 ∷ [])
    ∷ (hands_out (lent 10), 0 ∷ 10 ∷ 65 ∷ 238 ∷ 64 ∷ 0 ∷ 0 ∷ 1 ∷ 7 ∷ 1 ∷ 1 ∷ 196 ∷ [])
    ∷ (reports, 0 ∷ [])
    ∷ (hands_out (lent 10), 0 ∷ 10 ∷ 65 ∷ 238 ∷ 64 ∷ 0 ∷ 0 ∷ 1 ∷ 7 ∷ 2 ∷ 2 ∷ 242 ∷ [])
    ∷ (reports, 0 ∷ [])
    ∷ (arrives (lent 0) (64 ∷ 238 ∷ 65 ∷ 1 ∷ 0 ∷ 0 ∷ 7 ∷ 3 ∷ 16 ∷ []), 0 ∷ 0 ∷ 0 ∷ [])
    ∷ (hands_out (lent 10), 0 ∷ 10 ∷ 65 ∷ 238 ∷ 64 ∷ 0 ∷ 0 ∷ 1 ∷ 7 ∷ 3 ∷ 3 ∷ 224 ∷ [])
    ∷ (reports, 0 ∷ [])
    ∷ (arrives (lent 0) (64 ∷ 238 ∷ 65 ∷ 1 ∷ 0 ∷ 0 ∷ 7 ∷ 2 ∷ 23 ∷ []), 0 ∷ 1 ∷ 0 ∷ 0 ∷ [])
    ∷ (arrives (lent 0) (64 ∷ 238 ∷ 65 ∷ 1 ∷ 0 ∷ 0 ∷ 7 ∷ 2 ∷ 23 ∷ []), 0 ∷ 0 ∷ 0 ∷ [])
    ∷ (counts 0, 0 ∷ 3 ∷ 0 ∷ [])
    ∷ (sends 2 (101 ∷ 102 ∷ 103 ∷ 104 ∷ []), 0 ∷ [])
    ∷ (ticks, 0 ∷ 0 ∷ [])
    ∷ (arrives (lent 0) (64 ∷ 238 ∷ 65 ∷ 1 ∷ 0 ∷ 0 ∷ 7 ∷ 1 ∷ 30 ∷ []), 0 ∷ 1 ∷ 0 ∷ 2 ∷ [])
    ∷ (hands_out (lent 10), 0 ∷ 10 ∷ 65 ∷ 238 ∷ 64 ∷ 0 ∷ 0 ∷ 1 ∷ 7 ∷ 3 ∷ 3 ∷ 224 ∷ [])
    ∷ (reports, 0 ∷ [])
    ∷ (arrives (lent 0) (64 ∷ 238 ∷ 65 ∷ 1 ∷ 0 ∷ 0 ∷ 7 ∷ 3 ∷ 16 ∷ []), 0 ∷ 1 ∷ 0 ∷ 1 ∷ [])
    ∷ (arrives (lent 0) (64 ∷ 238 ∷ 65 ∷ 1 ∷ 0 ∷ 0 ∷ 7 ∷ 3 ∷ 16 ∷ []), 0 ∷ 0 ∷ 0 ∷ [])
    -- retries are used up: Failing. Urgent, retransmission and data that wait go; the tick says who is Enabled again
    ∷ (hands_out (lent 13), 0 ∷ 13 ∷ 66 ∷ 238 ∷ 64 ∷ 0 ∷ 0 ∷ 4 ∷ 7 ∷ 2 ∷ 101 ∷ 102 ∷ 103 ∷ 104 ∷ 249 ∷ [])
    ∷ (reports, 0 ∷ [])
    ∷ (sends 2 (1 ∷ []), 7 ∷ [])
    ∷ (sends 2 (1 ∷ 2 ∷ 3 ∷ 4 ∷ 5 ∷ []), 5 ∷ [])
    ∷ (sends 0 (4 ∷ []), 0 ∷ [])
    ∷ (hands_out (lent 10), 0 ∷ 10 ∷ 65 ∷ 238 ∷ 64 ∷ 0 ∷ 0 ∷ 1 ∷ 7 ∷ 4 ∷ 4 ∷ 158 ∷ [])
    ∷ (reports, 0 ∷ [])
    ∷ (sends 0 (5 ∷ []), 0 ∷ [])
    ∷ (hands_out (lent 10), 0 ∷ 10 ∷ 65 ∷ 238 ∷ 64 ∷ 0 ∷ 0 ∷ 1 ∷ 7 ∷ 5 ∷ 5 ∷ 140 ∷ [])
    ∷ (reports, 0 ∷ [])
    ∷ (urges 2 (200 ∷ []), 0 ∷ [])
    ∷ (ticks, 0 ∷ 0 ∷ [])
    ∷ (urges 2 (1 ∷ []), 4 ∷ [])
    ∷ (arrives (lent 0) (64 ∷ 238 ∷ 66 ∷ 1 ∷ 0 ∷ 0 ∷ 7 ∷ 1 ∷ 101 ∷ []), 0 ∷ 1 ∷ 2 ∷ 1 ∷ [])
    ∷ (sends 0 (6 ∷ []), 0 ∷ [])
    ∷ (urges 0 (201 ∷ []), 0 ∷ [])
    ∷ (urges 0 (1 ∷ []), 9 ∷ [])
    ∷ (hands_out (lent 13), 0 ∷ 10 ∷ 65 ∷ 238 ∷ 64 ∷ 3 ∷ 0 ∷ 1 ∷ 7 ∷ 0 ∷ 201 ∷ 220 ∷ [])
    ∷ (reports, 0 ∷ [])
    ∷ (hands_out (lent 10), 0 ∷ 10 ∷ 65 ∷ 238 ∷ 64 ∷ 0 ∷ 0 ∷ 1 ∷ 7 ∷ 4 ∷ 4 ∷ 158 ∷ [])
    ∷ (reports, 0 ∷ [])
    ∷ (urges 0 (202 ∷ []), 0 ∷ [])
    ∷ (arrives (lent 34) (64 ∷ 238 ∷ 65 ∷ 0 ∷ 0 ∷ 1 ∷ 7 ∷ 4 ∷ 40 ∷ 252 ∷ []), 0 ∷ 4 ∷ 1 ∷ 11 ∷ 0 ∷ 1 ∷ 0 ∷ 0 ∷ 0 ∷ 10 ∷ 0 ∷ 0 ∷ 0 ∷ 11 ∷ 40 ∷ [])
    ∷ (ticks, 0 ∷ 5 ∷ [])
    -- Enabled again: acknowledgements before Resets before Urgents; counts are kept until acknowledgement 0
    ∷ (hands_out (lent 9), 0 ∷ 9 ∷ 65 ∷ 238 ∷ 64 ∷ 1 ∷ 0 ∷ 0 ∷ 7 ∷ 4 ∷ 63 ∷ [])
    ∷ (reports, 0 ∷ [])
    ∷ (hands_out (lent 9), 0 ∷ 9 ∷ 65 ∷ 238 ∷ 64 ∷ 2 ∷ 0 ∷ 0 ∷ 7 ∷ 0 ∷ 133 ∷ [])
    ∷ (reports, 0 ∷ [])
    ∷ (counts 0, 0 ∷ 6 ∷ 3 ∷ [])
    ∷ (arrives (lent 0) (64 ∷ 238 ∷ 65 ∷ 1 ∷ 0 ∷ 0 ∷ 7 ∷ 0 ∷ 25 ∷ []), 0 ∷ 2 ∷ 0 ∷ [])
    ∷ (urges 0 (203 ∷ []), 0 ∷ [])
    ∷ (hands_out (lent 9), 0 ∷ 9 ∷ 66 ∷ 238 ∷ 64 ∷ 2 ∷ 0 ∷ 0 ∷ 7 ∷ 0 ∷ 176 ∷ [])
    ∷ (reports, 0 ∷ [])
    ∷ (hands_out (lent 13), 0 ∷ 10 ∷ 65 ∷ 238 ∷ 64 ∷ 3 ∷ 0 ∷ 1 ∷ 7 ∷ 0 ∷ 203 ∷ 210 ∷ [])
    ∷ (reports, 0 ∷ [])
    -- closed, and what waits goes; opened again, all begins anew
    ∷ (sends 0 (1 ∷ []), 0 ∷ [])
    ∷ (urges 0 (204 ∷ []), 0 ∷ [])
    ∷ (arrives (lent 34) (64 ∷ 238 ∷ 65 ∷ 0 ∷ 0 ∷ 1 ∷ 7 ∷ 5 ∷ 50 ∷ 175 ∷ []), 0 ∷ 4 ∷ 1 ∷ 11 ∷ 0 ∷ 1 ∷ 0 ∷ 0 ∷ 0 ∷ 10 ∷ 0 ∷ 0 ∷ 0 ∷ 11 ∷ 50 ∷ [])
    ∷ (closes 0, 0 ∷ [])
    ∷ (closes 1, 0 ∷ [])
    ∷ (closes 1, 4 ∷ [])
    ∷ (hands_out (lent 3), 0 ∷ 0 ∷ [])
    ∷ (arrives (lent 0) (64 ∷ 238 ∷ 65 ∷ 2 ∷ 0 ∷ 0 ∷ 7 ∷ 0 ∷ 191 ∷ []), 13 ∷ [])
    ∷ (counts 1, 3 ∷ [])
    ∷ (opens 0, 0 ∷ [])
    ∷ (hands_out (lent 9), 0 ∷ 9 ∷ 65 ∷ 238 ∷ 64 ∷ 2 ∷ 0 ∷ 0 ∷ 7 ∷ 0 ∷ 133 ∷ [])
    ∷ (reports, 0 ∷ [])
    ∷ (arrives (lent 0) (64 ∷ 238 ∷ 65 ∷ 1 ∷ 0 ∷ 0 ∷ 7 ∷ 0 ∷ 25 ∷ []), 0 ∷ 2 ∷ 0 ∷ [])
    ∷ (sends 0 (2 ∷ []), 0 ∷ [])
    ∷ (urges 0 (205 ∷ []), 0 ∷ [])
    ∷ (hands_out (lent 13), 0 ∷ 10 ∷ 65 ∷ 238 ∷ 64 ∷ 3 ∷ 0 ∷ 1 ∷ 7 ∷ 0 ∷ 205 ∷ 192 ∷ [])
    ∷ (reports, 0 ∷ [])
    ∷ (hands_out (lent 10), 0 ∷ 10 ∷ 65 ∷ 238 ∷ 64 ∷ 0 ∷ 0 ∷ 1 ∷ 7 ∷ 1 ∷ 2 ∷ 205 ∷ [])
    ∷ (reports, 0 ∷ [])
    ∷ (counts 0, 0 ∷ 1 ∷ 0 ∷ [])
    ∷ (arrives (lent 0) (64 ∷ 238 ∷ 65 ∷ 1 ∷ 0 ∷ 0 ∷ 7 ∷ 1 ∷ 30 ∷ []), 0 ∷ 1 ∷ 0 ∷ 1 ∷ [])
    ∷ (arrives (lent 0) (64 ∷ 238 ∷ 66 ∷ 1 ∷ 0 ∷ 0 ∷ 7 ∷ 0 ∷ 98 ∷ []), 0 ∷ 2 ∷ 2 ∷ [])
    -- timers of one sender end each at its own tick, in whatever order they started
    ∷ (opens 4, 0 ∷ [])
    ∷ (hands_out (lent 9), 0 ∷ 9 ∷ 66 ∷ 238 ∷ 64 ∷ 2 ∷ 0 ∷ 0 ∷ 8 ∷ 0 ∷ 115 ∷ [])
    ∷ (reports, 0 ∷ [])
    ∷ (arrives (lent 0) (64 ∷ 238 ∷ 66 ∷ 1 ∷ 0 ∷ 0 ∷ 8 ∷ 0 ∷ 161 ∷ []), 0 ∷ 2 ∷ 4 ∷ [])
    ∷ (sends 4 (49 ∷ []), 0 ∷ [])
    ∷ (hands_out (lent 10), 0 ∷ 10 ∷ 66 ∷ 238 ∷ 64 ∷ 0 ∷ 0 ∷ 1 ∷ 8 ∷ 1 ∷ 49 ∷ 152 ∷ [])
    ∷ (reports, 0 ∷ [])
    ∷ (ticks, 0 ∷ 0 ∷ [])
    ∷ (ticks, 0 ∷ 0 ∷ [])
    ∷ (sends 4 (50 ∷ []), 0 ∷ [])
    ∷ (hands_out (lent 10), 0 ∷ 10 ∷ 66 ∷ 238 ∷ 64 ∷ 0 ∷ 0 ∷ 1 ∷ 8 ∷ 2 ∷ 50 ∷ 174 ∷ [])
    ∷ (reports, 0 ∷ [])
    ∷ (ticks, 0 ∷ 0 ∷ [])
    ∷ (hands_out (lent 10), 0 ∷ 10 ∷ 66 ∷ 238 ∷ 64 ∷ 0 ∷ 0 ∷ 1 ∷ 8 ∷ 1 ∷ 49 ∷ 152 ∷ [])
    ∷ (reports, 0 ∷ [])
    ∷ replicate 3 (ticks, 0 ∷ 0 ∷ [])
    ++ (hands_out (lent 10), 0 ∷ 10 ∷ 66 ∷ 238 ∷ 64 ∷ 0 ∷ 0 ∷ 1 ∷ 8 ∷ 2 ∷ 50 ∷ 174 ∷ [])
    ∷ (reports, 0 ∷ [])
    ∷ (hands_out (lent 10), 0 ∷ 10 ∷ 66 ∷ 238 ∷ 64 ∷ 0 ∷ 0 ∷ 1 ∷ 8 ∷ 1 ∷ 49 ∷ 152 ∷ [])
    ∷ (reports, 0 ∷ [])
    ∷ replicate 3 (ticks, 0 ∷ 0 ∷ [])
    ++ (hands_out (lent 10), 0 ∷ 10 ∷ 66 ∷ 238 ∷ 64 ∷ 0 ∷ 0 ∷ 1 ∷ 8 ∷ 1 ∷ 49 ∷ 152 ∷ [])
    ∷ (reports, 0 ∷ [])
    ∷ (hands_out (lent 10), 0 ∷ 10 ∷ 66 ∷ 238 ∷ 64 ∷ 0 ∷ 0 ∷ 1 ∷ 8 ∷ 2 ∷ 50 ∷ 174 ∷ [])
    ∷ (reports, 0 ∷ [])
    ∷ (arrives (lent 0) (64 ∷ 238 ∷ 66 ∷ 1 ∷ 0 ∷ 0 ∷ 8 ∷ 1 ∷ 166 ∷ []), 0 ∷ 1 ∷ 4 ∷ 1 ∷ [])
    ∷ (arrives (lent 0) (64 ∷ 238 ∷ 66 ∷ 1 ∷ 0 ∷ 0 ∷ 8 ∷ 2 ∷ 175 ∷ []), 0 ∷ 1 ∷ 4 ∷ 1 ∷ [])
    -- a timer that is stopped ends nothing when its tick comes; the next ends at its own
    ∷ (sends 4 (51 ∷ []), 0 ∷ [])
    ∷ (hands_out (lent 10), 0 ∷ 10 ∷ 66 ∷ 238 ∷ 64 ∷ 0 ∷ 0 ∷ 1 ∷ 8 ∷ 3 ∷ 51 ∷ 188 ∷ [])
    ∷ (reports, 0 ∷ [])
    ∷ (ticks, 0 ∷ 0 ∷ [])
    ∷ (sends 4 (52 ∷ []), 0 ∷ [])
    ∷ (hands_out (lent 10), 0 ∷ 10 ∷ 66 ∷ 238 ∷ 64 ∷ 0 ∷ 0 ∷ 1 ∷ 8 ∷ 4 ∷ 52 ∷ 194 ∷ [])
    ∷ (reports, 0 ∷ [])
    ∷ (arrives (lent 0) (64 ∷ 238 ∷ 66 ∷ 1 ∷ 0 ∷ 0 ∷ 8 ∷ 3 ∷ 168 ∷ []), 0 ∷ 1 ∷ 4 ∷ 1 ∷ [])
    ∷ (ticks, 0 ∷ 0 ∷ [])
    ∷ (ticks, 0 ∷ 0 ∷ [])
    ∷ (hands_out (lent 3), 0 ∷ 0 ∷ [])
    ∷ (ticks, 0 ∷ 0 ∷ [])
    ∷ (hands_out (lent 10), 0 ∷ 10 ∷ 66 ∷ 238 ∷ 64 ∷ 0 ∷ 0 ∷ 1 ∷ 8 ∷ 4 ∷ 52 ∷ 194 ∷ [])
    ∷ (reports, 0 ∷ [])
    ∷ (arrives (lent 0) (64 ∷ 238 ∷ 66 ∷ 1 ∷ 0 ∷ 0 ∷ 8 ∷ 4 ∷ 189 ∷ []), 0 ∷ 1 ∷ 4 ∷ 1 ∷ [])
    -- Failing lasts no tick when no other timer runs, and until the next when the last is stopped
    ∷ (sends 2 (49 ∷ []), 0 ∷ [])
    ∷ (hands_out (lent 10), 0 ∷ 10 ∷ 66 ∷ 238 ∷ 64 ∷ 0 ∷ 0 ∷ 1 ∷ 7 ∷ 1 ∷ 49 ∷ 223 ∷ [])
    ∷ (reports, 0 ∷ [])
    ∷ (ticks, 0 ∷ 0 ∷ [])
    ∷ (ticks, 0 ∷ 4 ∷ [])
    ∷ (hands_out (lent 9), 0 ∷ 9 ∷ 66 ∷ 238 ∷ 64 ∷ 2 ∷ 0 ∷ 0 ∷ 7 ∷ 0 ∷ 176 ∷ [])
    ∷ (reports, 0 ∷ [])
    ∷ (arrives (lent 0) (64 ∷ 238 ∷ 66 ∷ 1 ∷ 0 ∷ 0 ∷ 7 ∷ 0 ∷ 98 ∷ []), 0 ∷ 2 ∷ 2 ∷ [])
    ∷ (sends 4 (53 ∷ []), 0 ∷ [])
    ∷ (hands_out (lent 10), 0 ∷ 10 ∷ 66 ∷ 238 ∷ 64 ∷ 0 ∷ 0 ∷ 1 ∷ 8 ∷ 5 ∷ 53 ∷ 208 ∷ [])
    ∷ (reports, 0 ∷ [])
    ∷ replicate 3 (ticks, 0 ∷ 0 ∷ [])
    ++ (hands_out (lent 10), 0 ∷ 10 ∷ 66 ∷ 238 ∷ 64 ∷ 0 ∷ 0 ∷ 1 ∷ 8 ∷ 5 ∷ 53 ∷ 208 ∷ [])
    ∷ (reports, 0 ∷ [])
    ∷ replicate 3 (ticks, 0 ∷ 0 ∷ [])
    ++ (hands_out (lent 10), 0 ∷ 10 ∷ 66 ∷ 238 ∷ 64 ∷ 0 ∷ 0 ∷ 1 ∷ 8 ∷ 5 ∷ 53 ∷ 208 ∷ [])
    ∷ (reports, 0 ∷ [])
    ∷ replicate 3 (ticks, 0 ∷ 0 ∷ [])
    ++ (hands_out (lent 10), 0 ∷ 10 ∷ 66 ∷ 238 ∷ 64 ∷ 0 ∷ 0 ∷ 1 ∷ 8 ∷ 5 ∷ 53 ∷ 208 ∷ [])
    ∷ (reports, 0 ∷ [])
    ∷ (ticks, 0 ∷ 0 ∷ [])
    ∷ (ticks, 0 ∷ 0 ∷ [])
    ∷ (sends 4 (54 ∷ []), 0 ∷ [])
    ∷ (hands_out (lent 10), 0 ∷ 10 ∷ 66 ∷ 238 ∷ 64 ∷ 0 ∷ 0 ∷ 1 ∷ 8 ∷ 6 ∷ 54 ∷ 230 ∷ [])
    ∷ (reports, 0 ∷ [])
    ∷ (ticks, 0 ∷ 0 ∷ [])
    ∷ (arrives (lent 0) (64 ∷ 238 ∷ 66 ∷ 1 ∷ 0 ∷ 0 ∷ 8 ∷ 6 ∷ 179 ∷ []), 0 ∷ 1 ∷ 4 ∷ 0 ∷ [])
    ∷ (sends 4 (55 ∷ []), 4 ∷ [])
    ∷ (ticks, 0 ∷ 16 ∷ [])
    ∷ (hands_out (lent 9), 0 ∷ 9 ∷ 66 ∷ 238 ∷ 64 ∷ 2 ∷ 0 ∷ 0 ∷ 8 ∷ 0 ∷ 115 ∷ [])
    ∷ (reports, 0 ∷ [])
    -- a frame is under way until its end is reported: no other goes out, and its timer starts then
    ∷ (arrives (lent 0) (64 ∷ 238 ∷ 66 ∷ 1 ∷ 0 ∷ 0 ∷ 8 ∷ 0 ∷ 161 ∷ []), 0 ∷ 2 ∷ 4 ∷ [])
    ∷ (reports, 20 ∷ [])
    ∷ (sends 2 (1 ∷ []), 0 ∷ [])
    ∷ (hands_out (lent 10), 0 ∷ 10 ∷ 66 ∷ 238 ∷ 64 ∷ 0 ∷ 0 ∷ 1 ∷ 7 ∷ 1 ∷ 1 ∷ 79 ∷ [])
    ∷ (hands_out (lent 3), 19 ∷ [])
    ∷ (urges 2 (206 ∷ []), 0 ∷ [])
    ∷ (hands_out (lent 3), 19 ∷ [])
    ∷ replicate 3 (ticks, 0 ∷ 0 ∷ [])
    ++ (reports, 0 ∷ [])
    ∷ (reports, 20 ∷ [])
    ∷ (hands_out (lent 13), 0 ∷ 10 ∷ 66 ∷ 238 ∷ 64 ∷ 3 ∷ 0 ∷ 1 ∷ 7 ∷ 0 ∷ 206 ∷ 66 ∷ [])
    ∷ (ticks, 0 ∷ 0 ∷ [])
    ∷ (reports, 0 ∷ [])
    ∷ (ticks, 0 ∷ 4 ∷ [])
    -- acknowledged before the report: that counts, and no timer starts; not of a later number in its slot either
    ∷ (hands_out (lent 9), 0 ∷ 9 ∷ 66 ∷ 238 ∷ 64 ∷ 2 ∷ 0 ∷ 0 ∷ 7 ∷ 0 ∷ 176 ∷ [])
    ∷ (arrives (lent 0) (64 ∷ 238 ∷ 66 ∷ 1 ∷ 0 ∷ 0 ∷ 7 ∷ 0 ∷ 98 ∷ []), 0 ∷ 2 ∷ 2 ∷ [])
    ∷ (reports, 0 ∷ [])
    ∷ (sends 4 (1 ∷ []), 0 ∷ [])
    ∷ (hands_out (lent 10), 0 ∷ 10 ∷ 66 ∷ 238 ∷ 64 ∷ 0 ∷ 0 ∷ 1 ∷ 8 ∷ 1 ∷ 1 ∷ 8 ∷ [])
    ∷ (arrives (lent 0) (64 ∷ 238 ∷ 66 ∷ 1 ∷ 0 ∷ 0 ∷ 8 ∷ 1 ∷ 166 ∷ []), 0 ∷ 1 ∷ 4 ∷ 1 ∷ [])
    ∷ (reports, 0 ∷ [])
    ∷ (sends 4 (2 ∷ []), 0 ∷ [])
    ∷ (hands_out (lent 10), 0 ∷ 10 ∷ 66 ∷ 238 ∷ 64 ∷ 0 ∷ 0 ∷ 1 ∷ 8 ∷ 2 ∷ 2 ∷ 62 ∷ [])
    ∷ (arrives (lent 0) (64 ∷ 238 ∷ 66 ∷ 1 ∷ 0 ∷ 0 ∷ 8 ∷ 2 ∷ 175 ∷ []), 0 ∷ 1 ∷ 4 ∷ 1 ∷ [])
    ∷ (sends 4 (3 ∷ []), 0 ∷ [])
    ∷ (sends 4 (4 ∷ []), 0 ∷ [])
    ∷ (reports, 0 ∷ [])
    ∷ replicate 3 (ticks, 0 ∷ 0 ∷ [])
    ++ (hands_out (lent 10), 0 ∷ 10 ∷ 66 ∷ 238 ∷ 64 ∷ 0 ∷ 0 ∷ 1 ∷ 8 ∷ 3 ∷ 3 ∷ 44 ∷ [])
    ∷ (reports, 0 ∷ [])
    -- closed before the report, and opened again: no timer starts; the new Reset's own report starts its own
    ∷ (hands_out (lent 10), 0 ∷ 10 ∷ 66 ∷ 238 ∷ 64 ∷ 0 ∷ 0 ∷ 1 ∷ 8 ∷ 4 ∷ 4 ∷ 82 ∷ [])
    ∷ (closes 4, 0 ∷ [])
    ∷ (hands_out (lent 3), 19 ∷ [])
    ∷ (reports, 0 ∷ [])
    ∷ (opens 4, 0 ∷ [])
    ∷ (hands_out (lent 9), 0 ∷ 9 ∷ 66 ∷ 238 ∷ 64 ∷ 2 ∷ 0 ∷ 0 ∷ 8 ∷ 0 ∷ 115 ∷ [])
    ∷ (closes 4, 0 ∷ [])
    ∷ (reports, 0 ∷ [])
    ∷ (opens 4, 0 ∷ [])
    ∷ (hands_out (lent 9), 0 ∷ 9 ∷ 66 ∷ 238 ∷ 64 ∷ 2 ∷ 0 ∷ 0 ∷ 8 ∷ 0 ∷ 115 ∷ [])
    ∷ (closes 4, 0 ∷ [])
    ∷ (opens 4, 0 ∷ [])
    ∷ (arrives (lent 0) (64 ∷ 238 ∷ 66 ∷ 1 ∷ 0 ∷ 0 ∷ 8 ∷ 0 ∷ 161 ∷ []), 0 ∷ 0 ∷ 4 ∷ [])
    ∷ (reports, 0 ∷ [])
    ∷ replicate 3 (ticks, 0 ∷ 0 ∷ [])
    ++ (hands_out (lent 9), 0 ∷ 9 ∷ 66 ∷ 238 ∷ 64 ∷ 2 ∷ 0 ∷ 0 ∷ 8 ∷ 0 ∷ 115 ∷ [])
    ∷ (reports, 0 ∷ [])
    ∷ (arrives (lent 0) (64 ∷ 238 ∷ 66 ∷ 1 ∷ 0 ∷ 0 ∷ 8 ∷ 0 ∷ 161 ∷ []), 0 ∷ 2 ∷ 4 ∷ [])
    ∷ (sends 4 (1 ∷ []), 0 ∷ [])
    ∷ (hands_out (lent 10), 0 ∷ 10 ∷ 66 ∷ 238 ∷ 64 ∷ 0 ∷ 0 ∷ 1 ∷ 8 ∷ 1 ∷ 1 ∷ 8 ∷ [])
    ∷ (closes 4, 0 ∷ [])
    ∷ (opens 4, 0 ∷ [])
    ∷ (reports, 0 ∷ [])
    ∷ replicate 3 (ticks, 0 ∷ 0 ∷ [])
    ++ (hands_out (lent 9), 0 ∷ 9 ∷ 66 ∷ 238 ∷ 64 ∷ 2 ∷ 0 ∷ 0 ∷ 8 ∷ 0 ∷ 115 ∷ [])
    ∷ (reports, 0 ∷ [])
    ∷ (closes 4, 0 ∷ [])
    ∷ (hands_out (lent 3), 0 ∷ 0 ∷ [])
    -- Failing waits for its own frame: data, whose timer then starts; data that was acknowledged; an Urgent
    ∷ (sends 2 (49 ∷ []), 0 ∷ [])
    ∷ (hands_out (lent 10), 0 ∷ 10 ∷ 66 ∷ 238 ∷ 64 ∷ 0 ∷ 0 ∷ 1 ∷ 7 ∷ 1 ∷ 49 ∷ 223 ∷ [])
    ∷ (reports, 0 ∷ [])
    ∷ (sends 2 (2 ∷ []), 0 ∷ [])
    ∷ (hands_out (lent 10), 0 ∷ 10 ∷ 66 ∷ 238 ∷ 64 ∷ 0 ∷ 0 ∷ 1 ∷ 7 ∷ 2 ∷ 2 ∷ 121 ∷ [])
    ∷ replicate 3 (ticks, 0 ∷ 0 ∷ [])
    ++ (reports, 0 ∷ [])
    ∷ (ticks, 0 ∷ 0 ∷ [])
    ∷ (ticks, 0 ∷ 4 ∷ [])
    ∷ (hands_out (lent 9), 0 ∷ 9 ∷ 66 ∷ 238 ∷ 64 ∷ 2 ∷ 0 ∷ 0 ∷ 7 ∷ 0 ∷ 176 ∷ [])
    ∷ (reports, 0 ∷ [])
    ∷ (arrives (lent 0) (64 ∷ 238 ∷ 66 ∷ 1 ∷ 0 ∷ 0 ∷ 7 ∷ 0 ∷ 98 ∷ []), 0 ∷ 2 ∷ 2 ∷ [])
    ∷ (sends 2 (49 ∷ []), 0 ∷ [])
    ∷ (hands_out (lent 10), 0 ∷ 10 ∷ 66 ∷ 238 ∷ 64 ∷ 0 ∷ 0 ∷ 1 ∷ 7 ∷ 1 ∷ 49 ∷ 223 ∷ [])
    ∷ (reports, 0 ∷ [])
    ∷ (sends 2 (2 ∷ []), 0 ∷ [])
    ∷ (hands_out (lent 10), 0 ∷ 10 ∷ 66 ∷ 238 ∷ 64 ∷ 0 ∷ 0 ∷ 1 ∷ 7 ∷ 2 ∷ 2 ∷ 121 ∷ [])
    ∷ replicate 3 (ticks, 0 ∷ 0 ∷ [])
    ++ (arrives (lent 0) (64 ∷ 238 ∷ 66 ∷ 1 ∷ 0 ∷ 0 ∷ 7 ∷ 2 ∷ 108 ∷ []), 0 ∷ 1 ∷ 2 ∷ 0 ∷ [])
    ∷ (ticks, 0 ∷ 0 ∷ [])
    ∷ (reports, 0 ∷ [])
    ∷ (ticks, 0 ∷ 4 ∷ [])
    ∷ (hands_out (lent 9), 0 ∷ 9 ∷ 66 ∷ 238 ∷ 64 ∷ 2 ∷ 0 ∷ 0 ∷ 7 ∷ 0 ∷ 176 ∷ [])
    ∷ (reports, 0 ∷ [])
    ∷ (arrives (lent 0) (64 ∷ 238 ∷ 66 ∷ 1 ∷ 0 ∷ 0 ∷ 7 ∷ 0 ∷ 98 ∷ []), 0 ∷ 2 ∷ 2 ∷ [])
    ∷ (sends 2 (49 ∷ []), 0 ∷ [])
    ∷ (hands_out (lent 10), 0 ∷ 10 ∷ 66 ∷ 238 ∷ 64 ∷ 0 ∷ 0 ∷ 1 ∷ 7 ∷ 1 ∷ 49 ∷ 223 ∷ [])
    ∷ (reports, 0 ∷ [])
    ∷ (urges 2 (207 ∷ []), 0 ∷ [])
    ∷ (hands_out (lent 13), 0 ∷ 10 ∷ 66 ∷ 238 ∷ 64 ∷ 3 ∷ 0 ∷ 1 ∷ 7 ∷ 0 ∷ 207 ∷ 69 ∷ [])
    ∷ replicate 3 (ticks, 0 ∷ 0 ∷ [])
    ++ (reports, 0 ∷ [])
    ∷ (ticks, 0 ∷ 4 ∷ [])
    ∷ (hands_out (lent 9), 0 ∷ 9 ∷ 66 ∷ 238 ∷ 64 ∷ 2 ∷ 0 ∷ 0 ∷ 7 ∷ 0 ∷ 176 ∷ [])
    ∷ (reports, 0 ∷ [])
    ∷ (arrives (lent 0) (64 ∷ 238 ∷ 66 ∷ 1 ∷ 0 ∷ 0 ∷ 7 ∷ 0 ∷ 98 ∷ []), 0 ∷ 2 ∷ 2 ∷ [])
    ∷ (sends 2 (49 ∷ []), 0 ∷ [])
    ∷ (hands_out (lent 10), 0 ∷ 10 ∷ 66 ∷ 238 ∷ 64 ∷ 0 ∷ 0 ∷ 1 ∷ 7 ∷ 1 ∷ 49 ∷ 223 ∷ [])
    ∷ (reports, 0 ∷ [])
    ∷ (urges 0 (208 ∷ []), 0 ∷ [])
    ∷ (hands_out (lent 13), 0 ∷ 10 ∷ 65 ∷ 238 ∷ 64 ∷ 3 ∷ 0 ∷ 1 ∷ 7 ∷ 0 ∷ 208 ∷ 147 ∷ [])
    ∷ (ticks, 0 ∷ 0 ∷ [])
    ∷ (ticks, 0 ∷ 4 ∷ [])
    ∷ (reports, 0 ∷ [])
    -- plans: payload after payload is sent, up to and including the first that is refused; 22 before everything
    ∷ (plans 4 (0 ∷ 1 ∷ 0 ∷ 0 ∷ 0 ∷ 10 ∷ 0 ∷ 0 ∷ 0 ∷ 11 ∷ 1 ∷ []), 0 ∷ 0 ∷ 4 ∷ [])
    ∷ (plans 3 (0 ∷ 1 ∷ 0 ∷ 0 ∷ 0 ∷ 10 ∷ 0 ∷ 0 ∷ 0 ∷ 11 ∷ 1 ∷ []), 0 ∷ 0 ∷ 3 ∷ [])
    ∷ (plans 5 (0 ∷ 1 ∷ 0 ∷ 0 ∷ 0 ∷ 10 ∷ 0 ∷ 0 ∷ 0 ∷ 11 ∷ 1 ∷ []), 0 ∷ 0 ∷ 2 ∷ [])
    ∷ (plans 4 (0 ∷ 0 ∷ 0 ∷ 0 ∷ 0 ∷ 6 ∷ []), 0 ∷ 0 ∷ 0 ∷ [])
    ∷ (plans 5 (0 ∷ 0 ∷ 0 ∷ 0 ∷ 0 ∷ 6 ∷ []), 0 ∷ 0 ∷ 0 ∷ [])
    ∷ (plans 5 (0 ∷ 2 ∷ 0 ∷ 0 ∷ 0 ∷ []), 22 ∷ [])
    ∷ (plans 5 (0 ∷ 2 ∷ 0 ∷ 0 ∷ 0 ∷ 14 ∷ 0 ∷ 0 ∷ 0 ∷ 15 ∷ 0 ∷ 0 ∷ 0 ∷ []), 22 ∷ [])
    ∷ (plans 5 (0 ∷ 2 ∷ 0 ∷ 0 ∷ 0 ∷ 13 ∷ 0 ∷ 0 ∷ 0 ∷ 15 ∷ 0 ∷ 0 ∷ 0 ∷ 16 ∷ 1 ∷ 2 ∷ []), 22 ∷ [])
    ∷ (plans 5 (0 ∷ 2 ∷ 0 ∷ 0 ∷ 0 ∷ 15 ∷ 0 ∷ 0 ∷ 0 ∷ 15 ∷ 0 ∷ 0 ∷ 0 ∷ 16 ∷ 1 ∷ 2 ∷ []), 22 ∷ [])
    ∷ (plans 5 (0 ∷ 2 ∷ 0 ∷ 0 ∷ 0 ∷ 14 ∷ 0 ∷ 0 ∷ 0 ∷ 13 ∷ 0 ∷ 0 ∷ 0 ∷ 16 ∷ 1 ∷ 2 ∷ []), 22 ∷ [])
    ∷ (plans 5 (0 ∷ 2 ∷ 0 ∷ 0 ∷ 0 ∷ 14 ∷ 0 ∷ 0 ∷ 0 ∷ 17 ∷ 0 ∷ 0 ∷ 0 ∷ 16 ∷ 1 ∷ 2 ∷ []), 22 ∷ [])
    ∷ (plans 5 (0 ∷ 2 ∷ 0 ∷ 0 ∷ 0 ∷ 14 ∷ 0 ∷ 0 ∷ 0 ∷ 15 ∷ 0 ∷ 0 ∷ 0 ∷ 16 ∷ 1 ∷ []), 22 ∷ [])
    ∷ (plans 5 (0 ∷ 2 ∷ 0 ∷ 0 ∷ 0 ∷ 14 ∷ 0 ∷ 0 ∷ 0 ∷ 15 ∷ 0 ∷ 0 ∷ 0 ∷ 16 ∷ 1 ∷ 2 ∷ 0 ∷ []), 22 ∷ [])
    ∷ (hands_out (lent 9), 0 ∷ 9 ∷ 66 ∷ 238 ∷ 64 ∷ 2 ∷ 0 ∷ 0 ∷ 7 ∷ 0 ∷ 176 ∷ [])
    ∷ (reports, 0 ∷ [])
    ∷ (opens 4, 0 ∷ [])
    ∷ (hands_out (lent 9), 0 ∷ 9 ∷ 66 ∷ 238 ∷ 64 ∷ 2 ∷ 0 ∷ 0 ∷ 8 ∷ 0 ∷ 115 ∷ [])
    ∷ (reports, 0 ∷ [])
    ∷ (arrives (lent 0) (64 ∷ 238 ∷ 66 ∷ 1 ∷ 0 ∷ 0 ∷ 8 ∷ 0 ∷ 161 ∷ []), 0 ∷ 2 ∷ 4 ∷ [])
    ∷ (plans 4 (0 ∷ 2 ∷ 0 ∷ 0 ∷ 0 ∷ 14 ∷ 0 ∷ 0 ∷ 0 ∷ 14 ∷ 0 ∷ 0 ∷ 0 ∷ 15 ∷ 1 ∷ []), 0 ∷ 0 ∷ 5 ∷ [])
    ∷ (plans 4 (0 ∷ 3 ∷ 0 ∷ 0 ∷ 0 ∷ 18 ∷ 0 ∷ 0 ∷ 0 ∷ 19 ∷ 0 ∷ 0 ∷ 0 ∷ 19 ∷ 0 ∷ 0 ∷ 0 ∷ 20 ∷ 1 ∷ 2 ∷ []), 0 ∷ 1 ∷ 5 ∷ [])
    ∷ (hands_out (lent 10), 0 ∷ 10 ∷ 66 ∷ 238 ∷ 64 ∷ 0 ∷ 0 ∷ 1 ∷ 8 ∷ 1 ∷ 1 ∷ 8 ∷ [])
    ∷ (plans 4 (0 ∷ 1 ∷ 0 ∷ 0 ∷ 0 ∷ 10 ∷ 0 ∷ 0 ∷ 0 ∷ 11 ∷ 2 ∷ []), 0 ∷ 1 ∷ 0 ∷ [])
    ∷ (reports, 0 ∷ [])
    ∷ (plans 4 (0 ∷ 1 ∷ 0 ∷ 0 ∷ 0 ∷ 10 ∷ 0 ∷ 0 ∷ 0 ∷ 11 ∷ 3 ∷ []), 0 ∷ 0 ∷ 7 ∷ [])
    ∷ (hands_out (lent 10), 0 ∷ 10 ∷ 66 ∷ 238 ∷ 64 ∷ 0 ∷ 0 ∷ 1 ∷ 8 ∷ 2 ∷ 2 ∷ 62 ∷ [])
    ∷ (reports, 0 ∷ [])
    ∷ (arrives (lent 0) (64 ∷ 238 ∷ 66 ∷ 1 ∷ 0 ∷ 0 ∷ 8 ∷ 1 ∷ 166 ∷ []), 0 ∷ 1 ∷ 4 ∷ 1 ∷ [])
    ∷ (plans 4 (0 ∷ 3 ∷ 0 ∷ 0 ∷ 0 ∷ 18 ∷ 0 ∷ 0 ∷ 0 ∷ 19 ∷ 0 ∷ 0 ∷ 0 ∷ 20 ∷ 0 ∷ 0 ∷ 0 ∷ 21 ∷ 3 ∷ 4 ∷ 5 ∷ []), 0 ∷ 1 ∷ 7 ∷ [])
    ∷ (hands_out (lent 10), 0 ∷ 10 ∷ 66 ∷ 238 ∷ 64 ∷ 0 ∷ 0 ∷ 1 ∷ 8 ∷ 3 ∷ 3 ∷ 44 ∷ [])
    ∷ (reports, 0 ∷ [])
    ∷ (arrives (lent 0) (64 ∷ 238 ∷ 66 ∷ 1 ∷ 0 ∷ 0 ∷ 8 ∷ 3 ∷ 168 ∷ []), 0 ∷ 1 ∷ 4 ∷ 0 ∷ [])
    ∷ (arrives (lent 0) (64 ∷ 238 ∷ 66 ∷ 1 ∷ 0 ∷ 0 ∷ 8 ∷ 2 ∷ 175 ∷ []), 0 ∷ 1 ∷ 4 ∷ 2 ∷ [])
    ∷ (plans 4 (0 ∷ 2 ∷ 0 ∷ 0 ∷ 0 ∷ 14 ∷ 0 ∷ 0 ∷ 0 ∷ 15 ∷ 0 ∷ 0 ∷ 0 ∷ 17 ∷ 4 ∷ 5 ∷ 5 ∷ []), 0 ∷ 1 ∷ 5 ∷ [])
    ∷ (hands_out (lent 10), 0 ∷ 10 ∷ 66 ∷ 238 ∷ 64 ∷ 0 ∷ 0 ∷ 1 ∷ 8 ∷ 4 ∷ 4 ∷ 82 ∷ [])
    ∷ (reports, 0 ∷ [])
    ∷ (arrives (lent 0) (64 ∷ 238 ∷ 66 ∷ 1 ∷ 0 ∷ 0 ∷ 8 ∷ 4 ∷ 189 ∷ []), 0 ∷ 1 ∷ 4 ∷ 1 ∷ [])
    ∷ (plans 4 (0 ∷ 2 ∷ 0 ∷ 0 ∷ 0 ∷ 14 ∷ 0 ∷ 0 ∷ 0 ∷ 15 ∷ 0 ∷ 0 ∷ 0 ∷ 16 ∷ 5 ∷ 6 ∷ []), 0 ∷ 2 ∷ 0 ∷ [])
    ∷ (hands_out (lent 10), 0 ∷ 10 ∷ 66 ∷ 238 ∷ 64 ∷ 0 ∷ 0 ∷ 1 ∷ 8 ∷ 5 ∷ 5 ∷ 64 ∷ [])
    ∷ (reports, 0 ∷ [])
    ∷ (hands_out (lent 10), 0 ∷ 10 ∷ 66 ∷ 238 ∷ 64 ∷ 0 ∷ 0 ∷ 1 ∷ 8 ∷ 6 ∷ 6 ∷ 118 ∷ [])
    ∷ (reports, 0 ∷ [])
    ∷ (arrives (lent 0) (64 ∷ 238 ∷ 66 ∷ 1 ∷ 0 ∷ 0 ∷ 8 ∷ 5 ∷ 186 ∷ []), 0 ∷ 1 ∷ 4 ∷ 1 ∷ [])
    ∷ (arrives (lent 0) (64 ∷ 238 ∷ 66 ∷ 1 ∷ 0 ∷ 0 ∷ 8 ∷ 6 ∷ 179 ∷ []), 0 ∷ 1 ∷ 4 ∷ 1 ∷ [])
    ∷ (plans 4 (0 ∷ 3 ∷ 0 ∷ 0 ∷ 0 ∷ 18 ∷ 0 ∷ 0 ∷ 0 ∷ 19 ∷ 0 ∷ 0 ∷ 0 ∷ 20 ∷ 0 ∷ 0 ∷ 0 ∷ 21 ∷ 7 ∷ 8 ∷ 9 ∷ []), 0 ∷ 2 ∷ 7 ∷ [])
    ∷ (counts 4, 0 ∷ 8 ∷ 6 ∷ [])
    ∷ []

-- ---- the desk's line on a call, from what the machine answers

-- the length of the block that an arrival wrote: of Data and Urgent, which are 4 and 5, the number after the index
abbrev block_length : List ℕ → ℕ
block_length numbers = pick (leb 4 (get_or numbers 1 0)) (get_or numbers 3 0) 0

-- the length of the frame that went out
abbrev frame_length : List ℕ → ℕ
frame_length numbers = get_or numbers 1 0

abbrev line_of : Call → Answer → List ℕ
line_of (opens i) a = a.numbers
line_of (closes i) a = a.numbers
line_of (counts i) a = a.numbers
line_of (sends i p) a = a.numbers
line_of (urges i p) a = a.numbers
line_of (plans i block) a = a.numbers
line_of (arrives block f) a = a.numbers ++ take (block_length a.numbers) a.out
line_of (hands_out buffer) a = a.numbers ++ take (frame_length a.numbers) a.out
line_of reports a = a.numbers
line_of ticks a = 0 ∷ a.numbers

-- call after call, from a machine on
pub machines : Machine → List Vector → List (List ℕ)
machines m [] = []
machines m (v ∷ vs) = line_of v.0 (step m v.0).answer ∷ machines (step m v.0).machine vs

pub peers : List Vector → List (List ℕ)
peers [] = []
peers (v ∷ vs) = v.1 ∷ peers vs

-- ---- the claim

-- what the machine computes with
computes : Unit {0}
unfolding get16_of get32_of be32 default_size times_x times_xs step_byte check_from entry_of entry_from areas.area_of
    areas.place_of areas.store_of payload_of head_bytes body_bytes frame_bytes sound_of header_of fits offsets joined_up
    block_of payload_in payloads_in read_block never_fall is_block is_plan begun step machine.without machine.enabled
    machine.listed machine.opening machine.closing machine.counting machine.sending machine.urgent_sending
    machine.sending_all machine.planning machine.acked_run machine.running machine.acking machine.held_count
    machine.held_run machine.receiving machine.resetting machine.taken_in machine.place_of machine.reading
    machine.arriving machine.frame_of machine.going_out machine.in_order machine.handing_out machine.reported
    machine.reporting machine.ticked_all machine.any_spent machine.again_from machine.ticked machine.each
    machine.bits_from machine.ticking
computes = tt

pub vectors_agree : machines (begun table room) vectors ≡ peers vectors
unfolding computes table room vectors machines peers
vectors_agree = refl
