-- The frame reader, writer and window test in C's numbers. Fields are seven bytes: destination, protocol, source,
-- type, user bits, channel, sequence. Cited by the exported functions. Assumes nothing.
use Rattle.std.specs.Prelude.{ℕ, List, [], ◌∷◌, get_or, ltb, Result, Ok, Err}
use Rattle.std.proofs.lemmas.List.Edits.{sets}
use Rattle.units.specs.Refusals.{number_of, pick}
use Rattle.units.specs.Sizes.{is_size, in_force}
use Rattle.window.specs.Numbers.{distance_of}
use Rattle.frame.specs.Types.{type_number}
use Rattle.frame.specs.Faults.{read_numbers}
use Rattle.frame.specs.declared.Fields.{Fields}
use Rattle.firmware.specs.Nodes.{refusal_in}
use Rattle.frame.specs.declared.Header.{Header}
use Rattle.units.specs.declared.refusals.Refusal.{Refusal}

-- 0, or the refusal [O3, G5]
abbrev pub read_number : Result Header Refusal → ℕ
read_number r = refusal_in (read_numbers r)

-- the fields of a frame that was read; the user bits of such a frame are 0. A refused one leaves them [R44, G5]
unfoldable pub read_fields : Result Header Refusal → List ℕ → List ℕ
read_fields (Ok h) old =
    sets old 0
    (h.destination.0 ∷ h.protocol ∷ h.source.0 ∷ type_number h.kind ∷ 0 ∷ h.channel.0 ∷ h.seq.0 ∷ [])
read_fields (Err w) old = old

-- the fields that seven bytes say [G5]
unfoldable pub fields_in : List ℕ → Fields
fields_in l =
    record {
      destination = record { 0 = get_or l 0 0 };
      protocol = get_or l 1 0;
      source = record { 0 = get_or l 2 0 };
      kind = get_or l 3 0;
      user = get_or l 4 0;
      channel = record { 0 = get_or l 5 0 };
      seq = record { 0 = get_or l 6 0 };
    }

-- 0, or the refusal [O3, G5]
abbrev pub write_number : Result ℕ Refusal → ℕ
write_number (Ok n) = 0
write_number (Err w) = number_of w

-- (seq - start) mod 256 < W: 1 in, 0 out; 2 where W is no size [W1, G5]
unfoldable pub window_number : ℕ → ℕ → ℕ → ℕ
window_number start size seq = pick (is_size (in_force size)) (pick (ltb (distance_of start seq) (in_force size)) 1 0) 2
