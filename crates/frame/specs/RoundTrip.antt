-- What reader and writer promise of each other. Proved in proofs/RoundTrip.antt. Assumes nothing.
use Rattle.std.specs.Prelude.{◌≡◌, List, ℕ, ◌+◌, ◌≤◌, T, length, get_or, take, Ok}
use Rattle.std.proofs.Math.Pow.{are_bytes}
use Rattle.frame.specs.declared.Fields.{Fields}
use Rattle.frame.specs.declared.FrameType.TheVariants.{Urgent}
use Rattle.frame.specs.declared.Header.{Header}
use Rattle.frame.specs.Types.{type_number}
use Rattle.frame.specs.Layout.{payload_of}
use Rattle.frame.specs.Reading.{read_of}
use Rattle.frame.specs.Writing.{write_answer, written_of}

-- a header's fields, as the writer is given them
abbrev pub fields_of : Header → Fields
fields_of h =
    record {
      destination = h.destination;
      protocol = h.protocol;
      source = h.source;
      kind = type_number h.kind;
      user = 0;
      channel = h.channel;
      seq = h.seq;
    }

-- a frame's bytes are read as these fields and this payload [F1]
pub record Gives (f : List ℕ) (d : Fields) (p : List ℕ) : Type 0 where
  pub header : Header
  pub reads : read_of f ≡ Ok header
  pub fields : fields_of header ≡ d
  pub size : header.length ≡ length p
  pub payload : payload_of f ≡ p

-- what the writer writes, the reader gives back [F1, F11]
abbrev pub WrittenIsRead : Type 0
WrittenIsRead = (d : Fields) (p b : List ℕ) (n : ℕ) → write_answer d p b
    ≡ Ok n → Gives (take n (written_of d p b)) d p

-- the bytes of a frame that was read as a header, written again into a buffer
abbrev pub again : List ℕ → Header → List ℕ → List ℕ
again f h b = take (length f) (written_of (fields_of h) (payload_of f) b)

-- they are taken, and are the same but for byte 7 of an Urgent and the check byte, which follows it
pub record Rewritten (f : List ℕ) (h : Header) (b : List ℕ) : Type 0 where
  pub answer : write_answer (fields_of h) (payload_of f) b ≡ Ok (length f)
  pub size : length (again f h b) ≡ length f
  pub bytes : (k : ℕ) → (k ≡ 7 → ⊥) → (k + 1 ≡ length f → ⊥) → get_or (again f h b) k 0 ≡ get_or f k 0
  pub whole : (h.kind ≡ Urgent → get_or f 7 0 ≡ 0) → again f h b ≡ f

-- a frame that the reader takes is written again as it stood [F1, F15]
abbrev pub ReadIsWritten : Type 0
ReadIsWritten = (f b : List ℕ) (h : Header) → T (are_bytes f) → read_of f
    ≡ Ok h → length f ≤ length b → Rewritten f h b
