-- What a sink has written, and what waits in the page before it. Cited by `lines`. Assumes nothing.
use Rattle.std.specs.Prelude.{ℕ, ◌≤◌, List, [], ◌∷◌, ◌++◌, length, take, IsNone}
use Rattle.std.specs.Io.KnownBytes.{Appends, append_known}
use Rattle.std.specs.declared.option.Option.{Option}
use Rattle.lines.specs.Lines.{Page, ascii, decimal_of}
use Rattle.lines.specs.declared.sink.Sink.{Sink}

-- bytes more, behind those that were written before, unless a write failed
abbrev pub Puts : {W : Type 0} → (W → Option (List ℕ)) → Sink W → Sink W → List ℕ → Type 0
Puts contents old new bytes =
    IsNone new.failed → IsNone old.failed × Appends (contents old.writer) (contents new.writer) bytes

-- what was said: what the sink has written, where that is known, and behind it what waits in the page
abbrev pub said : {W : Type 0} → (W → Option (List ℕ)) → Sink W → Page → Option (List ℕ)
said contents s p = append_known (contents s.writer) (take p.taken p.bytes)

-- text more: what was said has grown by it, unless a write failed
pub record Says {W : Type 0} (contents : W → Option (List ℕ))
    (s : Sink W) (p : Page) (t : Sink W) (q : Page) (text : List ℕ) : Type 0 where
  pub within : q.taken ≤ length q.bytes
  pub grown : IsNone t.failed → IsNone s.failed × Appends (said contents s p) (said contents t q) text

-- a page that holds any number, once what waits in it is written out
pub record HasRoom (p : Page) : Type 0 where
  pub within : p.taken ≤ length p.bytes
  pub room : 20 ≤ length p.bytes

-- ---- the text of what is told

-- a number with a space before it
abbrev pub value_text : ℕ → List ℕ
value_text v = ascii " " ++ decimal_of v

-- numbers, one after the other
abbrev pub values_text : List ℕ → List ℕ
values_text [] = []
values_text (v ∷ vs) = value_text v ++ values_text vs

-- a last line: a word and a number
abbrev pub last_text : List ℕ → ℕ → List ℕ
last_text word v = word ++ (value_text v ++ ascii "\n")
