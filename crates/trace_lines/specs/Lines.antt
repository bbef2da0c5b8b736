-- The lines of a replay. Cited by `trace_lines`. Assumes nothing.
use Rattle.std.specs.Prelude.{ℕ, zero, suc, ◌+◌, List, [], ◌++◌}
use Rattle.units.specs.Refusals.{number_of, pick}
use Rattle.units.specs.declared.refusals.Refusal.TheVariants as refusal
use Rattle.end_points.specs.Lent.{Lent}
use Rattle.trace.specs.Layout.{begin_of, head_from}
use Rattle.trace.specs.Rules.{good_trace}
use Rattle.lines.specs.Lines.{Page, appended, ascii, decimal_of, valued, valued_all, last_line}
use Rattle.lines.specs.Sink.{value_text, values_text, last_text}
use Rattle.trace_step.specs.Told.{told_of}
use Rattle.trace_step.specs.Replay.{state_after, told_at, made_of}

-- a line but for its end: a number, a kind, and the numbers that were told [L12]
unfoldable pub begun_of : Page → ℕ → ℕ → List ℕ → Page
begun_of p n kind ns = valued_all (valued (appended p (decimal_of n)) kind) ns

-- the line of record k, whose number is one more [L12]
unfoldable pub line_of : Page → ℕ → ℕ → List ℕ → Page
line_of p k kind ns = appended (begun_of p (k + 1) kind ns) (ascii "\n")

-- the kind of record k
abbrev pub kind_of : List ℕ → ℕ → ℕ
kind_of f k = (head_from f (begin_of f k)).kind

-- the lines of the first n records: a fold, its last step outermost [L12]
unfoldable pub lines_after : Page → Lent → List ℕ → ℕ → Page
lines_after p x f zero = p
lines_after p x f (suc k) = line_of (lines_after p x f k) k (kind_of f k) (told_of (told_at x f k))

-- the lines of all whose calls are made; of a file against the rules the refusal alone [R21, L11, L12]
unfoldable pub replay_page : Page → Lent → List ℕ → Page
replay_page p x f =
    pick (good_trace f) (lines_after p x f (made_of x f)) (last_line p (ascii "refused") (number_of refusal.BadTrace))

-- and what all that was lent holds then: of a file against the rules no call is made [R21, L10, L11]
unfoldable pub replay_lent : Lent → List ℕ → Lent
replay_lent x f = pick (good_trace f) (state_after x f (made_of x f)) x

-- ---- the same as text alone, wherever it is put together

-- a line but for its end [L12]
abbrev pub begun_text : ℕ → ℕ → List ℕ → List ℕ
begun_text n kind ns = decimal_of n ++ (value_text kind ++ values_text ns)

-- the line of record k, whose number is one more [L12]
abbrev pub line_text : ℕ → ℕ → List ℕ → List ℕ
line_text k kind ns = begun_text (k + 1) kind ns ++ ascii "\n"

-- the lines of the first n records [L12]
unfoldable pub lines_text : Lent → List ℕ → ℕ → List ℕ
lines_text x f zero = []
lines_text x f (suc k) = lines_text x f k ++ line_text k (kind_of f k) (told_of (told_at x f k))

-- the lines of all whose calls are made; of a file against the rules the refusal alone [R21, L11, L12]
unfoldable pub replay_text : Lent → List ℕ → List ℕ
replay_text x f =
    pick (good_trace f) (lines_text x f (made_of x f)) (last_text (ascii "refused") (number_of refusal.BadTrace))
