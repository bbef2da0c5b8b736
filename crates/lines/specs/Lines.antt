-- Text in a lent buffer: what is appended, and what the buffer holds afterwards. Cited by `lines`. Assumes nothing.
use mathlib.Core.List.{List, [], ◌∷◌, ◌++◌, foldl}
use Rattle.std.specs.Prelude.{ℕ, zero, suc, ◌+◌, ◌/◌, ◌%◌, ◌≡◌, leb, ltb, length}
use Prim.Native.Char.{code}
use Prim.Native.String as string
use Prim.Native.String.{String}
use Rattle.std.proofs.lemmas.List.Edits.{sets}
use Rattle.units.specs.Refusals.{pick}
use Rattle.lines.specs.declared.Page as lent
use Rattle.lines.specs.declared.Stop.{Stop}
use Rattle.lines.specs.declared.Stop.TheVariants as stop

-- ---- the buffer

-- a lent buffer, and how many of its bytes are taken
pub record Page : Type 0 where
  pub bytes : List ℕ
  pub taken : ℕ

abbrev pub page : List ℕ → ℕ → Page
page bytes taken = record { bytes = bytes; taken = taken }

-- what a page of the code is now
abbrev pub seen : lent.Page → Page
seen p = page p.bytes.now p.taken

-- the buffer that a page of the code was lent stays in it, as long as it was
pub record SameBuffer (old new : lent.Page) : Type 0 where
  pub name : new.bytes.ghost_name ≡ old.bytes.ghost_name
  pub long : length new.bytes.now ≡ length old.bytes.now

-- where n bytes more go, in a buffer of `size` bytes of which `at` are taken: behind those, or at the start where they
-- do not fit
abbrev pub place_of : ℕ → ℕ → ℕ → ℕ
place_of size at n = pick (leb (at + n) size) at 0

-- bytes more: stored in their place, and all up to their end taken
unfoldable pub appended : Page → List ℕ → Page
appended p bytes =
    let at = place_of (length p.bytes) p.taken (length bytes) in
    page (sets p.bytes at bytes) (at + length bytes)

-- ---- what is appended

-- a text's bytes: the numbers of its characters
abbrev pub ascii : String → List ℕ
ascii string.[] = []
ascii (string.◌∷◌ c text) = code c ∷ ascii text

-- a number's decimal digits, n at most: the last, and before it those of the number's tenth, unless it is below 10
unfoldable pub decimal_in : ℕ → ℕ → List ℕ
decimal_in zero v = []
decimal_in (suc n) v = pick (ltb v 10) [] (decimal_in n (v / 10)) ++ (48 + v % 10) ∷ []

-- all of them: a number of 64 bits has at most 20
unfoldable pub decimal_of : ℕ → List ℕ
decimal_of v = decimal_in 20 v

-- a number more, with a space before it
unfoldable pub valued : Page → ℕ → Page
valued p v = appended (appended p (ascii " ")) (decimal_of v)

-- numbers more, one after the other: a fold, its last step outermost
unfoldable pub valued_all : Page → List ℕ → Page
valued_all p vs = foldl valued p vs

-- why a run of records ends, in a word
abbrev pub word_of : Stop → List ℕ
word_of stop.Torn = ascii "torn"
word_of stop.Unknown = ascii "unknown"

-- a last line: a word and a number
unfoldable pub last_line : Page → List ℕ → ℕ → Page
last_line p word v = appended (valued (appended p word) v) (ascii "\n")
