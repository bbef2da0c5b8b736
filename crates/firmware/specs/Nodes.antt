-- An answer of the node's calls for C: the refusal by itself, and the values that come with it in a lent place. The
-- numbers are the paper's, from Answers.antt of crate end_points. Cited by the exported calls. Assumes nothing.
use Rattle.std.specs.Prelude.{ℕ, ◌+◌, ◌*◌, List, [], ◌∷◌, get_or, eqb}
use Rattle.std.proofs.lemmas.List.Edits.{sets}
use Rattle.units.specs.Refusals.{pick}

-- the refusal, 0 where the call is done [O3]
abbrev pub refusal_in : List ℕ → ℕ
refusal_in a = get_or a 0 0

-- what a place for values holds afterwards: the new where the call is done; a refusal leaves the old [R44]
abbrev pub if_done : {A : Type 0} → List ℕ → A → A → A
if_done a new old = pick (eqb (refusal_in a) 0) new old

-- the place of one value [R44, O3]
unfoldable pub value_in : List ℕ → ℕ → ℕ
value_in a old = if_done a (get_or a 1 0) old

-- of two: a sender's counts; of a plan how many were accepted, and what refused the next [E17, R44, O10]
unfoldable pub pair_in : List ℕ → List ℕ → List ℕ
pair_in a old = if_done a (sets old 0 (get_or a 1 0 ∷ get_or a 2 0 ∷ [])) old

-- of three, an arrival's: what it was, its entry, and its value, 0 where it has none [R44, O3, O8]
unfoldable pub arrived_in : List ℕ → List ℕ → List ℕ
arrived_in a old = if_done a (sets old 0 (get_or a 1 0 ∷ get_or a 2 0 ∷ get_or a 3 0 ∷ [])) old

-- the version of the archive: its three numbers, a byte each [G5]
abbrev pub version_of : ℕ → ℕ → ℕ → ℕ
version_of major minor patch = (major * 256 + minor) * 256 + patch
