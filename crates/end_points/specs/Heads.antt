-- The node's head. Cited by every call. Assumes nothing.
use Rattle.std.specs.Prelude.{ℕ, ◌%◌, List, get_or}
use Rattle.units.specs.declared.Address.{Address}
use Rattle.memory.specs.Layout.{count_at, own_at, protocol_at, need_at}

-- how many entries there are; our address; the protocol ID; how many bytes of store the entries take
abbrev pub count_in : List ℕ → ℕ
count_in ws = get_or ws count_at 0 % 256

abbrev pub own_in : List ℕ → Address
own_in ws = record { 0 = get_or ws own_at 0 % 256 }

abbrev pub protocol_in : List ℕ → ℕ
protocol_in ws = get_or ws protocol_at 0 % 256

abbrev pub need_in : List ℕ → ℕ
need_in ws = get_or ws need_at 0
