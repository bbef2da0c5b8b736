-- What holds of every machine that setup and calls can give, as far as laws of the machine and the promise lean on it:
-- end points within their entry's bounds, and nothing waits that may not go out. That the machines which nodes stand
-- for are sound is proved in crates/refinement. Assumes nothing.
use Rattle.std.specs.Prelude.{ℕ, ◌≤◌, ◌<◌, ◌≡◌, ◌≢◌, Bool, true, false, length}
use Rattle.std.proofs.Math.Option.{some}
use mathlib.Core.List.{List, [], Memᴰ}
use Rattle.std.proofs.Math.ListN.{get_elem?}
use Rattle.table.specs.Layout.{count_of, own_of, protocol_of, entry_of}
use Rattle.table.specs.Areas.{store_of}
use Rattle.table.specs.Rules.{good_table}
use Rattle.table.specs.declared.Entry.{Entry}
use Rattle.frame.specs.declared.FrameType.TheVariants as type
use Rattle.end_points.specs.States.{is_sends}
use Rattle.end_points.specs.declared.State.TheVariants.{Enabled, Open, Failing}
use Rattle.machine.specs.Machine.{Number, End, Item, Sort, acks, resets, urgents, resends, datas, Machine}
use Rattle.machine.specs.Machine.{most_acks, offset, number_at}

-- a payload of 1 to P bytes [R5]
pub record Sized (x : Entry) (p : List ℕ) : Type 0 where
  pub some : 1 ≤ length p
  pub most : length p ≤ x.largest

-- a receiver takes no numbers, and never fails [H7]
pub record Receives (e : End) : Type 0 where
  pub numbers : e.numbers ≡ []
  pub runs : (timers : ℕ) → e.state ≡ Failing timers → ⊥

-- an end point of the entry x [E15, W3, W4]
pub record Bounded (x : Entry) (e : End) : Type 0 where
  pub entry : e.entry ≡ x
  pub start : e.start < 256
  pub taken : length e.numbers ≤ x.window
  pub places : length e.places ≡ x.window
  pub payloads : (n : Number) → Memᴰ n e.numbers → Sized x n.payload
  pub held : (p : List ℕ) → Memᴰ (some p) e.places → Sized x p
  pub urgent : (p : List ℕ) → e.urgent ≡ some p → Sized x p
  pub receives : is_sends x.kind ≡ false → Receives e

-- ---- what may wait for end point e

-- an acknowledgement: of a receiver that is Open [E14, H7]
pub record WaitsAck (e : End) : Type 0 where
  pub receives : is_sends e.entry.kind ≡ false
  pub opened : e.state ≡ Open

-- a Reset, with number 0: of a sender that is Enabled [F14, E5, E14, H7]
pub record WaitsReset (e : End) (s : ℕ) : Type 0 where
  pub sends : is_sends e.entry.kind ≡ true
  pub zero : s ≡ 0
  pub timer : ℕ
  pub sent : Bool
  pub enabled : e.state ≡ Enabled timer sent

-- an Urgent, with number 0 and its payload: of a sender [F15, E15, H7]
pub record WaitsUrgent (e : End) (s : ℕ) : Type 0 where
  pub sends : is_sends e.entry.kind ≡ true
  pub zero : s ≡ 0
  pub payload : List ℕ
  pub there : e.urgent ≡ some payload

-- a number taken and not yet acknowledged [E14, H7]
pub record WaitsData (e : End) (s : ℕ) : Type 0 where
  pub sends : is_sends e.entry.kind ≡ true
  pub opened : e.state ≡ Open
  pub taken : offset e s < length e.numbers
  pub missing : (number_at e s).acked ≡ false

-- what may wait, by its sort [H7]
abbrev pub Waits : Sort → End → ℕ → Type 0
Waits acks e s = WaitsAck e
Waits resets e s = WaitsReset e s
Waits urgents e s = WaitsUrgent e s
Waits resends e s = WaitsData e s
Waits datas e s = WaitsData e s

-- what waits is a frame of an end point that there is, and may go out [H7]
pub record Owned (m : Machine) (q : Sort) (x : Item) : Type 0 where
  pub end : End
  pub there : get_elem? m.ends x.entry ≡ some end
  pub byte : x.number < 256
  pub waits : Waits q end x.number

-- ---- where a number is that was handed out

-- one of three, and neither of the others [D13]
pub data OneOf (A B C : Type 0) : Type 0 where
  the_first : A → (B → ⊥) → (C → ⊥) → OneOf A B C
  the_second : (A → ⊥) → B → (C → ⊥) → OneOf A B C
  the_third : (A → ⊥) → (B → ⊥) → C → OneOf A B C

-- number s of entry i, which is e, runs a timer, waits as a retransmission or is under way, and only one of the three
-- [D13]
abbrev pub InOnePlace : Machine → ℕ → End → ℕ → Type 0
InOnePlace m i e s =
    let x : Item = record { entry = i; number = s } in
    OneOf ((number_at e s).timer ≢ 0) (Memᴰ x (m.waiting resends)) (m.under ≡ some (type.Data, x))

-- so at Open every number that was handed out and is not acknowledged [D13]
unfoldable pub EachInOnePlace : Machine → Type 0
EachInOnePlace m = (i : ℕ) (e : End) → get_elem? m.ends i ≡ some e → e.state ≡ Open
    → (s : ℕ) → s < 256 → (number_at e s).handed ≡ true → (number_at e s).acked ≡ false → InOnePlace m i e s

-- ---- the whole, for the table that it was set up from

-- set up from the table t, with a store that is long enough; every end point within its bounds, and nothing waits
-- that may not go out [T17, I2, O2]
pub record Sound (t : List ℕ) (m : Machine) : Type 0 where
  pub table : good_table t ≡ true
  pub own : m.own ≡ own_of t
  pub protocol : m.protocol ≡ protocol_of t
  pub need : m.need ≡ store_of t
  pub room : m.need ≤ m.room
  pub count : length m.ends ≡ count_of t
  pub bounded : (i : ℕ) (e : End) → get_elem? m.ends i ≡ some e → Bounded (entry_of t i) e
  pub owned : (q : Sort) (x : Item) → Memᴰ x (m.waiting q) → Owned m q x
  pub few : length (m.waiting acks) ≤ most_acks
