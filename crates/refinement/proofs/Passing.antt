-- A window whose start has passed p numbers: the number j past the new start is the number p + j past the old one.
-- Assumes nothing.
use Prim.Native.Nat.{ℕ, ◌+◌}
use mathlib.Core.Path.{◌≡◌, ap, ◌∙◌}
use mathlib.Core.List.{List}
use native.Mathlib.Omega.{arith}
use lib.ListN.{take, drop}
use Rattle.units.specs.declared.Seq.{Seq}
use Rattle.window.specs.Numbers.{byte_of}
use Rattle.window.specs.Windows.{accept_of, pass_of}
use Rattle.window.specs.declared.Window.{Window}
use Rattle.window.proofs.Accepting.{accept_start}
use Rattle.window.proofs.Passing.{pass_start, pass_run}
use Rattle.slots.specs.Slots.{slot_for, cell, spot, past, length_in}
use Rattle.blocks.specs.Payloads.{payload_at}
use Rattle.good.proofs.AckRuns.{Passes}

-- the start itself, once s is accepted
pub start_past : (w : Window) (s : ℕ)
    → let v = pass_of (accept_of w s).window in v.window.start.0 ≡ byte_of (w.start.0 + v.run)
start_past w s =
    let a = (accept_of w s).window in
    ap (λ (z : Seq). z.0) (pass_start a) ∙ rw (accept_start w s, ← pass_run a)

pub payload_past : (st b : List ℕ) (i place largest : ℕ) (w u : Window) (k p : ℕ) → Passes i w k p u → (j : ℕ)
    → payload_at st b i place largest u j ≡ payload_at st b i place largest w (p + j)
payload_past st b i place largest w u k p P j =
    let c = P.cells j in
    let s : slot_for u (past u j) ≡ slot_for w (past w (p + j)) = omega arith in
    ap (λ (c : ℕ). take (length_in b c) (drop (spot place largest (slot_for u (past u j))) st)) c
    ∙ ap (λ (r : ℕ). take (length_in b (cell i w (past w (p + j)))) (drop (spot place largest r) st)) s
