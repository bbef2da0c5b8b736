-- One outcome: the window that is lent. The contracts of those functions are the records of
-- crates/lent_window/specs/Lending.antt, and the theorems are over these; that of `receive`, which is lent nothing, is
-- over its contract's own text. Assumes nothing.
use Prim.Native.Nat.{ℕ}
use mathlib.Core.Path.{◌≡◌}
use mathlib.Core.Bool.{Bool}
use Rattle.window.specs.declared.Found.{Found}
use Rattle.window.specs.declared.Window.{Window}
use Rattle.lent_window.specs.Lending.{Tests, Accepts, Passes, Resets}
use Rattle.lent_window.proofs.receive.Reads as lent_window_receive
use Rattle.contracts.specs.Outcome.{OneAnswer}

pub lent_window_inside_one : (w : Window) (s : ℕ) (r₁ r₂ : Bool) → Tests w s r₁ → Tests w s r₂ → r₁ ≡ r₂
lent_window_inside_one w s r₁ r₂ p q = cc (p.answer, q.answer)

pub lent_window_accept_one : (w : Window) (s : ℕ) (r₁ r₂ : Found) (w₁ w₂ : Window)
    → Accepts w s r₁ w₁ → Accepts w s r₂ w₂ → (r₁ ≡ r₂) × (w₁ ≡ w₂)
lent_window_accept_one w s r₁ r₂ w₁ w₂ p q = (cc (p.answer, q.answer), cc (p.after, q.after))

pub lent_window_pass_one : (w : Window) (r₁ r₂ : ℕ) (w₁ w₂ : Window)
    → Passes w r₁ w₁ → Passes w r₂ w₂ → (r₁ ≡ r₂) × (w₁ ≡ w₂)
lent_window_pass_one w r₁ r₂ w₁ w₂ p q = (cc (p.answer, q.answer), cc (p.after, q.after))

pub lent_window_reset_one : (w w₁ w₂ : Window) → Resets w w₁ → Resets w w₂ → w₁ ≡ w₂
lent_window_reset_one w w₁ w₂ p q = cc (p.after, q.after)

pub lent_window_receive_one : OneAnswer lent_window_receive.Post (λ r. r)
lent_window_receive_one u v a r₁ r₂ e₁ e₂ p q = cc
