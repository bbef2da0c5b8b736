-- The starred numbers hold: the check bytes and the single window tests by computing, the one about every start by
-- arithmetic. Assumes nothing.
use mathlib.Core.Path.{◌≡◌, refl, sym, ◌∙◌}
use mathlib.Core.Logic.{by_cases}
use Prim.Native.Nat.{ℕ, ◌<◌}
use native.Mathlib.Decide.{ℕ_discrete}
use native.Mathlib.Omega.{arith}
use borrow.Author.Tests.{lt-ltb, le-ltb, eq-eqb, ne_eqb}
use lib.Dec.{eqb}
use Rattle.check8.specs.Polynomial.{times_x, times_xs, step_byte, check_from}
use Rattle.window.specs.Windows.{offset_of, inside_of}
use Rattle.starred.specs.Worked.{window_at, Claim, worked}

-- of size 1 only the start is in
one_alone : (start s : ℕ) → start < 256 → s < 256 → inside_of (window_at start 1) s ≡ eqb s start
one_alone start s a b =
    by_cases (ℕ_discrete s start)
    (λ e. lt-ltb (offset_of (window_at start 1) s) 1 (omega arith) ∙ sym (eq-eqb s start e))
    (λ n. le-ltb (offset_of (window_at start 1) s) 1 (omega arith) ∙ sym (ne_eqb s start n))

pub starred : Claim worked
unfolding times_x times_xs step_byte check_from
starred = (refl, (refl, (refl, (refl, (refl, (refl, (refl, (refl, (refl, (refl, (one_alone, (refl, (refl, tt)))))))))))))
