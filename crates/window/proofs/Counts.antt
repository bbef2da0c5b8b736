-- The window law for a window whose start is the byte of an unfolded count, and the count that stands there after each
-- step. Assumes nothing.
use Rattle.std.proofs.Common.{◌≡◌, ℕ, ◌+◌, ◌-◌, ◌<◌, ◌≤◌, ltb, leb, sym, refl, ap, ◌∙◌, arith, le-ltb, lt-ltb, le-leb}
use mathlib.Core.Logic.{by_cases}
use native.Mathlib.Decide.{dec_le}
use borrow.Author.Tests.{lt-leb}
use Rattle.units.specs.declared.Seq.{Seq}
use Rattle.window.specs.Numbers.{distance_of, byte_of}
use Rattle.window.specs.Windows.{offset_of, inside_of, run_of, At, Good, new_of, reset_of, accept_of, pass_of}
use Rattle.window.specs.declared.Window.{Window}
use Rattle.window.proofs.Accepting.{accept_start}
use Rattle.window.proofs.Passing.{pass_start}
use Rattle.window.proofs.Sizes.{size_le}
use Rattle.window.proofs.WindowLaw.{window_law, window_distance}

-- ---- counts near the start

-- a count from the start on lies as far from it as the difference
pub offset_count : (w : Window) (c n : ℕ) → At w c → c ≤ n → n < c + 256 → offset_of w (byte_of n) ≡ n - c
offset_count w c n a h near = ap (λ (x : ℕ). distance_of x (byte_of n)) a ∙ window_distance c n h near

-- a count less than the size after the start, or at most 256 less the size before it, is in exactly when it is not before the start
pub inside_count : (w : Window) (c n : ℕ) → Good w → At w c → n < c + w.size → c ≤ n + (256 - w.size)
    → inside_of w (byte_of n) ≡ leb c n
inside_count w c n g a front back =
    let small = size_le w.size g.sized in
    let law = window_law w.size c n (omega arith) front back in
    ap (λ (x : ℕ). ltb (distance_of x (byte_of n)) w.size) a
    ∙ by_cases (dec_le c n)
    (λ h. lt-ltb (distance_of (byte_of c) (byte_of n)) w.size (law.1 h) ∙ sym (le-leb c n h))
    (λ h.
    le-ltb (distance_of (byte_of c) (byte_of n)) w.size
    (by_cases (dec_le w.size (distance_of (byte_of c) (byte_of n))) (λ q. q) (λ q. absurd (h (law.0 (omega arith)))))
    ∙ sym (lt-leb c n (omega arith)))

-- ---- after the steps

pub new_at : (W : ℕ) → At (new_of W) 1
new_at W = refl

pub reset_at : (w : Window) → At (reset_of w) 1
reset_at w = refl

pub accept_at : (w : Window) (s c : ℕ) → At w c → At (accept_of w s).window c
accept_at w s c a = ap (λ (t : Seq). t.0) (accept_start w s) ∙ a

pub pass_at : (w : Window) (c : ℕ) → At w c → At (pass_of w).window (c + run_of w)
pass_at w c a = ap (λ (t : Seq). t.0) (pass_start w) ∙ omega arith
