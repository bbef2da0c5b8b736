-- `window::words::run` meets its contract. Assumes nothing.
use Rattle.std.proofs.Common.{◌≡◌, ℕ, ◌+◌, sym, ◌∙◌, ap₂, arith, rules}
use Rattle.window.specs.Marks.{run_in}
use Rattle.window.proofs.TrailingOnes.{run_in_le, run_in_low, run_in_high}
use Rattle.window.proofs.words.run.Goals as goal

pub returns-then-low-lt64 : goal.returns-then-low-lt64
returns-then-low-lt64 c =
    let m = c.args.m in
    let low = c.trailing_ones-low.ensures in
    low ∙ sym (run_in_low 64 64 m.1 m.0 (omega arith))

pub overflow_add-result : goal.overflow_add-result
overflow_add-result c =
    let m = c.args.m in
    omega (arith, run_in_le 64 m.0, run_in_le 64 m.1)

pub returns : goal.returns
returns c =
    let m = c.args.m in
    let full : run_in 64 m.0 ≡ 64 = omega (arith, run_in_le 64 m.0) in
    ap₂ (λ (x y : ℕ). x + y) (c.trailing_ones-low.ensures ∙ full) c.trailing_ones.ensures
    ∙ sym (run_in_high 64 64 m.1 m.0 (search rules) full)
