-- `window::words::is_set` meets its contract. Assumes nothing.
use Rattle.std.proofs.Common.{◌≡◌, ◌+◌, ◌-◌, sym, ap, ◌∙◌, arith, rules}
use Rattle.window.specs.Marks.{joined, bit}
use Rattle.window.proofs.Bits.{bit_low, bit_high, bit_above}
use Rattle.window.proofs.TwoWords.{joined_lt}
use Rattle.window.proofs.words.is_set.Goals as goal

pub returns-then-k-lt64 : goal.returns-then-k-lt64
unfolding bit
returns-then-k-lt64 c =
    let a = c.args in
    sym (bit_low 64 a.m.1 a.m.0 a.k c.if-k-lt64.true)

pub returns-then-k-lt128 : goal.returns-then-k-lt128
unfolding bit
returns-then-k-lt128 c =
    let a = c.args in
    let e : a.k ≡ 64 + (a.k - 64) = omega arith in
    sym (ap (bit (joined a.m)) e ∙ bit_high 64 a.m.1 a.m.0 (a.k - 64) (search rules))

pub returns : goal.returns
returns c =
    let a = c.args in
    sym (bit_above 128 (joined a.m) a.k (joined_lt a.m (search rules) (search rules)) c.if-k-lt128.false)
