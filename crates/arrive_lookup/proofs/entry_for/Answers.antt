-- `arrive_lookup::entry_for` meets its contract: a digit of the `and` is what the index lists. Assumes nothing.
use Prim.Native.Nat.{ℕ, ◌/◌, ◌^◌}
use mathlib.Core.Path.{◌≡◌, sym, ap, ap₂, ◌∙◌}
use mathlib.Core.Bool.{Bool, true, false, ◌&&◌}
use mathlib.Core.List.{List}
use lib.Bits.{bit_and}
use Rattle.window.specs.Marks.{bit}
use Rattle.window.proofs.Bits.{bit_shr}
use Rattle.arrive_lookup.specs.Lookup.{row_in, listed, first_from, entry_for}
use Rattle.frame.specs.Types.{for_sender}
use Rattle.arrive_lookup.proofs.First.{first_ext}
use Rattle.arrive_lookup.proofs.Digits.{bit_and_holds}
use Rattle.arrive_lookup.proofs.entry_for.Goals as goal

module _ (ws : List ℕ) (source channel : ℕ) where
  senders : first_from (bit (bit_and (row_in ws channel) (row_in ws source / 2 ^ 32))) 0 16 ≡ first_from (listed ws true source channel) 0 16
  senders =
      first_ext (bit (bit_and (row_in ws channel) (row_in ws source / 2 ^ 32))) (listed ws true source channel) 0 16
      (λ i h. bit_and_holds (row_in ws channel) (row_in ws source / 2 ^ 32) i ∙ ap (λ (b : Bool). bit (row_in ws channel) i && b) (bit_shr (row_in ws source) 32 i))

  receivers : first_from (bit (bit_and (row_in ws channel / 2 ^ 16) (row_in ws source / 2 ^ 32))) 0 16 ≡ first_from (listed ws false source channel) 0 16
  receivers =
      first_ext (bit (bit_and (row_in ws channel / 2 ^ 16) (row_in ws source / 2 ^ 32))) (listed ws false source channel) 0 16
      (λ i h. bit_and_holds (row_in ws channel / 2 ^ 16) (row_in ws source / 2 ^ 32) i ∙ ap₂ (λ (a b : Bool). a && b) (bit_shr (row_in ws channel) 16 i) (bit_shr (row_in ws source) 32 i))

pub returns-then-for_sender : goal.returns-then-for_sender
unfolding entry_for
returns-then-for_sender c =
    let a = c.args in
    let t : for_sender a.t ≡ true = sym c.for_sender.ensures ∙ c.if-for_sender.true in
    rw t ((rw (c.sets_in-over.ensures, c.sets_in-from.ensures) at c.lowest.ensures) ∙ senders a.node.now a.source.0 a.channel.0)

pub returns : goal.returns
unfolding entry_for
returns c =
    let a = c.args in
    let t : for_sender a.t ≡ false = sym c.for_sender.ensures ∙ c.if-for_sender.false in
    rw t ((rw (c.sets_in-over.ensures, c.sets_in-from.ensures) at c.lowest-2.ensures) ∙ receivers a.node.now a.source.0 a.channel.0)
