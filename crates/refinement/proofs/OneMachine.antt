-- A node stands for one machine only, whatever table it is said to be of: the links of its book hold one list each, and its head says
-- how many entries there are and what they ask for. Assumes nothing.
use Prim.Native.Nat.{ℕ, ◌<◌}
use mathlib.Core.Path.{◌≡◌, refl, sym, ap, ◌∙◌, fun_ext}
use mathlib.Core.List.{List, map}
use native.Mathlib.Omega.{arith}
use Rattle.memory.specs.Layout as layout
use Rattle.table.specs.Layout.{count_of, own_of, protocol_of}
use Rattle.table.specs.Areas.{store_of}
use Rattle.good.specs.Good.{Lists, Good}
use Rattle.good.specs.Calls.{Memory}
use Rattle.machine.specs.Machine.{Sort, acks, resets, urgents, resends, datas}
use Rattle.refinement.specs.Standing.{plain_item, slot_item, waiting_for, stands_for, OneMachine}
use Rattle.refinement.proofs.Waiting.{lists_are}

module _ (t u : List ℕ) (n : Memory) (l k : Lists) (g : Good t n.node n.book l) (h : Good u n.node n.book k) where
  same_list : (q : ℕ) → q < 4 → l q ≡ k q
  same_list q z = lists_are refl g.lines h.lines q z

  same_waiting : (q : Sort) → waiting_for n.node l q ≡ waiting_for n.node k q
  unfolding waiting_for
  same_waiting acks = refl
  same_waiting resets = ap (map plain_item) (same_list layout.resets (omega arith))
  same_waiting urgents = ap (map plain_item) (same_list layout.urgents (omega arith))
  same_waiting resends = ap (map (slot_item n.node)) (same_list layout.resends (omega arith))
  same_waiting datas = ap (map (slot_item n.node)) (same_list layout.datas (omega arith))

  pub same_machine : stands_for t n l ≡ stands_for u n k
  same_machine =
      let own : own_of t ≡ own_of u = sym g.tabled.own ∙ h.tabled.own in
      let protocol : protocol_of t ≡ protocol_of u = sym g.tabled.protocol ∙ h.tabled.protocol in
      let need : store_of t ≡ store_of u = sym g.tabled.need ∙ h.tabled.need in
      let count : count_of t ≡ count_of u = sym g.tabled.count ∙ h.tabled.count in
      rw (own, protocol, need, count, fun_ext same_waiting)

pub one_machine : OneMachine
unfolding OneMachine
one_machine t u n m k a b = sym a.is ∙ same_machine t u n a.lists b.lists a.good b.good ∙ b.is
