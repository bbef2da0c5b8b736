-- Setup stands for the machine begun. Assumes nothing.
use Prim.Native.Nat.{ℕ, ◌≤◌, ◌<◌}
use mathlib.Core.Path.{◌≡◌, refl, sym, ap, subst, ◌∙◌, fun_ext}
use mathlib.Core.List.{List, [], map}
use native.Mathlib.Omega.{arith}
use lib.ListN.{length, set, length-set}
use lib.Seq.{get_or-set_same}
use Rattle.memory.specs.Layout.{under_at, book_halves}
use Rattle.waiting.specs.Port.{under_in}
use Rattle.window.proofs.Resetting.{new_held}
use Rattle.table.specs.Layout.{count_of, entry_of}
use Rattle.table.specs.Areas.{store_of}
use Rattle.call_open.specs.Setup.{setup_answer, emptied, setup_after}
use Rattle.good.specs.Calls.{Memory, kept, SetUp}
use Rattle.good.proofs.Entering.{closed_at}
use Rattle.good.proofs.SetupGood.{setup_good, setup_ends}
use Rattle.good.proofs.ReachGood.{setup_holds}
use Rattle.machine.specs.Machine.{Sort, acks, resets, urgents, resends, datas, listed, first, begun}
use Rattle.refinement.specs.Standing.{Reading, read_at, end_for, end_at, ack_item, waiting_for, stands_for, Stands, Begins, SetupAnswers}
use Rattle.machine.proofs.Listed.{listed_ext}
use Rattle.refinement.proofs.Elsewhere.{none_held}
use Rattle.std.specs.Prelude.{Ok}

closed_end : (L : Reading) (t st b : List ℕ) (i : ℕ) → end_for L st b i (closed_at t i) ≡ first (entry_of t i)
unfolding end_for listed
closed_end L t st b i = rw (none_held st b i (closed_at t i) (new_held (entry_of t i).window))

module _ (t : List ℕ) (n : Memory) (s : SetUp t n) where
  abbrev done : Memory
  done = kept (setup_after s.before t (Ok tt))

  ends : (i : ℕ) → i < count_of t → end_at done i ≡ first (entry_of t i)
  ends i h =
      ap (end_for (read_at done) done.store done.book i) ((setup_ends s.before t s.node s.bytes s.passed).0 i h)
      ∙ closed_end (read_at done) t done.store done.book i

  none_waits : (q : Sort) → waiting_for done.node (λ r. []) q ≡ []
  unfolding waiting_for
  none_waits acks = ap (map ack_item) (setup_ends s.before t s.node s.bytes s.passed).1
  none_waits resets = refl
  none_waits urgents = refl
  none_waits resends = refl
  none_waits datas = refl

  none_under : under_in done.book ≡ 0
  unfolding setup_after
  none_under =
      let long : length (set (emptied s.before.book) under_at 0) ≡ book_halves = (setup_good s.before t s.node s.book s.bytes s.passed).lines.long in
      get_or-set_same (emptied s.before.book) under_at 0 0 (omega (arith, long, length-set (emptied s.before.book) under_at 0))

  stands_for_holds : stands_for t done (λ r. []) ≡ begun t (length done.store)
  unfolding begun
  stands_for_holds = rw (listed_ext (count_of t) (end_at done) (λ i. first (entry_of t i)) ends, fun_ext none_waits, none_under)

  begins_at : Stands t n (begun t (length n.store))
  begins_at =
      subst (λ (m : Memory). Stands t m (begun t (length m.store))) (sym s.is)
      (record {
        lists = λ r. [];
        good = setup_good s.before t s.node s.book s.bytes s.passed;
        room = subst (λ (m : Memory). store_of t ≤ length m.store) s.is (setup_holds t n s).2;
        is = stands_for_holds;
      })

pub begins : Begins
unfolding Begins
begins t n s = begins_at t n s

pub setup_answers : SetupAnswers
unfolding SetupAnswers setup_answer
setup_answers x t = refl
