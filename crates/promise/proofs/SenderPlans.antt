-- A plan on the sender's machine: what of it is accepted are so many payloads, one after the other. Assumes nothing.
use Prim.Native.Nat.{ℕ, suc, ◌+◌}
use mathlib.Core.Path.{◌≡◌, refl, sym, subst}
use mathlib.Core.Option.{some}
use mathlib.Core.List.{List, [], ◌∷◌}
use native.Mathlib.Decide.{ℕ_discrete}
use native.Mathlib.Omega.{arith}
use lib.ListN.{length, take, get_elem?}
use borrow.Author.Tests.{eq-eqb, ne_eqb}
use Rattle.units.specs.Refusals.{pick}
use Rattle.units.proofs.Judging.{Clear, clear, refused_not_zero}
use Rattle.table.specs.Layout.{entry_of}
use Rattle.table.specs.declared.Entry.{Entry}
use Rattle.blocks.specs.Reading.{read_block}
use Rattle.machine.specs.Calls.{plans}
use Rattle.machine.specs.Machine.{End, datas, Machine, Outcome, turned, waits, past, answers, done, unless, send_tests, taking, sending, accepts, sending_all, planning, step}
use Rattle.machine.specs.Sound.{Sound}
use Rattle.machine.proofs.Entries.{elem_lt, elem_set_same}
use Rattle.machine.proofs.Judged.{by_verdict}
use Rattle.machine.proofs.Planning.{plan_tests}
use Rattle.promise.specs.History.{s_quiet, s_accepts}
use Rattle.promise.specs.Seen.{is_done, accepted_in, s_seen}
use Rattle.promise.proofs.Laws.{Accepts, accepts_none, sn_accept}
use Rattle.promise.proofs.Entries.{entry_is}
use Rattle.promise.proofs.Watched.{Watch, Step, never, refused_done, still, seen_as, elsewhere}
use Rattle.promise.proofs.SenderView.{send_of}
use Rattle.promise.proofs.SenderCalls.{s_watch, SStep}
use Rattle.promise.proofs.SenderCalls as calls

-- ---- send after send, on entry i, whose end is of the entry x

module _ (x : Entry) (i : ℕ) where
  -- of the payloads ps an outcome tells how many were accepted, n before them, and they were, from e on
  record Took (e : End) (n : ℕ) (ps : List (List ℕ)) (o : Outcome) : Type 0 where
    accepted : ℕ
    stop : List ℕ
    numbers : o.answer.numbers ≡ 0 ∷ (n + accepted) ∷ stop
    end : End
    there : get_elem? o.machine.ends i ≡ some end
    takes : Accepts x.window (send_of e) (take accepted ps) (send_of end)

  -- none
  none_taken : (m : Machine) (e : End) → get_elem? m.ends i ≡ some e → (n : ℕ) (ps : List (List ℕ)) (stop : List ℕ)
      → Took e n ps (answers (0 ∷ n ∷ stop) [] m)
  none_taken m e there n ps stop =
      record {
        accepted = 0;
        stop = stop;
        numbers = let z : n + 0 ≡ n = omega arith in rw z;
        end = e;
        there = there;
        takes = accepts_none (send_of e);
      }

  took : (m : Machine) (e : End) → get_elem? m.ends i ≡ some e → e.entry ≡ x → (n : ℕ) (ps : List (List ℕ))
      → Took e n ps (sending_all m i n ps)
  unfolding sending_all sending
  took m e there same n [] = none_taken m e there n [] _
  took m e there same n (p ∷ ps) =
      subst After (sym sends)
      (by_verdict After (send_tests m e p) [] m (done next)
      (λ w. rw (refused_not_zero w) (none_taken m e there n (p ∷ ps) _))
      (λ v. more (clear (send_tests m e p) v) (took next (taking p e) is same (n + 1) ps)))
    where
      next : Machine
      next = waits datas i (past e (length e.numbers)) (turned i (taking p e) m)

      sends : sending m i p ≡ unless (send_tests m e p) [] m (done next)
      sends = rw there

      is : get_elem? next.ends i ≡ some (taking p e)
      is = elem_set_same m.ends i (taking p e) (elem_lt m.ends i there)

      After : Outcome → Type 0
      After o =
          Took e n (p ∷ ps)
          (pick (accepts o) (sending_all o.machine i (n + 1) ps) (answers (0 ∷ n ∷ o.answer.numbers) [] o.machine))

      more : Clear (send_tests m e p) → Took (taking p e) (n + 1) ps (sending_all next i (n + 1) ps) → After (done next)
      more c k =
          record {
            accepted = suc k.accepted;
            stop = k.stop;
            numbers = let z : n + 1 + k.accepted ≡ n + suc k.accepted = omega arith in rw (← z) k.numbers;
            end = k.end;
            there = k.there;
            takes = calls.accepts x m i e there same p c (take k.accepted ps) k.end k.takes;
          }

-- ---- the call

module _ (t : List ℕ) (m : Machine) (S : Sound t m) (i : ℕ) (e : End) (there : get_elem? m.ends i ≡ some e) where
  abbrev K : Watch
  K = s_watch t i

  pub s_plans : (j : ℕ) (block : List ℕ) → SStep t m i e (plans j block) (step m (plans j block))
  unfolding s_seen step planning
  s_plans j block = sides (ℕ_discrete j i)
    where
      all : Took (entry_of t i) i e 0 (read_block block) (sending_all m i 0 (read_block block))
      all = took (entry_of t i) i m e there (entry_is t m S i e there) 0 (read_block block)

      here : SStep t m i e (plans i block) (unless (plan_tests block) [] m (sending_all m i 0 (read_block block)))
      here =
          by_verdict (Step K i m e (plans i block)) (plan_tests block) [] m (sending_all m i 0 (read_block block))
          (λ w. still K i m e _ _ e there refl (rw (refused_done w)))
          (λ v.
          let z : 0 + all.accepted ≡ all.accepted = omega arith in
          seen_as K i m e (rw (all.numbers, eq-eqb i i refl, z)) (record {
            end = all.end;
            there = all.there;
            next = sn_accept (send_of e) (send_of all.end) (take all.accepted (read_block block)) all.takes;
          }))

      sides : Dec (j ≡ i) → SStep t m i e (plans j block) (step m (plans j block))
      sides (yes q) = rw q here
      sides (no d) =
          elsewhere K t m S i e there (plans j block) d
          (rw (ne_eqb j i d) (never (is_done (step m (plans j block)).answer.numbers) (s_accepts (accepted_in block (step m (plans j block)).answer)) s_quiet))
