-- What holds of all that the sends of a plan come to, where each keeps it. Assumes nothing.
use Rattle.std.specs.Prelude.{ℕ, ◌+◌, Bool, true, false, List, [], ◌∷◌}
use Rattle.units.specs.Refusals.{pick}
use Rattle.machine.specs.Machine.{Machine, Outcome, answers, sending, accepts, sending_all}

-- what holds where nothing was done, and of what a send leaves only if it holds of what was there before the send
module _ (P : Machine → Outcome → Type 0) (i : ℕ)
    (done : (m : Machine) (ns : List ℕ) → P m (answers (0 ∷ ns) [] m))
    (before : (m : Machine) (p : List ℕ) (o : Outcome) → P (sending m i p).machine o → P m o) where
  pub by_sends : (m : Machine) (n : ℕ) (ps : List (List ℕ)) → P m (sending_all m i n ps)
  unfolding sending_all
  by_sends m n [] = done m _
  by_sends m n (p ∷ ps) = before m p _ (sides (accepts (sending m i p)) (by_sends (sending m i p).machine (n + 1) ps))
    where
      sides : (b : Bool) → P (sending m i p).machine (sending_all (sending m i p).machine i (n + 1) ps)
          → P (sending m i p).machine
          (pick b (sending_all (sending m i p).machine i (n + 1) ps)
          (answers (0 ∷ n ∷ (sending m i p).answer.numbers) [] (sending m i p).machine))
      sides true others = others
      sides false others = done (sending m i p).machine _
