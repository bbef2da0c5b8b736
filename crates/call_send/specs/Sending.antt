-- Send and Urgent: which answer, and what all that was lent holds afterwards. Cited by both calls. Assumes nothing.
use Rattle.std.specs.Prelude.{ℕ, ◌+◌, Bool, not, List, [], ◌∷◌, ◌++◌, length, set, eqb, leb, ltb, Ok, Err}
use Rattle.std.proofs.lemmas.List.Edits.{sets}
use Rattle.units.specs.Limits.{most_accepted}
use Rattle.units.specs.Refusals.{verdict, Verdict}
use Rattle.units.specs.declared.refusals.Refusal.{Refusal}
use Rattle.units.specs.declared.refusals.Refusal.TheVariants as refusal
use Rattle.memory.specs.Layout.{entry_at, taken_word, accepted_word, datas, urgents, urgent_id, cell_id, length_at}
use Rattle.memory.specs.Layout.{retries_at}
use Rattle.waiting.specs.Queues.{appended}
use Rattle.end_points.specs.Ends.{end_of, saved}
use Rattle.end_points.specs.Heads.{count_in, need_in}
use Rattle.end_points.specs.States.{is_sends, is_open}
use Rattle.end_points.specs.Lent.{Lent}
use Rattle.end_points.specs.declared.EndPoint.{EndPoint}
use Rattle.end_points.specs.declared.Run.{Run}
use Rattle.slots.specs.Slots.{slot_for, cell, spot, past}

-- what both ask of an end point: 3, 4, and of a payload of n bytes 5 [R3, R4, R5]
abbrev pub sender_tests : EndPoint → ℕ → List (Bool × Refusal)
sender_tests e n =
    (not (is_sends e.entry.kind), refusal.OtherKind)
    ∷ (not (is_open e.state), refusal.WrongState)
    ∷ (eqb n 0, refusal.PayloadLength)
    ∷ (ltb e.entry.largest n, refusal.PayloadLength)
    ∷ []

-- ---- send: 2, 3, 4, 5, 8, 7, 6

-- of the run, and of a store of room bytes where need are in use: 8, 7, 6 [W3, R6, R7, R8]
abbrev pub run_tests : Run → ℕ → ℕ → List (Bool × Refusal)
run_tests r room need =
    (eqb r.accepted.0 most_accepted, refusal.RunFull)
    ∷ (leb r.window.size r.taken, refusal.WindowFull)
    ∷ (ltb room need, refusal.TooShort)
    ∷ []

-- 3, 4, 5, then 8, 7, 6 [R35]
abbrev pub send_tests : EndPoint → ℕ → ℕ → ℕ → List (Bool × Refusal)
send_tests e n room need = sender_tests e n ++ run_tests e.run room need

-- 2, then the others [R2, R35]
unfoldable pub send_answer : Lent → ℕ → List ℕ → Verdict
send_answer x i p =
    verdict
    ((leb (count_in x.node) i, refusal.NoEntry)
    ∷ send_tests (end_of x.node i) (length p) (length x.store) (need_in x.node))

-- the number that the next payload takes [W2]
abbrev pub next_number : Run → ℕ
next_number r = past r.window r.taken

-- one payload more is taken and accepted [W2]
unfoldable pub sent_run : Run → Run
sent_run r =
    record {
      window = r.window;
      taken = r.taken + 1;
      handed = r.handed;
      accepted = record { 0 = r.accepted.0 + 1 };
      confirmed = r.confirmed;
      urgent = r.urgent;
    }

-- the cell g has a payload of n bytes that was never sent again, and waits as data [W2]
unfoldable pub sent_book : List ℕ → ℕ → ℕ → List ℕ
sent_book b g n = appended (set (set b (length_at g) n) (retries_at g) 0) datas (cell_id g)

-- of the node only how many are taken and accepted alters: the run that is loaded then is `sent_run` of the one before
-- [W2]
abbrev pub sent_node : List ℕ → ℕ → Run → List ℕ
sent_node ws i r =
    set (set ws (entry_at i + taken_word) (r.taken + 1)) (entry_at i + accepted_word) (r.accepted.0 + 1)

-- the next number waits, with a payload of n bytes [W2]
abbrev pub laid_book : List ℕ → ℕ → EndPoint → ℕ → List ℕ
laid_book b i e n = sent_book b (cell i e.run.window (next_number e.run)) n

-- the payload lies in its slot [S3, S5]
abbrev pub laid_store : List ℕ → EndPoint → List ℕ → List ℕ
laid_store s e p = sets s (spot e.place e.entry.largest (slot_for e.run.window (next_number e.run))) p

-- the payload lies in its slot; its number waits [S3, S5, W2]
abbrev pub sent : Lent → ℕ → EndPoint → List ℕ → Lent
sent x i e p =
    record {
      node = sent_node x.node i e.run;
      book = laid_book x.book i e (length p);
      store = laid_store x.store e p;
      out = x.out;
    }

-- refused, all is as it was [R44]
unfoldable pub send_after : Lent → ℕ → List ℕ → Verdict → Lent
send_after x i p (Err w) = x
send_after x i p (Ok _) = sent x i (end_of x.node i) p

-- ---- Urgent: 2, 3, 4, 5, 9, 6

-- of the Urgent that waits, and of the store: 9, 6 [R6, R9]
abbrev pub wait_tests : Run → ℕ → ℕ → List (Bool × Refusal)
wait_tests r room need = (not (eqb r.urgent 0), refusal.UrgentWaits) ∷ (ltb room need, refusal.TooShort) ∷ []

-- 3, 4, 5, then 9, 6 [R36]
abbrev pub urgent_tests : EndPoint → ℕ → ℕ → ℕ → List (Bool × Refusal)
urgent_tests e n room need = sender_tests e n ++ wait_tests e.run room need

-- 2, then the others [R2, R36]
unfoldable pub urgent_answer : Lent → ℕ → List ℕ → Verdict
urgent_answer x i p =
    verdict
    ((leb (count_in x.node) i, refusal.NoEntry)
    ∷ urgent_tests (end_of x.node i) (length p) (length x.store) (need_in x.node))

-- an Urgent of n bytes waits [E15]
unfoldable pub urgent_run : Run → ℕ → Run
urgent_run r n =
    record {
      window = r.window;
      taken = r.taken;
      handed = r.handed;
      accepted = r.accepted;
      confirmed = r.confirmed;
      urgent = n;
    }

-- it lies in the sender's last slot [S4, S5, E15]
abbrev pub urged : Lent → ℕ → EndPoint → List ℕ → Lent
urged x i e p =
    record {
      node = saved x.node i e.state (urgent_run e.run (length p));
      book = appended x.book urgents (urgent_id i);
      store = sets x.store (spot e.place e.entry.largest e.run.window.size) p;
      out = x.out;
    }

-- refused, all is as it was [R44]
unfoldable pub urgent_after : Lent → ℕ → List ℕ → Verdict → Lent
urgent_after x i p (Err w) = x
urgent_after x i p (Ok _) = urged x i (end_of x.node i) p
