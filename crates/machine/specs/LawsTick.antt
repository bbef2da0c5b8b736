-- Laws of a tick: every running timer falls by one, what that makes of each end point and of what waits, and which end
-- points become Enabled then. Proved in proofs/Ticking.antt. Assumes nothing.
use Rattle.std.specs.Prelude.{ℕ, zero, suc, ◌+◌, ◌-◌, ◌/◌, ◌%◌, ◌^◌, ◌≤◌, ◌<◌, ◌≡◌, ◌≢◌, ◌↔◌, Bool, true, false}
use Rattle.std.specs.Prelude.{not, ◌&&◌, length, eqb}
use Rattle.std.proofs.Math.Option.{Option, some}
use mathlib.Core.List.{List, [], ◌∷◌, ◌++◌, Memᴰ}
use Rattle.std.proofs.Math.ListN.{get_elem?}
use Rattle.units.specs.Refusals.{pick}
use Rattle.end_points.specs.States.{is_sends, is_open}
use Rattle.end_points.specs.declared.State.{State}
use Rattle.end_points.specs.declared.State.TheVariants.{Closed, Enabled, Open, Failing}
use Rattle.machine.specs.Calls.{ticks, Answer}
use Rattle.machine.specs.Machine.{Number, End, Item, Sort, acks, resets, urgents, resends, datas, Machine}
use Rattle.machine.specs.Machine.{Out, stated, numbered, at, without, past, anew, running}
use Rattle.machine.specs.Machine.{failing, any_spent, ticked, each, is_of, may_recover}
use Rattle.machine.specs.Laws.{Is, answer, after, item, share_of}

-- ---- words

-- the machine after all entries' timers, before the ends that have none running become Enabled [D3, D7]
abbrev pub timers : Machine → Machine
timers m = each (length m.ends) (λ i e m. ticked m i e e.state) m

-- what the entries 0 to n - 1 give, one behind the other [D7]
unfoldable pub in_turn : ℕ → (ℕ → List Item) → List Item
in_turn zero f = []
in_turn (suc n) f = in_turn n f ++ f n

-- and so all entries of a machine, in table order [D7]
abbrev pub in_table : Machine → (ℕ → End → List Item) → List Item
in_table m f = in_turn (length m.ends) (λ i. at m i [] (f i))

-- Open, with a number whose timer comes to zero after M retries [D6]
abbrev pub fails : End → Bool
fails e = is_open e.state && any_spent e.entry.retries e.numbers

-- the numbers whose timers come to zero, the number k past the start first, in window order [D5, D7]
unfoldable pub due_from : ℕ → End → ℕ → List Number → List Item
due_from i e k [] = []
due_from i e k (x ∷ xs) = pick (eqb x.timer 1) (item i (past e k) ∷ due_from i e (suc k) xs) (due_from i e (suc k) xs)

-- what begins to wait as the timer of entry i falls: at Enabled its Reset [D4]
abbrev pub due_reset : State → ℕ → List Item
due_reset Closed i = []
due_reset (Enabled timer sent) i = pick (eqb timer 1) (item i 0 ∷ []) []
due_reset Open i = []
due_reset (Failing n) i = []

-- and by sort: at Enabled its Reset, at Open its retransmissions, unless it fails [D4, D5]
abbrev pub due : Sort → ℕ → End → List Item
due acks i e = []
due resets i e = due_reset e.state i
due urgents i e = []
due resends i e = pick (is_open e.state) (pick (fails e) [] (due_from i e 0 e.numbers)) []
due datas i e = []

-- ---- timers

-- y is x, its timer lower by one if it runs [D3]
pub record Falls (x y : Number) : Type 0 where
  pub timer : y.timer ≡ x.timer - 1
  pub payload : y.payload ≡ x.payload
  pub handed : y.handed ≡ x.handed
  pub acked : y.acked ≡ x.acked

-- so falls every number, by its position in the window [D3]
pub record AllFall (xs ys : List Number) : Type 0 where
  pub count : length ys ≡ length xs
  pub each : (k : ℕ) (x y : Number) → get_elem? xs k ≡ some x → get_elem? ys k ≡ some y → Falls x y

-- and so many retries more each has [D5, D9]
abbrev pub Retried : (Number → ℕ) → List Number → List Number → Type 0
Retried more xs ys =
    (k : ℕ) (x y : Number) → get_elem? xs k ≡ some x → get_elem? ys k ≡ some y → y.retries ≡ x.retries + more x

-- entry i at Open: each timer falls; one that comes to zero is one retry more and waits as a retransmission, last of
-- the entry's and in window order; nothing else of it alters [D3, D5]
pub record SendsAgain (m : Machine) (i : ℕ) (e : End) : Type 0 where
  pub numbers : List Number
  pub end : Is (after m ticks) i (numbered e.start numbers e)
  pub fall : AllFall e.numbers numbers
  pub retried : Retried (λ x. pick (eqb x.timer 1) 1 0) e.numbers numbers
  pub waits : share_of i ((after m ticks).waiting resends) ≡ share_of i (m.waiting resends) ++ due_from i e 0 e.numbers
  pub all : (k : ℕ) (x : Number) → get_elem? e.numbers k ≡ some x → x.timer ≡ 1
      → Memᴰ (item i (past e k)) ((after m ticks).waiting resends)
  pub others : (q : Sort) → q ≢ resends → share_of i ((after m ticks).waiting q) ≡ share_of i (m.waiting q)

-- rules out the one that leaves its state alone and the one that never sends again what was lost [D3, D5, D7, O4]
unfoldable pub ExpiredResends : Type 0
ExpiredResends = (m : Machine) (i : ℕ) (e : End) → Is m i e → e.state ≡ Open
    → ((k : ℕ) (x : Number) → get_elem? e.numbers k ≡ some x → x.timer ≡ 1 → x.retries < e.entry.retries)
    → SendsAgain m i e

-- Failing, with as many timers as still run, or, with none and no frame of its own under way, Enabled again [D10]
abbrev pub failed : Bool → List Number → End → End
failed under ns e = pick (eqb (running ns) 0 && not under) (anew (Enabled 0 false) e) (failing ns e)

-- entry i fails: each timer falls; its Urgent goes, and nothing of it waits until it is Enabled [D6, D8]
pub record Fails (m : Machine) (i : ℕ) (e : End) : Type 0 where
  pub numbers : List Number
  pub fall : AllFall e.numbers numbers
  pub end : Is (after m ticks) i (failed (is_of i m.under) numbers e)
  pub silent : (q : Sort) → share_of i ((timers m).waiting q) ≡ []

-- rules out the one that tries for ever: a timer that comes to zero after M retries fails the end [D3, D6, D8]
unfoldable pub ExpiredFails : Type 0
ExpiredFails = (m : Machine) (i : ℕ) (e : End) → Is m i e → e.state ≡ Open
    → (k : ℕ) (x : Number) → get_elem? e.numbers k ≡ some x → x.timer ≡ 1 → e.entry.retries ≤ x.retries
    → Fails m i e

-- entry i at Failing: each timer falls, no expiry is a retry, and nothing of it begins to wait [D3, D9]
pub record GoesOnFailing (m : Machine) (i : ℕ) (e : End) : Type 0 where
  pub numbers : List Number
  pub fall : AllFall e.numbers numbers
  pub retried : Retried (λ x. 0) e.numbers numbers
  pub end : Is (after m ticks) i (failed (is_of i m.under) numbers e)
  pub stays : (q : Sort) → share_of i ((timers m).waiting q) ≡ share_of i (m.waiting q)

-- rules out the one that goes on to resend [D3, D9]
unfoldable pub FailingFalls : Type 0
FailingFalls = (m : Machine) (i : ℕ) (e : End) (n : ℕ) → Is m i e → e.state ≡ Failing n → GoesOnFailing m i e

-- entry i at Enabled: its Reset's timer falls, and the Reset waits again when that comes to zero; nothing else alters
-- [D3, D4]
pub record ResetFalls (m : Machine) (i : ℕ) (e : End) (timer : ℕ) (sent : Bool) : Type 0 where
  pub end : Is (after m ticks) i (stated (Enabled (timer - 1) sent) e)
  pub waits : timer ≡ 1 → share_of i ((after m ticks).waiting resets) ≡ share_of i (m.waiting resets) ++ (item i 0 ∷ [])
  pub still : timer ≢ 1 → share_of i ((after m ticks).waiting resets) ≡ share_of i (m.waiting resets)
  pub others : (q : Sort) → q ≢ resets → share_of i ((after m ticks).waiting q) ≡ share_of i (m.waiting q)

-- rules out the one that sends its Reset only once: it waits again, without limit [D3, D4]
unfoldable pub ResetTimerFalls : Type 0
ResetTimerFalls = (m : Machine) (i : ℕ) (e : End) (timer : ℕ) (sent : Bool) → Is m i e → e.state ≡ Enabled timer sent
    → ResetFalls m i e timer sent

-- at Closed nothing of an entry alters: no timer runs there [E14, D3]
unfoldable pub ClosedStays : Type 0
ClosedStays = (m : Machine) (i : ℕ) (e : End) → Is m i e → e.state ≡ Closed
    → Is (after m ticks) i e × ((q : Sort) → share_of i ((after m ticks).waiting q) ≡ share_of i (m.waiting q))

-- ---- the whole lists of what waits

-- what the entries that fail had waiting is gone; then comes what begins to wait, in table order and behind all
-- others; an entry's timers go in window order [D4, D5, D7, D8]
unfoldable pub TimersWait : Type 0
TimersWait = (m : Machine) (q : Sort)
    → (timers m).waiting q ≡ without (λ x. at m x.entry false fails) (m.waiting q) ++ in_table m (due q)

-- ---- after all timers

-- the Reset of a sender that has no timer running and, where u is under way, no frame of its own under way [D10]
abbrev pub due_over : Option Out → ℕ → End → List Item
due_over u i e = pick (may_recover u i e && is_sends e.entry.kind) (item i 0 ∷ []) []

-- from m, in which all timers have fallen, to m': each entry that is Failing with no timer running and no frame of its
-- own under way becomes Enabled, its Reset waits, in table order and behind all others, and its bit is answered;
-- nothing else alters [D10, D11]
pub record Recovers (m m' : Machine) (a : Answer) : Type 0 where
  pub bits : ℕ
  pub numbers : a.numbers ≡ bits ∷ []
  pub bit : (i : ℕ) → (bits / 2 ^ i % 2 ≡ 1) ↔ ((e : End) × Is m i e × (may_recover m.under i e ≡ true))
  pub over : (i : ℕ) (e : End) → Is m i e → may_recover m.under i e ≡ true → Is m' i (anew (Enabled 0 false) e)
  pub others : (i : ℕ) (e : End) → Is m i e → may_recover m.under i e ≡ false → Is m' i e
  pub count : length m'.ends ≡ length m.ends
  pub behind : m'.waiting resets ≡ m.waiting resets ++ in_table m (due_over m.under)
  pub waiting : (q : Sort) → q ≢ resets → m'.waiting q ≡ m.waiting q

-- rules out the one that stays Failing, and the one that does not tell its host [D10, D11, R39]
unfoldable pub TickRecovers : Type 0
TickRecovers = (m : Machine) → Recovers (timers m) (after m ticks) (answer m ticks)

-- ---- independence

-- what a tick makes of an entry and of its share of what waits depends on that entry alone, and on whether a frame of
-- its own is under way: two functions that are given nothing else [I1]
pub record TickAlone : Type 0 where
  pub becomes : Bool → End → End
  pub keeps : Bool → Sort → ℕ → End → List Item → List Item
  pub end : (m : Machine) (i : ℕ) (e : End) → Is m i e → Is (after m ticks) i (becomes (is_of i m.under) e)
  pub share : (m : Machine) (i : ℕ) (e : End) → Is m i e → (q : Sort)
      → share_of i ((after m ticks).waiting q) ≡ keeps (is_of i m.under) q i e (share_of i (m.waiting q))
