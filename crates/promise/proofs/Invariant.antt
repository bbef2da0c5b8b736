-- The invariant of a run: what the two end points and the history are to each other, in each of the three parts of a run. The
-- promise follows from it. Assumes nothing.
use Prim.Native.Nat.{ℕ, zero, suc, ◌+◌, ◌-◌, ◌≤◌, ◌<◌}
use mathlib.Core.Path.{◌≡◌, ap, sym, subst, ◌∙◌}
use mathlib.Core.Logic.{◌⊎◌, inl, inr}
use mathlib.Core.Bool.{Bool, true, false, true≢false}
use mathlib.Core.List.Memᴰ
use mathlib.Core.List.{List, [], map, Memᴰ}
use lib.ListN.{length, take, get_or}
use native.Mathlib.Omega.{arith}
use Rattle.window.specs.Numbers.{byte_of}
use Rattle.promise.specs.History.{Pay, SState, s_enabled, s_open, Live, Sent, reset, data!, Tag, new, Back, ack}
use Rattle.promise.specs.Promise.{AsPromised}
use Rattle.promise.proofs.Windows.{Marks, none}
use Rattle.promise.proofs.Channel.{Send, Recv, r_open, Channel, tag_byte}

-- ---- answered, and taken

-- the receiver answered this run's frame number n: the acknowledgement waits, or was handed out
abbrev pub Answered : List Tag → List Back → ℕ → Type 0
Answered tags back n = Memᴰ (new n) tags ⊎ ((b : ℕ) × Memᴰ (ack n b) back)

-- the receiver has the payload number j + 1: it is delivered, or held
abbrev pub Got : List Pay → Marks → ℕ → Type 0
Got del held j = (j < length del) ⊎ ((i : ℕ) × (j ≡ length del + i) × (held i ≡ true))

-- an acknowledgement handed out has the byte of the number that it answers
abbrev pub BackOk : Back → Type 0
BackOk (ack n b) = b ≡ byte_of n

-- the bytes that wait are those of the tags beside them; and of those handed out the same
pub record Bytes (waiting : List ℕ) (tags : List Tag) (back : List Back) : Type 0 where
  pub queue : waiting ≡ map tag_byte tags
  pub backs : (a : Back) → Memᴰ a back → BackOk a

-- ---- Enabled

-- no Reset of this run handed out yet: nothing of this run is about
pub record Fresh (g : Channel) : Type 0 where
  pub enabled : g.sender.state ≡ s_enabled false
  pub none_accepted : g.hist.accepted ≡ []
  pub none_out : g.hist.sent ≡ []
  pub no_data : g.hist.data_in ≡ false
  pub silent : (n : ℕ) → Answered g.hist.tags g.hist.back n → ⊥
  pub bytes : Bytes g.receiver.waiting g.hist.tags g.hist.back

-- nothing is delivered, and the receiver, if it is Open, is as a Reset leaves it
pub record Blank (r : Recv) (del : List Pay) : Type 0 where
  pub undelivered : del ≡ []
  pub at_open : r.state ≡ r_open → (r.start ≡ 1) × (r.held ≡ none)

abbrev pub IsReset : Sent → Type 0
IsReset reset = Unit {0}
IsReset (data! n b p) = ⊥

-- a Reset of this run handed out: only Resets are about, and once one is answered the receiver is blank
pub record Resetting (g : Channel) : Type 0 where
  pub enabled : g.sender.state ≡ s_enabled true
  pub none_accepted : g.hist.accepted ≡ []
  pub begun : Memᴰ reset g.hist.sent
  pub resets : (f : Sent) → Memᴰ f g.hist.sent → IsReset f
  pub no_data : g.hist.data_in ≡ false
  pub zeros : (n : ℕ) → Answered g.hist.tags g.hist.back n → (n ≡ 0) × Blank g.receiver g.hist.delivered
  pub bytes : Bytes g.receiver.waiting g.hist.tags g.hist.back

-- ---- Open or Failing

-- the sender against the payloads accepted: those not confirmed are the ones taken
pub record Sending (W : ℕ) (s : Send) (acc : List Pay) : Type 0 where
  pub live : Live s.state
  pub counted : s.accepted ≡ length acc
  pub span : s.confirmed + s.taken ≡ length acc
  pub width : s.taken ≤ W
  pub start : s.start ≡ byte_of (1 + s.confirmed)
  pub stored : (i : ℕ) → i < s.taken → s.payloads i ≡ get_or acc (s.confirmed + i) []

-- what is held past d delivered is what was accepted with its number
pub record Holding (held : Marks) (payloads : ℕ → Pay) (d : ℕ) (acc : List Pay) : Type 0 where
  pub held_in : (i : ℕ) → held i ≡ true → d + i < length acc
  pub held_is : (i : ℕ) → held i ≡ true → payloads i ≡ get_or acc (d + i) []

-- what the receiver held when it was last Open in this run: it may have been closed since
pub record Shelf : Type 0 where
  pub held : Marks
  pub payloads : ℕ → Pay

abbrev pub shelf : Recv → Shelf
shelf r = record { held = r.held; payloads = r.payloads }

-- the receiver's part against the payloads accepted: it delivered the first of them, and did not hold the next
pub record Receiving (v : Shelf) (del acc : List Pay) : Type 0 where
  pub ahead : length del ≤ length acc
  pub prefix : del ≡ take (length del) acc
  pub holding : Holding v.held v.payloads (length del) acc
  pub gap : v.held 0 ≡ false

-- the receiver is as it was then
pub record InStep (r : Recv) (v : Shelf) (del : List Pay) : Type 0 where
  pub rstart : r.start ≡ byte_of (1 + length del)
  pub same : v ≡ shelf r

-- Data handed out is what was accepted
pub record Framed (acc : List Pay) (n b : ℕ) (p : Pay) : Type 0 where
  pub index : ℕ
  pub number : n ≡ suc index
  pub byte : b ≡ byte_of n
  pub within : index < length acc
  pub payload : p ≡ get_or acc index []

abbrev pub SentOk : List Pay → Sent → Type 0
SentOk acc reset = Unit {0}
SentOk acc (data! n b p) = Framed acc n b p

-- both ends: what is confirmed is delivered; what is acknowledged or answered, the receiver has
pub record Running (W : ℕ) (v : Shelf) (g : Channel) : Type 0 where
  pub sending : Sending W g.sender g.hist.accepted
  pub receiving : Receiving v g.hist.delivered g.hist.accepted
  pub at_open : g.receiver.state ≡ r_open → InStep g.receiver v g.hist.delivered
  pub behind : g.sender.confirmed ≤ length g.hist.delivered
  pub marks : (i : ℕ) → g.sender.acknowledged i ≡ true → Got g.hist.delivered v.held (g.sender.confirmed + i)
  pub begun : Memᴰ reset g.hist.sent
  pub frames : (f : Sent) → Memᴰ f g.hist.sent → SentOk g.hist.accepted f
  pub answers : (j : ℕ) → Answered g.hist.tags g.hist.back (suc j) → Got g.hist.delivered v.held j
  pub quiet : g.hist.data_in ≡ false → (g.hist.delivered ≡ []) × ((i : ℕ) → v.held i ≡ false)
  pub bytes : Bytes g.receiver.waiting g.hist.tags g.hist.back

-- ---- the invariant, and what follows

pub data Inv (W : ℕ) (g : Channel) : Type 0 where
  fresh : Fresh g → Inv W g
  resetting : Resetting g → Inv W g
  running : (v : Shelf) → Running W v g → Inv W g

-- what the receiver has was accepted
pub got_accepted : {v : Shelf} {del acc : List Pay} (j : ℕ) → Receiving v del acc → Got del v.held j → j < length acc
got_accepted j h (inl l) = omega (arith, h.ahead)
got_accepted j h (inr (i, e, q)) = let z = h.holding.held_in i q in omega arith

-- the promise
pub kept : (W : ℕ) (g : Channel) → Inv W g → Live g.sender.state → AsPromised g.sender.accepted g.sender.confirmed g.hist
kept W g (fresh f) l = absurd (subst Live f.enabled l)
kept W g (resetting f) l = absurd (subst Live f.enabled l)
kept W g (running v f) l = record {
  counted = f.sending.counted;
  in_order = f.receiving.prefix;
  confirmed_le = f.behind;
  delivered_le = f.receiving.ahead;
  numbers = λ n b p m. let x = f.frames (data! n b p) m in
      let e : x.index ≡ n - 1 = omega (arith, x.number) in
      (x.byte, omega (arith, x.number), omega (arith, x.number, x.within), x.payload ∙ ap (λ (i : ℕ). get_or g.hist.accepted i []) e);
  answers = λ n b m. (f.bytes.backs (ack n b) m, le_acc n (inr (b, m)));
}
  where
    le_acc : (n : ℕ) → Answered g.hist.tags g.hist.back n → n ≤ length g.hist.accepted
    le_acc zero a = omega arith
    le_acc (suc j) a = let z = got_accepted j f.receiving (f.answers j a) in omega arith

-- which of the three it is, by the sender's state or by what was handed out
not_open_enabled : (t : SState) (o : Bool) → t ≡ s_open → t ≡ s_enabled o → ⊥
not_open_enabled t o p q = let z : ◌≡◌ {A = ℕ} 0 1 = cc in omega arith

pub not_bool : {b : Bool} → b ≡ true → b ≡ false → ⊥
not_bool p q = true≢false (sym p ∙ q)

pub at_open : (W : ℕ) (g : Channel) → Inv W g → g.sender.state ≡ s_open → (v : Shelf) × Running W v g
at_open W g (fresh f) e = absurd (not_open_enabled _ _ e f.enabled)
at_open W g (resetting f) e = absurd (not_open_enabled _ _ e f.enabled)
at_open W g (running v f) e = (v, f)

no_begun : (l : List Sent) → l ≡ [] → Memᴰ reset l → ⊥
no_begun l e m = Memᴰ.not-nil (subst (λ (k : List Sent). Memᴰ reset k) e m)

pub at_fresh : (W : ℕ) (g : Channel) → Inv W g → g.hist.sent ≡ [] → Fresh g
at_fresh W g (fresh f) e = f
at_fresh W g (resetting f) e = absurd (no_begun _ e f.begun)
at_fresh W g (running v f) e = absurd (no_begun _ e f.begun)
