-- What is known of an entry: by a test of its state or kind that passed, and as Good states it of that kind and state. Assumes nothing.
use Prim.Native.Nat.{ℕ, zero, suc, ◌<◌}
use mathlib.Core.Path.{◌≡◌, refl, sym, subst}
use mathlib.Core.Logic.{◌≢◌, ◌⊎◌, inl, inr}
use mathlib.Core.Bool.{Bool, true, false, ◌||◌, true≢false, false≢true}
use mathlib.Core.List.Memᴰ
use mathlib.Core.List.{List, [], Memᴰ}
use native.Mathlib.Omega.{arith}
use lib.Dec.{eqb}
use borrow.Author.Tests.{eqb-true, eqb-false}
use Rattle.window.specs.Windows.{Good as GoodWindow}
use Rattle.window.specs.declared.Found.{Found}
use Rattle.window.specs.declared.Found.TheVariants.{New, Held, Outside}
use Rattle.table.specs.declared.Kind.{Kind}
use Rattle.table.specs.declared.Kind.TheVariants.{Sends, Receives}
use Rattle.end_points.specs.States.{is_sends}
use Rattle.end_points.specs.Runs.{is_new}
use Rattle.end_points.specs.declared.State.{State}
use Rattle.end_points.specs.declared.State.TheVariants.{Closed, Enabled, Open, Failing}
use Rattle.end_points.specs.declared.EndPoint.{EndPoint}
use Rattle.memory.specs.Layout.{owner_of}
use Rattle.good.specs.Good.{Lists, mine, Silent, Stated, Entered}
use Rattle.good.proofs.Members.{mine_all}

-- ---- by a test

pub is_sends_holds : (k : Kind) → is_sends k ≡ true → k ≡ Sends
is_sends_holds Sends h = refl
is_sends_holds Receives h = absurd (false≢true h)

pub is_new_holds : (f : Found) → is_new f ≡ true → f ≡ New
is_new_holds New h = refl
is_new_holds Held h = absurd (false≢true h)
is_new_holds Outside h = absurd (false≢true h)

-- one number, or what another test says
pub either : (j k : ℕ) (h : Bool) → (eqb j k || h) ≡ true → (j ≡ k) ⊎ (h ≡ true)
either j k h e = sides (eqb j k) refl e
  where
    sides : (t : Bool) → eqb j k ≡ t → (t || h) ≡ true → (j ≡ k) ⊎ (h ≡ true)
    sides true q e = inl (eqb-true j k q)
    sides false q e = inr e

pub neither : (j k : ℕ) (h : Bool) → (eqb j k || h) ≡ false → (j ≢ k) × (h ≡ false)
neither j k h e = sides (eqb j k) refl e
  where
    sides : (t : Bool) → eqb j k ≡ t → (t || h) ≡ false → (j ≢ k) × (h ≡ false)
    sides true q e = absurd (true≢false e)
    sides false q e = (eqb-false j k q, e)

-- ---- as Good states it

-- of an end point whose kind and state are known, and back
pub stated_as : (b : List ℕ) (l : Lists) (i : ℕ) (e : EndPoint) → Entered b l i e → (k : Bool) → is_sends e.entry.kind ≡ k → (s : State) → e.state ≡ s → Stated b l i e k s
stated_as b l i e a k ke s se = subst (Stated b l i e k) se (subst (λ (x : Bool). Stated b l i e x e.state) ke a.stated)

pub entered_as : (b : List ℕ) (l : Lists) (i : ℕ) (e : EndPoint) → GoodWindow e.run.window → (k : Bool) → is_sends e.entry.kind ≡ k → (s : State) → e.state ≡ s
    → Stated b l i e k s → Entered b l i e
entered_as b l i e g k ke s se h =
    record {
      window = g;
      stated = subst (λ (x : Bool). Stated b l i e x e.state) (sym ke) (subst (Stated b l i e k) (sym se) h);
    }

-- nothing of a receiver waits in the queues
pub receiver_silent : (b : List ℕ) (l : Lists) (i : ℕ) (e : EndPoint) (s : State) → Stated b l i e false s → Silent l i []
receiver_silent b l i e Closed a = a.silent
receiver_silent b l i e (Enabled t sent) a = a.0.silent
receiver_silent b l i e Open a = a.silent
receiver_silent b l i e (Failing n) a = absurd a

-- where nothing of an entry waits, no one thing of its does
pub silent_nil : (l : Lists) (i : ℕ) → Silent l i [] → (q : ℕ) → q < 4 → mine i (l q) ≡ []
silent_nil l i s zero h = s.share.resets
silent_nil l i s (suc zero) h = s.share.urgents
silent_nil l i s (suc (suc zero)) h = s.resends
silent_nil l i s (suc (suc (suc zero))) h = s.share.datas
silent_nil l i s (suc (suc (suc (suc q)))) h = absurd (omega arith)

pub silent_out : (l : Lists) (i : ℕ) → Silent l i [] → (x : ℕ) → owner_of x ≡ i → (q : ℕ) → q < 4 → Memᴰ x (l q) → ⊥
silent_out l i s x o q h m = Memᴰ.not-nil (subst (λ (ys : List ℕ). Memᴰ x ys) (silent_nil l i s q h) (mine_all i x (l q) m o))
