-- A frame goes under way, or its end was reported: of what is under way only its own entry sees a difference. Assumes nothing.
use Prim.Native.Nat.{ℕ, ◌+◌, ◌*◌, ◌/◌, ◌%◌, ◌≤◌, ◌<◌}
use mathlib.Core.Path.{◌≡◌, refl, sym, ap, ◌∙◌}
use mathlib.Core.Logic.{◌≢◌}
use mathlib.Core.Bool.{true, false, not, and-false}
use mathlib.Core.List.{List}
use native.Mathlib.Nat.{mod-eq_of_lt}
use native.Mathlib.Omega.{arith}
use lib.ListN.{get_or, set}
use lib.Seq.{get_or-set_same, get_or-set_other}
use lib.Dec.{eqb}
use borrow.Author.Tests.{eq-eqb, ne_eqb}
use Rattle.memory.specs.Layout.{cells_at, under_at}
use Rattle.waiting.specs.Port.{under_in, out_word, out_entry, out_number, begun, ended, is_own, is_reset, no_number, data_out}
use Rattle.good.specs.Good.{Lists, Lines}
use Rattle.good.proofs.Framing.{SameUnder, Within, within_port}

-- ---- what entry j sees where the frame under way is none of its own

-- it has nothing under way
pub record Idle (b : List ℕ) (j : ℕ) : Type 0 where
  pub data! : data_out b j ≡ no_number
  pub reset : is_reset (under_in b) j ≡ false
  pub own : is_own b j ≡ false

both_idle : (j : ℕ) (b b' : List ℕ) → Idle b j → Idle b' j → SameUnder j b b'
both_idle j b b' p q =
    record { data! = q.data! ∙ sym p.data!; reset = q.reset ∙ sym p.reset; own = q.own ∙ sym p.own }

pub none_idle : (b : List ℕ) (j : ℕ) → under_in b ≡ 0 → Idle b j
none_idle b j e =
    record {
      data! = rw (ne_eqb (under_in b / 256) (16 + j) (λ h. omega (arith, e, h)));
      reset = ne_eqb (under_in b / 256) (48 + j) (λ h. omega (arith, e, h));
      own = rw (eq-eqb (under_in b) 0 e);
    }

pub other_idle : (b : List ℕ) (i j : ℕ) → j < 16 → j ≢ i → out_entry (under_in b) ≡ i → Idle b j
other_idle b i j low d e =
    record {
      data! = rw (ne_eqb (under_in b / 256) (16 + j) (λ h. d (omega (arith, e, h))));
      reset = ne_eqb (under_in b / 256) (48 + j) (λ h. d (omega (arith, e, h)));
      own = rw (ne_eqb (out_entry (under_in b)) j (λ h. d (sym h ∙ e))) (and-false (not (eqb (under_in b) 0)));
    }

-- ---- a frame of entry i goes under way

pub word_entry : (t i s : ℕ) → i < 16 → s < 256 → out_entry (out_word t i s) ≡ i
word_entry t i s low byte = omega arith

pub word_number : (t i s : ℕ) → s < 256 → out_number (out_word t i s) ≡ s
word_number t i s byte = omega arith

word_head : (t i s : ℕ) → t < 4 → i < 16 → s < 256 → out_word t i s / 256 ≡ (t + 1) * 16 + i
word_head t i s few low byte =
    let p : t % 4 ≡ t = mod-eq_of_lt few in
    let q : i % 16 ≡ i = mod-eq_of_lt low in
    omega (arith, p, q)

module _ (b : List ℕ) (l : Lists) (L : Lines b l) (t i s : ℕ) (low : i < 16) (byte : s < 256) where
  pub begun_under : under_in (begun b t i s) ≡ out_word t i s
  begun_under = get_or-set_same b under_at (out_word t i s) 0 (omega (arith, L.long))

  begun_entry : out_entry (under_in (begun b t i s)) ≡ i
  begun_entry = ap out_entry begun_under ∙ word_entry t i s low byte

  pub within_begun : under_in b ≡ 0 → Within i b (begun b t i s) l l
  within_begun none =
      within_port i b l L (out_word t i s) (λ j h d. both_idle j b (begun b t i s) (none_idle b j none) (other_idle (begun b t i s) i j h d begun_entry))
      (λ z. record { entry = word_entry t i s low byte; least = omega arith; most = omega arith })

  -- Data, of number s; a Reset; and no other type is the one or the other
  pub begun_data : t ≡ 0 → data_out (begun b t i s) i ≡ s
  begun_data e = rw (begun_under, eq-eqb (out_word t i s / 256) (16 + i) (omega arith)) (word_number t i s byte)

  pub begun_no_data : 1 ≤ t → t < 4 → data_out (begun b t i s) i ≡ no_number
  begun_no_data some few = rw (begun_under, ne_eqb (out_word t i s / 256) (16 + i) (λ e. omega (arith, word_head t i s few low byte, e)))

  pub begun_reset : t ≡ 2 → is_reset (under_in (begun b t i s)) i ≡ true
  begun_reset e = rw begun_under (eq-eqb (out_word t i s / 256) (48 + i) (omega arith))

  pub begun_no_reset : t ≢ 2 → t < 4 → is_reset (under_in (begun b t i s)) i ≡ false
  begun_no_reset n few = rw begun_under (ne_eqb (out_word t i s / 256) (48 + i) (λ e. n (omega (arith, word_head t i s few low byte, e))))

-- ---- its end was reported

module _ (b : List ℕ) (l : Lists) (L : Lines b l) where
  pub ended_under : under_in (ended b) ≡ 0
  ended_under = get_or-set_same b under_at 0 0 (omega (arith, L.long))

  pub within_ended : (i : ℕ) → out_entry (under_in b) ≡ i → Within i b (ended b) l l
  within_ended i e =
      within_port i b l L 0 (λ j h d. both_idle j b (ended b) (other_idle b i j h d e) (none_idle (ended b) j ended_under)) (λ z. absurd (z refl))

-- beyond the links nothing altered
pub port_cells : (b : List ℕ) (u k : ℕ) → cells_at ≤ k → get_or (set b under_at u) k 0 ≡ get_or b k 0
port_cells b u k h = get_or-set_other b under_at k u 0 (λ e. omega arith)
