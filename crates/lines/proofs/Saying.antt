-- Laws of what is said: nothing, text in its place, one text behind another. Assumes nothing.
use Rattle.std.proofs.Common.{◌≡◌, ℕ, ◌+◌, ◌≤◌, ◌<◌, List, [], ◌∷◌, ◌++◌, None, Some, length, take, drop, refl, sym, ap}
use Rattle.std.proofs.Common.{◌∙◌, append_assoc, append-nil, arith, length-take-le, length-append}
use mathlib.Core.Bool.{Bool, true, false}
use borrow.Author.Tests.{leb-true}
use lib.Dec.{leb}
use native.Mathlib.Numerals.{add-one}
use lib.ListN.{get_or}
use lib.Seq.{take_at, take-suc, length-sets}
use Rattle.std.proofs.lemmas.List.Edits.{sets, sets-eq}
use Rattle.std.specs.Io.KnownBytes.{Appends, append_known}
use Rattle.std.proofs.KnownBytes.{Appends-nil, Appends-trans}
use Rattle.std.specs.declared.option.Option.{Option}
use Rattle.units.specs.Refusals.{pick}
use Rattle.lines.specs.Lines.{Page, page, place_of}
use Rattle.lines.specs.Sink.{Puts, Says, value_text, values_text}
use Rattle.lines.specs.declared.sink.Sink.{Sink}

-- ---- places

-- text that is no longer than the buffer fits where it goes
pub place_fits : (size at n : ℕ) → n ≤ size → place_of size at n + n ≤ size
place_fits size at n l = go (leb (at + n) size) refl
  where
    go : (b : Bool) → leb (at + n) size ≡ b → pick b at 0 + n ≤ size
    go true e = leb-true (at + n) size e
    go false e = omega (arith, l)

-- what is taken once text is in its place
pub take_sets : (xs ys : List ℕ) (i : ℕ) → i + length ys ≤ length xs → take (i + length ys) (sets xs i ys) ≡ take i xs ++ ys
take_sets xs ys i l =
    let first : length (take i xs) ≡ i = length-take-le i xs (omega arith) in
    let long : length (take i xs ++ ys) ≡ i + length ys = omega (arith, length-append (take i xs) ys, first) in
    rw (sets-eq ys xs i l) (take_at (take i xs ++ ys) (drop (i + length ys) xs) (i + length ys) long)

-- ---- known bytes

known_flushed : (a b : Option (List ℕ)) (waits : List ℕ) → Appends a b waits → Appends (append_known a waits) (append_known b []) []
known_flushed None b waits p = tt
known_flushed (Some x) None waits p = absurd p
known_flushed (Some x) (Some y) waits p = ap (λ (l : List ℕ). l ++ []) p

known_grown : (a : Option (List ℕ)) (old new bytes : List ℕ) → new ≡ old ++ bytes → Appends (append_known a old) (append_known a new) bytes
known_grown None old new bytes e = tt
known_grown (Some x) old new bytes e = ap (λ (l : List ℕ). x ++ l) e ∙ sym (append_assoc x old bytes)

-- ---- what is said

module _ {W : Type 0} {contents : W → Option (List ℕ)} where
  pub says_nothing : {s : Sink W} {p : Page} → p.taken ≤ length p.bytes → Says contents s p s p []
  says_nothing l = record { within = l; grown = λ n. (n, Appends-nil _) }

  pub says_flushed : {s t : Sink W} {out : List ℕ} {at : ℕ} → Puts contents s t (take at out) → Says contents s (page out at) t (page out 0) []
  says_flushed h = record { within = omega arith; grown = λ n. ((h n).0, known_flushed _ _ _ (h n).1) }

  pub says_then : {s t u : Sink W} {p q r : Page} {a b : List ℕ} → Says contents s p t q a → Says contents t q u r b → Says contents s p u r (a ++ b)
  says_then x y = record { within = y.within; grown = λ n. let m = y.grown n in let k = x.grown m.0 in (k.0, Appends-trans _ _ _ _ _ k.1 m.1) }

  -- text in its place
  pub says_put : {s t : Sink W} {out : List ℕ} {at : ℕ} (from : ℕ) (bytes : List ℕ) → from + length bytes ≤ length out
      → Says contents s (page out at) t (page out from) [] → Says contents s (page out at) t (page (sets out from bytes) (from + length bytes)) bytes
  says_put {t = t} {out = out} from bytes l x =
      says_then x
      (record {
        within = omega (arith, length-sets out from bytes);
        grown = λ n. (n, known_grown (contents t.writer) (take from out) _ bytes (take_sets out bytes from l));
      })

-- ---- the text of numbers

pub values_text_one : (v : ℕ) → values_text (v ∷ []) ≡ value_text v
values_text_one v = append-nil (value_text v)

pub values_text_append : (vs ws : List ℕ) → values_text (vs ++ ws) ≡ values_text vs ++ values_text ws
values_text_append [] ws = refl
values_text_append (v ∷ vs) ws = ap (λ (l : List ℕ). value_text v ++ l) (values_text_append vs ws) ∙ sym (append_assoc (value_text v) (values_text vs) (values_text ws))

pub values_text_more : (vs : List ℕ) (i : ℕ) → i < length vs → values_text (take (i + 1) vs) ≡ values_text (take i vs) ++ value_text (get_or vs i 0)
values_text_more vs i h =
    rw (add-one, take-suc vs i 0 h) (values_text_append (take i vs) (get_or vs i 0 ∷ []) ∙ ap (λ (l : List ℕ). values_text (take i vs) ++ l) (values_text_one (get_or vs i 0)))

module _ {W : Type 0} {contents : W → Option (List ℕ)} where
  pub says_one : {s t : Sink W} {p q : Page} (v : ℕ) → Says contents s p t q (value_text v) → Says contents s p t q (values_text (v ∷ []))
  says_one v x = rw (values_text_one v) x

  -- one number more of a list
  pub says_more : {s t u : Sink W} {p q r : Page} (vs : List ℕ) (i : ℕ) → i < length vs → Says contents s p t q (values_text (take i vs))
      → Says contents t q u r (value_text (get_or vs i 0)) → Says contents s p u r (values_text (take (i + 1) vs))
  says_more vs i h x y = rw (values_text_more vs i h) (says_then x y)
