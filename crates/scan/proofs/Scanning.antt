-- What a scan of octets keeps.
--
-- 1. A word is read where the text begins with it, octet by octet (`word_begun`, `word_other`).
-- 2. Digits are taken while there are some: those taken so far, and those at the front of what is left, are all the digits at the place (`Scanned`). A number that is cut off has the
--    same next value, cut off, as the number itself (`cut-more`).
-- 3. Whether the digits are a numeral is seen from how many they are, and from the first of them (`numeral-none`, `numeral-one`, `numeral-more`).
-- 4. So what is found at a place is what the definitions read there.
-- Assumes nothing.
use Prim.Native.Nat.{ℕ, zero, suc, ◌+◌, ◌-◌, ◌*◌, ◌≤◌, ◌<◌}
use mathlib.Core.Bool.{Bool, true, false, not, cond, true≢false, ◌&&◌}
use Rattle.std.specs.Char.{is_ascii_digit}
use Rattle.std.specs.Cmp.Lexicographic.{pointwise}
use mathlib.Core.List.{List, [], ◌∷◌, ◌++◌, append-nil, append_assoc}
use mathlib.Core.Path.{◌≡◌, refl, sym, ap, ◌∙◌}
use native.Mathlib.Omega.{arith}
use borrow.Author.Tests.{ltb-true, ltb-false}
use lib.Dec.{ltb, eqb}
use lib.ListN.{length, take, drop, get_or, length-append}
use lib.Seq.{drop-drop}
use Rattle.text.specs.Text.{value_after, value}
use Rattle.text.proofs.Numerals.{value_snoc}
use Rattle.aldebaran.specs.Form.{off, on, read_word, is_digit, front, is_numeral, read_number}
use Rattle.aldebaran.proofs.Numbers.{is_digit-true}
use Rattle.scan.specs.declared.Taken.{Taken}
use Rattle.scan.proofs.Cuts.{cut_below, cut_above}
use Rattle.scan.specs.Places.{word_then, number_then, many, cut, more, DigitsAt, Passed, Tells}

-- what is left at a place of a list, from its first number on
pub drop-next : (xs : List ℕ) (k : ℕ) → k < length xs → drop k xs ≡ get_or xs k 0 ∷ drop (suc k) xs
drop-next [] k h = absurd (omega arith)
drop-next (x ∷ xs) zero h = refl
drop-next (x ∷ xs) (suc k) h = drop-next xs k (omega arith)

pub drop-none : (xs : List ℕ) (k : ℕ) → length xs ≤ k → drop k xs ≡ []
drop-none [] zero h = refl
drop-none [] (suc k) h = refl
drop-none (x ∷ xs) zero h = absurd (omega arith)
drop-none (x ∷ xs) (suc k) h = drop-none xs k (omega arith)

-- ---- 1

-- the front of the text, as long as the word, is the word
pub word_begun : (w xs : List ℕ) → pointwise eqb w (take (length w) xs) ≡ true → (length w ≤ length xs) × (read_word w xs ≡ on [] (drop (length w) xs))
unfolding read_word
word_begun [] xs h = (omega arith, refl)
word_begun (a ∷ w) [] h = absurd (true≢false (sym h))
word_begun (a ∷ w) (x ∷ xs) h = go (eqb a x) h (word_begun w xs)
  where
    go : (b : Bool) → (b && pointwise eqb w (take (length w) xs)) ≡ true
        → (pointwise eqb w (take (length w) xs) ≡ true → (length w ≤ length xs) × (read_word w xs ≡ on [] (drop (length w) xs)))
        → (suc (length w) ≤ suc (length xs)) × (cond b (read_word w xs) off ≡ on [] (drop (length w) xs))
    go true h rest = let (l, e) = rest h in (omega arith, e)
    go false h rest = absurd (true≢false (sym h))

-- or it is not
pub word_other : (w xs : List ℕ) → pointwise eqb w (take (length w) xs) ≡ false → read_word w xs ≡ off
unfolding read_word
word_other [] xs h = absurd (true≢false h)
word_other (a ∷ w) [] h = refl
word_other (a ∷ w) (x ∷ xs) h = go (eqb a x) h (word_other w xs)
  where
    go : (b : Bool) → (b && pointwise eqb w (take (length w) xs)) ≡ false → (pointwise eqb w (take (length w) xs) ≡ false → read_word w xs ≡ off)
        → cond b (read_word w xs) off ≡ off
    go true h rest = rest h
    go false h rest = refl

-- ---- 2

-- the library's test of an octet is the definition's
pub ascii-digit : (x : ℕ) → is_ascii_digit x ≡ is_digit x
unfolding is_digit
ascii-digit x = refl

front-more : (x : ℕ) (xs : List ℕ) → is_digit x ≡ true → front (x ∷ xs) ≡ x ∷ front xs
unfolding front
front-more x xs e = rw e refl

front_stop : (x : ℕ) (xs : List ℕ) → is_digit x ≡ false → front (x ∷ xs) ≡ []
unfolding front
front_stop x xs e = rw e refl

front-none : front [] ≡ []
unfolding front
front-none = refl

pub cut-more : (v d : ℕ) → is_digit d ≡ true → more (cut v) d ≡ cut (10 * v + (d - 48))
cut-more v d e = go (ltb v many) refl (ltb v 1_000_000_000_000_000_000) refl
  where
    bounds : (48 ≤ d) × (d ≤ 57)
    bounds = is_digit-true d e

    go : (a : Bool) → ltb v many ≡ a → (b : Bool) → ltb v 1_000_000_000_000_000_000 ≡ b → more (cut v) d ≡ cut (10 * v + (d - 48))
    go a p true q =
        let h = ltb-true v 1_000_000_000_000_000_000 q in
        rw (cut_below v (omega arith), q, cut_below (10 * v + (d - 48)) (omega (arith, bounds))) refl
    go true p false q =
        let h = ltb-false v 1_000_000_000_000_000_000 q in
        let l = ltb-true v many p in
        rw (cut_below v l, q, cut_above (10 * v + (d - 48)) (omega arith)) refl
    go false p false q =
        let h = ltb-false v many p in
        rw (cut_above v h, cut_above (10 * v + (d - 48)) (omega arith)) refl

-- no digit there: another octet, or the end
pub no_more : (text : List ℕ) (i : ℕ) → i < length text → is_digit (get_or text i 0) ≡ false → front (drop i text) ≡ []
no_more text i h d = rw (drop-next text i h) (front_stop (get_or text i 0) (drop (suc i) text) d)

pub at-end : (text : List ℕ) (i : ℕ) → length text ≤ i → front (drop i text) ≡ []
at-end text i h = rw (drop-none text i h) front-none

-- the digits taken from the place up to i, and their number
pub record Scanned (text : List ℕ) (at v i : ℕ) : Type 0 where
  pub inside : i ≤ length text
  pub taken : List ℕ
  pub reached : i ≡ at + length taken
  pub all : front (drop at text) ≡ taken ++ front (drop i text)
  pub number : v ≡ cut (value taken)

module _ {text : List ℕ} {at : ℕ} where
  pub scanned_none : at ≤ length text → Scanned text at 0 at
  unfolding value_after value
  scanned_none h = record { inside = h; taken = []; reached = omega arith; all = refl; number = refl }

  pub scanned_more : {v i : ℕ} (x : ℕ) → i < length text → x ≡ get_or text i 0 → is_digit x ≡ true → Scanned text at v i → Scanned text at (more v x) (suc i)
  unfolding value
  scanned_more {v} {i} x h e d s = record {
    inside = h;
    taken = s.taken ++ (x ∷ []);
    reached = omega (arith, s.reached, length-append s.taken (x ∷ []));
    all = s.all ∙ ap (λ (l : List ℕ). s.taken ++ l) next ∙ sym (append_assoc s.taken (x ∷ []) (front (drop (suc i) text)));
    number = ap (λ (n : ℕ). more n x) s.number ∙ cut-more (value s.taken) x d ∙ ap cut (sym (value_snoc 0 s.taken x));
  }
    where
      next : front (drop i text) ≡ x ∷ front (drop (suc i) text)
      next = rw (drop-next text i h, ← e) (front-more x (drop (suc i) text) d)

  pub scanned_all : {v i : ℕ} → front (drop i text) ≡ [] → Scanned text at v i → (i ≡ at + length (front (drop at text))) × (v ≡ cut (value (front (drop at text))))
  scanned_all {v} {i} e s =
      let f : s.taken ≡ front (drop at text) = sym (s.all ∙ ap (λ (l : List ℕ). s.taken ++ l) e ∙ append-nil s.taken) in
      (s.reached ∙ ap (λ (l : List ℕ). at + length l) f, s.number ∙ ap (λ (l : List ℕ). cut (value l)) f)

-- ---- 3

pub numeral-none : (ds : List ℕ) → length ds ≡ 0 → is_numeral ds ≡ false
unfolding is_numeral
numeral-none [] e = refl
numeral-none (d ∷ ds) e = absurd (omega arith)

pub numeral-one : (ds : List ℕ) → length ds ≡ 1 → is_numeral ds ≡ true
unfolding is_numeral
numeral-one [] e = absurd (omega arith)
numeral-one (d ∷ []) e = refl
numeral-one (d ∷ e ∷ ds) q = absurd (omega arith)

pub numeral-more : (ds : List ℕ) → 2 ≤ length ds → is_numeral ds ≡ not (eqb (get_or ds 0 0) 48)
unfolding is_numeral
numeral-more [] h = absurd (omega arith)
numeral-more (d ∷ []) h = absurd (omega arith)
numeral-more (d ∷ e ∷ ds) h = refl

-- the digits at the front are no more than the octets, and begin as they do
pub front_length : (xs : List ℕ) → length (front xs) ≤ length xs
unfolding front
front_length [] = omega arith
front_length (x ∷ xs) = go (is_digit x) (front_length xs)
  where
    go : (b : Bool) → length (front xs) ≤ length xs → length (cond b (x ∷ front xs) []) ≤ suc (length xs)
    go true h = omega arith
    go false h = omega arith

pub front-first : (xs : List ℕ) → 0 < length (front xs) → get_or (front xs) 0 0 ≡ get_or xs 0 0
unfolding front
front-first [] h = absurd (omega arith)
front-first (x ∷ xs) h = go (is_digit x) h
  where
    go : (b : Bool) → 0 < length (cond b (x ∷ front xs) []) → get_or (cond b (x ∷ front xs) []) 0 0 ≡ x
    go true h = refl
    go false h = absurd (omega arith)

pub first-at : (xs : List ℕ) (k : ℕ) → k < length xs → get_or (drop k xs) 0 0 ≡ get_or xs k 0
first-at xs k h = ap (λ (l : List ℕ). get_or l 0 0) (drop-next xs k h)

-- ---- 4

module _ (text : List ℕ) (at : ℕ) where
  pub word-there : (w : List ℕ) → at + length w ≤ length text → read_word w (drop at text) ≡ on [] (drop (length w) (drop at text))
      → Passed text (word_then text at w) (at + length w)
  word-there w b n = record { inside = b; rest = n ∙ ap (on []) (drop-drop (length w) at text) }

  pub number_not_there : is_numeral (front (drop at text)) ≡ false → number_then text at ≡ off
  unfolding read_number
  number_not_there n = rw n refl

  pub number-there : (r : Taken) → is_numeral (front (drop at text)) ≡ true → DigitsAt text at r → Tells text (number_then text at) r
  unfolding read_number
  number-there r n d = record {
    inside = d.inside;
    number = value (front (drop at text));
    told = rw n (ap (on (value (front (drop at text)))) rest);
    value_is = d.number;
  }
    where
      rest : drop (length (front (drop at text))) (drop at text) ≡ drop r.next text
      rest = drop-drop (length (front (drop at text))) at text ∙ ap (λ (k : ℕ). drop k text) (sym d.end)
