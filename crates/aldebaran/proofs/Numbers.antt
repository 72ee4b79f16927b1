-- Numbers at the front of octets. The digits of a numeral that is followed by no digit are all that stands at the front (`front-digits`), and their value is the
-- number: so a number that was written is read (`number_read`). The other way, digits at the front without a leading zero are the numeral of their value
-- (`numeral_only`, since after digits that stand for v, not 0, a further one stands for 10 v more), so a number that was read was written (`number-written`).
-- Assumes nothing.
use Prim.Native.Nat.{ℕ, zero, suc, ◌+◌, ◌-◌, ◌*◌, ◌/◌, ◌%◌, ◌≤◌, ◌<◌}
use mathlib.Core.Bool.{Bool, true, false, cond, ◌&&◌, true≢false}
use mathlib.Core.List.{List, [], ◌∷◌, ◌++◌, append-nil, append_assoc}
use mathlib.Core.Path.{◌≡◌, refl, sym, ap, ◌∙◌}
use native.Mathlib.Omega.{arith}
use borrow.Author.Tests.{leb-true, le-leb, eqb-false, not-true, ne_eqb}
use lib.Dec.{leb, eqb}
use lib.ListN.{length, drop, get_or}
use lib.Seq.{drop_at}
use Rattle.text.specs.Text.{digit, digits, AllDigits, value_after, value}
use Rattle.text.proofs.Numerals.{digits-one, digits_last, value-digits, digits_some, digits-all, digits_lead}
use Rattle.aldebaran.specs.Form.{Reading, off, on, is_digit, front, is_numeral, read_number, no_digit}

-- ---- readings

-- what was read, and the rest; what is off the form has neither
unfoldable got : {A : Type 0} → A → Reading A → A
got a off = a
got a (on b rest) = b

unfoldable left : {A : Type 0} → Reading A → List ℕ
left off = []
left (on b rest) = rest

unfoldable is_on : {A : Type 0} → Reading A → Bool
is_on off = false
is_on (on b rest) = true

pub on-got : {A : Type 0} {a b : A} {xs ys : List ℕ} → on a xs ≡ on b ys → a ≡ b
unfolding got
on-got {a = a} q = ap (got a) q

pub on_rest : {A : Type 0} {a b : A} {xs ys : List ℕ} → on a xs ≡ on b ys → xs ≡ ys
unfolding left
on_rest q = ap left q

pub off_not_on : {A : Type 0} {b : A} {ys : List ℕ} → off ≡ on b ys → ⊥
unfolding is_on
off_not_on q = true≢false (sym (ap is_on q))

-- ---- what was written is read

digit-is : (x : ℕ) → 48 ≤ x → x ≤ 57 → is_digit x ≡ true
unfolding is_digit
digit-is x h k = rw (le-leb 48 x h, le-leb x 57 k) refl

-- the digits at the front end where another octet stands
front-all : (ds rest : List ℕ) → AllDigits ds → no_digit rest ≡ true → front (ds ++ rest) ≡ ds
unfolding AllDigits front no_digit
front-all [] [] a n = absurd (true≢false (sym n))
front-all [] (x ∷ rest) a n = rw (not-true (is_digit x) n) refl
front-all (d ∷ ds) rest a n = rw (digit-is d a.0 a.1) (ap (λ (l : List ℕ). d ∷ l) (front-all ds rest a.2 n))

-- a list of digits that begins with no zero, or has one digit, is a numeral
numeral-is : (ds : List ℕ) → 0 < length ds → (1 < length ds → 48 < get_or ds 0 0) → is_numeral ds ≡ true
unfolding is_numeral
numeral-is [] h l = absurd (omega arith)
numeral-is (d ∷ []) h l = refl
numeral-is (d ∷ e ∷ ds) h l = rw (ne_eqb d 48 (λ q. omega (arith, l (omega arith)))) refl

-- the numeral of 0 has one digit, and any other begins with no zero
digits-numeral : (x : ℕ) → is_numeral (digits x) ≡ true
digits-numeral zero = rw (digits-one 0 (omega arith)) (numeral-is (48 ∷ []) (omega arith) (λ h. absurd (omega arith)))
digits-numeral (suc x) = numeral-is (digits (suc x)) (digits_some (suc x)) (λ h. digits_lead (suc x) (omega arith))

pub number_read : (x : ℕ) (rest : List ℕ) → no_digit rest ≡ true → read_number (digits x ++ rest) ≡ on x rest
unfolding read_number
number_read x rest n =
    rw (front-all (digits x) rest (digits-all x) n, digits-numeral x, value-digits x, drop_at (digits x) rest (length (digits x)) refl) refl

-- ---- what was read was written

pub is_digit-true : (x : ℕ) → is_digit x ≡ true → (48 ≤ x) × (x ≤ 57)
unfolding is_digit
is_digit-true x e = go (leb 48 x) (leb x 57) refl refl e
  where
    go : (a b : Bool) → leb 48 x ≡ a → leb x 57 ≡ b → (a && b) ≡ true → (48 ≤ x) × (x ≤ 57)
    go true true p q r = (leb-true 48 x p, leb-true x 57 q)
    go true false p q r = absurd (true≢false (sym r))
    go false b p q r = absurd (true≢false (sym r))

front-digits : (xs : List ℕ) → AllDigits (front xs)
unfolding AllDigits front
front-digits [] = tt
front-digits (x ∷ xs) = go (is_digit x) refl (front-digits xs)
  where
    go : (b : Bool) → is_digit x ≡ b → AllDigits (front xs) → AllDigits (cond b (x ∷ front xs) [])
    go true e a = let (h, k) = is_digit-true x e in (h, k, a)
    go false e a = tt

front_rest : (xs : List ℕ) → front xs ++ drop (length (front xs)) xs ≡ xs
unfolding front
front_rest [] = refl
front_rest (x ∷ xs) = go (is_digit x) (front_rest xs)
  where
    go : (b : Bool) → front xs ++ drop (length (front xs)) xs ≡ xs
        → cond b (x ∷ front xs) [] ++ drop (length (cond b (x ∷ front xs) [])) (x ∷ xs) ≡ x ∷ xs
    go true e = ap (λ (l : List ℕ). x ∷ l) e
    go false e = refl

-- after digits that stand for v, not 0, the numeral goes on with the digits that follow
digits-after : (v : ℕ) (ds : List ℕ) → 0 < v → AllDigits ds → digits (value_after v ds) ≡ digits v ++ ds
unfolding AllDigits value_after
digits-after v [] p a = sym (append-nil (digits v))
digits-after v (d ∷ ds) p a =
    let w : ℕ = 10 * v + (d - 48) in
    let tenth : w / 10 ≡ v = omega (arith, a.0, a.1) in
    let last : digit (w % 10) ≡ d = omega (arith, a.0, a.1) in
    let more : digits w ≡ digits v ++ (d ∷ []) = rw (digits_last w (omega arith), tenth, last) refl in
    digits-after w ds (omega arith) a.2
    ∙ ap (λ (l : List ℕ). l ++ ds) more
    ∙ append_assoc (digits v) (d ∷ []) ds

numeral_only : (ds : List ℕ) → AllDigits ds → is_numeral ds ≡ true → digits (value ds) ≡ ds
unfolding AllDigits value_after value is_numeral
numeral_only [] a n = absurd (true≢false (sym n))
numeral_only (d ∷ []) a n =
    let v : 10 * 0 + (d - 48) ≡ d - 48 = omega arith in
    let e : digit (d - 48) ≡ d = omega (arith, a.0) in
    ap digits v ∙ digits-one (d - 48) (omega (arith, a.0, a.1)) ∙ ap (λ (x : ℕ). x ∷ []) e
numeral_only (d ∷ e ∷ ds) a n =
    let z : 48 < d = omega (arith, a.0, eqb-false d 48 (not-true (eqb d 48) n)) in
    let v : 10 * 0 + (d - 48) ≡ d - 48 = omega arith in
    let q : digit (d - 48) ≡ d = omega arith in
    ap (λ (x : ℕ). digits (value_after x (e ∷ ds))) v
    ∙ digits-after (d - 48) (e ∷ ds) (omega arith) a.2
    ∙ ap (λ (l : List ℕ). l ++ (e ∷ ds)) (digits-one (d - 48) (omega (arith, a.1)) ∙ ap (λ (x : ℕ). x ∷ []) q)

pub number-written : (xs : List ℕ) (x : ℕ) (rest : List ℕ) → read_number xs ≡ on x rest → xs ≡ digits x ++ rest
unfolding read_number
number-written xs x rest e = go (is_numeral (front xs)) refl e
  where
    go : (b : Bool) → is_numeral (front xs) ≡ b → cond b (on (value (front xs)) (drop (length (front xs)) xs)) off ≡ on x rest → xs ≡ digits x ++ rest
    go true n q =
        let v : digits x ≡ front xs = ap digits (sym (on-got q)) ∙ numeral_only (front xs) (front-digits xs) n in
        sym (front_rest xs) ∙ rw (v, ← on_rest q) refl
    go false n q = absurd (off_not_on q)
