-- The number that bits stand for. A list of L bits stands for a number below 2^L, two lists of one length that stand for one number are the
-- same list, and the number of a list that is put together is the upper part's, times the power of the lower part's length, plus the lower
-- part's. So the upper bits of a list are its number's quotient by a power of two, the lower ones the remainder, and the bits in the
-- middle first one and then the other. And the w lowest bits of v stand for v modulo 2^w.
-- Assumes nothing.
use mathlib.Core.Bool.{Bool, true, false}
use mathlib.Core.List.{List, [], ◌∷◌, ◌++◌}
use mathlib.Core.Path.{◌≡◌, refl, sym, ap, ap₂, ◌∙◌}
use Prim.Native.Nat.{ℕ, zero, suc, ◌+◌, ◌-◌, ◌*◌, ◌/◌, ◌%◌, ◌^◌, ◌≤◌, ◌<◌}
use native.Mathlib.Nat.{zero-add, zero-mul, mod-lt, mod-eq_of_lt, pow-suc}
use native.Mathlib.Omega.{arith}
use lib.Dec.{eqb}
use lib.ListN.{length, take, drop, length-append, length-drop, take-append-drop}
use lib.Pow.{pow_pos, pow-add, high, low, mod-pow-add, field}
use Rattle.field.specs.Field.{bit, number, bits_of}

pub length-bits_of : (w v : ℕ) → length (bits_of w v) ≡ w
unfolding bits_of
length-bits_of zero v = refl
length-bits_of (suc w) v = ap suc (length-bits_of w _)

pub number_lt : (bs : List Bool) → number bs < 2 ^ length bs
unfolding number
number_lt [] = pow_pos 0
number_lt (true ∷ bs) = omega (arith, number_lt bs, pow-suc 2 (length bs))
number_lt (false ∷ bs) = omega (arith, number_lt bs, pow-suc 2 (length bs))

pub number_append : (xs ys : List Bool) → number (xs ++ ys) ≡ number xs * 2 ^ length ys + number ys
unfolding number
number_append [] ys = sym (ap (λ (n : ℕ). n + number ys) (zero-mul (2 ^ length ys)) ∙ zero-add (number ys))
number_append (b ∷ xs) ys =
    let e : 2 ^ length (xs ++ ys) ≡ 2 ^ length xs * 2 ^ length ys = ap (λ (n : ℕ). 2 ^ n) (length-append xs ys) ∙ pow-add 2 (length xs) (length ys) in
    rw e (omega (arith, number_append xs ys))

same_bit : (b c : Bool) (p m n : ℕ) → m < p → n < p → bit b * p + m ≡ bit c * p + n → (b ≡ c) × (m ≡ n)
same_bit true true p m n hm hn e = (refl, omega arith)
same_bit false false p m n hm hn e = (refl, omega arith)
same_bit true false p m n hm hn e = absurd (omega arith)
same_bit false true p m n hm hn e = absurd (omega arith)

pub number_inj : (xs ys : List Bool) → length xs ≡ length ys → number xs ≡ number ys → xs ≡ ys
unfolding number
number_inj [] [] l e = refl
number_inj [] (y ∷ ys) l e = absurd (omega arith)
number_inj (x ∷ xs) [] l e = absurd (omega arith)
number_inj (x ∷ xs) (y ∷ ys) l e =
    let k : length xs ≡ length ys = omega arith in
    let h = same_bit x y (2 ^ length ys) (number xs) (number ys) (rw k at (number_lt xs)) (number_lt ys) (rw k at e) in
    ap₂ {C = List Bool} (λ (b : Bool) (l : List Bool). b ∷ l) h.0 (number_inj xs ys k h.1)

bit_of : (x : ℕ) → x < 2 → bit (eqb x 1) ≡ x
bit_of zero h = refl
bit_of (suc zero) h = refl
bit_of (suc (suc x)) h = absurd (omega arith)

pub number-bits_of : (w v : ℕ) → number (bits_of w v) ≡ v % 2 ^ w
unfolding number bits_of
number-bits_of zero v = omega (arith, mod-lt v {m = 2 ^ 0} (pow_pos 0))
number-bits_of (suc w) v =
    let b : bit (eqb (v / 2 ^ w % 2) 1) ≡ v / 2 ^ w % 2 = bit_of (v / 2 ^ w % 2) (mod-lt (v / 2 ^ w) (pow_pos 1)) in
    let m : v % 2 ^ (1 + w) ≡ (v / 2 ^ w % 2) * 2 ^ w + v % 2 ^ w = mod-pow-add v 1 w in
    let s : 1 + w ≡ suc w = omega arith in
    rw (b, length-bits_of w v, number-bits_of w v) (sym m ∙ ap (λ (k : ℕ). v % 2 ^ k) s)

pub number-bits_of-lt : (w v : ℕ) → v < 2 ^ w → number (bits_of w v) ≡ v
number-bits_of-lt w v h = number-bits_of w v ∙ mod-eq_of_lt h

pub bits_of-number : (bs : List Bool) → bits_of (length bs) (number bs) ≡ bs
bits_of-number bs = number_inj _ _ (length-bits_of (length bs) (number bs)) (number-bits_of-lt (length bs) (number bs) (number_lt bs))

pub bits_of-number-at : (w : ℕ) (bs : List Bool) → length bs ≡ w → bits_of w (number bs) ≡ bs
bits_of-number-at w bs e = rw (← e) (bits_of-number bs)

-- the upper bits and the lower bits
pub number-take : (k : ℕ) (bs : List Bool) → k ≤ length bs → number (take k bs) ≡ number bs / 2 ^ (length bs - k)
number-take k bs h =
    let e : number bs ≡ number (take k bs) * 2 ^ (length bs - k) + number (drop k bs) =
    ap number (sym (take-append-drop k bs)) ∙ number_append (take k bs) (drop k bs)
    ∙ ap (λ (n : ℕ). number (take k bs) * 2 ^ n + number (drop k bs)) (length-drop k bs) in
    let l : number (drop k bs) < 2 ^ (length bs - k) = rw (length-drop k bs) at (number_lt (drop k bs)) in
    sym (ap (λ (n : ℕ). n / 2 ^ (length bs - k)) e ∙ high (number (take k bs)) (length bs - k) l)

pub number-drop : (k : ℕ) (bs : List Bool) → number (drop k bs) ≡ number bs % 2 ^ (length bs - k)
number-drop k bs =
    let e : number bs ≡ number (take k bs) * 2 ^ (length bs - k) + number (drop k bs) =
    ap number (sym (take-append-drop k bs)) ∙ number_append (take k bs) (drop k bs)
    ∙ ap (λ (n : ℕ). number (take k bs) * 2 ^ n + number (drop k bs)) (length-drop k bs) in
    let l : number (drop k bs) < 2 ^ (length bs - k) = rw (length-drop k bs) at (number_lt (drop k bs)) in
    sym (ap (λ (n : ℕ). n % 2 ^ (length bs - k)) e ∙ low (number (take k bs)) (length bs - k) l)

-- the bits in the middle
pub number_mid : (a w : ℕ) (bs : List Bool) → a + w ≤ length bs → number (take w (drop a bs)) ≡ number bs / 2 ^ (length bs - (a + w)) % 2 ^ w
number_mid a w bs h =
    let r : ℕ = length bs - (a + w) in
    let l : length (drop a bs) ≡ w + r = length-drop a bs ∙ omega arith in
    let lr : length (drop a bs) - w ≡ r = omega arith in
    let lw : length bs - a ≡ w + r = omega arith in
    number-take w (drop a bs) (omega arith)
    ∙ ap₂ (λ (n k : ℕ). n / 2 ^ k) (number-drop a bs ∙ ap (λ (k : ℕ). number bs % 2 ^ k) lw) lr
    ∙ field (number bs) w r
