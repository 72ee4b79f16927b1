-- The window of a field: the number that the octets which hold it make. One octet more makes it 256 times as large, plus the octet. The
-- field is a part of the window's bits, so by the law of the bits in the middle it is the window's quotient and remainder by powers of two.
-- Assumes nothing.
use mathlib.Core.Bool.{Bool}
use mathlib.Core.List.{List, [], ◌∷◌, ◌++◌, append-nil, append_assoc}
use mathlib.Core.Path.{◌≡◌, refl, sym, ap, ap₂, ◌∙◌}
use Prim.Native.Nat.{ℕ, suc, ◌+◌, ◌-◌, ◌*◌, ◌/◌, ◌%◌, ◌^◌, ◌≤◌, ◌<◌}
use native.Mathlib.Nat.{lt_of_lt_of_le, one-mul, mod-eq_of_lt, div-mul-le_self, div-le_self, le-mul_of_pos_right}
use native.Mathlib.Numerals.{add-one}
use native.Mathlib.Omega.{arith}
use lib.Bits.{bit_and, and_mask}
use lib.ListN.{length, get_or, set, take, drop, length-append, length-drop, take-append-drop}
use lib.Pow.{pow_pos, pow_mono, pow-lt, field, mod-mod-pow, shr-shr}
use lib.Seq.{slice, length-slice, length-take-le, take-suc, drop-append-le, slice_empty, take_all, take-add, drop-drop, paste, paste-zero, paste-suc}
use Rattle.field.specs.Field.{Field, number, bits_of, bits, octets_of, field_at, fields_of, with_field, stored, Octets, AllFit, bits_of_all, width_of_all, put_all}
use Rattle.field.specs.declared.Four.{Four}
use Rattle.field.proofs.Number.{length-bits_of, number_lt, number_append, number-take, number-drop, number-bits_of, number-bits_of-lt, bits_of-number-at, number_mid}
use Rattle.field.proofs.Bits.{length-bits, bits-append, bits-take, bits-drop, drop-take, within-front, octet_field, length-octets_of, octets_of-octets, bits-octets_of, take-octets, drop-octets, append-octets, same_bits}
use Rattle.field.proofs.Laws.{with_field-octets, bits-with_field}
use Rattle.field.proofs.Pack.{length-bits_of_all, put_all-octets, bits-put_all}

pub window_none : (os : List ℕ) (first : ℕ) → 0 ≡ number (bits (slice first first os))
unfolding number bits
window_none os first = sym (ap (λ (l : List ℕ). number (bits l)) (slice_empty first os))

-- k octets make a number of 8 k bits
pub window_lt : (os : List ℕ) (first end k : ℕ) → end ≤ length os → end ≤ first + k → number (bits (slice first end os)) < 2 ^ (8 * k)
window_lt os first end k h hk =
    let l : List ℕ = slice first end os in
    lt_of_lt_of_le (number_lt (bits l)) (pow_mono {i = length (bits l)} {j = 8 * k} (omega (arith, length-bits l, length-slice first end os h)))

one_more : (os : List ℕ) (first i : ℕ) → first ≤ i → i < length os → slice first (i + 1) os ≡ slice first i os ++ (get_or os i 0 ∷ [])
one_more os first i h hi =
    ap (λ (l : List ℕ). drop first l) (ap (λ (k : ℕ). take k os) (add-one i) ∙ take-suc os i 0 hi)
    ∙ drop-append-le first (take i os) (get_or os i 0 ∷ []) (omega (arith, length-take-le i os (omega arith)))

pub window_more : (os : List ℕ) (first i : ℕ) → first ≤ i → i < length os → get_or os i 0 < 256
    → number (bits (slice first (i + 1) os)) ≡ number (bits (slice first i os)) * 256 + get_or os i 0
unfolding bits
window_more os first i h hi ho =
    let o : ℕ = get_or os i 0 in
    ap (λ (l : List ℕ). number (bits l)) (one_more os first i h hi)
    ∙ ap number (bits-append (slice first i os) (o ∷ []) ∙ ap {B = List Bool} (λ (l : List Bool). bits (slice first i os) ++ l) (append-nil (bits_of 8 o)))
    ∙ number_append (bits (slice first i os)) (bits_of 8 o)
    ∙ ap₂ (λ (k n : ℕ). number (bits (slice first i os)) * 2 ^ k + n) (length-bits_of 8 o) (number-bits_of-lt 8 o ho)

-- the same of numbers that are known to be the window's and the octet's; and so five octets, one after another
more : (os : List ℕ) (first n i o : ℕ) → first ≤ i → i < length os → n ≡ number (bits (slice first i os)) → (o ≡ get_or os i 0) × (o < 256)
    → n * 256 + o ≡ number (bits (slice first (i + 1) os))
more os first n i o h hi hn ho =
    ap₂ (λ (x y : ℕ). x * 256 + y) hn ho.0 ∙ sym (window_more os first i h hi (omega (arith, ho)))

pub window_five : (os : List ℕ) (first a b c d e : ℕ) → first + 5 ≤ length os
    → (a ≡ get_or os first 0) × (a < 256) → (b ≡ get_or os (first + 1) 0) × (b < 256) → (c ≡ get_or os (first + 2) 0) × (c < 256)
    → (d ≡ get_or os (first + 3) 0) × (d < 256) → (e ≡ get_or os (first + 4) 0) × (e < 256)
    → (((a * 256 + b) * 256 + c) * 256 + d) * 256 + e ≡ number (bits (slice first (first + 5) os))
window_five os first a b c d e h ha hb hc hd he =
    let at : (j k : ℕ) → j ≡ k → number (bits (slice first j os)) ≡ number (bits (slice first k os)) = λ j k p. ap (λ (i : ℕ). number (bits (slice first i os))) p in
    let n : a ≡ 0 * 256 + a = omega arith in
    let one = n ∙ more os first 0 first a (omega arith) (omega arith) (window_none os first) ha in
    let two = more os first a (first + 1) b (omega arith) (omega arith) one hb ∙ at (first + 1 + 1) (first + 2) (omega arith) in
    let three = more os first (a * 256 + b) (first + 2) c (omega arith) (omega arith) two hc ∙ at (first + 2 + 1) (first + 3) (omega arith) in
    let four = more os first ((a * 256 + b) * 256 + c) (first + 3) d (omega arith) (omega arith) three hd ∙ at (first + 3 + 1) (first + 4) (omega arith) in
    more os first (((a * 256 + b) * 256 + c) * 256 + d) (first + 4) e (omega arith) (omega arith) four he ∙ at (first + 4 + 1) (first + 5) (omega arith)

-- the bits of a part of the octets are a part of the bits
pub bits_slice : (os : List ℕ) (first end : ℕ) → first ≤ end → end ≤ length os → bits (slice first end os) ≡ drop (8 * first) (take (8 * end) (bits os))
bits_slice os first end h he =
    sym (bits-drop first (take end os) (omega (arith, length-take-le end os he))) ∙ ap (λ (l : List Bool). drop (8 * first) l) (sym (bits-take end os he))

-- a field that lies in the octets from first up to end is a part of their number
pub field_in_window : (os : List ℕ) (at w first end : ℕ) → 8 * first ≤ at → at + w ≤ 8 * end → end ≤ length os
    → field_at os at w ≡ number (bits (slice first end os)) / 2 ^ (8 * end - (at + w)) % 2 ^ w
unfolding field_at
field_in_window os at w first end hf he hl =
    let W : List Bool = bits (slice first end os) in
    let l : length W ≡ 8 * (end - first) = length-bits (slice first end os) ∙ ap (λ (n : ℕ). 8 * n) (length-slice first end os hl) in
    let a : 8 * first + (at - 8 * first) ≡ at = omega arith in
    let d : take w (drop (at - 8 * first) W) ≡ take w (drop at (bits os)) =
    ap (λ (x : List Bool). take w (drop (at - 8 * first) x)) (bits_slice os first end (omega arith) hl)
    ∙ ap (λ (x : List Bool). take w x)
    (drop-drop (at - 8 * first) (8 * first) (take (8 * end) (bits os)) ∙ ap (λ (n : ℕ). drop n (take (8 * end) (bits os))) a)
    ∙ within-front at w (8 * end) (bits os) he in
    let e : length W - (at - 8 * first + w) ≡ 8 * end - (at + w) = omega arith in
    sym (ap number d) ∙ number_mid (at - 8 * first) w W (omega arith) ∙ ap (λ (n : ℕ). number W / 2 ^ n % 2 ^ w) e

-- the same of a number that is known to be the window's, with the bits after the field counted
pub part_in_window : (os : List ℕ) (at w first end after n : ℕ) → 8 * first ≤ at → at + w + after ≡ 8 * end → end ≤ length os
    → n ≡ number (bits (slice first end os)) → n / 2 ^ after % 2 ^ w ≡ field_at os at w
part_in_window os at w first end after n hf he hl hn =
    let e : after ≡ 8 * end - (at + w) = omega arith in
    ap₂ (λ (x k : ℕ). x / 2 ^ k % 2 ^ w) hn e ∙ sym (field_in_window os at w first end hf (omega arith) hl)

-- the power of two that a shift of 1 makes, and the mask below it
pub shifted_one : (w : ℕ) → w < 64 → (1 * 2 ^ w) % 2 ^ 64 ≡ 2 ^ w
shifted_one w h = ap (λ (n : ℕ). n % 2 ^ 64) (one-mul (2 ^ w)) ∙ mod-eq_of_lt (pow-lt {i = w} {j = 64} h)

pub masked : (n w : ℕ) → w < 64 → bit_and n ((1 * 2 ^ w) % 2 ^ 64 - 1) ≡ n % 2 ^ w
masked n w h = ap (λ (k : ℕ). bit_and n (k - 1)) (shifted_one w h) ∙ and_mask n w

-- ---- a number put into octets

-- the octets of a number are its digits to the base 256
pub octet_of : (k v j : ℕ) → j < k → get_or (octets_of k (bits_of (8 * k) v)) j 0 ≡ v / 2 ^ (8 * (k - 1 - j)) % 256
unfolding field_at
octet_of k v j h =
    let bs : List Bool = bits_of (8 * k) v in
    let l : length bs ≡ 8 * k = length-bits_of (8 * k) v in
    let r : ℕ = 8 * (k - 1 - j) in
    let s : 8 * k ≡ 8 * j + 8 + r = omega arith in
    let e : length bs - (8 * j + 8) ≡ r = omega arith in
    octet_field (octets_of k bs) j (octets_of-octets k bs) (rw (length-octets_of k bs) h)
    ∙ ap (λ (x : List Bool). number (take 8 (drop (8 * j) x))) (bits-octets_of k bs l)
    ∙ number_mid (8 * j) 8 bs (omega arith)
    ∙ ap₂ (λ (n m : ℕ). n / 2 ^ m % 256) (number-bits_of (8 * k) v ∙ ap (λ (n : ℕ). v % 2 ^ n) s) e
    ∙ ap (λ (n : ℕ). n % 256) (field v (8 * j + 8) r)
    ∙ mod-mod-pow (v / 2 ^ r) (8 * j) 8

-- the octets of the number that is stored from first up to end
abbrev pub digits : ℕ → ℕ → ℕ → List ℕ
digits first end v = octets_of (end - first) (bits_of (8 * (end - first)) v)

same_place : (first end i : ℕ) → first ≤ i → i < end → 8 * (end - 1 - i) ≡ 8 * (end - first - 1 - (i - first))
same_place first end i h hi = omega arith

-- a turn of the loop that stores them
pub stored_more : (os : List ℕ) (first end v i : ℕ) → first ≤ i → i < end → end ≤ length os
    → set (paste os first (digits first end v) (i - first)) i (v / 2 ^ (8 * (end - 1 - i)) % 256) ≡ paste os first (digits first end v) (i + 1 - first)
stored_more os first end v i h hi he =
    let j : ℕ = i - first in
    let D : List ℕ = digits first end v in
    let n : suc j ≡ i + 1 - first = omega arith in
    let hj : j < end - first = omega arith in
    let place : i ≡ first + j = omega arith in
    let room : first + j < length os = omega arith in
    let e : 8 * (end - 1 - i) ≡ 8 * (end - first - 1 - j) = same_place first end i h hi in
    let octet : v / 2 ^ (8 * (end - 1 - i)) % 256 ≡ get_or D j 0 = ap (λ (k : ℕ). v / 2 ^ k % 256) e ∙ sym (octet_of (end - first) v j hj) in
    ap₂ (λ (k x : ℕ). set (paste os first D j) k x) place octet
    ∙ paste-suc os first D j 0 room (rw (length-octets_of (end - first) (bits_of (8 * (end - first)) v)) hj)
    ∙ ap (λ (k : ℕ). paste os first D k) n

-- the same of the j-th octet of five, on a list that is known to have the ones before it; and so five octets, one after another
five-more : (os : List ℕ) (first v j x : ℕ) (l : List ℕ) → first + 5 ≤ length os → j < 5 → l ≡ paste os first (digits first (first + 5) v) j → x ≡ v / 2 ^ (8 * (4 - j)) % 256
    → set l (first + j) x ≡ paste os first (digits first (first + 5) v) (j + 1)
five-more os first v j x l h hj hl hx =
    let D : List ℕ = digits first (first + 5) v in
    let here : j ≡ first + j - first = omega arith in
    let next : first + j + 1 - first ≡ j + 1 = omega arith in
    let place : 8 * (4 - j) ≡ 8 * (first + 5 - 1 - (first + j)) = omega arith in
    ap₂ (λ (y : List ℕ) (z : ℕ). set y (first + j) z) (hl ∙ ap (λ (k : ℕ). paste os first D k) here) (hx ∙ ap (λ (k : ℕ). v / 2 ^ k % 256) place)
    ∙ stored_more os first (first + 5) v (first + j) (omega arith) (omega arith) h
    ∙ ap (λ (k : ℕ). paste os first D k) next

pub stored-five : (os : List ℕ) (first v : ℕ) → first + 5 ≤ length os
    → set (set (set (set (set os first (v / 2 ^ 32 % 256)) (first + 1) (v / 2 ^ 24 % 256)) (first + 2) (v / 2 ^ 16 % 256)) (first + 3) (v / 2 ^ 8 % 256)) (first + 4) (v % 256)
    ≡ stored os first (first + 5) v
unfolding stored
stored-five os first v h =
    let D : List ℕ = digits first (first + 5) v in
    let front : first ≡ first + 0 = omega arith in
    let all : 5 ≡ first + 5 - first = omega arith in
    let last : v % 256 ≡ v / 2 ^ (8 * (4 - 4)) % 256 = omega arith in
    let one = ap (λ (k : ℕ). set os k (v / 2 ^ 32 % 256)) front ∙ five-more os first v 0 (v / 2 ^ 32 % 256) os h (omega arith) (paste-zero os first D) refl in
    let two = five-more os first v 1 (v / 2 ^ 24 % 256) _ h (omega arith) one refl in
    let three = five-more os first v 2 (v / 2 ^ 16 % 256) _ h (omega arith) two refl in
    let four = five-more os first v 3 (v / 2 ^ 8 % 256) _ h (omega arith) three refl in
    five-more os first v 4 (v % 256) _ h (omega arith) four last ∙ ap (λ (k : ℕ). paste os first D k) all

bits-stored : (os : List ℕ) (first end v : ℕ) → first ≤ end → end ≤ length os
    → bits (stored os first end v) ≡ take (8 * first) (bits os) ++ bits_of (8 * (end - first)) v ++ drop (8 * end) (bits os)
unfolding stored
bits-stored os first end v h he =
    let k : ℕ = end - first in
    let bs : List Bool = bits_of (8 * k) v in
    let e : first + k ≡ end = omega arith in
    bits-append (take first os ++ take k (octets_of k bs)) (drop (first + k) os)
    ∙ ap₂ {C = List Bool} (λ (x y : List Bool). x ++ y)
    (bits-append (take first os) (take k (octets_of k bs))
    ∙ ap₂ {C = List Bool} (λ (x y : List Bool). x ++ y)
    (sym (bits-take first os (omega arith)))
    (ap bits (take_all k (octets_of k bs) (omega (arith, length-octets_of k bs))) ∙ bits-octets_of k bs (length-bits_of (8 * k) v)))
    (ap (λ (n : ℕ). bits (drop n os)) e ∙ sym (bits-drop end os he))

stored-octets : (os : List ℕ) (first end v : ℕ) → Octets os → Octets (stored os first end v)
unfolding stored
stored-octets os first end v h =
    let k : ℕ = end - first in
    append-octets (take first os ++ take k (octets_of k (bits_of (8 * k) v))) (drop (first + k) os)
    (append-octets (take first os) (take k (octets_of k (bits_of (8 * k) v))) (take-octets first os h) (take-octets k _ (octets_of-octets k (bits_of (8 * k) v))))
    (drop-octets (first + k) os h)

-- ---- a field put into its window

regroup : (a b c d e : List Bool) → a ++ (b ++ c ++ d) ++ e ≡ (a ++ b) ++ c ++ (d ++ e)
regroup a b c d e = simp append_assoc

-- the window with the field made v: the part before the field, the value, and the part after it
unfoldable pub with_part : ℕ → ℕ → ℕ → ℕ → ℕ
with_part n w after v = (n / 2 ^ after / 2 ^ w * 2 ^ w + v) * 2 ^ after + n % 2 ^ after

-- on a machine of 64 bits nothing of it is lost
module _ (n w a v : ℕ) (hn : n < 2 ^ 40) where
  pub before-exact : (n / 2 ^ a / 2 ^ w * 2 ^ w) % 2 ^ 64 ≡ n / 2 ^ a / 2 ^ w * 2 ^ w
  before-exact = mod-eq_of_lt (omega (arith, div-mul-le_self (n / 2 ^ a) (2 ^ w), div-le_self n (2 ^ a)))

  pub shifted_lt : with_part n w a v < 2 ^ 40 → (n / 2 ^ a / 2 ^ w * 2 ^ w) % 2 ^ 64 + v < 2 ^ 40
  unfolding with_part
  shifted_lt h = rw before-exact (omega (arith, le-mul_of_pos_right (n / 2 ^ a / 2 ^ w * 2 ^ w + v) (pow_pos a)))

  pub part-exact : with_part n w a v < 2 ^ 40
      → ((n / 2 ^ a / 2 ^ w * 2 ^ w) % 2 ^ 64 + v) * 2 ^ a % 2 ^ 64 + n % 2 ^ a ≡ with_part n w a v
  unfolding with_part
  part-exact h = rw before-exact (ap (λ (k : ℕ). k + n % 2 ^ a) (mod-eq_of_lt (omega arith)))

module _ (os : List ℕ) (at w v first end : ℕ) (hf : 8 * first ≤ at) (he : at + w ≤ 8 * end) (hl : end ≤ length os) (hv : v < 2 ^ w) where
  abbrev W : List Bool
  W = bits (slice first end os)

  W' : List Bool
  W' = take (at - 8 * first) W ++ bits_of w v ++ drop (at - 8 * first + w) W

  W-length : length W ≡ 8 * (end - first)
  W-length = length-bits (slice first end os) ∙ ap (λ (n : ℕ). 8 * n) (length-slice first end os hl)

  W'-length : length W' ≡ 8 * (end - first)
  unfolding W'
  W'-length =
      let s : ℕ = at - 8 * first in
      length-append (take s W ++ bits_of w v) (drop (s + w) W)
      ∙ ap₂ ◌+◌ (length-append (take s W) (bits_of w v) ∙ ap₂ ◌+◌ (length-take-le s W (omega (arith, W-length))) (length-bits_of w v)) (length-drop (s + w) W)
      ∙ omega (arith, W-length)

  number-part : number W' ≡ with_part (number W) w (8 * end - (at + w)) v
  unfolding W' with_part
  number-part =
      let s : ℕ = at - 8 * first in
      let after : ℕ = 8 * end - (at + w) in
      let l : length (drop (s + w) W) ≡ after = length-drop (s + w) W ∙ omega (arith, W-length) in
      let a : length W - (s + w) ≡ after = omega (arith, W-length) in
      let b : length W - s ≡ after + w = omega (arith, W-length) in
      number_append (take s W ++ bits_of w v) (drop (s + w) W)
      ∙ ap₂ ◌+◌
      (ap₂ (λ (n k : ℕ). n * 2 ^ k)
      (number_append (take s W) (bits_of w v)
      ∙ ap₂ (λ (n k : ℕ). n * 2 ^ k + number (bits_of w v))
      (number-take s W (omega (arith, W-length)) ∙ ap (λ (k : ℕ). number W / 2 ^ k) b ∙ sym (shr-shr (number W) after w))
      (length-bits_of w v)
      ∙ ap (λ (n : ℕ). number W / 2 ^ after / 2 ^ w * 2 ^ w + n) (number-bits_of-lt w v hv))
      l)
      (number-drop (s + w) W ∙ ap (λ (k : ℕ). number W % 2 ^ k) a)

  pub part-lt : with_part (number W) w (8 * end - (at + w)) v < 2 ^ (8 * (end - first))
  part-lt = rw (← number-part) (rw W'-length at (number_lt W'))

  bits-before : take (8 * first) (bits os) ++ take (at - 8 * first) W ≡ take at (bits os)
  bits-before =
      let s : ℕ = at - 8 * first in
      let e : 8 * first + s ≡ at = omega arith in
      ap {B = List Bool} (λ (l : List Bool). take (8 * first) (bits os) ++ take s l) (bits_slice os first end (omega arith) hl)
      ∙ ap {B = List Bool} (λ (l : List Bool). take (8 * first) (bits os) ++ l) (within-front (8 * first) s (8 * end) (bits os) (omega arith))
      ∙ sym (take-add (8 * first) s (bits os)) ∙ ap (λ (n : ℕ). take n (bits os)) e

  bits-after : drop (at - 8 * first + w) W ++ drop (8 * end) (bits os) ≡ drop (at + w) (bits os)
  bits-after =
      let s : ℕ = at - 8 * first in
      let e : 8 * first + (s + w) ≡ at + w = omega arith in
      let r : 8 * end ≡ at + w + (8 * end - (at + w)) = omega arith in
      ap₂ {C = List Bool} (λ (x y : List Bool). x ++ y)
      (ap (λ (l : List Bool). drop (s + w) l) (bits_slice os first end (omega arith) hl)
      ∙ drop-drop (s + w) (8 * first) (take (8 * end) (bits os))
      ∙ ap₂ (λ (n k : ℕ). drop n (take k (bits os))) e r
      ∙ drop-take (at + w) (8 * end - (at + w)) (bits os))
      (ap (λ (n : ℕ). drop n (bits os)) r ∙ sym (drop-drop (8 * end - (at + w)) (at + w) (bits os)))
      ∙ take-append-drop (8 * end - (at + w)) (drop (at + w) (bits os))

  pub stored-with_field : Octets os → stored os first end (with_part (number W) w (8 * end - (at + w)) v) ≡ with_field os at w v
  unfolding W'
  stored-with_field ho =
      let s : ℕ = at - 8 * first in
      let n : ℕ = with_part (number W) w (8 * end - (at + w)) v in
      let m : bits_of (8 * (end - first)) n ≡ W' = ap (λ (x : ℕ). bits_of (8 * (end - first)) x) (sym number-part) ∙ bits_of-number-at (8 * (end - first)) W' W'-length in
      same_bits (stored os first end n) (with_field os at w v) (stored-octets os first end n ho) (with_field-octets os at w v)
      (bits-stored os first end n (omega arith) hl
      ∙ ap {B = List Bool} (λ (l : List Bool). take (8 * first) (bits os) ++ l ++ drop (8 * end) (bits os)) m
      ∙ regroup (take (8 * first) (bits os)) (take s W) (bits_of w v) (drop (s + w) W) (drop (8 * end) (bits os))
      ∙ ap₂ {C = List Bool} (λ (x y : List Bool). x ++ bits_of w v ++ y) bits-before bits-after ∙ sym (bits-with_field os at w v (omega arith)))

-- ---- fields that fill octets

-- a number with w more bits after it
number-beside : (bs : List Bool) (w v : ℕ) → v < 2 ^ w → number (bs ++ bits_of w v) ≡ number bs * 2 ^ w + v
number-beside bs w v h = number_append bs (bits_of w v) ∙ ap₂ (λ (k n : ℕ). number bs * 2 ^ k + n) (length-bits_of w v) (number-bits_of-lt w v h)

beside-lt : (n v k w : ℕ) → n < 2 ^ k → v < 2 ^ w → n * 2 ^ w + v < 2 ^ (k + w)
beside-lt n v k w hn hv =
    let bs : List Bool = bits_of k n ++ bits_of w v in
    let l : length bs ≡ k + w = length-append (bits_of k n) (bits_of w v) ∙ ap₂ ◌+◌ (length-bits_of k n) (length-bits_of w v) in
    let e : number bs ≡ n * 2 ^ w + v = number-beside (bits_of k n) w v hv ∙ ap (λ (x : ℕ). x * 2 ^ w + v) (number-bits_of-lt k n hn) in
    rw (← e, ← l) (number_lt bs)

-- the number of four fields, one after another, each partial one below a power of two
module _ (a b c d : ℕ) (f : Four) (h : AllFit (fields_of a b c d f)) where
  abbrev pub two : ℕ
  two = f.first * 2 ^ b + f.second

  abbrev pub three : ℕ
  three = two * 2 ^ c + f.third

  abbrev pub four : ℕ
  four = three * 2 ^ d + f.fourth

  pub two-lt : two < 2 ^ (a + b)
  unfolding AllFit
  two-lt = beside-lt f.first f.second a b h.0 h.1.0

  pub three-lt : three < 2 ^ (a + b + c)
  unfolding AllFit
  three-lt = beside-lt two f.third (a + b) c two-lt h.1.1.0

  pub four-lt : four < 2 ^ (a + b + c + d)
  unfolding AllFit
  four-lt = beside-lt three f.fourth (a + b + c) d three-lt h.1.1.1.0

  number-four : number (bits_of_all (fields_of a b c d f)) ≡ four
  unfolding AllFit bits_of_all
  number-four =
      let A = bits_of a f.first in
      let B = bits_of b f.second in
      let C = bits_of c f.third in
      let D = bits_of d f.fourth in
      let flat : A ++ (B ++ (C ++ (D ++ []))) ≡ A ++ B ++ C ++ D = simp (append_assoc, append-nil) in
      let one : number A ≡ f.first = number-bits_of-lt a f.first h.0 in
      let n2 : number (A ++ B) ≡ two = number-beside A b f.second h.1.0 ∙ ap (λ (x : ℕ). x * 2 ^ b + f.second) one in
      let n3 : number (A ++ B ++ C) ≡ three = number-beside (A ++ B) c f.third h.1.1.0 ∙ ap (λ (x : ℕ). x * 2 ^ c + f.third) n2 in
      ap number flat ∙ number-beside (A ++ B ++ C) d f.fourth h.1.1.1.0 ∙ ap (λ (x : ℕ). x * 2 ^ d + f.fourth) n3

  width_four : width_of_all (fields_of a b c d f) ≡ a + b + c + d
  unfolding width_of_all
  width_four = omega arith

  -- stored as a number, they are put one after another
  pub stored-four : (os : List ℕ) (at : ℕ) → Octets os → at % 8 ≡ 0 → (a + b + c + d) % 8 ≡ 0 → at + (a + b + c + d) ≤ 8 * length os
      → stored os (at / 8) ((at + a + b + c + d) / 8) four ≡ put_all os at (fields_of a b c d f)
  stored-four os at ho ha hw hl =
      let fs : List Field = fields_of a b c d f in
      let first : ℕ = at / 8 in
      let end : ℕ = (at + a + b + c + d) / 8 in
      let k : ℕ = 8 * (end - first) in
      let w : width_of_all fs ≡ k = width_four ∙ omega arith in
      let m : bits_of k four ≡ bits_of_all fs = ap (λ (x : ℕ). bits_of k x) (sym number-four) ∙ bits_of-number-at k (bits_of_all fs) (length-bits_of_all fs ∙ w) in
      let p : 8 * first ≡ at = omega arith in
      let q : 8 * end ≡ at + width_of_all fs = omega (arith, width_four) in
      same_bits (stored os first end four) (put_all os at fs) (stored-octets os first end four ho) (put_all-octets fs os at ho)
      (bits-stored os first end four (omega arith) (omega arith)
      ∙ ap₂ {C = List Bool} (λ (x y : List Bool). x ++ y) (ap₂ {C = List Bool} (λ (x y : List Bool). x ++ y) (ap (λ (n : ℕ). take n (bits os)) p) m) (ap (λ (n : ℕ). drop n (bits os)) q)
      ∙ sym (bits-put_all fs os at (omega (arith, width_four))))
