-- Octets and their bits. A list of octets and its list of bits determine each other: the bits of k octets are 8 k, the octets of the bits of
-- octets are those octets, and the bits of the octets of 8 k bits are those bits. Bits of a part are the part of the bits.
-- Assumes nothing.
use mathlib.Core.Bool.{Bool}
use mathlib.Core.List.{List, [], ◌∷◌, ◌++◌, append_assoc}
use mathlib.Core.Path.{◌≡◌, refl, sym, ap, ap₂, ◌∙◌}
use Prim.Native.Nat.{ℕ, zero, suc, ◌+◌, ◌-◌, ◌*◌, ◌≤◌, ◌<◌}
use native.Mathlib.Nat.{lt_of_lt_of_le, min-le_left, zero-add, suc-add}
use native.Mathlib.Omega.{arith}
use lib.ListN.{length, get_or, take, drop, length-append, length-take, length-drop, take-append-drop}
use lib.Pow.{pow_mono}
use lib.Seq.{length-take-le, take_at, drop_at, drop-cons, take-nil, take-take}
use Rattle.field.specs.Field.{number, bits_of, bits, octets_of, field_at, Octets}
use Rattle.field.proofs.Number.{length-bits_of, number_lt, number-bits_of-lt, bits_of-number-at}

pub length-bits : (os : List ℕ) → length (bits os) ≡ 8 * length os
unfolding bits
length-bits [] = refl
length-bits (o ∷ os) = length-append (bits_of 8 o) (bits os) ∙ omega (arith, length-bits_of 8 o, length-bits os)

pub bits-append : (xs ys : List ℕ) → bits (xs ++ ys) ≡ bits xs ++ bits ys
unfolding bits
bits-append [] ys = refl
bits-append (x ∷ xs) ys = ap {B = List Bool} (λ (l : List Bool). bits_of 8 x ++ l) (bits-append xs ys) ∙ sym (append_assoc (bits_of 8 x) (bits xs) (bits ys))

module _ (k : ℕ) (os : List ℕ) (h : k ≤ length os) where
  parts : bits os ≡ bits (take k os) ++ bits (drop k os)
  parts = ap bits (sym (take-append-drop k os)) ∙ bits-append (take k os) (drop k os)

  front : length (bits (take k os)) ≡ 8 * k
  front = length-bits (take k os) ∙ ap (λ (n : ℕ). 8 * n) (length-take-le k os h)

  pub bits-take : take (8 * k) (bits os) ≡ bits (take k os)
  bits-take = ap (λ (l : List Bool). take (8 * k) l) parts ∙ take_at (bits (take k os)) (bits (drop k os)) (8 * k) front

  pub bits-drop : drop (8 * k) (bits os) ≡ bits (drop k os)
  bits-drop = ap (λ (l : List Bool). drop (8 * k) l) parts ∙ drop_at (bits (take k os)) (bits (drop k os)) (8 * k) front

pub length-octets_of : (k : ℕ) (bs : List Bool) → length (octets_of k bs) ≡ k
unfolding octets_of
length-octets_of zero bs = refl
length-octets_of (suc k) bs = ap suc (length-octets_of k (drop 8 bs))

eight_lt : (bs : List Bool) → number (take 8 bs) < 256
eight_lt bs = lt_of_lt_of_le (number_lt (take 8 bs)) (pow_mono {i = length (take 8 bs)} {j = 8} (omega (arith, length-take 8 bs, min-le_left 8 (length bs))))

pub octets_of-octets : (k : ℕ) (bs : List Bool) → Octets (octets_of k bs)
unfolding octets_of
octets_of-octets zero bs i = omega arith
octets_of-octets (suc k) bs zero = eight_lt bs
octets_of-octets (suc k) bs (suc i) = octets_of-octets k (drop 8 bs) i

pub octets_of-bits : (os : List ℕ) → Octets os → octets_of (length os) (bits os) ≡ os
unfolding octets_of bits
octets_of-bits [] h = refl
octets_of-bits (o ∷ os) h =
    ap₂ {C = List ℕ} (λ (x : ℕ) (l : List ℕ). x ∷ l)
    (ap number (take_at (bits_of 8 o) (bits os) 8 (length-bits_of 8 o)) ∙ number-bits_of-lt 8 o (h zero))
    (ap (λ (l : List Bool). octets_of (length os) l) (drop_at (bits_of 8 o) (bits os) 8 (length-bits_of 8 o)) ∙ octets_of-bits os (λ i. h (suc i)))

nothing : (bs : List Bool) → length bs ≡ 0 → [] ≡ bs
nothing [] e = refl
nothing (b ∷ bs) e = absurd (omega arith)

pub bits-octets_of : (k : ℕ) (bs : List Bool) → length bs ≡ 8 * k → bits (octets_of k bs) ≡ bs
unfolding octets_of bits
bits-octets_of zero bs e = nothing bs (omega arith)
bits-octets_of (suc k) bs e =
    ap₂ {C = List Bool} (λ (xs ys : List Bool). xs ++ ys)
    (bits_of-number-at 8 (take 8 bs) (length-take-le 8 bs (omega arith)))
    (bits-octets_of k (drop 8 bs) (length-drop 8 bs ∙ omega arith))
    ∙ take-append-drop 8 bs

pub take-octets : (k : ℕ) (os : List ℕ) → Octets os → Octets (take k os)
take-octets zero os h i = omega arith
take-octets (suc k) [] h i = omega arith
take-octets (suc k) (o ∷ os) h zero = h zero
take-octets (suc k) (o ∷ os) h (suc i) = take-octets k os (λ j. h (suc j)) i

pub drop-octets : (k : ℕ) (os : List ℕ) → Octets os → Octets (drop k os)
drop-octets zero os h = h
drop-octets (suc k) [] h = h
drop-octets (suc k) (o ∷ os) h = drop-octets k os (λ j. h (suc j))

pub append-octets : (xs ys : List ℕ) → Octets xs → Octets ys → Octets (xs ++ ys)
append-octets [] ys hx hy i = hy i
append-octets (x ∷ xs) ys hx hy zero = hx zero
append-octets (x ∷ xs) ys hx hy (suc i) = append-octets xs ys (λ j. hx (suc j)) hy i

pub drop-take {ℓ} : {A : Type ℓ} (a b : ℕ) (l : List A) → drop a (take (a + b) l) ≡ take b (drop a l)
drop-take zero b l = ap (λ (k : ℕ). take k l) (zero-add b)
drop-take (suc a) b [] = ap (λ (k : ℕ). drop (suc a) (take k [])) (suc-add a b) ∙ sym (take-nil b)
drop-take (suc a) b (x ∷ l) = ap (λ (k : ℕ). drop (suc a) (take k (x ∷ l))) (suc-add a b) ∙ drop-take a b l

-- a part that lies within a front part
pub within-front {ℓ} : {A : Type ℓ} (a w k : ℕ) (l : List A) → a + w ≤ k → take w (drop a (take k l)) ≡ take w (drop a l)
within-front {A = A} a w k l h =
    let d : k ≡ a + (k - a) = omega arith in
    ap (λ (n : ℕ). take w (drop a (take n l))) d ∙ ap (λ (x : List A). take w x) (drop-take a (k - a) l) ∙ take-take w (k - a) (drop a l) (omega arith)

-- two octet lists with the same bits are the same list
pub same_bits : (xs ys : List ℕ) → Octets xs → Octets ys → bits xs ≡ bits ys → xs ≡ ys
same_bits xs ys hx hy e =
    let l : length xs ≡ length ys = omega (arith, length-bits xs, length-bits ys, ap length e) in
    sym (octets_of-bits xs hx) ∙ ap₂ octets_of l e ∙ octets_of-bits ys hy

-- an octet is the field of 8 bits at its place
pub octet_field : (os : List ℕ) (i : ℕ) → Octets os → i < length os → get_or os i 0 ≡ field_at os (8 * i) 8
unfolding field_at bits
octet_field os i ho h =
    let e : drop (8 * i) (bits os) ≡ bits_of 8 (get_or os i 0) ++ bits (drop (suc i) os) = bits-drop i os (omega arith) ∙ ap bits (drop-cons os i 0 h) in
    sym (ap (λ (l : List Bool). number (take 8 l)) e
    ∙ ap number (take_at (bits_of 8 (get_or os i 0)) (bits (drop (suc i) os)) 8 (length-bits_of 8 (get_or os i 0)))
    ∙ number-bits_of-lt 8 (get_or os i 0) (ho i))
