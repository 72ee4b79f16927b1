-- Fields one after another. The bits of a sequence of fields, each value below 2^width, give the sequence back, wherever in a list of octets
-- they stand; and the bits of octets that a sequence of widths covers are those of the fields taken at these widths. So a sequence of fields
-- that fills octets comes back as those fields, and octets whose fields are taken and packed are those octets. Fields put one after another
-- at the front of a buffer leave the packed octets there, and the rest of the buffer. Assumes nothing.
use mathlib.Core.Bool.{Bool}
use mathlib.Core.List.{List, [], ◌∷◌, ◌++◌, append_assoc, append-nil}
use mathlib.Core.Path.{◌≡◌, refl, sym, ap, ap₂, ◌∙◌}
use Prim.Native.Nat.{ℕ, ◌+◌, ◌*◌, ◌/◌, ◌≤◌}
use native.Mathlib.Nat.{add-zero, zero-add, add_assoc, mul-div_cancel_left}
use native.Mathlib.Omega.{arith}
use lib.ListN.{length, take, drop, length-append, length-drop, take-append-drop}
use lib.Seq.{length-take-le, take_at, drop_at, drop-drop, take-add, take-length}
use Rattle.field.specs.Field.{Field, AllFit, number, bits_of, bits, field_at, with_field, Octets, bits_of_all, width_of_all, pack, unpack, put_all, widths}
use Rattle.field.proofs.Number.{length-bits_of, number-bits_of-lt, bits_of-number-at}
use Rattle.field.proofs.Bits.{length-bits, bits-append, bits-drop, length-octets_of, octets_of-octets, bits-octets_of, same_bits, drop-octets, append-octets}
use Rattle.field.proofs.Laws.{length-with_field, with_field-octets, put_front, put_back}

-- ---- the bits of a sequence

pub length-bits_of_all : (fs : List Field) → length (bits_of_all fs) ≡ width_of_all fs
unfolding bits_of_all width_of_all
length-bits_of_all [] = refl
length-bits_of_all (f ∷ fs) = length-append (bits_of f.width f.value) (bits_of_all fs) ∙ ap₂ ◌+◌ (length-bits_of f.width f.value) (length-bits_of_all fs)

pub bits_of_all-append : (fs gs : List Field) → bits_of_all (fs ++ gs) ≡ bits_of_all fs ++ bits_of_all gs
unfolding bits_of_all
bits_of_all-append [] gs = refl
bits_of_all-append (f ∷ fs) gs =
    ap {B = List Bool} (λ (l : List Bool). bits_of f.width f.value ++ l) (bits_of_all-append fs gs)
    ∙ sym (append_assoc (bits_of f.width f.value) (bits_of_all fs) (bits_of_all gs))

pub width_of_all-append : (fs gs : List Field) → width_of_all (fs ++ gs) ≡ width_of_all fs + width_of_all gs
unfolding width_of_all
width_of_all-append [] gs = sym (zero-add (width_of_all gs))
width_of_all-append (f ∷ fs) gs = ap (λ (n : ℕ). f.width + n) (width_of_all-append fs gs) ∙ sym (add_assoc f.width (width_of_all fs) (width_of_all gs))

-- ---- taking fields from where their bits stand

pub unpack_of_bits : (os : List ℕ) (fs : List Field) (at : ℕ) (rest : List Bool) → AllFit fs → drop at (bits os) ≡ bits_of_all fs ++ rest → unpack os at (widths fs) ≡ fs
unfolding bits_of_all unpack field_at AllFit
unpack_of_bits os [] at rest h e = refl
unpack_of_bits os (f ∷ fs) at rest h e =
    let w : ℕ = f.width in
    let bs : List Bool = bits_of w f.value in
    let e' : drop at (bits os) ≡ bs ++ (bits_of_all fs ++ rest) = e ∙ append_assoc bs (bits_of_all fs) rest in
    let v : number (take w (drop at (bits os))) ≡ f.value =
    ap (λ (l : List Bool). number (take w l)) e' ∙ ap number (take_at bs (bits_of_all fs ++ rest) w (length-bits_of w f.value))
    ∙ number-bits_of-lt w f.value h.0 in
    let d : drop (at + w) (bits os) ≡ bits_of_all fs ++ rest =
    sym (drop-drop w at (bits os)) ∙ ap (λ (l : List Bool). drop w l) e' ∙ drop_at bs (bits_of_all fs ++ rest) w (length-bits_of w f.value) in
    ap₂ {C = List Field} (λ (x : ℕ) (l : List Field). record { width = w; value = x } ∷ l) v (unpack_of_bits os fs (at + w) rest h.1 d)

-- the bits that taken fields cover
pub bits_of_unpack : (os : List ℕ) (ws : List ℕ) (at : ℕ) → at + width_of_all (unpack os at ws) ≤ 8 * length os
    → bits_of_all (unpack os at ws) ≡ take (width_of_all (unpack os at ws)) (drop at (bits os))
unfolding bits_of_all width_of_all unpack field_at
bits_of_unpack os [] at h = refl
bits_of_unpack os (w ∷ ws) at h =
    let W : ℕ = width_of_all (unpack os (at + w) ws) in
    let l : length (take w (drop at (bits os))) ≡ w = length-take-le w (drop at (bits os)) (omega (arith, length-drop at (bits os), length-bits os)) in
    ap₂ {C = List Bool} (λ (x y : List Bool). x ++ y)
    (bits_of-number-at w (take w (drop at (bits os))) l)
    (bits_of_unpack os ws (at + w) (omega arith) ∙ ap (λ (x : List Bool). take W x) (sym (drop-drop w at (bits os))))
    ∙ sym (take-add w W (drop at (bits os)))

-- ---- whole octets

module _ (fs : List Field) (k : ℕ) (whole : width_of_all fs ≡ 8 * k) where
  eighths : width_of_all fs / 8 ≡ k
  eighths = ap (λ (n : ℕ). n / 8) whole ∙ mul-div_cancel_left k {n = 8} (omega arith)

  pub length-pack : length (pack fs) ≡ k
  unfolding pack
  length-pack = length-octets_of (width_of_all fs / 8) (bits_of_all fs) ∙ eighths

  pub bits-pack : bits (pack fs) ≡ bits_of_all fs
  unfolding pack
  bits-pack = bits-octets_of (width_of_all fs / 8) (bits_of_all fs) (length-bits_of_all fs ∙ whole ∙ ap (λ (n : ℕ). 8 * n) (sym eighths))

  -- a sequence of fields fills octets and comes back as those fields
  pub unpack-pack : AllFit fs → unpack (pack fs) 0 (widths fs) ≡ fs
  unpack-pack h = unpack_of_bits (pack fs) fs 0 [] h (bits-pack ∙ sym (append-nil (bits_of_all fs)))

pub pack-octets : (fs : List Field) → Octets (pack fs)
unfolding pack
pack-octets fs = octets_of-octets (width_of_all fs / 8) (bits_of_all fs)

-- octets whose bits are a sequence's are that sequence packed
pub pack_of_bits : (os : List ℕ) (fs : List Field) → Octets os → bits os ≡ bits_of_all fs → pack fs ≡ os
pack_of_bits os fs ho e =
    let w : width_of_all fs ≡ 8 * length os = sym (length-bits_of_all fs) ∙ ap length (sym e) ∙ length-bits os in
    same_bits (pack fs) os (pack-octets fs) ho (bits-pack fs (length os) w ∙ sym e)

-- octets that a sequence of widths covers are their fields packed
pub pack-unpack : (os : List ℕ) (ws : List ℕ) → Octets os → width_of_all (unpack os 0 ws) ≡ 8 * length os → pack (unpack os 0 ws) ≡ os
pack-unpack os ws ho e =
    pack_of_bits os (unpack os 0 ws) ho
    (sym (bits_of_unpack os ws 0 (omega (arith, zero-add (width_of_all (unpack os 0 ws))))
    ∙ ap (λ (n : ℕ). take n (bits os)) (e ∙ sym (length-bits os)) ∙ take-length (bits os)))

-- ---- fields put one after another

pub length-put_all : (fs : List Field) (os : List ℕ) (at : ℕ) → length (put_all os at fs) ≡ length os
unfolding put_all
length-put_all [] os at = refl
length-put_all (f ∷ fs) os at = length-put_all fs (with_field os at f.width f.value) (at + f.width) ∙ length-with_field os at f.width f.value

pub put_all-append : (fs gs : List Field) (os : List ℕ) (at : ℕ) → put_all os at (fs ++ gs) ≡ put_all (put_all os at fs) (at + width_of_all fs) gs
unfolding put_all width_of_all
put_all-append [] gs os at = ap (λ (n : ℕ). put_all os n gs) (sym (add-zero at))
put_all-append (f ∷ fs) gs os at =
    put_all-append fs gs (with_field os at f.width f.value) (at + f.width)
    ∙ ap (λ (n : ℕ). put_all (put_all (with_field os at f.width f.value) (at + f.width) fs) n gs) (add_assoc at f.width (width_of_all fs))

pub put_all-octets : (fs : List Field) (os : List ℕ) (at : ℕ) → Octets os → Octets (put_all os at fs)
unfolding put_all
put_all-octets [] os at h = h
put_all-octets (f ∷ fs) os at h = put_all-octets fs (with_field os at f.width f.value) (at + f.width) (with_field-octets os at f.width f.value)

pub bits-put_all : (fs : List Field) (os : List ℕ) (at : ℕ) → at + width_of_all fs ≤ 8 * length os
    → bits (put_all os at fs) ≡ take at (bits os) ++ bits_of_all fs ++ drop (at + width_of_all fs) (bits os)
unfolding put_all bits_of_all width_of_all
bits-put_all [] os at h =
    sym (ap {B = List Bool} (λ (l : List Bool). l ++ drop (at + 0) (bits os)) (append-nil (take at (bits os)))
    ∙ ap {B = List Bool} (λ (n : ℕ). take at (bits os) ++ drop n (bits os)) (add-zero at) ∙ take-append-drop at (bits os))
bits-put_all (f ∷ fs) os at h =
    let w : ℕ = f.width in
    let v : ℕ = f.value in
    let o' : List ℕ = with_field os at w v in
    let a : at + w + width_of_all fs ≡ at + (w + width_of_all fs) = add_assoc at w (width_of_all fs) in
    let front : take (at + w) (bits o') ≡ take at (bits os) ++ bits_of w v = put_front os at w v (omega arith) in
    let back : drop (at + w + width_of_all fs) (bits o') ≡ drop (at + (w + width_of_all fs)) (bits os) =
    sym (drop-drop (width_of_all fs) (at + w) (bits o')) ∙ ap (λ (l : List Bool). drop (width_of_all fs) l) (put_back os at w v (omega arith))
    ∙ drop-drop (width_of_all fs) (at + w) (bits os) ∙ ap (λ (n : ℕ). drop n (bits os)) a in
    bits-put_all fs o' (at + w) (omega (arith, length-with_field os at w v))
    ∙ ap₂ {C = List Bool} (λ (x y : List Bool). x ++ bits_of_all fs ++ y) front back
    ∙ ap {B = List Bool} (λ (x : List Bool). x ++ drop (at + (w + width_of_all fs)) (bits os)) (append_assoc (take at (bits os)) (bits_of w v) (bits_of_all fs))

-- at the front of a buffer: the packed octets, and then the buffer's later octets
pub put_all-pack : (fs : List Field) (k : ℕ) (os : List ℕ) → Octets os → width_of_all fs ≡ 8 * k → k ≤ length os → put_all os 0 fs ≡ pack fs ++ drop k os
put_all-pack fs k os ho e h =
    same_bits (put_all os 0 fs) (pack fs ++ drop k os) (put_all-octets fs os 0 ho) (append-octets (pack fs) (drop k os) (pack-octets fs) (drop-octets k os ho))
    (bits-put_all fs os 0 (omega (arith, zero-add (width_of_all fs)))
    ∙ ap₂ {C = List Bool} (λ (x y : List Bool). x ++ y) (sym (bits-pack fs k e)) (ap (λ (n : ℕ). drop n (bits os)) (zero-add (width_of_all fs) ∙ e) ∙ bits-drop k os h)
    ∙ sym (bits-append (pack fs) (drop k os)))
