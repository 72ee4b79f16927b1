-- Items that stand one after another in the bits of octets, each at its own bit position: an item is w bits, the fields of a value. Where the
-- bits of a list's fields stand, those of each item stand at its place; and where those of each item do, the bits of the list's fields stand there.
-- Both are said once, over the kind of item: states and transitions are the two kinds.
-- Assumes nothing.
use mathlib.Core.Bool.{Bool}
use mathlib.Core.List.{List, [], ◌∷◌, ◌++◌, append_assoc, append-nil}
use mathlib.Core.Path.{◌≡◌, refl, sym, ap, ap₂, ◌∙◌}
use Prim.Native.Nat.{ℕ, zero, suc, ◌+◌, ◌*◌, ◌<◌}
use native.Mathlib.Nat.{mul-zero, not-suc-le-zero, le_of_suc-le-suc}
use native.Mathlib.Omega.{arith}
use lib.ListN.{length, get_or, take, drop}
use lib.Seq.{drop-drop, drop_at, take-add}
use Rattle.field.specs.Field.{Field, bits_of_all, width_of_all}
use Rattle.field.proofs.Pack.{length-bits_of_all, bits_of_all-append, width_of_all-append}
use Rattle.rules.specs.Image.{fields_of_each, tabulate}

module _ {A : Type 0} (fields : A → List Field) (w : ℕ) (wide : (a : A) → width_of_all (fields a) ≡ w) where
  pub width-each : (xs : List A) → width_of_all (fields_of_each fields xs) ≡ w * length xs
  unfolding fields_of_each width_of_all
  width-each [] = sym (mul-zero w)
  width-each (x ∷ xs) = width_of_all-append (fields x) (fields_of_each fields xs) ∙ ap₂ ◌+◌ (wide x) (width-each xs) ∙ omega arith

  each_append : (xs ys : List A) → fields_of_each fields (xs ++ ys) ≡ fields_of_each fields xs ++ fields_of_each fields ys
  unfolding fields_of_each
  each_append [] ys = refl
  each_append (x ∷ xs) ys =
      ap {B = List Field} (λ (l : List Field). fields x ++ l) (each_append xs ys) ∙ sym (append_assoc (fields x) (fields_of_each fields xs) (fields_of_each fields ys))

  -- where the bits of a list's fields stand, those of each item stand at its place
  pub bits_at : (B : List Bool) (d : A) (xs : List A) (base : ℕ) (rest : List Bool) → drop base B ≡ bits_of_all (fields_of_each fields xs) ++ rest
      → (k : ℕ) → k < length xs → (after : List Bool) × (drop (base + w * k) B ≡ bits_of_all (fields (get_or xs k d)) ++ after)
  unfolding fields_of_each
  bits_at B d [] base rest e k l = absurd (not-suc-le-zero l)
  bits_at B d (x ∷ xs) base rest e zero l =
      let p : base + w * 0 ≡ base = omega arith in
      let r : List Bool = bits_of_all (fields_of_each fields xs) ++ rest in (
        r,
        ap (λ (n : ℕ). drop n B) p ∙ e ∙ ap {B = List Bool} (λ (b : List Bool). b ++ rest) (bits_of_all-append (fields x) (fields_of_each fields xs))
            ∙ append_assoc (bits_of_all (fields x)) (bits_of_all (fields_of_each fields xs)) rest,
      )
  bits_at B d (x ∷ xs) base rest e (suc k) l =
      let r : List Bool = bits_of_all (fields_of_each fields xs) ++ rest in
      let here : drop base B ≡ bits_of_all (fields x) ++ r =
      e ∙ ap {B = List Bool} (λ (b : List Bool). b ++ rest) (bits_of_all-append (fields x) (fields_of_each fields xs))
      ∙ append_assoc (bits_of_all (fields x)) (bits_of_all (fields_of_each fields xs)) rest in
      let next : drop (base + w) B ≡ r =
      sym (drop-drop w base B) ∙ ap (λ (b : List Bool). drop w b) here ∙ drop_at (bits_of_all (fields x)) r w (length-bits_of_all (fields x) ∙ wide x) in
      let (a, q) = bits_at B d xs (base + w) rest next k (le_of_suc-le-suc l) in
      let p : base + w * suc k ≡ base + w + w * k = omega arith in
      (a, ap (λ (n : ℕ). drop n B) p ∙ q)

  -- where each item's bits stand at its place, those of the list's fields stand there
  pub bits_of_items : (B : List Bool) (f : ℕ → A) (base n : ℕ) → ((k : ℕ) → k < n → take w (drop (base + w * k) B) ≡ bits_of_all (fields (f k)))
      → take (w * n) (drop base B) ≡ bits_of_all (fields_of_each fields (tabulate n f))
  unfolding tabulate fields_of_each bits_of_all
  bits_of_items B f base zero h = ap (λ (m : ℕ). take m (drop base B)) (mul-zero w)
  bits_of_items B f base (suc n) h =
      let m : w * suc n ≡ w * n + w = omega arith in
      let one : fields_of_each fields (f n ∷ []) ≡ fields (f n) = append-nil (fields (f n)) in
      ap (λ (m : ℕ). take m (drop base B)) m ∙ take-add (w * n) w (drop base B)
      ∙ ap₂ {C = List Bool} (λ (p q : List Bool). p ++ q) (bits_of_items B f base n (λ k l. h k (omega arith)))
      (ap (λ (b : List Bool). take w b) (drop-drop (w * n) base B) ∙ h n (omega arith) ∙ ap bits_of_all (sym one))
      ∙ sym (bits_of_all-append (fields_of_each fields (tabulate n f)) (fields_of_each fields (f n ∷ [])))
      ∙ ap bits_of_all (sym (each_append (tabulate n f) (f n ∷ [])))
