-- Fields put one after another: those of one item more. Assumes nothing.
use mathlib.Core.List.{List, [], ◌∷◌, ◌++◌, append-nil}
use mathlib.Core.Path.{◌≡◌, refl, sym, ap, ◌∙◌}
use Prim.Native.Nat.{ℕ, ◌+◌, ◌*◌}
use native.Mathlib.Numerals.{add-one}
use Rattle.field.specs.Field.{Field, put_all, width_of_all}
use Rattle.field.proofs.Pack.{put_all-append}
use Rattle.rules.specs.Image.{fields_of_each}
use Rattle.rules.proofs.Fields.{width-each}
use Rattle.rules.specs.Image.{tabulate}
use Rattle.rules.proofs.Tabulated.{length-tabulate}

-- one item more, of w bits each, from a base position on
module _ {A : Type 0} (fields : A → List Field) (w : ℕ) (wide : (a : A) → width_of_all (fields a) ≡ w) where
  fields-append : (xs ys : List A) → fields_of_each fields (xs ++ ys) ≡ fields_of_each fields xs ++ fields_of_each fields ys
  unfolding fields_of_each
  fields-append [] ys = refl
  fields-append (x ∷ xs) ys =
      ap {B = List Field} (λ (l : List Field). fields x ++ l) (fields-append xs ys) ∙ sym (mathlib.Core.List.append_assoc (fields x) (fields_of_each fields xs) (fields_of_each fields ys))

  pub put-none : (os : List ℕ) (base : ℕ) (f : ℕ → A) → os ≡ put_all os base (fields_of_each fields (tabulate 0 f))
  unfolding tabulate fields_of_each put_all
  put-none os base f = refl

  pub put-more : (os : List ℕ) (base i : ℕ) (f : ℕ → A)
      → put_all (put_all os base (fields_of_each fields (tabulate i f))) (base + w * i) (fields (f i)) ≡ put_all os base (fields_of_each fields (tabulate (i + 1) f))
  unfolding tabulate fields_of_each
  put-more os base i f =
      let t : List A = tabulate i f in
      let e : width_of_all (fields_of_each fields t) ≡ w * i = width-each fields w wide t ∙ ap (λ (n : ℕ). w * n) (length-tabulate i f) in
      sym (ap (λ (n : ℕ). put_all os base (fields_of_each fields (tabulate n f))) (add-one i)
      ∙ ap (λ (l : List Field). put_all os base l)
      (fields-append t (f i ∷ []) ∙ ap {B = List Field} (λ (l : List Field). fields_of_each fields t ++ l) (append-nil (fields (f i))))
      ∙ put_all-append (fields_of_each fields t) (fields (f i)) os base
      ∙ ap (λ (n : ℕ). put_all (put_all os base (fields_of_each fields t)) (base + n) (fields (f i))) e)
