-- A form, read piece by piece from a place: where the form is at its end nothing more is read (`form_end`); a word at its front is passed (`form_word`); a number at its front stands
-- before those that follow (`form_number`). Off the form nothing follows: neither behind a piece that is off it (`form_word-off`, `form_number-off`), nor where what stands behind
-- the piece is (`form_word-rest`, `form_number-rest`). What is read needs no place in the text (`form_end-read`, `form_word-read`, `form_number-read`). Last, what callers cite: each number of a form that was read is the one told, but for where it was cut off
-- (`number_cut`). Assumes nothing.
use Prim.Native.Nat.{ℕ, zero, suc, ◌≤◌}
use mathlib.Core.List.{List, [], ◌∷◌, map}
use mathlib.Core.Path.{◌≡◌, refl, sym, ap, ◌∙◌}
use lib.ListN.{length, get_or, drop}
use Rattle.aldebaran.specs.Form.{Piece, word, number, Reading, off, on, and_then, read_form}
use Rattle.scan.specs.declared.Taken.{Taken}
use Rattle.scan.specs.Places.{word_then, number_then, cut, Passed, Tells}
use Rattle.text_reading.specs.Forms.{form_then, TellsForm}

module _ (text : List ℕ) where
  pub form_end : (at : ℕ) → at ≤ length text → TellsForm text (form_then text at []) [] at
  unfolding read_form
  form_end at h = record { inside = h; numbers = []; told = refl; values_are = refl }

  pub form_word : (at k next : ℕ) (w : List ℕ) (form : List Piece) (values : List ℕ) → Passed text (word_then text at w) k
      → TellsForm text (form_then text k form) values next → TellsForm text (form_then text at (word w ∷ form)) values next
  unfolding and_then read_form
  form_word at k next w form values e t = record { inside = t.inside; numbers = t.numbers; told = rw e.rest t.told; values_are = t.values_are }

  pub form_word-off : (at : ℕ) (w : List ℕ) (form : List Piece) → word_then text at w ≡ off → form_then text at (word w ∷ form) ≡ off
  unfolding and_then read_form
  form_word-off at w form e = rw e refl

  pub form_number : (at next : ℕ) (r : Taken) (form : List Piece) (values : List ℕ) → Tells text (number_then text at) r
      → TellsForm text (form_then text r.next form) values next → TellsForm text (form_then text at (number ∷ form)) (r.value ∷ values) next
  unfolding and_then read_form
  form_number at next r form values e t =
      record {
        inside = t.inside;
        numbers = e.number ∷ t.numbers;
        told = rw (e.told, t.told) refl;
        values_are = λ i. sym e.value_is i ∷ t.values_are i;
      }

  pub form_number-off : (at : ℕ) (form : List Piece) → number_then text at ≡ off → form_then text at (number ∷ form) ≡ off
  unfolding and_then read_form
  form_number-off at form e = rw e refl

  pub form_end-read : (at : ℕ) → form_then text at [] ≡ on [] (drop at text)
  unfolding read_form
  form_end-read at = refl

  pub form_word-read : (at k : ℕ) (w : List ℕ) (form : List Piece) → word_then text at w ≡ on [] (drop k text)
      → form_then text at (word w ∷ form) ≡ form_then text k form
  unfolding and_then read_form
  form_word-read at k w form e = rw e refl

  pub form_number-read : (at k v : ℕ) (form : List Piece) → number_then text at ≡ on v (drop k text)
      → form_then text at (number ∷ form) ≡ and_then (form_then text k form) (λ vs rest. on (v ∷ vs) rest)
  unfolding and_then read_form
  form_number-read at k v form e = rw e refl

  pub form_word-rest : (at k : ℕ) (w : List ℕ) (form : List Piece) → Passed text (word_then text at w) k
      → form_then text k form ≡ off → form_then text at (word w ∷ form) ≡ off
  form_word-rest at k w form e r = form_word-read at k w form e.rest ∙ r

  pub form_number-rest : (at : ℕ) (r : Taken) (form : List Piece) → Tells text (number_then text at) r
      → form_then text r.next form ≡ off → form_then text at (number ∷ form) ≡ off
  unfolding and_then
  form_number-rest at r form e o = form_number-read at r.next e.number form e.told ∙ rw o refl

-- ---- what was read

get_d_cut : (ns : List ℕ) (i : ℕ) → get_or (map cut ns) i 0 ≡ cut (get_or ns i 0)
get_d_cut [] i = refl
get_d_cut (n ∷ ns) zero = refl
get_d_cut (n ∷ ns) (suc i) = get_d_cut ns i

pub number_cut : {text : List ℕ} {read : Reading (List ℕ)} {values : List ℕ} {next : ℕ} (t : TellsForm text read values next) (i : ℕ)
    → get_or values i 0 ≡ cut (get_or t.numbers i 0)
number_cut t i = ap (λ (vs : List ℕ). get_or vs i 0) (sym t.values_are) ∙ get_d_cut t.numbers i
