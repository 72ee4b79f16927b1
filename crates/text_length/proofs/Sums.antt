-- Lines one after another: the length of a line is that of its words and its numerals, and the lines of one transition more are a line more. Assumes nothing.
use Prim.Native.Nat.{ℕ, suc, ◌+◌}
use mathlib.Core.List.{List, [], ◌∷◌, ◌++◌, append-nil, append_assoc}
use mathlib.Core.Path.{◌≡◌, refl, sym, ap, ◌∙◌}
use native.Mathlib.Omega.{arith}
use lib.ListN.{length, length-append}
use Rattle.graph.specs.Graph.{Transition}
use Rattle.rules.specs.Image.{tabulate}
use Rattle.rules.proofs.Tabulated.{length-tabulate}
use Rattle.aldebaran.specs.Form.{written}
use Rattle.aldebaran.specs.Text.{first_form, line_form, line_text, lines_text, text_of}
use Rattle.text.specs.Text.{octets, digits}
use Rattle.text_length.specs.Parts.{first_text, holding}

-- ---- one line

pub first-sum : (i m n : ℕ) → length (first_text i m n) ≡ 11 + length (digits i) + length (digits m) + length (digits n)
unfolding octets written first_form
first-sum i m n = simp length-append (omega arith)

pub line-sum : (t : Transition) → length (line_text t) ≡ 11 + length (digits t.from) + length (digits t.to) + length (digits t.low) + length (digits t.high)
unfolding octets written line_form line_text
line-sum t = simp length-append (omega arith)

-- ---- all lines

lines_snoc : (ts : List Transition) (t : Transition) → lines_text (ts ++ (t ∷ [])) ≡ lines_text ts ++ line_text t
unfolding lines_text
lines_snoc [] t = append-nil (line_text t)
lines_snoc (u ∷ ts) t = ap (λ (l : List ℕ). line_text u ++ l) (lines_snoc ts t) ∙ sym (append_assoc (line_text u) (lines_text ts) (line_text t))

module _ (f : ℕ → Transition) where
  pub lines_none : lines_text (tabulate 0 f) ≡ []
  unfolding tabulate lines_text
  lines_none = refl

  pub lines_more : (i : ℕ) → lines_text (tabulate (suc i) f) ≡ lines_text (tabulate i f) ++ line_text (f i)
  unfolding tabulate
  lines_more i = lines_snoc (tabulate i f) (f i)

  pub lines-length-more : (i : ℕ) → length (lines_text (tabulate (suc i) f)) ≡ length (lines_text (tabulate i f)) + length (line_text (f i))
  lines-length-more i = ap length (lines_more i) ∙ length-append (lines_text (tabulate i f)) (line_text (f i))

  -- the whole text: the first line, and the lines of m transitions
  pub text-is : (initial n m : ℕ) → text_of (holding initial n (tabulate m f)) ≡ first_text initial m n ++ lines_text (tabulate m f)
  unfolding text_of
  text-is initial n m = rw (length-tabulate m f) refl

  pub text-sum : (initial n m : ℕ) → length (text_of (holding initial n (tabulate m f))) ≡ length (first_text initial m n) + length (lines_text (tabulate m f))
  text-sum initial n m = ap length (text-is initial n m) ∙ length-append (first_text initial m n) (lines_text (tabulate m f))
