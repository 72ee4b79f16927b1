-- The lines of known figures, computed; proof files are checked in the order of their names, so a wrong definition is refused here first.
-- Assumes nothing.
use mathlib.Core.List.{List, [], ◌∷◌, ◌++◌}
use mathlib.Core.Path.{◌≡◌, refl}
use Prim.Native.Nat.{ℕ}
use lib.ListN.{replicate}
use Rattle.graph.specs.declared.Which.{Which}
use Rattle.graph.specs.declared.Which.TheVariants.{GreatestDelay, LeastCount, GreatestCount}
use Rattle.graph.specs.Figure.{NONE, STRANDED, ENDLESS}
use Rattle.graph.specs.Known.{P1}
use Rattle.graph.specs.Which.{four, in_turn}
use Rattle.rules.specs.declared.Figure.TheVariants.{Number}
use Rattle.rules.specs.declared.Quote.{Quote}
use Rattle.wording.specs.Lines.{name_text, figure_text, heading, added_text, line, lines_of, refused_line}
use Rattle.text.specs.Text.{octets, leading, digits, spaced, listed}

-- "it prints exactly"
abbrev walks : Which → List ℕ
walks = four (0 ∷ 2 ∷ []) (0 ∷ 1 ∷ 3 ∷ []) (0 ∷ 2 ∷ []) (0 ∷ 1 ∷ 3 ∷ [])

pub P1-lines : in_turn (λ which. line which (P1.figures which) (walks which) 0)
    ≡ octets "least delay 7: 0 2\ngreatest delay 60: 0 1 3\nleast count 1: 0 2\ngreatest count 2: 0 1 3\n"
unfolding octets leading digits spaced listed name_text figure_text heading added_text line
P1-lines = refl

-- the same, of the quotes of P1 with their walks in the parts of 2,048 places
abbrev quote_with : ℕ → ℕ → Quote
quote_with x k = record { figure = Number x; k = k; j = 0 }

pub P1-printed : lines_of (record { least_delay = quote_with 7 2; greatest_delay = quote_with 60 3; least_count = quote_with 1 2; greatest_count = quote_with 2 3 })
    ((0 ∷ 2 ∷ replicate 510 9) ++ (0 ∷ 1 ∷ 3 ∷ replicate 509 9) ++ (0 ∷ 2 ∷ replicate 510 9) ++ (0 ∷ 1 ∷ 3 ∷ replicate 509 9))
    ≡ octets "least delay 7: 0 2\ngreatest delay 60: 0 1 3\nleast count 1: 0 2\ngreatest count 2: 0 1 3\n"
unfolding octets leading digits spaced listed name_text figure_text heading added_text line lines_of
P1-printed = refl

-- P4's loop, taken once from the first place
pub endless-line : line GreatestDelay ENDLESS (0 ∷ []) 0 ≡ octets "greatest delay ENDLESS: 0 @0\n"
unfolding octets leading digits spaced listed name_text figure_text heading added_text line
endless-line = refl

-- an open transition at the end of the walk: j equals k (document 02, E2)
pub open_line : line GreatestDelay ENDLESS (0 ∷ 1 ∷ []) 2 ≡ octets "greatest delay ENDLESS: 0 1 @2\n"
unfolding octets leading digits spaced listed name_text figure_text heading added_text line
open_line = refl

-- P3's start alone
pub stranded-line : line GreatestCount STRANDED [] 0 ≡ octets "greatest count STRANDED:\n"
unfolding octets leading digits spaced listed name_text figure_text heading added_text line
stranded-line = refl

pub none-line : line LeastCount NONE [] 0 ≡ octets "least count NONE:\n"
unfolding octets leading digits spaced listed name_text figure_text heading added_text line
none-line = refl

pub refused-line : refused_line 10 ≡ octets "refused 10\n"
unfolding octets leading digits refused_line
refused-line = refl
