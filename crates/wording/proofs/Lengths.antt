-- How long lines are: the lengths of what they are put together from, added up, and what four of them can need. Assumes nothing.
use Prim.Native.Nat.{ℕ, ◌+◌, ◌^◌, ◌≤◌, ◌<◌}
use mathlib.Core.List.{List}
use mathlib.Core.Path.{◌≡◌, refl}
use native.Mathlib.Omega.{arith}
use lib.ListN.{length, length-append}
use Rattle.graph.specs.declared.Which.{Which}
use Rattle.graph.specs.declared.Which.TheVariants.{LeastDelay, GreatestDelay, LeastCount, GreatestCount}
use Rattle.graph.specs.Figure.{Figure, number, NONE, STRANDED, ENDLESS, value}
use Rattle.wording.specs.Lines.{name_text, figure_text, heading, added_text, line, refused_line}
use Rattle.text.specs.Text.{octets, digits, listed}
use Rattle.text.proofs.Numerals.{digits-length_u32}

pub heading-sum : (which : Which) (f : Figure) → length (heading which f) ≡ length (name_text which) + length (figure_text f) + 2
unfolding octets heading
heading-sum which f = simp length-append (omega arith)

pub line-sum : (which : Which) (f : Figure) (walk : List ℕ) (j : ℕ)
    → length (line which f walk j) ≡ length (heading which f) + length (listed walk) + length (added_text f j) + 1
unfolding octets line
line-sum which f walk j = simp length-append (omega arith)

pub refused-sum : (n : ℕ) → length (refused_line n) ≡ length (digits n) + 9
unfolding octets refused_line
refused-sum n = simp length-append (omega arith)

pub refused_room : (n : ℕ) → n < 2 ^ 32 → length (refused_line n) ≤ 19
refused_room n h = omega (arith, refused-sum n, digits-length_u32 n h)

figure-length : (f : Figure) → value f < 2 ^ 32 → length (figure_text f) ≤ 10
unfolding octets figure_text
figure-length (number k) h = digits-length_u32 k h
figure-length NONE h = omega arith
figure-length STRANDED h = omega arith
figure-length ENDLESS h = omega arith

added-length : (f : Figure) (j : ℕ) → j < 2 ^ 32 → length (added_text f j) ≤ 12
unfolding octets added_text
added-length (number k) j h = omega arith
added-length NONE j h = omega arith
added-length STRANDED j h = omega arith
added-length ENDLESS j h = omega (arith, digits-length_u32 j h)

-- a line is at most 25 octets longer than its name and its transitions
pub line-length : (which : Which) (f : Figure) (walk : List ℕ) (j : ℕ) → value f < 2 ^ 32 → j < 2 ^ 32
    → length (line which f walk j) ≤ length (name_text which) + length (listed walk) + 25
line-length which f walk j h i = omega (arith, line-sum which f walk j, heading-sum which f, figure-length f h, added-length f j i)

-- the four names
pub names_length : length (name_text LeastDelay) + length (name_text GreatestDelay) + length (name_text LeastCount) + length (name_text GreatestCount) ≡ 50
unfolding octets name_text
names_length = refl
