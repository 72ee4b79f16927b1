-- A text and what it holds determine each other. Of a form whose numbers are each followed by a word that begins with no digit: what was written is read (`form_read`), by
-- `number_read`; and of any form, what was read was written (`form_written`), by `number-written`. So for lines, one after another, and for the whole text: the text of what it
-- holds is read as that (`text-read`), and octets that are read are the text of what they hold (`text-written`). Assumes nothing.
use Prim.Native.Nat.{ℕ, zero, suc}
use mathlib.Core.Bool.{Bool, true, false, cond, ◌&&◌, true≢false}
use mathlib.Core.List.{List, [], ◌∷◌, ◌++◌, append-nil, append_assoc}
use mathlib.Core.Path.{◌≡◌, refl, sym, ap, ◌∙◌}
use native.Mathlib.Omega.{arith}
use borrow.Author.Tests.{eqb-true, eq-eqb}
use lib.Dec.{eqb}
use lib.ListN.{length, get_or}
use Rattle.graph.specs.Graph.{Transition}
use Rattle.text.specs.Text.{octets, digits}
use Rattle.aldebaran.specs.Form.{Piece, word, number, numbers, written, Reading, off, on, and_then, read_word, read_number, read_form, is_digit, no_digit, parted}
use Rattle.aldebaran.specs.Text.{Holding, first_form, line_form, numbers_of, transition_of, line_text, lines_text, text_of, read_lines, whole, read_text}
use Rattle.aldebaran.proofs.Numbers.{on-got, on_rest, off_not_on, number_read, number-written}

-- ---- one thing after another

-- where the whole was read, so was each part
pub record Both {A B : Type 0} (r : Reading A) (f : A → List ℕ → Reading B) (b : B) (rest : List ℕ) : Type 0 where
  pub first : A
  pub between : List ℕ
  pub read_first : r ≡ on first between
  pub read-then : f first between ≡ on b rest

pub both : {A B : Type 0} (r : Reading A) (f : A → List ℕ → Reading B) (b : B) (rest : List ℕ) → and_then r f ≡ on b rest → Both r f b rest
unfolding and_then
both off f b rest e = absurd (off_not_on e)
both (on a xs) f b rest e = record { first = a; between = xs; read_first = refl; read-then = e }

-- ---- words

word_read : (w rest : List ℕ) → read_word w (w ++ rest) ≡ on [] rest
unfolding read_word
word_read [] rest = refl
word_read (x ∷ w) rest = rw (eq-eqb x x refl) (word_read w rest)

word-written : (w xs got rest : List ℕ) → read_word w xs ≡ on got rest → xs ≡ w ++ rest
unfolding read_word
word-written [] xs got rest e = on_rest e
word-written (x ∷ w) [] got rest e = absurd (off_not_on e)
word-written (x ∷ w) (y ∷ xs) got rest e = go (λ r. word-written w xs got rest r) (eqb x y) refl e
  where
    go : (read_word w xs ≡ on got rest → xs ≡ w ++ rest) → (b : Bool) → eqb x y ≡ b → cond b (read_word w xs) off ≡ on got rest → y ∷ xs ≡ x ∷ (w ++ rest)
    go next true q r = rw (eqb-true x y q) (ap (λ (l : List ℕ). y ∷ l) (next r))
    go next false q r = absurd (off_not_on r)

-- ---- forms

both_true : (a b : Bool) → (a && b) ≡ true → (a ≡ true) × (b ≡ true)
both_true true true e = (refl, refl)
both_true true false e = absurd (true≢false (sym e))
both_true false b e = absurd (true≢false (sym e))

-- a word that begins with no digit, with anything after it, begins with none
no_digit-more : (w xs : List ℕ) → no_digit w ≡ true → no_digit (w ++ xs) ≡ true
unfolding no_digit
no_digit-more [] xs e = absurd (true≢false (sym e))
no_digit-more (x ∷ w) xs e = e

pub form_read : (ps : List Piece) (ns tail : List ℕ) → parted ps ≡ true → length ns ≡ numbers ps → read_form ps (written ps ns ++ tail) ≡ on ns tail
unfolding numbers written and_then read_form parted
form_read [] [] tail p l = refl
form_read [] (n ∷ ns) tail p l = absurd (omega arith)
form_read (word w ∷ ps) ns tail p l =
    rw (append_assoc w (written ps ns) tail, word_read w (written ps ns ++ tail)) (form_read ps ns tail p l)
form_read (number ∷ ps) [] tail p l = absurd (omega arith)
form_read (number ∷ []) (n ∷ ns) tail p l = absurd (true≢false (sym p))
form_read (number ∷ number ∷ ps) (n ∷ ns) tail p l = absurd (true≢false (sym p))
form_read (number ∷ word w ∷ ps) (n ∷ ns) tail p l =
    let (d, q) = both_true (no_digit w) (parted ps) p in
    let rest : List ℕ = w ++ written ps ns in
    let no : no_digit (rest ++ tail) ≡ true = rw (append_assoc w (written ps ns) tail) (no_digit-more w (written ps ns ++ tail) d) in
    rw (append_assoc (digits n) rest tail, number_read n (rest ++ tail) no, form_read (word w ∷ ps) ns tail q (omega arith)) refl

-- how many numbers were read
pub form_numbers : (ps : List Piece) (xs ns rest : List ℕ) → read_form ps xs ≡ on ns rest → length ns ≡ numbers ps
unfolding numbers and_then read_form
form_numbers [] xs ns rest e = ap length (sym (on-got e))
form_numbers (word w ∷ ps) xs ns rest e =
    let b = both (read_word w xs) (λ u r. read_form ps r) ns rest e in
    form_numbers ps b.between ns rest b.read-then
form_numbers (number ∷ ps) xs ns rest e =
    let b = both (read_number xs) (λ n r. and_then (read_form ps r) (λ ms r'. on (n ∷ ms) r')) ns rest e in
    let c = both (read_form ps b.between) (λ ms r'. on (b.first ∷ ms) r') ns rest b.read-then in
    ap length (sym (on-got c.read-then)) ∙ ap suc (form_numbers ps b.between c.first c.between c.read_first)

pub form_written : (ps : List Piece) (xs ns rest : List ℕ) → read_form ps xs ≡ on ns rest → xs ≡ written ps ns ++ rest
unfolding written and_then read_form
form_written [] xs ns rest e = on_rest e
form_written (word w ∷ ps) xs ns rest e =
    let b = both (read_word w xs) (λ u r. read_form ps r) ns rest e in
    word-written w xs b.first b.between b.read_first ∙ ap (λ (l : List ℕ). w ++ l) (form_written ps b.between ns rest b.read-then)
    ∙ sym (append_assoc w (written ps ns) rest)
form_written (number ∷ ps) xs ns rest e =
    let b = both (read_number xs) (λ n r. and_then (read_form ps r) (λ ms r'. on (n ∷ ms) r')) ns rest e in
    let c = both (read_form ps b.between) (λ ms r'. on (b.first ∷ ms) r') ns rest b.read-then in
    let after : b.between ≡ written ps c.first ++ rest = form_written ps b.between c.first c.between c.read_first
    ∙ ap (λ (l : List ℕ). written ps c.first ++ l) (on_rest c.read-then) in
    number-written xs b.first b.between b.read_first ∙ ap (λ (l : List ℕ). digits b.first ++ l) after
    ∙ sym (append_assoc (digits b.first) (written ps c.first) rest) ∙ ap (λ (l : List ℕ). written (number ∷ ps) l ++ rest) (on-got c.read-then)

-- ---- lines

line-parted : parted line_form ≡ true
unfolding octets is_digit no_digit parted line_form
line-parted = refl

first-parted : parted first_form ≡ true
unfolding octets is_digit no_digit parted first_form
first-parted = refl

line_numbers_lem : numbers line_form ≡ 4
unfolding numbers line_form
line_numbers_lem = refl

first_numbers_lem : numbers first_form ≡ 3
unfolding numbers first_form
first_numbers_lem = refl

-- four numbers are those of their transition
line-is : (ns : List ℕ) → length ns ≡ 4 → numbers_of (transition_of ns) ≡ ns
line-is [] e = absurd (omega arith)
line-is (a ∷ []) e = absurd (omega arith)
line-is (a ∷ b ∷ []) e = absurd (omega arith)
line-is (a ∷ b ∷ c ∷ []) e = absurd (omega arith)
line-is (a ∷ b ∷ c ∷ d ∷ []) e = refl
line-is (a ∷ b ∷ c ∷ d ∷ f ∷ ns) e = absurd (omega arith)

three-is : (ns : List ℕ) → length ns ≡ 3 → get_or ns 0 0 ∷ get_or ns 1 0 ∷ get_or ns 2 0 ∷ [] ≡ ns
three-is [] e = absurd (omega arith)
three-is (a ∷ []) e = absurd (omega arith)
three-is (a ∷ b ∷ []) e = absurd (omega arith)
three-is (a ∷ b ∷ c ∷ []) e = refl
three-is (a ∷ b ∷ c ∷ d ∷ ns) e = absurd (omega arith)

lines-read : (ls : List Transition) (tail : List ℕ) → read_lines (length ls) (lines_text ls ++ tail) ≡ on ls tail
unfolding and_then line_text lines_text read_lines
lines-read [] tail = refl
lines-read (l ∷ ls) tail =
    rw (
      append_assoc (written line_form (numbers_of l)) (lines_text ls) tail,
      form_read line_form (numbers_of l) (lines_text ls ++ tail) line-parted (sym line_numbers_lem),
      lines-read ls tail,
    ) refl

pub record LinesWritten (m : ℕ) (xs : List ℕ) (ls : List Transition) (rest : List ℕ) : Type 0 where
  pub as_many : length ls ≡ m
  pub text : xs ≡ lines_text ls ++ rest

line-more : (m : ℕ) (xs ns between : List ℕ) (ks : List Transition) (end : List ℕ) (ls : List Transition) (rest : List ℕ) → numbers_of (transition_of ns) ≡ ns → xs ≡ written line_form ns ++ between
    → LinesWritten m between ks end → transition_of ns ∷ ks ≡ ls → end ≡ rest → LinesWritten (suc m) xs ls rest
unfolding line_text lines_text
line-more m xs ns between ks end ls rest four line w all same = rw (← all) (record {
  as_many = ap suc w.as_many;
  text = line ∙ ap (λ (l : List ℕ). written line_form ns ++ l) (w.text ∙ ap (λ (l : List ℕ). lines_text ks ++ l) same)
      ∙ sym (append_assoc (written line_form ns) (lines_text ks) rest) ∙ ap (λ (l : List ℕ). written line_form l ++ lines_text ks ++ rest) (sym four);
})

pub lines-written : (m : ℕ) (xs : List ℕ) (ls : List Transition) (rest : List ℕ) → read_lines m xs ≡ on ls rest → LinesWritten m xs ls rest
unfolding and_then line_text lines_text read_lines
lines-written zero xs ls rest e = rw (← on-got e) (record { as_many = refl; text = on_rest e })
lines-written (suc m) xs ls rest e =
    let b = both (read_form line_form xs) (λ ns r. and_then (read_lines m r) (λ ks r'. on (transition_of ns ∷ ks) r')) ls rest e in
    let c = both (read_lines m b.between) (λ ks r'. on (transition_of b.first ∷ ks) r') ls rest b.read-then in
    let w = lines-written m b.between c.first c.between c.read_first in
    let four : numbers_of (transition_of b.first) ≡ b.first = line-is b.first (form_numbers line_form xs b.first b.between b.read_first ∙ line_numbers_lem) in
    line-more m xs b.first b.between c.first c.between ls rest four (form_written line_form xs b.first b.between b.read_first) w
    (on-got c.read-then) (on_rest c.read-then)

-- ---- the whole text

pub text-read : (h : Holding) → read_text (text_of h) ≡ on h []
unfolding and_then text_of whole read_text
text-read h =
    let ns : List ℕ = h.initial ∷ length h.transitions ∷ h.states ∷ [] in
    let lines : read_lines (length h.transitions) (lines_text h.transitions) ≡ on h.transitions [] = rw (append-nil (lines_text h.transitions)) at (lines-read h.transitions []) in
    rw (form_read first_form ns (lines_text h.transitions) first-parted (sym first_numbers_lem), lines) refl

whole_is : {A : Type 0} (a b : A) (xs rest : List ℕ) → whole a xs ≡ on b rest → (a ≡ b) × (xs ≡ [])
unfolding whole
whole_is a b [] rest e = (on-got e, refl)
whole_is a b (x ∷ xs) rest e = absurd (off_not_on e)

-- the first line's numbers, and as many lines as the second of them says
put_together : (ns : List ℕ) (ls : List Transition) (after end : List ℕ) (h : Holding) → get_or ns 0 0 ∷ get_or ns 1 0 ∷ get_or ns 2 0 ∷ [] ≡ ns → length ls ≡ get_or ns 1 0
    → after ≡ lines_text ls ++ end → end ≡ [] → record { initial = get_or ns 0 0; states = get_or ns 2 0; transitions = ls } ≡ h → written first_form ns ++ after ≡ text_of h
unfolding text_of
put_together ns ls after end h three many text nothing held =
    let lines : after ≡ lines_text ls = text ∙ ap (λ (l : List ℕ). lines_text ls ++ l) nothing ∙ append-nil (lines_text ls) in
    let first : ns ≡ get_or ns 0 0 ∷ length ls ∷ get_or ns 2 0 ∷ [] = sym three ∙ ap (λ (m : ℕ). get_or ns 0 0 ∷ m ∷ get_or ns 2 0 ∷ []) (sym many) in
    ap (λ (l : List ℕ). written first_form l ++ after) first ∙ ap (λ (l : List ℕ). written first_form (get_or ns 0 0 ∷ length ls ∷ get_or ns 2 0 ∷ []) ++ l) lines ∙ ap text_of held

pub text-written : (xs : List ℕ) (h : Holding) (rest : List ℕ) → read_text xs ≡ on h rest → xs ≡ text_of h
unfolding and_then text_of read_text
text-written xs h rest e =
    let b = both (read_form first_form xs) (λ ns r. and_then (read_lines (get_or ns 1 0) r)
    (λ ls r'. whole (record { initial = get_or ns 0 0; states = get_or ns 2 0; transitions = ls }) r')) h rest e in
    let ns = b.first in
    let c = both (read_lines (get_or ns 1 0) b.between) (λ ls r'. whole (record { initial = get_or ns 0 0; states = get_or ns 2 0; transitions = ls }) r') h rest b.read-then in
    let w = lines-written (get_or ns 1 0) b.between c.first c.between c.read_first in
    let (held, nothing) = whole_is (record { initial = get_or ns 0 0; states = get_or ns 2 0; transitions = c.first }) h c.between rest c.read-then in
    let three : get_or ns 0 0 ∷ get_or ns 1 0 ∷ get_or ns 2 0 ∷ [] ≡ ns = three-is ns (form_numbers first_form xs ns b.between b.read_first ∙ first_numbers_lem) in
    form_written first_form xs ns b.between b.read_first
    ∙ put_together ns c.first b.between c.between h three w.as_many w.text nothing held

-- so an accepted text and what it holds determine each other: no two texts hold the same, and no text holds two things
pub text_injective : (h k : Holding) → text_of h ≡ text_of k → h ≡ k
text_injective h k e = on-got (sym (text-read h) ∙ ap read_text e ∙ text-read k)
