-- Lines, one after another.
--
-- 1. Rows in parts: those of a line after those of the lines before it are answered as all of them together (`onward-more`).
-- 2. A number that is cut off is tested as the number itself: below a count of at most 512, and against the longest duration (`rows_cut`). Where no row of a line holds, none of its
--    numbers was cut off (`not_cut`).
-- 3. What is kept while lines are read (`Kept`): the lines so far are the front of all that the definition reads from the first place, and the answer and the arrays are theirs. It holds of no
--    lines (`kept-none`); a line that is off the form makes all of it so (`kept_off`); it holds of one line more (`kept_more`); and of all lines it is the promise (`kept-all`).
-- Assumes nothing.
use Prim.Native.Nat.{ℕ, zero, suc, ◌+◌, ◌-◌, ◌≤◌, ◌<◌}
use mathlib.Core.Bool.{Bool, true, false, ◌&&◌}
use mathlib.Core.List.{List, [], ◌∷◌, ◌++◌, append-nil, append_assoc}
use mathlib.Core.Path.{◌≡◌, refl, sym, ap, ap₂, ◌∙◌}
use native.Mathlib.Omega.{arith}
use borrow.Author.Tests.{leb-true}
use lib.Dec.{leb}
use lib.ListN.{length, drop, length-append}
use Rattle.graph.specs.Graph.{Transition}
use Rattle.aldebaran.specs.Form.{Reading, off, on, and_then, read_form}
use Rattle.aldebaran.specs.Text.{line_form, transition_of, read_lines}
use Rattle.scan.specs.Places.{cut}
use Rattle.rules.specs.Answer.{Accepted, Answer}
use Rattle.std.proofs.Common.{Ok, Err}
use Rattle.rules.specs.Image.{tabulate, transition_rows}
use Rattle.rules.specs.Limits.{durations_ok}
use Rattle.rules.specs.Refusal.{Result, accepted, refused, said}
use Rattle.rules.specs.Table.{Row, first, each}
use Rattle.scan.proofs.Cuts.{cut_below, cut-is, leb_cut, leb_not_cut}
use Rattle.rules.proofs.Results.{never, and_false, accepted-answer}
use Rattle.rules.proofs.ReadWrite.{bounded, rows_ok}
use Rattle.rules.proofs.Tables.{accepted_only}
use Rattle.arrays.specs.Tables.{transition, transitions_of, transition_of as transition_at, Fields}
use Rattle.arrays.proofs.Lists.{tabulate-more, transition-other, transition-here, same-transition}
use Rattle.text_reading.specs.declared.Line.{Line}
use Rattle.text_reading.specs.Forms.{form_then, TellsForm, line_numbers}
use Rattle.text_reading.proofs.Reading.{number_cut}
use Rattle.text_lines.specs.Lines.{meant, Room, onward, Added, Lists}

-- ---- 1

onward-none : (o : Result (Unit {0})) → onward o [] ≡ o
onward-none (accepted u) = refl
onward-none (refused r) = refl

onward-onward : (o : Result (Unit {0})) (xs ys : List Row) → onward (onward o xs) ys ≡ onward o (xs ++ ys)
onward-onward (refused r) xs ys = refl
onward-onward (accepted u) [] ys = refl
onward-onward (accepted u) ((r, true) ∷ xs) ys = refl
onward-onward (accepted u) ((r, false) ∷ xs) ys = onward-onward (accepted u) xs ys

each_more : {A : Type 0} (rows : A → List Row) (xs : List A) (x : A) → each rows (xs ++ (x ∷ [])) ≡ each rows xs ++ rows x
unfolding each
each_more rows [] x = append-nil (rows x)
each_more rows (y ∷ xs) x = ap (λ (l : List Row). rows y ++ l) (each_more rows xs x) ∙ sym (append_assoc (rows y) (each rows xs) (rows x))

pub onward-more : {A : Type 0} (o : Result (Unit {0})) (rows : A → List Row) (xs : List A) (x : A)
    → onward (onward o (each rows xs)) (rows x) ≡ onward o (each rows (xs ++ (x ∷ [])))
onward-more o rows xs x = onward-onward o (each rows xs) (rows x) ∙ ap (onward o) (sym (each_more rows xs x))

-- only after accepted ones is anything accepted
pub onward-accepted : (o : Result (Unit {0})) (rows : List Row) → onward o rows ≡ accepted tt → (o ≡ accepted tt) × (first rows ≡ accepted tt)
onward-accepted (accepted u) rows e = (refl, e)
onward-accepted (refused r) rows e = absurd (never tt r e)

-- ---- 2

-- the transition of numbers that are cut off
abbrev pub cut_all : Transition → Transition
cut_all t = transition (cut t.from) (cut t.to) (cut t.low) (cut t.high)

durations-cut : (t : Transition) → durations_ok (cut_all t) ≡ durations_ok t
durations-cut t = go (leb t.high 2047) refl
  where
    same : leb (cut t.high) 2047 ≡ leb t.high 2047
    same = leb_cut t.high 2047 (omega arith)

    go : (b : Bool) → leb t.high 2047 ≡ b → durations_ok (cut_all t) ≡ durations_ok t
    go true e =
        let h = leb-true t.high 2047 e in
        ap₂ ◌&&◌ (ap (leb (cut t.low)) (cut_below t.high (omega arith)) ∙ leb_cut t.low t.high (omega arith)) same
    go false e =
        and_false (leb (cut t.low) (cut t.high)) (leb (cut t.high) 2047) (same ∙ e) ∙ sym (and_false (leb t.low t.high) (leb t.high 2047) e)

pub rows_cut : (n : ℕ) (t : Transition) → n ≤ 512 → transition_rows n (cut_all t) ≡ transition_rows n t
rows_cut n t h =
    rw (leb_not_cut n t.from (omega arith), leb_not_cut n t.to (omega arith), durations-cut t) refl

pub not_cut : (n : ℕ) (t : Transition) → n ≤ 512 → first (transition_rows n (cut_all t)) ≡ accepted tt → cut_all t ≡ t
not_cut n t h e =
    let b = bounded n (cut_all t) (rows_ok n (cut_all t) (accepted_only (transition_rows n (cut_all t)) tt tt e).0) in
    same-transition (cut-is t.from (omega (arith, b.from))) (cut-is t.to (omega (arith, b.to))) (cut-is t.low (omega (arith, b.low, b.high)))
    (cut-is t.high (omega (arith, b.high)))

-- ---- 3

-- the transition of a line that was read
told_means : (text : List ℕ) (at : ℕ) (l : Line) (t : TellsForm text (form_then text at line_form) (line_numbers l) l.next) → meant l ≡ cut_all (transition_of t.numbers)
told_means text at l t = same-transition (number_cut t 0) (number_cut t 3) (number_cut t 1) (number_cut t 2)

-- lines that were read, and those that follow
abbrev after : List Transition → Reading (List Transition) → Reading (List Transition)
after ts r = and_then r (λ ks rest. on (ts ++ ks) rest)

after_none : (r : Reading (List Transition)) → after [] r ≡ r
unfolding and_then
after_none off = refl
after_none (on ks rest) = refl

after_more : (ts : List Transition) (t : Transition) (r : Reading (List Transition))
    → after ts (and_then r (λ ks rest. on (t ∷ ks) rest)) ≡ after (ts ++ (t ∷ [])) r
unfolding and_then
after_more ts t off = refl
after_more ts t (on ks rest) = ap (λ (l : List Transition). on l rest) (sym (append_assoc ts (t ∷ []) ks))

line-off : (ts : List Transition) (k : ℕ) (xs : List ℕ) → read_form line_form xs ≡ off → after ts (read_lines (suc k) xs) ≡ off
unfolding and_then read_lines
line-off ts k xs e = rw e refl

line_on : (k : ℕ) (xs ns rest : List ℕ) → read_form line_form xs ≡ on ns rest
    → read_lines (suc k) xs ≡ and_then (read_lines k rest) (λ ks rest'. on (transition_of ns ∷ ks) rest')
unfolding and_then read_lines
line_on k xs ns rest e = rw e refl

no_line : (xs : List ℕ) → read_lines zero xs ≡ on [] xs
unfolding read_lines
no_line xs = refl

module _ (text : List ℕ) (at n m : ℕ) (a₀ : Answer) where
  pub record Kept (answer : Answer) (next i : ℕ) (f : Fields) : Type 0 where
    pub transitions : List Transition
    pub number_of : length transitions ≡ i
    pub inside : next ≤ length text
    pub front : read_lines m (drop at text) ≡ after transitions (read_lines (m - i) (drop next text))
    pub answered : said answer ≡ onward (said a₀) (each (transition_rows n) transitions)
    pub held : answer ≡ Accepted → transitions_of i f.from f.to f.low f.high ≡ transitions
    pub room : Room f

  pub kept-none : (f : Fields) → at ≤ length text → Room f → Kept a₀ at 0 f
  unfolding each tabulate
  kept-none f h r = let whole : m - 0 ≡ m = omega arith in record {
    transitions = [];
    number_of = refl;
    inside = h;
    front = sym (ap (λ (x : ℕ). after [] (read_lines x (drop at text))) whole ∙ after_none (read_lines m (drop at text)));
    answered = sym (onward-none (said a₀));
    held = λ e. refl;
    room = r;
  }

  module _ (answer : Answer) (next i : ℕ) (f : Fields) (k : Kept answer next i f) where
    left : i < m → m - i ≡ suc (m - (i + 1))
    left h = omega arith

    pub kept_off : i < m → read_form line_form (drop next text) ≡ off → read_lines m (drop at text) ≡ off
    kept_off h e =
        k.front ∙ ap (λ (x : ℕ). after k.transitions (read_lines x (drop next text))) (left h)
        ∙ line-off k.transitions (m - (i + 1)) (drop next text) e

    -- an answer that is accepted so far is after an accepted first line
    pub so_far : answer ≡ Accepted → a₀ ≡ Accepted
    so_far e = accepted-answer a₀ (onward-accepted (said a₀) (each (transition_rows n) k.transitions) (sym k.answered ∙ ap said e)).0

    module _ (l : Line) (t : TellsForm text (form_then text next line_form) (line_numbers l) l.next) (small : a₀ ≡ Accepted → (n ≤ 512) × (m ≤ 2048)) (h : i < m) (r : Answer) (f' : Fields)
        (a : Added n i (meant l) answer f f' r) where
      this : Transition
      this = transition_of t.numbers

      means : meant l ≡ cut_all (transition_of t.numbers)
      means = told_means text next l t

      all : List Transition
      all = k.transitions ++ (this ∷ [])

      -- the rows of the numbers that were cut off answer as those of the numbers
      rows : onward (said answer) (transition_rows n (meant l)) ≡ onward (said answer) (transition_rows n this)
      unfolding this
      rows = go answer refl
        where
          go : (x : Answer) → answer ≡ x → onward (said x) (transition_rows n (meant l)) ≡ onward (said x) (transition_rows n this)
          go (Ok _) e = ap first (ap (transition_rows n) (means) ∙ rows_cut n this (small (so_far e)).0)
          go (Err q) e = refl

      more-held : r ≡ Accepted → transitions_of (i + 1) f'.from f'.to f'.low f'.high ≡ all
      unfolding this all
      more-held e =
          let (was, clear) = onward-accepted (said answer) (transition_rows n (meant l)) (sym a.rows ∙ ap said e) in
          let accepted-before : answer ≡ Accepted = accepted-answer answer was in
          let whole : cut_all this ≡ this = not_cut n this (small (so_far accepted-before)).0 (ap (λ (x : Transition). first (transition_rows n x)) (sym (means)) ∙ clear) in
          let room = k.room in
          let small-i : i < 2048 = omega (arith, h, (small (so_far accepted-before)).1) in
          ap (λ (g : Fields). transitions_of (i + 1) g.from g.to g.low g.high) (a.put e)
          ∙ tabulate-more i (transition_at f.from f.to f.low f.high) _ this
          (λ j b. transition-other f.from f.to f.low f.high i l.from l.to l.low l.high j (λ q. omega (arith, b, q)))
          (transition-here f.from f.to f.low f.high i l.from l.to l.low l.high (omega (arith, room, small-i)) (omega (arith, room, small-i)) (omega (arith, room, small-i)) (omega (arith, room, small-i)) ∙ means ∙ whole)
          ∙ ap (λ (ts : List Transition). ts ++ (this ∷ [])) (k.held accepted-before)

      pub kept_more : Kept r l.next (i + 1) f'
      unfolding this all
      kept_more = record {
        transitions = all;
        number_of = length-append k.transitions (this ∷ []) ∙ ap (λ (x : ℕ). x + 1) k.number_of;
        inside = t.inside;
        front =
            k.front ∙ ap (λ (x : ℕ). after k.transitions (read_lines x (drop next text))) (left h)
            ∙ ap (after k.transitions) (line_on (m - (i + 1)) (drop next text) t.numbers (drop l.next text) t.told)
            ∙ after_more k.transitions this (read_lines (m - (i + 1)) (drop l.next text));
        answered =
            a.rows ∙ rows ∙ ap (λ (o : Result (Unit {0})). onward o (transition_rows n this)) k.answered
            ∙ onward-more (said a₀) (transition_rows n) k.transitions this;
        held = more-held;
        room = a.room;
      }

    -- all of them
    pub kept-all : i ≡ m → Lists text (read_lines m (drop at text)) n m a₀ f (record { answer = answer; next = next })
    unfolding and_then
    kept-all e = record {
      inside = k.inside;
      transitions = k.transitions;
      all =
          k.front ∙ ap (λ (x : ℕ). after k.transitions (read_lines x (drop next text))) none ∙ ap (after k.transitions) (no_line (drop next text))
          ∙ ap (λ (ts : List Transition). on ts (drop next text)) (append-nil k.transitions);
      answered = k.answered;
      held = λ ok. ap (λ (x : ℕ). transitions_of x f.from f.to f.low f.high) (sym e) ∙ k.held ok;
    }
      where
        none : m - i ≡ 0
        none = omega (arith, e)
