-- Which end was wrong, of whatever keeps the promises: a transition that is wrong so is refused by that number among its rows (`wrong_first`), and those decide in join, in
-- read from the first transition on that is wrong, and in import from the first line on. 7 is on no list of join's or read's numbers (rules/proofs/Grounds.antt). Then what
-- meets the premises, and an impostor: a read that answers 7 for a bad from. Assumes nothing.
use mathlib.Core.Bool.{true, true≢false}
use mathlib.Core.List.{List, [], ◌∷◌, ◌++◌}
use mathlib.Core.Path.{◌≡◌, refl, sym, ap, ◌∙◌}
use Prim.Native.Nat.{ℕ, ◌≤◌}
use borrow.Author.Tests.{le-leb, lt-leb}
use native.Mathlib.Omega.{arith}
use lib.Dec.{leb, lit<}
use lib.ListN.{length}
use Rattle.aldebaran.specs.Form.{and_then, read_word, is_digit, front, is_numeral, read_number, read_form}
use Rattle.aldebaran.specs.Text.{Holding, first_form, line_form, read_lines, whole, read_text}
use Rattle.text.specs.Text.{octets as textOctets, value_after, value}
use Rattle.field.specs.Field.{pack, octets_of, bits, bits_of, bits_of_all, width_of_all, number, field_at}
use Rattle.graph.specs.Graph.{Transition, states, count}
use Rattle.graph.specs.Known.{plan, join as to-join}
use Rattle.std.proofs.Common.{Err}
use Rattle.rules.specs.declared.Refusal.{Refusal}
use Rattle.rules.specs.declared.Refusal.TheVariants.{StateNumber, ListFull, FromState}
use Rattle.rules.specs.Aldebaran.{first_rows, holding_rows, text_rows}
use Rattle.rules.specs.Calls.{Call, join, read, import, rows_of, step}
use Rattle.rules.specs.Image.{image, image_by, image_fields, fields_of_each, header_rows, state_rows, transition_rows, state_count_of}
use Rattle.rules.specs.Limits.{within}
use Rattle.rules.specs.Refusal.{refused, answer_of, said, code}
use Rattle.rules.specs.Table.{by_number, each, first, Holds, NoneHolds}
use Rattle.rules.proofs.Basic.{read_given}
use Rattle.rules.proofs.Grounds.{holds_among, join_numbers, join_among, image_numbers, read_among, import_7}
use Rattle.rules.proofs.Results.{refused_as}
use Rattle.rules.proofs.Tables.{only_grounds, after_none, after-refused, none-append}
use Rattle.taken.specs.Taken.{refuses}
use Rattle.taken.proofs.Taken.{refuses-none, transition_taken}
use Rattle.plan.specs.declared.Edited.{Edited}
use Rattle.arrays.specs.declared.Plan.{Plan}
use Rattle.plan.specs.View.{view}
use Rattle.demands.specs.Calculator.{Calculator, Promises}
use Rattle.demands.specs.WhichEnd.{Wrong, bad_from, bad-to, bad-durations, transition_in, RightTo, RightToLine, WhichEnd}
use Rattle.demands.proofs.Said.{refused-answer, by_first, refused_by}

-- ---- the rows of a transition, and of lines

wrong_first : (n : ℕ) (t : Transition) (r : Refusal) → Wrong n t r → first (transition_rows n t) ≡ refused r
wrong_first n t r (bad_from h) = rw (le-leb n t.from h)
wrong_first n t r (bad-to h k) = rw (lt-leb n t.from h, le-leb n t.to k)
wrong_first n t r (bad-durations h k d) = rw (lt-leb n t.from h, lt-leb n t.to k, d)

-- the rows of lines, of which those before t do not hold and t's do
line-decides : (n : ℕ) (t : Transition) (r : Refusal) (earlier later : List Transition) → NoneHolds (each (transition_rows n) earlier)
    → first (transition_rows n t) ≡ refused r → first (each (transition_rows n) (earlier ++ (t ∷ later))) ≡ refused r
unfolding each
line-decides n t r [] later none e = after-refused (transition_rows n t) (each (transition_rows n) later) tt r e
line-decides n t r (u ∷ earlier) later none e =
    let (here, rest) = none-append (transition_rows n u) (each (transition_rows n) earlier) none in
    after_none (transition_rows n u) (each (transition_rows n) (earlier ++ (t ∷ later))) tt here ∙ line-decides n t r earlier later rest e

-- ---- the record

module _ (c : Calculator) (keeps : Promises c) where
  read-refused : {p : Plan} {octets : List ℕ} {e : Edited} (i : ℕ) (r : Refusal) → within (view p) ≡ true → RightTo octets i
      → Wrong (state_count_of octets) (transition_in octets i) r → c.edits p (read octets) e → e.answer ≡ Err r
  read-refused {p} {octets} {e} i r w right wrong x =
      let at = (transition_taken octets i r (record {
        header = right.header;
        states = right.states;
        transition = record { before = right.before; listed = right.listed; here = wrong_first (state_count_of octets) (transition_in octets i) r wrong };
      })).0 in
      refused-answer e.answer r ((keeps.edits x).answer ∙ ap answer_of (read_given (view p) octets w ∙ at))

  import-refused : {p : Plan} {text : List ℕ} {e : Edited} (h : Holding) (t : Transition) (r : Refusal) → within (view p) ≡ true → RightToLine text h t
      → Wrong h.states t r → c.edits p (import text) e → e.answer ≡ Err r
  unfolding text_rows holding_rows
  import-refused {p} {text} h t r w right wrong x =
      let lines : first (each (transition_rows h.states) h.transitions) ≡ refused r =
      rw right.line (line-decides h.states t r right.earlier right.later right.before (wrong_first h.states t r wrong)) in
      refused_by c keeps r x
      (rw (w, right.on_form) (after_none (first_rows h.initial (length h.transitions) h.states) (each (transition_rows h.states) h.transitions) tt right.first-line ∙ lines))

  -- a row of the number that was answered holds
  held : {p : Plan} {call : Call} {e : Edited} → c.edits p call e → e.answer ≡ Err StateNumber → Holds StateNumber (rows_of (view p) call)
  held {p} {call} x a = only_grounds (rows_of (view p) call) tt StateNumber (sym (by_first c keeps x) ∙ ap said a)

  pub which-end : WhichEnd c
  unfolding text_rows holding_rows
  which-end = record {
    in_join = λ {p} {t} {r} w wrong x.
        refused_by c keeps r x
        (rw w (after-refused (transition_rows (states (view p)) t) ((ListFull, leb 2048 (count (view p))) ∷ []) tt r (wrong_first (states (view p)) t r wrong)));
    in_read = λ {p} {octets} {r} i w right wrong x. read-refused i r w right wrong x;
    in_import = λ {p} {text} {r} h t w right wrong x. import-refused h t r w right wrong x;
    in_mark = λ {p} state value w h x. refused_by c keeps StateNumber x (rw (w, le-leb (states (view p)) state h));
    initial-state = λ h w on_form n_ok m-ok l x. refused_by c keeps StateNumber x (rw (w, on_form, n_ok, m-ok, le-leb h.states h.initial l));
    join_not_7 = λ {p} {t} x a. true≢false (sym (holds_among (0 ∷ join_numbers) (rows_of (view p) (join t)) StateNumber (join_among (view p) t) (held x a)));
    read_not_7 = λ {p} {octets} x a.
        true≢false (sym (holds_among (0 ∷ image_numbers) (rows_of (view p) (read octets)) StateNumber (read_among (view p) octets) (held x a)));
    import_only_7 = λ {p} {text} x a.
        import_7 (view p) text (refused_as (step (view p) (import text)) StateNumber (sym (ap said a) ∙ (keeps.edits x).answer));
  }

-- ---- what meets the premises, and what breaks the record

-- an image of two states and two transitions, the second with a from of 2
abbrev pub bad-second : List ℕ
bad-second = image (plan (4 ∷ 2 ∷ []) (to-join 0 1 5 20 ∷ to-join 2 1 5 20 ∷ []))

pub right-to-second : RightTo bad-second 1
unfolding header_rows by_number refuses image_by image_fields fields_of_each pack octets_of bits_of bits_of_all width_of_all number field_at bits
right-to-second = record {
  header = refuses-none (header_rows bad-second) refl;
  states = refuses-none (by_number (state_rows bad-second) 0 2) refl;
  before = refuses-none (by_number (λ k. transition_rows 2 (transition_in bad-second k)) 0 1) refl;
  listed = lit< tt;
}

pub wrong_second : Wrong (state_count_of bad-second) (transition_in bad-second 1) FromState
unfolding image_by image_fields fields_of_each pack octets_of bits_of bits_of_all width_of_all number field_at bits
wrong_second = bad_from (let h : 2 ≤ 2 = omega arith in h)

-- and a text with such a line
abbrev pub bad-line : List ℕ
bad-line = textOctets "des (0, 1, 2)\n(2, \"5..20\", 1)\n"

pub right-to-line : RightToLine bad-line (record { initial = 0; states = 2; transitions = to-join 2 1 5 20 ∷ [] }) (to-join 2 1 5 20)
unfolding textOctets value_after value and_then read_word is_digit front is_numeral read_number read_form first_form line_form read_lines whole read_text each
right-to-line = record { rest = []; on_form = refl; first-line = (refl, (refl, (refl, tt))); earlier = []; later = []; line = refl; before = tt }

-- one that answers 7 for a bad from
pub answers_7 : (c : Calculator) → WhichEnd c → {p : Plan} {e : Edited} → within (view p) ≡ true → c.edits p (read bad-second) e → e.answer ≡ Err StateNumber → ⊥
answers_7 c d w x a = let z : ◌≡◌ {A = ℕ} 7 16 = ap (λ v. code (said v)) (sym a ∙ d.in_read 1 w right-to-second wrong_second x) in omega arith
