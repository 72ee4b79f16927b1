-- The whole text from its parts.
--
-- 1. A first line whose numbers are cut off is refused as the line itself (`first-cut`).
-- 2. A line takes an octet at least, so a text has no more lines than octets (`lines_long`), fewer than a number that is cut off; and where so many lines are off the form, so are more
--    (`more-off`). So the definition reads as many lines as the code (`lines_cut`).
-- 3. So what the code found is what the definition reads: off the form in the first line, in the lines or after them (`first_off`, `lines-off`, `end-off`), and otherwise rows in parts decide
--    (`found_refused`, `found_plan`).
-- Assumes nothing.
use Prim.Native.Nat.{ℕ, zero, suc, ◌≤◌, ◌<◌, ◌^◌}
use mathlib.Core.Bool.{Bool, true, false, not}
use mathlib.Core.List.{List, [], ◌∷◌, ◌++◌}
use mathlib.Core.Path.{◌≡◌, refl, sym, ap, ap₂, ◌∙◌}
use native.Mathlib.Omega.{arith}
use borrow.Author.Tests.{ltb-true, ltb-false, leb-true}
use lib.Dec.{ltb, leb}
use lib.ListN.{length, drop, get_or, set, replicate, length-append, length-drop}
use Rattle.text.specs.Text.{octets}
use Rattle.graph.specs.Graph.{Transition, marked}
use Rattle.aldebaran.specs.Form.{written, Reading, off, on, and_then, read_form}
use Rattle.aldebaran.specs.Text.{Holding, first_form, line_form, transition_of, read_lines, whole, read_text}
use Rattle.aldebaran.proofs.Numbers.{off_not_on}
use Rattle.aldebaran.proofs.RoundTrips.{both, form_written, lines-written}
use Rattle.scan.specs.Places.{many, cut}
use Rattle.scan.proofs.Scanning.{drop-none, drop-next}
use Rattle.rules.specs.declared.Refusal.{Refusal}
use Rattle.rules.specs.declared.Refusal.TheVariants.{StateCount, TransitionCount, StateNumber, TextForm}
use Rattle.rules.specs.Aldebaran.{plan_of, first_rows, holding_rows, text_rows, graph_in_text, import_text}
use Rattle.rules.specs.Image.{transition_rows}
use Rattle.rules.specs.Limits.{state_count_ok, transition_count_ok}
use Rattle.rules.specs.Refusal.{Result, accepted, refused}
use Rattle.rules.specs.Table.{Row, by_table, first, each, NoneHolds}
use Rattle.rules.proofs.ImportExport.{Head, head}
use Rattle.rules.proofs.Results.{not-false, and_true, and_false, refused_as}
use Rattle.rules.proofs.Tables.{tail-decides, answer-first, accepted_where, accepted_only}
use Rattle.arrays.specs.Tables.{states_of, transitions_of, graph_of}
use Rattle.text_lines.specs.Lines.{onward}
use Rattle.text_reading.specs.declared.First.{First}
use Rattle.text_reading.specs.Forms.{form_then, TellsForm, first_numbers}
use Rattle.text_reading.proofs.Reading.{number_cut}
use Rattle.imported.specs.Import.{Marked}
use Rattle.scan.proofs.Cuts.{cut_below, cut_above, leb_cut, leb_not_cut, cut-is}

-- ---- 1

cut_small : (v : ℕ) → v ≤ 2048 → cut v ≡ v
cut_small v h = cut_below v (omega (arith, h))

count_cut : (n : ℕ) → state_count_ok (cut n) ≡ state_count_ok n
count_cut n = go (ltb n many) refl
  where
    go : (b : Bool) → ltb n many ≡ b → state_count_ok (cut n) ≡ state_count_ok n
    go true e = ap state_count_ok (cut_below n (ltb-true n many e))
    go false e =
        let k = ltb-false n many e in
        let above : leb n 512 ≡ false = sym (leb_cut n 512 (omega arith)) ∙ ap (λ (x : ℕ). leb x 512) (cut_above n k) in
        ap state_count_ok (cut_above n k) ∙ sym (and_false (leb 1 n) (leb n 512) above)

pub first-cut : (initial m n : ℕ) → first (first_rows (cut initial) (cut m) (cut n)) ≡ first (first_rows initial m n)
first-cut initial m n =
    let counts : List Row = (StateCount, not (state_count_ok n)) ∷ (TransitionCount, not (transition_count_ok m)) ∷ [] in
    rw (count_cut n, leb_cut m 2048 (omega arith))
    (tail-decides counts ((StateNumber, leb (cut n) (cut initial)) ∷ []) ((StateNumber, leb n initial) ∷ [])
    (λ none. ap (λ (b : Bool). first ((StateNumber, b) ∷ [])) (same none)))
  where
    same : NoneHolds ((StateCount, not (state_count_ok n)) ∷ (TransitionCount, not (transition_count_ok m)) ∷ []) → leb (cut n) (cut initial) ≡ leb n initial
    same none =
        let small = leb-true n 512 (and_true (leb 1 n) (leb n 512) (not-false (state_count_ok n) none.0)).1 in
        ap (λ (x : ℕ). leb x (cut initial)) (cut_below n (omega (arith, small))) ∙ leb_not_cut n initial (omega (arith, small))

-- ---- 2

line-long : (xs ns rest : List ℕ) → read_form line_form xs ≡ on ns rest → length rest < length xs
unfolding octets written line_form
line-long xs ns rest e =
    let l = ap length (form_written line_form xs ns rest e) ∙ length-append (written line_form ns) rest in
    omega (arith, l)

lines_long : (m : ℕ) (xs : List ℕ) (ts : List Transition) (rest : List ℕ) → read_lines m xs ≡ on ts rest → m ≤ length xs
unfolding read_lines
lines_long zero xs ts rest e = omega arith
lines_long (suc m) xs ts rest e =
    let b = both (read_form line_form xs) (λ ns r. and_then (read_lines m r) (λ ks r'. on (transition_of ns ∷ ks) r')) ts rest e in
    let c = both (read_lines m b.between) (λ ks r'. on (transition_of b.first ∷ ks) r') ts rest b.read-then in
    omega (arith, line-long xs b.first b.between b.read_first, lines_long m b.between c.first c.between c.read_first)

more-off : (m c : ℕ) (xs : List ℕ) → m ≤ c → read_lines m xs ≡ off → read_lines c xs ≡ off
unfolding and_then read_lines
more-off zero c xs h e = absurd (off_not_on (sym e))
more-off (suc m) zero xs h e = absurd (omega (arith, h))
more-off (suc m) (suc c) xs h e = go (λ xs' q. more-off m c xs' (omega (arith, h)) q) (read_form line_form xs) e
  where
    part : (r : Reading (List Transition)) (t : Transition) → and_then r (λ ks rest. on (t ∷ ks) rest) ≡ off → r ≡ off
    part off t q = refl
    part (on ks end) t q = absurd (off_not_on (sym q))

    go : ((xs' : List ℕ) → read_lines m xs' ≡ off → read_lines c xs' ≡ off) → (r : Reading (List ℕ))
        → and_then r (λ ns xs'. and_then (read_lines m xs') (λ ks rest. on (transition_of ns ∷ ks) rest)) ≡ off
        → and_then r (λ ns xs'. and_then (read_lines c xs') (λ ks rest. on (transition_of ns ∷ ks) rest)) ≡ off
    go ih off q = refl
    go ih (on ns xs') q = rw (ih xs' (part (read_lines m xs') (transition_of ns) q)) refl

pub lines_cut : (c : ℕ) (xs : List ℕ) → length xs < 2 ^ 63 → read_lines (cut c) xs ≡ read_lines c xs
lines_cut c xs h = go (ltb c many) refl
  where
    none : (r : Reading (List Transition)) → read_lines many xs ≡ r → read_lines many xs ≡ off
    none off e = e
    none (on ts rest) e = absurd (omega (arith, h, lines_long many xs ts rest e))

    go : (b : Bool) → ltb c many ≡ b → read_lines (cut c) xs ≡ read_lines c xs
    go true e = ap (λ (x : ℕ). read_lines x xs) (cut_below c (ltb-true c many e))
    go false e =
        let k = ltb-false c many e in
        let all = none (read_lines many xs) refl in
        ap (λ (x : ℕ). read_lines x xs) (cut_above c k) ∙ all ∙ sym (more-off many c xs k all)

-- ---- 3

-- what the text holds, by the numbers of its first line and its lines
abbrev pub holding : List ℕ → List Transition → Holding
holding ns ts = record { initial = get_or ns 0 0; states = get_or ns 2 0; transitions = ts }

off-refused : (text : List ℕ) → read_text text ≡ off → import_text text ≡ refused TextForm
unfolding import_text text_rows graph_in_text
off-refused text e = rw e refl

on-decides : (text : List ℕ) (h : Holding) (rest : List ℕ) → read_text text ≡ on h rest → import_text text ≡ by_table (holding_rows h) (plan_of h)
unfolding import_text text_rows graph_in_text
on-decides text h rest e = rw e refl

pub first_off : (text : List ℕ) → read_form first_form text ≡ off → import_text text ≡ refused TextForm
unfolding and_then read_text
first_off text e = off-refused text (rw e refl)

module _ (text ns xs : List ℕ) (e : read_form first_form text ≡ on ns xs) where
  lines-off-text : read_lines (get_or ns 1 0) xs ≡ off → read_text text ≡ off
  unfolding and_then read_text
  lines-off-text l = rw (e, l) refl

  pub lines-off : read_lines (get_or ns 1 0) xs ≡ off → import_text text ≡ refused TextForm
  lines-off l = off-refused text (lines-off-text l)

  end-off-text : (ts : List Transition) (x : ℕ) (rest : List ℕ) → read_lines (get_or ns 1 0) xs ≡ on ts (x ∷ rest) → read_text text ≡ off
  unfolding and_then read_text whole
  end-off-text ts x rest l = rw (e, l) refl

  pub end-off : (ts : List Transition) (x : ℕ) (rest : List ℕ) → read_lines (get_or ns 1 0) xs ≡ on ts (x ∷ rest) → import_text text ≡ refused TextForm
  end-off ts x rest l = off-refused text (end-off-text ts x rest l)

  whole_text : (ts : List Transition) → read_lines (get_or ns 1 0) xs ≡ on ts [] → read_text text ≡ on (holding ns ts) []
  unfolding and_then read_text whole
  whole_text ts l = rw (e, l) refl

-- rows in parts
onward-first : (xs ys : List Row) → onward (first xs) ys ≡ first (xs ++ ys)
onward-first [] ys = refl
onward-first ((r, true) ∷ xs) ys = refl
onward-first ((r, false) ∷ xs) ys = onward-first xs ys

-- a first line that is not refused
pub not_refused : (initial m n : ℕ) → first (first_rows initial m n) ≡ accepted tt → Head initial m n
not_refused initial m n e = head initial m n (accepted_only (first_rows initial m n) tt tt e).0

rows_all : (initial m n : ℕ) (ts : List Transition)
    → onward (first (first_rows (cut initial) (cut m) (cut n))) (each (transition_rows (cut n)) ts) ≡ first (first_rows initial m n ++ each (transition_rows n) ts)
rows_all initial m n ts =
    ap (λ (o : Result (Unit {0})). onward o (each (transition_rows (cut n)) ts)) (first-cut initial m n) ∙ go (first (first_rows initial m n)) refl
    ∙ onward-first (first_rows initial m n) (each (transition_rows n) ts)
  where
    go : (o : Result (Unit {0})) → first (first_rows initial m n) ≡ o → onward o (each (transition_rows (cut n)) ts) ≡ onward o (each (transition_rows n) ts)
    go (refused r) p = refl
    go (accepted u) p = ap (λ (k : ℕ). first (each (transition_rows k) ts)) (cut_small n (omega (arith, not_refused initial m n p)))

-- a text on form, by the numbers of its first line cut off, and its lines
module _ (text ns xs : List ℕ) (ts : List Transition) (e : read_form first_form text ≡ on ns xs) (l : read_lines (get_or ns 1 0) xs ≡ on ts []) where
  abbrev I : ℕ
  I = get_or ns 0 0

  abbrev M : ℕ
  M = get_or ns 1 0

  abbrev N : ℕ
  N = get_or ns 2 0

  decides : import_text text ≡ by_table (holding_rows (holding ns ts)) (plan_of (holding ns ts))
  decides = on-decides text (holding ns ts) [] (whole_text text ns xs e ts l)

  same_rows : onward (first (first_rows (cut I) (cut M) (cut N))) (each (transition_rows (cut N)) ts) ≡ first (holding_rows (holding ns ts))
  unfolding holding_rows
  same_rows = rows_all I M N ts ∙ ap (λ (k : ℕ). first (first_rows I k N ++ each (transition_rows N) ts)) (sym (lines-written M xs ts [] l).as_many)

  pub found_refused : (r : Refusal) → onward (first (first_rows (cut I) (cut M) (cut N))) (each (transition_rows (cut N)) ts) ≡ refused r → import_text text ≡ refused r
  found_refused r q =
      decides ∙ refused_as (by_table (holding_rows (holding ns ts)) (plan_of (holding ns ts))) r
      (sym q ∙ same_rows ∙ sym (answer-first (holding_rows (holding ns ts)) (plan_of (holding ns ts))))

  pub found_plan : onward (first (first_rows (cut I) (cut M) (cut N))) (each (transition_rows (cut N)) ts) ≡ accepted tt → import_text text ≡ accepted (plan_of (holding ns ts))
  found_plan q =
      decides ∙ accepted_where (holding_rows (holding ns ts)) (plan_of (holding ns ts)) (accepted_only (holding_rows (holding ns ts)) tt tt (sym same_rows ∙ q)).0

-- the whole text, by the numbers that the code read from its first line
module _ (text : List ℕ) (short : length text < 2 ^ 63) (f : First) (t : TellsForm text (form_then text 0 first_form) (first_numbers f) f.next) where
  xs : List ℕ
  xs = drop f.next text

  ns : List ℕ
  ns = t.numbers

  same_lines : read_lines f.transitions xs ≡ read_lines (get_or ns 1 0) xs
  unfolding xs ns
  same_lines = ap (λ (k : ℕ). read_lines k xs) (number_cut t 1) ∙ lines_cut (get_or ns 1 0) xs (omega (arith, short, length-drop f.next text))

  pub by_lines : read_lines f.transitions (drop f.next text) ≡ off → import_text text ≡ refused TextForm
  unfolding xs ns
  by_lines e = lines-off text ns xs t.told (sym same_lines ∙ e)

  module _ (ts : List Transition) (k : ℕ) (e : read_lines f.transitions (drop f.next text) ≡ on ts (drop k text)) where
    pub by_end : k < length text → import_text text ≡ refused TextForm
    unfolding xs ns
    by_end h = end-off text ns xs t.told ts (get_or text k 0) (drop (suc k) text) (sym same_lines ∙ e ∙ ap (on ts) (drop-next text k h))

    module _ (h : length text ≤ k) (answer : Result (Unit {0})) (q : answer ≡ onward (first (first_rows f.initial f.transitions f.states)) (each (transition_rows f.states) ts)) where
      whole_lines : read_lines (get_or ns 1 0) xs ≡ on ts []
      unfolding xs ns
      whole_lines = sym same_lines ∙ e ∙ ap (on ts) (drop-none text k h)

      by_cuts : answer ≡ onward (first (first_rows (cut (get_or ns 0 0)) (cut (get_or ns 1 0)) (cut (get_or ns 2 0)))) (each (transition_rows (cut (get_or ns 2 0))) ts)
      unfolding ns
      by_cuts = rw (← number_cut t 0, ← number_cut t 1, ← number_cut t 2) q

      pub by_rows : (r : Refusal) → answer ≡ refused r → import_text text ≡ refused r
      unfolding xs ns
      by_rows r a = found_refused text ns xs ts t.told whole_lines r (sym by_cuts ∙ a)

      pub by_plan : answer ≡ accepted tt → Head f.initial f.transitions f.states → (marks teams from to low high : List ℕ) → Marked f.states f.initial marks teams
          → transitions_of f.transitions from to low high ≡ ts → accepted (graph_of f.states f.transitions marks teams from to low high) ≡ import_text text
      unfolding xs ns plan_of
      by_plan a d marks teams from to low high s l =
          let n : f.states ≡ get_or ns 2 0 = number_cut t 2 ∙ cut-is (get_or ns 2 0) (omega (arith, d.most, number_cut t 2)) in
          let i : f.initial ≡ get_or ns 0 0 = number_cut t 0 ∙ cut-is (get_or ns 0 0) (omega (arith, d.most, d.inside, number_cut t 0)) in
          let states : states_of f.states marks teams ≡ set (replicate (get_or ns 2 0) (marked 0)) (get_or ns 0 0) (marked 4) =
          s.states ∙ ap₂ (λ (x y : ℕ). set (replicate x (marked 0)) y (marked 4)) n i in
          (λ j. accepted (record { state_list = states j; transitions = l j })) ∙ sym (found_plan text ns xs ts t.told whole_lines (sym by_cuts ∙ a))
