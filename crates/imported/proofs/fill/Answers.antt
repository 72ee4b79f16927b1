-- `imported::fill`: the first line, its lines and the end of the text are looked at in turn, and each way to end is one of proofs/Importing.antt. Assumes nothing.
use Prim.Native.Nat.{◌<◌, ◌^◌}
use mathlib.Core.Path.{◌≡◌, sym, ap, ◌∙◌}
use native.Mathlib.Omega.{arith}
use borrow.Author.Rules.{rules}
use lib.ListN.{length, drop}
use Rattle.std.specs.Option.{ok_or}
use Rattle.std.proofs.Common.{Option, Some, None, Err}
use Rattle.std.proofs.lemmas.Result.{err_from_is_err_and}
use Rattle.aldebaran.specs.Text.{first_form, read_lines}
use Rattle.rules.specs.Aldebaran.{first_rows}
use Rattle.rules.specs.declared.Refusal.{Refusal}
use Rattle.rules.specs.declared.Refusal.TheVariants.{TextForm}
use Rattle.rules.specs.Image.{transition_rows}
use Rattle.rules.specs.Refusal.{Result, said}
use Rattle.rules.specs.Table.{first, each}
use Rattle.arrays.specs.Tables.{fields}
use Rattle.text_lines.specs.Lines.{onward, Lists}
use Rattle.text_lines.proofs.Listing.{onward-accepted}
use Rattle.text_reading.specs.Forms.{form_then, TellsForm, first_numbers}
use Rattle.imported.proofs.Importing.{not_refused, first_off, by_lines, by_end, by_rows, by_plan}
use Rattle.imported.proofs.fill.Goals as goal
use Rattle.imported.proofs.fill.Goals.{In_ok-heading, In_ok-listed}

-- what `ok_or` makes of none
form_refused : {T : Type 0} (o : Option T) (r : Refusal) → o ≡ None → Err r ≡ ok_or o TextForm → r ≡ TextForm
form_refused o r none e = let e : Err r ≡ ok_or None TextForm = rw none at e in grind arith

-- the first line
told : (c : In_ok-heading) → TellsForm c.args.text.now (form_then c.args.text.now 0 first_form) (first_numbers c.in_ok-heading.heading) c.in_ok-heading.heading.next
told c =
    let some : c.read_first.result ≡ Some c.in_ok-heading.heading = c.in_ok-heading.ensures.ok_part in
    rw some at c.read_first.ensures

short : (c : In_ok-heading) → length c.args.text.now < 2 ^ 63
short c = search rules

-- its lines
read : (c : In_ok-listed) → Lists c.args.text.now (read_lines c.in_ok-heading.heading.transitions (drop c.in_ok-heading.heading.next c.args.text.now)) c.in_ok-heading.heading.states c.in_ok-heading.heading.transitions c.first_grounds-grounds.result (fields c.lines-lines.new.from c.lines-lines.new.to c.lines-lines.new.low c.lines-lines.new.high) c.in_ok-listed.listed
read c =
    let some : c.lines-lines.result ≡ Some c.in_ok-listed.listed = c.in_ok-listed.ensures.ok_part in
    rw some at c.lines-lines.ensures.0

-- the answer of all rows
answered : (c : In_ok-listed) → said c.in_ok-listed.listed.answer ≡ onward (first (first_rows c.in_ok-heading.heading.initial c.in_ok-heading.heading.transitions c.in_ok-heading.heading.states)) (each (transition_rows c.in_ok-heading.heading.states) (read c).transitions)
answered c =
    let r = c.in_ok-heading.heading in
    (read c).answered ∙ ap (λ (o : Result (Unit {0})). onward o (each (transition_rows r.states) (read c).transitions)) c.first_grounds-grounds.ensures

pub returns-in_err-heading : goal.returns-in_err-heading
returns-in_err-heading c =
    let none : c.read_first.result ≡ None = c.in_err-heading.ensures.ok_part in
    let p = err_from_is_err_and c.from_residual.result c.from_residual.ensures.1 in
    rw (p.1, p.2, form_refused c.read_first.result _ none c.in_err-heading.ensures.value) (record {
      rule = sym (first_off c.args.text.now (rw none at c.read_first.ensures));
      counts = tt;
      room = c.requires;
    })

pub returns-in_err-listed : goal.returns-in_err-listed
returns-in_err-listed c =
    let at = (goal.at.returns-in_err-listed c).In_ok-heading in
    let none : c.lines-lines.result ≡ None = c.in_err-listed.ensures.ok_part in
    let p = err_from_is_err_and c.from_residual-in_err-listed.result c.from_residual-in_err-listed.ensures.1 in
    rw (p.1, p.2, form_refused c.lines-lines.result _ none c.in_err-listed.ensures.value) (record {
      rule = sym (by_lines c.args.text.now (short at) c.in_ok-heading.heading (told at) (rw none at c.lines-lines.ensures.0));
      counts = tt;
      room = (c.requires.0, c.requires.1, c.lines-lines.ensures.1);
    })

pub returns-then-end-text : goal.returns-then-end-text
returns-then-end-text c =
    let at = (goal.at.returns-then-end-text c).In_ok-heading in
    let d = read (goal.at.returns-then-end-text c).In_ok-listed in
    record {
      rule = sym (by_end c.args.text.now (short at) c.in_ok-heading.heading (told at) d.transitions c.in_ok-listed.listed.next d.all (omega (arith, c.if-end-text.true)));
      counts = tt;
      room = (c.requires.0, c.requires.1, c.lines-lines.ensures.1);
    }

pub returns-in_err-listed-2 : goal.returns-in_err-listed-2
returns-in_err-listed-2 c =
    let at = (goal.at.returns-in_err-listed-2 c).In_ok-heading in
    let lines = (goal.at.returns-in_err-listed-2 c).In_ok-listed in
    let d = read lines in
    let l = c.in_ok-listed.listed in
    let p = err_from_is_err_and c.from_residual-in_err-listed-2.result c.from_residual-in_err-listed-2.ensures.1 in
    rw (p.1, p.2) (record {
      rule = sym (by_rows c.args.text.now (short at) c.in_ok-heading.heading (told at) d.transitions l.next d.all (omega (arith, c.if-end-text.false)) (said l.answer) (answered lines) _ (ap said c.in_err-listed-2.was));
      counts = tt;
      room = (c.requires.0, c.requires.1, c.lines-lines.ensures.1);
    })

pub returns : goal.returns
returns c =
    let at = (goal.at.returns c).In_ok-heading in
    let lines = (goal.at.returns c).In_ok-listed in
    let r = c.in_ok-heading.heading in
    let d = read lines in
    let l = c.in_ok-listed.listed in
    let ok = c.in_ok-listed-2.was in
    let h = (not_refused r.initial r.transitions r.states (onward-accepted _ _ (sym (answered lines) ∙ ap said ok)).0) in
    let n = c.lines-lines.new in
    record {
      rule = by_plan c.args.text.now (short at) r (told at) d.transitions l.next d.all (omega (arith, c.if-end-text.false)) (said l.answer) (answered lines)
          (ap said ok) h _ _ n.from n.to n.low n.high c.mark_initial.ensures (d.held ok);
      counts = (h.most, h.lines);
      room = (c.mark_initial.ensures.room, c.mark_initial.ensures.teams_room, c.lines-lines.ensures.1);
    }
