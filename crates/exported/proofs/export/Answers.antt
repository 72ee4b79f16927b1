-- `exported::export`: three rows, in the rule's order, and then the text put at the front. Assumes nothing.
use mathlib.Core.Bool.{true, false}
use mathlib.Core.List.{◌++◌}
use mathlib.Core.Path.{◌≡◌, sym, ap, ◌∙◌}
use native.Mathlib.Omega.{arith}
use borrow.Author.Tests.{eq-eqb, ne_eqb, lt-ltb, le-ltb}
use lib.Dec.{eqb, ltb}
use lib.ListN.{length, drop}
use Rattle.rules.specs.Aldebaran.{starts, export_text, export_rule}
use Rattle.rules.specs.Limits.{within}
use Rattle.rules.specs.Refusal.{accepted}
use Rattle.rules.proofs.ReadWrite.{Limited, limited}
use Rattle.aldebaran.specs.Text.{text_of}
use Rattle.arrays.specs.Tables.{graph_in_arrays, transitions_of}
use Rattle.arrays.proofs.Lists.{states_of_lem, count_of}
use Rattle.text_length.specs.Parts.{holding}
use Rattle.exported.proofs.Exporting.{counted, text-here, put_front}
use Rattle.exported.proofs.export.Goals as goal
use Rattle.exported.proofs.export.Goals.{After-count-starts, After-length-length, Else-count-ne1, Else-not-limited}

-- past the first test the plan is within the limits
sound : (c : Else-not-limited) → within (graph_in_arrays c.args.p.now) ≡ true
sound c = sym c.in_limits-limited.ensures ∙ c.if-not-limited.false

limits : (c : Else-not-limited) → Limited (graph_in_arrays c.args.p.now)
limits c = limited (graph_in_arrays c.args.p.now) (sound c)

-- its starts are counted, and past the second test there is one, which is the text's initial state
counted-here : (c : After-count-starts) → length (starts (graph_in_arrays c.args.p.now)) ≡ c.count-starts.result.count
counted-here c =
    let a = c.args in
    counted a.p.now.states a.p.now.transitions a.p.now.marks a.p.now.teams a.p.now.from a.p.now.to a.p.now.low a.p.now.high _ _ c.count-starts.ensures

one : (c : Else-count-ne1) → eqb (length (starts (graph_in_arrays c.args.p.now))) 1 ≡ true
one c = eq-eqb (length (starts (graph_in_arrays c.args.p.now))) 1 (omega (arith, c.if-count-ne1.false, counted c.args.p.now.states c.args.p.now.transitions c.args.p.now.marks c.args.p.now.teams c.args.p.now.from c.args.p.now.to c.args.p.now.low c.args.p.now.high _ _ c.count-starts.ensures))

text-is : (c : Else-count-ne1)
    → export_text (graph_in_arrays c.args.p.now) ≡ text_of (holding c.count-starts.result.last c.args.p.now.states (transitions_of c.args.p.now.transitions c.args.p.now.from c.args.p.now.to c.args.p.now.low c.args.p.now.high))
text-is c =
    let a = c.args in
    text-here a.p.now.states a.p.now.transitions a.p.now.marks a.p.now.teams a.p.now.from a.p.now.to a.p.now.low a.p.now.high _ _ c.count-starts.ensures (omega (arith, c.if-count-ne1.false))

-- and its length was computed
sized : (c : After-length-length) → length (export_text (graph_in_arrays c.args.p.now)) ≡ c.length-length.result
sized c = ap length (text-here c.args.p.now.states c.args.p.now.transitions c.args.p.now.marks c.args.p.now.teams c.args.p.now.from c.args.p.now.to c.args.p.now.low c.args.p.now.high _ _ c.count-starts.ensures (omega (arith, c.if-count-ne1.false))) ∙ sym c.length-length.ensures

pub returns-then-not-limited : goal.returns-then-not-limited
unfolding export_rule
returns-then-not-limited c =
    let w : within (graph_in_arrays c.args.p.now) ≡ false = sym c.in_limits-limited.ensures ∙ c.if-not-limited.true in
    record { answer = rw w; buffer = rw w }

pub count-starts-requires : goal.count-starts-requires
count-starts-requires c = omega (arith, limits (goal.at.count-starts-requires c).Else-not-limited, states_of_lem c.args.p.now.states c.args.p.now.transitions c.args.p.now.marks c.args.p.now.teams c.args.p.now.from c.args.p.now.to c.args.p.now.low c.args.p.now.high)

pub returns-then-count-ne1 : goal.returns-then-count-ne1
unfolding export_rule
returns-then-count-ne1 c =
    let k : eqb (length (starts (graph_in_arrays c.args.p.now))) 1 ≡ false = ne_eqb (length (starts (graph_in_arrays c.args.p.now))) 1 (λ e. omega (arith, c.if-count-ne1.true, counted-here (goal.at.returns-then-count-ne1 c).After-count-starts)) in
    record { answer = rw (sound (goal.at.returns-then-count-ne1 c).Else-not-limited, k); buffer = rw (sound (goal.at.returns-then-count-ne1 c).Else-not-limited, k) }

pub length-length-requires : goal.length-length-requires
length-length-requires c = omega (arith, limits (goal.at.length-length-requires c).Else-not-limited, states_of_lem c.args.p.now.states c.args.p.now.transitions c.args.p.now.marks c.args.p.now.teams c.args.p.now.from c.args.p.now.to c.args.p.now.low c.args.p.now.high, count_of c.args.p.now.states c.args.p.now.transitions c.args.p.now.marks c.args.p.now.teams c.args.p.now.from c.args.p.now.to c.args.p.now.low c.args.p.now.high, c.count-starts.ensures.within)

pub returns-then-buffer-length : goal.returns-then-buffer-length
unfolding export_rule
returns-then-buffer-length c =
    let g = graph_in_arrays c.args.p.now in
    let b = c.args.buffer.now in
    let l : ltb (length b) (length (export_text g)) ≡ true = lt-ltb (length b) (length (export_text g)) (omega (arith, c.if-buffer-length.true, sized (goal.at.returns-then-buffer-length c).After-length-length)) in
    record { answer = rw (sound (goal.at.returns-then-buffer-length c).Else-not-limited, one (goal.at.returns-then-buffer-length c).Else-count-ne1, l); buffer = rw (sound (goal.at.returns-then-buffer-length c).Else-not-limited, one (goal.at.returns-then-buffer-length c).Else-count-ne1, l) }

pub text-requires-clause-bounds : goal.text-requires-clause-bounds
text-requires-clause-bounds c = omega (arith, limits (goal.at.text-requires-clause-bounds c).Else-not-limited, states_of_lem c.args.p.now.states c.args.p.now.transitions c.args.p.now.marks c.args.p.now.teams c.args.p.now.from c.args.p.now.to c.args.p.now.low c.args.p.now.high, count_of c.args.p.now.states c.args.p.now.transitions c.args.p.now.marks c.args.p.now.teams c.args.p.now.from c.args.p.now.to c.args.p.now.low c.args.p.now.high, c.count-starts.ensures.within)

pub returns : goal.returns
unfolding export_rule
returns c =
    let g = graph_in_arrays c.args.p.now in
    let b = c.args.buffer.now in
    let l : ltb (length b) (length (export_text g)) ≡ false = le-ltb (length b) (length (export_text g)) (omega (arith, c.if-buffer-length.false, sized (goal.at.returns c).After-length-length)) in
    let e : c.text.new.buffer ≡ export_text g ++ drop (length (export_text g)) b = rw (text-is (goal.at.returns c).Else-count-ne1) (put_front c.text.ensures) in
    record {
      answer = rw (sound (goal.at.returns c).Else-not-limited, one (goal.at.returns c).Else-count-ne1, l) (ap accepted (sym (sized (goal.at.returns c).After-length-length)));
      buffer = rw (sound (goal.at.returns c).Else-not-limited, one (goal.at.returns c).Else-count-ne1, l) e;
    }
