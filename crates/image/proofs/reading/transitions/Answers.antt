-- `image::reading::transitions` meets its contract. The invariant: no row of a transition passed holds, and it stands at its place of the
-- arrays; no later place was touched; the position, and the count of the bits taken, is that of the next transition. So the first row that holds is of the transition at hand.
-- Assumes nothing.
use Prim.Native.Nat.{ℕ}
use mathlib.Core.List.{List}
use mathlib.Core.Path.{◌≡◌, sym, ap, subst, ◌∙◌}
use native.Mathlib.Omega.{arith}
use lib.ListN.{set}
use borrow.Author.Count.{below_more}
use Rattle.std.proofs.lemmas.Result.{err_from_is_err_and}
use Rattle.graph.specs.Graph.{Transition}
use Rattle.rules.specs.Image.{transition_at, transition_place, transition_rows}
use Rattle.rules.specs.Refusal.{refused, said}
use Rattle.rules.specs.Table.{Row, first, by_number, NoneHolds}
use Rattle.rules.proofs.Tables.{accepted_where, accepted_only, none_each}
use Rattle.taken.specs.Taken.{listed_rows, RefusedAt}
use Rattle.taken.proofs.Taken.{items_all, items_to, refused_by}
use Rattle.rules.proofs.Tabulated.{tabulate-same}
use Rattle.arrays.specs.Tables.{transition_of}
use Rattle.image.specs.Values.{meant}
use Rattle.arrays.proofs.Lists.{transition-other, transition-here, later_set}
use Rattle.image.proofs.reading.transitions.Goals as goal
use Rattle.image.proofs.reading.transitions.Goals.{After-transition-t, In_ok-checked}

-- the transition that was taken is the one at its place
taken : (c : After-transition-t) → meant c.transition-t.result ≡ transition_at c.args.octets.now (transition_place c.args.n c.loop-i.i)
taken c = c.transition-t.ensures.0 ∙ ap (transition_at c.args.octets.now) c.loop-i.invariant.2

-- no row of the transition that was read holds
clear : (c : In_ok-checked) → NoneHolds (transition_rows c.args.n (meant c.transition-t.result))
clear c =
    (accepted_only (transition_rows c.args.n (meant c.transition-t.result)) tt tt
    (sym c.checked.ensures ∙ ap said c.in_ok-checked.was)).0

pub returns-in_err-checked : goal.returns-in_err-checked
returns-in_err-checked c =
    let a = c.args in
    let l = c.loop-i in
    let os = a.octets.now in
    let r = c.in_err-checked.field-0.0 in
    let rows : ℕ → List Row = listed_rows os a.n in
    let e : first (rows l.i) ≡ refused r =
    ap (λ (t : Transition). first (transition_rows a.n t)) (sym (taken (goal.at.returns-in_err-checked c).After-transition-t)) ∙ sym c.checked.ensures ∙ ap said c.in_err-checked.was in
    let here : RefusedAt rows a.m l.i r = record { before = none_each rows l.i l.invariant.3; listed = omega arith; here = e } in
    let p = err_from_is_err_and c.from_residual.result c.from_residual.ensures.1 in
    rw (p.1, p.2) (record {
      answer = sym (refused_by rows a.m l.i r here);
      transitions = λ e. absurd (let z : ◌≡◌ {A = ℕ} 0 1 = cc in omega arith);
      later = l.invariant.1;
      bits = omega (arith, c.transition-t.ensures.2, items_to rows a.m l.i r here);
    })

pub loop-i-preserved : goal.loop-i-preserved
loop-i-preserved c =
    let a = c.args in
    let l = c.loop-i in
    let r = c.transition-t.result in
    let f = l.invariant.1 in
    let here : transition_of (set l.from l.i r.from) (set l.to l.i r.to) (set l.low l.i r.low) (set l.high l.i r.high) l.i ≡ meant r =
    transition-here l.from l.to l.low l.high l.i r.from r.to r.low r.high (omega (arith, f.from.room)) (omega (arith, f.to.room)) (omega (arith, f.low.room)) (omega (arith, f.high.room)) in (
      omega arith,
      record {
        from = later_set _ _ l.from l.i r.from (omega arith) f.from;
        to = later_set _ _ l.to l.i r.to (omega arith) f.to;
        low = later_set _ _ l.low l.i r.low (omega arith) f.low;
        high = later_set _ _ l.high l.i r.high (omega arith) f.high;
      },
      omega (arith, c.transition-t.ensures.1),
      below_more _ _ l.invariant.3 (subst (λ (t : Transition). NoneHolds (transition_rows a.n t)) (taken (goal.at.loop-i-preserved c).After-transition-t) (clear (goal.at.loop-i-preserved c).In_ok-checked)),
      below_more _ _
          (λ k h. transition-other l.from l.to l.low l.high l.i r.from r.to r.low r.high k (omega arith) ∙ l.invariant.4 k h)
          (here ∙ taken (goal.at.loop-i-preserved c).After-transition-t),
      omega (arith, c.transition-t.ensures.2),
    )

pub returns : goal.returns
returns c =
    let a = c.args in
    let l = c.loop-i in
    let os = a.octets.now in
    let rows : ℕ → List Row = listed_rows os a.n in
    let none : NoneHolds (by_number rows 0 a.m) = none_each rows a.m (λ k h. l.invariant.3 k (omega arith)) in
    record {
      answer = sym (accepted_where (by_number rows 0 a.m) tt none);
      transitions = λ e. tabulate-same a.m (transition_of l.from l.to l.low l.high) (λ (k : ℕ). transition_at os (transition_place a.n k)) (λ k h. l.invariant.4 k (omega arith));
      later = l.invariant.1;
      bits = omega (arith, items_all rows a.m none);
    }
