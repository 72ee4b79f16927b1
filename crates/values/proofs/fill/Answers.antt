-- `values::fill` meets its contract. The invariant: in whatever graph the values can be filled in, the states before place i of the order have theirs
-- (`valued_more`, and `valued_final` where one is final). Assumes nothing.
use mathlib.Core.Bool.{false}
use mathlib.Core.Path.{◌≡◌, sym, ◌∙◌}
use native.Mathlib.Numerals.{add-one}
use native.Mathlib.Omega.{arith}
use borrow.Author.Rules.{rules}
use Rattle.graph.specs.Graph.{final_mark}
use Rattle.search.specs.Arrays.{at}
use Rattle.values.proofs.Filling.{valued_more, valued_final}
use Rattle.values.proofs.fill.Goals.{then-not-is_final, else-not-is_final}
use Rattle.values.proofs.fill.Goals as goal

pub loop-i-preserved : goal.loop-i-preserved
loop-i-preserved c =
    let state-is : c.from-s.result ≡ at c.args.order.now c.loop-i.i =
    c.from-s.ensures in
    let final-is : c.is_final.result ≡ final_mark (at c.args.marks.now (at c.args.order.now c.loop-i.i)) =
    let e : c.is_final.result ≡ final_mark (at c.args.marks.now c.from-s.result) = search rules in
    rw state-is at e in
    let e = final-is in
    λ n m from f v.
    let q = c.loop-i.invariant n m from f v in
    rw add-one (elim c.if-not-is_final.branch [
      | then-not-is_final w ↦ rw (w.value-is, state-is) (valued_more f (omega (arith, c.loop-i-test.true)) (sym e ∙ w.if-not-is_final.true) q
          (rw state-is at (w.out_of-step.ensures m from f.linked.bounded.count f.linked.chains (λ x. false) (w.none.ensures m from _ _ _))))
      | else-not-is_final w ↦ rw w.value-is (valued_final (sym e ∙ w.if-not-is_final.false) q)
    ])
