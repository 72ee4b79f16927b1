-- `reach::explore::explore` meets its contract. The loop's invariant: in whatever graph it is, the search from the starts below s is over (`Exploring`).
-- Assumes nothing.
use Prim.Native.Nat.{◌<◌}
use mathlib.Core.Bool.{false≢true}
use mathlib.Core.Logic.{inl, inr}
use mathlib.Core.Path.{refl, sym, ◌∙◌}
use native.Mathlib.Omega.{arith}
use Rattle.search.specs.Arrays.{arrays, at, StartIn}
use Rattle.reach.proofs.Exploring.{exploring_more, explored_ends, explored_early}
use Rattle.reach.proofs.explore.explore.Goals.{then-is_start+then-table-s-eq0+in-Ends, then-is_start+else-table-s-eq0, else-is_start}
use Rattle.reach.proofs.explore.explore.Goals as goal

pub returns-in_default : goal.returns-in_default
returns-in_default c =
    λ m from w.
    let x = c.loop-s.invariant m from w in
    explored_early (arrays c.args.n m c.args.marks.now from c.args.to.now)
    c.loop-s.table c.descend-found.new.table c.loop-s.s c.descend-found.result c.in_default.not-Ends
    (c.descend-found.ensures c.args.n m from c.loop-s-test.true (record { linked = w; sized = x.sized; search = x.search }))

pub loop-s-preserved : goal.loop-s-preserved
loop-s-preserved c =
    let k = c.loop-s-test.true in
    λ m from w.
    let i = c.loop-s.invariant m from w in
    elim c.if-is_start.branch [
      | then-is_start+then-table-s-eq0+in-Ends x ↦
          let q = rw x.in-Ends.is at (x.descend-found.ensures c.args.n m from k (record { linked = w; sized = i.sized; search = i.search })) in
          rw (x.table-is, x.any-is, x.left-is)
          (exploring_more i k q.0 q.1 q.2 (λ y. q.3) (inl (refl, sym c.is_start.ensures ∙ x.if-is_start.true)))
      | then-is_start+else-table-s-eq0 x ↦
          let entered : 0 < at c.loop-s.table.rank c.loop-s.s = omega (arith, x.if-table-s-eq0.false) in
          rw (x.table-is, x.any-is, x.left-is)
          (exploring_more i k i.search i.sized (λ s h. h) (λ y. entered) (inl (refl, sym c.is_start.ensures ∙ x.if-is_start.true)))
      | else-is_start x ↦
          let no : StartIn c.args.marks.now c.loop-s.s → ⊥ = λ y. false≢true (sym x.if-is_start.false ∙ c.is_start.ensures ∙ y) in
          rw (x.table-is, x.any-is, x.left-is)
          (exploring_more i k i.search i.sized (λ s h. h) (λ y. absurd (no y)) (inr (refl, no)))
    ]

pub returns-then-any : goal.returns-then-any
returns-then-any c = λ m from w. explored_ends w.bounded (c.loop-s.invariant m from w) c.loop-s-test.false c.if-any.true
