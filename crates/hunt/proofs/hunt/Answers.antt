-- `hunt::hunt` meets its contract, in whatever graph the states were entered. The invariant of the state loop: no dead end is known, and every state passed was
-- looked at; of the transition loop: every transition of the state that was passed leads to a final state, or to one that has a transition.
-- Assumes nothing.
use Prim.Native.Nat.{ℕ, ◌<◌}
use mathlib.Core.Bool.{true≢false}
use mathlib.Core.List.{List}
use mathlib.Core.Path.{◌≡◌, sym, ap, ◌∙◌}
use native.Mathlib.Omega.{arith}
use borrow.Author.Count.{below_more}
use Rattle.graph.specs.Graph.{final_mark}
use Rattle.search.specs.Arrays.{Arrays, arrays, at, UnfinishedIn}
use Rattle.search.proofs.Chained.{followed-next, followed-all}
use Rattle.hunt.specs.Hunted.{Entered}
use Rattle.hunt.proofs.Looking.{none-leaves, head_below, hunted_none}
use Rattle.hunt.proofs.hunt.Goals.{then-rank-s-gt0+else-transitions-test, then-t-eq-NONE+else-via-s, else-t-eq-NONE, else-rank-s-gt0, then-out-v+else-not-is_final, else-out-v}
use Rattle.hunt.proofs.hunt.Goals as goal

pub transitions-preserved : goal.transitions-preserved
transitions-preserved c =
    let target : c.from-v.result ≡ at c.args.to.now c.transitions.t =
    c.from-v.ensures in
    let graph : ℕ → List ℕ → Arrays =
    λ m from. arrays c.args.n m c.args.marks.now from c.args.to.now in
    let Known : ℕ → List ℕ → Type 0 =
    λ m from. Entered (graph m from) c.args.out.now.head c.args.out.now.link c.args.rank.now c.args.via.now in
    let listed : (m : ℕ) (from : List ℕ) → Known m from → (c.transitions.t < m) × (at from c.transitions.t ≡ c.states.s) =
    λ m from e. (c.transitions.invariant.1 m from e).here c.transitions-test.true in
    let arrives : (m : ℕ) (from : List ℕ) → Known m from → c.from-v.result < c.args.n =
    λ m from e. omega (arith, target, e.linked.bounded.arrives c.transitions.t (listed m from e).0) in
    let a = c.args in (
      c.transitions.invariant.0,
      λ m from e.
          followed-next e.linked.chains _ (c.transitions.invariant.1 m from e) c.transitions-test.true
          (elim c.if-out-v.branch [
            | then-out-v+else-not-is_final w ↦ λ v. absurd (true≢false (sym w.if-not-is_final.false ∙ w.is_final.ensures ∙ ap (λ (y : ℕ). final_mark (at a.marks.now y)) target ∙ v))
            | else-out-v w ↦ λ v. rw (← target) (head_below e c.from-v.result (arrives m from e) w.if-out-v.false)
          ])
          c.from-t-in-transitions.ensures,
    )

pub states-preserved : goal.states-preserved
states-preserved c = let s = c.states.s in
    let i = c.states.invariant in
    let l = c.states-test.true in
    elim c.if-rank-s-gt0.branch [
      | then-rank-s-gt0+else-transitions-test w ↦ (
        w.dead-is ∙ w.transitions.invariant.0,
        below_more _ s i.1 (λ m from e r. record {
          itself = elim w.if-t-eq-NONE.branch [
            | then-t-eq-NONE+else-via-s x ↦ λ q. absurd (omega (arith, q, x.if-via-s.false))
            | else-t-eq-NONE x ↦ λ q. head_below e s l (λ p. x.if-t-eq-NONE.false (w.from-t.ensures ∙ p))
          ];
          behind = followed-all (w.transitions.invariant.1 m from e) e.linked.bounded.count w.transitions-test.false;
        }),
      )
      | else-rank-s-gt0 w ↦ (w.dead-is ∙ i.0, below_more _ s i.1 (λ m from e r. absurd (omega (arith, w.if-rank-s-gt0.false))))
    ]

pub returns-after-states : goal.returns-after-states
returns-after-states c = let l = c.states in
    λ m from e. rw l.invariant.0 (hunted_none e (λ x h r. l.invariant.1 x (omega arith) m from e r))

pub returns-then-not-is_final : goal.returns-then-not-is_final
returns-then-not-is_final c =
    let graph : ℕ → List ℕ → Arrays =
    λ m from. arrays c.args.n m c.args.marks.now from c.args.to.now in
    let Known : ℕ → List ℕ → Type 0 =
    λ m from. Entered (graph m from) c.args.out.now.head c.args.out.now.link c.args.rank.now c.args.via.now in
    let listed : (m : ℕ) (from : List ℕ) → Known m from → (c.transitions.t < m) × (at from c.transitions.t ≡ c.states.s) =
    λ m from e. (c.transitions.invariant.1 m from e).here c.transitions-test.true in
    let target : c.from-v.result ≡ at c.args.to.now c.transitions.t =
    c.from-v.ensures in
    let arrives : (m : ℕ) (from : List ℕ) → Known m from → c.from-v.result < c.args.n =
    λ m from e. omega (arith, target, e.linked.bounded.arrives c.transitions.t (listed m from e).0) in
    let a = c.args in
    let u : UnfinishedIn a.marks.now (at a.to.now c.transitions.t) =
    ap (λ (x : ℕ). final_mark (at a.marks.now x)) (sym target) ∙ sym c.is_final.ensures ∙ c.if-not-is_final.true in
    λ m from e.
    let q = listed m from e in (
      arrives m from e,
      rw target (e.onward c.states.s c.transitions.t c.states-test.true c.if-rank-s-gt0.true (record { listed = q.0; source = q.1 }) u),
      none-leaves e _ (arrives m from e) c.if-out-v.true,
    )
