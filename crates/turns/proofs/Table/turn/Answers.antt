-- `turns::Table::turn` meets its contract: each way through it is a turn of the search, as Turns.antt has them, in whatever graph the search is underway. Assumes nothing.
use Prim.Native.Nat.{ℕ, ◌-◌, ◌<◌}
use mathlib.Core.Bool.{true, false}
use mathlib.Core.List.{List}
use mathlib.Core.Logic.{◌⊎◌, inl, inr, ⊎_elim}
use mathlib.Core.Path.{◌≡◌, sym, ◌∙◌}
use native.Mathlib.Omega.{arith}
use borrow.Author.Rules.{rules}
use borrow.Author.Tests.{not-true}
use Rattle.graph.specs.Graph.{final_mark}
use Rattle.search.specs.Arrays.{Arrays, arrays, at, UnfinishedIn}
use Rattle.turns.specs.Search.{Underway}
use Rattle.turns.proofs.Stack.{same_table, AtTop, AtStep}
use Rattle.turns.proofs.Leaving.{leave-count}
use Rattle.turns.proofs.Passing.{loop}
use Rattle.turns.proofs.Turns.{turn-leave, at-step, turn-pass, step-below, turn_enter, turn-depth}
use Rattle.turns.proofs.Table.turn.Goals.{then-not-is_final+else-r-gt512+else-r-eq0, else-not-is_final}
use Rattle.turns.proofs.Table.turn.Goals as goal

pub bounds-self-done : goal.bounds-self-done
bounds-self-done c =
    let graph : ℕ → ℕ → List ℕ → Arrays =
    λ n m from. arrays n m c.args.marks.now from c.args.to.now in
    let Going : ℕ → ℕ → List ℕ → Type 0 =
    λ n m from. Underway (graph n m from) c.args.out.now.head c.args.out.now.link c.args.self.now c.args.d c.args.done in
    let Topped : ℕ → ℕ → List ℕ → ℕ → Type 0 =
    λ n m from s. AtTop (graph n m from) c.args.out.now.head c.args.out.now.link c.args.self.now c.args.d c.args.done (c.args.d - 1) s in
    let topped : (n m : ℕ) (from : List ℕ) → Going n m from → Topped n m from c.from-s.result =
    λ n m from u. record { under = u; some = omega (arith, c.requires.3); top = sym c.from-s.ensures } in
    let u = c.requires.4 in
    omega (arith, leave-count (topped _ _ _ u), u.linked.bounded.states)

pub returns-then-t-eq-NONE : goal.returns-then-t-eq-NONE
returns-then-t-eq-NONE c =
    let graph : ℕ → ℕ → List ℕ → Arrays =
    λ n m from. arrays n m c.args.marks.now from c.args.to.now in
    let Going : ℕ → ℕ → List ℕ → Type 0 =
    λ n m from. Underway (graph n m from) c.args.out.now.head c.args.out.now.link c.args.self.now c.args.d c.args.done in
    let Topped : ℕ → ℕ → List ℕ → ℕ → Type 0 =
    λ n m from s. AtTop (graph n m from) c.args.out.now.head c.args.out.now.link c.args.self.now c.args.d c.args.done (c.args.d - 1) s in
    let topped : (n m : ℕ) (from : List ℕ) → Going n m from → Topped n m from c.from-s.result =
    λ n m from u. record { under = u; some = omega (arith, c.requires.3); top = sym c.from-s.ensures } in
    λ n m from u. turn-leave (topped _ _ _ u) (sym c.from-t.ensures ∙ c.if-t-eq-NONE.true)

pub returns-then-r-gt512 : goal.returns-then-r-gt512
returns-then-r-gt512 c =
    let graph : ℕ → ℕ → List ℕ → Arrays =
    λ n m from. arrays n m c.args.marks.now from c.args.to.now in
    let Going : ℕ → ℕ → List ℕ → Type 0 =
    λ n m from. Underway (graph n m from) c.args.out.now.head c.args.out.now.link c.args.self.now c.args.d c.args.done in
    let Stepped : ℕ → ℕ → List ℕ → ℕ → ℕ → Type 0 =
    λ n m from s t. AtStep (graph n m from) c.args.out.now.head c.args.out.now.link c.args.self.now c.args.d c.args.done (c.args.d - 1) s t in
    let Topped : ℕ → ℕ → List ℕ → ℕ → Type 0 =
    λ n m from s. AtTop (graph n m from) c.args.out.now.head c.args.out.now.link c.args.self.now c.args.d c.args.done (c.args.d - 1) s in
    let topped : (n m : ℕ) (from : List ℕ) → Going n m from → Topped n m from c.from-s.result =
    λ n m from u. record { under = u; some = omega (arith, c.requires.3); top = sym c.from-s.ensures } in
    let stepped : (n m : ℕ) (from : List ℕ) → Going n m from → Stepped n m from c.from-s.result c.from-t.result =
    λ n m from u. at-step (topped _ _ _ u) (sym c.from-t.ensures) c.if-t-eq-NONE.false in
    let v-is : c.from-v.result ≡ at c.args.to.now c.from-t.result =
    c.from-v.ensures in
    let r-is : c.from-r.result ≡ at c.args.self.now.rank (at c.args.to.now c.from-t.result) =
    rw v-is at c.from-r.ensures in
    let final-is : c.is_final.result ≡ final_mark (at c.args.marks.now (at c.args.to.now c.from-t.result)) =
    let e : c.is_final.result ≡ final_mark (at c.args.marks.now c.from-v.result) = search rules in
    rw v-is at e in
    let going_on : UnfinishedIn c.args.marks.now (at c.args.to.now c.from-t.result) =
    let no : c.is_final.result ≡ false = search (rules, not-true) in
    sym final-is ∙ no in
    λ n m from u. loop (stepped _ _ _ u) _ (sym r-is ∙ omega arith) going_on

pub enter-requires : goal.enter-requires
enter-requires c =
    let graph : ℕ → ℕ → List ℕ → Arrays =
    λ n m from. arrays n m c.args.marks.now from c.args.to.now in
    let Going : ℕ → ℕ → List ℕ → Type 0 =
    λ n m from. Underway (graph n m from) c.args.out.now.head c.args.out.now.link c.args.self.now c.args.d c.args.done in
    let Stepped : ℕ → ℕ → List ℕ → ℕ → ℕ → Type 0 =
    λ n m from s t. AtStep (graph n m from) c.args.out.now.head c.args.out.now.link c.args.self.now c.args.d c.args.done (c.args.d - 1) s t in
    let Topped : ℕ → ℕ → List ℕ → ℕ → Type 0 =
    λ n m from s. AtTop (graph n m from) c.args.out.now.head c.args.out.now.link c.args.self.now c.args.d c.args.done (c.args.d - 1) s in
    let topped : (n m : ℕ) (from : List ℕ) → Going n m from → Topped n m from c.from-s.result =
    λ n m from u. record { under = u; some = omega (arith, c.requires.3); top = sym c.from-s.ensures } in
    let stepped : (n m : ℕ) (from : List ℕ) → Going n m from → Stepped n m from c.from-s.result c.from-t.result =
    λ n m from u. at-step (topped _ _ _ u) (sym c.from-t.ensures) c.if-t-eq-NONE.false in
    let v_below : c.from-v.result < 512 =
    let u = c.requires.4 in
    omega (arith, step-below (stepped _ _ _ u), c.from-v.ensures, u.linked.bounded.states) in
    let v-is : c.from-v.result ≡ at c.args.to.now c.from-t.result =
    c.from-v.ensures in
    let r-is : c.from-r.result ≡ at c.args.self.now.rank (at c.args.to.now c.from-t.result) =
    rw v-is at c.from-r.ensures in
    let u = c.requires.4 in
    let e = turn-depth (stepped _ _ _ u) (sym r-is ∙ c.if-r-eq0.true) in
    (v_below, omega (arith, u.linked.bounded.states))

pub returns-then-r-eq0 : goal.returns-then-r-eq0
returns-then-r-eq0 c =
    let graph : ℕ → ℕ → List ℕ → Arrays =
    λ n m from. arrays n m c.args.marks.now from c.args.to.now in
    let Going : ℕ → ℕ → List ℕ → Type 0 =
    λ n m from. Underway (graph n m from) c.args.out.now.head c.args.out.now.link c.args.self.now c.args.d c.args.done in
    let Stepped : ℕ → ℕ → List ℕ → ℕ → ℕ → Type 0 =
    λ n m from s t. AtStep (graph n m from) c.args.out.now.head c.args.out.now.link c.args.self.now c.args.d c.args.done (c.args.d - 1) s t in
    let Topped : ℕ → ℕ → List ℕ → ℕ → Type 0 =
    λ n m from s. AtTop (graph n m from) c.args.out.now.head c.args.out.now.link c.args.self.now c.args.d c.args.done (c.args.d - 1) s in
    let topped : (n m : ℕ) (from : List ℕ) → Going n m from → Topped n m from c.from-s.result =
    λ n m from u. record { under = u; some = omega (arith, c.requires.3); top = sym c.from-s.ensures } in
    let stepped : (n m : ℕ) (from : List ℕ) → Going n m from → Stepped n m from c.from-s.result c.from-t.result =
    λ n m from u. at-step (topped _ _ _ u) (sym c.from-t.ensures) c.if-t-eq-NONE.false in
    let v-is : c.from-v.result ≡ at c.args.to.now c.from-t.result =
    c.from-v.ensures in
    let r-is : c.from-r.result ≡ at c.args.self.now.rank (at c.args.to.now c.from-t.result) =
    rw v-is at c.from-r.ensures in
    let final-is : c.is_final.result ≡ final_mark (at c.args.marks.now (at c.args.to.now c.from-t.result)) =
    let e : c.is_final.result ≡ final_mark (at c.args.marks.now c.from-v.result) = search rules in
    rw v-is at e in
    let going_on : UnfinishedIn c.args.marks.now (at c.args.to.now c.from-t.result) =
    let no : c.is_final.result ≡ false = search (rules, not-true) in
    sym final-is ∙ no in
    let e = c.enter.ensures in
    λ n m from u.
    let q = turn_enter (stepped _ _ _ u) (sym r-is ∙ c.if-r-eq0.true) going_on in
    rw (same_table _ _ e.0 e.1 e.2 e.4 e.3, v-is) q

pub returns : goal.returns
returns c =
    let graph : ℕ → ℕ → List ℕ → Arrays =
    λ n m from. arrays n m c.args.marks.now from c.args.to.now in
    let Going : ℕ → ℕ → List ℕ → Type 0 =
    λ n m from. Underway (graph n m from) c.args.out.now.head c.args.out.now.link c.args.self.now c.args.d c.args.done in
    let Stepped : ℕ → ℕ → List ℕ → ℕ → ℕ → Type 0 =
    λ n m from s t. AtStep (graph n m from) c.args.out.now.head c.args.out.now.link c.args.self.now c.args.d c.args.done (c.args.d - 1) s t in
    let Topped : ℕ → ℕ → List ℕ → ℕ → Type 0 =
    λ n m from s. AtTop (graph n m from) c.args.out.now.head c.args.out.now.link c.args.self.now c.args.d c.args.done (c.args.d - 1) s in
    let topped : (n m : ℕ) (from : List ℕ) → Going n m from → Topped n m from c.from-s.result =
    λ n m from u. record { under = u; some = omega (arith, c.requires.3); top = sym c.from-s.ensures } in
    let stepped : (n m : ℕ) (from : List ℕ) → Going n m from → Stepped n m from c.from-s.result c.from-t.result =
    λ n m from u. at-step (topped _ _ _ u) (sym c.from-t.ensures) c.if-t-eq-NONE.false in
    let v-is : c.from-v.result ≡ at c.args.to.now c.from-t.result =
    c.from-v.ensures in
    let final-is : c.is_final.result ≡ final_mark (at c.args.marks.now (at c.args.to.now c.from-t.result)) =
    let e : c.is_final.result ≡ final_mark (at c.args.marks.now c.from-v.result) = search rules in
    rw v-is at e in
    let passable : (c.is_final.result ≡ true) ⊎ ((0 < at c.args.self.now.rank c.from-v.result) × (at c.args.self.now.rank c.from-v.result < 513)) =
    elim c.if-not-is_final.branch [
      | then-not-is_final+else-r-gt512+else-r-eq0 w ↦ inr (omega (arith, w.if-r-eq0.false, w.from-r.ensures), omega (arith, w.if-r-gt512.false, w.from-r.ensures))
      | else-not-is_final w ↦ inl w.if-not-is_final.false
    ] in
    λ n m from u.
    turn-pass (stepped _ _ _ u)
    (⊎_elim (λ x. inl (sym final-is ∙ x)) (λ x. inr (rw v-is at x)) passable)
