-- `values::best` meets its contract: the values are filled in, a route is read off them from the best start, and its value is the figure (BestFigure).
-- Assumes nothing.
use Prim.Native.Nat.{ℕ}
use mathlib.Core.List.{List}
use mathlib.Core.Path.{◌≡◌}
use borrow.Author.Rules.{rules}
use lib.ListN.{length}
use Rattle.search.specs.Arrays.{Arrays, arrays}
use Rattle.turns.specs.Search.{table}
use Rattle.values.specs.Values.{Over, Valued}
use Rattle.values.proofs.BestFigure.{valued_none, fillable, addable, found, readable, best-quoted}
use Rattle.values.proofs.best.Goals as goal

pub fill-requires : goal.fill-requires
fill-requires c =
    let graph : ℕ → List ℕ → Arrays =
    λ m from. arrays c.args.n m c.args.marks.now from c.args.to.now in
    let closes : length c.args.close ≡ 512 =
    search rules in
    let unfilled : (m : ℕ) (from : List ℕ) → Valued c.args.least (graph m from) c.args.order.now c.args.weight.now c.args.close 0 c.args.close =
    λ m from. valued_none c.args.least (graph m from) _ _ _ closes c.requires.n_in_bounds.1.closes in
    let p = c.requires.by_index in
    (c.args.n, p.0, p.1, fillable p.6 c.requires.n_in_bounds.1.weights, unfilled p.0 p.1)

pub first-first-requires : goal.first-first-requires
first-first-requires c =
    let graph : ℕ → List ℕ → Arrays =
    λ m from. arrays c.args.n m c.args.marks.now from c.args.to.now in
    let Ended : ℕ → (from rank cursor stack via : List ℕ) → Type 0 =
    λ m from rank cursor stack via. Over (graph m from) c.args.out.now.head c.args.out.now.link (table rank cursor stack c.args.order.now via) c.args.done in
    let closes : length c.args.close ≡ 512 =
    search rules in
    let unfilled : (m : ℕ) (from : List ℕ) → Valued c.args.least (graph m from) c.args.order.now c.args.weight.now c.args.close 0 c.args.close =
    λ m from. valued_none c.args.least (graph m from) _ _ _ closes c.requires.n_in_bounds.1.closes in
    let filled : (m : ℕ) (from rank cursor stack via : List ℕ) → Ended m from rank cursor stack via → Valued c.args.least (graph m from) c.args.order.now c.args.weight.now c.args.close c.args.done c.fill.new.value =
    λ m from rank cursor stack via o. c.fill.ensures c.args.n m from (fillable o c.requires.n_in_bounds.1.weights) (unfilled m from) in
    let p = c.requires.by_index in
    let v = filled p.0 p.1 p.2 p.3 p.4 p.5 p.6 in
    (p.6.linked.bounded.states, (p.0, p.1, p.6.linked.chains, addable p.6 c.requires.n_in_bounds.1.weights v))

pub trace-k-requires : goal.trace-k-requires
trace-k-requires c =
    let graph : ℕ → List ℕ → Arrays =
    λ m from. arrays c.args.n m c.args.marks.now from c.args.to.now in
    let Ended : ℕ → (from rank cursor stack via : List ℕ) → Type 0 =
    λ m from rank cursor stack via. Over (graph m from) c.args.out.now.head c.args.out.now.link (table rank cursor stack c.args.order.now via) c.args.done in
    let closes : length c.args.close ≡ 512 =
    search rules in
    let unfilled : (m : ℕ) (from : List ℕ) → Valued c.args.least (graph m from) c.args.order.now c.args.weight.now c.args.close 0 c.args.close =
    λ m from. valued_none c.args.least (graph m from) _ _ _ closes c.requires.n_in_bounds.1.closes in
    let filled : (m : ℕ) (from rank cursor stack via : List ℕ) → Ended m from rank cursor stack via → Valued c.args.least (graph m from) c.args.order.now c.args.weight.now c.args.close c.args.done c.fill.new.value =
    λ m from rank cursor stack via o. c.fill.ensures c.args.n m from (fillable o c.requires.n_in_bounds.1.weights) (unfilled m from) in
    let p = c.requires.by_index in
    let v = filled p.0 p.1 p.2 p.3 p.4 p.5 p.6 in
    let l = p.6.linked in
    let f = c.first-first.ensures p.0 p.1 l.bounded.count l.chains l.bounded.leaves in
    let w = c.requires.n_in_bounds.1.weights in
    (c.args.n, p.0, p.1, c.args.close, c.requires.n_in_bounds.0, (f.found (found p.6 w v f)).0, readable p.6 w v f)

pub returns : goal.returns
returns c =
    let graph : ℕ → List ℕ → Arrays =
    λ m from. arrays c.args.n m c.args.marks.now from c.args.to.now in
    let Ended : ℕ → (from rank cursor stack via : List ℕ) → Type 0 =
    λ m from rank cursor stack via. Over (graph m from) c.args.out.now.head c.args.out.now.link (table rank cursor stack c.args.order.now via) c.args.done in
    let closes : length c.args.close ≡ 512 =
    search rules in
    let unfilled : (m : ℕ) (from : List ℕ) → Valued c.args.least (graph m from) c.args.order.now c.args.weight.now c.args.close 0 c.args.close =
    λ m from. valued_none c.args.least (graph m from) _ _ _ closes c.requires.n_in_bounds.1.closes in
    let filled : (m : ℕ) (from rank cursor stack via : List ℕ) → Ended m from rank cursor stack via → Valued c.args.least (graph m from) c.args.order.now c.args.weight.now c.args.close c.args.done c.fill.new.value =
    λ m from rank cursor stack via o. c.fill.ensures c.args.n m from (fillable o c.requires.n_in_bounds.1.weights) (unfilled m from) in
    let w = c.requires.n_in_bounds.1.weights in
    λ m from rank cursor stack via o g held.
    let v = filled m from rank cursor stack via o in
    let f = c.first-first.ensures m from o.linked.bounded.count o.linked.chains o.linked.bounded.leaves in
    best-quoted o w v f held c.trace-k.auto.walk c.requires.n_in_bounds.0 (c.trace-k.ensures c.args.n m from c.args.close (readable o w v f))
