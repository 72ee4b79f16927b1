-- Procedure lower returns the least delay.
--
-- Before each turn (`Reached`):
-- * every route is at a state of R after i transitions (`complete`); so no route has fewer than i;
-- * a route from a state of R is the end of a route from a start that has at most i transitions more (`sound`).
-- A turn is taken only where R has no final state. So every route goes on from its state of R by a transition, to a
-- state of R'; and each state of R is unfinished, so a walk may go on through it to a new state of R'. At the end, if R
-- has a final state, then a route ends there: some route has at most i transitions, and none has fewer. So i is the
-- least. If R has none, then R' is R: a route never leaves R, but its last state is final. So there is no route.
--
-- At first R is the starts. No start is final, so a route goes on from one as from any state (`route-apart`). Assumes nothing.
use Prim.Native.Nat.{ℕ, ◌+◌, ◌≤◌, ◌<◌}
use mathlib.Core.Path.{◌≡◌, refl, sym, ◌∙◌}
use mathlib.Core.Bool.{true, false, not, ◌||◌, true≢false, and-eq-true_iff}
use mathlib.Core.Logic.{◌⊎◌, inl, inr}
use mathlib.Core.List.{List, [], ◌∷◌}
use native.Mathlib.Omega.{arith}
use lib.ListN.{length}
use borrow.Author.Tests.{not-false}
use Rattle.graph.specs.declared.Which.TheVariants.{LeastDelay}
use Rattle.graph.specs.Graph.{Graph, states, final, to, Departs, Final, Unfinished}
use Rattle.graph.specs.Route.{RouteFrom, Route, total, lows}
use Rattle.graph.specs.Figure.{NONE, Smallest, IsLeast, cost_for}
use Rattle.graph.proofs.Tests.{decided, or_cases, or_left}
use Rattle.graph.proofs.Walks.{start-below}
use Rattle.graph.proofs.Cost.{total-length}
use Rattle.report.specs.Procedure.{Returns}
use Rattle.report.specs.Sets.{States, ◌∩◌, empty, same, T}
use Rattle.report.specs.Bounds.{Bound, Vars, lower}
use Rattle.report.specs.Agreement.{ReportPlan, least_figure}
use Rattle.report.proofs.Loop.{returns_holds, goes_on, ended}
use Rattle.report.proofs.Sets.{of_empty, of_not_empty, of_same, T_of, in_T}
use Rattle.report.proofs.Apart.{route-apart}

module _ (g : Graph) where
  record Reached (v : Vars) : Type 0 where
    sound : (s : ℕ) → v.R s ≡ true → (ts : List ℕ) → RouteFrom g s ts
        → (s₀ : ℕ) × (ts₀ : List ℕ) × Route g s₀ ts₀ × (length ts₀ ≤ v.i + length ts)
    complete : (s₀ : ℕ) (ts₀ : List ℕ) → Route g s₀ ts₀
        → (s : ℕ) × (ts : List ℕ) × (s < states g) × (v.R s ≡ true) × RouteFrom g s ts × (length ts₀ ≡ v.i + length ts)
    next : (s : ℕ) → v.R' s ≡ (T g v.R s || v.R s)

module _ (g : Graph) (q : ReportPlan g) where
  -- R and final are apart: a state of R is unfinished, and a route from it has a transition
  unfinished : (A : States) → empty g (A ∩ final g) ≡ true → (s : ℕ) → s < states g → A s ≡ true → Unfinished g s
  unfinished A h s l m = go (decided (final g s))
    where
      go : (final g s ≡ true) ⊎ (final g s ≡ false) → Unfinished g s
      go (inl f) = absurd (of_empty g (A ∩ final g) h s l ((and-eq-true_iff (A s) (final g s)).1 (m, f)))
      go (inr u) = u

  -- a transition from a state of R leads to one of R'
  stepped : (v : Vars) → Reached g v → (s t : ℕ) → s < states g → v.R s ≡ true → Departs g s t → v.R' (to g t) ≡ true
  stepped v b s t l m d = b.next (to g t) ∙ or_left (T g v.R (to g t)) (v.R (to g t)) (in_T g v.R s t l m d)

  at_first : Reached g (lower g).begin
  at_first = record {
    sound = λ s b ts w. (s, ts, (route-apart g q.total s b ts).1 (b, w), omega arith);
    complete = λ s ts r. (s, ts, start-below g s r.0, r.0, ((route-apart g q.total s r.0 ts).0 r).1, omega arith);
    next = λ s. refl;
  }

  -- a turn: R has no final state
  module _ (v : Vars) (b : Reached g v) (apart : empty g (v.R ∩ final g) ≡ true) where
    sound-next : (s : ℕ) → v.R' s ≡ true → (ts : List ℕ) → RouteFrom g s ts
        → (s₀ : ℕ) × (ts₀ : List ℕ) × Route g s₀ ts₀ × (length ts₀ ≤ v.i + 1 + length ts)
    sound-next s m ts w = go (or_cases (T g v.R s) (v.R s) (sym (b.next s) ∙ m))
      where
        go : (T g v.R s ≡ true) ⊎ (v.R s ≡ true)
            → (s₀ : ℕ) × (ts₀ : List ℕ) × Route g s₀ ts₀ × (length ts₀ ≤ v.i + 1 + length ts)
        go (inl n) =
            let (s', l, m', t, d, e) = T_of g v.R s n in
            let (s₀, ts₀, r, h) = b.sound s' m' (t ∷ ts) (unfinished v.R apart s' l m', d, rw e w) in
            (s₀, ts₀, r, omega arith)
        go (inr n) = let (s₀, ts₀, r, h) = b.sound s n ts w in (s₀, ts₀, r, omega arith)

    complete-next : (s₀ : ℕ) (ts₀ : List ℕ) → Route g s₀ ts₀
        → (s : ℕ) × (ts : List ℕ) × (s < states g) × (v.R' s ≡ true) × RouteFrom g s ts × (length ts₀ ≡ v.i + 1 + length ts)
    complete-next s₀ ts₀ r = let (s, ts, l, m, w, h) = b.complete s₀ ts₀ r in go s ts l m w h
      where
        go : (s : ℕ) (ts : List ℕ) → s < states g → v.R s ≡ true → RouteFrom g s ts → length ts₀ ≡ v.i + length ts
            → (s : ℕ) × (ts : List ℕ) × (s < states g) × (v.R' s ≡ true) × RouteFrom g s ts × (length ts₀ ≡ v.i + 1 + length ts)
        go s [] l m w h = absurd (true≢false (sym w ∙ unfinished v.R apart s l m))
        go s (t ∷ ts) l m w h = (to g t, ts, q.total.closed t w.1.listed, stepped v b s t l m w.1, w.2, omega arith)

  keep : (v : Vars) → Reached g v → (lower g).stop v ≡ false → Reached g ((lower g).rest v)
  keep v b h =
      let (moved, apart) = goes_on (not (same g v.R' v.R)) (empty g (v.R ∩ final g)) h in
      record { sound = sound-next v b apart; complete = complete-next v b apart; next = λ s. refl }

  -- the end, with a final state in R
  module _ (v : Vars) (b : Reached g v) (meets : empty g (v.R ∩ final g) ≡ false) where
    cost : (s : ℕ) (ts : List ℕ) → Route g s ts → total g (cost_for LeastDelay g) s ts ≡ length ts
    cost s ts r = total-length g (lows g) (Unfinished g) (Final g) q.lows-one (λ s. refl) s ts ((route-apart g q.total s r.0 ts).0 r).1

    no-shorter : (s : ℕ) (ts : List ℕ) → Route g s ts → v.i ≤ length ts
    no-shorter s ts r = let (s', ts', l, m, w, h) = b.complete s ts r in omega arith

    least : Smallest g (cost_for LeastDelay g) v.i
    least =
        let (s, l, m) = of_not_empty g (v.R ∩ final g) meets in
        let (m', f) = (and-eq-true_iff (v.R s) (final g s)).0 m in
        let (s₀, ts₀, r, h) = b.sound s m' [] f in
        record {
          attained = (s₀, ts₀, r, omega (arith, cost s₀ ts₀ r, no-shorter s₀ ts₀ r));
          bound = λ s ts r. omega (arith, cost s ts r, no-shorter s ts r);
        }

  -- the end, with R' the same as R
  module _ (v : Vars) (b : Reached g v) (apart : empty g (v.R ∩ final g) ≡ true) (still : same g v.R' v.R ≡ true) where
    never-out : (s : ℕ) (ts : List ℕ) → s < states g → v.R s ≡ true → RouteFrom g s ts → ⊥
    never-out s [] l m w = true≢false (sym w ∙ unfinished v.R apart s l m)
    never-out s (t ∷ ts) l m w =
        let l' : to g t < states g = q.total.closed t w.1.listed in
        never-out (to g t) ts l' (sym (of_same g v.R' v.R still (to g t) l') ∙ stepped v b s t l m w.1) w.2

    none : IsLeast g (cost_for LeastDelay g) NONE
    none s ts r = let (s', ts', l, m, w, h) = b.complete s ts r in never-out s' ts' l m w

  -- what a value says of the least delay
  abbrev Says : Bound → Type 0
  Says b = IsLeast g (cost_for LeastDelay g) (least_figure b)

  end : (v : Vars) → Reached g v → (lower g).stop v ≡ true → Says ((lower g).answer v)
  end v b h = go (decided (empty g (v.R ∩ final g))) (ended (not (same g v.R' v.R)) (empty g (v.R ∩ final g)) h)
    where
      go : (empty g (v.R ∩ final g) ≡ true) ⊎ (empty g (v.R ∩ final g) ≡ false)
          → (not (same g v.R' v.R) ≡ false) ⊎ (empty g (v.R ∩ final g) ≡ false)
          → Says ((lower g).answer v)
      go (inr meets) e = rw meets (least v b meets)
      go (inl apart) (inl still) = rw apart (none v b apart (not-false (same g v.R' v.R) still))
      go (inl apart) (inr meets) = absurd (true≢false (sym apart ∙ meets))

  pub lower_says : (b : Bound) → Returns (lower g) b → Says b
  lower_says = returns_holds (lower g) (Reached g) Says keep end at_first
