-- "Both counts and the least delay pay no heed to it" (document 02, E2), of two plans that differ in highs alone: their least delays are the same, and so are their
-- counts, over any yes-or-no on states.
--
-- A transition of the one departs and leads as it does in the other, and their states are the same; so a walk of the one is a walk of the other, by recursion on its
-- transitions, and it has the same lows and counts the same states. What is the least figure of the one is then the least figure of the other, and what is the greatest
-- count, since a call goes on forever by an endless walk alone (Sentences.antt). There is only one. Assumes nothing.
use Prim.Native.Nat.{ℕ, ◌+◌, ◌≤◌, ◌<◌}
use mathlib.Core.Path.{◌≡◌, refl, sym, ◌∙◌, ap, ap₂, subst}
use mathlib.Core.Bool.{Bool}
use mathlib.Core.List.{List, [], ◌∷◌}
use mathlib.Core.Logic.{inl}
use lib.ListN.{length, get_or, length-map, get_or-map}
use Rattle.graph.specs.declared.Duration.TheVariants.{Seconds}
use Rattle.graph.specs.Graph.{Graph, State, Transition, start_mark, final_mark, marked, states, count, marks_of, start, final, transition, from, to, low, Departs, Final, Unfinished, NoneDeparts, DeadEnd, Closed}
use Rattle.graph.specs.Walk.{Begins, WalkTo, Begun, UnfinishedWalk}
use Rattle.graph.specs.Route.{Route, HasEndlessWalk, GoesOnForever, EndsUnanswered, Cost, total, lows, counts, one, delay, without_high, SameButHighs}
use Rattle.graph.specs.Figure.{Figure, number, NONE, STRANDED, ENDLESS, Attained, IsLeast, NoStart, IsGreatest}
use Rattle.graph.specs.Compute.{least, greatest}
use Rattle.graph.proofs.Cost.{delay-is}
use Rattle.graph.proofs.Least.{least-is, least_unique}
use Rattle.graph.proofs.Greatest.{greatest-is, greatest_unique}
use Rattle.graph.proofs.Endless.{run}
use Rattle.graph.proofs.Sentences.{endless-is, counts_no_heed}

-- it may be said the other way round
pub other_way : {g h : Graph} → SameButHighs g h → SameButHighs h g
other_way same = record { same-states = sym same.same-states; same-transitions = sym same.same-transitions }

-- ---- walks of the one are walks of the other

module _ (g h : Graph) (same : SameButHighs g h) where
  -- what is the same of each state and of each transition
  same_start : (s : ℕ) → start g s ≡ start h s
  unfolding start marks_of
  same_start s = ap (λ (l : List State). start_mark (get_or l s (marked 0)).marks) same.same-states

  same-final : (s : ℕ) → final g s ≡ final h s
  unfolding final marks_of
  same-final s = ap (λ (l : List State). final_mark (get_or l s (marked 0)).marks) same.same-states

  same_count : count g ≡ count h
  same_count = sym (length-map g.transitions without_high) ∙ ap length same.same-transitions ∙ length-map h.transitions without_high

  each : (t : ℕ) → without_high (transition g t) ≡ without_high (transition h t)
  unfolding transition
  each t =
      let z : Transition = record { from = 0; to = 0; low = 0; high = 0 } in
      sym (get_or-map without_high g.transitions t z) ∙ ap (λ (l : List Transition). get_or l t z) same.same-transitions
      ∙ get_or-map without_high h.transitions t z

  same_from : (t : ℕ) → from g t ≡ from h t
  unfolding from
  same_from t = ap (λ (x : Transition). x.from) (each t)

  same-to : (t : ℕ) → to g t ≡ to h t
  unfolding to
  same-to t = ap (λ (x : Transition). x.to) (each t)

  same_low : (t : ℕ) → low g t ≡ low h t
  unfolding low
  same_low t = ap (λ (x : Transition). x.low) (each t)

  pub same-closed : Closed g → Closed h
  same-closed closed t l =
      subst (λ (x : ℕ). to h t < x) (ap length same.same-states)
      (subst (λ (x : ℕ). x < states g) (same-to t) (closed t (subst (λ (x : ℕ). t < x) (sym same_count) l)))

  begins : (s : ℕ) → Begins g s → Begins h s
  begins s b = sym (same_start s) ∙ b

  is-final : (s : ℕ) → Final g s → Final h s
  is-final s f = sym (same-final s) ∙ f

  unfinished : (s : ℕ) → Unfinished g s → Unfinished h s
  unfinished s u = sym (same-final s) ∙ u

  departs : (s t : ℕ) → Departs g s t → Departs h s t
  departs s t d = record { listed = subst (λ (x : ℕ). t < x) same_count d.listed; source = sym (same_from t) ∙ d.source }

  module _ (pass pass' stop stop' : ℕ → Type 0) (passes : (s : ℕ) → pass s → pass' s) (stops : (s : ℕ) → stop s → stop' s) where
    walks : (s : ℕ) (ts : List ℕ) → WalkTo g pass stop s ts → WalkTo h pass' stop' s ts
    walks s [] w = stops s w
    walks s (t ∷ ts) w = (passes s w.0, departs s t w.1, subst (λ (x : ℕ). WalkTo h pass' stop' x ts) (same-to t) (walks (to g t) ts w.2))

    begun : (alone alone' : ℕ → Type 0) → ((s : ℕ) → alone s → alone' s) → (s : ℕ) (ts : List ℕ) → Begun g alone (WalkTo g pass stop) s ts
        → Begun h alone' (WalkTo h pass' stop') s ts
    begun alone alone' alones s [] (b, w) = (begins s b, alones s w)
    begun alone alone' alones s (t ∷ ts) (b, (d, w)) =
        (begins s b, (departs s t d, subst (λ (x : ℕ). WalkTo h pass' stop' x ts) (same-to t) (walks (to g t) ts w)))

  pub route-there : (s : ℕ) (ts : List ℕ) → Route g s ts → Route h s ts
  route-there = begun (Unfinished g) (Unfinished h) (Final g) (Final h) unfinished is-final (λ s. ⊥) (λ s. ⊥) (λ s n. n)

  unfinished-there : (s : ℕ) (ts : List ℕ) → UnfinishedWalk g s ts → UnfinishedWalk h s ts
  unfinished-there = begun (Unfinished g) (Unfinished h) (Unfinished g) (Unfinished h) unfinished unfinished (λ s. Unit) (λ s. Unit) (λ s u. u)

  endless-there : HasEndlessWalk g → HasEndlessWalk h
  endless-there (s, taken, w) = (s, taken, (endless-is h s taken).1 (λ k. unfinished-there s (run taken 0 k) ((endless-is g s taken).0 w k)))

  -- ---- and what they cost

  same-lows : (s : ℕ) (ts : List ℕ) → total g (lows g) s ts ≡ total h (lows h) s ts
  same-lows s ts =
      delay-is g (λ t. Seconds (low g t)) s ts ∙ ap (λ (f : ℕ → ℕ). delay f ts) (λ i t. same_low t i) ∙ sym (delay-is h (λ t. Seconds (low h t)) s ts)

  same_counts : (p : ℕ → Bool) (s : ℕ) (ts : List ℕ) → total g (counts g p) s ts ≡ total h (counts h p) s ts
  same_counts p s [] = refl
  same_counts p s (t ∷ ts) =
      ap₂ (λ (x y : ℕ). one (p x) + y) (same_from t) (same_counts p (to g t) ts ∙ ap (λ (x : ℕ). total h (counts h p) x ts) (same-to t))

-- ---- and their figures

module _ (g h : Graph) (same : SameButHighs g h) where
  back : SameButHighs h g
  back = other_way same

  none-departs : (s : ℕ) → NoneDeparts g s → NoneDeparts h s
  none-departs s n t d = n t (departs h g back s t d)

  dead_end_lem : (s : ℕ) → DeadEnd g s → DeadEnd h s
  dead_end_lem s d = record { unfinished = unfinished g h same s d.unfinished; none-departs = none-departs s d.none-departs }

  stranded-there : EndsUnanswered g → EndsUnanswered h
  stranded-there (s, ts, w) =
      (s, ts, begun g h same (Unfinished g) (Unfinished h) (DeadEnd g) (DeadEnd h) (unfinished g h same) dead_end_lem (NoneDeparts g) (NoneDeparts h) none-departs s ts w)

module _ (g h : Graph) (same : SameButHighs g h) (c c' : Cost) (costs : (s : ℕ) (ts : List ℕ) → total g c s ts ≡ total h c' s ts) where
  attained-there : (k : ℕ) → Attained g c k → Attained h c' k
  attained-there k (s, ts, r, q) = (s, ts, route-there g h same s ts r, sym (costs s ts) ∙ q)

  least-there : (f : Figure) → IsLeast g c f → IsLeast h c' f
  least-there (number k) u = record {
    attained = attained-there k u.attained;
    bound = λ s ts r. subst (λ (x : ℕ). k ≤ x) (costs s ts) (u.bound s ts (route-there h g (other_way same) s ts r));
  }
  least-there NONE u = λ s ts r. u s ts (route-there h g (other_way same) s ts r)
  least-there STRANDED u = u
  least-there ENDLESS u = u

module _ (g h : Graph) (same : SameButHighs g h) (p : ℕ → Bool) where
  started-there : (NoStart g → ⊥) → NoStart h → ⊥
  started-there n unmarked = n (λ s b. unmarked s (begins g h same s b))

  forever-there : GoesOnForever g (counts g p) → GoesOnForever h (counts h p)
  forever-there w = inl (endless-there g h same ((counts_no_heed g p).0 w))

module _ (g h : Graph) (same : SameButHighs g h) (p : ℕ → Bool) where
  greatest-there : (f : Figure) → IsGreatest g (counts g p) f → IsGreatest h (counts h p) f
  greatest-there NONE u = λ s b. u s (begins h g (other_way same) s b)
  greatest-there ENDLESS u = (started-there g h same p u.0, forever-there g h same p u.1)
  greatest-there STRANDED u =
      (started-there g h same p u.0, λ w. u.1 (forever-there h g (other_way same) p w), stranded-there g h same u.2)
  greatest-there (number k) u = (
    started-there g h same p u.0,
    λ w. u.1 (forever-there h g (other_way same) p w),
    λ w. u.2 (stranded-there h g (other_way same) w),
    record {
      attained = attained-there g h same (counts g p) (counts h p) (same_counts g h same p) k u.3.attained;
      bound = λ s ts r. subst (λ (x : ℕ). x ≤ k) (same_counts g h same p s ts) (u.3.bound s ts (route-there h g (other_way same) s ts r));
    },
  )

-- ---- the theorem

module _ (g h : Graph) (same : SameButHighs g h) (closed : Closed g) where
  pub one-least-delay : least g (lows g) ≡ least h (lows h)
  one-least-delay =
      least_unique h (lows h) (least g (lows g)) (least h (lows h)) (least-there g h same (lows g) (lows h) (same-lows g h same) (least g (lows g)) (least-is g (lows g) closed))
      (least-is h (lows h) (same-closed g h same closed))

  pub one-least-count : (p : ℕ → Bool) → least g (counts g p) ≡ least h (counts h p)
  one-least-count p =
      least_unique h (counts h p) (least g (counts g p)) (least h (counts h p))
      (least-there g h same (counts g p) (counts h p) (same_counts g h same p) (least g (counts g p)) (least-is g (counts g p) closed))
      (least-is h (counts h p) (same-closed g h same closed))

  pub one-greatest-count : (p : ℕ → Bool) → greatest g (counts g p) ≡ greatest h (counts h p)
  one-greatest-count p =
      greatest_unique h (counts h p) (greatest g (counts g p)) (greatest h (counts h p)) (greatest-there g h same p (greatest g (counts g p)) (greatest-is g (counts g p) closed))
      (greatest-is h (counts h p) (same-closed g h same closed))
