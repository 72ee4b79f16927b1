-- Sentences of 01 that follow from the definitions in a few lines, so that a reader can hold the definitions against
-- them; and the impostors of 01's acceptance point 2 that a figure or a walk gives away, refuted.
--
-- A walk with conditions on its states is a walk, with those conditions place by place; so a route is just what 02's E5 says,
-- and so are the other walks (`in_words`). What is shown of a number is that number, and a route's cost is what 01 says in its own words (`in_own-words`). Assumes nothing.
use Prim.Native.Nat.{ℕ, zero, suc, ◌≤◌, ◌<◌, zero-le}
use mathlib.Core.Path.{◌≡◌, refl, sym, ◌∙◌, ap, subst}
use mathlib.Core.Logic.{◌↔◌, inl, inr}
use mathlib.Core.Bool.{Bool, false, true≢false}
use mathlib.Core.List.{List, [], ◌∷◌, ◌++◌}
use native.Mathlib.Nat.{not-suc-le-zero, zero-lt-suc}
use native.Mathlib.Omega.{arith}
use lib.ListN.{length, take}
use Rattle.graph.specs.declared.Duration.TheVariants.{Seconds}
use Rattle.graph.specs.declared.Which.{Which}
use Rattle.graph.specs.declared.Which.TheVariants.{LeastDelay, GreatestDelay, LeastCount, GreatestCount}
use Rattle.graph.specs.Graph.{Graph, count, to, low, high, Departs, Final, Unfinished, NoneDeparts, DeadEnd}
use Rattle.graph.specs.Walk.{Begins, WalkTo, FromStart, AfterStart, Begun, Walk, UnfinishedWalk, EndlessWalk, visits, arrival, Different}
use Rattle.graph.specs.Route.{Route, StrandedWalk, Cost, total, lows, highs, counts, delay, number-on, HasEndlessWalk, HasOpenWalk, GoesOnForever}
use Rattle.graph.specs.Figure.{number, STRANDED, ENDLESS, IsGreatest, LoopShown, Shown, cost_over, comes_to}
use Rattle.graph.proofs.Repeat.{nth}
use Rattle.graph.proofs.Walks.{length-visits, state-after, state-last, stopped, after_plain, after_passed, after-stopped, after_of}
use Rattle.graph.proofs.Endless.{run, run-begun, of_runs}
use Rattle.graph.proofs.Cost.{delay-is, count-is}
use Rattle.graph.proofs.Open.{none_open, open_high, highs_of}

module _ (g : Graph) where
  -- in 02's own words: a walk, `between` of each state "between its first and last", `last` of the last one of a walk that has a transition, and `alone` of a
  -- start alone
  pub record InWords (alone between last : ℕ → Type 0) (s : ℕ) (ts : List ℕ) : Type 0 where
    pub walk : Walk g s ts
    pub single : length ts ≡ 0 → alone s
    pub middle : (i : ℕ) → suc i < length ts → between (nth (visits g s ts) (suc i))
    pub ends : 0 < length ts → last (arrival g s ts)

  in_words : (alone between last : ℕ → Type 0) (s : ℕ) (ts : List ℕ) → Begun g alone (WalkTo g between last) s ts ↔ InWords alone between last s ts
  in_words alone between last s ts = (
    λ (b, w). record {
      walk = (b, after_plain g alone between last s ts w);
      single = single ts w;
      middle = after_passed g alone between last s ts w;
      ends = ends ts w;
    },
    λ r. (r.walk.0, after_of g alone between last s ts r.walk.1 r.single r.middle r.ends),
  )
    where
      single : (us : List ℕ) → AfterStart g alone (WalkTo g between last) s us → length us ≡ 0 → alone s
      single [] w e = w
      single (u ∷ us) w e = absurd (omega arith)

      ends : (us : List ℕ) → AfterStart g alone (WalkTo g between last) s us → 0 < length us → last (arrival g s us)
      ends [] w h = absurd (not-suc-le-zero h)
      ends (u ∷ us) w h = stopped g between last (to g u) us w.1

  -- "a route has at least one transition. Its first state may be final, and no state between its first and last may be"; "whose last state is final"
  pub route-is : (s : ℕ) (ts : List ℕ) → Route g s ts ↔ InWords (λ x. ⊥) (Unfinished g) (Final g) s ts
  route-is = in_words (λ x. ⊥) (Unfinished g) (Final g)

  pub route_some : (s : ℕ) (ts : List ℕ) → Route g s ts → 1 ≤ length ts
  route_some s [] (b, r) = absurd r
  route_some s (t ∷ ts) r = zero-lt-suc (length ts)

  -- "a walk of unfinished states", which "likewise may begin at a final start"
  pub unfinished-is : (s : ℕ) (ts : List ℕ) → UnfinishedWalk g s ts ↔ InWords (λ x. Unit) (Unfinished g) (Unfinished g) s ts
  unfinished-is = in_words (λ x. Unit) (Unfinished g) (Unfinished g)

  -- "a walk of unfinished states ends in a dead end", which is unfinished too, "and a start without transitions is a dead end"
  pub stranded-is : (s : ℕ) (ts : List ℕ) → StrandedWalk g s ts ↔ InWords (NoneDeparts g) (Unfinished g) (DeadEnd g) s ts
  stranded-is = in_words (NoneDeparts g) (Unfinished g) (DeadEnd g)

  -- where no start is final, all of it is as it was: the first state is unfinished as the later ones are
  pub as_it_was : (alone stop : ℕ → Type 0) → ((x : ℕ) → Unfinished g x → alone x ↔ stop x) → (s : ℕ) → Unfinished g s → (ts : List ℕ)
      → Begun g alone (WalkTo g (Unfinished g) stop) s ts ↔ FromStart g (WalkTo g (Unfinished g) stop) s ts
  as_it_was alone stop same s u [] = (λ (b, w). (b, (same s u).0 w), λ (b, w). (b, (same s u).1 w))
  as_it_was alone stop same s u (t ∷ ts) = (λ (b, (d, w)). (b, (u, d, w)), λ (b, (v, d, w)). (b, (d, w)))

  -- "an endless walk of unfinished states": a sequence of transitions whose first k are a walk of unfinished states, for
  -- each k; so it begins as any walk does
  pub endless-is : (s : ℕ) (taken : ℕ → ℕ) → EndlessWalk g s taken ↔ ((k : ℕ) → UnfinishedWalk g s (run taken 0 k))
  endless-is s taken = (run-begun g s taken, λ w. ((w 0).0, of_runs g s taken w))

  -- "A number or STRANDED shown with k at 0 means the walk of some start alone." By E5 a number has a k of at least 1, and the start shown for STRANDED is one
  -- without transitions
  pub number_some : (c : Cost) (k j : ℕ) (ts : List ℕ) → Shown g c (number k) ts j → 1 ≤ length ts
  number_some c k j ts (s, r, q, d, z) = route_some s ts r

  pub stranded-alone : (c : Cost) (j : ℕ) → Shown g c STRANDED [] j → (s : ℕ) × Begins g s × NoneDeparts g s
  stranded-alone c j (s, (b, w), d, z) = (s, b, w)

  -- where a route comes back to its start, the start is final, and it is the last state
  pub returns_answered : (c : Cost) (k j : ℕ) (ts : List ℕ) → Shown g c (number k) ts j → (s : ℕ) × Route g s ts × (Unfinished g s → Different (visits g s ts))
  returns_answered c k j ts (s, r, q, d, z) = (s, r, different)
    where
      different : Unfinished g s → Different (visits g s ts)
      different u i i' l h e =
          let (a, b) = d i i' l h e in
          let here : nth (visits g s ts) i ≡ s = rw a (state-after g s ts 0 zero-le) in
          let last : nth (visits g s ts) i' ≡ arrival g s ts = ap (nth (visits g s ts)) (omega (arith, length-visits g s ts)) ∙ state-last g s ts in
          let f : Final g (arrival g s ts) = after-stopped g (λ x. ⊥) (Unfinished g) (Final g) (Final g) (λ x n. absurd n) (λ x f. f) s ts r.1 in
          true≢false (sym (subst (Final g) (sym last ∙ sym e ∙ here) f) ∙ u)

  -- a loop's walk that begins "at a final start" does not come back there: its j is at least 1
  pub loop_place : (ts : List ℕ) (j : ℕ) → LoopShown g ts j → (s : ℕ) × UnfinishedWalk g s ts × (Final g s → 1 ≤ j)
  loop_place ts j (s, w, l, e, d) = (s, w, place j e)
    where
      last : 0 < length ts → Unfinished g (arrival g s ts)
      last = ((unfinished-is s ts).0 w).ends

      place : (j : ℕ) → arrival g s ts ≡ arrival g s (take j ts) → Final g s → 1 ≤ j
      place zero e f = absurd (true≢false (sym f ∙ subst (Unfinished g) e (last (omega arith))))
      place (suc j) e f = zero-lt-suc j

  -- the number shown is the sum over the walk shown, "of its lows for a least figure, and of its highs for a greatest
  -- one" ..
  pub shown-lows : (k : ℕ) (ts : List ℕ) (j : ℕ) → Shown g (lows g) (number k) ts j → delay (low g) ts ≡ k
  shown-lows k ts j (s, r, q, d, z) = sym (delay-is g (λ t. Seconds (low g t)) s ts) ∙ q

  pub shown-highs : (k : ℕ) (ts : List ℕ) (j : ℕ) → IsGreatest g (highs g) (number k) → Shown g (highs g) (number k) ts j → delay (high g) ts ≡ k
  shown-highs k ts j u (s, r, q, d, z) = sym (highs_of g (λ w. u.1 (inr w)) s ts r) ∙ q

  -- the number of states of which p says yes, on a route
  pub route-count : (p : ℕ → Bool) (s : ℕ) (ts : List ℕ) → Route g s ts → total g (counts g p) s ts ≡ number-on g p s ts
  route-count p s ts r = count-is g p (λ x. Unit) (λ x. Unit) s ts (after_plain g (λ x. ⊥) (Unfinished g) (Final g) s ts r.1)

  -- .. or the number of counted states on it, from the start where it is a route: "one that quotes a handover count which its
  -- walk lacks" shows no such walk
  pub shown-count : (p : ℕ → Bool) (k : ℕ) (ts : List ℕ) (j : ℕ) → Shown g (counts g p) (number k) ts j
      → (s : ℕ) × Route g s ts × (number-on g p s ts ≡ k)
  shown-count p k ts j (s, r, q, d, z) = (s, r, sym (route-count p s ts r) ∙ q)

  -- what a route costs is what it comes to in 01's own words, the sum of its lows, the sum of its highs, or the number of states that count. An open high adds nothing to
  -- the cost, so it is asked that no walk can take one, as it is where a figure is a number (E2)
  pub in_own-words : (which : Which) (p : ℕ → Bool) → (HasOpenWalk g (cost_over which p g) → ⊥) → (s : ℕ) (ts : List ℕ) → Route g s ts
      → total g (cost_over which p g) s ts ≡ comes_to which p g s ts
  in_own-words LeastDelay p none s ts r = delay-is g (λ t. Seconds (low g t)) s ts
  in_own-words GreatestDelay p none s ts r = highs_of g none s ts r
  in_own-words LeastCount p none s ts r = route-count p s ts r
  in_own-words GreatestCount p none s ts r = route-count p s ts r

  -- "an unfinished walk from a start can take a transition with an open high": a high of 2,047
  pub open_is : HasOpenWalk g (highs g)
      ↔ ((s : ℕ) × (ts : List ℕ) × (t : ℕ) × UnfinishedWalk g s ts × Departs g (arrival g s ts) t × (high g t ≡ 2047))
  open_is = (
    λ (s, ts, w). (s, w.before, w.last, w.unfinished, w.departs, (open_high (high g w.last)).0 w.unlimited),
    λ (s, ts, t, w, d, e).
        (s, ts ++ (t ∷ []), record { before = ts; last = t; ends_with = refl; unfinished = w; departs = d; unlimited = (open_high (high g t)).1 e }),
  )

  -- "Both counts and the least delay pay no heed to it": where nothing is open, a call goes on forever by an endless walk alone, and a loop is shown (`counts_loop`).
  -- What it says of two plans that differ in highs alone is in Heed.antt
  pub no_heed : (c : Cost) → ((t : ℕ) → t < count g → c.unlimited t ≡ false) → GoesOnForever g c → HasEndlessWalk g
  no_heed c none (inl e) = e
  no_heed c none (inr w) = absurd (none_open g c none w)

  pub counts_no_heed : (p : ℕ → Bool) → GoesOnForever g (counts g p) ↔ HasEndlessWalk g
  counts_no_heed p = (no_heed (counts g p) (λ t l. refl), inl)

  pub counts_loop : (p : ℕ → Bool) (ts : List ℕ) (j : ℕ) → Shown g (counts g p) ENDLESS ts j → LoopShown g ts j
  counts_loop p ts j (inl l) = l
  counts_loop p ts j (inr (s, w, q, d)) = absurd (none_open g (counts g p) (λ t l. refl) (s, ts, w))

  -- "A walk shown for that ends with the transition, j equals k"; a loop's has j below k, so j tells which of the two is shown
  pub open_told : (ts : List ℕ) (j : ℕ) → Shown g (highs g) ENDLESS ts j → j ≡ length ts → HasOpenWalk g (highs g)
  open_told ts j (inl (s, w, l, q, d)) e = absurd (omega arith)
  open_told ts j (inr (s, w, q, d)) e = (s, ts, w)
