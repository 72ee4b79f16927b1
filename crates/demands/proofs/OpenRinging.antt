-- Open-ended ringing, of whatever keeps the promises. A walk that rings is one that takes an open transition (graph's `open_is`), so the greatest delay's sentences say the
-- rest. A figure of two plans that differ in highs alone is one by computation, and that is the same for both (graph/proofs/Heed.antt). Then plans that meet the
-- premises, and two impostors: one that sums an open high, and one that shows it with a j below k. Assumes nothing.
use mathlib.Core.List.{List, [], ◌∷◌}
use mathlib.Core.Logic.{◌⊎◌, inl, inr, ⊎_elim}
use mathlib.Core.Path.{◌≡◌, refl, sym, ap, ◌∙◌, subst}
use mathlib.Core.Bool.{Bool, true, true≢false}
use Prim.Native.Nat.{ℕ, suc}
use native.Mathlib.Omega.{arith}
use lib.ListN.{length, get_or, take}
use Rattle.bounds.proofs.Chained.{chain-least, chain-greatest}
use Rattle.graph.specs.declared.Asked.{Asked}
use Rattle.graph.specs.declared.Asked.TheVariants.{One, LeastCountFor, GreatestCountFor}
use Rattle.graph.specs.declared.Which.TheVariants.{LeastDelay, GreatestDelay, LeastCount, GreatestCount}
use Rattle.graph.specs.Class.{figure_of, counting, in_class_of, same_class}
use Rattle.graph.specs.Compute.{any, least, greatest, figure_for}
use Rattle.graph.specs.Figure.{Figure, number, ENDLESS, LoopShown, Shown, IsGreatest, IsFigure}
use Rattle.graph.specs.Graph.{Graph, State, marked, marks_of, team_of, start, final, counted, counted_mark, transition, from, to, low, high}
use Rattle.graph.specs.Known.{plan, join, open_at-once, open_reached, all_but_open}
use Rattle.graph.specs.Route.{HasEndlessWalk, HasOpenWalk, GoesOnForever, SameButHighs, highs, counts}
use Rattle.graph.specs.Which.{place}
use Rattle.graph.proofs.Basic.{takes_one}
use Rattle.graph.proofs.Endless.{shown-endless}
use Rattle.graph.proofs.Heed.{one-least-delay, one-least-count, one-greatest-count}
use Rattle.graph.proofs.Known.{delay-alone}
use Rattle.graph.proofs.Open.{limited, open_high}
use Rattle.graph.proofs.Sentences.{open_is, shown-highs, in_own-words, counts_no_heed, counts_loop}
use Rattle.std.proofs.Common.{Ok}
use Rattle.rules.specs.declared.Quote.{Quote}
use Rattle.rules.specs.Limits.{within}
use Rattle.rules.specs.Quotations.{meant, Stated, GreatestQuoted}
use Rattle.rules.proofs.Figures.{within-closed, greatest_exists}
use Rattle.rules.proofs.Sizes.{figure-said}
use Rattle.arrays.specs.declared.Plan.{Plan}
use Rattle.plan.specs.View.{view}
use Rattle.demands.specs.Calculator.{Calculator, Promises}
use Rattle.demands.specs.OpenRinging.{Rings, RingShown, OpenRinging}
use Rattle.demands.proofs.Demands.{said_of, quoted-within}
use Rattle.demands.proofs.Said.{number_not_endless}

-- ---- walks that ring

pub of_rings : (g : Graph) → Rings g → HasOpenWalk g (highs g)
of_rings g r = (open_is g).1 (r.first, r.walk, r.ring, r.unfinished, r.departs, r.no-limit)

pub to-rings : (g : Graph) → HasOpenWalk g (highs g) → Rings g
to-rings g w =
    let (s, ts, t, u, d, e) = (open_is g).0 w in
    record { first = s; walk = ts; ring = t; unfinished = u; departs = d; no-limit = e }

-- what is shown beside ENDLESS of the greatest delay
shown-ring : (g : Graph) (k j : ℕ) (ts : List ℕ) → length ts ≡ k → Shown g (highs g) ENDLESS ts j → LoopShown g ts j ⊎ RingShown g ts k j
shown-ring g k j ts long (inl l) = inl l
shown-ring g k j ts long (inr (s, w, at, d)) =
    inr (record {
      rings = record {
        first = s;
        walk = w.before;
        ring = w.last;
        unfinished = w.unfinished;
        departs = w.departs;
        no-limit = (open_high (high g w.last)).0 w.unlimited;
      };
      ends_with = w.ends_with;
      place = at ∙ long;
      differ = rw (← long) d;
    })

-- ---- plans that differ in highs alone

-- the same states count
same-counting : (asked : Asked) (g h : Graph) → SameButHighs g h → counting asked g ≡ counting asked h
unfolding counted marks_of in_class_of team_of
same-counting (One which) g h same = ap {B = ℕ → Bool} (λ (l : List State) (s : ℕ). counted_mark (get_or l s (marked 0)).marks) same.same-states
same-counting (LeastCountFor team) g h same = ap {B = ℕ → Bool} (λ (l : List State) (s : ℕ). same_class (get_or l s (marked 0)).team team) same.same-states
same-counting (GreatestCountFor team) g h same = ap {B = ℕ → Bool} (λ (l : List State) (s : ℕ). same_class (get_or l s (marked 0)).team team) same.same-states

-- so a count of the one is that of the other
module _ (asked : Asked) (g h : Graph) (same : SameButHighs g h) (w : within g ≡ true) where
  least-count : least g (counts g (counting asked g)) ≡ least h (counts h (counting asked h))
  least-count =
      one-least-count g h same (within-closed g w) (counting asked g) ∙ ap (λ (test : ℕ → Bool). least h (counts h test)) (same-counting asked g h same)

  greatest-count : greatest g (counts g (counting asked g)) ≡ greatest h (counts h (counting asked h))
  greatest-count =
      one-greatest-count g h same (within-closed g w) (counting asked g) ∙ ap (λ (test : ℕ → Bool). greatest h (counts h test)) (same-counting asked g h same)

-- ---- the record

module _ (c : Calculator) (keeps : Promises c) where
  module _ {p : Plan} {before after : List ℕ} (q : Quote) (x : c.quotes (One GreatestDelay) p before after (Ok q)) where
    abbrev g : Graph
    g = view p

    delay-said : GreatestQuoted g (highs g) (meant q.figure) q.k q.j before after
    delay-said = said_of c keeps q x

    -- where it is a number, it is the greatest one, and no walk can take an open transition
    is-greatest : (n : ℕ) → meant q.figure ≡ number n → IsGreatest g (highs g) (number n)
    is-greatest n e = subst (IsGreatest g (highs g)) (sym delay-said.figure ∙ e) (greatest_exists g (quoted-within c keeps q x) (highs g))

    none-rings : (n : ℕ) → meant q.figure ≡ number n → HasOpenWalk g (highs g) → ⊥
    none-rings n e w = number_not_endless n (sym e ∙ delay-said.endless.1 (inr w))

    ring_or_loop : meant q.figure ≡ ENDLESS → LoopShown g (take q.k after) q.j ⊎ RingShown g (take q.k after) q.k q.j
    ring_or_loop e =
        shown-ring g q.k q.j (take q.k after) delay-said.shows.number_of
        (subst (λ (f : Figure). Shown g (highs g) f (take q.k after) q.j) e delay-said.shows.walk)

  -- a count's ENDLESS
  looped : (test : ℕ → Bool) (g : Graph) (q : Quote) (before after : List ℕ) → Stated (GreatestQuoted g (counts g test)) q before after → meant q.figure ≡ ENDLESS
      → HasEndlessWalk g × LoopShown g (take q.k after) q.j
  looped test g q before after s e = (
    (counts_no_heed g test).0 (s.endless.0 e),
    counts_loop g test (take q.k after) q.j (subst (λ (f : Figure). Shown g (counts g test) f (take q.k after) q.j) e s.shows.walk),
  )

  no_heed : (asked : Asked) {p p' : Plan} {before after before' after' : List ℕ} (q q' : Quote) → (figure_of asked ≡ GreatestDelay → ⊥)
      → SameButHighs (view p) (view p') → c.quotes asked p before after (Ok q) → c.quotes asked p' before' after' (Ok q')
      → meant q.figure ≡ meant q'.figure
  no_heed (One LeastDelay) {p} {p'} q q' other same x y =
      (said_of c keeps q x).figure ∙ one-least-delay (view p) (view p') same (within-closed (view p) (quoted-within c keeps q x)) ∙ sym (said_of c keeps q' y).figure
  no_heed (One GreatestDelay) q q' other same x y = absurd (other refl)
  no_heed (One LeastCount) {p} {p'} q q' other same x y =
      (said_of c keeps q x).figure ∙ least-count (One LeastCount) (view p) (view p') same (quoted-within c keeps q x) ∙ sym (said_of c keeps q' y).figure
  no_heed (One GreatestCount) {p} {p'} q q' other same x y =
      (said_of c keeps q x).figure ∙ greatest-count (One GreatestCount) (view p) (view p') same (quoted-within c keeps q x) ∙ sym (said_of c keeps q' y).figure
  no_heed (LeastCountFor team) {p} {p'} q q' other same x y =
      (said_of c keeps q x).figure ∙ least-count (LeastCountFor team) (view p) (view p') same (quoted-within c keeps q x) ∙ sym (said_of c keeps q' y).figure
  no_heed (GreatestCountFor team) {p} {p'} q q' other same x y =
      (said_of c keeps q x).figure ∙ greatest-count (GreatestCountFor team) (view p) (view p') same (quoted-within c keeps q x) ∙ sym (said_of c keeps q' y).figure

  by_a_loop : (asked : Asked) {p : Plan} {before after : List ℕ} (q : Quote) → figure_of asked ≡ GreatestCount → c.quotes asked p before after (Ok q)
      → meant q.figure ≡ ENDLESS → HasEndlessWalk (view p) × LoopShown (view p) (take q.k after) q.j
  by_a_loop (One LeastDelay) q is x e = let z : ◌≡◌ {A = ℕ} 0 3 = ap place is in absurd (omega arith)
  by_a_loop (One GreatestDelay) q is x e = let z : ◌≡◌ {A = ℕ} 1 3 = ap place is in absurd (omega arith)
  by_a_loop (One LeastCount) q is x e = let z : ◌≡◌ {A = ℕ} 2 3 = ap place is in absurd (omega arith)
  by_a_loop (One GreatestCount) {p} {before} {after} q is x e = looped (counted (view p)) (view p) q before after (said_of c keeps q x) e
  by_a_loop (LeastCountFor team) q is x e = let z : ◌≡◌ {A = ℕ} 2 3 = ap place is in absurd (omega arith)
  by_a_loop (GreatestCountFor team) {p} {before} {after} q is x e = looped (in_class_of (view p) team) (view p) q before after (said_of c keeps q x) e

  pub open_ringing : OpenRinging c
  unfolding figure_for any marks_of start final counted transition from to low high
  open_ringing = record {
    none_open = λ {p} q n x e s ts r i h is.
        true≢false (sym ((open_high (high (view p) (get_or ts i 0))).1 is) ∙ limited (view p) (highs (view p)) (none-rings q x n e) s ts r i h);
    sum_of_highs = λ {p} {before} {after} q n x e. (
      shown-highs (view p) n (take q.k after) q.j (is-greatest q x n e)
          (subst (λ (f : Figure). Shown (view p) (highs (view p)) f (take q.k after) q.j) e (delay-said q x).shows.walk),
      λ s ts r. rw (← in_own-words (view p) GreatestDelay (counted (view p)) (none-rings q x n e) s ts r) ((delay-said q x).largest n e s ts r),
    );
    one_less = λ {p} q e x. figure-said GreatestDelay (view p) _ _ _ _ _ (said_of c keeps q x) ∙ ap (figure_for GreatestDelay) e;
    endless_also = λ {p} q x r. (delay-said q x).endless.1 (inr (of_rings (view p) r));
    shown_for_that = λ q x e. ring_or_loop q x e;
    shown-alone = λ {p} {before} {after} q x e without. alone p (take q.k after) q.k q.j without (ring_or_loop q x e);
    no_heed = λ {asked}. no_heed asked;
    by_a_loop = λ {asked}. by_a_loop asked;
    forever = λ {p} q x. (λ e. forever_so (view p) ((delay-said q x).endless.0 e), λ w. (delay-said q x).endless.1 (so_forever (view p) w));
    least_of_P10 = λ {p} q e x. figure-said LeastDelay (view p) _ _ _ _ _ (said_of c keeps q x) ∙ ap (figure_for LeastDelay) e ∙ chain-least;
    greatest_of_P10 = λ {p} q e x. figure-said GreatestDelay (view p) _ _ _ _ _ (said_of c keeps q x) ∙ ap (figure_for GreatestDelay) e ∙ chain-greatest;
    stranded = λ {p} q x. (
      λ e. let (on, ends) = (delay-said q x).stranded.0 e in (λ w. on (inl w), λ r. on (inr (of_rings (view p) r)), ends),
      λ (endless, rings, ends). (delay-said q x).stranded.1 (⊎_elim endless (λ w. rings (to-rings (view p) w)), ends),
    );
  }
    where
      alone : (p : Plan) (ts : List ℕ) (k j : ℕ) → (HasEndlessWalk (view p) → ⊥) → LoopShown (view p) ts j ⊎ RingShown (view p) ts k j → RingShown (view p) ts k j
      alone p ts k j without (inl l) = let (s, taken, w, e) = shown-endless (view p) ts j l in absurd (without (s, taken, w))
      alone p ts k j without (inr r) = r

      forever_so : (g : Graph) → GoesOnForever g (highs g) → HasEndlessWalk g ⊎ Rings g
      forever_so g (inl w) = inl w
      forever_so g (inr w) = inr (to-rings g w)

      so_forever : (g : Graph) → HasEndlessWalk g ⊎ Rings g → GoesOnForever g (highs g)
      so_forever g (inl w) = inl w
      so_forever g (inr r) = inr (of_rings g r)

-- ---- what meets the premises, and what breaks the record

-- 0→1 2047..2047: the start alone is a walk, and the transition rings
pub rings-at-once : Rings open_at-once.plan
rings-at-once = to-rings open_at-once.plan (0, 0 ∷ [], takes_one)

-- and a plan whose greatest delay is ENDLESS by that alone
pub rings-without_a_loop : IsFigure GreatestDelay open_reached.plan ENDLESS × (HasEndlessWalk open_reached.plan → ⊥)
rings-without_a_loop = (delay-alone.0, λ w. delay-alone.1.1 (inl w))

-- 0→1 0..2047 beside 0→1 0..2046: they differ in highs alone, and in their greatest delays
abbrev pub opened-once : Graph
opened-once = plan (4 ∷ 2 ∷ []) (join 0 1 0 2047 ∷ [])

pub differs_in_highs : SameButHighs opened-once all_but_open.plan
differs_in_highs = record { same-states = refl; same-transitions = refl }

pub differs_in_delay : (figure_for GreatestDelay opened-once ≡ ENDLESS) × (figure_for GreatestDelay all_but_open.plan ≡ number 2046)
unfolding figure_for any marks_of start final counted transition from to low high
differs_in_delay = (refl, refl)

-- one that sums the open high, whatever it comes to
pub sums_an_open_high : (c : Calculator) → OpenRinging c → {p : Plan} {before after : List ℕ} (q : Quote) (n : ℕ) → view p ≡ open_at-once.plan
    → c.quotes (One GreatestDelay) p before after (Ok q) → meant q.figure ≡ number n → ⊥
sums_an_open_high c d q n e x f = number_not_endless n (sym f ∙ d.endless_also q x (subst Rings (sym e) rings-at-once))

-- one that shows a ring with its j one below k
pub shows_a_ring_early : (c : Calculator) → OpenRinging c → {p : Plan} {before after : List ℕ} (q : Quote) → (HasEndlessWalk (view p) → ⊥)
    → c.quotes (One GreatestDelay) p before after (Ok q) → meant q.figure ≡ ENDLESS → suc q.j ≡ q.k → ⊥
shows_a_ring_early c d q without x e early = omega (arith, (d.shown-alone q x e without).place)
