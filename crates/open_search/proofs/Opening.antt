-- Open transitions in the arrays, as the definitions have them.
--
-- 1. The walk down the tree to the state that an open transition leaves, with the transition at its end, is what is shown for ENDLESS (`open_quoted`).
-- 2. Where the hunt found none, a walk takes an open transition only where an endless one is (`open_beside-endless`): there is no start; or there is a loop; or the search
--    came to its end, and no open transition leaves a state that the starts reach.
-- Assumes nothing.
use mathlib.Core.Bool.{true}
use mathlib.Core.List.{List, [], ◌∷◌, ◌++◌}
use mathlib.Core.Logic.{inr}
use mathlib.Core.Path.{◌≡◌, refl, sym, ◌∙◌, ap}
use Prim.Native.Nat.{ℕ, suc, ◌+◌, ◌≤◌, ◌<◌}
use native.Mathlib.Nat.{le_refl, le_of_eq}
use native.Mathlib.Numerals.{add-one}
use native.Mathlib.Omega.{arith}
use lib.ListN.{length, take, drop, set, length-append}
use lib.Seq.{length-take-le, take-suc-set, drop-set-lt, drop-drop}
use Rattle.graph.specs.Graph.{Graph, Departs}
use Rattle.graph.specs.Walk.{arrival}
use Rattle.graph.specs.Route.{Cost, limit, is_open, HasEndlessWalk, HasOpenWalk}
use Rattle.graph.specs.Figure.{ENDLESS, IsGreatest, Shown}
use Rattle.graph.proofs.Certificate.{greatest-endless, no_open}
use Rattle.graph.proofs.Endless.{shown-endless}
use Rattle.graph.proofs.Open.{ring-shown}
use Rattle.rules.specs.Image.{tabulate}
use Rattle.rules.proofs.Tabulated.{length-tabulate, get_d_tabulate}
use Rattle.search.specs.Arrays.{Arrays, at, Bounded, StandsIn}
use Rattle.search.specs.Quoted.{Quoted}
use Rattle.search.proofs.Held.{begins_in, departs, leaves}
use Rattle.turns.specs.declared.Table.{Table}
use Rattle.turns.specs.Search.{Loop}
use Rattle.reach.specs.declared.Reach.{Reach}
use Rattle.reach.specs.declared.Reach.TheVariants.{NoStart, Looped, DeadEnd, Ends}
use Rattle.reach.specs.Explored.{Ranked, Reached}
use Rattle.tree.specs.Tree.{Climbs, Climbed}
use Rattle.values.proofs.BestFigure.{falling}
use Rattle.greatest_search.proofs.GreatestFigure.{WalkDown, walked_down, loop-shown}
use Rattle.open_search.specs.Open.{NoneOpen, Ended}

-- ---- 1

-- where the search came to its end, all that it entered was left
pub ended_ranked : (A : Arrays) (a : Table) (found : Reach) → Reached A a found → Ended found → (done : ℕ) × Ranked A a done
ended_ranked A a NoStart reached ended = absurd ended
ended_ranked A a (Looped d j) reached ended = absurd ended
ended_ranked A a (DeadEnd s) reached ended = reached.0
ended_ranked A a (Ends done) reached ended = (done, reached.0)

module _ {A : Arrays} (b : Bounded A) {a : Table} {done : ℕ} (r : Ranked A a done) {g : Graph} (held : StandsIn A g) (c : Cost) where
  -- k transitions were written for the state that t leaves, and then t
  pub open_quoted : (t k : ℕ) (before between : List ℕ) → A.n ≤ length before → length between ≡ length before → t < A.m → 0 < at a.rank (at A.from t)
      → c.unlimited t ≡ true → Climbs A.n A.m A.from a.rank a.via (at A.from t) k → Climbed A.from a.via (at A.from t) k before between
      → Quoted (IsGreatest g c) g c ENDLESS (suc k) (suc k) before (set between k t)
  open_quoted t k before between room long l p o climbs climbed = record {
    right = greatest-endless g c (take (suc k) (set between k t)) (suc k) shown;
    shown = shown;
    fits = omega (arith, climbs.fits, held.as_many);
    later = drop-set-lt (suc k) between k t (le_refl (suc k)) ∙ one_more between ∙ ap (drop 1) climbed.later ∙ sym (one_more before);
  }
    where
      s : ℕ
      s = at A.from t

      one_more : (l : List ℕ) → drop (suc k) l ≡ drop 1 (drop k l)
      one_more l = ap (λ (x : ℕ). drop x l) (sym (add-one k)) ∙ sym (drop-drop 1 k l)

      place : k < length between
      place = omega (arith, climbs.fits)

      down : WalkDown g s (take k between)
      down = walked_down A b a done r g held s k before between (omega (arith, climbs.fits)) (b.leaves t l) p climbs climbed

      leaves_s : Departs g (arrival g down.first (take k between)) t
      leaves_s = rw down.arrives (departs held (record { listed = l; source = refl }))

      walk : take (suc k) (set between k t) ≡ take k between ++ (t ∷ [])
      walk = take-suc-set between k t place

      long-walk : length (take k between ++ (t ∷ [])) ≡ suc k
      long-walk = length-append (take k between) (t ∷ []) ∙ ap (λ (x : ℕ). x + 1) (length-take-le k between (omega arith)) ∙ omega arith

      shown : Shown g c ENDLESS (take (suc k) (set between k t)) (suc k)
      shown = rw (walk, sym long-walk) (inr (ring-shown g c down.first (take k between) down.walk down.different t leaves_s o))

-- ---- 2

module _ {A : Arrays} (b : Bounded A) (a : Table) {g : Graph} (held : StandsIn A g) (c : Cost) (high : List ℕ)
    (opens : (t : ℕ) → t < A.m → c.unlimited t ≡ is_open (limit (at high t))) where
  -- a loop that the search found, by the transitions on its stack
  loop-endless : {d j : ℕ} → Loop A a d j → HasEndlessWalk g
  loop-endless {d} {j} l =
      let walk = tabulate d (λ i. at a.cursor (at a.stack i)) in
      let long : length walk ≡ d = length-tabulate d (λ i. at a.cursor (at a.stack i)) in
      let shown = loop-shown A b a d j l walk (λ i h. get_d_tabulate d (λ i. at a.cursor (at a.stack i)) i 0 h) g held (le_of_eq (sym long)) in
      let (s, taken, e, front) = shown-endless g (take d walk) j shown in
      (s, taken, e)

  -- the search came to its end
  none_taken : (done : ℕ) → Ranked A a done → NoneOpen A.m A.from high a.rank A.m → HasOpenWalk g c → ⊥
  none_taken done r none =
      no_open g (λ x. (x < A.n) × (0 < at a.rank x)) (at a.rank) (falling A b a done r g held) c
      (λ s t (h, p) d. let l = leaves held d in opens t l.listed ∙ none t l.listed (rw l.source p))

  pub open_beside-endless : (found : Reach) → Reached A a found → (Ended found → NoneOpen A.m A.from high a.rank A.m) → HasOpenWalk g c → HasEndlessWalk g
  open_beside-endless NoStart reached none (s, ts, w) = let (h, e) = begins_in held s w.unfinished.0 in absurd (reached s h e)
  open_beside-endless (Looped d j) reached none w = loop-endless reached
  open_beside-endless (DeadEnd s) reached none w = absurd (none_taken reached.0.0 reached.0.1 (none tt) w)
  open_beside-endless (Ends done) reached none w = absurd (none_taken done reached.0 (none tt) w)
