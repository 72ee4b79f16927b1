-- Every walk has a simple one: from the same state to the same state, no state visited twice, and at no greater cost.
--
-- By recursion on the transitions. The walk of none is simple. Otherwise make the rest of the walk simple first. If the
-- first state is not on it, put the first transition back in front. If it is, at place i, then the walk from there on
-- begins at the first state, and it is a part of a simple walk, so it is simple (`from_place`). Leaving transitions out
-- never raises a cost. A simple walk visits at most n states, so it has fewer than n transitions.
--
-- A walk of the plan from an unfinished start is such a walk. From a final start, make the walk after the first step simple: the states on it before its last
-- are unfinished, so the start is none of them, and the walk visits no state twice but perhaps its first as its last (`simple-begun`). Without its last
-- state it visits at most n, so it has at most n transitions (`begun-length`). Assumes nothing.
use Prim.Native.Nat.{ℕ, zero, suc, ◌≤◌, ◌<◌}
use mathlib.Core.Path.{◌≡◌, refl, sym, ◌∙◌, subst}
use mathlib.Core.Bool.{true, false, true≢false}
use mathlib.Core.Logic.{◌⊎◌, inl, inr}
use mathlib.Core.List.{List, [], ◌∷◌}
use native.Mathlib.Nat.{not-suc-le-zero, le_of_suc-le-suc, le_refl, le_trans}
use native.Mathlib.Omega.{arith}
use lib.ListN.{length, take}
use lib.Seq.{length-take-le, get_or-take}
use Rattle.graph.specs.Graph.{Graph, states, final, to, Final, Unfinished, Closed}
use Rattle.graph.specs.Walk.{Begins, WalkTo, WalkFrom, AfterStart, Begun, visits, arrival, Different, DifferentButEnds}
use Rattle.graph.specs.Route.{Cost, total}
use Rattle.graph.proofs.Repeat.{nth, Found, Absent, find, different_cons, different-one, different-drop}
use Rattle.graph.proofs.Repeat.{different-length, different-ends, different-ends_cons, different-front}
use Rattle.graph.proofs.Tests.{decided}
use Rattle.graph.proofs.Walks.{start-below, length-visits, visits-below, passed, with_last, all-unfinished, after_plain}

module _ (g : Graph) (pass stop : ℕ → Type 0) where
  -- a simple walk from x to where the walk from s by ts leads, at no greater cost
  pub record SimpleWalk (x s : ℕ) (ts : List ℕ) : Type 0 where
    pub short : List ℕ
    pub walk : WalkTo g pass stop x short
    pub different : Different (visits g x short)
    pub ends : arrival g x short ≡ arrival g s ts
    pub cheaper : (c : Cost) → total g c x short ≤ total g c s ts

  itself : (s : ℕ) (ts : List ℕ) → WalkTo g pass stop s ts → Different (visits g s ts) → SimpleWalk s s ts
  itself s ts w d = record { short = ts; walk = w; different = d; ends = refl; cheaper = λ c. le_refl _ }

  -- one more transition in front of the whole walk, and none in front of the simple one
  skip : (x s t : ℕ) (ts : List ℕ) → SimpleWalk x (to g t) ts → SimpleWalk x s (t ∷ ts)
  skip x s t ts r = record {
    short = r.short;
    walk = r.walk;
    different = r.different;
    ends = r.ends;
    cheaper = λ c. omega (arith, r.cheaper c);
  }

  -- from the i-th state of a simple walk on
  from_place : (s : ℕ) (ts : List ℕ) → WalkTo g pass stop s ts → Different (visits g s ts) → (i : ℕ)
      → i < length (visits g s ts)
      → SimpleWalk (nth (visits g s ts) i) s ts
  from_place s [] w d zero h = itself s [] w d
  from_place s [] w d (suc i) h = absurd (not-suc-le-zero (le_of_suc-le-suc h))
  from_place s (t ∷ ts) w d zero h = itself s (t ∷ ts) w d
  from_place s (t ∷ ts) w d (suc i) h =
      let d' = different-drop 1 (visits g s (t ∷ ts)) d in
      skip (nth (visits g (to g t) ts) i) s t ts (from_place (to g t) ts w.2 d' i (le_of_suc-le-suc h))

  again : (x y : ℕ) (ts : List ℕ) (r : SimpleWalk y y ts) → SimpleWalk x y r.short → SimpleWalk x y ts
  again x y ts r q = record {
    short = q.short;
    walk = q.walk;
    different = q.different;
    ends = q.ends ∙ r.ends;
    cheaper = λ c. le_trans (q.cheaper c) (r.cheaper c);
  }

  pub simple : (s : ℕ) (ts : List ℕ) → WalkTo g pass stop s ts → SimpleWalk s s ts
  simple s [] w = itself s [] w (different-one s)
  simple s (t ∷ ts) w = go (simple (to g t) ts w.2)
    where
      on : SimpleWalk (to g t) (to g t) ts → List ℕ
      on r = visits g (to g t) r.short

      join_up : (r : SimpleWalk (to g t) (to g t) ts)
          → Found (nth (on r)) s (length (on r)) ⊎ Absent (nth (on r)) s (length (on r)) → SimpleWalk s s (t ∷ ts)
      join_up r (inl f) =
          let q = from_place (to g t) r.short r.walk r.different f.place f.below in
          skip s s t ts (again s (to g t) ts r (subst (λ (x : ℕ). SimpleWalk x (to g t) r.short) f.same q))
      join_up r (inr new) = record {
        short = t ∷ r.short;
        walk = (w.0, w.1, r.walk);
        different = different_cons s (on r) new r.different;
        ends = r.ends;
        cheaper = λ c. omega (arith, r.cheaper c);
      }

      go : SimpleWalk (to g t) (to g t) ts → SimpleWalk s s (t ∷ ts)
      go r = join_up r (find (nth (on r)) s (length (on r)))

-- a walk of the plan that leaves no state twice has at most n transitions
pub left-length : (g : Graph) → Closed g → (s : ℕ) (ts : List ℕ) → Begins g s → WalkFrom g s ts → Different (take (length ts) (visits g s ts)) → length ts ≤ states g
left-length g closed s ts b w d =
    let k = length ts in
    let xs = visits g s ts in
    let hk : k ≤ length xs = omega (arith, length-visits g s ts) in
    let lk : length (take k xs) ≡ k = length-take-le k xs hk in
    let all = visits-below g (λ s. Unit) (λ s. Unit) closed s ts (start-below g s b) w in
    let first : (i : ℕ) → i < length (take k xs) → nth (take k xs) i < states g = λ i h. rw (get_or-take k xs i 0 (omega arith)) (all i (omega arith)) in
    rw lk at (different-length (states g) (take k xs) d first)

module _ (g : Graph) (alone stop : ℕ → Type 0) where
  pub begun-length : Closed g → (s : ℕ) (ts : List ℕ) → Begun g alone (WalkTo g (Unfinished g) stop) s ts → DifferentButEnds (visits g s ts)
      → length ts ≤ states g
  begun-length closed s ts (b, w) d =
      left-length g closed s ts b (after_plain g alone (Unfinished g) stop s ts w)
      (different-front (visits g s ts) (length ts) (omega (arith, length-visits g s ts)) d)

  -- the states after a first step, where those before the last are unfinished, and the start is not
  pub returns_last : (s t : ℕ) (ts : List ℕ) → Final g s → WalkTo g (Unfinished g) stop (to g t) ts → Different (visits g (to g t) ts)
      → DifferentButEnds (visits g s (t ∷ ts))
  returns_last s t ts f w d =
      different-ends_cons s (visits g (to g t) ts)
      (λ i h e. true≢false (sym f ∙ subst (Unfinished g) e (passed g (Unfinished g) stop (to g t) ts w i (omega (arith, length-visits g (to g t) ts))))) d

  -- nor is the last, where it is unfinished too
  returns_never : (s t : ℕ) (ts : List ℕ) → Final g s → WalkTo g (Unfinished g) stop (to g t) ts → Unfinished g (arrival g (to g t) ts)
      → Different (visits g (to g t) ts) → Different (visits g s (t ∷ ts))
  returns_never s t ts f w u d =
      let v = with_last g (Unfinished g) stop (Unfinished g) (to g t) ts w u in
      different_cons s (visits g (to g t) ts)
      (λ i h e. true≢false (sym f ∙ subst (Unfinished g) e (all-unfinished g (to g t) ts v i (omega (arith, length-visits g (to g t) ts))))) d

  -- where a walk from a start visits no state twice after its first step, and none twice at all from an unfinished start
  pub record SimpleBegun (s : ℕ) (ts : List ℕ) : Type 0 where
    pub short : List ℕ
    pub walk : AfterStart g alone (WalkTo g (Unfinished g) stop) s short
    pub different : DifferentButEnds (visits g s short)
    pub unanswered : Unfinished g (arrival g s ts) → Different (visits g s short)
    pub ends : arrival g s short ≡ arrival g s ts
    pub cheaper : (c : Cost) → total g c s short ≤ total g c s ts

  -- an unfinished start where the walk may stop may be a walk alone
  module _ (stays : (x : ℕ) → Unfinished g x → stop x → alone x) where
    after-short : (s : ℕ) (ts : List ℕ) → Unfinished g s → WalkTo g (Unfinished g) stop s ts → AfterStart g alone (WalkTo g (Unfinished g) stop) s ts
    after-short s [] u w = stays s u w
    after-short s (t ∷ ts) u w = (w.1, w.2)

    pub simple-begun : (s : ℕ) (ts : List ℕ) → AfterStart g alone (WalkTo g (Unfinished g) stop) s ts → SimpleBegun s ts
    simple-begun s [] w = record {
      short = [];
      walk = w;
      different = different-ends (s ∷ []) (different-one s);
      unanswered = λ u. different-one s;
      ends = refl;
      cheaper = λ c. le_refl _;
    }
    simple-begun s (t ∷ ts) w = go (decided (final g s))
      where
        go : (final g s ≡ true) ⊎ (final g s ≡ false) → SimpleBegun s (t ∷ ts)
        go (inl f) =
            let q = simple g (Unfinished g) stop (to g t) ts w.1 in record {
              short = t ∷ q.short;
              walk = (w.0, q.walk);
              different = returns_last s t q.short f q.walk q.different;
              unanswered = λ u. returns_never s t q.short f q.walk (rw q.ends u) q.different;
              ends = q.ends;
              cheaper = λ c. omega (arith, q.cheaper c);
            }
        go (inr u) =
            let q = simple g (Unfinished g) stop s (t ∷ ts) (u, w.0, w.1) in record {
              short = q.short;
              walk = after-short s q.short u q.walk;
              different = different-ends (visits g s q.short) q.different;
              unanswered = λ v. q.different;
              ends = q.ends;
              cheaper = q.cheaper;
            }
