-- When a walk can take an open transition, and what follows where none can.
--
-- 1. A walk that takes one is a walk of unfinished states to a state that an open transition leaves (`Opens`), with that transition at its end; so
--    there is one exactly when such a state is reached, or is a start, and the test of specs/Compute.antt says yes exactly then (`any_open_lem`).
-- 2. The walk to that state has one that visits no state twice, since it ends unanswered or is a start alone, and with the transition at its end it is what is
--    shown: the states that it leaves differ (`open_shown`).
-- 3. Where no walk takes an open transition, no route does: every transition on one lasts a number of seconds (`limited`). So a greatest delay that is
--    a number is the sum of the highs themselves (`highs_of`).
-- 4. A cost without open transitions has no such walk (`none_open`): lows and counts pay no heed to them.
-- Assumes nothing.
use Prim.Native.Nat.{ℕ, suc, ◌+◌, ◌<◌, suc-le-suc}
use mathlib.Core.Path.{◌≡◌, refl, sym, ◌∙◌, ap, ap₂, subst}
use mathlib.Core.Bool.{Bool, true, false, not, cond, ◌&&◌, true≢false, false≢true, and-eq-true_iff}
use mathlib.Core.List.{List, [], ◌∷◌, ◌++◌}
use mathlib.Core.Logic.{◌⊎◌, inl, inr, ◌↔◌}
use native.Mathlib.Nat.{le_of_lt, zero-lt-suc}
use native.Mathlib.Omega.{arith}
use lib.Dec.{eqb}
use lib.ListN.{length, take, length-append}
use lib.Seq.{take-append_seam}
use borrow.Author.Tests.{eqb-true, eq-eqb, not-true}
use Rattle.graph.specs.declared.Duration.TheVariants.{Seconds, Open}
use Rattle.graph.specs.Graph.{Graph, count, final, from, to, high, Departs, Final, Unfinished, Closed}
use Rattle.graph.specs.Walk.{AfterStart, WalkFrom, visits, arrival, UnfinishedFrom, UnfinishedWalk, Different, DifferentButEnds}
use Rattle.graph.specs.Route.{Route, Cost, total, limit, seconds, is_open, highs, delay, OpenWalk, HasOpenWalk}
use Rattle.graph.specs.Figure.{OpenShown}
use Rattle.graph.specs.Compute.{within, opens, ringing, any_open}
use Rattle.graph.proofs.Tests.{Tests, decided, any_of, in_any}
use Rattle.graph.proofs.Repeat.{nth, different-one}
use Rattle.graph.proofs.Walks.{length-visits, state-after, departs-at, stopped, after_plain, after_passed, after-stopped, after_with, after_last, after_front}
use Rattle.graph.proofs.Cost.{delay-is}
use Rattle.graph.proofs.Build.{visits_snoc, walk_snoc}
use Rattle.graph.proofs.Simple.{SimpleBegun, simple-begun, begun-length}
use Rattle.graph.proofs.Listed.{Yes, of_nonempty, in_nonempty, of_within, in_within}

module _ (g : Graph) (c : Cost) where
  -- ---- 1

  -- an open transition leaves the state
  pub record Opens (s : ℕ) : Type 0 where
    pub ring : ℕ
    pub departs : Departs g s ring
    pub unlimited : c.unlimited ring ≡ true

  abbrev leaves_open : ℕ → ℕ → Bool
  leaves_open s t = eqb (from g t) s && c.unlimited t

  of_opens : (s : ℕ) → opens g c s ≡ true → Opens s
  unfolding opens
  of_opens s e =
      let (t, h, q) = any_of (leaves_open s) (count g) e in
      let (d, o) = (and-eq-true_iff (eqb (from g t) s) (c.unlimited t)).0 q in
      record { ring = t; departs = record { listed = h; source = eqb-true (from g t) s d }; unlimited = o }

  in_opens : (s : ℕ) → Opens s → opens g c s ≡ true
  unfolding opens
  in_opens s r =
      let t = r.ring in
      in_any (leaves_open s) (count g) t r.departs.listed
      ((and-eq-true_iff (eqb (from g t) s) (c.unlimited t)).1 (eq-eqb (from g t) s r.departs.source, r.unlimited))

  -- and the state is unfinished
  of_ringing : (s : ℕ) → ringing g c s ≡ true → Unfinished g s × Opens s
  unfolding ringing
  of_ringing s e = let (u, v) = (and-eq-true_iff (not (final g s)) (opens g c s)).0 e in (not-true (final g s) u, of_opens s v)

  in_ringing : (s : ℕ) → Unfinished g s → Opens s → ringing g c s ≡ true
  unfolding ringing
  in_ringing s u r = (and-eq-true_iff (not (final g s)) (opens g c s)).1 (ap not u, in_opens s r)

  -- where a walk takes one
  opens_at : (s : ℕ) (ts : List ℕ) (w : OpenWalk g c s ts) → Opens (arrival g s w.before)
  opens_at s ts w = record { ring = w.last; departs = w.departs; unlimited = w.unlimited }

  -- a walk of unfinished states of which none stands twice
  simple-unfinished : (s : ℕ) (ts : List ℕ) → UnfinishedWalk g s ts → SimpleBegun g (λ x. Unit) (Unfinished g) s ts
  simple-unfinished s ts w = simple-begun g (λ x. Unit) (Unfinished g) (λ x u v. tt) s ts w.1

  pub any_open_lem : Closed g → Tests (any_open g c) (HasOpenWalk g c)
  unfolding any_open
  any_open_lem closed = record {
    sound = λ e.
        let (p, m) = of_nonempty (within g (opens g c) (ringing g c)) e in
        let (b, w) = of_within g (opens g c) (ringing g c) p m in
        let r = after-stopped g (Yes (opens g c)) (Unfinished g) (Yes (ringing g c)) Opens of_opens (λ x q. (of_ringing x q).1) p.0 p.1 w in
        let u = after_with g (Yes (opens g c)) (Unfinished g) (Yes (ringing g c)) (λ x. Unit) (Unfinished g) (λ x q. tt) (λ x q. (of_ringing x q).0) p.0 p.1 w in
        (p.0, p.1 ++ (r.ring ∷ []), record { before = p.1; last = r.ring; ends_with = refl; unfinished = (b, u); departs = r.departs; unlimited = r.unlimited });
    complete = λ (s, ts, w).
        let b = w.unfinished.0 in
        let q = simple-unfinished s w.before w.unfinished in
        let h = begun-length g (λ x. Unit) (Unfinished g) closed s q.short (b, q.walk) q.different in
        let r : Opens (arrival g s q.short) = rw q.ends (opens_at s ts w) in
        let v = after_last g (λ x. Unit) (Unfinished g) (Unfinished g) (Yes (opens g c)) (Yes (ringing g c)) Opens in_opens in_ringing s q.short q.walk r in
        in_nonempty (within g (opens g c) (ringing g c)) (in_within g (opens g c) (ringing g c) s q.short (b, v) h);
  }

  -- it is a walk, of which nothing is asked where it arrives
  pub open_plain : (s : ℕ) (ts : List ℕ) → OpenWalk g c s ts → WalkFrom g s ts
  open_plain s ts w =
      rw w.ends_with
      (walk_snoc g (λ s. Unit) (λ s. Unit) (λ s. Unit) s w.before w.last
      (after_plain g (λ x. Unit) (Unfinished g) (Unfinished g) s w.before w.unfinished.1) tt w.departs tt)

  -- ---- 2

  -- no state twice among those that it leaves
  leaves-differ : (s : ℕ) (ts : List ℕ) (t : ℕ) → Different (visits g s ts) → Different (take (length (ts ++ (t ∷ []))) (visits g s (ts ++ (t ∷ []))))
  leaves-differ s ts t d =
      let k : length (ts ++ (t ∷ [])) ≡ length (visits g s ts) = length-append ts (t ∷ []) ∙ sym (omega (arith, length-visits g s ts)) in
      rw (k, visits_snoc g s ts t, take-append_seam (visits g s ts) (to g t ∷ [])) d

  -- a walk that visits no state twice, and an open transition more
  pub ring-shown : (s : ℕ) (ts : List ℕ) → UnfinishedWalk g s ts → Different (visits g s ts) → (t : ℕ) → Departs g (arrival g s ts) t
      → c.unlimited t ≡ true → OpenShown g c (ts ++ (t ∷ [])) (length (ts ++ (t ∷ [])))
  ring-shown s ts w d t e o =
      (s, record { before = ts; last = t; ends_with = refl; unfinished = w; departs = e; unlimited = o }, refl, leaves-differ s ts t d)

  -- where the walk does not end where it began, or is a start alone
  apart_from_start : (s : ℕ) (ts : List ℕ) (q : SimpleBegun g (λ x. Unit) (Unfinished g) s ts) → Different (visits g s q.short)
  apart_from_start s ts q = go q.short q.walk q.different (λ u. q.unanswered (rw (sym q.ends) u))
    where
      go : (us : List ℕ) → AfterStart g (λ x. Unit) (UnfinishedFrom g) s us → DifferentButEnds (visits g s us)
          → (Unfinished g (arrival g s us) → Different (visits g s us)) → Different (visits g s us)
      go [] v d u = different-one s
      go (t ∷ us) v d u = u (stopped g (Unfinished g) (Unfinished g) (to g t) us v.1)

  pub open_shown : HasOpenWalk g c → (ts : List ℕ) × OpenShown g c ts (length ts)
  open_shown (s, ts, w) =
      let q = simple-unfinished s w.before w.unfinished in
      let d = apart_from_start s w.before q in
      (q.short ++ (w.last ∷ []), ring-shown s q.short (w.unfinished.0, q.walk) d w.last (rw q.ends w.departs) w.unlimited)

  -- ---- 3

  pub limited : (HasOpenWalk g c → ⊥) → (s : ℕ) (ts : List ℕ) → Route g s ts → (i : ℕ) → i < length ts → c.unlimited (nth ts i) ≡ false
  limited none s ts (b, w) i h = go (decided (c.unlimited (nth ts i)))
    where
      front-walk : UnfinishedWalk g s (take i ts)
      front-walk =
          (b, after_front g (λ x. ⊥) (Unfinished g) (Final g) (Unfinished g) s ts i w (le_of_lt h) (λ j l. after_passed g (λ x. ⊥) (Unfinished g) (Final g) s ts w j (omega arith)))

      go : (c.unlimited (nth ts i) ≡ true) ⊎ (c.unlimited (nth ts i) ≡ false) → c.unlimited (nth ts i) ≡ false
      go (inl o) =
          let v = after_plain g (λ x. ⊥) (Unfinished g) (Final g) s ts w in
          let d = subst (λ (x : ℕ). Departs g x (nth ts i)) (state-after g s ts i (le_of_lt h)) (departs-at g (λ x. Unit) (λ x. Unit) s ts v i h) in
          absurd (none (s, take i ts ++ (nth ts i ∷ []), record { before = take i ts; last = nth ts i; ends_with = refl; unfinished = front-walk; departs = d; unlimited = o }))
      go (inr e) = e

  -- ---- 4

  pub none_open : ((t : ℕ) → t < count g → c.unlimited t ≡ false) → HasOpenWalk g c → ⊥
  none_open none (s, ts, w) = false≢true (sym (none w.last w.departs.listed) ∙ w.unlimited)

-- the sum of a route's highs, where every one is a number
pub seconds_of : (high : ℕ) → is_open (limit high) ≡ false → seconds (limit high) ≡ high
seconds_of high = go (eqb high 2047)
  where
    go : (b : Bool) → is_open (cond b Open (Seconds high)) ≡ false → seconds (cond b Open (Seconds high)) ≡ high
    go true e = absurd (true≢false e)
    go false e = refl

-- a high is open where it is 2,047
pub open_high : (high : ℕ) → (is_open (limit high) ≡ true) ↔ (high ≡ 2047)
open_high high = (λ o. eqb-true high 2047 (of_open (eqb high 2047) o), λ e. rw e)
  where
    of_open : (b : Bool) → is_open (cond b Open (Seconds high)) ≡ true → b ≡ true
    of_open true o = refl
    of_open false o = absurd (false≢true o)

delay-same : (f h : ℕ → ℕ) (ts : List ℕ) → ((i : ℕ) → i < length ts → f (nth ts i) ≡ h (nth ts i)) → delay f ts ≡ delay h ts
delay-same f h [] e = refl
delay-same f h (t ∷ ts) e = ap₂ (λ (x y : ℕ). x + y) (e 0 (zero-lt-suc (length ts))) (delay-same f h ts (λ i l. e (suc i) (suc-le-suc l)))

pub highs_of : (g : Graph) → (HasOpenWalk g (highs g) → ⊥) → (s : ℕ) (ts : List ℕ) → Route g s ts → total g (highs g) s ts ≡ delay (high g) ts
highs_of g none s ts r =
    delay-is g (λ t. limit (high g t)) s ts
    ∙ delay-same (λ t. seconds (limit (high g t))) (high g) ts (λ i h. seconds_of (high g (nth ts i)) (limited g (highs g) none s ts r i h))
