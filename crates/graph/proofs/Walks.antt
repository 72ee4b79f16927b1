-- What every walk has: its states by place, its parts, and that it stays within the plan.
--
-- All of it is by recursion on the list of transitions, for any condition on the states passed and on the last one; so
-- it holds of routes, of unfinished walks and of walks to a dead end alike. The last part is about walks of the plan, whose first state is asked nothing:
-- a start alone, or a first step and a walk from where it leads. Assumes nothing.
use Prim.Native.Nat.{ℕ, zero, suc, ◌≤◌, ◌<◌, ◌/◌, ◌%◌, suc-le-suc}
use mathlib.Core.Path.{◌≡◌, refl, sym, ◌∙◌, ap}
use mathlib.Core.Bool.{Bool, true, false, false≢true}
use mathlib.Core.List.{List, [], ◌∷◌}
use native.Mathlib.Nat.{not-suc-le-zero, le_of_suc-le-suc, zero-lt-suc, lt-suc_self}
use native.Mathlib.Decide.{dec_lt}
use native.Mathlib.Omega.{arith}
use lib.Dec.{eqb}
use lib.ListN.{length, take, get_or-eq_default}
use Rattle.graph.specs.Graph.{Graph, State, marked, states, marks_of, start, final, to, Departs, Final, Unfinished, Closed}
use Rattle.graph.specs.Walk.{Begins, WalkTo, WalkFrom, AfterStart, visits, arrival, UnfinishedFrom}
use Rattle.graph.proofs.Repeat.{nth}

-- a number that is no state's has no mark, so a state with a mark is one of the plan's
marked-below : (g : Graph) (test : ℕ → Bool) → test 0 ≡ false → (s : ℕ) → test (marks_of g s) ≡ true → s < states g
unfolding marks_of
marked-below g test none s b = go (dec_lt s (states g))
  where
    go : Dec (s < states g) → s < states g
    go (yes h) = h
    go (no h) = absurd (false≢true (sym none ∙ sym (ap (λ (x : State). test x.marks) (get_or-eq_default g.state_list (marked 0) (omega arith))) ∙ b))

pub start-below : (g : Graph) (s : ℕ) → Begins g s → s < states g
unfolding start
start-below g = marked-below g (λ v. eqb (v / 4 % 2) 1) refl

pub final-below : (g : Graph) (s : ℕ) → Final g s → s < states g
unfolding final
final-below g = marked-below g (λ v. eqb (v / 2 % 2) 1) refl

module _ (g : Graph) where
  -- a walk of k transitions has k + 1 states
  pub length-visits : (s : ℕ) (ts : List ℕ) → length (visits g s ts) ≡ suc (length ts)
  length-visits s [] = refl
  length-visits s (t ∷ ts) = ap suc (length-visits (to g t) ts)

  -- the state after i transitions
  pub state-after : (s : ℕ) (ts : List ℕ) (i : ℕ) → i ≤ length ts → nth (visits g s ts) i ≡ arrival g s (take i ts)
  state-after s [] zero h = refl
  state-after s [] (suc i) h = absurd (not-suc-le-zero h)
  state-after s (t ∷ ts) zero h = refl
  state-after s (t ∷ ts) (suc i) h = state-after (to g t) ts i (le_of_suc-le-suc h)

  pub state-last : (s : ℕ) (ts : List ℕ) → nth (visits g s ts) (length ts) ≡ arrival g s ts
  state-last s [] = refl
  state-last s (t ∷ ts) = state-last (to g t) ts

  -- the states on the first part of a walk
  pub visits-take : (s : ℕ) (ts : List ℕ) (i : ℕ) → i ≤ length ts
      → visits g s (take i ts) ≡ take (suc i) (visits g s ts)
  visits-take s [] zero h = refl
  visits-take s [] (suc i) h = absurd (not-suc-le-zero h)
  visits-take s (t ∷ ts) zero h = refl
  visits-take s (t ∷ ts) (suc i) h = ap (λ (r : List ℕ). s ∷ r) (visits-take (to g t) ts i (le_of_suc-le-suc h))

module _ (g : Graph) (pass stop : ℕ → Type 0) where
  -- the i-th transition departs from the i-th state, which the walk passes, and leads to the next one
  pub passed : (s : ℕ) (ts : List ℕ) → WalkTo g pass stop s ts → (i : ℕ) → i < length ts → pass (nth (visits g s ts) i)
  passed s [] w i h = absurd (not-suc-le-zero h)
  passed s (t ∷ ts) w zero h = w.0
  passed s (t ∷ ts) w (suc i) h = passed (to g t) ts w.2 i (le_of_suc-le-suc h)

  pub departs-at : (s : ℕ) (ts : List ℕ) → WalkTo g pass stop s ts → (i : ℕ) → i < length ts
      → Departs g (nth (visits g s ts) i) (nth ts i)
  departs-at s [] w i h = absurd (not-suc-le-zero h)
  departs-at s (t ∷ ts) w zero h = w.1
  departs-at s (t ∷ ts) w (suc i) h = departs-at (to g t) ts w.2 i (le_of_suc-le-suc h)

  pub arrives_at : (s : ℕ) (ts : List ℕ) → WalkTo g pass stop s ts → (i : ℕ) → i < length ts
      → to g (nth ts i) ≡ nth (visits g s ts) (suc i)
  arrives_at s [] w i h = absurd (not-suc-le-zero h)
  arrives_at s (t ∷ []) w zero h = refl
  arrives_at s (t ∷ u ∷ ts) w zero h = refl
  arrives_at s (t ∷ []) w (suc i) h = absurd (not-suc-le-zero (le_of_suc-le-suc h))
  arrives_at s (t ∷ u ∷ ts) w (suc i) h = arrives_at (to g t) (u ∷ ts) w.2 i (le_of_suc-le-suc h)

  -- the last state
  pub stopped : (s : ℕ) (ts : List ℕ) → WalkTo g pass stop s ts → stop (arrival g s ts)
  stopped s [] w = w
  stopped s (t ∷ ts) w = stopped (to g t) ts w.2

  -- every state of a walk is one of the plan's
  pub visits-below : Closed g → (s : ℕ) (ts : List ℕ) → s < states g → WalkTo g pass stop s ts → (i : ℕ)
      → i < length (visits g s ts) → nth (visits g s ts) i < states g
  visits-below c s [] l w zero h = l
  visits-below c s [] l w (suc i) h = absurd (not-suc-le-zero (le_of_suc-le-suc h))
  visits-below c s (t ∷ ts) l w zero h = l
  visits-below c s (t ∷ ts) l w (suc i) h = visits-below c (to g t) ts (c t w.1.listed) w.2 i (le_of_suc-le-suc h)

  -- the first k transitions are a walk to the state that they lead to
  pub front : (stop' : ℕ → Type 0) (s : ℕ) (ts : List ℕ) (k : ℕ) → WalkTo g pass stop s ts → k ≤ length ts
      → stop' (nth (visits g s ts) k) → WalkTo g pass stop' s (take k ts)
  front stop' s [] zero w h q = q
  front stop' s [] (suc k) w h q = absurd (not-suc-le-zero h)
  front stop' s (t ∷ ts) zero w h q = q
  front stop' s (t ∷ ts) (suc k) w h q = (w.0, w.1, front stop' (to g t) ts k w.2 (le_of_suc-le-suc h) q)

  -- the last state may be said to be something else that it is
  pub with_last : (stop' : ℕ → Type 0) (s : ℕ) (ts : List ℕ) → WalkTo g pass stop s ts → stop' (arrival g s ts)
      → WalkTo g pass stop' s ts
  with_last stop' s [] w q = q
  with_last stop' s (t ∷ ts) w q = (w.0, w.1, with_last stop' (to g t) ts w.2 q)

  pub with_stop : (stop' : ℕ → Type 0) → ((x : ℕ) → stop x → stop' x) → (s : ℕ) (ts : List ℕ) → WalkTo g pass stop s ts
      → WalkTo g pass stop' s ts
  with_stop stop' f s ts w = with_last stop' s ts w (f (arrival g s ts) (stopped s ts w))

  -- nothing asked of the states; and what is asked, put back place by place
  pub plain : (s : ℕ) (ts : List ℕ) → WalkTo g pass stop s ts → WalkFrom g s ts
  plain s [] w = tt
  plain s (t ∷ ts) w = (tt, w.1, plain (to g t) ts w.2)

  pub walk_of : (s : ℕ) (ts : List ℕ) → WalkFrom g s ts → ((i : ℕ) → i < length ts → pass (nth (visits g s ts) i))
      → stop (arrival g s ts) → WalkTo g pass stop s ts
  walk_of s [] w p q = q
  walk_of s (t ∷ ts) w p q = (p 0 (zero-lt-suc (length ts)), w.1, walk_of (to g t) ts w.2 (λ i h. p (suc i) (suc-le-suc h)) q)

-- the first state of an unfinished walk is unfinished, and so is every one
pub first-unfinished : (g : Graph) (s : ℕ) (ts : List ℕ) → UnfinishedFrom g s ts → Unfinished g s
first-unfinished g s [] w = w
first-unfinished g s (t ∷ ts) w = w.0

pub all-unfinished : (g : Graph) (s : ℕ) (ts : List ℕ) → UnfinishedFrom g s ts → (i : ℕ) → i ≤ length ts → Unfinished g (nth (visits g s ts) i)
all-unfinished g s [] w zero h = w
all-unfinished g s [] w (suc i) h = absurd (not-suc-le-zero h)
all-unfinished g s (t ∷ ts) w zero h = w.0
all-unfinished g s (t ∷ ts) w (suc i) h = all-unfinished g (to g t) ts w.2 i (le_of_suc-le-suc h)

-- ---- walks of the plan

module _ (g : Graph) (alone pass stop : ℕ → Type 0) where
  -- after its start: nothing asked of the states; each later state but the last is passed
  pub after_plain : (s : ℕ) (ts : List ℕ) → AfterStart g alone (WalkTo g pass stop) s ts → WalkFrom g s ts
  after_plain s [] w = tt
  after_plain s (t ∷ ts) w = (tt, w.0, plain g pass stop (to g t) ts w.1)

  pub after_passed : (s : ℕ) (ts : List ℕ) → AfterStart g alone (WalkTo g pass stop) s ts → (i : ℕ) → suc i < length ts → pass (nth (visits g s ts) (suc i))
  after_passed s [] w i h = absurd (not-suc-le-zero h)
  after_passed s (t ∷ ts) w i h = passed g pass stop (to g t) ts w.1 i (le_of_suc-le-suc h)

  -- what follows of the last state, be it the start alone or one that was stopped at
  pub after-stopped : (Q : ℕ → Type 0) → ((x : ℕ) → alone x → Q x) → ((x : ℕ) → stop x → Q x) → (s : ℕ) (ts : List ℕ)
      → AfterStart g alone (WalkTo g pass stop) s ts → Q (arrival g s ts)
  after-stopped Q at-start at-stop s [] w = at-start s w
  after-stopped Q at-start at-stop s (t ∷ ts) w = at-stop (arrival g (to g t) ts) (stopped g pass stop (to g t) ts w.1)

  module _ (alone' stop' : ℕ → Type 0) where
    -- the last state may be said to be something else: what follows of it, or what it is beside
    pub after_with : ((x : ℕ) → alone x → alone' x) → ((x : ℕ) → stop x → stop' x) → (s : ℕ) (ts : List ℕ)
        → AfterStart g alone (WalkTo g pass stop) s ts → AfterStart g alone' (WalkTo g pass stop') s ts
    after_with at-start at-stop s [] w = at-start s w
    after_with at-start at-stop s (t ∷ ts) w = (w.0, with_stop g pass stop stop' at-stop (to g t) ts w.1)

    pub after_last : (Q : ℕ → Type 0) → ((x : ℕ) → Q x → alone' x) → ((x : ℕ) → stop x → Q x → stop' x) → (s : ℕ) (ts : List ℕ)
        → AfterStart g alone (WalkTo g pass stop) s ts → Q (arrival g s ts) → AfterStart g alone' (WalkTo g pass stop') s ts
    after_last Q at-start at-stop s [] w q = at-start s q
    after_last Q at-start at-stop s (t ∷ ts) w q =
        (w.0, with_last g pass stop stop' (to g t) ts w.1 (at-stop (arrival g (to g t) ts) (stopped g pass stop (to g t) ts w.1) q))

  -- the first k transitions
  pub after_front : (stop' : ℕ → Type 0) (s : ℕ) (ts : List ℕ) (k : ℕ) → AfterStart g alone (WalkTo g pass stop) s ts → k ≤ length ts
      → ((i : ℕ) → i < k → stop' (nth (visits g s ts) (suc i))) → AfterStart g (λ x. Unit) (WalkTo g pass stop') s (take k ts)
  after_front stop' s ts zero w h q = tt
  after_front stop' s [] (suc k) w h q = absurd (not-suc-le-zero h)
  after_front stop' s (t ∷ ts) (suc k) w h q = (w.0, front g pass stop stop' (to g t) ts k w.1 (le_of_suc-le-suc h) (q k (lt-suc_self k)))

  -- and place by place
  pub after_of : (s : ℕ) (ts : List ℕ) → WalkFrom g s ts → (length ts ≡ 0 → alone s) → ((i : ℕ) → suc i < length ts → pass (nth (visits g s ts) (suc i)))
      → (0 < length ts → stop (arrival g s ts)) → AfterStart g alone (WalkTo g pass stop) s ts
  after_of s [] w a p q = a refl
  after_of s (t ∷ ts) w a p q = (w.1, walk_of g pass stop (to g t) ts w.2 (λ i h. p i (suc-le-suc h)) (q (zero-lt-suc (length ts))))
