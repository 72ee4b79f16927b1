-- When an endless walk of unfinished states exists.
--
-- 1. A walk through unfinished states whose state after k transitions is the state after j, with j < k, goes on
--    forever: walk on to place k, be at place j again, and so on. The place that the endless walk is at goes up by one,
--    and from k - 1 back to j (`next`).
-- 2. An endless walk has a walk of every length, its first k transitions (`run-walk`); and a sequence of transitions
--    of which that is so is an endless walk (`endless_of`). The first k of the one in 1 are the walk itself (`run-round`).
-- 3. One of the plan is a first step and an endless walk after it: each transition departs where the one before arrived, the first from a start, and leads to
--    an unfinished state (`endless-at`, `at-endless`).
-- 4. So a plan of n states has an endless walk exactly when a first step from a start and n transitions through unfinished
--    states after it can be walked: by 2 one way; and by 1 the other, since n + 1 states below n hold a repeat. Up to the first repeat, that
--    walk is what 01 asks to be shown for a loop (`repeat_shown`): a state that is come back to was arrived at, so it is unfinished, final as the start may be.
-- 5. Where no endless walk exists, every walk through unfinished states visits no state twice (`simple_or_endless`).
-- Assumes nothing.
use Prim.Native.Nat.{ℕ, zero, suc, ◌+◌, ◌≤◌, ◌<◌, zero-le}
use mathlib.Core.Path.{◌≡◌, refl, sym, ◌∙◌, ap, ap₂, subst}
use mathlib.Core.Bool.{Bool, true, false, cond}
use mathlib.Core.Logic.{◌⊎◌, inl, inr}
use mathlib.Core.List.{List, [], ◌∷◌, ◌++◌}
use native.Mathlib.Nat.{zero-add, add-zero, add-suc, suc-add, le_refl, le_of_lt, lt_of_lt_of_le, not-suc-le-zero, le_of_suc-le-suc}
use native.Mathlib.Omega.{arith}
use lib.Dec.{eqb}
use lib.ListN.{length, take}
use lib.Seq.{length-take-le, take-take}
use borrow.Author.Tests.{eqb-true, eqb-false, ne_eqb}
use Rattle.graph.specs.Graph.{Graph, states, to, Departs, Unfinished, Closed}
use Rattle.graph.specs.Walk.{Begins, FirstStep, AfterStart, WalkTo, WalkFrom, visits, arrival, UnfinishedFrom, UnfinishedWalk, Different}
use Rattle.graph.specs.Walk.{reached, EndlessFrom, EndlessWalk}
use Rattle.graph.specs.Figure.{LoopShown}
use Rattle.graph.proofs.Repeat.{nth, Repeat, first_repeat, repeat_below, different-take}
use Rattle.graph.proofs.Walks.{start-below, length-visits, state-after, state-last, visits-take, passed}
use Rattle.graph.proofs.Walks.{departs-at, arrives_at, stopped, visits-below, all-unfinished, after_plain, after_front}
use Rattle.graph.proofs.Build.{arrival_snoc, last-departs}

-- ---- 1

-- the place after p: one further, and j for k
next : ℕ → ℕ → ℕ → ℕ
next j k p = cond (eqb (suc p) k) j (suc p)

next-below : (j k p : ℕ) → j < k → p < k → next j k p < k
unfolding next
next-below j k p l h = go (eqb (suc p) k) refl
  where
    go : (b : Bool) → eqb (suc p) k ≡ b → cond b j (suc p) < k
    go true e = l
    go false e = omega (arith, eqb-false (suc p) k e)

next-same : (f : ℕ → ℕ) (j k p : ℕ) → f k ≡ f j → f (suc p) ≡ f (next j k p)
unfolding next
next-same f j k p q = go (eqb (suc p) k) refl
  where
    go : (b : Bool) → eqb (suc p) k ≡ b → f (suc p) ≡ f (cond b j (suc p))
    go true e = ap f (eqb-true (suc p) k e) ∙ q
    go false e = refl

-- the place after i steps
place : ℕ → ℕ → ℕ → ℕ
place j k zero = zero
place j k (suc i) = next j k (place j k i)

place_below : (j k i : ℕ) → j < k → place j k i < k
unfolding place
place_below j k zero l = omega arith
place_below j k (suc i) l = next-below j k (place j k i) l (place_below j k i l)

-- up to k it is the number of steps
place_front : (j k i : ℕ) → i < k → place j k i ≡ i
unfolding place next
place_front j k zero h = refl
place_front j k (suc i) h =
    let p : place j k i ≡ i = place_front j k i (omega arith) in
    let off : eqb (suc i) k ≡ false = ne_eqb (suc i) k (λ e. omega arith) in
    rw (p, off)

-- the transitions of ts in that order
pub round : List ℕ → ℕ → ℕ → ℕ → ℕ
round ts j k i = nth ts (place j k i)

-- a walk that comes back goes round: whatever is asked of its states
module _ (g : Graph) (pass stop : ℕ → Type 0) (s : ℕ) (ts : List ℕ) (w : WalkTo g pass stop s ts)
    (j k : ℕ) (l : j < k) (h : k ≤ length ts) (e : nth (visits g s ts) k ≡ nth (visits g s ts) j) where
  at : (i : ℕ) → place j k i < length ts
  at i = lt_of_lt_of_le (place_below j k i l) h

  -- the endless walk is at that place of the walk
  here : (i : ℕ) → reached g s (round ts j k) i ≡ nth (visits g s ts) (place j k i)
  unfolding place round
  here zero = sym (state-after g s ts 0 zero-le)
  here (suc i) = arrives_at g pass stop s ts w (place j k i) (at i) ∙ next-same (nth (visits g s ts)) j k (place j k i) e

  round-departs : (i : ℕ) → Departs g (reached g s (round ts j k) i) (round ts j k i)
  unfolding round
  round-departs i = rw (here i) (departs-at g pass stop s ts w (place j k i) (at i))

  round-passes : (i : ℕ) → pass (reached g s (round ts j k) i)
  round-passes i = rw (here i) (passed g pass stop s ts w (place j k i) (at i))

  -- it arrives where the walk arrived
  round_arrives : (i : ℕ) → (p : ℕ) × (p < length ts) × (to g (round ts j k i) ≡ nth (visits g s ts) (suc p))
  unfolding round
  round_arrives i = (place j k i, at i, arrives_at g pass stop s ts w (place j k i) (at i))

module _ (g : Graph) (stop : ℕ → Type 0) (s : ℕ) (ts : List ℕ) (w : WalkTo g (Unfinished g) stop s ts) where
  -- as the first repeat that a search of its states finds
  repeat_endless : (r : Repeat (nth (visits g s ts)) (length (visits g s ts))) → EndlessFrom g s (round ts r.earlier r.later)
  repeat_endless r =
      let h : r.later ≤ length ts = omega (arith, length-visits g s ts) in record {
        departs = round-departs g (Unfinished g) stop s ts w r.earlier r.later r.order h r.same;
        unfinished = round-passes g (Unfinished g) stop s ts w r.earlier r.later r.order h r.same;
      }

-- ---- 2

-- k transitions of a sequence, from the i-th on
abbrev pub run : (ℕ → ℕ) → ℕ → ℕ → List ℕ
run taken i zero = []
run taken i (suc k) = taken i ∷ run taken (suc i) k

pub length_run : (taken : ℕ → ℕ) (i k : ℕ) → length (run taken i k) ≡ k
length_run taken i zero = refl
length_run taken i (suc k) = ap suc (length_run taken (suc i) k)

pub run_snoc : (taken : ℕ → ℕ) (i k : ℕ) → run taken i (suc k) ≡ run taken i k ++ (taken (i + k) ∷ [])
run_snoc taken i zero = ap (λ (t : ℕ). taken t ∷ []) (omega arith)
run_snoc taken i (suc k) =
    let later : taken (suc i + k) ≡ taken (i + suc k) = ap taken (omega arith) in
    ap (λ (ts : List ℕ). taken i ∷ ts) (run_snoc taken (suc i) k ∙ ap (λ (t : ℕ). run taken (suc i) k ++ (t ∷ [])) later)

-- the first k of n
pub take-run : (taken : ℕ → ℕ) (i k n : ℕ) → k ≤ n → take k (run taken i n) ≡ run taken i k
take-run taken i zero n h = refl
take-run taken i (suc k) zero h = absurd (not-suc-le-zero h)
take-run taken i (suc k) (suc n) h = ap (λ (ts : List ℕ). taken i ∷ ts) (take-run taken (suc i) k n (le_of_suc-le-suc h))

-- the first k transitions of the sequence that goes round are those of the walk
pub run-round : (ts : List ℕ) (j : ℕ) → run (round ts j (length ts)) 0 (length ts) ≡ ts
unfolding round
run-round ts j = go ts (λ i. round ts j (length ts) i) 0 (λ i h. ap (nth ts) (ap (place j (length ts)) (zero-add i) ∙ place_front j (length ts) i h))
  where
    go : (us : List ℕ) (taken : ℕ → ℕ) (i : ℕ) → ((k : ℕ) → k < length us → taken (i + k) ≡ nth us k) → run taken i (length us) ≡ us
    go [] taken i h = refl
    go (u ∷ us) taken i h =
        ap₂ (λ (x : ℕ) (xs : List ℕ). x ∷ xs) (ap taken (sym (add-zero i)) ∙ h 0 (omega arith))
        (go us taken (suc i) (λ k l. ap taken (suc-add i k ∙ sym (add-suc i k)) ∙ h (suc k) (omega arith)))

module _ (g : Graph) (s : ℕ) (taken : ℕ → ℕ) where
  pub run-walk : EndlessFrom g s taken → (i k : ℕ) → UnfinishedFrom g (reached g s taken i) (run taken i k)
  run-walk e i zero = e.unfinished i
  run-walk e i (suc k) = (e.unfinished i, e.departs i, run-walk e (suc i) k)

  -- and a sequence whose first k transitions are such a walk, for each k, is an endless one
  pub endless_of : ((k : ℕ) → UnfinishedFrom g s (run taken 0 k)) → EndlessFrom g s taken
  endless_of w = record {
    departs = λ i. rw (here i) (last-departs g (Unfinished g) (Unfinished g) s (run taken 0 i) (taken i) (one_more i));
    unfinished = λ i. rw (here i) (stopped g (Unfinished g) (Unfinished g) s (run taken 0 i) (w i));
  }
    where
      run-to : (i : ℕ) → run taken 0 (suc i) ≡ run taken 0 i ++ (taken i ∷ [])
      run-to i = run_snoc taken 0 i ∙ ap (λ (t : ℕ). run taken 0 i ++ (taken t ∷ [])) (zero-add i)

      one_more : (i : ℕ) → UnfinishedFrom g s (run taken 0 i ++ (taken i ∷ []))
      one_more i = subst (UnfinishedFrom g s) (run-to i) (w (suc i))

      here : (i : ℕ) → reached g s taken i ≡ arrival g s (run taken 0 i)
      here zero = refl
      here (suc i) = sym (ap (arrival g s) (run-to i) ∙ arrival_snoc g s (run taken 0 i) (taken i))

-- ---- 3

module _ (g : Graph) (s : ℕ) (taken : ℕ → ℕ) where
  -- the sequence after its first transition
  after : (i : ℕ) → reached g (to g (taken 0)) (λ i. taken (suc i)) i ≡ to g (taken i)
  after zero = refl
  after (suc i) = refl

  pub endless-at : ((i : ℕ) → Departs g (reached g s taken i) (taken i)) → ((i : ℕ) → Unfinished g (to g (taken i)))
      → FirstStep g (EndlessFrom g) s (taken 0) (λ i. taken (suc i))
  endless-at departs unfinished =
      (departs 0, record { departs = λ i. rw (after i) (departs (suc i)); unfinished = λ i. rw (after i) (unfinished i) })

  pub at-departs : FirstStep g (EndlessFrom g) s (taken 0) (λ i. taken (suc i)) → (i : ℕ) → Departs g (reached g s taken i) (taken i)
  at-departs (d, e) zero = d
  at-departs (d, e) (suc i) = subst (λ (x : ℕ). Departs g x (taken (suc i))) (after i) (e.departs i)

  pub at-unfinished : FirstStep g (EndlessFrom g) s (taken 0) (λ i. taken (suc i)) → (i : ℕ) → Unfinished g (to g (taken i))
  at-unfinished (d, e) i = subst (Unfinished g) (after i) (e.unfinished i)

run-after : (taken : ℕ → ℕ) (i k : ℕ) → run (λ x. taken (suc x)) i k ≡ run taken (suc i) k
run-after taken i zero = refl
run-after taken i (suc k) = ap (λ (ts : List ℕ). taken (suc i) ∷ ts) (run-after taken (suc i) k)

-- its first k transitions are a walk of the plan
pub run-begun : (g : Graph) (s : ℕ) (taken : ℕ → ℕ) → EndlessWalk g s taken → (k : ℕ) → UnfinishedWalk g s (run taken 0 k)
run-begun g s taken (b, e) zero = (b, tt)
run-begun g s taken (b, (d, e)) (suc k) =
    (b, (d, subst (UnfinishedFrom g (to g (taken 0))) (run-after taken 0 k) (run-walk g (to g (taken 0)) (λ i. taken (suc i)) e 0 k)))

-- and a sequence of which that is so is an endless walk
pub of_runs : (g : Graph) (s : ℕ) (taken : ℕ → ℕ) → ((k : ℕ) → UnfinishedWalk g s (run taken 0 k)) → FirstStep g (EndlessFrom g) s (taken 0) (λ i. taken (suc i))
of_runs g s taken w =
    ((w 1).1.0, endless_of g (to g (taken 0)) (λ i. taken (suc i)) (λ k. subst (UnfinishedFrom g (to g (taken 0))) (sym (run-after taken 0 k)) (w (suc k)).1.1))

-- one transition, and then a sequence
pub then : ℕ → (ℕ → ℕ) → ℕ → ℕ
then t taken zero = t
then t taken (suc i) = taken i

pub then-endless : (g : Graph) (s t : ℕ) (taken : ℕ → ℕ) → Begins g s → Departs g s t → EndlessFrom g (to g t) taken → EndlessWalk g s (then t taken)
unfolding then
then-endless g s t taken b d e = (b, (d, e))

-- a walk from an unfinished start
pub endless-begun : (g : Graph) (s : ℕ) (taken : ℕ → ℕ) → Begins g s → EndlessFrom g s taken → EndlessWalk g s taken
endless-begun g s taken b e = (b, endless-at g s taken e.departs (λ i. e.unfinished (suc i)))

-- ---- 4

-- a walk of n transitions has a repeat, so it goes on forever
long_repeat : (g : Graph) (pass stop : ℕ → Type 0) (s : ℕ) (ts : List ℕ) → s < states g → WalkTo g pass stop s ts → Closed g → states g ≤ length ts
    → Repeat (nth (visits g s ts)) (length (visits g s ts))
long_repeat g pass stop s ts below w closed h =
    repeat_below (states g) (nth (visits g s ts)) (length (visits g s ts)) (omega (arith, length-visits g s ts))
    (visits-below g pass stop closed s ts below w)

pub long-endless : (g : Graph) (stop : ℕ → Type 0) (s : ℕ) (ts : List ℕ) → s < states g → WalkTo g (Unfinished g) stop s ts → Closed g → states g ≤ length ts
    → (taken : ℕ → ℕ) × EndlessFrom g s taken
long-endless g stop s ts below w closed h =
    let r = long_repeat g (Unfinished g) stop s ts below w closed h in
    (round ts r.earlier r.later, repeat_endless g stop s ts w r)

module _ (g : Graph) (s : ℕ) (ts : List ℕ) (w : UnfinishedWalk g s ts) where
  -- whatever state it arrives at is unfinished
  later_unfinished : (i : ℕ) → i < length ts → Unfinished g (nth (visits g s ts) (suc i))
  later_unfinished = go ts w.1
    where
      go : (us : List ℕ) → AfterStart g (λ x. Unit) (UnfinishedFrom g) s us → (i : ℕ) → i < length us → Unfinished g (nth (visits g s us) (suc i))
      go [] v i h = absurd (not-suc-le-zero h)
      go (u ∷ us) v i h = all-unfinished g (to g u) us v.1 i (le_of_suc-le-suc h)

  walked : WalkFrom g s ts
  walked = after_plain g (λ x. Unit) (Unfinished g) (Unfinished g) s ts w.1

  -- up to the first repeat, the walk is as 01 asks for a loop
  pub repeat_shown : (r : Repeat (nth (visits g s ts)) (length (visits g s ts)))
      → LoopShown g (take r.later ts) r.earlier
  repeat_shown r =
      let k = r.later in
      let j = r.earlier in
      let xs = visits g s ts in
      let hk : k ≤ length ts = omega (arith, length-visits g s ts) in
      let lk : length (take k ts) ≡ k = length-take-le k ts hk in
      let at_j = state-after g s ts j (omega arith) in
      let returns : arrival g s (take k ts) ≡ arrival g s (take j ts) = sym (state-after g s ts k hk) ∙ r.same ∙ at_j in (
        s,
        (w.0, after_front g (λ x. Unit) (Unfinished g) (Unfinished g) (Unfinished g) s ts k w.1 hk (λ i h. later_unfinished i (omega arith))),
        omega arith,
        rw (take-take j k ts (omega arith)) returns,
        rw (lk, visits-take g s ts k hk, take-take k (suc k) xs (omega arith)) (different-take xs k r.apart),
      )

  pub long-shown : Closed g → states g ≤ length ts → (k : ℕ) × (j : ℕ) × LoopShown g (take k ts) j × (k ≤ length ts)
  long-shown closed h =
      let r = long_repeat g (λ x. Unit) (λ x. Unit) s ts (start-below g s w.0) walked closed h in
      (r.later, r.earlier, repeat_shown r, omega (arith, length-visits g s ts))

module _ (g : Graph) where
  -- every endless walk has a front that may be shown: its first k transitions, for some k ..
  pub endless-shown : Closed g → (s : ℕ) (taken : ℕ → ℕ) → EndlessWalk g s taken
      → (k : ℕ) × (j : ℕ) × LoopShown g (run taken 0 k) j
  endless-shown closed s taken e =
      let n = states g in
      let l : length (run taken 0 n) ≡ n = length_run taken 0 n in
      let (k, j, shown, h) = long-shown g s (run taken 0 n) (run-begun g s taken e n) closed (omega arith) in
      (k, j, subst (λ (us : List ℕ). LoopShown g us j) (take-run taken 0 k n (omega arith)) shown)

  -- .. and what is shown goes on forever: it is the front of an endless walk
  pub shown-endless : (ts : List ℕ) (j : ℕ) → LoopShown g ts j
      → (s : ℕ) × (taken : ℕ → ℕ) × EndlessWalk g s taken × (run taken 0 (length ts) ≡ ts)
  shown-endless ts j (s, w, l, e, d) =
      let k = length ts in
      let same = state-last g s ts ∙ e ∙ sym (state-after g s ts j (le_of_lt l)) in
      let v = walked g s ts w in
      let departs = round-departs g (λ x. Unit) (λ x. Unit) s ts v j k l (le_refl k) same in
      let at = round_arrives g (λ x. Unit) (λ x. Unit) s ts v j k l (le_refl k) same in
      let arrives : (i : ℕ) → Unfinished g (to g (round ts j k i)) = λ i. rw (at i).2 (later_unfinished g s ts w (at i).0 (at i).1) in
      (s, round ts j k, (w.0, endless-at g s (round ts j k) departs arrives), run-round ts j)

-- ---- 5

pub simple_or_endless : (g : Graph) (stop : ℕ → Type 0) (s : ℕ) (ts : List ℕ) → WalkTo g (Unfinished g) stop s ts
    → ((taken : ℕ → ℕ) × EndlessFrom g s taken) ⊎ Different (visits g s ts)
simple_or_endless g stop s ts w = go (first_repeat (nth (visits g s ts)) (length (visits g s ts)))
  where
    go : Repeat (nth (visits g s ts)) (length (visits g s ts)) ⊎ Different (visits g s ts)
        → ((taken : ℕ → ℕ) × EndlessFrom g s taken) ⊎ Different (visits g s ts)
    go (inl r) = inl (round ts r.earlier r.later, repeat_endless g stop s ts w r)
    go (inr d) = inr d
