-- A route read off values, transition by transition. What is kept (`Tracing`): the transitions written so far are a walk through unfinished states
-- that differ, with a rank no lower than that of the state reached; and what they weigh, with the value of the state reached, is the value of the
-- first state. A transition that accounts for the value of the state reached makes the walk one longer (`traced-turn`): where it leads is a final
-- state, which none before is, or one of a lower rank than all before. The k + 1 states so far and the new one differ, so they are at most n (`traced_room`). At a
-- final state the value is the close, and the walk is the route (`traced-all`). A route that begins with a transition is that and the route from where it leads
-- (`begun_all`). Assumes nothing.
use mathlib.Core.Bool.{Bool, true, false, true≢false}
use mathlib.Core.List.{List, [], ◌∷◌, ◌++◌, append-nil}
use mathlib.Core.Logic.{◌⊎◌, inl, inr, ◌≢◌}
use mathlib.Core.Path.{◌≡◌, refl, sym, ap, ◌∙◌}
use Prim.Native.Nat.{ℕ, zero, suc, ◌+◌, ◌-◌, ◌≤◌, ◌<◌}
use native.Mathlib.Nat.{le_refl, not-suc-le-zero}
use native.Mathlib.Numerals.{add-one}
use native.Mathlib.Omega.{arith}
use lib.ListN.{length, set, take, drop, drop_of_length-le}
use lib.Seq.{get_or-set_same, get_or-set_other, take-suc-set, take_all, drop-set-lt, drop-drop}
use Rattle.graph.specs.Route.{delay}
use Rattle.graph.proofs.Build.{delay_snoc}
use Rattle.graph.proofs.Repeat.{pigeonhole}
use Rattle.graph.specs.Graph.{final_mark}
use Rattle.search.specs.Arrays.{Arrays, at, FinalIn, UnfinishedIn, Leaves}
use Rattle.search.specs.Route.{Accounts, along, Steps, Readable, Traced, TracedBy}
use Rattle.arrays.proofs.Lists.{same_or_not}

-- a store at place k leaves the first k + 1 states, and the next one is where the stored transition leads
module _ (to : List ℕ) (s k t : ℕ) (walk : List ℕ) where
  pub along-before : (i : ℕ) → i ≤ k → along to s (set walk k t) i ≡ along to s walk i
  along-before zero h = refl
  along-before (suc i) h = ap (at to) (get_or-set_other walk k i t 0 (omega arith))

  pub along-next : k < length walk → along to s (set walk k t) (suc k) ≡ at to t
  along-next h = ap (at to) (get_or-set_same walk k t 0 h)

-- the places past the store
pub later_more : (k t : ℕ) (before walk : List ℕ) → drop k walk ≡ drop k before → drop (suc k) (set walk k t) ≡ drop (suc k) before
later_more k t before walk e =
    let q : k + 1 ≡ suc k = add-one k in
    drop-set-lt (suc k) walk k t (le_refl (suc k)) ∙ rw (← q) (sym (drop-drop 1 k walk) ∙ ap (λ (l : List ℕ). drop 1 l) e ∙ drop-drop 1 k before)

module _ (A : Arrays) where
  -- a walk of k transitions through states that differ has fewer than n
  pub steps_fit : (s k : ℕ) (ts : List ℕ) → Steps A s ts k → k < A.n
  steps_fit s k ts w = pigeonhole A.n (along A.to s ts) (suc k) (λ i j l h e. w.apart i j l (omega arith) e) (λ i h. w.below i (omega arith))

  -- and where it can lead on to a state that is new, fewer than n - 1
  pub steps_room : (s k v : ℕ) (ts : List ℕ) → Steps A s ts k → v < A.n → ((i : ℕ) → i ≤ k → along A.to s ts i ≡ v → ⊥) → suc k < A.n
  steps_room s k v ts w b new = pigeonhole A.n visited (suc (suc k)) apart below
    where
      -- the new state, and then those of the walk
      visited : ℕ → ℕ
      visited zero = v
      visited (suc i) = along A.to s ts i

      apart : (i j : ℕ) → i < j → j < suc (suc k) → visited i ≡ visited j → ⊥
      apart i zero l h e = omega arith
      apart zero (suc j) l h e = new j (omega arith) (sym e)
      apart (suc i) (suc j) l h e = w.apart i j (omega arith) (omega arith) e

      below : (i : ℕ) → i < suc (suc k) → visited i < A.n
      below zero h = b
      below (suc i) h = w.below i (omega arith)

  -- one transition more, to a state that is new
  pub steps-more : (s k t : ℕ) (walk : List ℕ) → k < length walk → Steps A s walk k
      → Leaves A (along A.to s walk k) t → at A.to t < A.n → ((i : ℕ) → i ≤ k → along A.to s walk i ≡ at A.to t → ⊥)
      → Steps A s (set walk k t) (suc k)
  steps-more s k t walk h w l b new = record { below = below; leaves = leaves; apart = apart }
    where
      here : at (set walk k t) k ≡ t
      here = get_or-set_same walk k t 0 h

      below : (i : ℕ) → i ≤ suc k → along A.to s (set walk k t) i < A.n
      below i q = go (same_or_not i (suc k))
        where
          go : (i ≡ suc k) ⊎ (i ≢ suc k) → along A.to s (set walk k t) i < A.n
          go (inl e) = rw (e, along-next A.to s k t walk h) b
          go (inr d) = rw (along-before A.to s k t walk i (omega (arith, d))) (w.below i (omega (arith, d)))

      leaves : (i : ℕ) → i < suc k → Leaves A (along A.to s (set walk k t) i) (at (set walk k t) i)
      leaves i q = rw (along-before A.to s k t walk i (omega arith)) (go (same_or_not i k))
        where
          go : (i ≡ k) ⊎ (i ≢ k) → Leaves A (along A.to s walk i) (at (set walk k t) i)
          go (inl e) = rw (e, here) l
          go (inr d) = rw (get_or-set_other walk k i t 0 d) (w.leaves i (omega (arith, d)))

      apart : (i j : ℕ) → i < j → j ≤ suc k → along A.to s (set walk k t) i ≡ along A.to s (set walk k t) j → ⊥
      apart i j l q e = go (same_or_not j (suc k))
        where
          first : along A.to s walk i ≡ along A.to s (set walk k t) j
          first = sym (along-before A.to s k t walk i (omega arith)) ∙ e

          go : (j ≡ suc k) ⊎ (j ≢ suc k) → ⊥
          go (inl p) = new i (omega arith) (first ∙ ap (along A.to s (set walk k t)) p ∙ along-next A.to s k t walk h)
          go (inr d) = w.apart i j l (omega (arith, d)) (first ∙ along-before A.to s k t walk j (omega (arith, d)))

module _ {A : Arrays} {head link weight close value : List ℕ} {s : ℕ} (r : Readable A head link weight close value s) where
  -- the route as far as it is written: k transitions from s to x
  pub record Tracing (x k : ℕ) (before walk : List ℕ) : Type 0 where
    pub last : along A.to s walk k ≡ x
    pub within : UnfinishedIn A.marks x → r.inside x ≡ true
    pub falls : UnfinishedIn A.marks x → (i : ℕ) → i ≤ k → r.rank x ≤ r.rank (along A.to s walk i)
    pub under : (i : ℕ) → i < k → r.rank (along A.to s walk i) ≤ r.rank s
    pub steps : Steps A s walk k
    pub unfinished : (i : ℕ) → i < k → UnfinishedIn A.marks (along A.to s walk i)
    pub costs : delay (at weight) (take k walk) + at value x ≡ at value s
    pub later : drop k walk ≡ drop k before

  pub traced-first : (walk : List ℕ) → Tracing s 0 walk walk
  traced-first walk = record {
    last = refl;
    within = r.within;
    falls = falls;
    under = λ i q. absurd (omega arith);
    steps = record { below = below; leaves = λ i q. absurd (omega arith); apart = λ i j l q e. omega arith };
    unfinished = λ i q. absurd (omega arith);
    costs = omega arith;
    later = refl;
  }
    where
      below : (i : ℕ) → i ≤ 0 → along A.to s walk i < A.n
      below zero q = r.below
      below (suc i) q = absurd (omega arith)

      falls : UnfinishedIn A.marks s → (i : ℕ) → i ≤ 0 → r.rank s ≤ r.rank (along A.to s walk i)
      falls u zero q = le_refl (r.rank s)
      falls u (suc i) q = absurd (omega arith)

  module _ {x k : ℕ} {before walk : List ℕ} (a : Tracing x k before walk) where
    pub traced-fits : k < A.n
    traced-fits = steps_fit A s k walk a.steps

    pub traced-below : x < A.n
    traced-below = rw a.last at (a.steps.below k (le_refl k))

    pub traced-all : FinalIn A.marks x → Traced A weight close value r.rank s k before walk
    traced-all f = record {
      steps = a.steps;
      unfinished = a.unfinished;
      under = a.under;
      ends = rw a.last f;
      costs = rw (a.last, ← r.leading.at-final x traced-below f) a.costs;
      fits = traced-fits;
      later = a.later;
    }

    module _ (t : ℕ) (u : UnfinishedIn A.marks x) (l : Leaves A x t) (q : Accounts A.to weight value x t) where
      onward : UnfinishedIn A.marks (at A.to t) → (r.inside (at A.to t) ≡ true) × (r.rank (at A.to t) < r.rank x)
      onward = r.leading.onward x traced-below (a.within u) u t l q

      so_far : (i : ℕ) → i ≤ k → UnfinishedIn A.marks (along A.to s walk i)
      so_far i h = go (same_or_not i k)
        where
          go : (i ≡ k) ⊎ (i ≢ k) → UnfinishedIn A.marks (along A.to s walk i)
          go (inl p) = rw (p, a.last) u
          go (inr d) = a.unfinished i (omega (arith, d))

      new : (i : ℕ) → i ≤ k → along A.to s walk i ≡ at A.to t → ⊥
      new i h e = go (final_mark (at A.marks (at A.to t))) refl
        where
          go : (f : Bool) → final_mark (at A.marks (at A.to t)) ≡ f → ⊥
          go true p = true≢false (sym p ∙ ap (λ (y : ℕ). final_mark (at A.marks y)) (sym e) ∙ so_far i h)
          go false p = omega (arith, (onward p).1, a.falls u i h, ap r.rank e)

      pub traced_room : suc k < A.n
      traced_room = steps_room A s k (at A.to t) walk a.steps (r.linked.bounded.arrives t l.listed) new

      pub traced-turn : k < length walk → Tracing (at A.to t) (suc k) before (set walk k t)
      traced-turn room = record {
        last = along-next A.to s k t walk room;
        within = λ v. (onward v).0;
        falls = falls;
        under = under;
        steps = steps-more A s k t walk room a.steps (rw a.last l) (r.linked.bounded.arrives t l.listed) new;
        unfinished = λ i h. rw (along-before A.to s k t walk i (omega arith)) (so_far i (omega arith));
        costs = rw (take-suc-set walk k t room, delay_snoc (at weight) (take k walk) t) (omega (arith, a.costs, q));
        later = later_more k t before walk a.later;
      }
        where
          under : (i : ℕ) → i < suc k → r.rank (along A.to s (set walk k t) i) ≤ r.rank s
          under i h = rw (along-before A.to s k t walk i (omega arith)) (go (same_or_not i k))
            where
              go : (i ≡ k) ⊎ (i ≢ k) → r.rank (along A.to s walk i) ≤ r.rank s
              go (inl p) = rw (p, a.last) (a.falls u 0 (omega arith))
              go (inr d) = a.under i (omega (arith, d))

          falls : UnfinishedIn A.marks (at A.to t) → (i : ℕ) → i ≤ suc k → r.rank (at A.to t) ≤ r.rank (along A.to s (set walk k t) i)
          falls v i h = go (same_or_not i (suc k))
            where
              go : (i ≡ suc k) ⊎ (i ≢ suc k) → r.rank (at A.to t) ≤ r.rank (along A.to s (set walk k t) i)
              go (inl p) = rw (p, along-next A.to s k t walk room) (le_refl (r.rank (at A.to t)))
              go (inr d) = rw (along-before A.to s k t walk i (omega (arith, d))) (omega (arith, (onward v).1, a.falls u i (omega (arith, d))))

-- ---- a first transition, and the route behind it

-- the places behind the first, where t stands
pub part_behind : (t : ℕ) (walk : List ℕ) → 1 ≤ length walk → take (length (set walk 0 t) - 1) (drop 1 (set walk 0 t)) ≡ drop 1 walk
part_behind t [] h = absurd (not-suc-le-zero h)
part_behind t (w ∷ ws) h = take_all (suc (length ws) - 1) ws (omega arith)

-- what is put there
pub put_behind : (t : ℕ) (walk rest : List ℕ) → 1 ≤ length walk
    → take 1 (set walk 0 t) ++ (rest ++ drop (length (set walk 0 t) - 1) (drop 1 (set walk 0 t))) ≡ t ∷ rest
put_behind t [] rest h = absurd (not-suc-le-zero h)
put_behind t (w ∷ ws) rest h = ap (λ (l : List ℕ). t ∷ l) (ap (λ (l : List ℕ). rest ++ l) (drop_of_length-le ws {i = suc (length ws) - 1} (omega arith)) ∙ append-nil rest)

-- the state that it leads to, by another name
abbrev pub readable-at : {A : Arrays} {head link weight close value : List ℕ} {s s' : ℕ} → s ≡ s' → Readable A head link weight close value s' → Readable A head link weight close value s
readable-at e r = record {
  linked = r.linked;
  below = rw e r.below;
  weights = r.weights;
  values = r.values;
  inside = r.inside;
  rank = r.rank;
  leading = r.leading;
  within = rw e r.within;
}

pub begun_all : {A : Arrays} {weight close value : List ℕ} {rank : ℕ → ℕ} {t k s : ℕ} {before rest : List ℕ} → 1 ≤ length before → s ≡ at A.to t
    → Traced A weight close value rank s k (take (length (set before 0 t) - 1) (drop 1 (set before 0 t))) rest
    → TracedBy A weight close value rank t (k + 1) before
    (take 1 (set before 0 t) ++ (rest ++ drop (length (set before 0 t) - 1) (drop 1 (set before 0 t))))
begun_all {k = k} {before = before} {rest = rest} h e x =
    record { rest = rest; more = k; number_of = add-one k; written = put_behind _ before rest h; traced = rw (part_behind _ before h, e) at x }
