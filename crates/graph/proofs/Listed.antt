-- The lists of specs/Compute.antt hold just the walks that they are said to hold.
--
-- First what is in a list that is taken by a test, gathered over numbers, or not empty. Then, by recursion on the
-- number of transitions, a list of transitions is in `walks` exactly when it is a walk of that length through
-- unfinished states to a state where the test says yes; `begun` adds a first step from a start, and `within` all lengths below n after it, and starts
-- alone. Last, the test for a dead end says yes exactly at a dead end. Assumes nothing.
use Prim.Native.Nat.{ℕ, zero, suc, ◌≤◌, ◌<◌}
use mathlib.Core.Path.{◌≡◌, refl, sym, ◌∙◌, ap, subst}
use mathlib.Core.Bool.{Bool, true, false, not, ◌&&◌, false≢true, and-eq-true_iff}
use mathlib.Core.Logic.{◌⊎◌, inl, inr}
use mathlib.Core.List.Memᴰ
use mathlib.Core.List.{List, [], ◌∷◌, ◌++◌, map, Memᴰ}
use native.Mathlib.Nat.{not-suc-le-zero, lt-suc_self, le_step}
use native.Mathlib.Decide.{ℕ_discrete}
use native.Mathlib.Omega.{arith}
use lib.Dec.{eqb, ltb}
use lib.ListN.{length}
use borrow.Author.Tests.{eqb-true, eq-eqb, ltb-true, not-true, not-false}
use Rattle.graph.specs.Graph.{Graph, states, count, start, final, from, to, Departs, Unfinished, DeadEnd, Closed}
use Rattle.graph.specs.Walk.{Begins, FirstStep, AfterStart, Begun, WalkTo}
use Rattle.graph.specs.Compute.{given, gather, nonempty, any, closed, leaving, dead_end, onward, walks, begun, within}
use Rattle.graph.proofs.Tests.{decided, any_of, in_any, none_of}
use Rattle.graph.proofs.Walks.{start-below}

infix 50 ◌∈◌
abbrev pub ◌∈◌ : {A : Type 0} → A → List A → Type 0
x ∈ xs = Memᴰ x xs

module _ {A : Type 0} where
  pub of_given : (b : Bool) {x : A} {xs : List A} → x ∈ given b xs → (b ≡ true) × (x ∈ xs)
  of_given true m = (refl, m)
  of_given false m = absurd (Memᴰ.not-nil m)

  pub in_given : (b : Bool) {x : A} {xs : List A} → b ≡ true → x ∈ xs → x ∈ given b xs
  in_given true e m = m
  in_given false e m = absurd (false≢true e)

  pub of_gather : (f : ℕ → List A) (n : ℕ) {x : A} → x ∈ gather f n → (i : ℕ) × (i < n) × (x ∈ f i)
  of_gather f zero m = absurd (Memᴰ.not-nil m)
  of_gather f (suc n) {x} m = go (of_gather f n) (Memᴰ.append_cases (gather f n) m)
    where
      go : (x ∈ gather f n → (i : ℕ) × (i < n) × (x ∈ f i)) → (x ∈ gather f n) ⊎ (x ∈ f n)
          → (i : ℕ) × (i < suc n) × (x ∈ f i)
      go ih (inl l) = let (i, h, r) = ih l in (i, le_step h, r)
      go ih (inr r) = (n, lt-suc_self n, r)

  pub in_gather : (f : ℕ → List A) (n i : ℕ) {x : A} → i < n → x ∈ f i → x ∈ gather f n
  in_gather f zero i h m = absurd (not-suc-le-zero h)
  in_gather f (suc n) i {x} h m = go (in_gather f n i) (ℕ_discrete i n)
    where
      go : (i < n → x ∈ f i → x ∈ gather f n) → Dec (i ≡ n) → x ∈ (gather f n ++ f n)
      go ih (yes e) = Memᴰ.append_right (gather f n) (rw e at m)
      go ih (no e) = Memᴰ.append_left (f n) (ih (omega arith) m)

  pub of_nonempty : (xs : List A) → nonempty xs ≡ true → (x : A) × (x ∈ xs)
  of_nonempty [] e = absurd (false≢true e)
  of_nonempty (x ∷ xs) e = (x, Memᴰ.head refl)

  pub in_nonempty : (xs : List A) {x : A} → x ∈ xs → nonempty xs ≡ true
  in_nonempty [] m = absurd (Memᴰ.not-nil m)
  in_nonempty (x ∷ xs) m = refl

-- yes of a test, as a condition on states
abbrev pub Yes : (ℕ → Bool) → ℕ → Type 0
Yes p s = p s ≡ true

-- a transition out of s, and one of the lists from where it leads
module _ (g : Graph) (rest : ℕ → List (List ℕ)) (s : ℕ) where
  abbrev by : ℕ → List (List ℕ)
  by t = given (eqb (from g t) s) (map (λ ts. t ∷ ts) (rest (to g t)))

  of_onward : (ts : List ℕ) → ts ∈ onward g rest s → (t : ℕ) × (us : List ℕ) × Departs g s t × (us ∈ rest (to g t)) × (t ∷ us ≡ ts)
  unfolding onward
  of_onward ts m =
      let (t, h, m₁) = of_gather by (count g) m in
      let (e, m₂) = of_given (eqb (from g t) s) m₁ in
      let (us, m₃, q) = Memᴰ.of_map (λ ts. t ∷ ts) (rest (to g t)) m₂ in
      (t, us, record { listed = h; source = eqb-true (from g t) s e }, m₃, q)

  in_onward : (t : ℕ) (us : List ℕ) → Departs g s t → us ∈ rest (to g t) → (t ∷ us) ∈ onward g rest s
  unfolding onward
  in_onward t us d m =
      in_gather by (count g) t d.listed (in_given (eqb (from g t) s) (eq-eqb (from g t) s d.source) (Memᴰ.map (λ ts. t ∷ ts) m))

module _ (g : Graph) (stop : ℕ → Bool) where
  -- a walk of that length, through unfinished states to a yes
  abbrev Walked : ℕ → ℕ → List ℕ → Type 0
  Walked k s ts = WalkTo g (Unfinished g) (Yes stop) s ts × (length ts ≡ k)

  of_walks : (k s : ℕ) (ts : List ℕ) → ts ∈ walks g stop k s → Walked k s ts
  unfolding walks
  of_walks zero s ts m =
      let (e, n) = of_given (stop s) m in
      subst (Walked 0 s) (sym (Memᴰ.eq_of_singleton n)) (e, refl)
  of_walks (suc k) s ts m =
      let (u, m₁) = of_given (not (final g s)) m in
      let (t, us, d, m₂, q) = of_onward g (λ x. walks g stop k x) s ts m₁ in
      let (w, l) = of_walks k (to g t) us m₂ in
      subst (Walked (suc k) s) q ((not-true (final g s) u, d, w), ap suc l)

  in_walks : (s : ℕ) (ts : List ℕ) → WalkTo g (Unfinished g) (Yes stop) s ts → ts ∈ walks g stop (length ts) s
  unfolding walks
  in_walks s [] w = in_given (stop s) w (Memᴰ.head refl)
  in_walks s (t ∷ ts) w =
      in_given (not (final g s)) (ap not w.0) (in_onward g (λ x. walks g stop (length ts) x) s t ts w.1 (in_walks (to g t) ts w.2))

  -- a walk from a start: a first step, and that many transitions after it, through unfinished states to a yes
  pub record Listed (k : ℕ) (r : ℕ × List ℕ) : Type 0 where
    pub begins : Begins g r.0
    pub first : ℕ
    pub rest : List ℕ
    pub step : FirstStep g (WalkTo g (Unfinished g) (Yes stop)) r.0 first rest
    pub size : length rest ≡ k
    pub is : first ∷ rest ≡ r.1

  -- the walks with a first step from s, with s, where s is a start
  abbrev beginning : ℕ → ℕ → List (ℕ × List ℕ)
  beginning k s = given (start g s) (map (λ ts. (s, ts)) (onward g (walks g stop k) s))

  pub of_begun : (k : ℕ) (r : ℕ × List ℕ) → r ∈ begun g stop k → Listed k r
  unfolding begun
  of_begun k r m =
      let (s, h, m₁) = of_gather (beginning k) (states g) m in
      let (b, m₂) = of_given (start g s) m₁ in
      let (ts, m₃, q) = Memᴰ.of_map {B = ℕ × List ℕ} (λ ts. (s, ts)) (onward g (walks g stop k) s) m₂ in
      let (t, us, d, m₄, e) = of_onward g (walks g stop k) s ts m₃ in
      let (w, l) = of_walks k (to g t) us m₄ in
      subst (Listed k) q (record { begins = b; first = t; rest = us; step = (d, w); size = l; is = e })

  pub in_begun : (s t : ℕ) (ts : List ℕ) → Begins g s → FirstStep g (WalkTo g (Unfinished g) (Yes stop)) s t ts
      → (s, t ∷ ts) ∈ begun g stop (length ts)
  unfolding begun
  in_begun s t ts b w =
      in_gather (beginning (length ts)) (states g) s (start-below g s b)
      (in_given (start g s) b (Memᴰ.map (λ ts. (s, ts)) (in_onward g (walks g stop (length ts)) s t ts w.0 (in_walks (to g t) ts w.1))))

module _ (g : Graph) (alone stop : ℕ → Bool) where
  -- a start alone
  abbrev single : ℕ → List (ℕ × List ℕ)
  single s = given (start g s && alone s) ((s, []) ∷ [])

  -- a walk of the plan, a start alone of which `alone` says yes, or through unfinished states to a yes of `stop`
  abbrev pub Ends : ℕ × List ℕ → Type 0
  Ends r = Begun g (Yes alone) (WalkTo g (Unfinished g) (Yes stop)) r.0 r.1

  pub of_within : (r : ℕ × List ℕ) → r ∈ within g alone stop → Ends r
  unfolding within
  of_within r m = go (Memᴰ.append_cases (gather single (states g)) m)
    where
      go : (r ∈ gather single (states g)) ⊎ (r ∈ gather (begun g stop) (states g)) → Ends r
      go (inl l) =
          let (s, h, m₁) = of_gather single (states g) l in
          let (e, m₂) = of_given (start g s && alone s) m₁ in
          subst Ends (sym (Memᴰ.eq_of_singleton m₂)) ((and-eq-true_iff (start g s) (alone s)).0 e)
      go (inr l) =
          let (k, h, m₁) = of_gather (begun g stop) (states g) l in
          let q = of_begun g stop k r m₁ in
          (q.begins, subst (AfterStart g (Yes alone) (WalkTo g (Unfinished g) (Yes stop)) r.0) q.is q.step)

  pub in_within : (s : ℕ) (ts : List ℕ) → Ends (s, ts) → length ts ≤ states g → (s, ts) ∈ within g alone stop
  unfolding within
  in_within s [] (b, a) h =
      Memᴰ.append_left (gather (begun g stop) (states g))
      (in_gather single (states g) s (start-below g s b) (in_given (start g s && alone s) ((and-eq-true_iff (start g s) (alone s)).1 (b, a)) (Memᴰ.head refl)))
  in_within s (t ∷ ts) (b, w) h =
      Memᴰ.append_right (gather single (states g)) (in_gather (begun g stop) (states g) (length ts) h (in_begun g stop s t ts b w))

-- ---- plans that lead nowhere else, and dead ends

pub of_closed : (g : Graph) → closed g ≡ true → Closed g
unfolding closed
of_closed g e t h =
    let p : ℕ → Bool = λ t. not (ltb (to g t) (states g)) in
    ltb-true (to g t) (states g) (not-false (ltb (to g t) (states g)) (none_of p (count g) (not-true (any p (count g)) e) t h))

module _ (g : Graph) (s : ℕ) where
  pub of_leaving : leaving g s ≡ true → (t : ℕ) × Departs g s t
  unfolding leaving
  of_leaving e =
      let (t, h, q) = any_of (λ t. eqb (from g t) s) (count g) e in
      (t, record { listed = h; source = eqb-true (from g t) s q })

  pub in_leaving : (t : ℕ) → Departs g s t → leaving g s ≡ true
  unfolding leaving
  in_leaving t d = in_any (λ t. eqb (from g t) s) (count g) t d.listed (eq-eqb (from g t) s d.source)

  -- an unfinished state that no transition leaves
  pub dead_end-is : Unfinished g s → leaving g s ≡ false → DeadEnd g s
  dead_end-is u e = record { unfinished = u; none-departs = λ t d. false≢true (sym e ∙ in_leaving t d) }

  pub of_dead_end : dead_end g s ≡ true → DeadEnd g s
  unfolding dead_end
  of_dead_end e =
      let (u, v) = (and-eq-true_iff (not (final g s)) (not (leaving g s))).0 e in
      dead_end-is (not-true (final g s) u) (not-true (leaving g s) v)

  pub in_dead_end : DeadEnd g s → dead_end g s ≡ true
  unfolding dead_end
  in_dead_end d = rw (d.unfinished, none-leaves (decided (leaving g s)))
    where
      none-leaves : (leaving g s ≡ true) ⊎ (leaving g s ≡ false) → leaving g s ≡ false
      none-leaves (inl e) = let (t, q) = of_leaving e in absurd (d.none-departs t q)
      none-leaves (inr e) = e
