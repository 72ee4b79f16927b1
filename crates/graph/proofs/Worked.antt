-- Plans with what a search would leave behind: each certificate of Certificate.antt can be met, and gives the figure that
-- is known.
--
-- P1 for numbers: the values are the least and the greatest delay from each state to an answer. The rank of a state is
-- the number of transitions that may follow at most. What is asked of a transition is asked of P1's four (`P1_cases`).
-- P3 for NONE, where only the final state has a value; P4 for ENDLESS, with its loop on the stack; for STRANDED the
-- plan with a dead end beside its answer, whose tree has the start and the dead end; and for ENDLESS by an open transition
-- the plan that reaches one. Assumes nothing.
use Prim.Native.Nat.{ℕ, zero, suc, ◌+◌, ◌≤◌, ◌<◌}
use mathlib.Core.Path.{◌≡◌, refl, sym, subst}
use mathlib.Core.Bool.{false, true≢false, false≢true}
use mathlib.Core.Logic.{◌⊎◌, inl, inr}
use mathlib.Core.List.{[], ◌∷◌}
use native.Mathlib.Nat.{not-suc-le-zero, le_refl}
use native.Mathlib.Omega.{arith}
use lib.Dec.{T, ltb, lit<}
use Rattle.graph.specs.Graph.{Graph, start, final, from, to, low, high, Departs, Final, Unfinished}
use Rattle.graph.specs.Walk.{Begins}
use Rattle.graph.specs.Route.{Cost, lows, highs}
use Rattle.graph.specs.Figure.{number, NONE, STRANDED, ENDLESS, IsLeast, IsGreatest}
use Rattle.graph.specs.Known.{P1, P3, P4, reached_dead_end, open_reached}
use Rattle.graph.proofs.Repeat.{nth}
use Rattle.graph.proofs.Build.{StepAt}
use Rattle.graph.proofs.Certificate.{LeastValues, GreatestValues, FallingRank, Choice, Choices, least-number, least-none}
use Rattle.graph.proofs.Certificate.{greatest-number, endless_by_places, greatest-endless, FoundBy, Tree, tree_stranded, greatest-stranded}
use Rattle.graph.proofs.Certificate.{Limited, tree_open}

abbrev g : Graph
g = P1.plan

-- the states that a start reaches through unfinished ones, and all that have a value
abbrev Reached : ℕ → Type 0
Reached s = s < 3

abbrev Valued : ℕ → Type 0
Valued s = s < 4

abbrev rank : ℕ → ℕ
rank = nth (3 ∷ 2 ∷ 1 ∷ 0 ∷ [])

abbrev least : ℕ → ℕ
least = nth (7 ∷ 2 ∷ 4 ∷ 0 ∷ [])

abbrev greatest : ℕ → ℕ
greatest = nth (60 ∷ 40 ∷ 25 ∷ 0 ∷ [])

-- P1's transitions, each with the state that it departs from
P1_cases : (P : ℕ → ℕ → Type 0) → P 0 0 → P 1 1 → P 1 2 → P 2 3 → (s t : ℕ) → Departs g s t → P s t
unfolding from
P1_cases P a b c d s zero q = subst (λ (s : ℕ). P s 0) q.source a
P1_cases P a b c d s (suc zero) q = subst (λ (s : ℕ). P s 1) q.source b
P1_cases P a b c d s (suc (suc zero)) q = subst (λ (s : ℕ). P s 2) q.source c
P1_cases P a b c d s (suc (suc (suc zero))) q = subst (λ (s : ℕ). P s 3) q.source d
P1_cases P a b c d s (suc (suc (suc (suc t)))) q = absurd (omega (arith, q.listed))

-- only state 3 is final, and only state 0 a start
final_3 : (s : ℕ) → Final g s → s ≡ 3
unfolding final
final_3 zero f = absurd (false≢true f)
final_3 (suc zero) f = absurd (false≢true f)
final_3 (suc (suc zero)) f = absurd (false≢true f)
final_3 (suc (suc (suc zero))) f = refl
final_3 (suc (suc (suc (suc s)))) f = absurd (false≢true f)

start_0 : (s : ℕ) → Begins g s → s ≡ 0
unfolding start
start_0 zero b = refl
start_0 (suc zero) b = absurd (false≢true b)
start_0 (suc (suc zero)) b = absurd (false≢true b)
start_0 (suc (suc (suc zero))) b = absurd (false≢true b)
start_0 (suc (suc (suc (suc s)))) b = absurd (false≢true b)

-- at state s transition t is taken, a numeral of each
module _ (c : Cost) (In : ℕ → Type 0) (value : ℕ → ℕ) where
  take : (s t : ℕ) → T (ltb t 4) → from g t ≡ s → value s ≡ c.step t + value (to g t)
      → (Unfinished g (to g t) → In (to g t) × (rank (to g t) < rank s)) → Choice g c In value rank s
  take s t l e a o = record { next = t; departs = record { listed = lit< l; source = e }; accounts = a; onward = o }

-- ---- the greatest delay

falling : FallingRank g Reached rank
unfolding final to
falling = record {
  begins = λ s b. omega (arith, start_0 s b);
  onward = λ s t i d u.
      P1_cases (λ s t. Unfinished g (to g t) → (to g t < 3) × (rank (to g t) < rank s))
      (λ u. (lit< tt, lit< tt)) (λ u. (lit< tt, lit< tt)) (λ u. absurd (true≢false u)) (λ u. absurd (true≢false u))
      s t d u;
}

limited : Limited g Reached (highs g)
unfolding high
limited s t i d = P1_cases (λ s t. (highs g).unlimited t ≡ false) refl refl refl refl s t d

greatest-over : GreatestValues g (highs g) Reached greatest
unfolding to high
greatest-over = record {
  at-final = λ s f. omega arith;
  over = λ s t i u d. P1_cases (λ s t. (highs g).step t + greatest (to g t) ≤ greatest s)
      (omega arith) (omega arith) (omega arith) (omega arith) s t d;
}

greatest-choices : Choices g (highs g) Reached greatest rank
unfolding final from to high
greatest-choices = record { at-final = λ s f. rw (final_3 s f) refl; choice = choice }
  where
    choice : (s : ℕ) → s < 3 → Unfinished g s → Choice g (highs g) Reached greatest rank s
    choice zero i u = take (highs g) Reached greatest 0 0 tt refl refl (λ v. (lit< tt, lit< tt))
    choice (suc zero) i u = take (highs g) Reached greatest 1 1 tt refl refl (λ v. (lit< tt, lit< tt))
    choice (suc (suc zero)) i u = take (highs g) Reached greatest 2 3 tt refl refl (λ v. absurd (true≢false v))
    choice (suc (suc (suc s))) i u = absurd (omega arith)

-- from the start the one first step is 0→1
first_step : (P : ℕ → Type 0) → P 0 → (x u : ℕ) → Begins g x → Departs g x u → P u
first_step P p x u b d = P1_cases (λ s t. s ≡ 0 → P t) (λ e. p) (λ e. absurd (omega arith)) (λ e. absurd (omega arith)) (λ e. absurd (omega arith)) x u d (start_0 x b)

pub P1-greatest_certified : IsGreatest g (highs g) (number 60)
unfolding start from to high
P1-greatest_certified =
    greatest-number g (highs g) Reached greatest rank falling limited greatest-over greatest-choices 0 0 refl (record { listed = lit< tt; source = refl })
    (first_step (λ u. (highs g).step u + greatest (to g u) ≤ 60) (omega arith)) out
  where
    out : (x : ℕ) → x < 3 → (u : ℕ) × Departs g x u
    out zero i = (0, record { listed = lit< tt; source = refl })
    out (suc zero) i = (1, record { listed = lit< tt; source = refl })
    out (suc (suc zero)) i = (3, record { listed = lit< tt; source = refl })
    out (suc (suc (suc x))) i = absurd (omega arith)

-- ---- the least delay

least-over : LeastValues g (lows g) Valued least
unfolding to low
least-over = record {
  at-final = λ s f. rw (final_3 s f) (lit< tt, omega arith);
  over = λ s t u d h. P1_cases (λ s t. (s < 4) × (least s ≤ low g t + least (to g t)))
      (lit< tt, omega arith) (lit< tt, omega arith) (lit< tt, omega arith) (lit< tt, omega arith) s t d;
}

least-choices : Choices g (lows g) Valued least rank
unfolding final from to low
least-choices = record { at-final = λ s f. rw (final_3 s f) refl; choice = choice }
  where
    choice : (s : ℕ) → s < 4 → Unfinished g s → Choice g (lows g) Valued least rank s
    choice zero i u = take (lows g) Valued least 0 0 tt refl refl (λ v. (lit< tt, lit< tt))
    choice (suc zero) i u = take (lows g) Valued least 1 2 tt refl refl (λ v. (lit< tt, lit< tt))
    choice (suc (suc zero)) i u = take (lows g) Valued least 2 3 tt refl refl (λ v. (lit< tt, lit< tt))
    choice (suc (suc (suc zero))) i u = absurd (true≢false u)
    choice (suc (suc (suc (suc s)))) i u = absurd (omega arith)

pub P1-least_certified : IsLeast g (lows g) (number 7)
unfolding start from to low
P1-least_certified =
    least-number g (lows g) Valued least rank least-over least-choices 0 0 refl (record { listed = lit< tt; source = refl }) (lit< tt)
    (λ x u b d i. first_step (λ u. 7 ≤ (lows g).step u + least (to g u)) (omega arith) x u b d)

-- ---- no route: P3

pub P3-none_certified : (c : Cost) → IsLeast P3.plan c NONE
unfolding start final
P3-none_certified c = least-none P3.plan c (λ s. s ≡ 1) c.close (record { at-final = at-final; over = λ s t u d h. absurd (not-suc-le-zero d.listed) }) none
  where
    at-final : (s : ℕ) → Final P3.plan s → (s ≡ 1) × (c.close s ≤ c.close s)
    at-final zero f = absurd (false≢true f)
    at-final (suc zero) f = (refl, le_refl (c.close 1))
    at-final (suc (suc s)) f = absurd (false≢true f)

    none : (s t : ℕ) → Begins P3.plan s → Departs P3.plan s t → to P3.plan t ≡ 1 → ⊥
    none s t b d e = not-suc-le-zero d.listed

-- ---- an endless walk: P4, its stack the start alone, and the transition back to it

pub P4-endless_certified : (c : Cost) → IsGreatest P4.plan c ENDLESS
unfolding start final from to
P4-endless_certified c =
    greatest-endless P4.plan c (0 ∷ []) 0
    (inl (endless_by_places P4.plan (λ i. 0) (0 ∷ []) refl at (λ i h. refl) 0 (lit< tt) refl (λ i j l h e. omega arith)))
  where
    at : (i : ℕ) → i < 1 → StepAt P4.plan (λ x. Unit) (λ x. Unit) (λ i. 0) (0 ∷ []) i
    at zero h = record { passes = tt; departs = record { listed = lit< tt; source = refl }; arrives = refl }
    at (suc i) h = absurd (omega arith)

-- ---- a dead end reached: 0→1, an answer, and 0→2

abbrev stuck : Graph
stuck = reached_dead_end.plan

-- the states found, in this order: 0, a start, and 2, by transition 1
abbrev FoundThere : ℕ → Type 0
FoundThere s = (s ≡ 0) ⊎ (s ≡ 2)

found : Tree stuck FoundThere (λ s. s)
unfolding start final from to
found = record { origin = origin }
  where
    origin : (s : ℕ) → FoundThere s → Begins stuck s ⊎ FoundBy stuck FoundThere (λ s. s) s
    origin s (inl z) = inl (rw z refl)
    origin s (inr z) = inr (record { via = 1; listed = lit< tt; arrives = sym z; inside = inl refl; earlier = omega arith; unfinished = rw z refl })

-- the rank falls from 0 to 2, and nothing departs from 2
abbrev rank-there : ℕ → ℕ
rank-there = nth (1 ∷ 0 ∷ 0 ∷ [])

falling-there : FallingRank stuck FoundThere rank-there
unfolding start final from to
falling-there = record { begins = begins; onward = onward }
  where
    begins : (s : ℕ) → Begins stuck s → FoundThere s
    begins zero b = inl refl
    begins (suc zero) b = absurd (false≢true b)
    begins (suc (suc zero)) b = inr refl
    begins (suc (suc (suc s))) b = absurd (false≢true b)

    onward : (s t : ℕ) → FoundThere s → Departs stuck s t → Unfinished stuck (to stuck t) → FoundThere (to stuck t) × (rank-there (to stuck t) < rank-there s)
    onward s zero i d u = absurd (true≢false u)
    onward s (suc zero) i d u = (inr refl, rw (sym d.source) (lit< tt))
    onward s (suc (suc t)) i d u = absurd (omega (arith, d.listed))

pub stranded_certified : (c : Cost) → ((t : ℕ) → c.unlimited t ≡ false) → IsGreatest stuck c STRANDED
unfolding from
stranded_certified c none =
    let (ts, shown) = tree_stranded stuck FoundThere (λ s. s) found c 2 (inr refl) none-departs in
    greatest-stranded stuck c FoundThere rank-there falling-there (λ s t i d. none t) ts 0 shown
  where
    none-departs : (t : ℕ) → Departs stuck 2 t → ⊥
    none-departs zero d = omega (arith, d.source)
    none-departs (suc zero) d = omega (arith, d.source)
    none-departs (suc (suc t)) d = omega (arith, d.listed)

-- ---- an open transition reached: 0→1, and 1→2 without limit

abbrev ringing : Graph
ringing = open_reached.plan

-- the states found, in this order: 0, a start, and 1, by transition 0
found_ringing : Tree ringing (λ s. s < 2) (λ s. s)
unfolding start final from to
found_ringing = record { origin = origin }
  where
    origin : (s : ℕ) → s < 2 → Begins ringing s ⊎ FoundBy ringing (λ s. s < 2) (λ s. s) s
    origin zero i = inl refl
    origin (suc zero) i = inr (record { via = 0; listed = lit< tt; arrives = refl; inside = lit< tt; earlier = lit< tt; unfinished = refl })
    origin (suc (suc s)) i = absurd (omega arith)

pub open_certified : IsGreatest ringing (highs ringing) ENDLESS
unfolding from high
open_certified =
    let (ts, shown) = tree_open ringing (λ s. s < 2) (λ s. s) found_ringing (highs ringing) 1 1 (lit< tt) (record { listed = lit< tt; source = refl }) refl in
    greatest-endless ringing (highs ringing) ts _ shown
