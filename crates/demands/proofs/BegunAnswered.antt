-- Calls that begin answered, of whatever keeps the promises. The walks of the request's words are those of the definitions (graph's `route-is`, `unfinished-is`,
-- `stranded-is`, and `endless-at` with its converses), so each sentence of a quotation says what it should of them; and what a route costs is what it comes to in 01's own
-- words (`in_own-words`). A route that ends where it began visits its first state first and last, so a count has it twice. Then plans that meet the premises, and two
-- impostors: one that shows a start alone, and one that counts the return once. Assumes nothing.
use mathlib.Core.Bool.{Bool, true, false}
use mathlib.Core.List.{List, [], ◌∷◌}
use mathlib.Core.Logic.{◌⊎◌, inl, inr, ⊎_elim}
use mathlib.Core.Path.{◌≡◌, refl, sym, ap, ◌∙◌, subst}
use Prim.Native.Nat.{ℕ, ◌≤◌}
use native.Mathlib.Nat.{zero-lt-suc}
use native.Mathlib.Omega.{arith}
use lib.Dec.{lit<}
use lib.ListN.{length, take}
use Rattle.graph.specs.declared.Asked.{Asked}
use Rattle.graph.specs.declared.Asked.TheVariants.{One, LeastCountFor, GreatestCountFor}
use Rattle.graph.specs.declared.Which.{Which}
use Rattle.graph.specs.declared.Which.TheVariants.{LeastDelay, GreatestDelay, LeastCount, GreatestCount}
use Rattle.graph.specs.Class.{figure_of, counting}
use Rattle.graph.specs.Compute.{any, figure_for}
use Rattle.graph.specs.Figure.{Figure, number, STRANDED, ENDLESS, Shown, cost_over, comes_to}
use Rattle.graph.specs.Graph.{Graph, marks_of, start, final, counted, transition, from, to, low, high, Departs, Final, Unfinished, NoneDeparts, DeadEnd}
use Rattle.graph.specs.Known.{P2, P3, answered_returns, answered_loop, answered_open}
use Rattle.graph.specs.Route.{Route, HasEndlessWalk, HasOpenWalk, EndsUnanswered, lows, highs, counts, number-on}
use Rattle.graph.specs.Walk.{Begins, UnfinishedWalk, arrival}
use Rattle.graph.specs.Which.{is_least, place}
use Rattle.graph.proofs.Basic.{answered_goes_on, answered_start, answered_takes-one}
use Rattle.graph.proofs.Endless.{endless-at, at-departs, at-unfinished}
use Rattle.graph.proofs.Open.{none_open}
use Rattle.graph.proofs.Sentences.{InWords, route-is, route_some, unfinished-is, stranded-is, open_is, in_own-words, counts_no_heed}
use Rattle.std.proofs.Common.{Ok}
use Rattle.rules.specs.declared.Quote.{Quote}
use Rattle.rules.specs.Quotations.{meant, says_over, says_asked, Stated, GreatestQuoted, LeastQuoted}
use Rattle.rules.proofs.Sizes.{figure-said}
use Rattle.rules.proofs.Small.{shows_of}
use Rattle.arrays.specs.declared.Plan.{Plan}
use Rattle.plan.specs.View.{view}
use Rattle.demands.specs.BegunAnswered.{Going, AnsweredRoute, GoesOn, Strands, TakesOpen, AnsweredShown, BegunAnswered}
use Rattle.demands.specs.Calculator.{Calculator, Promises}
use Rattle.demands.proofs.Demands.{said_of}
use Rattle.demands.proofs.Said.{least-said, greatest-said, number_not_endless, number_not_stranded}

-- ---- the walks

module _ (g : Graph) where
  of_going : (alone between last : ℕ → Type 0) (s : ℕ) (ts : List ℕ) → Going g between last s ts → InWords g alone between last s ts
  of_going alone between last s ts w = record {
    walk = w.walk;
    single = λ e. absurd (omega (arith, w.some));
    middle = w.middle;
    ends = λ h. w.ends;
  }

  to_going : (alone between last : ℕ → Type 0) (s : ℕ) (ts : List ℕ) → 1 ≤ length ts → InWords g alone between last s ts → Going g between last s ts
  to_going alone between last s ts some w = record { walk = w.walk; some = some; middle = w.middle; ends = w.ends some }

  of_route : (s : ℕ) (ts : List ℕ) → AnsweredRoute g s ts → Route g s ts
  of_route s ts r = (route-is g s ts).1 (of_going (λ x. ⊥) (Unfinished g) (Final g) s ts r)

  to-route : (s : ℕ) (ts : List ℕ) → Route g s ts → AnsweredRoute g s ts
  to-route s ts r = to_going (λ x. ⊥) (Unfinished g) (Final g) s ts (route_some g s ts r) ((route-is g s ts).0 r)

  of_endless : GoesOn g → HasEndlessWalk g
  of_endless w = (w.first, w.taken, (w.begins, endless-at g w.first w.taken w.departs w.unfinished))

  to-endless : HasEndlessWalk g → GoesOn g
  to-endless (s, taken, (b, w)) = record { first = s; taken = taken; begins = b; departs = at-departs g s taken w; unfinished = at-unfinished g s taken w }

  of_stranded : Strands g → EndsUnanswered g
  of_stranded (s, inl (b, n)) = (s, [], (b, n))
  of_stranded (s, inr (ts, w)) = (s, ts, (stranded-is g s ts).1 (of_going (NoneDeparts g) (Unfinished g) (DeadEnd g) s ts w))

  to-stranded : EndsUnanswered g → Strands g
  to-stranded (s, [], (b, n)) = (s, inl (b, n))
  to-stranded (s, (t ∷ ts), w) =
      (s, inr (t ∷ ts, to_going (NoneDeparts g) (Unfinished g) (DeadEnd g) s (t ∷ ts) (zero-lt-suc (length ts)) ((stranded-is g s (t ∷ ts)).0 w)))

  of_open : TakesOpen g → HasOpenWalk g (highs g)
  of_open w = go w.there
    where
      go : Begins g w.from_state ⊎ ((s : ℕ) × (ts : List ℕ) × Going g (Unfinished g) (Unfinished g) s ts × (arrival g s ts ≡ w.from_state)) → HasOpenWalk g (highs g)
      go (inl b) = (open_is g).1 (w.from_state, [], w.ring, (b, tt), w.departs, w.no-limit)
      go (inr (s, ts, v, e)) =
          (open_is g).1 (s, ts, w.ring, (unfinished-is g s ts).1 (of_going (λ x. Unit) (Unfinished g) (Unfinished g) s ts v), subst (λ (x : ℕ). Departs g x w.ring) (sym e) w.departs, w.no-limit)

  to_open : HasOpenWalk g (highs g) → TakesOpen g
  to_open w =
      let (s, ts, t, u, d, e) = (open_is g).0 w in
      record { ring = t; from_state = arrival g s ts; there = there s ts u; departs = d; no-limit = e }
    where
      there : (s : ℕ) (ts : List ℕ) → UnfinishedWalk g s ts
          → Begins g (arrival g s ts) ⊎ ((r : ℕ) × (us : List ℕ) × Going g (Unfinished g) (Unfinished g) r us × (arrival g r us ≡ arrival g s ts))
      there s [] u = inl u.0
      there s (t ∷ ts) u =
          inr (s, t ∷ ts, to_going (λ x. Unit) (Unfinished g) (Unfinished g) s (t ∷ ts) (zero-lt-suc (length ts)) ((unfinished-is g s (t ∷ ts)).0 u), refl)

  -- ---- a state that counts where a walk ends, and where it begins too

  last_counts : (test : ℕ → Bool) (s : ℕ) (ts : List ℕ) → test (arrival g s ts) ≡ true → 1 ≤ number-on g test s ts
  last_counts test s [] e = rw e (omega arith)
  last_counts test s (t ∷ ts) e = omega (arith, last_counts test (to g t) ts e)

  both-count : (test : ℕ → Bool) (s : ℕ) (ts : List ℕ) → 1 ≤ length ts → arrival g s ts ≡ s → test s ≡ true → 2 ≤ number-on g test s ts
  both-count test s [] some back e = absurd (omega arith)
  both-count test s (t ∷ ts) some back e = rw e (omega (arith, last_counts test (to g t) ts (ap test back ∙ e)))

  -- where a figure is a number, no walk takes what is open
  none_taken : (which : Which) (test : ℕ → Bool) (q : Quote) (before after : List ℕ) (x : ℕ) → Stated (says_over which test g) q before after
      → meant q.figure ≡ number x → HasOpenWalk g (cost_over which test g) → ⊥
  none_taken LeastDelay test q before after x s e = none_open g (lows g) (λ t l. refl)
  none_taken GreatestDelay test q before after x s e = λ w. number_not_endless x (sym e ∙ s.endless.1 (inr w))
  none_taken LeastCount test q before after x s e = none_open g (counts g test) (λ t l. refl)
  none_taken GreatestCount test q before after x s e = none_open g (counts g test) (λ t l. refl)

  -- the route shown
  shown_so : (asked : Asked) (q : Quote) (before after : List ℕ) (x : ℕ) → Stated (says_asked asked g) q before after → meant q.figure ≡ number x
      → AnsweredShown asked g x (take q.k after)
  shown_so asked q before after x says e =
      let which : Which = figure_of asked in
      let test : ℕ → Bool = counting asked g in
      let ts : List ℕ = take q.k after in
      let (s, r, t, d, z) = subst (λ (h : Figure). Shown g (cost_over which test g) h ts q.j) e (shows_of which test says).walk in
      let a = to-route s ts r in
      let is : comes_to which test g s ts ≡ x = sym (in_own-words g which test (none_taken which test q before after x says e) s ts r) ∙ t in
      record { first = s; route = a; comes_to_lem = is; once = d; twice = λ count back there. twice asked s ts x count is (both-count test s ts a.some back there) }
    where
      twice : (asked : Asked) (s : ℕ) (ts : List ℕ) (x : ℕ) → (figure_of asked ≡ LeastCount) ⊎ (figure_of asked ≡ GreatestCount)
          → comes_to (figure_of asked) (counting asked g) g s ts ≡ x → 2 ≤ number-on g (counting asked g) s ts → 2 ≤ x
      twice (One LeastDelay) s ts x count is h = ⊎_elim (λ e. let z : ◌≡◌ {A = ℕ} 0 2 = ap place e in absurd (omega arith)) (λ e. let z : ◌≡◌ {A = ℕ} 0 3 = ap place e in absurd (omega arith)) count
      twice (One GreatestDelay) s ts x count is h = ⊎_elim (λ e. let z : ◌≡◌ {A = ℕ} 1 2 = ap place e in absurd (omega arith)) (λ e. let z : ◌≡◌ {A = ℕ} 1 3 = ap place e in absurd (omega arith)) count
      twice (One LeastCount) s ts x count is h = omega (arith, is, h)
      twice (One GreatestCount) s ts x count is h = omega (arith, is, h)
      twice (LeastCountFor team) s ts x count is h = omega (arith, is, h)
      twice (GreatestCountFor team) s ts x count is h = omega (arith, is, h)

-- ---- the record

module _ (c : Calculator) (keeps : Promises c) where
  -- what a greatest figure, and a least one, says
  module _ {asked : Asked} {p : Plan} {before after : List ℕ} (q : Quote) (x : c.quotes asked p before after (Ok q)) where
    greatest_of : is_least (figure_of asked) ≡ false
        → GreatestQuoted (view p) (cost_over (figure_of asked) (counting asked (view p)) (view p)) (meant q.figure) q.k q.j before after
    greatest_of is = greatest-said (counting asked (view p)) (figure_of asked) is (said_of c keeps q x)

    least_of : is_least (figure_of asked) ≡ true
        → LeastQuoted (view p) (cost_over (figure_of asked) (counting asked (view p)) (view p)) (meant q.figure) q.k q.j before after
    least_of is = least-said (counting asked (view p)) (figure_of asked) is (said_of c keeps q x)

  endless_else : (asked : Asked) {p : Plan} {before after : List ℕ} (q : Quote) → c.quotes asked p before after (Ok q) → meant q.figure ≡ ENDLESS
      → GoesOn (view p) ⊎ ((figure_of asked ≡ GreatestDelay) × TakesOpen (view p))
  endless_else (One LeastDelay) q x e = absurd ((said_of c keeps q x).not_endless e)
  endless_else (One GreatestDelay) {p} q x e = ⊎_elim (λ w. inl (to-endless (view p) w)) (λ w. inr (refl, to_open (view p) w)) ((said_of c keeps q x).endless.0 e)
  endless_else (One LeastCount) q x e = absurd ((said_of c keeps q x).not_endless e)
  endless_else (One GreatestCount) {p} q x e = inl (to-endless (view p) ((counts_no_heed (view p) (counting (One GreatestCount) (view p))).0 ((said_of c keeps q x).endless.0 e)))
  endless_else (LeastCountFor team) q x e = absurd ((said_of c keeps q x).not_endless e)
  endless_else (GreatestCountFor team) {p} q x e =
      inl (to-endless (view p) ((counts_no_heed (view p) (counting (GreatestCountFor team) (view p))).0 ((said_of c keeps q x).endless.0 e)))

  stranded_else : (which : Which) (test : ℕ → Bool) (g : Graph) (q : Quote) (before after : List ℕ) → Stated (says_over which test g) q before after
      → meant q.figure ≡ STRANDED → Strands g
  stranded_else LeastDelay test g q before after s e = absurd (s.not_stranded e)
  stranded_else GreatestDelay test g q before after s e = to-stranded g (s.stranded.0 e).1
  stranded_else LeastCount test g q before after s e = absurd (s.not_stranded e)
  stranded_else GreatestCount test g q before after s e = to-stranded g (s.stranded.0 e).1

  two_and_three : (which : Which) → figure_for which P2.plan ≡ P3.figures which
  unfolding figure_for any marks_of start final counted transition from to low high
  two_and_three LeastDelay = refl
  two_and_three GreatestDelay = refl
  two_and_three LeastCount = refl
  two_and_three GreatestCount = refl

  pub begun_answered : BegunAnswered c
  begun_answered = record {
    shown = λ {asked} {p} {before} {after} q n x e. shown_so (view p) asked q before after n (said_of c keeps q x) e;
    at_least = λ {asked} {p} {before} {after} q n is x e s ts r.
        let w = of_route (view p) s ts r in
        rw (← in_own-words (view p) (figure_of asked) (counting asked (view p)) (none_taken (view p) (figure_of asked) (counting asked (view p)) q before after n (said_of c keeps q x) e) s ts w)
        ((least_of q x is).smallest n e s ts w);
    at_most = λ {asked} {p} {before} {after} q n is x e s ts r.
        let w = of_route (view p) s ts r in
        rw (← in_own-words (view p) (figure_of asked) (counting asked (view p)) (none_taken (view p) (figure_of asked) (counting asked (view p)) q before after n (said_of c keeps q x) e) s ts w)
        ((greatest_of q x is).largest n e s ts w);
    least-none = λ {asked} {p} q is x. (
      λ e s ts r. (least_of q x is).none.0 e s (ts, of_route (view p) s ts r),
      λ without. (least_of q x is).none.1 (λ s (ts, r). without s ts (to-route (view p) s ts r)),
    );
    endless-walk = λ {asked} {p} q is x w. (greatest_of q x is).endless.1 (inl (of_endless (view p) w));
    open_walk = λ {p} q x w. (said_of c keeps q x).endless.1 (inr (of_open (view p) w));
    endless_else = λ {asked}. endless_else asked;
    stranded-walk = λ {asked} {p} q is x w not. (greatest_of q x is).stranded.1 (λ u. not ((greatest_of q x is).endless.1 u), of_stranded (view p) w);
    stranded_else = λ {asked} {p} {before} {after} q x e. stranded_else (figure_of asked) (counting asked (view p)) (view p) q before after (said_of c keeps q x) e;
    dead_end_lem = λ {asked} {p} q n s is x b none e.
        number_not_stranded n (sym e ∙ (greatest_of q x is).stranded.1 (λ u. number_not_endless n (sym e ∙ (greatest_of q x is).endless.1 u), (s, [], (b, none))));
    one_state = λ {p} which q e x. figure-said which (view p) _ _ _ _ _ (said_of c keeps q x) ∙ ap (figure_for which) e ∙ two_and_three which;
  }

-- ---- what meets the premises, and what breaks the record

-- 0→0 3..4, where state 0 is start, final and counted: the route of one transition ends where it began
pub returns : AnsweredRoute answered_returns.plan 0 (0 ∷ [])
unfolding start final from to
returns = to-route answered_returns.plan 0 (0 ∷ []) (refl, (record { listed = lit< tt; source = refl }, refl))

-- an endless walk, one that takes an open high, and a dead end, each from a start that is final
pub goes_on_answered : GoesOn answered_loop.plan
goes_on_answered = to-endless answered_loop.plan answered_goes_on

pub takes_open_answered : TakesOpen answered_open.plan
takes_open_answered = to_open answered_open.plan (0, 0 ∷ [], answered_takes-one)

pub strands_answered : Strands P2.plan
strands_answered = to-stranded P2.plan answered_start

-- one that shows a start alone beside a number
pub shows_a_start : (c : Calculator) → BegunAnswered c → {asked : Asked} {p : Plan} {before after : List ℕ} (q : Quote) (n : ℕ)
    → c.quotes asked p before after (Ok q) → meant q.figure ≡ number n → take q.k after ≡ [] → ⊥
shows_a_start c d q n x e none = let s = (d.shown q n x e).route.some in omega (arith, ap length none)

-- one that counts the state once where a route begins and ends at it
pub counts_once : (c : Calculator) → BegunAnswered c → {p : Plan} {before after : List ℕ} (q : Quote) → view p ≡ answered_returns.plan
    → c.quotes (One GreatestCount) p before after (Ok q) → meant q.figure ≡ number 1 → ⊥
unfolding marks_of counted transition from to
counts_once c d {p} q e x f =
    let two : number-on (view p) (counted (view p)) 0 (0 ∷ []) ≡ 2 = ap (λ (g : Graph). number-on g (counted g) 0 (0 ∷ [])) e in
    omega (arith, d.at_most q 1 refl x f 0 (0 ∷ []) (subst (λ (g : Graph). AnsweredRoute g 0 (0 ∷ [])) (sym e) returns), two)
