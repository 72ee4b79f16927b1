-- A list of calls grows by one at its end: one answer more, and the plan after one call more. So the loop's invariant goes on, and the last plan
-- value stands for the run's last plan. Assumes nothing.
use mathlib.Core.List.{List, [], ◌∷◌, ◌++◌, map}
use mathlib.Core.Path.{◌≡◌, refl, sym, ap, ap₂, ◌∙◌}
use Prim.Native.Nat.{ℕ, suc, ◌+◌, ◌<◌}
use native.Mathlib.Omega.{arith}
use lib.ListN.{length, get_or, drop, set, length-map, length-append}
use lib.Seq.{drop-cons, set_at, append_snoc}
use Rattle.graph.specs.Graph.{Graph}
use Rattle.arrays.specs.Tables.{over}
use Rattle.rules.specs.Image.{tabulate}
use Rattle.arrays.proofs.Lists.{tabulate-more}
use Rattle.rules.proofs.Tabulated.{length-tabulate}
use Rattle.rules.specs.Calls.{Call, step, run}
use Rattle.rules.specs.Refusal.{Result, answer_of, code}
use Rattle.rules.specs.Rules.{next}
use Rattle.arrays.specs.declared.Plan.{Plan}
use Rattle.plan.specs.Promise.{next_value}
use Rattle.plan.specs.View.{view}
use Rattle.plan.specs.Laws.{view-next}
use Rattle.runs.specs.Turns.{run_value}

-- ---- one call more

pub value-more : (p : Plan) (calls : List Call) (call : Call)
    → run_value p (calls ++ (call ∷ [])) ≡ next_value (run_value p calls) (step (view (run_value p calls)) call)
unfolding run_value
value-more p [] call = refl
value-more p (x ∷ calls) call = value-more (next_value p (step (view p) x)) calls call

pub view-value : (p : Plan) (calls : List Call) → view (run_value p calls) ≡ (run (view p) calls).last
unfolding run_value run
view-value p [] = refl
view-value p (x ∷ calls) =
    view-value (next_value p (step (view p) x)) calls ∙ ap (λ (g : Graph). (run g calls).last) (view-next p (step (view p) x))

pub length-answers : (g : Graph) (calls : List Call) → length (run g calls).answers ≡ length calls
unfolding run
length-answers g [] = refl
length-answers g (x ∷ calls) = ap suc (length-answers (next g (step g x)) calls)

answers-more : (g : Graph) (calls : List Call) (call : Call)
    → (run g (calls ++ (call ∷ []))).answers ≡ (run g calls).answers ++ (answer_of (step (run g calls).last call) ∷ [])
unfolding run
answers-more g [] call = refl
answers-more g (x ∷ calls) call =
    ap {B = List (Result (Unit {0}))} (λ (l : List (Result (Unit {0}))). answer_of (step g x) ∷ l) (answers-more (next g (step g x)) calls call)

-- ---- the lent answers

map-append : {A B : Type 0} (f : A → B) (xs ys : List A) → map f (xs ++ ys) ≡ map f xs ++ map f ys
map-append f [] ys = refl
map-append {A} {B} f (x ∷ xs) ys = ap {B = List B} (λ (l : List B). f x ∷ l) (map-append f xs ys)

-- the place behind a list at the front gets the next element
over-more : (xs before : List ℕ) (v : ℕ) → length xs < length before → set (over xs before) (length xs) v ≡ over (xs ++ (v ∷ [])) before
over-more xs before v h =
    let k : length (xs ++ (v ∷ [])) ≡ suc (length xs) = length-append xs (v ∷ []) ∙ omega arith in
    ap (λ (l : List ℕ). set (xs ++ l) (length xs) v) (drop-cons before (length xs) 0 h)
    ∙ set_at xs (get_or before (length xs) 0) (drop (suc (length xs)) before) v (length xs) refl
    ∙ sym (append_snoc xs v (drop (suc (length xs)) before))
    ∙ ap {B = List ℕ} (λ (k : ℕ). xs ++ (v ∷ []) ++ drop k before) (sym k)

pub codes_more : (g : Graph) (calls : List Call) (call : Call) (before : List ℕ) → length calls < length before
    → set (over (map code (run g calls).answers) before) (length calls) (code (answer_of (step (run g calls).last call)))
    ≡ over (map code (run g (calls ++ (call ∷ []))).answers) before
codes_more g calls call before h =
    let xs : List ℕ = map code (run g calls).answers in
    let k : length xs ≡ length calls = length-map (run g calls).answers code ∙ length-answers g calls in
    let v : ℕ = code (answer_of (step (run g calls).last call)) in
    ap (λ (n : ℕ). set (over xs before) n v) (sym k) ∙ over-more xs before v (omega arith)
    ∙ ap (λ (l : List ℕ). over l before)
    (sym (ap (map code) (answers-more g calls call) ∙ map-append code (run g calls).answers (answer_of (step (run g calls).last call) ∷ [])))

-- ---- the loop, over the calls f 0, f 1, ..

module _ (f : ℕ → Call) (p : Plan) (before : List ℕ) where
  -- after the first i of them, from the plan value p
  pub record After (i : ℕ) (lent : List ℕ) (plan : Plan) : Type 0 where
    pub answers : lent ≡ over (map code (run (view p) (tabulate i f)).answers) before
    pub whole : plan ≡ run_value p (tabulate i f)

  pub after_none : After 0 before p
  unfolding tabulate run run_value
  after_none = record { answers = refl; whole = refl }

  -- one call more, that answers r and leaves the plan value q
  pub after_more : (i : ℕ) (answers : List ℕ) (plan q : Plan) (r : ℕ) → i < length before → After i answers plan
      → r ≡ code (answer_of (step (view plan) (f i))) → q ≡ next_value plan (step (view plan) (f i))
      → After (i + 1) (set answers i r) q
  after_more i answers plan q r h a said-is whole_is =
      let calls : List Call = tabulate i f in
      let more : tabulate (i + 1) f ≡ calls ++ (f i ∷ []) = tabulate-more i f f (f i) (λ k l. refl) refl in
      let k : length calls ≡ i = length-tabulate i f in
      let v : view plan ≡ (run (view p) calls).last = ap view a.whole ∙ view-value p calls in
      let number_is : r ≡ code (answer_of (step (run (view p) calls).last (f i))) = said-is ∙ ap (λ (g : Graph). code (answer_of (step g (f i)))) v in
      record {
        answers =
            ap₂ (λ (l : List ℕ) (c : ℕ). set l i c) a.answers number_is
            ∙ ap (λ (n : ℕ). set (over (map code (run (view p) calls).answers) before) n (code (answer_of (step (run (view p) calls).last (f i))))) (sym k)
            ∙ codes_more (view p) calls (f i) before (omega arith)
            ∙ ap (λ (l : List Call). over (map code (run (view p) l).answers) before) (sym more);
        whole =
            whole_is ∙ ap (λ (z : Plan). next_value z (step (view z) (f i))) a.whole
            ∙ sym (value-more p calls (f i)) ∙ ap (run_value p) (sym more);
      }
