-- What meets the premises: each record of premises that a demand or a theorem about impostors takes is met. A plan value that a call's arguments can hold stays one through every call: an
-- accepted call lays a plan within the limits over its arrays, whose numbers are small, and a refused one hands it back. So a calculator that keeps the promises and answers has a session for
-- every fresh plan and every list of calls that can be passed to it (`session`), and the plan after it can be quoted, written and recorded. Of the impostors' premise `Heard` it meets
-- the one with the true figure (`heard_met`): what is refuted is the figure, and nothing else. (The report's premises are met by `steps_premises` of Agreement.antt, an image that is refused
-- at its last transition by `refused-at-last` of OnePass.antt.) Assumes nothing.
use mathlib.Core.Bool.{Bool, true}
use mathlib.Core.List.{List, [], ◌∷◌, ◌++◌, map}
use mathlib.Core.Path.{◌≡◌, refl, sym, ap, ap₂, ◌∙◌, subst}
use Prim.Native.Nat.{ℕ, zero, suc, suc-le-suc, ◌*◌, ◌≤◌, ◌<◌, ◌^◌}
use borrow.Author.Tests.{leb-true}
use native.Mathlib.Nat.{zero-lt-suc, le_of_suc-le-suc, not-suc-le-zero}
use native.Mathlib.Omega.{arith}
use lib.Dec.{leb, lit<}
use lib.ListN.{length, drop, replicate, length-map, length-append, length-drop, length-replicate, get_or-replicate}
use Rattle.bounds.specs.Ring.{ring}
use Rattle.bounds.proofs.Attained.{ring-within}
use Rattle.graph.specs.declared.Asked.TheVariants.{One}
use Rattle.graph.specs.declared.Which.{Which}
use Rattle.graph.specs.Class.{team_ok}
use Rattle.graph.specs.Compute.{figure_for}
use Rattle.graph.specs.Graph.{Graph, State, Transition, states}
use Rattle.graph.specs.Known.{P1}
use Rattle.rules.specs.Answer.{Answer}
use Rattle.rules.specs.Calls.{Call, step, run_fresh}
use Rattle.rules.specs.Limits.{within, all, state_count_ok, marks_ok, state_ok, transition_ok}
use Rattle.rules.specs.Refusal.{Result, accepted, refused}
use Rattle.rules.specs.Rules.{fresh_rule, fresh_graph}
use Rattle.rules.proofs.Basic.{fresh_done}
use Rattle.rules.proofs.Kept.{fresh-within, step-within}
use Rattle.rules.proofs.ReadWrite.{Limited, limited, bounded}
use Rattle.rules.proofs.Results.{and_true}
use Rattle.rules.proofs.Sizes.{figure-said}
use Rattle.arrays.specs.Tables.{over}
use Rattle.arrays.specs.declared.Plan.{Plan}
use Rattle.plan.specs.Promise.{next_value}
use Rattle.plan.specs.View.{view, laid, no_plan}
use Rattle.plan.specs.Laws.{view-laid}
use Rattle.demands.specs.Arguments.{Numbers, Slice, Array, Value, AllPassable}
use Rattle.demands.specs.Calculator.{Calculator, Promises, Answers, Listed, none, more}
use Rattle.demands.specs.Demands.{Session, OneClaim}
use Rattle.demands.proofs.Demands.{demand_3}
use Rattle.demands.proofs.Impostors.{Listable, first_listable, first_given, first_known, Heard}

-- ---- numbers of so many octets

module _ (o : ℕ) where
  numbers_append : (xs ys : List ℕ) → Numbers o xs → Numbers o ys → Numbers o (xs ++ ys)
  numbers_append [] ys a b i l = b i l
  numbers_append (x ∷ xs) ys a b zero l = a 0 (zero-lt-suc (length xs))
  numbers_append (x ∷ xs) ys a b (suc i) l = numbers_append xs ys (λ j h. a (suc j) (suc-le-suc h)) b i (le_of_suc-le-suc l)

  numbers_drop : (k : ℕ) (xs : List ℕ) → Numbers o xs → Numbers o (drop k xs)
  numbers_drop zero xs a = a
  numbers_drop (suc k) [] a = a
  numbers_drop (suc k) (x ∷ xs) a = numbers_drop k xs (λ j h. a (suc j) (suc-le-suc h))

  -- a part of items that each pass a test
  numbers_map : {A : Type 0} (test : A → Bool) (part : A → ℕ) → ((x : A) → test x ≡ true → part x < 256 ^ o) → (l : List A) → all test l ≡ true → Numbers o (map part l)
  unfolding all
  numbers_map test part small [] h i l = absurd (not-suc-le-zero l)
  numbers_map test part small (x ∷ xs) h zero l = small x (and_true (test x) (all test xs) h).0
  numbers_map test part small (x ∷ xs) h (suc i) l = numbers_map test part small xs (and_true (test x) (all test xs) h).1 i (le_of_suc-le-suc l)

  -- laid over an array
  array_over : {A : Type 0} (test : A → Bool) (part : A → ℕ) → ((x : A) → test x ≡ true → part x < 256 ^ o) → (l : List A) → all test l ≡ true
      → (places : ℕ) (ys : List ℕ) → length l ≤ places → Array o places ys → Array o places (over (map part l) ys)
  array_over test part small l h places ys fits a =
      let k = length (map part l) in
      record {
        numbers = numbers_append (map part l) (drop k ys) (numbers_map test part small l h) (numbers_drop k ys a.numbers);
        long = omega (arith, length-append (map part l) (drop k ys), length-drop k ys, length-map l part, a.long);
      }

  zeros : 0 < 256 ^ o → (places : ℕ) → Array o places (replicate places 0)
  zeros h places =
      let long : length {A = ℕ} (replicate places 0) ≡ places = length-replicate {A = ℕ} places 0 in
      record { numbers = λ i l. rw (get_or-replicate {A = ℕ} places i 0 0 (omega (arith, l, long))) h; long = long }

-- ---- plan values

-- a plan within the limits, over the arrays of one that can be held, can be held
pub value-laid : (p : Plan) (g : Graph) → Value p → within g ≡ true → Value (laid p g)
unfolding laid
value-laid p g v w =
    let l : Limited g = limited g w in
    let marks : (s : State) → state_ok s ≡ true → s.marks < 256 ^ 1 =
    λ s h. omega (arith, leb-true s.marks 7 (and_true (marks_ok s.marks) (team_ok s.team) h).0) in
    let team : (s : State) → state_ok s ≡ true → s.team < 256 ^ 1 =
    λ s h. omega (arith, leb-true s.team 31 (and_true (marks_ok s.marks) (team_ok s.team) h).1) in
    let n = states g in
    let ok = transition_ok n in
    let states-over : (part : State → ℕ) → ((s : State) → state_ok s ≡ true → part s < 256 ^ 1) → (ys : List ℕ) → Array 1 512 ys
    → Array 1 512 (over (map part g.state_list) ys) =
    λ part small ys a. array_over 1 state_ok part small g.state_list l.each-state 512 ys l.most a in
    let fields-over : (part : Transition → ℕ) → ((t : Transition) → transition_ok n t ≡ true → part t < 256 ^ 2) → (ys : List ℕ) → Array 2 2048 ys
    → Array 2 2048 (over (map part g.transitions) ys) =
    λ part small ys a. array_over 2 ok part small g.transitions l.each-transition 2048 ys l.transitions a in
    record {
      states = omega (arith, l.most);
      transitions = omega (arith, l.transitions);
      marks = states-over (λ (s : State). s.marks) marks p.marks v.marks;
      teams = states-over (λ (s : State). s.team) team p.teams v.teams;
      from = fields-over (λ (t : Transition). t.from) (λ t h. omega (arith, bounded n t h, l.most)) p.from v.from;
      to = fields-over (λ (t : Transition). t.to) (λ t h. omega (arith, bounded n t h, l.most)) p.to v.to;
      low = fields-over (λ (t : Transition). t.low) (λ t h. omega (arith, bounded n t h)) p.low v.low;
      high = fields-over (λ (t : Transition). t.high) (λ t h. omega (arith, bounded n t h)) p.high v.high;
    }

pub value_none : Value no_plan
value_none = record {
  states = lit< tt;
  transitions = lit< tt;
  marks = zeros 1 (lit< tt) 512;
  teams = zeros 1 (lit< tt) 512;
  from = zeros 2 (lit< tt) 2048;
  to = zeros 2 (lit< tt) 2048;
  low = zeros 2 (lit< tt) 2048;
  high = zeros 2 (lit< tt) 2048;
}

-- a plan value that can be held and stands for a plan within the limits; the ring's, for document 02's E8
pub value_of : (g : Graph) → within g ≡ true → (p : Plan) × Value p × (view p ≡ g)
value_of g w = (laid no_plan g, value-laid no_plan g value_none w, view-laid no_plan g)

pub ring_met : (p : Plan) × Value p × (view p ≡ ring)
ring_met = value_of ring ring-within

-- lent places of zeros
places_met : (octets k : ℕ) → 0 < 256 ^ octets → octets * k < 2 ^ 63 → Slice octets (replicate k 0)
places_met octets k h few =
    let a = zeros octets h k in
    record { numbers = a.numbers; long = subst (λ (n : ℕ). octets * n < 2 ^ 63) (sym a.long) few }

module _ (c : Calculator) (keeps : Promises c) (answers : Answers c) where
  -- ---- a session for every fresh plan and every list of calls

  next-value : (p : Plan) (o : Result Graph) → Value p → ((g : Graph) → o ≡ accepted g → within g ≡ true) → Value (next_value p o)
  next-value p (accepted g) v w = value-laid p g v (w g refl)
  next-value p (refused k) v w = v

  -- a list of calls on a plan value that can be held, and the plan value after it
  list_met : (calls : List Call) (p : Plan) → Value p → AllPassable calls → (told : List Answer) × (last : Plan) × Listed c p calls told last × Value last
  list_met [] p v u = ([], p, none, v)
  list_met (call ∷ calls) p v (given, rest) =
      let (e, x) = answers.edits p call v given in
      let o : Result Graph = step (view p) call in
      let v' : Value e.plan = subst Value (sym (keeps.edits x).whole) (next-value p o v (λ g i. step-within (view p) g call i)) in
      let (told, last, l, w) = list_met calls e.plan v' rest in
      (e.answer ∷ told, last, more e x l, w)

  pub record Met (n : ℕ) (calls : List Call) : Type 0 where
    pub session : Session c
    pub its_n : session.n ≡ n
    pub its_calls : session.calls ≡ calls
    pub value : Value session.last

  pub session : (n : ℕ) → state_count_ok n ≡ true → (calls : List Call) → AllPassable calls → Met n calls
  session n ok calls given =
      let small : n ≤ 512 = leb-true n 512 (and_true (leb 1 n) (leb n 512) ok).1 in
      let (e, x) = answers.freshes n (omega (arith, small)) in
      let done : fresh_rule n ≡ accepted (fresh_graph n) = fresh_done n ok in
      let v : Value e.plan =
      subst Value (sym ((keeps.freshes x).whole ∙ ap (next_value no_plan) done)) (value-laid no_plan (fresh_graph n) value_none (fresh-within n ok)) in
      let (told, last, l, w) = list_met calls e.plan v given in
      record {
        session = record { n = n; n_ok = ok; calls = calls; made = e; answers = told; last = last; freshly = x; in_turn_lem = l };
        its_n = refl;
        its_calls = refl;
        value = w;
      }

  -- ---- the impostors' premise, with the true figure

  pub heard_met : (which : Which) → Heard c P1.plan which (P1.figures which)
  heard_met which =
      let first : Listable P1.plan = first_listable in
      let m = session first.n first.n_ok first.calls first_given in
      let s = m.session in
      let d : OneClaim c s = (demand_3 c keeps).lists s in
      let makes : (run_fresh s.n s.calls).last ≡ P1.plan = ap₂ (λ (k : ℕ) (l : List Call). (run_fresh k l).last) m.its_n m.its_calls ∙ first.makes in
      let four : states (run_fresh s.n s.calls).last ≡ 4 = ap states makes in
      let (after, r, x) = answers.quotes (One which) s.last (replicate 4 0) tt m.value (places_met 2 4 (lit< tt) (lit< tt)) in
      let (q, is) = d.accepted_where x refl (omega (arith, four)) in
      let y = subst (c.quotes (One which) s.last (replicate 4 0) after) is x in
      record {
        session = s;
        demand = d;
        makes = makes;
        quote = q;
        before = replicate 4 0;
        after = after;
        quoted = y;
        figure = figure-said which (run_fresh s.n s.calls).last _ _ _ _ _ (d.right q y) ∙ ap (figure_for which) makes ∙ first_known which;
      }
