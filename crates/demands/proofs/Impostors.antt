-- The impostors of document 01's acceptance point 2: each one's answer breaks a demand. The figures of P1, and of P2 or P6 beside it, give away
-- whoever does not look; a shown walk has the count that is quoted; a list of two marks gives away whoever obeys the first; the known octets
-- give away the rest. Then those of document 02's E3: a bad from, and a bad to, give away whoever tests them in another order, and read's list of numbers whoever still has 7.
-- And those of E4: a count for a class whose walk lacks it; a mark that clears the team; an image written by version 1, so that one which was read comes back; 18 after 11.
-- And those of E5: a final start taken for a route of no transitions, or for no dead end; a route that comes back to its start and counts it once; one that goes on
-- through a final state.
-- Assumes nothing.
use mathlib.Core.Bool.{Bool, true, false, true≢false}
use mathlib.Core.List.{List, [], ◌∷◌, ◌++◌}
use mathlib.Core.Path.{◌≡◌, refl, sym, ap, ap₂, ◌∙◌, subst}
use Prim.Native.Nat.{ℕ, suc, ◌≤◌, ◌<◌}
use borrow.Author.Tests.{eqb-true, eqb-false}
use native.Mathlib.Omega.{arith}
use lib.Dec.{leb, eqb, lit<}
use lib.ListN.{length, get_or, take, drop, replicate}
use lib.Seq.{take_at}
use Rattle.field.specs.Field.{Octets}
use Rattle.graph.specs.declared.Asked.{Asked}
use Rattle.graph.specs.declared.Asked.TheVariants.{One, LeastCountFor, GreatestCountFor}
use Rattle.graph.specs.declared.Which.{Which}
use Rattle.graph.specs.declared.Which.TheVariants.{LeastDelay, GreatestDelay, LeastCount, GreatestCount}
use Rattle.graph.specs.Compute.{any, figure_for}
use Rattle.graph.specs.Figure.{Figure, number, NONE, STRANDED, ENDLESS, kind, value, Shown, cost_over}
use Rattle.graph.specs.Class.{team_ok, figure_of, in_class_of, counting}
use Rattle.graph.specs.Graph.{Graph, Transition, state_with, states, count, state, marks_of, team_of, start, final, counted, transition, from, to, low, high, Final}
use Rattle.graph.specs.Known.{Row, plan, join as to-join, P1, P2, P6, P8, answered_returns, answered_alone}
use Rattle.graph.specs.Route.{Route, Cost, counts, number-on}
use Rattle.graph.proofs.Repeat.{nth}
use Rattle.graph.proofs.Walks.{arrives_at}
use Rattle.graph.proofs.Sentences.{route-is, number_some, shown-count}
use Rattle.rules.specs.Answer.{Accepted, Written}
use Rattle.std.proofs.Common.{Ok, Err}
use Rattle.rules.specs.declared.Quote.{Quote}
use Rattle.rules.specs.declared.Refusal.{Refusal}
use Rattle.rules.specs.declared.Refusal.TheVariants.{StateNumber, Duration, ListFull, BufferLength, FromState, ToState, TeamNumber}
use Rattle.rules.specs.Calls.{Call, mark, team, join, read, rows_of, run, run_fresh}
use Rattle.rules.specs.Image.{image_by, image, version_of, transition_rows}
use Rattle.rules.specs.Limits.{within, all, state_count_ok}
use Rattle.rules.specs.Quotations.{meant, quote_rows, says_over, Shows}
use Rattle.rules.specs.Refusal.{refused, said, code}
use Rattle.rules.specs.Rules.{fresh_graph}
use Rattle.rules.specs.Table.{Row as TableRow, first}
use Rattle.rules.proofs.Basic.{octets, image_of_plan, written_of_plan, read_known}
use Rattle.rules.proofs.Grounds.{bad_from, bad-to, holds_among, image_numbers, read_among}
use Rattle.rules.proofs.ReadWrite.{image-octets, length-image_by, length-image, version_by}
use Rattle.rules.proofs.Results.{never}
use Rattle.rules.proofs.Sizes.{figure-said}
use Rattle.rules.proofs.Tables.{after-refused}
use Rattle.plan.specs.declared.Edited.{Edited}
use Rattle.arrays.specs.declared.Plan.{Plan}
use Rattle.plan.specs.View.{view}
use Rattle.demands.specs.Arguments.{AllPassable}
use Rattle.demands.specs.Calculator.{Calculator}
use Rattle.demands.specs.Demands.{Demand1, Demand2, OneClaim, Session, edit, quote}

-- ---- demand 3: the figures

-- beside P1, a plan with another figure: P2, and for the least count P6
other : Which → Row
other LeastDelay = P2
other GreatestDelay = P2
other LeastCount = P6
other GreatestCount = P2

pub first_known : (which : Which) → figure_for which P1.plan ≡ P1.figures which
unfolding figure_for any marks_of start final counted transition from to low high
first_known LeastDelay = refl
first_known GreatestDelay = refl
first_known LeastCount = refl
first_known GreatestCount = refl

other_known : (which : Which) → figure_for which (other which).plan ≡ (other which).figures which
unfolding figure_for any marks_of start final counted transition from to low high other
other_known LeastDelay = refl
other_known GreatestDelay = refl
other_known LeastCount = refl
other_known GreatestCount = refl

-- a list of calls from a fresh plan makes the plan; so it is with these three
pub record Listable (g : Graph) : Type 0 where
  pub n : ℕ
  pub n_ok : state_count_ok n ≡ true
  pub calls : List Call
  pub makes : (run_fresh n calls).last ≡ g

pub first_listable : Listable P1.plan
unfolding run within all
first_listable = record {
  n = 4;
  n_ok = refl;
  calls = mark 0 4 ∷ mark 1 1 ∷ mark 2 1 ∷ mark 3 2 ∷ join (to-join 0 1 5 20) ∷ join (to-join 1 2 3 15) ∷ join (to-join 1 3 2 30) ∷ join (to-join 2 3 4 25) ∷ [];
  makes = refl;
}

-- calls whose arguments can be passed
pub first_given : AllPassable first_listable.calls
unfolding first_listable
first_given =
    ((lit< tt, lit< tt), ((lit< tt, lit< tt), ((lit< tt, lit< tt), ((lit< tt, lit< tt), ((lit< tt, lit< tt, lit< tt, lit< tt), ((lit< tt, lit< tt, lit< tt, lit< tt), ((lit< tt, lit< tt, lit< tt, lit< tt), ((lit< tt, lit< tt, lit< tt, lit< tt), tt))))))))

one_state : Listable P2.plan
unfolding run within all
one_state = record { n = 1; n_ok = refl; calls = mark 0 7 ∷ []; makes = refl }

two-states : Listable P6.plan
unfolding run within all
two-states = record {
  n = 2;
  n_ok = refl;
  calls = mark 0 4 ∷ mark 1 2 ∷ join (to-join 0 1 1 9) ∷ join (to-join 0 1 3 4) ∷ [];
  makes = refl;
}

other_listable : (which : Which) → Listable (other which).plan
unfolding other
other_listable LeastDelay = one_state
other_listable GreatestDelay = one_state
other_listable LeastCount = two-states
other_listable GreatestCount = one_state

-- those of document 02's E5
pub returns_listable : Listable answered_returns.plan
unfolding run within all
returns_listable = record { n = 1; n_ok = refl; calls = mark 0 7 ∷ join (to-join 0 0 3 4) ∷ []; makes = refl }

pub alone_listable : Listable answered_alone.plan
unfolding run within all
alone_listable = record { n = 3; n_ok = refl; calls = mark 0 6 ∷ mark 1 4 ∷ mark 2 2 ∷ join (to-join 1 2 1 2) ∷ []; makes = refl }

pub walks-on_listable : Listable P8.plan
unfolding run within all
walks-on_listable = record { n = 2; n_ok = refl; calls = mark 0 4 ∷ mark 1 2 ∷ join (to-join 0 1 1 2) ∷ join (to-join 1 1 5 5) ∷ []; makes = refl }

-- two starts, of which only the second is counted, and a transition from the first to an answer: the walk 0 has no counted state, though it would have one if
-- it began at the other start, where it is no route
abbrev pub two-starts : Graph
two-starts = plan (4 ∷ 5 ∷ 2 ∷ []) (to-join 0 2 1 1 ∷ [])

pub two-starts_lack : (first : ℕ) → Route two-starts first (0 ∷ []) → number-on two-starts (counted two-starts) first (0 ∷ []) ≡ 1 → ⊥
unfolding marks_of start final counted transition from to low high
two-starts_lack first r e =
    let z : ◌≡◌ {A = ℕ} 0 1 = subst (λ (s : ℕ). number-on two-starts (counted two-starts) s (0 ∷ []) ≡ 1) (sym r.1.0.source) e in
    omega arith

-- and of two states of the classes that 9 and 10 are of: a walk from the first to the second has one state of each, not two of either
abbrev pub two_classes : Graph
two_classes = record { state_list = state_with 4 9 ∷ state_with 2 10 ∷ []; transitions = to-join 0 1 1 1 ∷ [] }

pub two_classes_lack : (first : ℕ) → Route two_classes first (0 ∷ []) → number-on two_classes (in_class_of two_classes 9) first (0 ∷ []) ≡ 2 → ⊥
unfolding team_of in_class_of transition from to
two_classes_lack first r e =
    let z : ◌≡◌ {A = ℕ} 1 2 = subst (λ (s : ℕ). number-on two_classes (in_class_of two_classes 9) s (0 ∷ []) ≡ 2) (sym r.1.0.source) e in
    omega arith

-- what a quotation says of the walk
shows_said : (which : Which) (p : ℕ → Bool) (g : Graph) (f : Figure) (k j : ℕ) (before after : List ℕ) → says_over which p g f k j before after
    → Shows g (cost_over which p g) f k j before after
shows_said LeastDelay p g f k j before after x = x.shows
shows_said GreatestDelay p g f k j before after x = x.shows
shows_said LeastCount p g f k j before after x = x.shows
shows_said GreatestCount p g f k j before after x = x.shows

module _ (c : Calculator) where
  -- a session whose list of calls makes the plan g, and of which demand 3's claim holds, quotes the figure f
  pub record Heard (g : Graph) (which : Which) (f : Figure) : Type 0 where
    pub session : Session c
    pub demand : OneClaim c session
    pub makes : (run_fresh session.n session.calls).last ≡ g
    pub quote : Quote
    pub before : List ℕ
    pub after : List ℕ
    pub quoted : c.quotes (One which) session.last before after (Ok quote)
    pub figure : meant quote.figure ≡ f

  -- then f is g's figure
  heard : (g : Graph) (which : Which) (f : Figure) → Heard g which f → f ≡ figure_for which g
  heard g which f h =
      let s = h.session in
      sym h.figure
      ∙ figure-said which (run_fresh s.n s.calls).last _ _ _ _ _ (h.demand.right h.quote h.quoted)
      ∙ ap (figure_for which) h.makes

  -- "a calculator that says NONE, STRANDED or ENDLESS before looking": P1 has none of the four
  number-there : (which : Which) (f : Figure) → Heard P1.plan which f → kind f ≡ 0
  number-there which f h = ap kind (heard P1.plan which f h ∙ first_known which) ∙ go which
    where
      go : (which : Which) → kind (P1.figures which) ≡ 0
      go LeastDelay = refl
      go GreatestDelay = refl
      go LeastCount = refl
      go GreatestCount = refl

  pub says_none : (which : Which) → Heard P1.plan which NONE → ⊥
  says_none which h = let z : ◌≡◌ {A = ℕ} 1 0 = number-there which NONE h in omega arith

  pub says_stranded : (which : Which) → Heard P1.plan which STRANDED → ⊥
  says_stranded which h = let z : ◌≡◌ {A = ℕ} 2 0 = number-there which STRANDED h in omega arith

  pub says_endless : (which : Which) → Heard P1.plan which ENDLESS → ⊥
  says_endless which h = let z : ◌≡◌ {A = ℕ} 3 0 = number-there which ENDLESS h in omega arith

  -- "one that quotes a fixed figure": for every figure there is a plan of which it is not quoted, P1 or the other one
  pub fixed_figure : (which : Which) (f : Figure) → (g : Graph) × Listable g × (Heard g which f → ⊥)
  unfolding other
  fixed_figure which f = go (eqb (value f) (value (P1.figures which))) refl
    where
      differ : (which : Which) → value (P1.figures which) ≡ value ((other which).figures which) → ⊥
      differ LeastDelay e = let z : ◌≡◌ {A = ℕ} 7 0 = e in omega arith
      differ GreatestDelay e = let z : ◌≡◌ {A = ℕ} 60 0 = e in omega arith
      differ LeastCount e = let z : ◌≡◌ {A = ℕ} 1 0 = e in omega arith
      differ GreatestCount e = let z : ◌≡◌ {A = ℕ} 2 0 = e in omega arith

      go : (b : Bool) → eqb (value f) (value (P1.figures which)) ≡ b → (g : Graph) × Listable g × (Heard g which f → ⊥)
      go true e = (
        (other which).plan,
        other_listable which,
        λ h. differ which (sym (eqb-true (value f) (value (P1.figures which)) e) ∙ ap value (heard (other which).plan which f h ∙ other_known which)),
      )
      go false e = (
        P1.plan,
        first_listable,
        λ h. eqb-false (value f) (value (P1.figures which)) e (ap value (heard P1.plan which f h ∙ first_known which)),
      )

  -- ---- calls that begin answered (document 02, E5), by their figures

  -- one that takes a final start for a route of no transitions, whatever number it quotes: P2's four figures are NONE and STRANDED
  pub answers-at-once : (which : Which) (x : ℕ) → Heard P2.plan which (number x) → ⊥
  unfolding figure_for any marks_of start final counted transition from to low high
  answers-at-once LeastDelay x h = let z : ◌≡◌ {A = ℕ} 0 1 = ap kind (heard P2.plan LeastDelay (number x) h) in omega arith
  answers-at-once GreatestDelay x h = let z : ◌≡◌ {A = ℕ} 0 2 = ap kind (heard P2.plan GreatestDelay (number x) h) in omega arith
  answers-at-once LeastCount x h = let z : ◌≡◌ {A = ℕ} 0 1 = ap kind (heard P2.plan LeastCount (number x) h) in omega arith
  answers-at-once GreatestCount x h = let z : ◌≡◌ {A = ℕ} 0 2 = ap kind (heard P2.plan GreatestCount (number x) h) in omega arith

  -- one that takes a final start without transitions for no dead end, whatever else it says of the greatest delay: alone, and beside a start with a route
  pub no_dead_end : (f : Figure) → (f ≡ STRANDED → ⊥) → Heard P2.plan GreatestDelay f → ⊥
  unfolding figure_for any marks_of start final counted transition from to low high
  no_dead_end f other h = other (heard P2.plan GreatestDelay f h)

  pub no_dead_end-beside : (f : Figure) → (f ≡ STRANDED → ⊥) → Heard answered_alone.plan GreatestDelay f → ⊥
  unfolding figure_for any marks_of start final counted transition from to low high
  no_dead_end-beside f other h = other (heard answered_alone.plan GreatestDelay f h)

  -- one that counts the state once where a route begins and ends at it, "such a state counts twice if counted"
  pub counts_the_return_once : Heard answered_returns.plan LeastCount (number 1) → ⊥
  unfolding figure_for any marks_of start final counted transition from to low high
  counts_the_return_once h = let z : ◌≡◌ {A = ℕ} 1 2 = ap value (heard answered_returns.plan LeastCount (number 1) h) in omega arith

  pub greatest_return_once : Heard answered_returns.plan GreatestCount (number 1) → ⊥
  unfolding figure_for any marks_of start final counted transition from to low high
  greatest_return_once h = let z : ◌≡◌ {A = ℕ} 1 2 = ap value (heard answered_returns.plan GreatestCount (number 1) h) in omega arith

  -- one that goes on through a final state between the first and the last: P8 by 0→1, 1→1, of 2 and 5 seconds; and round 0→0 twice, of 4, where the final
  -- state is the start too
  pub goes_on_answered : Heard P8.plan GreatestDelay (number 7) → ⊥
  unfolding figure_for any marks_of start final counted transition from to low high
  goes_on_answered h = let z : ◌≡◌ {A = ℕ} 7 2 = ap value (heard P8.plan GreatestDelay (number 7) h) in omega arith

  pub goes_round_answered : Heard answered_returns.plan GreatestDelay (number 8) → ⊥
  unfolding figure_for any marks_of start final counted transition from to low high
  goes_round_answered h = let z : ◌≡◌ {A = ℕ} 8 4 = ap value (heard answered_returns.plan GreatestDelay (number 8) h) in omega arith

  module _ (s : Session c) (d : OneClaim c s) where
    -- the plan after the list
    abbrev after_list : Graph
    after_list = (run_fresh s.n s.calls).last

    -- the walk shown beside a number, whatever the plan and what was asked: "a route has at least one transition .. no state between its first and last may be"
    -- final (E5)
    module _ (asked : Asked) (before after : List ℕ) (q : Quote) (x : ℕ) (e : c.quotes asked s.last before after (Ok q)) (f : meant q.figure ≡ number x) where
      abbrev cost : Cost
      cost = cost_over (figure_of asked) (counting asked after_list) after_list

      abbrev walk : List ℕ
      walk = take q.k after

      numbered : Shows after_list cost (number x) q.k q.j before after
      numbered =
          subst (λ (f : Figure). Shows after_list cost f q.k q.j before after) f
          (shows_said (figure_of asked) (counting asked after_list) after_list _ _ _ _ _ (d.right q e))

      -- one that shows a start alone
      pub shows_a_start-alone : q.k ≡ 0 → ⊥
      shows_a_start-alone none = omega (arith, numbered.number_of, number_some after_list cost x q.j walk numbered.walk)

      -- one that goes on where a transition arrived at a final state
      pub shows_on_through_an_answer : (i : ℕ) → suc i < q.k → Final after_list (to after_list (nth walk i)) → ⊥
      shows_on_through_an_answer i h answered =
          let (first, r, t, v, z) = numbered.walk in
          let w = (route-is after_list first walk).0 r in
          let further : suc i < length walk = omega (arith, numbered.number_of) in
          let there = arrives_at after_list (λ y. Unit) (λ y. Unit) first walk w.walk.1 i (omega arith) in
          true≢false (sym (subst (Final after_list) there answered) ∙ w.middle i further)

    -- the shown walk has no start from which it is a route with x states of which the test says yes
    abbrev Lacks : (ℕ → Bool) → List ℕ → ℕ → Type 0
    Lacks test walk x = (first : ℕ) → Route after_list first walk → number-on after_list test first walk ≡ x → ⊥

    -- "one that quotes a handover count which its walk lacks": from the start where it is a route the shown walk has just that many such states. Once, over any
    -- yes-or-no on states; then by the counted mark, and for the class of a team (document 02, E4)
    counts_shown : (test : ℕ → Bool) (f : Figure) (x k j : ℕ) (places : List ℕ) → f ≡ number x → Shown after_list (counts after_list test) f (take k places) j
        → Lacks test (take k places) x → ⊥
    counts_shown test f x k j places e shown lacks =
        let (first, r, n) = shown-count after_list test x (take k places) j
        (subst (λ (f : Figure). Shown after_list (counts after_list test) f (take k places) j) e shown) in
        lacks first r n

    -- a count that is quoted, with its figure x, and what its walk lacks
    module _ (before after : List ℕ) (q : Quote) (x : ℕ) (f : meant q.figure ≡ number x) where
      abbrev Lacking : Asked → Type 0
      Lacking asked = c.quotes asked s.last before after (Ok q) → Lacks (counting asked after_list) (take q.k after) x → ⊥

      pub least-count_lacking : Lacking (One LeastCount)
      least-count_lacking e = counts_shown (counted after_list) _ x q.k q.j after f (d.right q e).shows.walk

      pub greatest-count_lacking : Lacking (One GreatestCount)
      greatest-count_lacking e = counts_shown (counted after_list) _ x q.k q.j after f (d.right q e).shows.walk

      pub least_class_lacking : (named : ℕ) → Lacking (LeastCountFor named)
      least_class_lacking named e = counts_shown (in_class_of after_list named) _ x q.k q.j after f (d.right q e).shows.walk

      pub greatest_class_lacking : (named : ℕ) → Lacking (GreatestCountFor named)
      greatest_class_lacking named e = counts_shown (in_class_of after_list named) _ x q.k q.j after f (d.right q e).shows.walk

    -- one whose mark clears the team (E4)
    pub clears_the_team : s.n ≡ 1 → s.calls ≡ team 0 5 ∷ mark 0 4 ∷ [] → view s.last ≡ plan (4 ∷ []) [] → ⊥
    unfolding run within all
    clears_the_team n calls last =
        let e : plan (4 ∷ []) [] ≡ teamed = sym last ∙ d.plan ∙ ap₂ (λ (k : ℕ) (l : List Call). (run_fresh k l).last) n calls in
        let z : ◌≡◌ {A = ℕ} 0 5 = ap (λ (g : Graph). (state g 0).team) e in
        omega arith
      where
        teamed : Graph
        teamed = record { state_list = state_with 4 5 ∷ []; transitions = [] }

    -- "one that obeys the first edit and merely acknowledges the rest": it marks state 0 with 4, says that it marked it with 2, and holds 4
    pub acknowledges_the_rest : s.n ≡ 1 → s.calls ≡ mark 0 4 ∷ mark 0 2 ∷ [] → view s.last ≡ plan (4 ∷ []) [] → ⊥
    unfolding run within all
    acknowledges_the_rest n calls last =
        let e : plan (4 ∷ []) [] ≡ plan (2 ∷ []) [] = sym last ∙ d.plan ∙ ap₂ (λ (k : ℕ) (l : List Call). (run_fresh k l).last) n calls in
        let z : ◌≡◌ {A = ℕ} 4 2 = ap (λ (g : Graph). (state g 0).marks) e in
        omega arith

    -- and one that hides it, and quotes: after mark 0 4 and mark 0 0 no state is a start, and who obeyed only the first calls state 0 a dead end
    pub quotes_the_first : s.n ≡ 1 → s.calls ≡ mark 0 4 ∷ mark 0 0 ∷ [] → (before after : List ℕ) (q : Quote)
        → c.quotes (One GreatestDelay) s.last before after (Ok q) → meant q.figure ≡ STRANDED → ⊥
    unfolding run within all figure_for any marks_of start final counted transition from to low high
    quotes_the_first n calls before after q e f =
        let h : STRANDED ≡ NONE =
        heard (plan (0 ∷ []) []) GreatestDelay STRANDED
        (record {
          session = s;
          demand = d;
          makes = ap₂ (λ (k : ℕ) (l : List Call). (run_fresh k l).last) n calls;
          quote = q;
          before = before;
          after = after;
          quoted = e;
          figure = f;
        }) in
        let z : ◌≡◌ {A = ℕ} 2 1 = ap kind h in
        omega arith

  -- ---- demands 1 and 2: the image

  known_octets : Octets octets
  known_octets = subst Octets image_of_plan (image-octets 1 P1.plan)

  -- what is written of that plan: version 2
  abbrev written-octets : List ℕ
  written-octets = 0x20 ∷ drop 1 octets

  module _ (d : Demand2 c) where
    -- "one that leaves the plan alone": it says that it read the octets, and holds a plan of one state
    pub leaves_the_plan : {p : Plan} {e : Edited} → c.edits p (read octets) e → e.answer ≡ Accepted → view e.plan ≡ fresh_graph 1 → ⊥
    unfolding octets
    leaves_the_plan {p} {e} x a v =
        let z : ◌≡◌ {A = ℕ} 5 28 =
        sym (length-image_by (version_of octets) (fresh_graph 1)) ∙ ap (λ (g : Graph). length (image_by (version_of octets) g)) (sym v) ∙ ap length (d.read-image known_octets x a) in
        omega arith

    -- "and the buffer empty": it says that it wrote the known plan, and the buffer stays as it was
    pub leaves_the_buffer : {p : Plan} (n : ℕ) → view p ≡ P1.plan → c.writes p (replicate 28 0) (replicate 28 0) (Ok n) → ⊥
    unfolding octets
    leaves_the_buffer {p} n v x =
        let i : image (view p) ≡ written-octets = ap image v ∙ written_of_plan in
        let b : ◌≡◌ {A = List ℕ} (replicate 28 0) (written-octets ++ drop n (replicate 28 0)) =
        (d.written-image n x).1 ∙ ap {B = List ℕ} (λ (l : List ℕ). l ++ drop n (replicate 28 0)) i in
        let z : ◌≡◌ {A = ℕ} 0 32 = ap (λ (l : List ℕ). get_or l 0 0) b in
        omega arith

    -- one that touches a later octet: it puts the known octets, and clears the one behind them
    pub touches_a_later_octet : {p : Plan} (n : ℕ) → view p ≡ P1.plan → c.writes p (replicate 29 1) (written-octets ++ (0 ∷ [])) (Ok n) → ⊥
    unfolding octets
    touches_a_later_octet {p} n v x =
        let i : image (view p) ≡ written-octets = ap image v ∙ written_of_plan in
        let l : 28 ≡ n = ap length (sym i) ∙ (d.written-image n x).0 in
        let b : ◌≡◌ {A = List ℕ} (written-octets ++ (0 ∷ [])) (written-octets ++ drop 28 (replicate 29 1)) =
        (d.written-image n x).1 ∙ ap₂ {C = List ℕ} (λ (y : List ℕ) (k : ℕ). y ++ drop k (replicate 29 1)) i (sym l) in
        let z : ◌≡◌ {A = ℕ} 0 1 = ap (λ (y : List ℕ). get_or y 28 0) b in
        omega arith

    -- "one that turns all images away": also one that it wrote itself
    pub turns_its_own_away : {p old : Plan} {before after : List ℕ} {e : Edited} (n : ℕ) (r : Refusal) → within (view old) ≡ true
        → c.writes p before after (Ok n) → c.edits old (read (take n after)) e → e.answer ≡ Err r → ⊥
    turns_its_own_away n r w x y a = never tt r (ap said (sym a ∙ (d.reads-back n w x y).0))

    -- one that writes version 1 (document 02, E4)
    pub writes-version_1 : {p : Plan} {before after : List ℕ} (n : ℕ) → c.writes p before after (Ok n) → take n after ≡ image_by 1 (view p) → ⊥
    writes-version_1 {p} {before} {after} n x e =
        let g : Graph = view p in
        let (l, b) = d.written-image n x in
        let i : image g ≡ image_by 1 g = sym (take_at (image g) (drop n before) n l) ∙ ap (λ (y : List ℕ). take n y) (sym b) ∙ e in
        let z : ◌≡◌ {A = ℕ} 2 1 = sym (version_by 2 g (omega arith)) ∙ ap version_of i ∙ version_by 1 g (omega arith) in
        omega arith

    -- what is now false of version 1: no image of it that is read comes back as those octets
    pub version_1_returns : {old : Plan} {os before after : List ℕ} {e : Edited} {w : Written} → Octets os → version_of os ≡ 1 → c.edits old (read os) e
        → e.answer ≡ Accepted → length os ≤ length before → c.writes e.plan before after w → take (length os) after ≡ os → ⊥
    version_1_returns {old} {os} {before} {after} {e} ho one x a room y back =
        let g : Graph = view e.plan in
        let read_back : image_by (version_of os) g ≡ os = d.read-image ho x a in
        let l : length (image g) ≡ length os = length-image g ∙ sym (length-image_by (version_of os) g) ∙ ap length read_back in
        let i : image g ≡ os =
        sym (take_at (image g) (drop (length os) before) (length os) l) ∙ ap (λ (z : List ℕ). take (length os) z) (sym (d.writes-version_2 ho x a room y).1) ∙ back in
        let z : ◌≡◌ {A = ℕ} 2 1 = sym (version_by 2 g (omega arith)) ∙ ap version_of i ∙ one in
        omega arith

  -- and, by the table, the known octets
  pub turns-images_away : Demand1 c → {p : Plan} {e : Edited} (r : Refusal) → view p ≡ fresh_graph 1 → c.edits p (read octets) e → e.answer ≡ Err r → ⊥
  turns-images_away d {p} {e} r v x a =
      never tt r (ap said (sym a) ∙ d.by_number (edit x) ∙ ap (λ (g : Graph). first (rows_of g (read octets))) v ∙ read_known)

  -- ---- demand 1: which end was wrong (document 02, E3)

  module _ (d : Demand1 c) where
    -- the answer of a join is that of its transition's rows, where these refuse it
    joined : {p : Plan} {t : Transition} {e : Edited} (r : Refusal) → within (view p) ≡ true → first (transition_rows (states (view p)) t) ≡ refused r
        → c.edits p (join t) e → said e.answer ≡ refused r
    joined {p} {t} r w h x =
        let own : List TableRow = transition_rows (states (view p)) t in
        d.by_number (edit x) ∙ rw w (after-refused own ((ListFull, leb 2048 (count (view p))) ∷ []) tt r h)

    -- 17 before 16: a bad from, and 17
    pub joins_17_first : {p : Plan} {t : Transition} {e : Edited} → within (view p) ≡ true → states (view p) ≤ t.from → c.edits p (join t) e → e.answer ≡ Err ToState → ⊥
    joins_17_first {p} {t} w h x a = let z : ◌≡◌ {A = ℕ} 17 16 = ap code (ap said (sym a) ∙ joined FromState w (bad_from (states (view p)) t h) x) in omega arith

    -- 8 before 17: a bad to, and 8
    pub joins_8_first : {p : Plan} {t : Transition} {e : Edited} → within (view p) ≡ true → t.from < states (view p) → states (view p) ≤ t.to → c.edits p (join t) e
        → e.answer ≡ Err Duration → ⊥
    joins_8_first {p} {t} w h k x a = let z : ◌≡◌ {A = ℕ} 8 17 = ap code (ap said (sym a) ∙ joined ToState w (bad-to (states (view p)) t h k) x) in omega arith

    -- a read that still answers 7, whatever it is given
    pub reads_7 : {p : Plan} {os : List ℕ} {e : Edited} → c.edits p (read os) e → e.answer ≡ Err StateNumber → ⊥
    reads_7 {p} {os} x a = true≢false (sym (holds_among (0 ∷ image_numbers) (rows_of (view p) (read os)) StateNumber (read_among (view p) os) (d.only_grounds StateNumber (edit x) (ap said a))))

    -- 18 after 11 (E4): a count for a team above 31, with too few places, and 11
    pub quotes_11_first : {p : Plan} {before after : List ℕ} (named : ℕ) → within (view p) ≡ true → team_ok named ≡ false
        → c.quotes (LeastCountFor named) p before after (Err BufferLength) → ⊥
    quotes_11_first {p} {before} named w h x =
        let e : first (quote_rows (LeastCountFor named) (view p) before) ≡ refused TeamNumber = rw (w, h) in
        let z : ◌≡◌ {A = ℕ} 11 18 = ap code (d.by_number (quote x) ∙ e) in
        omega arith
