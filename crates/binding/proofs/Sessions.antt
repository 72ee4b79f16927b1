-- The premises of demand 3 can be met: of the archive that is just what is published there is a session for every n within the limits, every list of calls and all slices that
-- have the places of a plan. Each call leaves what its promise says, the next plan stored over the old one, and a stored plan is read back whole, since the next one's arrays
-- are as long as a plan's. A quotation that names no team is met by 18 with its places as they were, and one of a plan without a start, as a fresh one is, by NONE. Then an
-- impostor: one that answers 11 for a team above 31. Assumes nothing.
use mathlib.Core.Bool.{true, false}
use mathlib.Core.List.{List, [], ◌∷◌, map}
use mathlib.Core.Path.{◌≡◌, refl, sym, ap, ◌∙◌}
use Prim.Native.Nat.{ℕ, ◌≤◌, zero-le}
use native.Mathlib.Omega.{arith}
use lib.ListN.{length, drop, length-map, length-append, length-drop, length-replicate}
use Rattle.arrays.specs.Tables.{over}
use Rattle.graph.specs.declared.Asked.{Asked}
use Rattle.graph.specs.declared.Asked.TheVariants.{One, LeastCountFor}
use Rattle.graph.specs.declared.Which.TheVariants.{LeastDelay}
use Rattle.graph.specs.Class.{name_ok}
use Rattle.graph.specs.Figure.{number, NONE, kind, NoStart}
use Rattle.graph.specs.Graph.{Graph, State, Transition, states}
use Rattle.graph.specs.Route.{lows}
use Rattle.rules.specs.declared.Refusal.TheVariants.{TeamNumber}
use Rattle.rules.specs.Calls.{Call, step}
use Rattle.rules.specs.Limits.{state_count_ok, within}
use Rattle.rules.specs.Refusal.{Result, accepted, refused, code}
use Rattle.rules.specs.Rules.{next, fresh_graph, fresh_rule}
use Rattle.rules.proofs.Basic.{fresh_done}
use Rattle.rules.proofs.Figures.{least-one}
use Rattle.rules.proofs.Kept.{fresh-within, step-within}
use Rattle.rules.proofs.ReadWrite.{limited}
use Rattle.rules.proofs.Results.{never}
use Rattle.arrays.specs.declared.Plan.{Plan}
use Rattle.plan.specs.Laws.{Sized, view-laid}
use Rattle.plan.specs.Promise.{next_value}
use Rattle.plan.specs.View.{view, laid, no_plan}
use Rattle.slices.specs.Lent.{Slices, has_room, plan_in}
use Rattle.slices.proofs.Stores.{stored_back, true-false, held_sized}
use Rattle.edits.specs.Lent.{next_slices, LentFresh, LentTurn, LentEdit}
use Rattle.edits.proofs.Rooms.{room_kept}
use Rattle.lent.specs.Quoted.{LentQuote}
use Rattle.binding.specs.OneClaim.{Archive, Kept, LentListed, none, more, LentSession, LentDemand3}
use Rattle.binding.proofs.Runs.{quote-accepted, quote-unnamed}

-- what is published, as an archive
pub published : Archive
published = record { freshes = LentFresh; edits = LentTurn; quotes = LentQuote }

pub published-kept : Kept published
unfolding published
published-kept = record { freshes = λ x. x; edits = λ x. x; quotes = λ x. x }

-- ---- one call

-- one number of each item at the front of an array that has as many places
long : {A : Type 0} (part : A → ℕ) (items : List A) (before : List ℕ) (n : ℕ) → length before ≡ n → length items ≤ n → length (over (map part items) before) ≡ n
long part items before n e h =
    omega (arith, length-append (map part items) (drop (length (map part items)) before), length-drop (length (map part items)) before, length-map items part)

-- a plan within the limits laid over arrays as long as a plan's
laid_sized : (p : Plan) (g : Graph) → Sized p → within g ≡ true → Sized (laid p g)
unfolding laid
laid_sized p g z w =
    let l = limited g w in
    record {
      marks = long (λ (s : State). s.marks) g.state_list p.marks 512 z.marks l.most;
      teams = long (λ (s : State). s.team) g.state_list p.teams 512 z.teams l.most;
      from = long (λ (t : Transition). t.from) g.transitions p.from 2048 z.from l.transitions;
      to = long (λ (t : Transition). t.to) g.transitions p.to 2048 z.to l.transitions;
      low = long (λ (t : Transition). t.low) g.transitions p.low 2048 z.low l.transitions;
      high = long (λ (t : Transition). t.high) g.transitions p.high 2048 z.high l.transitions;
    }

-- the slices after a call for which the rules give o, and its number
module _ (p : Plan) (s : Slices) (h : has_room s ≡ true) (z : Sized p) where
  leaves : (o : Result Graph) → ((g : Graph) → o ≡ accepted g → within g ≡ true) → LentEdit p s (next_slices p s o) o (code o)
  leaves o inside = record {
    short = λ short. true-false (has_room s) h short;
    answer = λ room. refl;
    plan = λ room. go o inside;
    whole = λ room. refl;
  }
    where
      go : (o : Result Graph) → ((g : Graph) → o ≡ accepted g → within g ≡ true) → view (plan_in (next_slices p s o)) ≡ next (view (plan_in s)) o
      go (accepted g) inside = ap view (stored_back (laid p g) (laid_sized p g z (inside g refl)) s) ∙ view-laid p g
      go (refused k) inside = refl

no_plan_sized : Sized no_plan
no_plan_sized = record {
  marks = length-replicate {A = ℕ} 512 0;
  teams = length-replicate {A = ℕ} 512 0;
  from = length-replicate {A = ℕ} 2048 0;
  to = length-replicate {A = ℕ} 2048 0;
  low = length-replicate {A = ℕ} 2048 0;
  high = length-replicate {A = ℕ} 2048 0;
}

module _ (s : Slices) (h : has_room s ≡ true) (call : Call) where
  o : Result Graph
  o = step (view (plan_in s)) call

  turns : LentTurn s (next_slices (plan_in s) s o) call (code o)
  unfolding o
  turns = record {
    edit = leaves (plan_in s) s h (held_sized s h) o (λ g e. step-within (view (plan_in s)) g call e);
    value = λ room. go o (λ g e. step-within (view (plan_in s)) g call e);
  }
    where
      go : (o : Result Graph) → ((g : Graph) → o ≡ accepted g → within g ≡ true) → plan_in (next_slices (plan_in s) s o) ≡ next_value (plan_in s) o
      go (accepted g) inside = stored_back (laid (plan_in s) g) (laid_sized (plan_in s) g (held_sized s h) (inside g refl)) s
      go (refused k) inside = refl

-- ---- a list of calls

lists : (s : Slices) → has_room s ≡ true → (calls : List Call) → (answers : List ℕ) × (u : Slices) × LentListed published s calls answers u
unfolding published o
lists s h [] = ([], s, none)
lists s h (call ∷ calls) =
    let x = turns s h call in
    let t : Slices = next_slices (plan_in s) s (o s h call) in
    let (answers, u, rest) = lists t (room_kept (plan_in s) s t (o s h call) (code (o s h call)) h x.edit) calls in
    (code (o s h call) ∷ answers, u, more t (code (o s h call)) x rest)

-- every n, every list and all slices have their session
pub sessions : (n : ℕ) → state_count_ok n ≡ true → (calls : List Call) (s : Slices) → has_room s ≡ true
    → (x : LentSession published) × (x.n ≡ n) × (x.calls ≡ calls) × (x.lent ≡ s)
unfolding published fresh_rule
sessions n n_ok calls s h =
    let fresh-inside : (g : Graph) → fresh_rule n ≡ accepted g → within g ≡ true =
    λ g e. ap within (same g (sym e ∙ fresh_done n n_ok)) ∙ fresh-within n n_ok in
    let x = leaves no_plan s h no_plan_sized (fresh_rule n) fresh-inside in
    let t : Slices = next_slices no_plan s (fresh_rule n) in
    let (answers, u, listed) = lists t (room_kept no_plan s t (fresh_rule n) (code (fresh_rule n)) h x) calls in (
      record {
        n = n;
        n_ok = n_ok;
        lent = s;
        room = h;
        made = t;
        made-answer = code (fresh_rule n);
        calls = calls;
        answers = answers;
        last = u;
        freshly = x;
        in_turn_lem = listed;
      },
      refl,
      refl,
      refl,
    )
  where
    same : (g : Graph) → accepted g ≡ accepted (fresh_graph n) → g ≡ fresh_graph n
    same g e = cc

-- ---- quotations

-- one that names no team
pub unnamed : (asked : Asked) (s : Slices) (walk out : List ℕ) → has_room s ≡ true → within (view (plan_in s)) ≡ true → name_ok asked ≡ false
    → published.quotes asked s walk walk out out 18
unfolding published
unnamed asked s walk out h w n =
    let e = quote-unnamed asked (view (plan_in s)) walk out n w in
    record {
      short = λ short. true-false (has_room s) h short;
      answer = λ room. sym (ap code e);
      kept = λ room k f. (refl, refl);
      quoted = λ room f. absurd (never tt TeamNumber (sym e ∙ f));
    }

-- and the least delay of a plan without a start
pub without_a_start : (s : Slices) (walk out : List ℕ) → has_room s ≡ true → within (view (plan_in s)) ≡ true → NoStart (view (plan_in s))
    → states (view (plan_in s)) ≤ length walk → 4 ≤ length out → published.quotes (One LeastDelay) s walk walk out (over (1 ∷ 0 ∷ 0 ∷ 0 ∷ []) out) 256
unfolding published
without_a_start s walk out h w unmarked room four =
    let g : Graph = view (plan_in s) in
    let e = quote-accepted (One LeastDelay) g walk out refl w room four in
    record {
      short = λ short. true-false (has_room s) h short;
      answer = λ room. sym (ap code e);
      kept = λ room k f. absurd (never tt k (sym f ∙ e));
      quoted = λ room f. record {
        figure = NONE;
        k = 0;
        j = 0;
        says = record {
          figure = least-one g w (lows g) NONE (λ s ts (b, r). unmarked s b);
          costs = λ x f. absurd (other x f);
          smallest = λ x f. absurd (other x f);
          none = (λ f s (ts, (b, r)). unmarked s b, λ f. refl);
          not_stranded = λ f. let z : ◌≡◌ {A = ℕ} 1 2 = ap kind f in omega arith;
          not_endless = λ f. let z : ◌≡◌ {A = ℕ} 1 3 = ap kind f in omega arith;
          shows = record {
            walk = (refl, refl);
            number_of = refl;
            places = zero-le;
            none-empty = λ f. refl;
            only_endless = λ f. refl;
            later = refl;
            as_long = refl;
          };
        };
        places = refl;
      };
    }
  where
    other : (x : ℕ) → NONE ≡ number x → ⊥
    other x f = let z : ◌≡◌ {A = ℕ} 1 0 = ap kind f in omega arith

-- one that answers 11 for team 32, whatever it was lent
pub answers_11_first : (a : Archive) → LentDemand3 a → (s : LentSession a) {walk walk' out out' : List ℕ} → a.quotes (LeastCountFor 32) s.last walk walk' out out' 11 → ⊥
answers_11_first a d s x = let z : ◌≡◌ {A = ℕ} 11 18 = ((d s).no-figure x refl).0 in omega arith
