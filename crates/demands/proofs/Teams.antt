-- Teams, of whatever keeps the promises. What a call does to the list of states is its effect, place by place. What is written is the image, and the image reads back as the
-- plan, so the five bits that read takes of a state are its team. Of teams up to 31 the class of the table is the range between its first and its last team (computed, once
-- for each class), so a count for a class counts the states of that range. Then what meets the premises, and two impostors: a mark that clears the team, and a count for
-- team 32 that has a figure. Assumes nothing.
use mathlib.Core.Bool.{Bool, true, false, not, cond, ◌&&◌, true≢false}
use mathlib.Core.List.{List, [], ◌∷◌, ◌++◌}
use mathlib.Core.Logic.{◌⊎◌, inl, inr, ◌≢◌}
use mathlib.Core.Path.{◌≡◌, refl, sym, ap, ◌∙◌, subst}
use Prim.Native.Nat.{ℕ, zero, suc, ◌≤◌, ◌<◌, zero-le}
use borrow.Author.Tests.{ltb-true, ltb-false, leb-true, leb-false, eqb-true, eqb-false, le-leb, lt-leb, le-ltb, ne_eqb}
use native.Mathlib.Omega.{arith}
use lib.Dec.{leb, ltb, eqb}
use lib.ListN.{length, get_or, take, drop, set, replicate, get_or-eq_default}
use lib.Seq.{take_at, get_or-set_same, get_or-set_other}
use Rattle.field.specs.Field.{field_at, bits, bits_of, number as bitNumber}
use Rattle.graph.specs.declared.Asked.TheVariants.{LeastCountFor, GreatestCountFor}
use Rattle.graph.specs.declared.Class.{Class}
use Rattle.graph.specs.declared.Class.TheVariants.{None, Wards, Clinics, Switchboards, OutsideLines}
use Rattle.graph.specs.Class.{first_team, last_team, class_place, class_of, same_class, in_class_of, team_ok}
use Rattle.graph.specs.Compute.{any}
use Rattle.graph.specs.Graph.{Graph, State, state_with, marked, states, state, marks_of, team_of}
use Rattle.graph.specs.Route.{number-on}
use Rattle.graph.proofs.Classes.{of_class}
use Rattle.graph.proofs.Sentences.{route-count}
use Rattle.graph.proofs.Tests.{none_of}
use Rattle.rules.specs.Answer.{Accepted}
use Rattle.std.proofs.Common.{Ok}
use Rattle.rules.specs.declared.Quote.{Quote}
use Rattle.rules.specs.declared.Refusal.TheVariants.{Version, StateNumber, TeamNumber}
use Rattle.rules.specs.Aldebaran.{plan_of}
use Rattle.rules.specs.Calls.{mark, import}
use Rattle.rules.specs.Image.{image, image_rows, header_rows, state_rows, transition_rows, state_item, fourth_of, state_at, state_place, version_of, state_count_of, transition_count_of, transition_at, transition_place, graph_in, read_image}
use Rattle.rules.specs.Limits.{within, state_ok, marks_ok}
use Rattle.rules.specs.Quotations.{said_quotation, says_asked, Stated}
use Rattle.rules.specs.Refusal.{said}
use Rattle.rules.specs.Rules.{fresh_graph, fresh_rows, fresh_rule, next, with_mark, with_team, mark_rows, team_rows}
use Rattle.rules.specs.Table.{Row, NoneHolds, by_number}
use Rattle.rules.proofs.Basic.{quote-unnamed, quote_done}
use Rattle.rules.proofs.ReadWrite.{limited, read-image, version_by}
use Rattle.rules.proofs.Results.{never, accepted_as, and_true, all_get_d}
use Rattle.rules.proofs.Tables.{accepted_only, append-none, none_each}
use Rattle.rules.proofs.Tabulated.{length-tabulate, get_d_tabulate}
use Rattle.taken.specs.Taken.{refuses}
use Rattle.taken.proofs.Taken.{refuses-none}
use Rattle.plan.specs.declared.Edited.{Edited}
use Rattle.arrays.specs.declared.Plan.{Plan}
use Rattle.plan.specs.View.{view, no_plan}
use Rattle.plan.proofs.Promises.{accepted-write}
use Rattle.demands.specs.Calculator.{Calculator, Promises}
use Rattle.demands.specs.Teams.{Named, has_team_of, Teams}
use Rattle.demands.proofs.Demands.{was-quoted, was-refused, said_of, quoted-within, demand_2}
use Rattle.demands.proofs.Exchange.{exchanges}
use Rattle.demands.proofs.Impostors.{version_1_returns}
use Rattle.demands.proofs.Said.{refused_by, accepted_by, effect, effect_or_stays}

-- ---- teams of lists of states

-- a state set, where its number is one of the list's, and the others
module _ (l : List State) (s x : ℕ) (v : State) (h : s < length l) where
  set_keeps : {A : Type 0} (part : State → A) → (x ≡ s → part v ≡ part (get_or l s (marked 0))) → part (get_or (set l s v) x (marked 0)) ≡ part (get_or l x (marked 0))
  set_keeps part same = go (eqb x s) refl
    where
      go : (b : Bool) → eqb x s ≡ b → part (get_or (set l s v) x (marked 0)) ≡ part (get_or l x (marked 0))
      go true b =
          let e : x ≡ s = eqb-true x s b in
          rw e (ap part (get_or-set_same l s v (marked 0) h) ∙ same e)
      go false b = ap part (get_or-set_other l s x v (marked 0) (eqb-false x s b))

blank-teams : (n s : ℕ) → (get_or (replicate n (marked 0)) s (marked 0)).team ≡ 0
blank-teams zero s = refl
blank-teams (suc n) zero = refl
blank-teams (suc n) (suc s) = blank-teams n s

started-teams : (n i s v : ℕ) → (get_or (set (replicate n (marked 0)) i (marked v)) s (marked 0)).team ≡ 0
started-teams zero i s v = refl
started-teams (suc n) zero zero v = refl
started-teams (suc n) zero (suc s) v = blank-teams n s
started-teams (suc n) (suc i) zero v = refl
started-teams (suc n) (suc i) (suc s) v = started-teams n i s v

-- ---- a plan within the limits

module _ (g : Graph) (w : within g ≡ true) where
  -- no team is above 31; a number that is no state's has team 0
  team_small : (s : ℕ) → team_of g s ≤ 31
  unfolding team_of
  team_small s = go (ltb s (states g)) refl
    where
      go : (b : Bool) → ltb s (states g) ≡ b → (state g s).team ≤ 31
      go true b =
          let here : State = state g s in
          let ok : state_ok here ≡ true = all_get_d state_ok g.state_list s (marked 0) (limited g w).each-state (ltb-true s (states g) b) in
          leb-true here.team 31 (and_true (marks_ok here.marks) (team_ok here.team) ok).1
      go false b = rw (get_or-eq_default g.state_list (marked 0) {n = s} (ltb-false s (states g) b)) zero-le

  -- the five bits of a state in the image
  team-bits : (s : ℕ) → s < states g → fourth_of state_item (image g) (state_place s) ≡ team_of g s
  unfolding read_image graph_in team_of
  team-bits s h =
      let os : List ℕ = image g in
      let f : ℕ → State = λ i. state_at os (state_place i) in
      let same : graph_in os ≡ g = (accepted_only (image_rows os) (graph_in os) g (read-image g w)).1 in
      let many : state_count_of os ≡ states g = sym (length-tabulate (state_count_of os) f) ∙ ap states same in
      let there : f s ≡ state g s = sym (get_d_tabulate (state_count_of os) f s (marked 0) (rw many h)) ∙ ap (λ (x : Graph). state x s) same in
      let two : version_of os ≡ 2 = version_by 2 g (omega arith) in
      let five : (f s).team ≡ fourth_of state_item os (state_place s) = rw two refl in
      sym five ∙ ap (λ (x : State). x.team) there

-- ---- the table of classes, over the teams that there are

-- two tests that say the same
agree : Bool → Bool → Bool
agree a b = cond a b (not b)

of_agree : (a b : Bool) → not (agree a b) ≡ false → a ≡ b
unfolding agree
of_agree true true e = refl
of_agree true false e = absurd (true≢false e)
of_agree false true e = absurd (true≢false e)
of_agree false false e = refl

abbrev differs : Class → ℕ → Bool
differs class t = not (agree (eqb (class_place (class_of t)) (class_place class)) (leb (first_team class) t && leb t (last_team class)))

none-differs : (class : Class) → any (differs class) 32 ≡ false
unfolding any agree
none-differs None = refl
none-differs Wards = refl
none-differs Clinics = refl
none-differs Switchboards = refl
none-differs OutsideLines = refl

last_small : (class : Class) → last_team class ≤ 31
last_small None = omega arith
last_small Wards = omega arith
last_small Clinics = omega arith
last_small Switchboards = omega arith
last_small OutsideLines = omega arith

module _ (class : Class) (named : ℕ) (n : Named class named) where
  named_ok : team_ok named ≡ true
  named_ok = le-leb named 31 (omega (arith, n.1, last_small class))

  -- the states that count are those of the class
  counts_same : (g : Graph) → within g ≡ true → in_class_of g named ≡ has_team_of class g
  unfolding in_class_of
  counts_same g w = λ i s. at s i
    where
      at : (s : ℕ) → same_class (team_of g s) named ≡ has_team_of class g s
      at s = rw (of_class class named n.0 n.1) (of_agree _ _ (none_of (differs class) 32 (none-differs class) (team_of g s) (omega (arith, team_small g w s))))

-- ---- an image of version 2

-- its states are right whatever they hold
of_version_2 : (octets : List ℕ) → version_of octets ≡ 2 → NoneHolds (header_rows octets)
    → ((i : ℕ) → i < transition_count_of octets → NoneHolds (transition_rows (state_count_of octets) (transition_at octets (transition_place (state_count_of octets) i))))
    → NoneHolds (image_rows octets)
unfolding image_rows
of_version_2 octets two header transitions =
    let n : ℕ = state_count_of octets in
    let m : ℕ = transition_count_of octets in
    let rows : ℕ → List Row = λ i. transition_rows n (transition_at octets (transition_place n i)) in
    append-none (header_rows octets) (by_number (state_rows octets) 0 n ++ by_number rows 0 m) header
    (append-none (by_number (state_rows octets) 0 n) (by_number rows 0 m) (none_each (state_rows octets) n (λ k h. (rw two refl, tt))) (none_each rows m transitions))

-- ---- the record

module _ (c : Calculator) (keeps : Promises c) where
  -- what is written is the image, of a plan within the limits
  written_of : {p : Plan} {before after : List ℕ} (n : ℕ) → c.writes p before after (Ok n) → (take n after ≡ image (view p)) × (within (view p) ≡ true)
  written_of {p} {before} n x =
      let (long, put) = (demand_2 c keeps).written-image n x in (
        ap (λ (l : List ℕ). take n l) put ∙ take_at (image (view p)) (drop n before) n long,
        (accepted-write (view p) before n (sym (keeps.writes x).answer)).0,
      )

  zero-read : {p : Plan} {text : List ℕ} {e : Edited} → c.edits p (import text) e → e.answer ≡ Accepted → (s : ℕ) → team_of (view e.plan) s ≡ 0
  unfolding team_of plan_of
  zero-read x a s =
      let (h, on, is, plan) = (exchanges c keeps).imported-plan x a in
      ap (λ (g : Graph). (state g s).team) plan ∙ started-teams h.states h.initial s 4

  pub teams : Teams c
  unfolding team_of marks_of image_rows header_rows fresh_rule
  teams = record {
    five-bits = λ {p} {before} {after} n s x h.
        let (front, w) = written_of n x in
        (ap (λ (l : List ℕ). fourth_of state_item l (state_place s)) front ∙ team-bits (view p) w s h, team_small (view p) w s);
    set_by_its_call = λ {p} s k w h small x.
        let a = accepted_by c keeps x (ap not w, (lt-leb (states (view p)) s h, (ap not (le-leb k 31 small), tt))) in
        (a, (effect c keeps x a).1);
    sets_it = λ {p} s k x a.
        let (none, is) = effect c keeps x a in
        ap (λ (g : Graph). (state g s).team) is
        ∙ ap (λ (v : State). v.team) (get_or-set_same (view p).state_list s (state_with (state (view p) s).marks k) (marked 0) (leb-false (states (view p)) s none.1.0));
    leaves_the_rest = λ {p} {e} s k x y. rest p e s k x (effect_or_stays c keeps y);
    fresh-zero = λ {n} {e} x a s.
        let (g, is) = accepted_as (fresh_rule n) (sym (ap said a) ∙ (keeps.freshes x).answer) in
        let same : fresh_graph n ≡ g = (accepted_only (fresh_rows n) (fresh_graph n) g is).1 in
        ap (λ (g : Graph). (state g s).team) ((keeps.freshes x).plan ∙ ap (next (view no_plan)) is ∙ sym same) ∙ blank-teams n s;
    mark-leaves = λ {p} {e} s value x y. marks p e s value x (effect_or_stays c keeps y);
    version_2 = λ {p} n x. ap version_of (written_of n x).0 ∙ version_by 2 (view p) (omega arith);
    version_1_read = λ x a one. first-version one ((demand_2 c keeps).read-version x a);
    text-read = zero-read;
    text-back = λ n w x y. let a = ((exchanges c keeps).imports-back n w x y).0 in (a, zero-read y a);
    other_versions = λ {p} {octets} w long not-1 not-2 x.
        refused_by c keeps Version x (rw (w, le-ltb (length octets) 4 long, ne_eqb (version_of octets) 1 not-1, ne_eqb (version_of octets) 2 not-2));
    only_2_back = λ ho x a room y back. second-version (λ one. version_1_returns c (demand_2 c keeps) ho one x a room y back) ((demand_2 c keeps).read-version x a);
    every_2_back = λ {old} {octets} {before} ho x a room y two.
        ap (λ (l : List ℕ). take (length octets) l) ((demand_2 c keeps).writes-back ho two x a room y).1 ∙ take_at octets (drop (length octets) before) (length octets) refl;
    least-quoted = λ {p} {before} {after} {r} class named n w room x.
        was-quoted r ((keeps.quotes x).answer ∙ quote_done (view p) before (LeastCountFor named) w (named_ok class named n) (le-ltb (length before) (states (view p)) room));
    greatest-quoted = λ {p} {before} {after} {r} class named n w room x.
        was-quoted r ((keeps.quotes x).answer ∙ quote_done (view p) before (GreatestCountFor named) w (named_ok class named n) (le-ltb (length before) (states (view p)) room));
    least_for_lem = λ {p} {before} {after} class named q n is x e.
        let g : Graph = view p in
        let same = counts_same class named is g (quoted-within c keeps q x) in
        let (s, r, t) = (said_of c keeps q x).costs n e in (
          (s, r, ap (λ (test : ℕ → Bool). number-on g test s (take q.k after)) (sym same) ∙ sym (route-count g (in_class_of g named) s (take q.k after) r) ∙ t),
          λ s ts r. subst (λ (test : ℕ → Bool). n ≤ number-on g test s ts) same (rw (← route-count g (in_class_of g named) s ts r) ((said_of c keeps q x).smallest n e s ts r)),
        );
    greatest_for_lem = λ {p} {before} {after} class named q n is x e.
        let g : Graph = view p in
        let same = counts_same class named is g (quoted-within c keeps q x) in
        let (s, r, t) = (said_of c keeps q x).costs n e in (
          (s, r, ap (λ (test : ℕ → Bool). number-on g test s (take q.k after)) (sym same) ∙ sym (route-count g (in_class_of g named) s (take q.k after) r) ∙ t),
          λ s ts r. subst (λ (test : ℕ → Bool). number-on g test s ts ≤ n) same (rw (← route-count g (in_class_of g named) s ts r) ((said_of c keeps q x).largest n e s ts r)),
        );
    behind_it = λ {p} {asked} {before} {after} s k q x a y.
        subst (λ (g : Graph). Stated (says_asked asked g) q before after) (effect c keeps x a).1 (said_of c keeps q y);
    set_7 = λ {p} s k w h x. refused_by c keeps StateNumber x (rw (w, le-leb (states (view p)) s h));
    set_18 = λ {p} s k w h big x. refused_by c keeps TeamNumber x (rw (w, lt-leb (states (view p)) s h, lt-leb k 31 big));
    count_18 = λ {asked} {p} {before} {after} {r} w unnamed x. was-refused r TeamNumber ((keeps.quotes x).answer ∙ quote-unnamed (view p) before asked w unnamed);
    six_lapses = λ {p} {octets} w two header transitions x. accepted_by c keeps x (ap not w, of_version_2 octets two header transitions);
  }
    where
      rest : (p : Plan) (e : Edited) (s k x : ℕ) → (NoneHolds (team_rows (view p) s k) × (view e.plan ≡ with_team (view p) s k)) ⊎ (view e.plan ≡ view p)
          → ((state (view e.plan) x).marks ≡ (state (view p) x).marks) × (x ≢ s → (state (view e.plan) x).team ≡ (state (view p) x).team)
      rest p e s k x (inl (none, is)) =
          let g : Graph = view p in
          let h = leb-false (states g) s none.1.0 in (
            ap (λ (y : Graph). (state y x).marks) is ∙ set_keeps g.state_list s x (state_with (state g s).marks k) h (λ v. v.marks) (λ i. refl),
            λ d. ap (λ (y : Graph). (state y x).team) is ∙ set_keeps g.state_list s x (state_with (state g s).marks k) h (λ v. v.team) (λ i. absurd (d i)),
          )
      rest p e s k x (inr is) = (ap (λ (y : Graph). (state y x).marks) is, λ d. ap (λ (y : Graph). (state y x).team) is)

      marks : (p : Plan) (e : Edited) (s value x : ℕ) → (NoneHolds (mark_rows (view p) s value) × (view e.plan ≡ with_mark (view p) s value)) ⊎ (view e.plan ≡ view p)
          → (state (view e.plan) x).team ≡ (state (view p) x).team
      marks p e s value x (inl (none, is)) =
          let g : Graph = view p in
          let h = leb-false (states g) s none.1.0 in
          ap (λ (y : Graph). (state y x).team) is ∙ set_keeps g.state_list s x (state_with value (state g s).team) h (λ v. v.team) (λ i. refl)
      marks p e s value x (inr is) = ap (λ (y : Graph). (state y x).team) is

      first-version : {v : ℕ} {A : Type 0} → v ≡ 1 → ((v ≡ 1) × A) ⊎ (v ≡ 2) → A
      first-version one (inl (e, a)) = a
      first-version one (inr e) = absurd (omega arith)

      second-version : {v : ℕ} {A : Type 0} → (v ≡ 1 → ⊥) → ((v ≡ 1) × A) ⊎ (v ≡ 2) → v ≡ 2
      second-version not-1 (inl (e, a)) = absurd (not-1 e)
      second-version not-1 (inr e) = e

-- ---- what meets the premises, and what breaks the record

-- every class has its first team
pub named_first : (class : Class) → Named class (first_team class)
named_first None = (omega arith, omega arith)
named_first Wards = (omega arith, omega arith)
named_first Clinics = (omega arith, omega arith)
named_first Switchboards = (omega arith, omega arith)
named_first OutsideLines = (omega arith, omega arith)

-- an image of version 2 whose one state has all five bits set: its header is right, and it has no transitions
abbrev pub all-five : List ℕ
all-five = 0x20 ∷ 0x04 ∷ 0x00 ∷ 0x00 ∷ 0x1F ∷ []

pub all-five-right : (version_of all-five ≡ 2) × NoneHolds (header_rows all-five) × (transition_count_of all-five ≡ 0)
unfolding header_rows refuses field_at bits bits_of bitNumber
all-five-right = (refl, refuses-none (header_rows all-five) refl, refl)

-- one whose mark clears the team
pub mark_clears : (c : Calculator) → Teams c → {p : Plan} {e : Edited} (s value : ℕ) → c.edits p (mark s value) e → team_of (view p) s ≡ 5
    → team_of (view e.plan) s ≡ 0 → ⊥
mark_clears c d s value x five gone = omega (arith, d.mark-leaves s value s x)

-- one that has a figure for team 32
pub quotes_32 : (c : Calculator) → Teams c → {p : Plan} {before after : List ℕ} (q : Quote) → within (view p) ≡ true
    → c.quotes (GreatestCountFor 32) p before after (Ok q) → ⊥
quotes_32 c d q w x = never tt TeamNumber (sym (ap said_quotation (d.count_18 w refl x)))
