-- The plan value after each edit stands for the plan that the edit's rule gives, and has every place past its counts as it was; so it is that plan
-- laid over the arrays. A promise is kept by a refusal that hands the plan back, and by an acceptance with such a plan value.
-- Assumes nothing.
use mathlib.Core.List.{List, [], ◌++◌}
use mathlib.Core.Logic.{◌≢◌}
use mathlib.Core.Path.{◌≡◌, refl, sym, ap, ap₂, ◌∙◌}
use Prim.Native.Nat.{ℕ, suc, ◌+◌, ◌-◌, ◌≤◌, ◌<◌}
use native.Mathlib.Omega.{arith}
use lib.ListN.{length, get_or, take, drop, set, replicate, length-replicate, get_or-replicate, length-append, length-drop, get_or-append}
use lib.Seq.{paste, length-paste, length_paste_head, drop-paste, get_or-set_same, get_or-set_other, get_or-take, get_or-drop, get_or-append-add, length-take-le}
use Rattle.graph.specs.Graph.{Graph, State, Transition, state_with, marked as state, state as stateIn}
use Rattle.rules.specs.Answer.{Accepted, Answer}
use Rattle.std.proofs.Common.{Err}
use Rattle.rules.specs.declared.Refusal.{Refusal}
use Rattle.rules.specs.Refusal.{Result, accepted, refused, said}
use Rattle.rules.specs.Rules.{fresh_graph, with_mark, with_team, with_transition, without}
use Rattle.arrays.specs.declared.Plan.{Plan}
use Rattle.rules.specs.Image.{tabulate}
use Rattle.arrays.specs.Tables.{state_of, states_of, transition_of, transition, Later}
use Rattle.plan.specs.View.{plan_of, view, laid, blank_plan, no_plan}
use Rattle.plan.specs.Promise.{Edit}
use Rattle.plan.specs.Laws.{Sized, states-view, count-view}
use Rattle.rules.specs.Table.{Row, by_table, first, NoneHolds}
use Rattle.rules.proofs.Results.{refused_as}
use Rattle.rules.proofs.Tables.{accepted_only, accepted_where, answer-first}
use Rattle.rules.proofs.Tabulated.{get_d_tabulate, tabulate_of, tabulate-same}
use Rattle.arrays.proofs.Lists.{later_none, later_set, over-front, tabulate-set, tabulate-more, tabulate-without, same-transition, transition-other, transition-here}

-- ---- promises kept

-- every place past the counts of the plan value q is as in p
pub record Past (p q : Plan) : Type 0 where
  pub marks : Later q.states p.marks q.marks
  pub teams : Later q.states p.teams q.teams
  pub from : Later q.transitions p.from q.from
  pub to : Later q.transitions p.to q.to
  pub low : Later q.transitions p.low q.low
  pub high : Later q.transitions p.high q.high

-- such a plan value is what it stands for, laid over p
past-laid : (p q : Plan) → Past p q → q ≡ laid p (view q)
unfolding view laid
past-laid p q h =
    let t = transition_of q.from q.to q.low q.high in
    λ i. record {
      states = sym (states-view q) i;
      transitions = sym (count-view q) i;
      marks = over-front q.states (state_of q.marks q.teams) (λ (x : State). x.marks) p.marks q.marks (λ j. refl) h.marks i;
      teams = over-front q.states (state_of q.marks q.teams) (λ (x : State). x.team) p.teams q.teams (λ j. refl) h.teams i;
      from = over-front q.transitions t (λ (x : Transition). x.from) p.from q.from (λ j. refl) h.from i;
      to = over-front q.transitions t (λ (x : Transition). x.to) p.to q.to (λ j. refl) h.to i;
      low = over-front q.transitions t (λ (x : Transition). x.low) p.low q.low (λ j. refl) h.low i;
      high = over-front q.transitions t (λ (x : Transition). x.high) p.high q.high (λ j. refl) h.high i;
    }

pub refusal : (p : Plan) (o : Result Graph) (r : Refusal) (bits taken : ℕ) → o ≡ refused r → taken ≡ bits
    → Edit p o bits (record { answer = Err r; plan = p; taken = taken })
refusal p o r bits taken e t = record { answer = rw e; plan = rw e; whole = rw e; taken = t }

pub acceptance : (p q : Plan) (o : Result Graph) (g : Graph) (bits taken : ℕ) → o ≡ accepted g → view q ≡ g → Past p q → taken ≡ bits
    → Edit p o bits (record { answer = Accepted; plan = q; taken = taken })
acceptance p q o g bits taken e v l t = record { answer = rw e; plan = rw e v; whole = rw e (past-laid p q l ∙ ap (laid p) v); taken = t }

-- the same by a call's rows, whose first one answers, of a call that takes no bits
pub stays : (p : Plan) (rows : List Row) (g : Graph) (a : Answer) (r : Refusal) → a ≡ Err r → said a ≡ first rows
    → Edit p (by_table rows g) 0 (record { answer = a; plan = p; taken = 0 })
stays p rows g a r e s = rw e (refusal p (by_table rows g) r 0 0 (refused_as (by_table rows g) r (sym (ap said e) ∙ s ∙ sym (answer-first rows g))) refl)

pub none-holds : (rows : List Row) (a : Answer) → a ≡ Accepted → said a ≡ first rows → NoneHolds rows
none-holds rows a e s = (accepted_only rows tt tt (sym s ∙ ap said e)).0

pub becomes : (p q : Plan) (rows : List Row) (g : Graph) (a : Answer) → a ≡ Accepted → said a ≡ first rows → view q ≡ g → Past p q
    → Edit p (by_table rows g) 0 (record { answer = a; plan = q; taken = 0 })
becomes p q rows g a e s v l = rw e (acceptance p q (by_table rows g) g 0 0 (accepted_where rows g (none-holds rows a e s)) v l refl)

-- ---- plan values after the edits

pub view-blank : (n : ℕ) → n ≤ 512 → view (blank_plan n) ≡ fresh_graph n
unfolding view tabulate
view-blank n h =
    ap {B = Graph} (λ (l : List State). record { state_list = l; transitions = [] })
    (tabulate_of (state 0) (replicate n (state 0)) n (state_of (replicate 512 0) (replicate 512 0)) (length-replicate n (state 0))
    (λ i k.
    let zero = sym (get_or-replicate 512 i 0 0 (omega arith)) in
    get_or-replicate n i (state 0) (state 0) k ∙ ap₂ state_with zero zero))

pub past-blank : (n : ℕ) → n ≤ 512 → Past no_plan (blank_plan n)
past-blank n h =
    let zeros : Later 0 (replicate 2048 0) (replicate 2048 0) = later_none 0 (replicate 2048 0) (omega arith) in
    let l : length {A = ℕ} (replicate 512 0) ≡ 512 = length-replicate {A = ℕ} 512 0 in
    let each = later_none n (replicate 512 0) (omega arith) in
    record { marks = each; teams = each; from = zeros; to = zeros; low = zeros; high = zeros }

-- a plan value's arrays have the places of its plan
pub record InArrays (q : Plan) : Type 0 where
  pub marks : q.states ≤ length q.marks
  pub teams : q.states ≤ length q.teams
  pub from : q.transitions ≤ length q.from
  pub to : q.transitions ≤ length q.to
  pub low : q.transitions ≤ length q.low
  pub high : q.transitions ≤ length q.high

-- a plan value by its arrays, one by one
pub same-arrays : {n m : ℕ} {marks marks' teams teams' from from' to to' low low' high high' : List ℕ} → marks ≡ marks' → teams ≡ teams' → from ≡ from' → to ≡ to' → low ≡ low' → high ≡ high'
    → plan_of n m marks teams from to low high ≡ plan_of n m marks' teams' from' to' low' high'
same-arrays {n} {m} em em' ef et el eh = λ i. record { states = n; transitions = m; marks = em i; teams = em' i; from = ef i; to = et i; low = el i; high = eh i }

module _ (p : Plan) where
  -- the plan value with other arrays of marks values and of teams
  abbrev pub stated : List ℕ → List ℕ → Plan
  stated marks teams =
      record { states = p.states; transitions = p.transitions; marks = marks; teams = teams; from = p.from; to = p.to; low = p.low; high = p.high }

  -- arrays that differ at one state only hold the plan with that state set
  view-stated : (k : ℕ) (marks teams : List ℕ) → ((i : ℕ) → i ≢ k → state_of marks teams i ≡ state_of p.marks p.teams i)
      → view (stated marks teams) ≡ record { state_list = set (view p).state_list k (state_of marks teams k); transitions = (view p).transitions }
  unfolding view
  view-stated k marks teams others =
      ap {B = Graph} (λ (l : List State). record { state_list = l; transitions = tabulate p.transitions (transition_of p.from p.to p.low p.high) })
      (tabulate-set p.states k (state_of p.marks p.teams) (state_of marks teams) others)

  -- the state of the plan at a place of the arrays
  state-view : (k : ℕ) → k < p.states → stateIn (view p) k ≡ state_of p.marks p.teams k
  unfolding view
  state-view k h = get_d_tabulate p.states (state_of p.marks p.teams) k (state 0) h

  -- a state of the plan that is set, with this in the arrays at its place
  set_to : (k : ℕ) {x y : State} → x ≡ y → ◌≡◌ {A = Graph} (record { state_list = set (view p).state_list k x; transitions = (view p).transitions }) (record { state_list = set (view p).state_list k y; transitions = (view p).transitions })
  set_to k e = ap {B = Graph} (λ (x : State). record { state_list = set (view p).state_list k x; transitions = (view p).transitions }) e

  -- the plan value with a marks value set, and with a team set
  abbrev pub marked : ℕ → ℕ → Plan
  marked k value = stated (set p.marks k value) p.teams

  abbrev pub teamed : ℕ → ℕ → Plan
  teamed k team = stated p.marks (set p.teams k team)

  pub view-marked : (k value : ℕ) → k < p.states → k < length p.marks → view (marked k value) ≡ with_mark (view p) k value
  view-marked k value below h =
      view-stated k (set p.marks k value) p.teams (λ i d. ap (λ (v : ℕ). state_with v (get_or p.teams i 0)) (get_or-set_other p.marks k i value 0 d))
      ∙ set_to k (ap₂ state_with (get_or-set_same p.marks k value 0 h) (sym (ap (λ (x : State). x.team) (state-view k below))))

  pub view-teamed : (k team : ℕ) → k < p.states → k < length p.teams → view (teamed k team) ≡ with_team (view p) k team
  view-teamed k team below h =
      view-stated k p.marks (set p.teams k team) (λ i d. ap (λ (v : ℕ). state_with (get_or p.marks i 0) v) (get_or-set_other p.teams k i team 0 d))
      ∙ set_to k (ap₂ state_with (sym (ap (λ (x : State). x.marks) (state-view k below))) (get_or-set_same p.teams k team 0 h))

  past-stated : Sized p → (marks teams : List ℕ) → p.transitions ≤ 2048 → Later p.states p.marks marks → Later p.states p.teams teams
      → Past p (stated marks teams)
  past-stated z marks teams hm l r =
      let same : (l : List ℕ) → length l ≡ 2048 → Later p.transitions l l = λ l e. later_none p.transitions l (omega arith) in
      record {
        marks = l;
        teams = r;
        from = same p.from z.from;
        to = same p.to z.to;
        low = same p.low z.low;
        high = same p.high z.high;
      }

  -- places of an array of states as they were, and with one below n set
  kept : (places : List ℕ) → length places ≡ 512 → p.states ≤ 512 → Later p.states places places
  kept places e h = later_none p.states places (omega (arith, e, h))

  pub past-marked : Sized p → (k value : ℕ) → k < p.states → p.states ≤ 512 → p.transitions ≤ 2048 → Past p (marked k value)
  past-marked z k value h hn hm =
      past-stated z (set p.marks k value) p.teams hm (later_set p.states p.marks p.marks k value h (kept p.marks z.marks hn))
      (kept p.teams z.teams hn)

  pub past-teamed : Sized p → (k team : ℕ) → k < p.states → p.states ≤ 512 → p.transitions ≤ 2048 → Past p (teamed k team)
  past-teamed z k team h hn hm =
      past-stated z p.marks (set p.teams k team) hm (kept p.marks z.marks hn)
      (later_set p.states p.teams p.teams k team h (kept p.teams z.teams hn))

  -- the plan value with a transition at the end
  abbrev pub joined : ℕ → ℕ → ℕ → ℕ → Plan
  joined f t l h =
      let m = p.transitions in
      record { states = p.states; transitions = m + 1; marks = p.marks; teams = p.teams; from = set p.from m f; to = set p.to m t; low = set p.low m l; high = set p.high m h }

  pub view-joined : Sized p → (f t l h : ℕ) → p.transitions < 2048 → view (joined f t l h) ≡ with_transition (view p) (transition f t l h)
  unfolding view
  view-joined z f t l h hm =
      let m : ℕ = p.transitions in
      ap {B = Graph} (λ (ts : List Transition). record { state_list = states_of p.states p.marks p.teams; transitions = ts })
      (tabulate-more m (transition_of p.from p.to p.low p.high) (transition_of (set p.from m f) (set p.to m t) (set p.low m l) (set p.high m h)) (transition f t l h)
      (λ i k. transition-other p.from p.to p.low p.high m f t l h i (omega arith))
      (transition-here p.from p.to p.low p.high m f t l h (omega (arith, z.from)) (omega (arith, z.to)) (omega (arith, z.low)) (omega (arith, z.high))))

  pub past-joined : Sized p → (f t l h : ℕ) → p.states ≤ 512 → p.transitions < 2048 → Past p (joined f t l h)
  past-joined z f t l h hn hm =
      let m : ℕ = p.transitions in
      let one : (places : List ℕ) (v : ℕ) → length places ≡ 2048 → Later (m + 1) places (set places m v) =
      λ places v e. later_set (m + 1) places places m v (omega arith) (later_none (m + 1) places (omega arith)) in
      record {
        marks = later_none p.states p.marks (omega (arith, z.marks));
        teams = later_none p.states p.teams (omega (arith, z.teams));
        from = one p.from f z.from;
        to = one p.to t z.to;
        low = one p.low l z.low;
        high = one p.high h z.high;
      }

  -- the plan value with another's plan laid over it: the first places of its arrays are the other's
  abbrev pub overlaid : Plan → Plan
  overlaid q =
      let n = q.states in
      let m = q.transitions in
      record {
        states = n;
        transitions = m;
        marks = paste p.marks 0 q.marks n;
        teams = paste p.teams 0 q.teams n;
        from = paste p.from 0 q.from m;
        to = paste p.to 0 q.to m;
        low = paste p.low 0 q.low m;
        high = paste p.high 0 q.high m;
      }

  overlaid_place : (d s : List ℕ) (k i : ℕ) → k ≤ length s → i < k → get_or (paste d 0 s k) i 0 ≡ get_or s i 0
  overlaid_place d s k i hs h =
      get_or-append (take 0 d ++ take k s) (drop (0 + k) d) 0 i (rw (length_paste_head d 0 s k (omega arith) hs) (omega arith)) ∙ get_or-take k s i 0 h

  overlaid_later : (d s : List ℕ) (k : ℕ) → k ≤ length d → k ≤ length s → Later k d (paste d 0 s k)
  overlaid_later d s k hd hs =
      let e : 0 + k ≡ k = omega arith in
      record {
        room = rw (length-paste d 0 s k (omega arith) hs) hd;
        same = ap (λ (j : ℕ). drop j (paste d 0 s k)) (sym e) ∙ drop-paste d 0 s k (omega arith) hs ∙ ap (λ (j : ℕ). drop j d) e;
      }

  pub view-overlaid : (q : Plan) → InArrays q → view (overlaid q) ≡ view q
  unfolding view
  view-overlaid q r =
      let m : ℕ = q.transitions in
      λ i. record {
        state_list =
            tabulate-same q.states (state_of (paste p.marks 0 q.marks q.states) (paste p.teams 0 q.teams q.states)) (state_of q.marks q.teams)
            (λ j h. ap₂ state_with (overlaid_place p.marks q.marks q.states j r.marks h) (overlaid_place p.teams q.teams q.states j r.teams h)) i;
        transitions =
            tabulate-same m
            (transition_of (paste p.from 0 q.from m) (paste p.to 0 q.to m) (paste p.low 0 q.low m) (paste p.high 0 q.high m))
            (transition_of q.from q.to q.low q.high)
            (λ j h. same-transition (overlaid_place p.from q.from m j r.from h) (overlaid_place p.to q.to m j r.to h)
            (overlaid_place p.low q.low m j r.low h) (overlaid_place p.high q.high m j r.high h)) i;
      }

  pub past-overlaid : Sized p → (q : Plan) → InArrays q → q.states ≤ 512 → q.transitions ≤ 2048 → Past p (overlaid q)
  past-overlaid z q r hn hm =
      record {
        marks = overlaid_later p.marks q.marks q.states (omega (arith, z.marks)) r.marks;
        teams = overlaid_later p.teams q.teams q.states (omega (arith, z.teams)) r.teams;
        from = overlaid_later p.from q.from q.transitions (omega (arith, z.from)) r.from;
        to = overlaid_later p.to q.to q.transitions (omega (arith, z.to)) r.to;
        low = overlaid_later p.low q.low q.transitions (omega (arith, z.low)) r.low;
        high = overlaid_later p.high q.high q.transitions (omega (arith, z.high)) r.high;
      }

  -- the plan value with a transition taken out: each array with the later places moved down by one
  abbrev pub moved : List ℕ → ℕ → List ℕ
  moved xs k = paste xs k (drop (suc k) xs) (p.transitions - suc k)

  abbrev pub unjoined : ℕ → Plan
  unjoined k =
      record { states = p.states; transitions = p.transitions - 1; marks = p.marks; teams = p.teams; from = moved p.from k; to = moved p.to k; low = moved p.low k; high = moved p.high k }

  moved_before : (xs : List ℕ) (k i : ℕ) → k < p.transitions → p.transitions ≤ length xs → i < k → get_or (moved xs k) i 0 ≡ get_or xs i 0
  moved_before xs k i hk hx h =
      let n : ℕ = p.transitions - suc k in
      let s : List ℕ = drop (suc k) xs in
      let l : length (take k xs) ≡ k = length-take-le k xs (omega arith) in
      get_or-append (take k xs ++ take n s) (drop (k + n) xs) 0 i (omega (arith, length-append (take k xs) (take n s)))
      ∙ get_or-append (take k xs) (take n s) 0 i (rw l h) ∙ get_or-take k xs i 0 h

  moved-after : (xs : List ℕ) (k i : ℕ) → p.transitions ≤ length xs → k ≤ i → i + 1 < p.transitions → get_or (moved xs k) i 0 ≡ get_or xs (i + 1) 0
  moved-after xs k i hx hk h =
      let n : ℕ = p.transitions - suc k in
      let s : List ℕ = drop (suc k) xs in
      let l : length (take k xs) ≡ k = length-take-le k xs (omega arith) in
      let ls : length s ≡ length xs - suc k = length-drop (suc k) xs in
      let ln : length (take n s) ≡ n = length-take-le n s (omega arith) in
      let e : length (take k xs) + (i - k) ≡ i = omega arith in
      let q : suc k + (i - k) ≡ i + 1 = omega arith in
      get_or-append (take k xs ++ take n s) (drop (k + n) xs) 0 i (omega (arith, length-append (take k xs) (take n s)))
      ∙ ap (λ (j : ℕ). get_or (take k xs ++ take n s) j 0) (sym e) ∙ get_or-append-add (take k xs) (take n s) (i - k) 0
      ∙ get_or-take n s (i - k) 0 (omega arith) ∙ get_or-drop (suc k) xs (i - k) 0 ∙ ap (λ (j : ℕ). get_or xs j 0) q

  moved_later : (xs : List ℕ) (k : ℕ) → k < p.transitions → p.transitions ≤ length xs → Later (p.transitions - 1) xs (moved xs k)
  moved_later xs k hk hx =
      let n : ℕ = p.transitions - suc k in
      let e : k + n ≡ p.transitions - 1 = omega arith in
      let ls : length (drop (suc k) xs) ≡ length xs - suc k = length-drop (suc k) xs in
      record {
        room = rw (length-paste xs k (drop (suc k) xs) n (omega arith) (omega arith)) (omega arith);
        same = ap (λ (j : ℕ). drop j (moved xs k)) (sym e) ∙ drop-paste xs k (drop (suc k) xs) n (omega arith) (omega arith) ∙ ap (λ (j : ℕ). drop j xs) e;
      }

  pub past-unjoined : Sized p → (k : ℕ) → p.states ≤ 512 → k < p.transitions → p.transitions ≤ 2048 → Past p (unjoined k)
  past-unjoined z k hn hk hm =
      record {
        marks = later_none p.states p.marks (omega (arith, z.marks));
        teams = later_none p.states p.teams (omega (arith, z.teams));
        from = moved_later p.from k hk (omega (arith, z.from));
        to = moved_later p.to k hk (omega (arith, z.to));
        low = moved_later p.low k hk (omega (arith, z.low));
        high = moved_later p.high k hk (omega (arith, z.high));
      }

  pub view-unjoined : Sized p → (k : ℕ) → k < p.transitions → p.transitions ≤ 2048 → view (unjoined k) ≡ without (view p) k
  unfolding view
  view-unjoined z k h hm =
      let hf : p.transitions ≤ length p.from = omega (arith, z.from) in
      let ht : p.transitions ≤ length p.to = omega (arith, z.to) in
      let hl : p.transitions ≤ length p.low = omega (arith, z.low) in
      let hh : p.transitions ≤ length p.high = omega (arith, z.high) in
      ap {B = Graph} (λ (ts : List Transition). record { state_list = states_of p.states p.marks p.teams; transitions = ts })
      (tabulate-without (transition 0 0 0 0) p.transitions k (transition_of p.from p.to p.low p.high)
      (transition_of (moved p.from k) (moved p.to k) (moved p.low k) (moved p.high k)) h
      (λ i l. same-transition (moved_before p.from k i h hf l) (moved_before p.to k i h ht l) (moved_before p.low k i h hl l) (moved_before p.high k i h hh l))
      (λ i l r. same-transition (moved-after p.from k i hf l r) (moved-after p.to k i ht l r) (moved-after p.low k i hl l r) (moved-after p.high k i hh l r)))
