-- Import and export. The rows of lines, one after another, hold none exactly where every transition is within the limits (`each-ok`, `ok-each`), so an accepted text
-- holds a plan within them (`import-within`). That plan has one start, the initial state (`one-start`), so its text is the text of what was read, which is the text itself: an imported
-- text exports as those octets (`import-export`). The other way, a plan with one start is, but for its other marks, the plan of what its text holds (`strip-is`), and its rows hold none:
-- an exported text imports as the plan stripped (`export-import`). So an accepted text and its plan determine each other (`import_unique`).
-- Assumes nothing.
use mathlib.Core.Bool.{Bool, true, false, not}
use mathlib.Core.List.{List, [], ◌∷◌, ◌++◌, map, append-nil}
use mathlib.Core.Logic.{◌⊎◌, inl, inr}
use mathlib.Core.Path.{◌≡◌, refl, sym, ap, ◌∙◌}
use Prim.Native.Nat.{ℕ, zero, suc, ◌<◌, ◌≤◌}
use native.Mathlib.Nat.{eq-or-lt_of_le, le_of_suc-le-suc}
use native.Mathlib.Omega.{arith}
use borrow.Author.Tests.{leb-true, le-leb, leb-false, lt-leb, eqb-true, eqb-false}
use lib.Dec.{leb, eqb}
use lib.ListN.{length, get_or, set, replicate, length-set, length-replicate, get_or-replicate, length-append, length-map, get_or-map}
use lib.Seq.{ext_get_or, get_or-set_same, get_or-set_other}
use Rattle.graph.specs.Graph.{Graph, State, Transition, marked, states, count, start, start_bit, start_mark, marks_from, marks_of}
use Rattle.aldebaran.specs.Form.{Reading, off, on}
use Rattle.aldebaran.specs.Text.{Holding, text_of, read_text}
use Rattle.aldebaran.proofs.RoundTrips.{text-read, text-written}
use Rattle.rules.specs.Refusal.{accepted}
use Rattle.rules.specs.Limits.{all, within, state_count_ok, transition_count_ok, state_ok, transition_ok}
use Rattle.rules.specs.Image.{transition_rows}
use Rattle.rules.specs.Aldebaran.{plan_of, first_rows, holding_rows, reading_rows, text_rows, plan_read, graph_in_text, import_text, passing, starts, holding_of, export_text, stripped}
use Rattle.rules.specs.Table.{by_table, each, NoneHolds}
use Rattle.rules.proofs.Results.{never, not-false, and_true, both_true, all_set, all_replicate}
use Rattle.rules.proofs.Tables.{accepted_where, accepted_only, none-append, append-none}
use Rattle.rules.proofs.ReadWrite.{limited, within-limits, rows_ok, ok_rows}

-- ---- lines

pub each-ok : (n : ℕ) (ts : List Transition) → NoneHolds (each (transition_rows n) ts) → all (transition_ok n) ts ≡ true
unfolding all each
each-ok n [] h = refl
each-ok n (t ∷ ts) h =
    let (p, q) = none-append (transition_rows n t) (each (transition_rows n) ts) h in
    both_true (transition_ok n t) (all (transition_ok n) ts) (rows_ok n t p) (each-ok n ts q)

pub ok-each : (n : ℕ) (ts : List Transition) → all (transition_ok n) ts ≡ true → NoneHolds (each (transition_rows n) ts)
unfolding all each
ok-each n [] h = tt
ok-each n (t ∷ ts) h =
    let (p, q) = and_true (transition_ok n t) (all (transition_ok n) ts) h in
    append-none (transition_rows n t) (each (transition_rows n) ts) (ok_rows n t p) (ok-each n ts q)

-- ---- the plan of what a text holds

-- what is known where no row of a first line holds, and where none of what a text holds does
pub record Head (initial m n : ℕ) : Type 0 where
  pub least : 1 ≤ n
  pub most : n ≤ 512
  pub lines : m ≤ 2048
  pub inside : initial < n

pub head : (initial m n : ℕ) → NoneHolds (first_rows initial m n) → Head initial m n
head initial m n (s, (t, (i, u))) =
    let k = and_true (leb 1 n) (leb n 512) (not-false (state_count_ok n) s) in
    record {
      least = leb-true 1 n k.0;
      most = leb-true n 512 k.1;
      lines = leb-true m 2048 (not-false (transition_count_ok m) t);
      inside = leb-false n initial i;
    }

pub record Clear (h : Holding) : Type 0 where
  pub first : Head h.initial (length h.transitions) h.states
  pub each_line : all (transition_ok h.states) h.transitions ≡ true

pub clear : (h : Holding) → NoneHolds (holding_rows h) → Clear h
unfolding holding_rows
clear h none =
    let (f, e) = none-append (first_rows h.initial (length h.transitions) h.states) (each (transition_rows h.states) h.transitions) none in
    record { first = head h.initial (length h.transitions) h.states f; each_line = each-ok h.states h.transitions e }

pub states_of_plan : (h : Holding) → states (plan_of h) ≡ h.states
unfolding plan_of
states_of_plan h = length-set (replicate h.states (marked 0)) h.initial (marked 4) ∙ length-replicate h.states (marked 0)

pub held-within : (h : Holding) → Clear h → within (plan_of h) ≡ true
unfolding plan_of
held-within h c =
    let n = states_of_plan h in
    within-limits (plan_of h)
    (record {
      least = omega (arith, n, c.first.least);
      most = omega (arith, n, c.first.most);
      transitions = c.first.lines;
      each-state = all_set state_ok (replicate h.states (marked 0)) h.initial (marked 4) (all_replicate state_ok h.states (marked 0) refl) refl;
      each-transition = ap (λ (k : ℕ). all (transition_ok k) h.transitions) n ∙ c.each_line;
    })

-- an accepted text: what it holds, and its plan
pub record Imported (text : List ℕ) (g : Graph) : Type 0 where
  pub holding : Holding
  pub its_text : text ≡ text_of holding
  pub clear_rows : Clear holding
  pub plan : plan_of holding ≡ g

reading_imported : (text : List ℕ) (g : Graph) (r : Reading Holding) → read_text text ≡ r → by_table (reading_rows r) (plan_read r) ≡ accepted g → Imported text g
reading_imported text g off e a = absurd (never g _ a)
reading_imported text g (on h rest) e a =
    let (none, same) = accepted_only (holding_rows h) (plan_of h) g a in
    record { holding = h; its_text = text-written text h rest e; clear_rows = clear h none; plan = same }

pub imported : (text : List ℕ) (g : Graph) → import_text text ≡ accepted g → Imported text g
unfolding import_text text_rows graph_in_text
imported text g e = reading_imported text g (read_text text) refl e

pub import-within : (text : List ℕ) (g : Graph) → import_text text ≡ accepted g → within g ≡ true
import-within text g e = let i = imported text g e in ap within (sym i.plan) ∙ held-within i.holding i.clear_rows

-- ---- the numbers of which a test holds

-- a list of no length is empty
pub empty : {A : Type 0} (l : List A) → length l ≡ 0 → l ≡ []
empty [] e = refl
empty (x ∷ l) e = absurd (omega (arith, e))

module _ (test : ℕ → Bool) where
  -- it holds of no number below k; and of one of them, and of no other
  None : ℕ → Type 0
  None k = (j : ℕ) → j < k → test j ≡ false

  pub record One (k i : ℕ) : Type 0 where
    pub below : i < k
    pub this : test i ≡ true
    pub others : (j : ℕ) → j < k → (j ≡ i → ⊥) → test j ≡ false

  passing-on : (k : ℕ) → test k ≡ true → passing test (suc k) ≡ passing test k ++ (k ∷ [])
  unfolding passing
  passing-on k e = rw e refl

  passing-off : (k : ℕ) → test k ≡ false → passing test (suc k) ≡ passing test k
  unfolding passing
  passing-off k e = rw e (append-nil (passing test k))

  -- up to the next state
  up_to : (k : ℕ) → None k → test k ≡ false → None (suc k)
  unfolding None
  up_to k h e j l = go (eq-or-lt_of_le (le_of_suc-le-suc l))
    where
      go : (j ≡ k) ⊎ (j < k) → test j ≡ false
      go (inl p) = ap test p ∙ e
      go (inr p) = h j p

  none_listed : (k : ℕ) → None k → passing test k ≡ []
  unfolding None passing
  none_listed zero h = refl
  none_listed (suc k) h = passing-off k (h k (omega arith)) ∙ none_listed k (λ j l. h j (omega (arith, l)))

  listed_none : (k : ℕ) → length (passing test k) ≡ 0 → None k
  unfolding None
  listed_none zero e = λ j l. absurd (omega (arith, l))
  listed_none (suc k) e = go (λ p. listed_none k p) (test k) refl
    where
      go : (length (passing test k) ≡ 0 → None k) → (b : Bool) → test k ≡ b → None (suc k)
      go ih true s = absurd (omega (arith, e, ap length (passing-on k s) ∙ length-append (passing test k) (k ∷ [])))
      go ih false s = up_to k (ih (sym (ap length (passing-off k s)) ∙ e)) s

  pub listed_one : (k : ℕ) → length (passing test k) ≡ 1 → One k (get_or (passing test k) 0 0)
  unfolding None passing
  listed_one zero e = absurd (omega (arith, e))
  listed_one (suc k) e = go (λ p. listed_one k p) (test k) refl
    where
      go : (length (passing test k) ≡ 1 → One k (get_or (passing test k) 0 0)) → (b : Bool) → test k ≡ b → One (suc k) (get_or (passing test (suc k)) 0 0)
      go ih true s =
          let none : length (passing test k) ≡ 0 = omega (arith, e, ap length (passing-on k s) ∙ length-append (passing test k) (k ∷ [])) in
          let only : passing test (suc k) ≡ k ∷ [] = passing-on k s ∙ ap (λ (l : List ℕ). l ++ (k ∷ [])) (empty (passing test k) none) in
          rw only (record { below = omega arith; this = s; others = λ j l d. listed_none k none j (omega (arith, l, d)) })
      go ih false s =
          let same = passing-off k s in
          let one = ih (sym (ap length same) ∙ e) in
          rw same (record {
            below = omega (arith, one.below);
            this = one.this;
            others = λ j l d. last j (eq-or-lt_of_le (le_of_suc-le-suc l)) (one.others j) d s;
          })
        where
          last : (j : ℕ) → (j ≡ k) ⊎ (j < k) → (j < k → (j ≡ get_or (passing test k) 0 0 → ⊥) → test j ≡ false) → (j ≡ get_or (passing test k) 0 0 → ⊥) → test k ≡ false → test j ≡ false
          last j (inl p) f d q = ap test p ∙ q
          last j (inr p) f d q = f p d

  pub one_listed : (k i : ℕ) → One k i → passing test k ≡ i ∷ []
  unfolding None
  one_listed zero i o = absurd (omega (arith, o.below))
  one_listed (suc k) i o = go (λ p. one_listed k i p) (eq-or-lt_of_le (le_of_suc-le-suc o.below))
    where
      go : (One k i → passing test k ≡ i ∷ []) → (i ≡ k) ⊎ (i < k) → passing test (suc k) ≡ i ∷ []
      go ih (inl p) =
          passing-on k (ap test (sym p) ∙ o.this)
          ∙ ap (λ (l : List ℕ). l ++ (k ∷ [])) (none_listed k (λ j l. o.others j (omega (arith, l)) (λ q. omega (arith, l, p, q)))) ∙ ap (λ (x : ℕ). x ∷ []) (sym p)
      go ih (inr p) =
          passing-off k (o.others k (omega arith) (λ q. omega (arith, p, q)))
          ∙ ih (record { below = p; this = o.this; others = λ j l d. o.others j (omega (arith, l)) d })

-- ---- an imported text exports as those octets

-- the marks of the plan of what a text holds
module _ (h : Holding) (inside : h.initial < h.states) where
  marks-there : marks_of (plan_of h) h.initial ≡ 4
  unfolding plan_of marks_of
  marks-there =
      ap (λ (s : State). s.marks) (get_or-set_same (replicate h.states (marked 0)) h.initial (marked 4) (marked 0) (rw (length-replicate h.states (marked 0)) inside))

  marks_else : (j : ℕ) → j < h.states → (j ≡ h.initial → ⊥) → marks_of (plan_of h) j ≡ 0
  unfolding plan_of marks_of
  marks_else j l d =
      ap (λ (s : State). s.marks) (get_or-set_other (replicate h.states (marked 0)) h.initial j (marked 4) (marked 0) d
      ∙ get_or-replicate h.states j (marked 0) (marked 0) l)

  pub one-start : One (start (plan_of h)) (states (plan_of h)) h.initial
  unfolding start
  one-start =
      let n = states_of_plan h in
      record {
        below = omega (arith, n, inside);
        this = ap start_mark marks-there;
        others = λ j l d. ap start_mark (marks_else j (omega (arith, n, l)) d);
      }

  pub holding-back : holding_of (plan_of h) ≡ h
  unfolding plan_of
  holding-back =
      let one : starts (plan_of h) ≡ h.initial ∷ [] = one_listed (start (plan_of h)) (states (plan_of h)) h.initial one-start in
      λ i. record { initial = ap (λ (l : List ℕ). get_or l 0 0) one i; states = states_of_plan h i; transitions = h.transitions }

module _ (text : List ℕ) (g : Graph) (e : import_text text ≡ accepted g) where
  pub import-export : export_text g ≡ text
  unfolding export_text
  import-export =
      let i = imported text g e in
      ap (λ (x : Graph). text_of (holding_of x)) (sym i.plan) ∙ ap text_of (holding-back i.holding i.clear_rows.first.inside)
      ∙ sym i.its_text

  pub import-start : length (starts g) ≡ 1
  import-start =
      let i = imported text g e in
      let h = i.holding in
      ap (λ (x : Graph). length (starts x)) (sym i.plan)
      ∙ ap length (one_listed (start (plan_of h)) (states (plan_of h)) h.initial (one-start h i.clear_rows.first.inside))

-- so no two texts are accepted as one plan
pub import_unique : (text other : List ℕ) (g : Graph) → import_text text ≡ accepted g → import_text other ≡ accepted g → text ≡ other
import_unique text other g e f = sym (import-export text g e) ∙ import-export other g f

-- ---- an exported text imports as the plan stripped

module _ (g : Graph) (w : within g ≡ true) (s : length (starts g) ≡ 1) where
  held : Holding
  held = holding_of g

  only : One (start g) (states g) held.initial
  unfolding held
  only = listed_one (start g) (states g) s

  rows_clear : NoneHolds (holding_rows held)
  unfolding held holding_rows
  rows_clear =
      let l = limited g w in (
        ap not (both_true (leb 1 (states g)) (leb (states g) 512) (le-leb 1 (states g) l.least) (le-leb (states g) 512 l.most)),
        (
          ap not (le-leb (count g) 2048 l.transitions),
          (lt-leb (states g) held.initial only.below, ok-each (states g) g.transitions l.each-transition),
        ),
      )

  -- a start mark, or none
  bit-on : (v : ℕ) → start_mark v ≡ true → marks_from (start_bit v) 0 0 ≡ 4
  bit-on v e = rw (eqb-true (start_bit v) 1 e) refl

  bit-off : (v : ℕ) → start_mark v ≡ false → marks_from (start_bit v) 0 0 ≡ 0
  bit-off v e = let b : start_bit v ≡ 0 = omega (arith, eqb-false (start_bit v) 1 e) in rw b refl

  strip : State → State
  strip x = marked (marks_from (start_bit x.marks) 0 0)

  -- state by state
  stripped-at : (j : ℕ) → j < states g → (b : Bool) → eqb j held.initial ≡ b
      → get_or (set (replicate (states g) (marked 0)) held.initial (marked 4)) j (marked 0) ≡ strip (get_or g.state_list j (marked 0))
  unfolding start marks_of strip
  stripped-at j l true q =
      rw (eqb-true j held.initial q) (get_or-set_same (replicate (states g) (marked 0)) held.initial (marked 4) (marked 0) (rw (length-replicate (states g) (marked 0)) only.below)
      ∙ ap marked (sym (bit-on (get_or g.state_list held.initial (marked 0)).marks only.this)))
  stripped-at j l false q =
      let d = eqb-false j held.initial q in
      get_or-set_other (replicate (states g) (marked 0)) held.initial j (marked 4) (marked 0) d ∙ get_or-replicate (states g) j (marked 0) (marked 0) l
      ∙ ap marked (sym (bit-off (get_or g.state_list j (marked 0)).marks (only.others j l d)))

  strip-is : plan_of held ≡ stripped g
  unfolding plan_of held strip
  strip-is =
      let sides : set (replicate (states g) (marked 0)) held.initial (marked 4) ≡ map strip g.state_list =
      ext_get_or (marked 0) (set (replicate (states g) (marked 0)) held.initial (marked 4)) (map strip g.state_list)
      (states_of_plan held ∙ sym (length-map g.state_list strip))
      (λ j l. let l' : j < states g = omega (arith, l, states_of_plan held) in
      stripped-at j l' (eqb j held.initial) refl ∙ sym (get_or-map strip g.state_list j (marked 0))) in
      λ i. record { state_list = sides i; transitions = g.transitions }

  pub export-import : import_text (export_text g) ≡ accepted (stripped g)
  unfolding import_text text_rows graph_in_text export_text held
  export-import = rw (text-read held) (accepted_where (holding_rows held) (plan_of held) rows_clear ∙ ap accepted strip-is)
