-- Which end was wrong, document 02, E3: by which number a wrong transition is refused, in join, read and import alike. The request's words stand above the field that
-- carries them. Assumes nothing.
use Rattle.std.specs.Prelude.{true, false, List, ◌∷◌, ◌++◌, ◌≡◌, ℕ, ◌≤◌, ◌<◌, length}
use Rattle.aldebaran.specs.Form.{on}
use Rattle.aldebaran.specs.Text.{Holding, read_text}
use Rattle.graph.specs.Graph.{Transition, states}
use Rattle.std.specs.Prelude.{Err}
use Rattle.rules.specs.declared.Refusal.{Refusal}
use Rattle.rules.specs.declared.Refusal.TheVariants.{StateNumber, FromState, ToState, Duration}
use Rattle.rules.specs.Aldebaran.{first_rows}
use Rattle.rules.specs.Calls.{mark, join, read, import}
use Rattle.rules.specs.Image.{header_rows, state_rows, transition_rows, state_count_of, transition_count_of, transition_at, transition_place}
use Rattle.rules.specs.Limits.{within, state_count_ok, transition_count_ok, durations_ok}
use Rattle.rules.specs.Table.{NoneHolds, by_number, each}
use Rattle.plan.specs.declared.Edited.{Edited}
use Rattle.arrays.specs.declared.Plan.{Plan}
use Rattle.plan.specs.View.{view}
use Rattle.demands.specs.Calculator.{Calculator}

-- what is wrong with a transition of a plan with n states, and by which number it is refused
pub data Wrong (n : ℕ) (t : Transition) : Refusal → Type 0 where
  -- "a bad from returns 16,
  bad_from : n ≤ t.from → Wrong n t FromState
  -- then a bad to 17,
  bad-to : t.from < n → n ≤ t.to → Wrong n t ToState
  -- both before 8;"
  bad-durations : t.from < n → t.to < n → durations_ok t ≡ false → Wrong n t Duration

-- transition i of an image
abbrev pub transition_in : List ℕ → ℕ → Transition
transition_in octets i = transition_at octets (transition_place (state_count_of octets) i)

-- nothing is wrong with an image before its transition i
pub record RightTo (octets : List ℕ) (i : ℕ) : Type 0 where
  pub header : NoneHolds (header_rows octets)
  pub states : NoneHolds (by_number (state_rows octets) 0 (state_count_of octets))
  pub before : NoneHolds (by_number (λ k. transition_rows (state_count_of octets) (transition_in octets k)) 0 i)
  pub listed : i < transition_count_of octets

-- a text is on form, and nothing is wrong with it before the line of the transition t
pub record RightToLine (text : List ℕ) (h : Holding) (t : Transition) : Type 0 where
  pub rest : List ℕ
  pub on_form : read_text text ≡ on h rest
  pub first-line : NoneHolds (first_rows h.initial (length h.transitions) h.states)
  pub earlier : List Transition
  pub later : List Transition
  pub line : h.transitions ≡ earlier ++ (t ∷ later)
  pub before : NoneHolds (each (transition_rows h.states) earlier)

pub record WhichEnd (c : Calculator) : Type 0 where
  -- "In join,
  pub in_join : {p : Plan} {t : Transition} {r : Refusal} {e : Edited} → within (view p) ≡ true → Wrong (states (view p)) t r → c.edits p (join t) e
      → e.answer ≡ Err r
  -- read
  pub in_read : {p : Plan} {octets : List ℕ} {r : Refusal} {e : Edited} (i : ℕ) → within (view p) ≡ true → RightTo octets i
      → Wrong (state_count_of octets) (transition_in octets i) r → c.edits p (read octets) e → e.answer ≡ Err r
  -- and import a bad from returns 16, then a bad to 17, both before 8;
  pub in_import : {p : Plan} {text : List ℕ} {r : Refusal} {e : Edited} (h : Holding) (t : Transition) → within (view p) ≡ true → RightToLine text h t
      → Wrong h.states t r → c.edits p (import text) e → e.answer ≡ Err r
  -- number 7 remains for mark
  pub in_mark : {p : Plan} {e : Edited} (state value : ℕ) → within (view p) ≡ true → states (view p) ≤ state → c.edits p (mark state value) e
      → e.answer ≡ Err StateNumber
  -- and for an import's initial state."
  pub initial-state : {p : Plan} {text rest : List ℕ} {e : Edited} (h : Holding) → within (view p) ≡ true → read_text text ≡ on h rest
      → state_count_ok h.states ≡ true → transition_count_ok (length h.transitions) ≡ true → h.states ≤ h.initial → c.edits p (import text) e
      → e.answer ≡ Err StateNumber
  -- it remains there alone: no join and no read answers 7, nor an import whose initial state is right
  pub join_not_7 : {p : Plan} {t : Transition} {e : Edited} → c.edits p (join t) e → e.answer ≡ Err StateNumber → ⊥
  pub read_not_7 : {p : Plan} {octets : List ℕ} {e : Edited} → c.edits p (read octets) e → e.answer ≡ Err StateNumber → ⊥
  pub import_only_7 : {p : Plan} {text : List ℕ} {e : Edited} → c.edits p (import text) e → e.answer ≡ Err StateNumber
      → (h : Holding) × (rest : List ℕ) × (read_text text ≡ on h rest) × (h.states ≤ h.initial)
