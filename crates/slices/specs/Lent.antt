-- A plan in three lent slices: the two counts; the states, 512 marks values and 512 teams; and the transitions' fields. Document 01, "Choosing the form by
-- place": the plan value that they hold, and the slices with one stored. Assumes nothing.
use Rattle.std.specs.Prelude.{Bool, ◌&&◌, List, [], ◌∷◌, ◌++◌, ◌≡◌, ℕ, ◌≤◌, leb, length, get_or, take, drop}
use Rattle.rules.specs.Answer.{Accepted, Answer}
use Rattle.std.specs.Prelude.{Ok, Err}
use Rattle.rules.specs.Refusal.{number}
use Rattle.arrays.specs.Tables.{over}
use Rattle.arrays.specs.declared.Plan.{Plan}

-- the three slices have the places of a plan
abbrev pub roomy : ℕ → ℕ → ℕ → Bool
roomy counts states fields = leb 2 counts && (leb 1024 states && leb 8192 fields)

-- the same, of the slices' contents; `places` are those of the states
pub record Roomy (counts places fields : List ℕ) : Type 0 where
  pub two : 2 ≤ length counts
  pub states : 1024 ≤ length places
  pub transitions : 8192 ≤ length fields

-- the plan value that three slices hold
abbrev pub lent_plan : List ℕ → List ℕ → List ℕ → Plan
lent_plan counts states fields =
    record {
      states = get_or counts 0 0;
      transitions = get_or counts 1 0;
      marks = take 512 (drop 0 states);
      teams = take 512 (drop 512 states);
      from = take 2048 (drop 0 fields);
      to = take 2048 (drop 2048 fields);
      low = take 2048 (drop 4096 fields);
      high = take 2048 (drop 6144 fields);
    }

-- three lent slices, as they stand before a call or after it
pub record Slices : Type 0 where
  pub counts : List ℕ
  pub states : List ℕ
  pub fields : List ℕ

-- the slices by what they hold
abbrev pub slices : List ℕ → List ℕ → List ℕ → Slices
slices counts states fields = record { counts = counts; states = states; fields = fields }

-- they have the places of a plan, and the plan value that they hold
abbrev pub has_room : Slices → Bool
has_room s = roomy (length s.counts) (length s.states) (length s.fields)

abbrev pub plan_in : Slices → Plan
plan_in s = lent_plan s.counts s.states s.fields

-- the slices with a plan value stored in a plan's places, and every later place as it was
unfoldable pub storing : Plan → Slices → Slices
storing p s =
    record {
      counts = over (p.states ∷ p.transitions ∷ []) s.counts;
      states = over (p.marks ++ p.teams) s.states;
      fields = over (p.from ++ p.to ++ p.low ++ p.high) s.fields;
    }

-- what is left in the slices by an answer with a plan value: an accepted one stores it, and a refusal leaves every place
abbrev pub Finished : Answer → Plan → Slices → Slices → ℕ → Type 0
Finished (Ok _) p before after r = (r ≡ 256) × (after ≡ storing p before) × (plan_in after ≡ p)
Finished (Err k) p before after r = (r ≡ number k) × (after ≡ before)

-- a plan value within a plan's counts that has, past its own, what stands there in the slices
pub record SameLater (p : Plan) (s : Slices) : Type 0 where
  pub states : p.states ≤ 512
  pub transitions : p.transitions ≤ 2048
  pub marks : drop p.states p.marks ≡ drop p.states (plan_in s).marks
  pub teams : drop p.states p.teams ≡ drop p.states (plan_in s).teams
  pub from : drop p.transitions p.from ≡ drop p.transitions (plan_in s).from
  pub to : drop p.transitions p.to ≡ drop p.transitions (plan_in s).to
  pub low : drop p.transitions p.low ≡ drop p.transitions (plan_in s).low
  pub high : drop p.transitions p.high ≡ drop p.transitions (plan_in s).high

-- an accepted call's plan value is one, so that its places up to its counts are all that has to be stored
abbrev pub Updates : Answer → Plan → Slices → Type 0
Updates a p s = a ≡ Accepted → SameLater p s
