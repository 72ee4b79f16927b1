-- What the arguments of a call can hold, on a machine of 64 bits. A calculator is asked to answer these, and no others: no machine is handed a number of any size or a list of any
-- length. Assumes nothing.
use Rattle.std.specs.Prelude.{List, [], ◌∷◌, ◌≡◌, ℕ, ◌*◌, ◌<◌, ◌^◌, length, get_or}
use Rattle.graph.specs.declared.Asked.{Asked}
use Rattle.graph.specs.declared.Asked.TheVariants.{One, LeastCountFor, GreatestCountFor}
use Rattle.rules.specs.Calls.{Call, mark, team, join, unjoin, read, import}
use Rattle.arrays.specs.declared.Plan.{Plan}

-- a number of so many octets, and a list of such numbers
abbrev pub Number : ℕ → ℕ → Type 0
Number octets x = x < 256 ^ octets

abbrev pub Numbers : ℕ → List ℕ → Type 0
Numbers octets xs = (i : ℕ) → i < length xs → Number octets (get_or xs i 0)

-- lent places, of fewer than 2^63 octets
pub record Slice (octets : ℕ) (xs : List ℕ) : Type 0 where
  pub numbers : Numbers octets xs
  pub long : octets * length xs < 2 ^ 63

-- so many places of a plan value
pub record Array (octets places : ℕ) (xs : List ℕ) : Type 0 where
  pub numbers : Numbers octets xs
  pub long : length xs ≡ places

-- a plan value, "as one built by hand may" be: any counts and places
pub record Value (p : Plan) : Type 0 where
  pub states : Number 8 p.states
  pub transitions : Number 8 p.transitions
  pub marks : Array 1 512 p.marks
  pub teams : Array 1 512 p.teams
  pub from : Array 2 2048 p.from
  pub to : Array 2 2048 p.to
  pub low : Array 2 2048 p.low
  pub high : Array 2 2048 p.high

-- what a call is given beside its plan, what each call of a list is, and the team that a quotation may name
abbrev pub Passable : Call → Type 0
Passable (mark state value) = Number 8 state × Number 8 value
Passable (team state number) = Number 8 state × Number 8 number
Passable (join t) = Number 8 t.from × Number 8 t.to × Number 8 t.low × Number 8 t.high
Passable (unjoin number) = Number 8 number
Passable (read octets) = Slice 1 octets
Passable (import text) = Slice 1 text

abbrev pub AllPassable : List Call → Type 0
AllPassable [] = Unit {0}
AllPassable (call ∷ calls) = Passable call × AllPassable calls

abbrev pub Nameable : Asked → Type 0
Nameable (One which) = Unit {0}
Nameable (LeastCountFor number) = Number 8 number
Nameable (GreatestCountFor number) = Number 8 number
