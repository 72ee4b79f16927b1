-- A list of calls in lent slices: for each call a kind and four arguments, and for a read or an import the start and the end of its octets in one lent slice.
-- Assumes nothing.
use Rattle.std.specs.Prelude.{Bool, true, cond, ◌&&◌, List, ℕ, zero, suc, ◌+◌, ◌-◌, ◌*◌, ◌/◌, leb, ltb, eqb, length, get_or, take, drop}
use Rattle.arrays.specs.Tables.{transition}
use Rattle.rules.specs.Image.{tabulate}
use Rattle.rules.specs.Calls.{Call, mark, team, join, unjoin, read, import}
use Rattle.rules.specs.Limits.{all}

-- a kind and four arguments
pub record Item : Type 0 where
  pub kind : ℕ
  pub a : ℕ
  pub b : ℕ
  pub c : ℕ
  pub d : ℕ

-- the item numbered i
abbrev pub item_at : List ℕ → List ℕ → ℕ → Item
item_at kinds arguments i = record {
  kind = get_or kinds i 0;
  a = get_or arguments (4 * i) 0;
  b = get_or arguments (4 * i + 1) 0;
  c = get_or arguments (4 * i + 2) 0;
  d = get_or arguments (4 * i + 3) 0;
}

-- the call that an item stands for: 0 mark (state, value), 1 join (from, to, low, high), 2 unjoin (number), 3 read (start, end), 4 import (start, end),
-- 5 team (state, team)
abbrev pub call_of : List ℕ → ℕ → ℕ → ℕ → ℕ → ℕ → Call
call_of octets zero a b c d = mark a b
call_of octets (suc zero) a b c d = join (transition a b c d)
call_of octets (suc (suc zero)) a b c d = unjoin a
call_of octets (suc (suc (suc zero))) a b c d = read (take (b - a) (drop a octets))
call_of octets (suc (suc (suc (suc zero)))) a b c d = import (take (b - a) (drop a octets))
call_of octets (suc (suc (suc (suc (suc k))))) a b c d = team a b

abbrev pub call_in : List ℕ → Item → Call
call_in octets t = call_of octets t.kind t.a t.b t.c t.d

-- a kind with its first two arguments is a call's: the kind is known, and the part of a read or an import, 3 or 4, lies within so many octets
abbrev pub is_one : ℕ → ℕ → ℕ → ℕ → Bool
is_one long kind a b = cond (ltb kind 3) true (cond (ltb kind 5) (leb a b && leb b long) (eqb kind 5))

abbrev pub is_call : ℕ → Item → Bool
is_call long t = is_one long t.kind t.a t.b

-- the calls that the slices stand for, one for each kind
unfoldable pub calls_in : List ℕ → List ℕ → List ℕ → List Call
calls_in kinds arguments octets = tabulate (length kinds) (λ i. call_in octets (item_at kinds arguments i))

-- they are a list of calls: there are four arguments for each kind, and every item is a call
unfoldable pub are_calls : List ℕ → List ℕ → List ℕ → Bool
are_calls kinds arguments octets =
    leb (length kinds) (length arguments / 4) && all (is_call (length octets)) (tabulate (length kinds) (item_at kinds arguments))
