-- Text in octets: plain words, decimal numerals and lists of numbers. Document 01, "Plans with known figures": "the figure's name, its number
-- or kind, a colon, the transitions each after a space"; "Figures are decimal". Assumes nothing.
use Prim.Native.Char.{code}
use Rattle.std.specs.Prelude.{ℕ, zero, suc, ◌+◌, ◌-◌, ◌*◌, ◌/◌, ◌%◌, ◌≤◌, List, [], ◌∷◌, ◌++◌}
use Prim.Native.String.{String, [] as none, ◌∷◌ as ◌then◌}

-- the octets of a word: the code of each of its characters, all of them plain ones (below 128)
unfoldable pub octets : String → List ℕ
octets none = []
octets (c then s) = code c ∷ octets s

-- the octet of a digit: 48 is "0", 57 is "9"
abbrev pub digit : ℕ → ℕ
digit d = 48 + d

-- the digits of q that stand before another digit, most significant first: those of q / 10 and then q % 10, and none for 0, so that no zero
-- leads; as many as `bound` allows
unfoldable pub leading : ℕ → ℕ → List ℕ
leading zero q = []
leading (suc bound) zero = []
leading (suc bound) (suc q) = leading bound (suc q / 10) ++ (digit (suc q % 10) ∷ [])

-- the decimal numeral of x: the digits of x / 10, of which there are at most x, and then the digit x % 10
unfoldable pub digits : ℕ → List ℕ
digits x = leading x (x / 10) ++ (digit (x % 10) ∷ [])

-- every octet of a list is a digit
unfoldable pub AllDigits : List ℕ → Type 0
AllDigits [] = Unit {0}
AllDigits (d ∷ ds) = (48 ≤ d) × (d ≤ 57) × AllDigits ds

-- the number that a numeral stands for, after digits that stand for v: each digit adds to ten times what stands before it
unfoldable pub value_after : ℕ → List ℕ → ℕ
value_after v [] = v
value_after v (d ∷ ds) = value_after (10 * v + (d - 48)) ds

unfoldable pub value : List ℕ → ℕ
value ds = value_after 0 ds

-- "each after a space": 32 and the numeral, number after number
unfoldable pub spaced : ℕ → List ℕ
spaced x = 32 ∷ digits x

unfoldable pub listed : List ℕ → List ℕ
listed [] = []
listed (x ∷ xs) = spaced x ++ listed xs
