-- Facts on short arguments, straight from the definition: what a wrong one breaks first. Assumes nothing.
use mathlib.Core.List.{[]}
use mathlib.Core.Path.{◌≡◌, refl}
use Rattle.text.specs.Text.{octets, value_after, value}
use Rattle.aldebaran.specs.Form.{and_then, read_word, is_digit, front}
use Rattle.std.proofs.Common.{Some, None}
use Rattle.arguments.specs.Arguments.{read_decimal, read_argument, three_in, arguments_in}

-- three numbers; leading zeros; the greatest seed, and the counts beyond a word
given : (arguments_in (octets "1\n16\n32\n") ≡ Some (record { seed = 1; states = 16; transitions = 32 })) × (arguments_in (octets "007\n00\n0\n") ≡ Some (record { seed = 7; states = 0; transitions = 0 }))
    × (arguments_in (octets "4294967295\n99999999999999999999\n123456789012345678901234567890\n") ≡ Some (record { seed = 4294967295; states = 10000000000000000000; transitions = 10000000000000000000 }))
unfolding octets value_after value and_then read_word is_digit front read_decimal read_argument three_in arguments_in
given = (refl, refl, refl)

-- no digit, another octet, a sign, a line feed that is missing, two numbers, four, a seed above the greatest
misused : (arguments_in (octets "1\n\n3\n") ≡ None) × (arguments_in (octets "1\n2x\n3\n") ≡ None) × (arguments_in (octets "1\n-2\n3\n") ≡ None)
    × (arguments_in (octets "1\n2\n3") ≡ None) × (arguments_in (octets "1\n2\n") ≡ None) × (arguments_in (octets "1\n2\n3\n4\n") ≡ None)
    × (arguments_in (octets "4294967296\n2\n3\n") ≡ None) × (arguments_in [] ≡ None)
unfolding octets value_after value and_then read_word is_digit front read_decimal read_argument three_in arguments_in
misused = (refl, refl, refl, refl, refl, refl, refl, refl)
