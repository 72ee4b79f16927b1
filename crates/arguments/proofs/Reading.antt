-- What is read from a place is what the definition reads there. A number stands where there is a digit, and is its digits (`decimal_there`, `decimal_not_there`). Where three arguments were read
-- from the front of the octets, what is behind them is looked at, and the seed (`more_behind`, `great_seed`, `all_there`). Assumes nothing.
use Prim.Native.Nat.{ℕ, ◌≤◌, ◌<◌}
use mathlib.Core.Bool.{Bool, true, false, cond}
use mathlib.Core.List.{List, [], ◌∷◌}
use mathlib.Core.Path.{◌≡◌, refl, sym, ap, ◌∙◌}
use native.Mathlib.Omega.{arith}
use borrow.Author.Tests.{le-leb, lt-leb}
use lib.Dec.{leb}
use lib.ListN.{length, drop, length-drop}
use lib.Seq.{drop-drop}
use Rattle.text.specs.Text.{value}
use Rattle.aldebaran.specs.Form.{off, on, front}
use Rattle.scan.specs.declared.Taken.{Taken}
use Rattle.scan.specs.Places.{cut, DigitsAt, Tells}
use Rattle.scan.proofs.Cuts.{leb_cut, cut-is}
use Rattle.std.proofs.Common.{Some, None}
use Rattle.arguments.specs.declared.Arguments.{Arguments}
use Rattle.arguments.specs.Arguments.{read_decimal, Three, three_in, given, as_given, arguments_in, decimal_then}

-- ---- a number

module _ (text : List ℕ) (at : ℕ) where
  pub decimal_not_there : length (front (drop at text)) < 1 → decimal_then text at ≡ off
  unfolding read_decimal
  decimal_not_there n = rw (lt-leb 1 (length (front (drop at text))) n) refl

  pub decimal_there : (r : Taken) → 1 ≤ length (front (drop at text)) → DigitsAt text at r → Tells text (decimal_then text at) r
  unfolding read_decimal
  decimal_there r n d = record {
    inside = d.inside;
    number = value (front (drop at text));
    told = rw (le-leb 1 (length (front (drop at text))) n) (ap (on (value (front (drop at text)))) rest);
    value_is = d.number;
  }
    where
      rest : drop (length (front (drop at text))) (drop at text) ≡ drop r.next text
      rest = drop-drop (length (front (drop at text))) at text ∙ ap (λ (k : ℕ). drop k text) (sym d.end)

-- ---- the three of them

module _ (text : List ℕ) (t : Three) (k : ℕ) (e : three_in text ≡ on t (drop k text)) where
  -- more behind them
  pub more_behind : k < length text → arguments_in text ≡ None
  unfolding arguments_in
  more_behind h = ap as_given e ∙ go (drop k text) (omega (arith, length-drop k text))
    where
      go : (rest : List ℕ) → 0 < length rest → as_given (on t rest) ≡ None
      go [] l = absurd (omega arith)
      go (x ∷ rest) l = refl

  -- all of them
  all_given : length text ≤ k → arguments_in text ≡ given t
  unfolding arguments_in
  all_given h = ap as_given e ∙ go (drop k text) (omega (arith, length-drop k text))
    where
      go : (rest : List ℕ) → length rest ≡ 0 → as_given (on t rest) ≡ given t
      go [] l = refl
      go (x ∷ rest) l = absurd (omega arith)

  -- and the seed is too great, or it has 32 bits
  module _ (h : length text ≤ k) (s : ℕ) (cs : s ≡ cut t.seed) where
    pub great_seed : 4294967295 < s → arguments_in text ≡ None
    great_seed g =
        let l : leb t.seed 4294967295 ≡ false = sym (leb_cut t.seed 4294967295 (omega arith)) ∙ lt-leb (cut t.seed) 4294967295 (omega (arith, g, cs)) in
        all_given h ∙ rw l refl

    pub all_there : (n m : ℕ) → n ≡ cut t.states → m ≡ cut t.transitions → s ≤ 4294967295 → arguments_in text ≡ Some (record { seed = s; states = n; transitions = m })
    all_there n m cn cm g =
        let i : cut t.seed ≡ t.seed = cut-is t.seed (omega (arith, g, cs)) in
        let l : leb t.seed 4294967295 ≡ true = le-leb t.seed 4294967295 (omega (arith, g, cs, i)) in
        let seed-is : t.seed ≡ s = sym (cs ∙ i) in
        let read : Arguments = record { seed = t.seed; states = cut t.states; transitions = cut t.transitions } in
        let all : read ≡ record { seed = s; states = n; transitions = m } = λ j. record { seed = seed-is j; states = sym cn j; transitions = sym cm j } in
        all_given h ∙ ap (λ (b : Bool). cond b (Some read) None) l ∙ ap Some all
