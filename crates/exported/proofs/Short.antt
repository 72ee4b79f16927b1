-- How long a plan's text can be. A plan within the limits has state numbers of at most three digits, and durations and a transition count of at most four, so a
-- line has at most 25 octets and the first line 21. Assumes nothing.
use Prim.Native.Nat.{ℕ, zero, suc, ◌*◌, ◌≤◌, ◌<◌}
use mathlib.Core.Bool.{Bool, true, false, cond}
use mathlib.Core.List.{List, [], ◌∷◌, ◌++◌}
use mathlib.Core.Path.{◌≡◌}
use native.Mathlib.Omega.{arith}
use lib.ListN.{length, get_or, length-append}
use Rattle.graph.specs.Graph.{Graph, Transition, states, count, start}
use Rattle.rules.specs.Aldebaran.{passing, starts, export_text}
use Rattle.rules.specs.Limits.{all, within, transition_ok}
use Rattle.rules.proofs.ReadWrite.{bounded, limited}
use Rattle.rules.proofs.Results.{and_true}
use Rattle.aldebaran.specs.Text.{line_text, lines_text, text_of}
use Rattle.text.specs.Text.{digits}
use Rattle.text.proofs.Numerals.{digits-length}
use Rattle.text_length.specs.Parts.{first_text}
use Rattle.text_length.proofs.Sums.{first-sum, line-sum}

few : (x : ℕ) → x < 10000 → length (digits x) ≤ 4
few x h = digits-length 4 x (omega arith) h

fewer : (x : ℕ) → x < 1000 → length (digits x) ≤ 3
fewer x h = digits-length 3 x (omega arith) h

line-short : (n : ℕ) (t : Transition) → n ≤ 512 → transition_ok n t ≡ true → length (line_text t) ≤ 25
line-short n t h e =
    let b = bounded n t e in
    omega (arith, line-sum t, fewer t.from (omega (arith, b)), fewer t.to (omega (arith, b)), few t.low (omega (arith, b)), few t.high (omega (arith, b)))

lines-short : (n : ℕ) (ts : List Transition) → n ≤ 512 → all (transition_ok n) ts ≡ true → length (lines_text ts) ≤ 25 * length ts
unfolding lines_text all
lines-short n [] h e = omega arith
lines-short n (t ∷ ts) h e =
    let (p, q) = and_true (transition_ok n t) (all (transition_ok n) ts) e in
    omega (arith, length-append (line_text t) (lines_text ts), line-short n t h p, lines-short n ts h q)

-- the first start of a plan is one of its states, or 0
front_below : (xs : List ℕ) (k : ℕ) (b : Bool) → get_or xs 0 0 ≤ k → get_or (xs ++ cond b (k ∷ []) []) 0 0 ≤ suc k
front_below [] k true h = omega arith
front_below [] k false h = omega arith
front_below (x ∷ xs) k b h = omega arith

first_below : (test : ℕ → Bool) (k : ℕ) → get_or (passing test k) 0 0 ≤ k
unfolding passing
first_below test zero = omega arith
first_below test (suc k) = front_below (passing test k) k (test k) (first_below test k)

pub text-short : (g : Graph) → within g ≡ true → length (export_text g) ≤ 51221
unfolding export_text text_of
text-short g w =
    let l = limited g w in
    let i = get_or (starts g) 0 0 in
    omega (
      arith,
      length-append (first_text i (count g) (states g)) (lines_text g.transitions),
      first-sum i (count g) (states g),
      fewer i (omega (arith, l, first_below (start g) (states g))),
      few (count g) (omega (arith, l)),
      fewer (states g) (omega (arith, l)),
      lines-short (states g) g.transitions l.most l.each-transition,
      l.transitions,
    )
