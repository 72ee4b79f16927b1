-- The plan that counts and arrays hold, on export. Its starts are those that were counted; and where there is one, the plan's text is that of the one start,
-- the counts and the transitions. A put of the text at the front leaves the text, and every later octet. Assumes nothing.
use Prim.Native.Nat.{ℕ, ◌+◌}
use mathlib.Core.List.{List, ◌++◌}
use mathlib.Core.Path.{◌≡◌, refl, sym, ap, ◌∙◌}
use native.Mathlib.Omega.{arith}
use lib.ListN.{length, drop}
use Rattle.graph.specs.Graph.{Graph}
use Rattle.rules.specs.Aldebaran.{starts, export_text}
use Rattle.aldebaran.specs.Text.{text_of}
use Rattle.arrays.specs.Tables.{graph_of, transitions_of}
use Rattle.arrays.proofs.Lists.{states_of_lem}
use Rattle.text.specs.Put.{Put}
use Rattle.starts.specs.Found.{starts_in, Found}
use Rattle.starts.proofs.Turns.{starts_of}
use Rattle.text_length.specs.Parts.{holding}

module _ (n m : ℕ) (marks teams from to low high : List ℕ) where
  abbrev g : Graph
  g = graph_of n m marks teams from to low high

  starts-here : starts g ≡ starts_in marks n
  starts-here = starts_of n m marks teams from to low high

  module _ (count last : ℕ) (f : Found (starts_in marks n) n count last) where
    pub counted : length (starts g) ≡ count
    counted = ap length starts-here ∙ sym f.counted

    pub text-here : count ≡ 1 → export_text g ≡ text_of (holding last n (transitions_of m from to low high))
    unfolding export_text
    text-here e = rw (starts-here, f.only e, states_of_lem n m marks teams from to low high) refl

pub put_front : {b xs c : List ℕ} {r : ℕ} → Put b 0 xs c r → c ≡ xs ++ drop (length xs) b
put_front {xs = xs} p =
    let e : 0 + length xs ≡ length xs = omega arith in
    rw e at p.places
