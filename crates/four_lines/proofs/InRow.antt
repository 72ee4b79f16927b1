-- Four lines one after another. Where there is room for them all, there is room for each once those before it are put; and the four puts in a row are
-- the put of all. A part of the places has 512, so a walk of at most 512 transitions stands in it. Assumes nothing.
use Prim.Native.Nat.{ℕ, ◌+◌, ◌*◌, ◌^◌, ◌≤◌, ◌<◌}
use mathlib.Core.List.{List}
use mathlib.Core.Path.{◌≡◌}
use native.Mathlib.Omega.{arith}
use lib.ListN.{length, get_or, take, drop, length-append, length-drop}
use lib.Seq.{length-take-le, get_or-take, get_or-drop}
use Rattle.graph.specs.declared.Which.{Which}
use Rattle.graph.specs.declared.Which.TheVariants.{LeastDelay, GreatestDelay, LeastCount, GreatestCount}
use Rattle.graph.specs.Which.{place}
use Rattle.rules.specs.declared.FourQuotes.{FourQuotes}
use Rattle.graph.specs.Figure.{value}
use Rattle.rules.specs.Quotations.{quote_of, part, meant, SmallQuote}
use Rattle.wording.specs.Lines.{name_text, line_of, lines_of}
use Rattle.four_lines.specs.Room.{room}
use Rattle.wording.proofs.Lengths.{line-length, names_length}
use Rattle.text.proofs.Listed.{listed_length}
use Rattle.text.specs.Put.{Put}
use Rattle.text.proofs.Puts.{put-length, put_then}

place_small : (which : Which) → place which ≤ 3
place_small LeastDelay = omega arith
place_small GreatestDelay = omega arith
place_small LeastCount = omega arith
place_small GreatestCount = omega arith

pub part-long : (which : Which) (places : List ℕ) → 2048 ≤ length places → length (part which places) ≡ 512
part-long which places h =
    length-take-le 512 (drop (512 * place which) places) (omega (arith, length-drop (512 * place which) places, place_small which))

-- the length of the line of a figure
abbrev pub long : FourQuotes → List ℕ → Which → ℕ
long q places which = length (line_of which (quote_of q which) (part which places))

pub lines-sum : (q : FourQuotes) (places : List ℕ)
    → length (lines_of q places) ≡ long q places LeastDelay + long q places GreatestDelay + long q places LeastCount + long q places GreatestCount
unfolding lines_of
lines-sum q places = simp length-append (omega arith)

-- what stands in a part is what stands in the places
part_small : (which : Which) (places : List ℕ) → ((i : ℕ) → get_or places i 0 < 65536) → (i : ℕ) → i < 512 → get_or (part which places) i 0 < 65536
part_small which places small i h =
    rw (get_or-take 512 (drop (512 * place which) places) i 0 h, get_or-drop (512 * place which) places i 0) (small (512 * place which + i))

-- how much the four lines can need
pub lines_room : (q : FourQuotes) (places : List ℕ) → 2048 ≤ length places → ((i : ℕ) → get_or places i 0 < 65536)
    → ((which : Which) → SmallQuote (quote_of q which)) → ((which : Which) → value (meant (quote_of q which).figure) < 2 ^ 32) → length (lines_of q places) ≤ room
lines_room q places h small ks vs =
    omega (arith, lines-sum q places, names_length, one LeastDelay, one GreatestDelay, one LeastCount, one GreatestCount)
  where
    one : (which : Which) → long q places which ≤ length (name_text which) + 3097
    one which =
        let x = quote_of q which in
        let l = listed_length 5 (part which places) x.k (omega arith) (omega (arith, part-long which places h, (ks which).0))
        (λ i m. let b = part_small which places small i (omega (arith, (ks which).0)) in omega arith) in
        omega (arith, line-length which (meant x.figure) (take x.k (part which places)) x.j (vs which) (omega (arith, (ks which).1)), l, (ks which).0)

-- after a put there is room for what there was room for behind it
pub still_room : {b : List ℕ} {at : ℕ} {xs c : List ℕ} {r : ℕ} → Put b at xs c r → (n : ℕ) → at + length xs + n ≤ length b → r + n ≤ length c
still_room p n h = omega (arith, p.end, put-length p (omega arith))

pub four-put : (q : FourQuotes) (places : List ℕ) {b c d e f : List ℕ} {i j k l : ℕ}
    → Put b 0 (line_of LeastDelay (quote_of q LeastDelay) (part LeastDelay places)) c i
    → Put c i (line_of GreatestDelay (quote_of q GreatestDelay) (part GreatestDelay places)) d j
    → Put d j (line_of LeastCount (quote_of q LeastCount) (part LeastCount places)) e k
    → Put e k (line_of GreatestCount (quote_of q GreatestCount) (part GreatestCount places)) f l
    → Put b 0 (lines_of q places) f l
unfolding lines_of
four-put q places w x y z = put_then (put_then (put_then w (omega arith) x) (omega arith) y) (omega arith) z
