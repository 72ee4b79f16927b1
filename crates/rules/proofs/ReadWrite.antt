-- The image, both ways. A plan within the limits has fields that fit their widths, so the bits of its image give each field back: the header's,
-- each state's and each transition's, and no ground of read holds. The other way, where read accepts octets, each header field, state and
-- transition taken has its fields' bits where they were taken, spare and pad bits are zero and the length is what the counts give; so the
-- octets' bits are those of the plan's fields, one after another, and the image by the octets' own version is the octets. In version 1 the five bits are zero, and so
-- are the teams.
-- Assumes nothing.
use mathlib.Core.Bool.{Bool, true, false, not, cond, ◌&&◌, ◌||◌}
use mathlib.Core.List.{List, [], ◌∷◌, ◌++◌, append_assoc, append-nil}
use mathlib.Core.Logic.{◌⊎◌, inl, inr}
use mathlib.Core.Path.{◌≡◌, refl, sym, ap, ap₂, ◌∙◌, subst}
use Prim.Native.Nat.{ℕ, ◌+◌, ◌*◌, ◌/◌, ◌%◌, ◌^◌, ◌≤◌, ◌<◌}
use native.Mathlib.Nat.{zero-add, le_antisymm, mod-lt, mod-eq_of_lt, div-add-mod', div-div-eq-div-mul}
use native.Mathlib.Omega.{arith}
use lib.Dec.{leb, ltb, eqb}
use lib.ListN.{length, get_or, take, drop, take-append-drop, length-drop}
use lib.Seq.{take_all, drop-drop, drop_at}
use borrow.Author.Tests.{leb-true, leb-false, ltb-true, ltb-false, eqb-true, le-leb, lt-leb, lt-ltb, le-ltb}
use Rattle.graph.specs.Graph.{Graph, State, Transition, marked, states, count, team_of}
use Rattle.field.specs.Field.{Field, AllFit, Octets, field_at, bits, bits_of_all, width_of_all, unpack, put_all}
use Rattle.field.proofs.Bits.{length-bits}
use Rattle.field.proofs.Laws.{field_lt}
use Rattle.field.proofs.Pack.{unpack_of_bits, bits_of_unpack, bits_of_all-append, width_of_all-append, length-bits_of_all, length-pack, bits-pack, pack-octets, pack_of_bits, put_all-append, put_all-pack}
use Rattle.rules.specs.declared.Refusal.{Refusal}
use Rattle.rules.specs.Refusal.{Result, accepted, refused}
use Rattle.rules.specs.Table.{Row, by_number, Holds, NoneHolds}
use Rattle.rules.specs.Limits.{all, within, state_count_ok, transition_count_ok, state_ok, ends_ok, durations_ok, transition_ok}
use Rattle.rules.specs.Image.{field, header_fields, state_fields, transition_fields, fields_of_each, image_fields, image_by, image, image_length, spare_in, team_in, version_ok}
use Rattle.rules.specs.Image.{version_of, state_count_of, transition_count_of, pad_of, state_at, spare_at, state_place, transition_at, transition_place}
use Rattle.rules.specs.Image.{tabulate, graph_in, header_rows, state_rows, transition_rows, image_rows, read_image}
use Rattle.rules.proofs.Results.{not-false, and_true, both_true, all_get_d}
use Rattle.rules.proofs.Tables.{only_grounds, accepted_where, accepted_only, none-append, append-none, each_none, none_each}
use Rattle.rules.proofs.Tabulated.{length-tabulate, get_d_tabulate, tabulate_of, all-tabulate}
use Rattle.rules.proofs.Fields.{width-each, bits_at, bits_of_items}

-- ---- the length

pub state-width : (x : State) → width_of_all (state_fields x) ≡ 8
unfolding width_of_all
state-width x = refl

pub transition-width : (t : Transition) → width_of_all (transition_fields t) ≡ 40
unfolding width_of_all
transition-width t = refl

pub header-width : (v n m : ℕ) → width_of_all (header_fields v n m) ≡ 32
unfolding width_of_all
header-width v n m = refl

image-width : (v : ℕ) (g : Graph) → width_of_all (image_fields v g) ≡ 8 * image_length (states g) (count g)
unfolding image_fields
image-width v g =
    let n : ℕ = states g in
    let m : ℕ = count g in
    let s : List Field = fields_of_each state_fields g.state_list in
    let t : List Field = fields_of_each transition_fields g.transitions in
    width_of_all-append (header_fields v n m ++ s) t
    ∙ ap₂ ◌+◌
    (width_of_all-append (header_fields v n m) s ∙ ap₂ ◌+◌ (header-width v n m) (width-each state_fields 8 state-width g.state_list))
    (width-each transition_fields 40 transition-width g.transitions)
    ∙ omega arith

-- "The length is 4 + n + 5 × m octets"
pub length-image_by : (v : ℕ) (g : Graph) → length (image_by v g) ≡ image_length (states g) (count g)
unfolding image_by
length-image_by v g = length-pack (image_fields v g) (image_length (states g) (count g)) (image-width v g)

pub length-image : (g : Graph) → length (image g) ≡ image_length (states g) (count g)
length-image g = length-image_by 2 g

pub image-octets : (v : ℕ) (g : Graph) → Octets (image_by v g)
unfolding image_by
image-octets v g = pack-octets (image_fields v g)

bits-image : (v : ℕ) (g : Graph) → bits (image_by v g) ≡ bits_of_all (image_fields v g)
unfolding image_by
bits-image v g = bits-pack (image_fields v g) (image_length (states g) (count g)) (image-width v g)

-- the header's, the states' and the transitions' fields put one after another at the front of a buffer leave the image there, and the rest
pub put-image : (g : Graph) (os : List ℕ) → Octets os → image_length (states g) (count g) ≤ length os
    → put_all
    (put_all (put_all os 0 (header_fields 2 (states g) (count g))) 32 (fields_of_each state_fields g.state_list))
    (32 + 8 * states g) (fields_of_each transition_fields g.transitions)
    ≡ image g ++ drop (image_length (states g) (count g)) os
unfolding image_by image_fields
put-image g os ho h =
    let n : ℕ = states g in
    let m : ℕ = count g in
    let H : List Field = header_fields 2 n m in
    let S : List Field = fields_of_each state_fields g.state_list in
    let T : List Field = fields_of_each transition_fields g.transitions in
    let w : 0 + width_of_all (H ++ S) ≡ 32 + 8 * n =
    zero-add (width_of_all (H ++ S)) ∙ width_of_all-append H S ∙ ap₂ ◌+◌ (header-width 2 n m) (width-each state_fields 8 state-width g.state_list) in
    let v : 0 + width_of_all H ≡ 32 = zero-add (width_of_all H) ∙ header-width 2 n m in
    ap₂ (λ (b : List ℕ) (k : ℕ). put_all b k T) (ap (λ (k : ℕ). put_all (put_all os 0 H) k S) (sym v) ∙ sym (put_all-append H S os 0)) (sym w)
    ∙ sym (put_all-append (H ++ S) T os 0)
    ∙ put_all-pack (H ++ S ++ T) (image_length n m) os ho (image-width 2 g) h

-- ---- four fields one after another: the header, a state and a transition are such

four : (os : List ℕ) (at a b c d : ℕ) → unpack os at (a ∷ b ∷ c ∷ d ∷ [])
    ≡ field a (field_at os at a) ∷ field b (field_at os (at + a) b) ∷ field c (field_at os (at + (a + b)) c) ∷ field d (field_at os (at + (a + b + c)) d) ∷ []
unfolding unpack
four os at a b c d =
    let p : at + a + b ≡ at + (a + b) = omega arith in
    let q : at + a + b + c ≡ at + (a + b + c) = omega arith in
    ap₂ {C = List Field} (λ (x y : ℕ). field a (field_at os at a) ∷ field b (field_at os (at + a) b) ∷ field c (field_at os x c) ∷ field d (field_at os y d) ∷ []) p q

nowhere : Field
nowhere = field 0 0

value_at : ℕ → List Field → ℕ
value_at i fs = (get_or fs i nowhere).value

-- an image has the version by which it was made
pub version_by : (v : ℕ) (g : Graph) → v < 16 → version_of (image_by v g) ≡ v
unfolding image_fields unpack AllFit value_at
version_by v g h =
    let rest : List Field = drop 1 (image_fields v g) in
    ap (value_at 0) (unpack_of_bits (image_by v g) (field 4 v ∷ []) 0 (bits_of_all rest) (h, tt) (bits-image v g ∙ bits_of_all-append (field 4 v ∷ []) rest))

-- ---- one state

digit : (x : ℕ) → x % 2 < 2 ^ 1
digit x = mod-lt x (omega arith)

-- a marks value is its three bits, added together
marks-bits : (v : ℕ) → v ≤ 7 → 4 * (v / 4 % 2) + 2 * (v / 2 % 2) + v % 2 ≡ v
marks-bits v h =
    let q : v / 2 / 2 ≡ v / 4 = div-div-eq-div-mul v 2 2 in
    let l : v / 4 < 2 = omega arith in
    let m : v / 4 % 2 ≡ v / 4 = mod-eq_of_lt l in
    omega (arith, div-add-mod' v 2, div-add-mod' (v / 2) 2)

-- its last five bits are the team, in either version where the spare bits are zero
pub five-is : (version five : ℕ) → spare_in version five ≡ 0 → five ≡ team_in version five
five-is version five = go (eqb version 1)
  where
    go : (b : Bool) → cond b five 0 ≡ 0 → five ≡ cond b 0 five
    go true e = e
    go false e = refl

team-most : (version five : ℕ) → team_in version five ≤ five
team-most version five = go (eqb version 1)
  where
    go : (b : Bool) → cond b 0 five ≤ five
    go true = omega arith
    go false = omega arith

state_of_bits : (os : List ℕ) (at : ℕ) (x : State) (rest : List Bool) → version_of os ≡ 2 → state_ok x ≡ true → drop at (bits os) ≡ bits_of_all (state_fields x) ++ rest
    → (state_at os at ≡ x) × (spare_at os at ≡ 0)
unfolding AllFit value_at
state_of_bits os at x rest two h e =
    let v = x.marks in
    let ok = and_true (leb v 7) (leb x.team 31) h in
    let t : x.team < 2 ^ 5 = omega (arith, leb-true x.team 31 ok.1) in
    let u = sym (four os at 1 1 1 5) ∙ unpack_of_bits os (state_fields x) at rest (digit (v / 4), (digit (v / 2), (digit v, (t, tt)))) e in
    let a : field_at os at 1 ≡ v / 4 % 2 = ap (value_at 0) u in
    let b : field_at os (at + 1) 1 ≡ v / 2 % 2 = ap (value_at 1) u in
    let c : field_at os (at + 2) 1 ≡ v % 2 = ap (value_at 2) u in
    let d : field_at os (at + 3) 5 ≡ x.team = ap (value_at 3) u in
    let s : 4 * (v / 4 % 2) + 2 * (v / 2 % 2) + v % 2 ≡ v = marks-bits v (leb-true v 7 ok.0) in
    (rw (a, b, c, s, two, d) refl, rw two refl)

bits_of_state : (os : List ℕ) (at : ℕ) → at + 8 ≤ length (bits os) → spare_at os at ≡ 0
    → (take 8 (drop at (bits os)) ≡ bits_of_all (state_fields (state_at os at))) × (state_ok (state_at os at) ≡ true)
unfolding width_of_all
bits_of_state os at h d =
    let v : ℕ = 4 * field_at os at 1 + 2 * field_at os (at + 1) 1 + field_at os (at + 2) 1 in
    let ha : field_at os at 1 < 2 = field_lt os at 1 in
    let hb : field_at os (at + 1) 1 < 2 = field_lt os (at + 1) 1 in
    let hc : field_at os (at + 2) 1 < 2 = field_lt os (at + 2) 1 in
    let a : field_at os at 1 ≡ v / 4 % 2 = omega arith in
    let b : field_at os (at + 1) 1 ≡ v / 2 % 2 = omega arith in
    let c : field_at os (at + 2) 1 ≡ v % 2 = omega arith in
    let five : ℕ = field_at os (at + 3) 5 in
    let t : five ≡ team_in (version_of os) five = five-is (version_of os) five d in
    let u : unpack os at (1 ∷ 1 ∷ 1 ∷ 5 ∷ []) ≡ state_fields (state_at os at) = four os at 1 1 1 5 ∙ four-fields a b c t in
    let w : width_of_all (unpack os at (1 ∷ 1 ∷ 1 ∷ 5 ∷ [])) ≡ 8 = ap width_of_all u in (
      ap (λ (k : ℕ). take k (drop at (bits os))) (sym w)
          ∙ sym (bits_of_unpack os (1 ∷ 1 ∷ 1 ∷ 5 ∷ []) at (rw w (omega (arith, length-bits os)))) ∙ ap bits_of_all u,
      both_true (leb v 7) (leb (team_in (version_of os) five) 31) (le-leb v 7 (omega arith))
          (le-leb (team_in (version_of os) five) 31 (omega (arith, team-most (version_of os) five, field_lt os (at + 3) 5))),
    )
  where
    four-fields : {a b c d a' b' c' d' : ℕ} → a ≡ a' → b ≡ b' → c ≡ c' → d ≡ d'
        → ◌≡◌ {A = List Field} (field 1 a ∷ field 1 b ∷ field 1 c ∷ field 5 d ∷ []) (field 1 a' ∷ field 1 b' ∷ field 1 c' ∷ field 5 d' ∷ [])
    four-fields p q r s = λ i. field 1 (p i) ∷ field 1 (q i) ∷ field 1 (r i) ∷ field 5 (s i) ∷ []

-- ---- one transition

-- what the limits say of a transition
pub record Bounded (n : ℕ) (t : Transition) : Type 0 where
  pub from : t.from < n
  pub to : t.to < n
  pub low : t.low ≤ t.high
  pub high : t.high ≤ 2047

pub bounded : (n : ℕ) (t : Transition) → transition_ok n t ≡ true → Bounded n t
bounded n t h =
    let p = and_true (ends_ok n t) (durations_ok t) h in
    let e = and_true (ltb t.from n) (ltb t.to n) p.0 in
    let d = and_true (leb t.low t.high) (leb t.high 2047) p.1 in
    record {
      from = ltb-true t.from n e.0;
      to = ltb-true t.to n e.1;
      low = leb-true t.low t.high d.0;
      high = leb-true t.high 2047 d.1;
    }

-- and so do its rows
pub ok_rows : (n : ℕ) (t : Transition) → transition_ok n t ≡ true → NoneHolds (transition_rows n t)
ok_rows n t h =
    let b = bounded n t h in
    (lt-leb n t.from b.from, (lt-leb n t.to b.to, (ap not (and_true (ends_ok n t) (durations_ok t) h).1, tt)))

pub rows_ok : (n : ℕ) (t : Transition) → NoneHolds (transition_rows n t) → transition_ok n t ≡ true
rows_ok n t (source, (target, (durations, u))) =
    both_true (ends_ok n t) (durations_ok t)
    (both_true (ltb t.from n) (ltb t.to n) (lt-ltb t.from n (leb-false n t.from source)) (lt-ltb t.to n (leb-false n t.to target)))
    (not-false (durations_ok t) durations)

-- its fields fit their widths
pub transition-fits : (n : ℕ) (t : Transition) → n ≤ 512 → transition_ok n t ≡ true → AllFit (transition_fields t)
unfolding AllFit
transition-fits n t hn h =
    let k = bounded n t h in
    let hf : t.from < 2 ^ 9 = omega arith in
    let ht : t.to < 2 ^ 9 = omega arith in
    let hl : t.low < 2 ^ 11 = omega arith in
    let hh : t.high < 2 ^ 11 = omega arith in
    (hf, (ht, (hl, (hh, tt))))

transition_of_bits : (os : List ℕ) (at n : ℕ) (t : Transition) (rest : List Bool) → n ≤ 512 → transition_ok n t ≡ true
    → drop at (bits os) ≡ bits_of_all (transition_fields t) ++ rest → transition_at os at ≡ t
unfolding value_at
transition_of_bits os at n t rest hn h e =
    let u = sym (four os at 9 9 11 11) ∙ unpack_of_bits os (transition_fields t) at rest (transition-fits n t hn h) e in
    let a : field_at os at 9 ≡ t.from = ap (value_at 0) u in
    let b : field_at os (at + 9) 9 ≡ t.to = ap (value_at 1) u in
    let c : field_at os (at + 18) 11 ≡ t.low = ap (value_at 2) u in
    let d : field_at os (at + 29) 11 ≡ t.high = ap (value_at 3) u in
    λ i. record { from = a i; to = b i; low = c i; high = d i }

bits_of_transition : (os : List ℕ) (at : ℕ) → at + 40 ≤ length (bits os) → take 40 (drop at (bits os)) ≡ bits_of_all (transition_fields (transition_at os at))
unfolding width_of_all
bits_of_transition os at h =
    let u : unpack os at (9 ∷ 9 ∷ 11 ∷ 11 ∷ []) ≡ transition_fields (transition_at os at) = four os at 9 9 11 11 in
    let w : width_of_all (unpack os at (9 ∷ 9 ∷ 11 ∷ 11 ∷ [])) ≡ 40 = ap width_of_all u in
    ap (λ (m : ℕ). take m (drop at (bits os))) (sym w)
    ∙ sym (bits_of_unpack os (9 ∷ 9 ∷ 11 ∷ 11 ∷ []) at (rw w (omega (arith, length-bits os)))) ∙ ap bits_of_all u

-- ---- the whole image

-- what the limits say of a plan
pub record Limited (g : Graph) : Type 0 where
  pub least : 1 ≤ states g
  pub most : states g ≤ 512
  pub transitions : count g ≤ 2048
  pub each-state : all state_ok g.state_list ≡ true
  pub each-transition : all (transition_ok (states g)) g.transitions ≡ true

pub limited : (g : Graph) → within g ≡ true → Limited g
unfolding within
limited g h =
    let n : ℕ = states g in
    let p = and_true (state_count_ok n && transition_count_ok (count g) && all state_ok g.state_list) (all (transition_ok n) g.transitions) h in
    let q = and_true (state_count_ok n && transition_count_ok (count g)) (all state_ok g.state_list) p.0 in
    let r = and_true (state_count_ok n) (transition_count_ok (count g)) q.0 in
    let s = and_true (leb 1 n) (leb n 512) r.0 in
    record {
      least = leb-true 1 n s.0;
      most = leb-true n 512 s.1;
      transitions = leb-true (count g) 2048 r.1;
      each-state = q.1;
      each-transition = p.1;
    }

pub within-limits : (g : Graph) → Limited g → within g ≡ true
unfolding within
within-limits g l =
    rw (le-leb 1 (states g) l.least, le-leb (states g) 512 l.most, le-leb (count g) 2048 l.transitions, l.each-state, l.each-transition) refl

-- what write puts reads back as that plan
module _ (g : Graph) (l : Limited g) where
  n : ℕ
  n = states g

  m : ℕ
  m = count g

  os : List ℕ
  os = image g

  S : List Bool
  S = bits_of_all (fields_of_each state_fields g.state_list)

  T : List Bool
  T = bits_of_all (fields_of_each transition_fields g.transitions)

  H : List Bool
  H = bits_of_all (header_fields 2 n m)

  image-bits : bits os ≡ H ++ (S ++ T)
  unfolding os S T H image_fields n m
  image-bits =
      bits-image 2 g ∙ bits_of_all-append (header_fields 2 n m ++ fields_of_each state_fields g.state_list) (fields_of_each transition_fields g.transitions)
      ∙ ap {B = List Bool} (λ (x : List Bool). x ++ bits_of_all (fields_of_each transition_fields g.transitions)) (bits_of_all-append (header_fields 2 n m) (fields_of_each state_fields g.state_list))
      ∙ append_assoc (bits_of_all (header_fields 2 n m)) (bits_of_all (fields_of_each state_fields g.state_list)) (bits_of_all (fields_of_each transition_fields g.transitions))

  at-states : drop 32 (bits os) ≡ S ++ T
  unfolding H
  at-states = ap (λ (x : List Bool). drop 32 x) image-bits ∙ drop_at H (S ++ T) 32 (length-bits_of_all (header_fields 2 n m) ∙ header-width 2 n m)

  at-transitions : drop (32 + 8 * n) (bits os) ≡ T
  unfolding S n
  at-transitions =
      sym (drop-drop (8 * n) 32 (bits os)) ∙ ap (λ (x : List Bool). drop (8 * n) x) at-states
      ∙ drop_at S T (8 * n) (length-bits_of_all (fields_of_each state_fields g.state_list) ∙ width-each state_fields 8 state-width g.state_list)

  header : (version_of os ≡ 2) × (state_count_of os ≡ n) × (transition_count_of os ≡ m) × (pad_of os ≡ 0)
  unfolding AllFit value_at H n m
  header =
      let hn : states g < 2 ^ 10 = omega arith in
      let hm : count g < 2 ^ 12 = omega arith in
      let u = sym (four os 0 4 10 12 6) ∙ unpack_of_bits os (header_fields 2 (states g) (count g)) 0 (S ++ T) (omega arith, (hn, (hm, (omega arith, tt)))) image-bits in
      (ap (value_at 0) u, ap (value_at 1) u, ap (value_at 2) u, ap (value_at 3) u)

  header_clear : NoneHolds (header_rows os)
  unfolding header_rows os n m
  header_clear =
      let k : length (image g) ≡ image_length (states g) (count g) = length-image g in
      rw (
        header.0,
        header.1,
        header.2,
        header.3,
        k,
        le-leb 1 (states g) l.least,
        le-leb (states g) 512 l.most,
        le-leb (count g) 2048 l.transitions,
        le-ltb (4 + states g + 5 * count g) 4 (omega arith),
        le-ltb (4 + states g + 5 * count g) (4 + states g + 5 * count g) (omega arith),
      ) (refl, (refl, (refl, (refl, (refl, (refl, (refl, tt)))))))

  -- each state and each transition at its place
  state-there : (k : ℕ) → k < states g → (state_at os (state_place k) ≡ get_or g.state_list k (marked 0)) × (spare_at os (state_place k) ≡ 0)
  unfolding S
  state-there k h =
      let (rest, e) = bits_at state_fields 8 state-width (bits os) (marked 0) g.state_list 32 T at-states k h in
      state_of_bits os (state_place k) (get_or g.state_list k (marked 0)) rest header.0 (all_get_d state_ok g.state_list k (marked 0) l.each-state h) e

  nothing : Transition
  nothing = record { from = 0; to = 0; low = 0; high = 0 }

  transition-there : (k : ℕ) → k < count g → transition_at os (transition_place (states g) k) ≡ get_or g.transitions k nothing
  unfolding T n
  transition-there k h =
      let e : drop (32 + 8 * states g) (bits os) ≡ bits_of_all (fields_of_each transition_fields g.transitions) ++ [] =
      at-transitions ∙ sym (append-nil (bits_of_all (fields_of_each transition_fields g.transitions))) in
      let (rest, e') = bits_at transition_fields 40 transition-width (bits os) nothing g.transitions (32 + 8 * states g) [] e k h in
      transition_of_bits os (transition_place (states g) k) (states g) (get_or g.transitions k nothing) rest l.most
      (all_get_d (transition_ok (states g)) g.transitions k nothing l.each-transition h) e'

  graph-there : graph_in os ≡ g
  unfolding graph_in n m
  graph-there =
      let s : tabulate (states g) (λ i. state_at os (state_place i)) ≡ g.state_list =
      tabulate_of (marked 0) g.state_list (states g) (λ i. state_at os (state_place i)) refl (λ i h. sym (state-there i h).0) in
      let t : tabulate (count g) (λ i. transition_at os (transition_place (states g) i)) ≡ g.transitions =
      tabulate_of nothing g.transitions (count g) (λ i. transition_at os (transition_place (states g) i)) refl (λ i h. sym (transition-there i h)) in
      rw (header.1, header.2) (λ i. record { state_list = s i; transitions = t i })

  rows_clear : NoneHolds (image_rows os)
  unfolding image_rows n m
  rows_clear =
      append-none (header_rows os) _ header_clear
      (rw (header.1, header.2)
      (append-none (by_number (state_rows os) 0 (states g)) _
      (none_each (state_rows os) (states g) (λ k h. (rw (state-there k h).1 refl, tt)))
      (none_each (λ i. transition_rows (states g) (transition_at os (transition_place (states g) i))) (count g)
      (λ k h. ok_rows (states g) (transition_at os (transition_place (states g) k))
      (ap (transition_ok (states g)) (transition-there k h) ∙ all_get_d (transition_ok (states g)) g.transitions k nothing l.each-transition h)))))

  read-os : read_image os ≡ accepted g
  unfolding read_image
  read-os = accepted_where (image_rows os) (graph_in os) rows_clear ∙ ap accepted graph-there

-- every plan written reads back as that plan
pub read-image : (g : Graph) → within g ≡ true → read_image (image g) ≡ accepted g
unfolding os
read-image g h = read-os g (limited g h)

-- ---- the other way

-- what read has looked at where it accepts the header
pub record Header (os : List ℕ) : Type 0 where
  pub version : version_ok (version_of os) ≡ true
  pub least : 1 ≤ state_count_of os
  pub most : state_count_of os ≤ 512
  pub transitions : transition_count_of os ≤ 2048
  pub pad : pad_of os ≡ 0
  pub long : length os ≡ image_length (state_count_of os) (transition_count_of os)

pub clear_header : (os : List ℕ) → NoneHolds (header_rows os) → Header os
unfolding header_rows
clear_header os (short, (version, (n_ok, (m-ok, (pad, (few, (many, u))))))) =
    let n : ℕ = state_count_of os in
    let m : ℕ = transition_count_of os in
    let k : ℕ = image_length n m in
    let s = and_true (leb 1 n) (leb n 512) (not-false (state_count_ok n) n_ok) in
    let low : k ≤ length os = ltb-false (length os) k few in
    let high : length os ≤ k = ltb-false k (length os) many in
    record {
      version = not-false (version_ok (version_of os)) version;
      least = leb-true 1 n s.0;
      most = leb-true n 512 s.1;
      transitions = leb-true m 2048 (not-false (transition_count_ok m) m-ok);
      pad = eqb-true (pad_of os) 0 (not-false (eqb (pad_of os) 0) pad);
      long = le_antisymm high low;
    }

-- what accepted octets are: the header is as it should be, no spare bit is set, and each transition is within the limits
module _ (os : List ℕ) (clear : NoneHolds (image_rows os)) where
  parts : NoneHolds (header_rows os) × NoneHolds (by_number (state_rows os) 0 (state_count_of os))
      × NoneHolds (by_number (λ i. transition_rows (state_count_of os) (transition_at os (transition_place (state_count_of os) i))) 0 (transition_count_of os))
  unfolding image_rows
  parts =
      let (h, r) = none-append (header_rows os) _ clear in
      let (s, t) = none-append (by_number (state_rows os) 0 (state_count_of os)) _ r in
      (h, s, t)

  pub read-header : Header os
  read-header = clear_header os parts.0

  spare_free : (k : ℕ) → k < state_count_of os → spare_at os (state_place k) ≡ 0
  spare_free k h =
      let c = each_none (state_rows os) (state_count_of os) 0 parts.1 k h in
      let z : 0 + k ≡ k = zero-add k in
      let c' = subst (λ (i : ℕ). NoneHolds (state_rows os i)) z c in
      eqb-true (spare_at os (state_place k)) 0 (not-false _ c'.0)

  transition-ok : (k : ℕ) → k < transition_count_of os → transition_ok (state_count_of os) (transition_at os (transition_place (state_count_of os) k)) ≡ true
  transition-ok k h =
      let rows : ℕ → List Row = λ i. transition_rows (state_count_of os) (transition_at os (transition_place (state_count_of os) i)) in
      let c = each_none rows (transition_count_of os) 0 parts.2 k h in
      rows_ok (state_count_of os) (transition_at os (transition_place (state_count_of os) k)) (subst (λ (i : ℕ). NoneHolds (rows i)) (zero-add k) c)

-- every image read is by its own version the image of the plan that it holds, and that is within the limits
module _ (os : List ℕ) (clear : NoneHolds (image_rows os)) where
  N : ℕ
  N = state_count_of os

  M : ℕ
  M = transition_count_of os

  ss : List State
  ss = tabulate N (λ i. state_at os (state_place i))

  ts : List Transition
  ts = tabulate M (λ i. transition_at os (transition_place N i))

  states-bits : take (8 * N) (drop 32 (bits os)) ≡ bits_of_all (fields_of_each state_fields ss)
  unfolding N ss
  states-bits =
      let h = read-header os clear in
      bits_of_items state_fields 8 state-width (bits os) (λ i. state_at os (state_place i)) 32 (state_count_of os)
      (λ k l. (bits_of_state os (state_place k) (omega (arith, length-bits os, h.long)) (spare_free os clear k l)).0)

  transitions-bits : take (40 * M) (drop (32 + 8 * N) (bits os)) ≡ bits_of_all (fields_of_each transition_fields ts)
  unfolding N M ts
  transitions-bits =
      let h = read-header os clear in
      bits_of_items transition_fields 40 transition-width (bits os) (λ i. transition_at os (transition_place (state_count_of os) i)) (32 + 8 * state_count_of os) (transition_count_of os)
      (λ k l. bits_of_transition os (transition_place (state_count_of os) k) (omega (arith, length-bits os, h.long)))

  W : ℕ
  W = version_of os

  header-bits : take 32 (bits os) ≡ bits_of_all (header_fields W N M)
  unfolding width_of_all N M W
  header-bits =
      let h = read-header os clear in
      let u : unpack os 0 (4 ∷ 10 ∷ 12 ∷ 6 ∷ []) ≡ header_fields (version_of os) (state_count_of os) (transition_count_of os) = four os 0 4 10 12 6 ∙ rw h.pad refl in
      let w : width_of_all (unpack os 0 (4 ∷ 10 ∷ 12 ∷ 6 ∷ [])) ≡ 32 = ap width_of_all u in
      ap (λ (k : ℕ). take k (bits os)) (sym w) ∙ sym (bits_of_unpack os (4 ∷ 10 ∷ 12 ∷ 6 ∷ []) 0 (rw w (omega (arith, h.long)))) ∙ ap bits_of_all u

  n_states : length ss ≡ N
  unfolding ss
  n_states = length-tabulate N (λ i. state_at os (state_place i))

  m_transitions : length ts ≡ M
  unfolding ts
  m_transitions = length-tabulate M (λ i. transition_at os (transition_place N i))

  read-bits : bits os ≡ bits_of_all (image_fields (version_of os) (graph_in os))
  unfolding image_fields graph_in N M W ss ts
  read-bits =
      let h = read-header os clear in
      let s : List Field = fields_of_each state_fields ss in
      let t : List Field = fields_of_each transition_fields ts in
      let end : take (40 * M) (drop (32 + 8 * N) (bits os)) ≡ drop (32 + 8 * N) (bits os) =
      take_all (40 * M) (drop (32 + 8 * N) (bits os)) (omega (arith, length-drop (32 + 8 * N) (bits os), length-bits os, h.long)) in
      sym (take-append-drop 32 (bits os))
      ∙ ap₂ {C = List Bool} (λ (x y : List Bool). x ++ y) header-bits
      (sym (take-append-drop (8 * N) (drop 32 (bits os)))
      ∙ ap₂ {C = List Bool} (λ (x y : List Bool). x ++ y) states-bits (drop-drop (8 * N) 32 (bits os) ∙ sym end ∙ transitions-bits))
      ∙ sym (append_assoc (bits_of_all (header_fields W N M)) (bits_of_all s) (bits_of_all t))
      ∙ ap {B = List Bool} (λ (x : List Bool). x ++ bits_of_all t) (sym (bits_of_all-append (header_fields W N M) s))
      ∙ sym (bits_of_all-append (header_fields W N M ++ s) t)
      ∙ ap₂ (λ (a b : ℕ). bits_of_all (header_fields W a b ++ s ++ t)) (sym n_states) (sym m_transitions)

  clear_within : within (graph_in os) ≡ true
  unfolding graph_in N M ss ts
  clear_within =
      let h = read-header os clear in
      within-limits (graph_in os)
      (record {
        least = omega (arith, h.least, n_states);
        most = omega (arith, h.most, n_states);
        transitions = omega (arith, h.transitions, m_transitions);
        each-state = all-tabulate state_ok N (λ i. state_at os (state_place i))
            (λ k l. (bits_of_state os (state_place k) (omega (arith, length-bits os, h.long)) (spare_free os clear k l)).1);
        each-transition =
            ap (λ (k : ℕ). all (transition_ok k) ts) n_states
            ∙ all-tabulate (transition_ok N) M (λ i. transition_at os (transition_place N i)) (transition-ok os clear);
      })

no-teams-held : (os : List ℕ) → version_of os ≡ 1 → (s : ℕ) → s < states (graph_in os) → team_of (graph_in os) s ≡ 0
unfolding graph_in team_of
no-teams-held os one s h =
    let f : ℕ → State = λ i. state_at os (state_place i) in
    ap (λ (x : State). x.team) (get_d_tabulate (state_count_of os) f s (marked 0) (rw (length-tabulate (state_count_of os) f) at h)) ∙ rw one refl

module _ (os : List ℕ) (g : Graph) (e : read_image os ≡ accepted g) where
  accepted_as_held : NoneHolds (image_rows os) × (graph_in os ≡ g)
  unfolding read_image
  accepted_as_held = accepted_only (image_rows os) (graph_in os) g e

  pub image-read : Octets os → image_by (version_of os) g ≡ os
  unfolding image_by
  image-read ho =
      let (c, s) = accepted_as_held in
      pack_of_bits os (image_fields (version_of os) g) ho (read-bits os c ∙ ap (λ (x : Graph). bits_of_all (image_fields (version_of os) x)) s)

  -- by one of the two versions, and by version 1 all teams are zero
  no-teams : version_of os ≡ 1 → (s : ℕ) → s < states g → team_of g s ≡ 0
  no-teams one s h =
      let e = accepted_as_held.1 in
      ap (λ (x : Graph). team_of x s) (sym e) ∙ no-teams-held os one s (subst (λ (x : Graph). s < states x) (sym e) h)

  pub read-version : ((version_of os ≡ 1) × ((s : ℕ) → s < states g → team_of g s ≡ 0)) ⊎ (version_of os ≡ 2)
  read-version = go (eqb (version_of os) 1) refl (read-header os accepted_as_held.0).version
    where
      go : (b : Bool) → eqb (version_of os) 1 ≡ b → (b || eqb (version_of os) 2) ≡ true → ((version_of os ≡ 1) × ((s : ℕ) → s < states g → team_of g s ≡ 0)) ⊎ (version_of os ≡ 2)
      go true e h = let one = eqb-true (version_of os) 1 e in inl (one, no-teams one)
      go false e h = inr (eqb-true (version_of os) 2 h)

  pub read-within : within g ≡ true
  read-within = let (c, s) = accepted_as_held in ap within (sym s) ∙ clear_within os c

-- ---- what follows

-- a plan and its image determine each other
pub image_inj : (g h : Graph) → within g ≡ true → within h ≡ true → image g ≡ image h → g ≡ h
image_inj g h p q e =
    let s : ◌≡◌ {A = Result Graph} (accepted g) (accepted h) = sym (read-image g p) ∙ ap read_image e ∙ read-image h q in
    cc

-- octets of one version that hold a plan are its image and no others are
pub read_unique : (os ps : List ℕ) (g : Graph) → Octets os → Octets ps → version_of os ≡ version_of ps → read_image os ≡ accepted g → read_image ps ≡ accepted g
    → os ≡ ps
read_unique os ps g ho hp v e f = sym (image-read os g e ho) ∙ ap (λ (w : ℕ). image_by w g) v ∙ image-read ps g f hp

-- every list of octets is by its version the image of a plan within the limits, or is refused by a row of the image that holds
pub read-decided : (os : List ℕ) → Octets os
    → ((g : Graph) × (read_image os ≡ accepted g) × (within g ≡ true) × (image_by (version_of os) g ≡ os)) ⊎ ((r : Refusal) × (read_image os ≡ refused r) × Holds r (image_rows os))
unfolding read_image
read-decided os ho = go (read_image os) refl
  where
    go : (o : Result Graph) → read_image os ≡ o
        → ((g : Graph) × (read_image os ≡ accepted g) × (within g ≡ true) × (image_by (version_of os) g ≡ os)) ⊎ ((r : Refusal) × (read_image os ≡ refused r) × Holds r (image_rows os))
    go (accepted g) e = inl (g, e, read-within os g e, image-read os g e ho)
    go (refused r) e = inr (r, e, only_grounds (image_rows os) (graph_in os) r e)
