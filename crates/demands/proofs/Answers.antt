-- The promises can be kept, whatever a calculator is given: one that may do whatever they allow answers every call, and so meets the demands. (What its arguments can hold is no matter
-- to it: it answers all else too.) A
-- refusal hands back what it was given; an accepted edit lays the rule's plan over the arrays; an accepted write puts the octets; and each figure
-- of a plan within the limits exists and can be shown within n places; of all four at once each within its own 512. Assumes nothing.
use mathlib.Core.Bool.{Bool, true}
use mathlib.Core.List.{List, [], ◌∷◌, ◌++◌}
use mathlib.Core.Path.{◌≡◌, refl, sym, ap, ◌∙◌, subst}
use Prim.Native.Nat.{ℕ, ◌+◌, ◌≤◌}
use borrow.Author.Tests.{ltb-false}
use native.Mathlib.Omega.{arith}
use lib.ListN.{length, take, drop, length-append, length-drop}
use lib.Seq.{length-take-le, drop-drop, take_at, drop_at}
use Rattle.generated.specs.Generated.{generate_rule}
use Rattle.graph.specs.declared.Asked.{Asked}
use Rattle.graph.specs.declared.Which.{Which}
use Rattle.graph.specs.declared.Which.TheVariants.{LeastDelay, GreatestDelay, LeastCount, GreatestCount}
use Rattle.graph.specs.Compute.{least, greatest}
use Rattle.graph.specs.Figure.{Figure, number, NONE, STRANDED, ENDLESS, Shown, cost_over}
use Rattle.graph.specs.Graph.{Graph, states, counted}
use Rattle.graph.specs.Route.{Cost}
use Rattle.graph.specs.Class.{figure_of, counting}
use Rattle.graph.specs.Which.{four}
use Rattle.graph.proofs.Figures.{each_of}
use Rattle.costs.proofs.Quoted.{least-quoted, greatest-quoted}
use Rattle.rules.specs.Answer.{Accepted, Quotation, Quotations, Written}
use Rattle.std.proofs.Common.{Ok, Err}
use Rattle.rules.specs.declared.Figure.{Figure as Answered}
use Rattle.rules.specs.declared.Figure.TheVariants.{Number, None, Stranded, Endless}
use Rattle.rules.specs.declared.FourQuotes.{FourQuotes}
use Rattle.rules.specs.declared.HeldQuotations.{HeldQuotations}
use Rattle.rules.specs.declared.Quote.{Quote}
use Rattle.rules.specs.Aldebaran.{export_text, export_rule}
use Rattle.rules.specs.Calls.{step}
use Rattle.rules.specs.Image.{image, image_rows, graph_in, read_image}
use Rattle.rules.specs.Limits.{within}
use Rattle.rules.specs.Quotations.{Says, says_over, says_asked, says, Stated, Quotes, AllStated, QuotesAll, Write, LeastQuoted, GreatestQuoted, meant, part, quote_of}
use Rattle.rules.specs.Quotations.{said_quotations, name_rows, quote_rows, quote_rule, all_rows, all_rule, held_rows, held_rule, record_octets, record_rule}
use Rattle.rules.specs.declared.Refusal.{Refusal}
use Rattle.rules.specs.Refusal.{Result, accepted, refused}
use Rattle.rules.specs.Rules.{fresh_rule, write_rule, buffer_row}
use Rattle.rules.proofs.Figures.{within-closed, within-states, least_exists, least_showable, greatest_exists, greatest_showable}
use Rattle.rules.proofs.ReadWrite.{read-within}
use Rattle.rules.proofs.Results.{never, not-false}
use Rattle.rules.proofs.Tables.{accepted_only, accepted_where, none-append}
use Rattle.plan.specs.declared.Edited.{Edited}
use Rattle.arrays.specs.declared.Plan.{Plan}
use Rattle.taken.specs.Taken.{bits_taken, bits_of, QuotesImage}
use Rattle.plan.specs.Promise.{Edit, Turn, Held}
use Rattle.plan.specs.View.{view, laid, no_plan}
use Rattle.plan.specs.Laws.{view-laid}
use Rattle.demands.specs.Calculator.{Calculator, Promises, Answers}
use Rattle.demands.specs.Demands.{Demand1, Demand2, Demand3}
use Rattle.demands.proofs.Demands.{demand_1, demand_2, demand_3}

-- the calculator that may do whatever the promises allow
pub published : Calculator
published = record {
  freshes = λ n e. Edit no_plan (fresh_rule n) 0 e;
  generates = λ s n m e. Edit no_plan (generate_rule s n m) 0 e;
  helds = λ octets e. Held octets e;
  edits = λ p call e. Turn p call e;
  writes = λ p before after w. Write (image (view p)) (write_rule (view p) before) before after w;
  exports = λ p before after w. Write (export_text (view p)) (export_rule (view p) before) before after w;
  records = λ p before after w. Write (record_octets (view p)) (record_rule (view p) before) before after w;
  quotes = λ which p before after q. Quotes which (view p) before after q;
  quotes-all = λ p before after q. QuotesAll (view p) before after q;
  quotes-image = λ octets before after q. QuotesImage octets before after q;
}

pub published_keeps : Promises published
unfolding published
published_keeps = record { freshes = λ x. x; generates = λ x. x; helds = λ x. x; edits = λ x. x; writes = λ x. x; exports = λ x. x; records = λ x. x; quotes = λ x. x; quotes-all = λ x. x; quotes-image = λ x. x }

-- ---- edits

edit_of : (p : Plan) (o : Result Graph) (bits : ℕ) → (e : Edited) × Edit p o bits e
edit_of p (accepted g) bits = (record { answer = Accepted; plan = laid p g; taken = bits }, record { answer = refl; plan = view-laid p g; whole = refl; taken = refl })
edit_of p (refused r) bits = (record { answer = Err r; plan = p; taken = bits }, record { answer = refl; plan = refl; whole = refl; taken = refl })

-- ---- lent buffers

write_of : (octets before : List ℕ) (o : Result ℕ) → (after : List ℕ) × (w : Written) × Write octets o before after w
write_of octets before (accepted n) = (octets ++ drop n before, Ok n, record { answer = refl; buffer = refl })
write_of octets before (refused r) = (before, Err r, record { answer = refl; buffer = refl })

-- ---- quotations

answered : Figure → Answered
answered (number k) = Number k
answered NONE = None
answered STRANDED = Stranded
answered ENDLESS = Endless

meant_answered : (f : Figure) → meant (answered f) ≡ f
unfolding answered
meant_answered (number k) = refl
meant_answered NONE = refl
meant_answered STRANDED = refl
meant_answered ENDLESS = refl

-- what an accepted quotation may show: a figure with its k and j, and the lent places after it
abbrev Showable : Says → List ℕ → Type 0
Showable P before = (f : Figure) × (k : ℕ) × (j : ℕ) × (after : List ℕ) × P f k j before after

quotation_of : (asked : Asked) (g : Graph) (before : List ℕ) → (within g ≡ true → states g ≤ length before → Showable (says_asked asked g) before)
    → (after : List ℕ) × (q : Quotation) × Quotes asked g before after q
unfolding quote_rule
quotation_of asked g before showable = go (quote_rule asked g before) refl
  where
    go : (o : Result (Unit {0})) → quote_rule asked g before ≡ o → (after : List ℕ) × (q : Quotation) × Quotes asked g before after q
    go (accepted tt) e =
        let ((w, rest), same) = accepted_only (quote_rows asked g before) tt tt e in
        let (named, (short, u)) = none-append (name_rows asked) (buffer_row before (states g) ∷ []) rest in
        let (f, k, j, after, x) = showable (not-false (within g) w) (ltb-false (length before) (states g) short) in
        let q : Quote = record { figure = answered f; k = k; j = j } in (
          after,
          Ok q,
          record {
            answer = sym e;
            kept = λ n h. absurd (never tt n (sym h ∙ e));
            quoted = λ q' s. let s' : q ≡ q' = cc in
                subst (λ (z : Quote). Stated (says_asked asked g) z before after) s' (rw (meant_answered f) x);
          },
        )
    go (refused r) e = (
      before,
      Err r,
      record {
        answer = sym e;
        kept = λ k h. refl;
        quoted = λ q h. absurd (let z : ◌≡◌ {A = ℕ} 0 1 = cc in omega arith);
      },
    )

module _ (g : Graph) (before : List ℕ) (c : Cost) (w : within g ≡ true) (room : states g ≤ length before) where
  -- the walk that shows a figure, at the front of the places
  shown_of : (P : Says) (f : Figure) → (ts : List ℕ) × (j : ℕ) × Shown g c f ts j × (length ts ≤ states g)
      → ((k j : ℕ) (after : List ℕ) → Shown g c f (take k after) j → k ≤ states g → drop k after ≡ drop k before → length after ≡ length before → P f k j before after)
      → Showable P before
  shown_of P f (ts, j, shown, fits) quoted =
      let k = length ts in
      let after : List ℕ = ts ++ drop k before in (
        f,
        k,
        j,
        after,
        quoted k j after (rw (take_at ts (drop k before) k refl) shown) fits (drop_at ts (drop k before) k refl)
            (omega (arith, length-append ts (drop k before), length-drop k before)),
      )

  least_of : Showable (LeastQuoted g c) before
  least_of =
      shown_of (LeastQuoted g c) (least g c) (least_showable g w c)
      (λ k j after s f l e. least-quoted g (within-closed g w) c (least g c) k j before after s f room l e (least_exists g w c))

  greatest_of : Showable (GreatestQuoted g c) before
  greatest_of =
      shown_of (GreatestQuoted g c) (greatest g c) (greatest_showable g w c)
      (λ k j after s f l e. greatest-quoted g (within-closed g w) c (greatest g c) k j before after s f room l e (greatest_exists g w c))

showable_of : (which : Which) (test : ℕ → Bool) (g : Graph) (before : List ℕ) → within g ≡ true → states g ≤ length before → Showable (says_over which test g) before
showable_of LeastDelay test g before = least_of g before (cost_over LeastDelay test g)
showable_of GreatestDelay test g before = greatest_of g before (cost_over GreatestDelay test g)
showable_of LeastCount test g before = least_of g before (cost_over LeastCount test g)
showable_of GreatestCount test g before = greatest_of g before (cost_over GreatestCount test g)

quote_of_lem : (asked : Asked) (g : Graph) (before : List ℕ) → (after : List ℕ) × (q : Quotation) × Quotes asked g before after q
quote_of_lem asked g before = quotation_of asked g before (showable_of (figure_of asked) (counting asked g) g before)

-- ---- all four at once

-- four parts of 512 places and what lies after them
module _ (a b c d rest : List ℕ) (la : length a ≡ 512) (lb : length b ≡ 512) (lc : length c ≡ 512) (ld : length d ≡ 512) where
  joined : List ℕ
  joined = a ++ (b ++ (c ++ (d ++ rest)))

  behind : (k : ℕ) (x y : List ℕ) → length x ≡ 512 → drop (512 + k) (x ++ y) ≡ drop k y
  behind k x y l = sym (drop-drop k 512 (x ++ y)) ∙ ap (λ (z : List ℕ). drop k z) (drop_at x y 512 l)

  from_b : drop 512 joined ≡ b ++ (c ++ (d ++ rest))
  unfolding joined
  from_b = drop_at a _ 512 la

  from_c : drop 1024 joined ≡ c ++ (d ++ rest)
  unfolding joined
  from_c = behind 512 a _ la ∙ drop_at b _ 512 lb

  from_d : drop 1536 joined ≡ d ++ rest
  unfolding joined
  from_d = behind 1024 a _ la ∙ behind 512 b _ lb ∙ drop_at c _ 512 lc

  after-all : drop 2048 joined ≡ rest
  unfolding joined
  after-all = behind 1536 a _ la ∙ behind 1024 b _ lb ∙ behind 512 c _ lc ∙ drop_at d _ 512 ld

  part_of : (which : Which) → part which joined ≡ four a b c d which
  unfolding joined
  part_of LeastDelay = take_at a _ 512 la
  part_of GreatestDelay = ap (λ (z : List ℕ). take 512 z) from_b ∙ take_at b _ 512 lb
  part_of LeastCount = ap (λ (z : List ℕ). take 512 z) from_c ∙ take_at c _ 512 lc
  part_of GreatestCount = ap (λ (z : List ℕ). take 512 z) from_d ∙ take_at d _ 512 ld

-- a quote, and the places after it, of which what is said holds
abbrev Quotable : (which : Which) → Graph → List ℕ → Type 0
Quotable which g before = (q : Quote) × (after : List ℕ) × Stated (says which g) q before after

quotable : (which : Which) (g : Graph) (before : List ℕ) → Showable (says which g) before → Quotable which g before
quotable which g before (f, k, j, after, x) = (record { figure = answered f; k = k; j = j }, after, rw (meant_answered f) x)

as_long : (which : Which) (g : Graph) (q : Quote) (before after : List ℕ) → Stated (says which g) q before after → length after ≡ length before
as_long LeastDelay g q before after x = x.shows.as_long
as_long GreatestDelay g q before after x = x.shows.as_long
as_long LeastCount g q before after x = x.shows.as_long
as_long GreatestCount g q before after x = x.shows.as_long

module _ (g : Graph) (before : List ℕ) (w : within g ≡ true) (room : 2048 ≤ length before) where
  part-long : (which : Which) → length (part which before) ≡ 512
  part-long LeastDelay = length-take-le 512 before (omega arith)
  part-long GreatestDelay = length-take-le 512 (drop 512 before) (omega (arith, length-drop 512 before))
  part-long LeastCount = length-take-le 512 (drop 1024 before) (omega (arith, length-drop 1024 before))
  part-long GreatestCount = length-take-le 512 (drop 1536 before) (omega (arith, length-drop 1536 before))

  each : (which : Which) → Quotable which g (part which before)
  each which = quotable which g (part which before) (showable_of which (counted g) g (part which before) w (omega (arith, part-long which, within-states g w)))

  long : (which : Which) → length (each which).1 ≡ 512
  long which = as_long which g (each which).0 (part which before) (each which).1 (each which).2 ∙ part-long which

  quotes : FourQuotes
  quotes = record {
    least_delay = (each LeastDelay).0;
    greatest_delay = (each GreatestDelay).0;
    least_count = (each LeastCount).0;
    greatest_count = (each GreatestCount).0;
  }

  whole : List ℕ
  whole =
      joined (each LeastDelay).1 (each GreatestDelay).1 (each LeastCount).1 (each GreatestCount).1 (drop 2048 before)
      (long LeastDelay) (long GreatestDelay) (long LeastCount) (long GreatestCount)

  in_whole : (which : Which) → part which whole ≡ four (each LeastDelay).1 (each GreatestDelay).1 (each LeastCount).1 (each GreatestCount).1 which
  unfolding whole
  in_whole = part_of _ _ _ _ _ (long LeastDelay) (long GreatestDelay) (long LeastCount) (long GreatestCount)

  stated : (which : Which) → part which whole ≡ (each which).1 → Stated (says which g) (each which).0 (part which before) (part which whole)
  stated which e = subst (λ (z : List ℕ). Stated (says which g) (each which).0 (part which before) z) (sym e) (each which).2

  four_of : AllStated g quotes before whole
  unfolding whole quotes
  four_of = record {
    each = each_of (λ which. Stated (says which g) (quote_of quotes which) (part which before) (part which whole))
        (stated LeastDelay (in_whole LeastDelay)) (stated GreatestDelay (in_whole GreatestDelay))
        (stated LeastCount (in_whole LeastCount)) (stated GreatestCount (in_whole GreatestCount));
    later = after-all _ _ _ _ _ (long LeastDelay) (long GreatestDelay) (long LeastCount) (long GreatestCount);
  }

-- where a rule of four quotations refuses, nothing is quoted and every place stays; where it accepts, the places do and the plan is within the limits
four_by : (g : Graph) (before : List ℕ) (o : Result (Unit {0})) → (o ≡ accepted tt → (within g ≡ true) × (2048 ≤ length before))
    → (after : List ℕ) × (q : Quotations) × (said_quotations q ≡ o) × ((k : Refusal) → o ≡ refused k → after ≡ before)
    × ((x : FourQuotes) → q ≡ Ok x → AllStated g x before after)
four_by g before (accepted tt) h =
    let (w, room) = h refl in
    let x : FourQuotes = quotes g before w room in (
      whole g before w room,
      Ok x,
      refl,
      λ k e. absurd (never tt k (sym e)),
      λ y e. let s : x ≡ y = cc in subst (λ (z : FourQuotes). AllStated g z before (whole g before w room)) s (four_of g before w room),
    )
four_by g before (refused r) h = (before, Err r, refl, λ k e. refl, λ x e. absurd (let z : ◌≡◌ {A = ℕ} 0 1 = cc in omega arith))

all_of : (g : Graph) (before : List ℕ) → (after : List ℕ) × (q : Quotations) × QuotesAll g before after q
unfolding all_rule
all_of g before =
    let (after, q, answer, kept, quoted) = four_by g before (all_rule g before)
    (λ e. let ((w, (short, u)), same) = accepted_only (all_rows g before) tt tt e in (not-false (within g) w, ltb-false (length before) 2048 short)) in
    (after, q, record { answer = answer; kept = kept; quoted = quoted })

image_of : (octets before : List ℕ) → (after : List ℕ) × (q : HeldQuotations) × QuotesImage octets before after q
unfolding held_rule read_image
image_of octets before =
    let (after, q, answer, kept, quoted) = four_by (graph_in octets) before (held_rule octets before)
    (λ e. let (none, same) = accepted_only (held_rows octets before) tt tt e in
    let (image, (short, u)) = none-append (image_rows octets) (buffer_row before 2048 ∷ []) none in
    (read-within octets (graph_in octets) (accepted_where (image_rows octets) (graph_in octets) image), ltb-false (length before) 2048 short)) in
    (after, record { quotations = q; taken = bits_taken octets }, (record { answer = answer; kept = kept; quoted = quoted }, refl))

-- ---- so it is

pub published-answers : Answers published
unfolding published
published-answers = record {
  freshes = λ n u. edit_of no_plan (fresh_rule n) 0;
  generates = λ s n m u v w. edit_of no_plan (generate_rule s n m) 0;
  helds = λ octets u. edit_of no_plan (read_image octets) (bits_taken octets);
  edits = λ p call u v. edit_of p (step (view p) call) (bits_of (view p) call);
  writes = λ p before u v. write_of (image (view p)) before (write_rule (view p) before);
  exports = λ p before u v. write_of (export_text (view p)) before (export_rule (view p) before);
  records = λ p before u v. write_of (record_octets (view p)) before (record_rule (view p) before);
  quotes = λ asked p before u v w. quote_of_lem asked (view p) before;
  quotes-all = λ p before u v. all_of (view p) before;
  quotes-image = λ octets before u v. image_of octets before;
}

pub published_demands : Demand1 published × Demand2 published × Demand3 published
published_demands = (
  demand_1 published published_keeps published-answers,
  demand_2 published published_keeps,
  demand_3 published published_keeps,
)
