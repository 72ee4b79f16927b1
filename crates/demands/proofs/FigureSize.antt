-- No figure is too large for the record, of whatever keeps the promises. A plan that was quoted is within the limits, so what was quoted has the bound (rules/proofs/Sizes.antt), and of the ring
-- it is the bound (bounds/proofs/Attained.antt). Record's answer is its rule's, which has two rows; and no answer is numbered 13, since no case of a refusal is. Then two wrong answers that the
-- promise rules out: one that refuses the ring, and one that cuts its figure to 19 bits. Assumes nothing.
use mathlib.Core.Bool.{true}
use mathlib.Core.List.{List, [], ◌∷◌}
use mathlib.Core.Path.{◌≡◌, refl, ap, ◌∙◌, subst}
use Prim.Native.Nat.{ℕ, ◌≤◌}
use borrow.Author.Tests.{lt-ltb, le-ltb}
use native.Mathlib.Omega.{arith}
use lib.ListN.{length}
use Rattle.bounds.specs.Ring.{ring}
use Rattle.bounds.proofs.Attained.{ring-within, ring-figure}
use Rattle.field.specs.Field.{field_at}
use Rattle.graph.specs.declared.Which.TheVariants.{LeastDelay}
use Rattle.graph.specs.Class.{figure_of, counting}
use Rattle.graph.specs.Compute.{figure_for}
use Rattle.graph.specs.Figure.{number, value}
use Rattle.graph.specs.Graph.{Graph}
use Rattle.rules.specs.declared.FourQuotes.{FourQuotes}
use Rattle.rules.specs.declared.HeldQuotations.{HeldQuotations}
use Rattle.rules.specs.Answer.{Written}
use Rattle.std.proofs.Common.{Ok, Err}
use Rattle.rules.specs.declared.Refusal.{Refusal}
use Rattle.rules.specs.Limits.{within}
use Rattle.rules.specs.Image.{image, graph_in, image_rows, read_image}
use Rattle.rules.specs.Quotations.{meant, quote_of, held_rule}
use Rattle.rules.specs.Refusal.{wrote}
use Rattle.rules.specs.Rules.{buffer_row}
use Rattle.rules.proofs.Basic.{not_13, record_limits, record_short, record_done}
use Rattle.rules.proofs.Figures.{within-lows, within-highs}
use Rattle.rules.proofs.ReadWrite.{read-image}
use Rattle.rules.proofs.Results.{never}
use Rattle.rules.proofs.Sizes.{figure-said, quoted-fits, figure-fits}
use Rattle.rules.proofs.Small.{small_quote}
use Rattle.rules.proofs.Tables.{accepted_only, after_none}
use Rattle.arrays.specs.declared.Plan.{Plan}
use Rattle.plan.specs.View.{view}
use Rattle.plan.proofs.Promises.{length-answer}
use Rattle.demands.specs.Calculator.{Calculator, Promises}
use Rattle.demands.specs.FigureSize.{FiguresFit}
use Rattle.demands.specs.Record.{Recorded}
use Rattle.demands.proofs.Demands.{were_quoted, said_of, quoted-within, told}
use Rattle.demands.proofs.Record.{recorded}

module _ (c : Calculator) (keeps : Promises c) where
  -- the ring's image is one that holds the ring, and its four figures are quoted
  ring-image : {before after : List ℕ} {r : HeldQuotations} → 2048 ≤ length before → c.quotes-image (image ring) before after r
      → (q : FourQuotes) × (r.quotations ≡ Ok q) × (meant (quote_of q LeastDelay).figure ≡ number 1048064)
  unfolding read_image held_rule
  ring-image {before} {after} {r} room x =
      let (none, same) = accepted_only (image_rows (image ring)) (graph_in (image ring)) ring (read-image ring ring-within) in
      let (q, is) = were_quoted r.quotations ((keeps.quotes-image x).0.answer ∙ after_none (image_rows (image ring)) (buffer_row before 2048 ∷ []) tt none ∙ rw (le-ltb (length before) 2048 room) refl) in (
        q,
        is,
        figure-said LeastDelay (graph_in (image ring)) _ _ _ _ _ (((keeps.quotes-image x).0.quoted q is).each LeastDelay) ∙ ap (figure_for LeastDelay) same ∙ ring-figure,
      )

  -- record's answer, by its rule, and what it then holds
  recorded-there : {p : Plan} {before after : List ℕ} {w : Written} → within (view p) ≡ true → 11 ≤ length before → c.records p before after w
      → (w ≡ Ok 11) × Recorded c p before after
  recorded-there {p} {before} {after} {w} inside room x =
      let is : w ≡ Ok 11 = length-answer w 11 ((keeps.records x).answer ∙ record_done (view p) before inside (le-ltb (length before) 11 room)) in
      (is, recorded c keeps 11 (subst (λ (v : Written). c.records p before after v) is x))

  of_ring : {p : Plan} {before after : List ℕ} {w : Written} → view p ≡ ring → 11 ≤ length before → c.records p before after w → field_at after 2 20 ≡ 1048064
  of_ring {p} e room x = ((recorded-there (ap within e ∙ ring-within) room x).1.each LeastDelay).1 ∙ ap (λ (g : Graph). value (figure_for LeastDelay g)) e ∙ ap value ring-figure

  pub figures_fit : FiguresFit c
  figures_fit = record {
    shown-route = λ {asked} {p} {before} {after} q x.
        (small_quote (view p) (quoted-within c keeps q x) (figure_of asked) (counting asked (view p)) q before after (said_of c keeps q x)).0;
    seconds-each = λ {asked} {p} q x t h.
        let inside = quoted-within c keeps q x in
        (within-lows (view p) inside t h, within-highs (view p) inside t h);
    none_passes = λ {asked} {p} q x.
        quoted-fits (view p) (quoted-within c keeps q x) (figure_of asked) (counting asked (view p)) _ _ _ _ _ (said_of c keeps q x);
    none_told_passes = λ {which} {g} t. let (is, inside) = told c keeps t in omega (arith, ap value is, figure-fits g inside which);
    attained = λ e t. (told c keeps t).0 ∙ ap (figure_for LeastDelay) e ∙ ring-figure;
    attained_of_image = ring-image;
    never_returned = λ {rows} {a} x e. not_13 a e;
    by_limits = λ {p} {before} h x. (keeps.records x).answer ∙ record_limits (view p) before h;
    by_length = λ {p} {before} h short x. (keeps.records x).answer ∙ record_short (view p) before h (lt-ltb (length before) 11 short);
    else_recorded = recorded-there;
    ring-recorded = of_ring;
  }

-- one that refuses the ring's record, by whatever number
pub refuses_the_ring : (c : Calculator) → FiguresFit c → {p : Plan} {before after : List ℕ} (k : Refusal) → view p ≡ ring → 11 ≤ length before
    → c.records p before after (Err k) → ⊥
refuses_the_ring c d {p} k e room x = never 11 k (ap wrote (d.else_recorded (ap within e ∙ ring-within) room x).0)

-- one that leaves out the first of its 20 bits
pub cuts_the_ring : (c : Calculator) → FiguresFit c → {p : Plan} {before after : List ℕ} {w : Written} → view p ≡ ring → 11 ≤ length before
    → c.records p before after w → field_at after 2 20 ≡ 523776 → ⊥
cuts_the_ring c d e room x cut = omega (arith, d.ring-recorded e room x)
