-- The demands, of every calculator that keeps the published promises. Each call's answer is its rule's, by its promise, and the rule is its rows of the
-- table (rules' `answer-first`, `only_grounds`, `accepted_where`); the plan value and the lent places after a refusal are in the promises' equations. The image both ways is a theorem of
-- the promises (plan's `write-then-read`, `read-then-image`, `read-then-write`). A quoted figure is the one by computation, and that is what the report's procedures
-- return (`report_figures`), by whichever call it was told (`told`). A list of calls is a run of the rules (plan's `fresh-run`), whose plan is within the limits
-- (`listed_within`), so that a quotation with n places is accepted, and then says of that plan what its promise says. An image that a plan is made of from nothing goes by its rows alone,
-- and so does one that is read over a fresh plan, which is within the limits.
-- Assumes nothing.
use mathlib.Core.Bool.{true, false}
use mathlib.Core.List.{List, [], ◌∷◌}
use mathlib.Core.Path.{◌≡◌, refl, sym, ap, ap₂, ◌∙◌, subst}
use Prim.Native.Nat.{ℕ}
use borrow.Author.Tests.{le-ltb}
use lib.ListN.{length}
use Rattle.generated.specs.Generated.{generated_graph, generate_rows, generate_rule}
use Rattle.graph.specs.declared.Asked.{Asked}
use Rattle.graph.specs.declared.Which.{Which}
use Rattle.graph.specs.Compute.{figure_for}
use Rattle.graph.specs.Figure.{Figure}
use Rattle.graph.specs.Graph.{Graph, states}
use Rattle.rules.specs.Answer.{Accepted, Answer, Quotation, Quotations, Written}
use Rattle.std.proofs.Common.{Ok, Err}
use Rattle.rules.specs.declared.FourQuotes.{FourQuotes}
use Rattle.rules.specs.declared.Quote.{Quote}
use Rattle.rules.specs.declared.Refusal.{Refusal}
use Rattle.rules.specs.declared.Refusal.TheVariants.{PlanLimits, TeamNumber}
use Rattle.rules.specs.Aldebaran.{export_rows, export_rule}
use Rattle.rules.specs.Calls.{Call, mark, team, join, unjoin, read, import, rows_of, effect_of, step, run, run_fresh}
use Rattle.rules.specs.Image.{image, image_rows, graph_in, read_image}
use Rattle.rules.specs.Limits.{within, state_count_ok}
use Rattle.rules.specs.Quotations.{said_quotation, said_quotations, says_asked, Stated, AllStated, Write, quote_rows, quote_rule, all_rows, all_rule, held_rows, held_rule, record_rows, record_rule}
use Rattle.rules.specs.Refusal.{Result, accepted, refused, answer_of, said, wrote, code}
use Rattle.rules.specs.Rules.{fresh_rows, fresh_rule, fresh_graph, next, buffer_row, write_rows, write_rule, written}
use Rattle.rules.specs.Table.{Row, first, NoneHolds}
use Rattle.rules.proofs.Basic.{one_number, read_given, quote-unnamed, quote_done}
use Rattle.rules.proofs.Figures.{listed_within}
use Rattle.rules.proofs.Kept.{fresh-within, held-within-limits}
use Rattle.rules.proofs.ReadWrite.{length-image, image-read, read-version}
use Rattle.rules.proofs.Results.{never, not-false, refused_as}
use Rattle.rules.proofs.Sizes.{figure-said}
use Rattle.rules.proofs.Tables.{only_grounds, accepted_where, accepted_only, answer-first, after_none, none-append}
use Rattle.arrays.specs.declared.Plan.{Plan}
use Rattle.plan.specs.Promise.{Obeyed, none, more}
use Rattle.plan.specs.View.{view, no_plan}
use Rattle.plan.specs.declared.Edited.{Edited}
use Rattle.plan.proofs.Promises.{no-plan, refused_keeps, obeyed-run, fresh-run, accepted-write, write-then-read, accepted-read, read-then-image, read-then-write, accepted-held, write-then-held}
use Rattle.demands.specs.Calculator.{Calculator, Promises, Answers, Listed}
use Rattle.demands.specs.Calculator.{none as no_call, more as one_more}
use Rattle.demands.specs.Demands.{Called, Given, Lent, Made, Told, Demand1, Demand2, Session, OneClaim, ImageClaim, Demand3}
use Rattle.demands.specs.Demands.{fresh, generate, held, edit, write, export, recording, quote, all-four, all_of_image}
use Rattle.demands.proofs.Agreement.{report_figures}

-- a refused call that fills a lent buffer leaves it
kept_buffer : {octets before after : List ℕ} {o : Result ℕ} {w : Written} (k : Refusal) → Write octets o before after w → answer_of (wrote w) ≡ refused k → after ≡ before
kept_buffer {octets} {before} {after} {o} k x e = x.buffer ∙ ap (written octets before) (refused_as o k (sym e ∙ ap answer_of x.answer))

-- a quotation that answers that it was accepted quotes
pub was-quoted : (q : Quotation) → said_quotation q ≡ accepted tt → (x : Quote) × (q ≡ Ok x)
was-quoted (Ok x) e = (x, refl)
was-quoted (Err r) e = absurd (never tt r e)

-- and one that answers a refusal has no figure
pub was-refused : (q : Quotation) (r : Refusal) → said_quotation q ≡ refused r → q ≡ Err r
was-refused (Ok x) r e = absurd (never tt r (sym e))
was-refused (Err k) r e = let s : k ≡ r = cc in ap Err s

-- all four alike
pub were_quoted : (r : Quotations) → said_quotations r ≡ accepted tt → (q : FourQuotes) × (r ≡ Ok q)
were_quoted (Ok q) e = (q, refl)
were_quoted (Err k) e = absurd (never tt k e)

head_same : {a b : Result (Unit {0})} → a ∷ [] ≡ b ∷ [] → a ≡ b
head_same e = cc

module _ (c : Calculator) (keeps : Promises c) where
  -- ---- demand 1

  pub by_rows : {rows : List Row} {a : Result (Unit {0})} → Called c rows a → a ≡ first rows
  unfolding fresh_rule generate_rule read_image write_rule export_rule record_rule quote_rule all_rule held_rule
  by_rows (fresh {n} x) = (keeps.freshes x).answer ∙ answer-first (fresh_rows n) (fresh_graph n)
  by_rows (generate {s} {n} {m} x) = (keeps.generates x).answer ∙ answer-first (generate_rows n m) (generated_graph s n m)
  by_rows (held {octets} x) = (keeps.helds x).answer ∙ answer-first (image_rows octets) (graph_in octets)
  by_rows (edit {p} {call} x) = (keeps.edits x).answer ∙ answer-first (rows_of (view p) call) (effect_of (view p) call)
  by_rows (write {p} {before} x) = ap answer_of (keeps.writes x).answer ∙ answer-first (write_rows (view p) before) _
  by_rows (export {p} {before} x) = ap answer_of (keeps.exports x).answer ∙ answer-first (export_rows (view p) before) _
  by_rows (recording {p} {before} x) = ap answer_of (keeps.records x).answer ∙ answer-first (record_rows (view p) before) _
  by_rows (quote {asked} {p} {before} x) = (keeps.quotes x).answer
  by_rows (all-four {p} {before} x) = (keeps.quotes-all x).answer
  by_rows (all_of_image {octets} {before} x) = (keeps.quotes-image x).0.answer

  -- row 0 stands first in the rows of every call that is given a plan
  limits-first : {p : Plan} {a : Result (Unit {0})} → Given c p a → within (view p) ≡ false → a ≡ refused PlanLimits
  limits-first (edit {p} {call} x) w = by_rows (edit x) ∙ go call
    where
      go : (call : Call) → first (rows_of (view p) call) ≡ refused PlanLimits
      go (mark state value) = rw w
      go (team state number) = rw w
      go (join t) = rw w
      go (unjoin number) = rw w
      go (read octets) = rw w
      go (import text) = rw w
  limits-first (write x) w = by_rows (write x) ∙ rw w
  limits-first (export x) w = by_rows (export x) ∙ rw w
  limits-first (recording x) w = by_rows (recording x) ∙ rw w
  limits-first (quote x) w = by_rows (quote x) ∙ rw w
  limits-first (all-four x) w = by_rows (all-four x) ∙ rw w

  none_made : {e : Edited} (k : Refusal) → Made c e → said e.answer ≡ refused k → e.plan ≡ no_plan
  none_made {e} k (fresh {n} x) r = refused_keeps no_plan (fresh_rule n) e k (keeps.freshes x) (refused_as (fresh_rule n) k (sym r ∙ (keeps.freshes x).answer))
  none_made {e} k (generate {s} {n} {m} x) r =
      refused_keeps no_plan (generate_rule s n m) e k (keeps.generates x) (refused_as (generate_rule s n m) k (sym r ∙ (keeps.generates x).answer))
  none_made {e} k (held {octets} x) r = refused_keeps no_plan (read_image octets) e k (keeps.helds x) (refused_as (read_image octets) k (sym r ∙ (keeps.helds x).answer))

  stays : {before after : List ℕ} {a : Result (Unit {0})} (k : Refusal) → Lent c before after a → a ≡ refused k → after ≡ before
  stays k (write {p} {before} x) e = kept_buffer k (keeps.writes x) e
  stays k (export {p} {before} x) e = kept_buffer k (keeps.exports x) e
  stays k (recording {p} {before} x) e = kept_buffer k (keeps.records x) e
  stays k (quote {asked} {p} {before} x) e = (keeps.quotes x).kept k (sym (keeps.quotes x).answer ∙ e)
  stays k (all-four {p} {before} x) e = (keeps.quotes-all x).kept k (sym (keeps.quotes-all x).answer ∙ e)
  stays k (all_of_image {octets} {before} x) e = (keeps.quotes-image x).0.kept k (sym (keeps.quotes-image x).0.answer ∙ e)

  pub demand_1 : Answers c → Demand1 c
  demand_1 answers = record {
    answers = answers;
    by_number = by_rows;
    its_number = λ k x e. ap code (by_rows x ∙ e);
    one_number = one_number;
    plan-stays = λ {p} {call} {e} k x r. refused_keeps p (step (view p) call) e k (keeps.edits x) (refused_as (step (view p) call) k (sym r ∙ (keeps.edits x).answer));
    lent_stay = stays;
    none_made = none_made;
    none-refused = λ x. limits-first x no-plan;
    only_grounds = λ {rows} k x r. only_grounds rows tt k (sym (by_rows x) ∙ r);
    otherwise = λ {rows} x h. by_rows x ∙ accepted_where rows tt h;
    limits-first = limits-first;
  }

  -- ---- demand 2

  -- what an accepted quotation says, and that its plan is within the limits
  pub said_of : {asked : Asked} {p : Plan} {before after : List ℕ} (q : Quote) → c.quotes asked p before after (Ok q)
      → Stated (says_asked asked (view p)) q before after
  said_of q x = (keeps.quotes x).quoted q refl

  pub quoted-within : {asked : Asked} {p : Plan} {before after : List ℕ} (q : Quote) → c.quotes asked p before after (Ok q) → within (view p) ≡ true
  unfolding quote_rule
  quoted-within {asked} {p} {before} q x =
      not-false (within (view p)) (accepted_only (quote_rows asked (view p) before) tt tt (sym (keeps.quotes x).answer)).0.0

  -- all four were quoted of a plan within the limits
  four-within : {p : Plan} {before after : List ℕ} (q : FourQuotes) → c.quotes-all p before after (Ok q) → within (view p) ≡ true
  unfolding all_rule
  four-within {p} {before} q x = not-false (within (view p)) (accepted_only (all_rows (view p) before) tt tt (sym (keeps.quotes-all x).answer)).0.0

  -- a figure that was told is the one by computation, of a plan within the limits
  pub told : {which : Which} {g : Graph} {f : Figure} → Told c which g f → (f ≡ figure_for which g) × (within g ≡ true)
  told {which} (quote {p} {before} {after} {q} x) = (figure-said which (view p) _ _ _ _ _ (said_of q x), quoted-within q x)
  told {which} (all-four {p} {before} {after} {q} x) = (figure-said which (view p) _ _ _ _ _ (((keeps.quotes-all x).quoted q refl).each which), four-within q x)
  told {which} (all_of_image {octets} {before} {after} {r} {q} x e) = (
    figure-said which (graph_in octets) _ _ _ _ _ (((keeps.quotes-image x).0.quoted q e).each which),
    held-within-limits octets before after r.quotations (keeps.quotes-image x).0 q e,
  )

  pub demand_2 : Demand2 c
  demand_2 = record {
    written-image = λ {p} {before} n x.
        let a : write_rule (view p) before ≡ accepted n = sym (keeps.writes x).answer in
        (length-image (view p) ∙ (accepted-write (view p) before n a).1, (keeps.writes x).buffer ∙ ap (written (image (view p)) before) a);
    read-image = λ {p} {octets} {e} ho x a. image-read octets (view e.plan) (accepted-read p octets e (keeps.edits x) a) ho;
    reads-back = λ {p} {old} {before} {after} {e} n h w x. write-then-read p old before after n e h (keeps.writes w) (keeps.edits x);
    read-version = λ {p} {octets} {e} x a. read-version octets (view e.plan) (accepted-read p octets e (keeps.edits x) a);
    writes-back = λ {old} {octets} {before} {after} {e} {w} ho two x a room y.
        read-then-write old octets e before after w ho two (keeps.edits x) a (keeps.writes y) room;
    writes-version_2 = λ {old} {octets} {before} {after} {e} {w} ho x a room y.
        read-then-image old octets e before after w ho (keeps.edits x) a (keeps.writes y) room;
    held-image = λ {octets} {e} ho x a. image-read octets (view e.plan) (accepted-held octets e (keeps.helds x) a) ho;
    holds-back = λ {p} {before} {after} {e} n w x. write-then-held p before after n e (keeps.writes w) (keeps.helds x);
    lower-is = λ {g} h t.
        let (is, inside) = told t in
        let (b, r, e) = (report_figures g inside h).least-delay in (b, r, e ∙ sym is);
    upper_is = λ {g} h t.
        let (is, inside) = told t in
        let (b, r, e) = (report_figures g inside h).greatest-delay in (b, r, e ∙ sym is);
    mincount-is = λ {g} h t i u.
        let (is, inside) = told t in
        let (k, r, e) = (report_figures g inside h).least-count i u in (k, r, e ∙ sym is);
    maxcount-is = λ {g} h t i u.
        let (is, inside) = told t in
        let (k, r, e) = (report_figures g inside h).greatest-count i u in (k, r, e ∙ sym is);
  }

  -- ---- demand 3

  pub obeyed : {p q : Plan} {calls : List Call} {answers : List Answer} → Listed c p calls answers q → Obeyed p calls answers q
  obeyed no_call = none
  obeyed (one_more e x rest) = more e (keeps.edits x) (obeyed rest)

  one-claim : (s : Session c) → OneClaim c s
  unfolding all_rule
  one-claim s =
      let g : Graph = (run_fresh s.n s.calls).last in
      let inside : within g ≡ true = listed_within s.n s.calls s.n_ok in
      let r = fresh-run s.n s.made s.n_ok (keeps.freshes s.freshly) (obeyed s.in_turn_lem) in
      record {
        fresh-accepted = r.0;
        answers = r.1;
        plan = r.2;
        accepted_where = λ {asked} {before} {after} {r = o} x named room.
            was-quoted o
            ((keeps.quotes x).answer ∙ ap (λ (y : Graph). quote_rule asked y before) r.2
            ∙ quote_done g before asked inside named (le-ltb (length before) (states g) room));
        no-figure = λ {asked} {before} {after} {r = o} x unnamed.
            was-refused o TeamNumber
            ((keeps.quotes x).answer ∙ ap (λ (y : Graph). quote_rule asked y before) r.2 ∙ quote-unnamed g before asked inside unnamed);
        right = λ {asked} {before} {after} q x. subst (λ (y : Graph). Stated (says_asked asked y) q before after) r.2 (said_of q x);
        all-accepted = λ {before} {after} {r = o} x room.
            were_quoted o
            ((keeps.quotes-all x).answer ∙ ap (λ (y : Graph). all_rule y before) r.2 ∙ rw (inside, le-ltb (length before) 2048 room));
        all_right = λ {before} {after} q x. subst (λ (y : Graph). AllStated y q before after) r.2 ((keeps.quotes-all x).quoted q refl);
      }

  -- an image over a fresh plan, and from nothing
  module _ (n : ℕ) (h : state_count_ok n ≡ true) (octets : List ℕ) where
    abbrev f : Graph
    f = fresh_graph n

    over-fresh : step f (read octets) ≡ read_image octets
    over-fresh = read_given f octets (fresh-within n h)

    first-answer : {e : Edited} → c.helds octets e → said e.answer ≡ answer_of (step f (read octets))
    first-answer x = (keeps.helds x).answer ∙ ap answer_of (sym over-fresh)

    plan-made : {e : Edited} → c.helds octets e → e.answer ≡ Accepted → view e.plan ≡ next f (step f (read octets))
    plan-made {e} x a = sym (ap (next f) (over-fresh ∙ accepted-held octets e (keeps.helds x) a))

    image-claim : ImageClaim c n octets
    unfolding run held_rule read_image
    image-claim =
        record {
          answer = λ x. ap (λ (a : Result (Unit {0})). a ∷ []) (first-answer x);
          answers = λ {e} {calls} x a o.
              ap₂ {C = List (Result (Unit {0}))} (λ b bs. b ∷ bs) (first-answer x)
              ((obeyed-run (obeyed o)).0 ∙ ap (λ (g : Graph). (run g calls).answers) (plan-made x a));
          plan = λ {e} {calls} x a o. (obeyed-run (obeyed o)).1 ∙ ap (λ (g : Graph). (run g calls).last) (plan-made x a);
          quoted-right = λ {e} {calls} {answers} {last} {asked} {before} {after} q x a o y.
              subst (λ (g : Graph). Stated (says_asked asked g) q before after) ((obeyed-run (obeyed o)).1 ∙ ap (λ (g : Graph). (run g calls).last) (plan-made x a)) (said_of q y);
          accepted_where = λ {before} {after} {r} x e room.
              let none : NoneHolds (image_rows octets) =
              (accepted_only (image_rows octets) tt tt (sym (answer-first (image_rows octets) (graph_in octets)) ∙ ap answer_of (sym over-fresh) ∙ head_same e)).0 in
              were_quoted r.quotations
              ((keeps.quotes-image x).0.answer ∙ after_none (image_rows octets) (buffer_row before 2048 ∷ []) tt none ∙ rw (le-ltb (length before) 2048 room) refl);
          right = λ {before} {after} {r} q x e.
              let inside : held_rule octets before ≡ accepted tt = sym (keeps.quotes-image x).0.answer ∙ ap said_quotations e in
              let (rows, last) = none-append (image_rows octets) (buffer_row before 2048 ∷ []) (accepted_only (held_rows octets before) tt tt inside).0 in
              let g : next f (step f (read octets)) ≡ graph_in octets = ap (next f) (over-fresh ∙ accepted_where (image_rows octets) (graph_in octets) rows) in
              subst (λ (y : Graph). AllStated y q before after) (sym g) ((keeps.quotes-image x).0.quoted q e);
        }

  pub demand_3 : Demand3 c
  demand_3 = record { lists = one-claim; images = image-claim }
