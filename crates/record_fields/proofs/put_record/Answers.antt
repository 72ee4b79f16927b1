-- `record_fields::put_record`: four puts in a row are one put of all the fields (proofs/Fields.antt). Assumes nothing.
use mathlib.Core.List.{List}
use mathlib.Core.Path.{ap, ◌∙◌}
use Prim.Native.Nat.{ℕ}
use Rattle.field.specs.Field.{put_all}
use Rattle.graph.specs.declared.Which.{Which}
use Rattle.graph.specs.declared.Which.TheVariants.{LeastDelay, GreatestDelay, LeastCount, GreatestCount}
use Rattle.graph.specs.Figure.{Figure}
use Rattle.rules.specs.Quotations.{meant, figure_fields, quotes_fields, quote_of}
use Rattle.record_fields.proofs.Fields.{put_four}
use borrow.Author.Rules.{rules}
use Rattle.record_fields.proofs.put_record.Goals as goal

pub put_figure-requires : goal.put_figure-requires
put_figure-requires c = (search rules, c.requires.which_bound LeastDelay)

pub put_figure-requires-2 : goal.put_figure-requires-2
put_figure-requires-2 c = (search rules, c.requires.which_bound GreatestDelay)

pub put_figure-requires-3 : goal.put_figure-requires-3
put_figure-requires-3 c = (search rules, c.requires.which_bound LeastCount)

pub put_figure-requires-4 : goal.put_figure-requires-4
put_figure-requires-4 c = (search rules, c.requires.which_bound GreatestCount)

pub returns : goal.returns
unfolding quotes_fields
returns c =
    let q = c.args.quotes in
    let figure : Which → Figure = λ which. meant (quote_of q which).figure in
    c.put_figure-4.ensures
    ∙ ap (λ (b : List ℕ). put_all b 66 (figure_fields (figure GreatestCount))) (c.put_figure-3.ensures
    ∙ ap (λ (b : List ℕ). put_all b 44 (figure_fields (figure LeastCount))) (c.put_figure-2.ensures
    ∙ ap (λ (b : List ℕ). put_all b 22 (figure_fields (figure GreatestDelay))) c.put_figure.ensures))
    ∙ put_four (figure LeastDelay) (figure GreatestDelay) (figure LeastCount) (figure GreatestCount) c.args.buffer.now
