-- The rules of the conversions, calls of our own for the programs of document 02, E1 and E7: each is the two calls that it is made of, from no plan. The grounds of the octets,
-- or of the numbers of a test plan, come first; the plan of accepted ones is within the limits, so 0 is left out. Assumes nothing.
use Rattle.std.specs.Prelude.{List, ◌++◌, ℕ, length, drop}
use Rattle.graph.specs.Graph.{states, count}
use Rattle.generated.specs.Generated.{generated_graph, generate_rows}
use Rattle.rules.specs.Aldebaran.{text_rows, graph_in_text, export_text, export_rows}
use Rattle.rules.specs.Image.{image_rows, graph_in, image_length}
use Rattle.rules.specs.Refusal.{Result}
use Rattle.rules.specs.Rules.{write_rows}
use Rattle.rules.specs.Table.{Row, by_table}

-- the rows of a call that is given a plan, without 0
abbrev pub past_limits : List Row → List Row
past_limits rows = drop 1 rows

-- the image of the plan that a text holds: the text's own grounds, then 11
unfoldable pub image_rule : List ℕ → List ℕ → Result ℕ
image_rule text buffer =
    let g = graph_in_text text in
    by_table (text_rows text ++ past_limits (write_rows g buffer)) (image_length (states g) (count g))

-- the text of the plan that an image holds: the image's own grounds, then 14 and 11
unfoldable pub text_rule : List ℕ → List ℕ → Result ℕ
text_rule image buffer =
    let g = graph_in image in
    by_table (image_rows image ++ past_limits (export_rows g buffer)) (length (export_text g))

-- the image of a test plan: the grounds of generate, then 11
unfoldable pub seed_rule : ℕ → ℕ → ℕ → List ℕ → Result ℕ
seed_rule seed n m buffer =
    let g = generated_graph seed n m in
    by_table (generate_rows n m ++ past_limits (write_rows g buffer)) (image_length (states g) (count g))
