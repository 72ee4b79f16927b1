-- Facts on small plans, straight from the definitions: what a wrong one breaks first. Assumes nothing.
use mathlib.Core.List.{[], ◌∷◌}
use mathlib.Core.Path.{◌≡◌, refl}
use Rattle.generator.specs.Words.{word_after, words}
use Rattle.graph.specs.declared.Duration.TheVariants.{Open}
use Rattle.graph.specs.Graph.{marked}
use Rattle.graph.specs.Route.{limit}
use Rattle.rules.specs.declared.Refusal.TheVariants.{StateCount, TransitionCount}
use Rattle.rules.specs.Image.{tabulate}
use Rattle.rules.specs.Refusal.{refused}
use Rattle.generated.specs.Generated.{transition_from, transition_drawn, generated_graph, generate_rule}

-- "from and to are a draw modulo n, low a draw modulo 2,048, and high is low plus a draw modulo (2,048 − low)"
drawn : transition_from 10 23 47 2050 5000 ≡ record { from = 3; to = 7; low = 2; high = 910 }
drawn = refl

-- the greatest low leaves one high, and 2,047 is open, whichever low it is drawn with
greatest_low : transition_from 1 8 9 2047 12345 ≡ record { from = 0; to = 0; low = 2047; high = 2047 }
greatest_low = refl

open_drawn : limit (transition_from 1 8 9 2000 47).high ≡ Open
open_drawn = refl

-- the states: the first is start, the last final, one state both
three-states : generated_graph 7 3 2 ≡ record { state_list = marked 4 ∷ marked 0 ∷ marked 2 ∷ []; transitions = record { from = 1; to = 0; low = 1113; high = 1353 } ∷ record { from = 2; to = 1; low = 545; high = 1603 } ∷ [] }
unfolding tabulate generated_graph transition_drawn word_after words
three-states = refl

one_state : generated_graph 1 1 1 ≡ record { state_list = marked 6 ∷ []; transitions = record { from = 0; to = 0; low = 1101; high = 1368 } ∷ [] }
unfolding tabulate generated_graph transition_drawn word_after words
one_state = refl

-- "A bad n returns 4, then a transition count above 2,048 returns 5."
no-states : generate_rule 1 0 2049 ≡ refused StateCount
unfolding generate_rule
no-states = refl

many-states : generate_rule 1 513 2048 ≡ refused StateCount
unfolding generate_rule
many-states = refl

many-transitions : generate_rule 1 512 2049 ≡ refused TransitionCount
unfolding generate_rule
many-transitions = refl
