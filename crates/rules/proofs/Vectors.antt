-- The 28 octets of document 01's "Plans with known figures" hold P1, and are its version 1 image. Assumes nothing.
use mathlib.Core.Path.{◌≡◌, refl}
use Rattle.field.specs.Field.{bits, bits_of, number, field_at}
use Rattle.graph.specs.Known.{P1}
use Rattle.rules.specs.Refusal.{accepted}
use Rattle.rules.specs.Image.{tabulate, graph_in, header_rows, image_rows, read_image}
use Rattle.rules.specs.Table.{by_number}
use Rattle.rules.proofs.Basic.{octets}

pub plan_in_octets : read_image octets ≡ accepted P1.plan
unfolding read_image image_rows header_rows by_number graph_in tabulate octets field_at bits bits_of number
plan_in_octets = refl
