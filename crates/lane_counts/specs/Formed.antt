-- Steps inside the foreach forms of a program.
use Rattle.std.specs.Prelude.{Bool, false, ◌&&◌, ◌==◌, nat_lt, nat_le, Option, Some, None}
use Rattle.gang_types.specs.declared.places.Spot.{Spot}
use Rattle.foreach_forms.specs.declared.forms.Form.{Form}
use Rattle.lane_counts.specs.declared.forms.Part.{Part}
use Rattle.lane_counts.specs.declared.forms.Part.TheVariants as part

-- whether a step is a round of a form, which is one step where it begins
abbrev pub is_round : Form → Spot → Bool
is_round form spot = (spot.function.0 == form.function) && (spot.number == form.rounds)

-- whether a step is inside a form: a round, or a step of its body; the head, which lists the rounds, is not, and nor is what the body calls
abbrev pub is_inside : Form → Spot → Bool
is_inside form spot = (spot.function.0 == form.function) && (nat_lt form.head spot.number && nat_le spot.number form.rounds)

-- whether it is such a part of a form
abbrev pub is_part : Part → Form → Spot → Bool
is_part part.Rounds form spot = is_round form spot
is_part part.Inside form spot = is_inside form spot

-- whether it is such a part of a form that may be there
abbrev pub has_part : Part → Option Form → Spot → Bool
has_part which None spot = false
has_part which (Some form) spot = is_part which form spot
