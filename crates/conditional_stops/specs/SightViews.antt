-- What watches of frames show, as it is noted.
use Rattle.std.specs.Prelude.{ℕ, List, map, Option, option_map}
use Rattle.arrayvec.specs.ArrayVec.{ArrayVec}
use Rattle.conditional_stops.specs.declared.watches.Sighted.{Sighted}
use Rattle.conditional_stops.specs.declared.watches.Sighted.TheVariants as noted
use Rattle.conditional_stops.specs.Watches.{InLanes, Seen, Sets, Words}

-- what a watch of a variable shows, if it shows anything
abbrev pub sight_view : Option (ArrayVec ℕ) → Option (List ℕ)
sight_view shown = option_map (λ words. words.items) shown

-- what a watch of any kind shows
abbrev pub seen_view : Sighted → Seen
seen_view (noted.Words shown) = Words (sight_view shown)
seen_view (noted.InLanes shown) = InLanes shown.items
seen_view (noted.Sets shown) = Sets shown

-- the same of each
abbrev pub sights_view : List Sighted → List Seen
sights_view shown = map seen_view shown
