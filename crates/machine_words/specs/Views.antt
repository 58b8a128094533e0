-- The regions and the parts of arrays that the code names, as those of the definitions.
use Rattle.machine_words.specs.declared.regions.Head.{Head}
use Rattle.machine_words.specs.declared.regions.Head.TheVariants as head
use Rattle.machine_words.specs.declared.regions.LevelPart.{LevelPart}
use Rattle.machine_words.specs.declared.regions.LevelPart.TheVariants as part
use Rattle.machine_words.specs.declared.regions.Region.{Region}
use Rattle.machine_words.specs.declared.regions.Region.TheVariants as region
use Rattle.machine_words.specs.declared.views.View.{View}
use Rattle.machine_states.specs.Regions as states
use Rattle.gang_model.specs.Running.State as model

abbrev pub part_view : LevelPart → states.LevelPart
part_view part.Numbers = states.NumbersOf
part_view part.End = states.EndOf
part_view part.Counters = states.CountersOf
part_view part.Values = states.ValuesOf

abbrev pub head_view : Head → states.Head
head_view head.Function = states.FunctionOf
head_view head.Lanes = states.LanesOf
head_view head.Returned = states.ReturnedOf
head_view head.Result = states.ResultOf
head_view head.Open = states.OpenOf
head_view (head.Level level part) = states.LevelOf level (part_view part)

abbrev pub region_view : Region → states.Region
region_view (region.File number) = states.OfFile number
region_view (region.Entry number) = states.OfEntry number
region_view region.Depth = states.Depth
region_view (region.Head frame part) = states.OfHead frame (head_view part)
region_view (region.Local frame number) = states.OfLocal frame number

-- the part of an array of the definitions
abbrev pub view_view : View → model.View
view_view view = record { array = view.array; first = view.first; len = view.len }
