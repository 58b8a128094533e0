-- Accesses that were found, as the definitions have them.
use Rattle.std.specs.Prelude.{List, map}
use Rattle.typed_tree.specs.Views.{expr_view}
use Rattle.element_accesses.specs.declared.reading.Found.{Found}
use Rattle.element_accesses.specs.Found.{Accessed}

abbrev pub found_view : Found → Accessed
found_view found = record { spot = found.spot; array = found.array; way = found.way; is_sure = found.is_sure; index = expr_view found.index.now }

abbrev pub founds_view : List Found → List Accessed
founds_view founds = map found_view founds
