-- there are codes for the watches that were read
use Rattle.std.proofs.Common.{take}
use Rattle.gang_model.specs.Types.Tree.{Program}
use Rattle.conditional_stops.specs.Noted.{HaveCodes}
use Rattle.conditional_stops.proofs.watches.no_codes.Given as goal

abbrev pub invariant-loop-watch : goal.invariant-loop-watch
invariant-loop-watch l = (p : Program) → HaveCodes p (take l._watch-index l.watches) l.codes.items
