-- The library's calls, as the definitions have them.
use Rattle.std.specs.Prelude.{ℕ, List, Option, Some, None}
use Rattle.std.specs.Borrow.{Bor}
use Rattle.gang_model.specs.Source.Parsed.{Name}
use Rattle.gang_model.specs.Types.LibraryTable as table
use Rattle.typed_tree.specs.Views.{reduction_view, scan_view, two_view}
use Rattle.type_check_library.specs.declared.calls.LibraryCall.{LibraryCall}
use Rattle.type_check_library.specs.declared.calls.LibraryCall.TheVariants as call
use Rattle.type_check_library.specs.declared.calls.CallOfOne.{CallOfOne}
use Rattle.type_check_library.specs.declared.calls.CallOfOne.TheVariants as one
use Rattle.type_check_library.specs.declared.calls.CallOfTwo.{CallOfTwo}
use Rattle.type_check_library.specs.declared.calls.CallOfTwo.TheVariants as two
use Rattle.type_check_library.specs.declared.calls.CallOfThree.{CallOfThree}
use Rattle.type_check_library.specs.declared.calls.CallOfThree.TheVariants as three

abbrev pub call_of_one_view : CallOfOne → table.LibraryCall
call_of_one_view (one.ReduceTruths f) = table.ReducesTruths (reduction_view f)
call_of_one_view (one.ReduceNumbers f) = table.ReducesNumbers (reduction_view f)
call_of_one_view one.CompareLanes = table.ComparesLanes
call_of_one_view (one.ScanLanes f) = table.Scans (scan_view f)
call_of_one_view one.CountOnes = table.CountsOnes
call_of_one_view one.TakeMagnitude = table.TakesMagnitude

abbrev pub call_of_two_view : CallOfTwo → table.LibraryCall
call_of_two_view (two.Compare f) = table.ComparesTwo (two_view f)
call_of_two_view two.Broadcast = table.Broadcasts
call_of_two_view two.Extract = table.Extracts
call_of_two_view two.Rotate = table.Rotates
call_of_two_view two.Shift = table.Shifts
call_of_two_view two.Shuffle = table.Shuffles

abbrev pub call_of_three_view : CallOfThree → table.LibraryCall
call_of_three_view three.Insert = table.Inserts
call_of_three_view three.ShuffleTwo = table.ShufflesTwo
call_of_three_view three.Clamp = table.Clamps
call_of_three_view three.Select = table.Selects

abbrev pub call_view : LibraryCall → table.LibraryCall
call_view call.LaneMask = table.GivesLanes
call_view (call.OfOne f) = call_of_one_view f
call_view (call.OfTwo f) = call_of_two_view f
call_view (call.OfThree f) = call_of_three_view f

abbrev pub option_call_view : Option LibraryCall → Option table.LibraryCall
option_call_view None = None
option_call_view (Some f) = Some (call_view f)

-- a name with its call
abbrev pub entry_view : Bor (List ℕ) × LibraryCall → Name × table.LibraryCall
entry_view e = (e.0.now, call_view e.1)
