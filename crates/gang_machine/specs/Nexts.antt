-- Where a frame stands, and what is seen there. The entry's frame is at depth 1, the top one at the number of frames and at each depth above.
use Rattle.std.specs.Prelude.{◌≡◌, ℕ, List, [], Option, Some, None, slice_get}
use Rattle.debug_traits.specs.Frames.{scope_at, spot_at}
use Rattle.debug_traits.specs.Machines.{file_variables as variables_of_file}
use Rattle.gang_model.specs.Debugger.Debugger.{Debugger, Setting, now}
use Rattle.gang_model.specs.Debugger.Positions.{scope_of, spot_in, spot_now}
use Rattle.gang_types.specs.declared.places.Spot.{Spot}
use Rattle.gang_model.specs.Types.Tree.{Variable}
use Rattle.typed_tree.specs.declared.program.Function.{Function}
use Rattle.typed_tree.specs.Views.{function_view}
use Rattle.machine_names.specs.declared.listing.ListedKind.{ListedKind}
use Rattle.machine_names.specs.Found.{file_variables}
use Rattle.machine_names.specs.Listed.{listed_from}
use Rattle.gang_machine.specs.Standings.{View}

-- what a debugger sees in the frame at a depth: these variables in scope, and these of the file
pub record Sees (scope file : List Variable) (s : Setting) (d : Debugger) (deep : ℕ) : Type 0 where
  pub scope_is : scope_at s.program deep (now s d) ≡ scope
  pub file_is : variables_of_file s ≡ file

-- the frame at a depth stands at this step of a function of the program
pub record IsPlace (m : View) (s : Setting) (d : Debugger) (deep : ℕ) (function : Function) (step : ℕ) : Type 0 where
  pub number : ℕ
  pub is_function : slice_get m.program.functions.items number ≡ Some function
  pub stands : spot_at s.program deep (now s d) ≡ Some (spot_in number step)
  pub sees : Sees (scope_of (slice_get (function_view function).standings step)) (file_variables m.program.globals.items) s d deep

-- there is no frame at a depth
pub record HasNoFrame (m : View) (s : Setting) (d : Debugger) (deep : ℕ) : Type 0 where
  pub stands : spot_at s.program deep (now s d) ≡ None
  pub sees : Sees [] (file_variables m.program.globals.items) s d deep

-- the variables of a function that are listed at a step, from a number on; none of no function
abbrev pub listed_of : ListedKind → Option Function → (step from : ℕ) → List Variable
listed_of kind None step from = []
listed_of kind (Some function) step from = listed_from kind function step from

-- those of the function of a spot, at its step; none without a spot
abbrev pub listed_at : ListedKind → List Function → Option Spot → (from : ℕ) → List Variable
listed_at kind functions None from = []
listed_at kind functions (Some spot) from = listed_of kind (slice_get functions spot.function.0) spot.number from

-- the variables that are listed where the debugger stands, from a number on
abbrev pub listed_left : ListedKind → View → Setting → Debugger → (from : ℕ) → List Variable
listed_left kind m s d from = listed_at kind m.program.functions.items (spot_now s.program (now s d)) from

-- those that are listed where the frame at a depth stands
abbrev pub listed_in_frame : ListedKind → View → Setting → Debugger → (depth : ℕ) → (from : ℕ) → List Variable
listed_in_frame kind m s d deep from = listed_at kind m.program.functions.items (spot_at s.program deep (now s d)) from
