-- The parts of arrays that the next step names, and how many lanes a packed call has.
use Rattle.std.specs.Prelude.{◌≡◌, ℕ, false, List, Option, Some, None, Result, Ok, Err, length, Vec}
use Rattle.std.specs.Global.{Global}
use Rattle.gang_types.specs.Lanes.{Lanes, no_lane}
use Rattle.gang_types.specs.Masks.{lanes_of}
use Rattle.gang_model.specs.Types.Tree.{Expr, Function}
use Rattle.gang_model.specs.Running.Lanes.{Fault as ModelFault, each, members}
use Rattle.gang_model.specs.Running.State.{View as ModelView}
use Rattle.debug_traits.specs.declared.machine.Fault.{Fault}
use Rattle.debug_traits.specs.Machines.{fault_view}
use Rattle.mask_states.specs.Points.{Point}
use Rattle.machine_states.specs.Regions.{Regions}
use Rattle.expression_instructions.specs.declared.code.Instruction.{Instruction}
use Rattle.machine_words.specs.declared.views.View.{View}
use Rattle.machine_words.specs.Views.{view_view}
use Rattle.frame_steps.specs.declared.active.Active.{Active}
use Rattle.frame_steps.specs.declared.compiled.CompiledProgram.{CompiledProgram}
use Rattle.frame_steps.specs.Standing.{IsActive, IsValueAt}

-- the next step has a point, and some lane does it
abbrev pub HasNextPoint : (width : ℕ) → CompiledProgram → Regions → Active → Type 0
HasNextPoint width compiled regions active = (f : Function) × (point : Point) × IsActive width compiled regions active f (Some point) × (no_lane (lanes_of width active.lanes) ≡ false)

-- the code computes the index from which the next step takes a part of an array, if it takes it from one
abbrev pub IsIndexAt : (width : ℕ) → CompiledProgram → Regions → Active → Option Expr → Option (Vec Instruction Global) → Type 0
IsIndexAt width compiled regions active None None = Unit {0}
IsIndexAt width compiled regions active (Some e) (Some code) = IsValueAt width compiled regions active e code.items
IsIndexAt width compiled regions active index code = ⊥

-- the answer is the part, or its fault
abbrev pub IsPart : Result View Fault → Result ModelView ModelFault → Type 0
IsPart (Ok view) meant = meant ≡ Ok (view_view view)
IsPart (Err fault) meant = meant ≡ Err (fault_view fault)

-- in each lane of a set how many lanes it has
abbrev pub counts_of : Lanes → List ℕ
counts_of lanes = each lanes (λ k. length (members lanes))
