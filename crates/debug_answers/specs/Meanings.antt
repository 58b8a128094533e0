-- What answers, breakpoints and watches mean in the definitions.
use Rattle.std.specs.Prelude.{◌≡◌, ℕ, ◌<◌, false, List, [], ◌∷◌, Option, Some, None, slice_get}
use Rattle.gang_model.specs.Types.Tree.{Variable}
use Rattle.gang_model.specs.Debugger.Debugger as model
use Rattle.gang_model.specs.Debugger.Debugger.{Debugger, Setting}
use Rattle.debug_commands.specs.Views.{target_view}
use Rattle.debug_traits.specs.Machines.{IsShown, fault_view, file_variables}
use Rattle.debug_answers.specs.declared.answer.Answer.{Answer}
use Rattle.debug_answers.specs.declared.answer.Answer.TheVariants as answer
use Rattle.debug_answers.specs.declared.answer.Refusal.{Refusal}
use Rattle.debug_answers.specs.declared.answer.Refusal.TheVariants as refusal
use Rattle.debug_answers.specs.declared.stops.Stop.{Stop}
use Rattle.debug_answers.specs.declared.stops.Stop.TheVariants as stop
use Rattle.debug_answers.specs.declared.stops.NumberedStop.{NumberedStop}

-- a refusal of the definitions
abbrev pub refusal_view : Refusal → model.Refusal
refusal_view refusal.BadCommand = model.BadCommand
refusal_view refusal.NoSuchName = model.NoSuchName
refusal_view refusal.NoHistory = model.NoHistory
refusal_view refusal.Ended = model.Ended
refusal_view refusal.Outermost = model.Outermost
refusal_view refusal.NoLine = model.NoLine
refusal_view refusal.OutOfRange = model.OutOfRange
refusal_view refusal.Constant = model.Constant
refusal_view refusal.NoSuchNumber = model.NoSuchNumber
refusal_view refusal.TableFull = model.TableFull
refusal_view refusal.Memory = model.Memory

-- an index is less than a count, where there is an index
abbrev pub IsInside : Option ℕ → (count : ℕ) → Type 0
IsInside None count = Unit {0}
IsInside (Some k) count = k < count

-- an answer means an answer of the definitions, given where the debugger stands
abbrev pub Means : Setting → Debugger → Answer → model.Answer → Type 0
Means s d answer.Here meant = meant ≡ model.Here
Means s d (answer.AtBreakpoint n) meant = meant ≡ model.AtBreakpoint n
Means s d (answer.AtWatch n) meant = meant ≡ model.AtWatch n
Means s d (answer.AtFault fault) meant = meant ≡ model.AtFault (fault_view fault)
Means s d answer.HistoryEnd meant = meant ≡ model.HistoryEnd
Means s d answer.StepLimit meant = meant ≡ model.StepLimit
Means s d answer.UndoneStep meant = meant ≡ model.UndoneStep
Means s d answer.UndonePoke meant = meant ≡ model.UndonePoke
Means s d (answer.Shows target shown) meant =
    (v : Variable) × (meant ≡ model.Shows (target_view target) v) × IsShown s d v shown × IsInside target.at shown.count
Means s d (answer.BreaksAt number line) meant = meant ≡ model.BreaksAt number line
Means s d (answer.Watches number target) meant = meant ≡ model.Watches number (target_view target)
Means s d (answer.Deleted number) meant = meant ≡ model.Deleted number
Means s d answer.ListsStops meant = meant ≡ model.ListsStops
Means s d answer.ListsLocals meant = meant ≡ model.ListsLocals
Means s d answer.ListsFrames meant = meant ≡ model.ListsFrames
Means s d (answer.KeepsHistory n) meant = meant ≡ model.KeepsHistory n
Means s d answer.Silent meant = meant ≡ model.Silent
Means s d (answer.Refused r) meant = meant ≡ model.Refused (refusal_view r)

-- a watch of a file-scope variable, or of one of its lanes or elements; an array is not watched whole
pub record IsWatch (s : Setting) (variable : ℕ) (at : Option ℕ) (target : model.Target) (v : Variable) : Type 0 where
  pub is_file : slice_get (file_variables s) variable ≡ Some v
  pub name : target.name ≡ v.name
  pub part : target.at ≡ at
  pub is_scalar : at ≡ None → v.is_array ≡ false

-- a breakpoint or watch is one of the definitions
abbrev pub IsStop : Setting → Stop → model.Stop → Type 0
IsStop s (stop.Line line) (model.Line l) = line ≡ l
IsStop s (stop.Watch variable at) (model.Watch target v) = IsWatch s variable at target v
IsStop s given meant = ⊥

-- breakpoints and watches are those of the definitions, in the same order
abbrev pub AreStops : Setting → List NumberedStop → List (ℕ × model.Stop) → Type 0
AreStops s [] [] = Unit {0}
AreStops s (given ∷ stops) (meant ∷ others) = (given.number ≡ meant.0) × IsStop s given.stop meant.1 × AreStops s stops others
AreStops s stops meant = ⊥
