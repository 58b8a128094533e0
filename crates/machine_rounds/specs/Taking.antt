-- The next round of a foreach form, as the code finds it, and what is written then.
use Rattle.std.specs.Prelude.{◌≡◌, ℕ, ◌+◌, ◌≤◌, List, [], ◌∷◌, map, length, Some}
use Rattle.gang_types.specs.Lanes.{Lanes}
use Rattle.gang_model.specs.Types.Tree.{StepNumber, Var, RoundsOf, Function}
use Rattle.undo_log.specs.History.{History}
use Rattle.gang_memory.specs.Recorded.{without_words}
use Rattle.typed_tree.specs.Views.{var_view}
use Rattle.mask_states.specs.Points.{Turn}
use Rattle.foreach_lowering.specs.declared.rounds.Round.{Round}
use Rattle.foreach_lowering.specs.declared.rounds.RoundsLeft.{RoundsLeft}
use Rattle.foreach_lowering.specs.RoundViews.{IsNextRound}
use Rattle.machine_states.specs.Effects.{all_declared_in}
use Rattle.machine_states.specs.Regions.{Region, Regions}
use Rattle.codegen.specs.declared.code.IndexCode.{IndexCode}
use Rattle.codegen.specs.declared.code.IndexCode.TheVariants as code
use Rattle.machine_words.specs.declared.words.MachineWords.{MachineWords}
use Rattle.machine_words.specs.Words.{AreLaid, left_of, regions_in}
use Rattle.frame_steps.specs.declared.active.Active.{Active}
use Rattle.frame_steps.specs.declared.compiled.CompiledProgram.{CompiledProgram}
use Rattle.frame_steps.specs.Compiled.{IsRounds}
use Rattle.frame_steps.specs.Rounds.{AreRoundsOf}
use Rattle.frame_steps.specs.Standing.{IsActive}

-- the index variables of a form, in the order of its dimensions
abbrev pub index_views : IndexCode → List Var
index_views (code.Domain order indices) = map var_view indices.items
index_views (code.EachLane index) = var_view index ∷ []
index_views (code.EachValue index) = var_view index ∷ []

-- ---- the next round

-- the next step is the rounds of a form, whose lanes go on to this step of its body
abbrev pub IsRoundNext : (width : ℕ) → CompiledProgram → Regions → Active → (body : StepNumber) → Type 0
IsRoundNext width compiled regions active body = (f : Function) × IsActive width compiled regions active f (Some (Turn body))

-- the round is the next of those that the level of the next step keeps, of the form whose rounds the step is
pub record IsRoundAt (width : ℕ) (compiled : CompiledProgram) (regions : Regions) (active : Active) (round : Round width) : Type 0 where
  pub f : Function
  pub form : RoundsOf
  pub are_rounds : IsRounds compiled active.function active.step f form
  pub left : RoundsLeft width
  pub are_left : AreRoundsOf width regions active.frame active.level form left
  pub is_next : IsNextRound width left (Some round)

-- ---- what is written

-- Variables of a frame, each with a word for each lane, are declared by these lanes; nothing else is changed, and each region has as many
-- words as before. At most so many words were set.
pub record DeclaresAll {T : Type 0} (history : T → History) (left : T → ℕ) (width frame : ℕ) (lanes : Lanes) (given : List (Var × List ℕ)) (writes : ℕ) (old new : MachineWords T) : Type 0 where
  pub regions : (r : Region) → regions_in history width new r ≡ all_declared_in frame lanes given (regions_in history width old) r
  pub long : (r : Region) → length (regions_in history width new r) ≡ length (regions_in history width old r)
  pub layout : new.layout ≡ old.layout
  pub laid : AreLaid history width new
  pub rest : without_words (history new.store.timeline) ≡ without_words (history old.store.timeline)
  pub few : left_of history left old ≤ left_of history left new + writes
