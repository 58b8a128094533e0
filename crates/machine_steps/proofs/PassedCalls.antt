-- A frame at its closing brace, and the frame below it, which made its call.
use Rattle.std.proofs.Common.{ℕ, suc, ◌-◌, ◌<◌, ◌≡◌, refl, sym, ◌∙◌, ap, subst, false, arith, List, [], ◌∷◌, length, get_or, Some, Vec, Global}
use Rattle.std.specs.Prelude.{None, slice_get, slice_index}
use Rattle.std.proofs.lemmas.Option.{slice_get_read}
use Rattle.undo_log.specs.History.{History}
use Rattle.gang_types.specs.Lanes.{no_lane}
use Rattle.gang_types.specs.Masks.{lanes_of}
use Rattle.gang_model.specs.Types.Tree.{Function, Program, ResultFor, StepNumber}
use Rattle.typed_tree.specs.declared.statements.ResultFor.{ResultFor as TypedResultFor}
use Rattle.typed_tree.specs.Views.{result_view}
use Rattle.mask_states.specs.Points.{Enter, function_ways, points_in}
use Rattle.mask_states.proofs.PlacedPoints.{length-points_of}
use Rattle.machine_states.specs.Regions.{Depth, FunctionOf, NumbersOf, OfHead, OfLevel, Regions}
use Rattle.machine_states.specs.Shows.{AreSized}
use Rattle.machine_states.specs.Steps.{IsNext, least_in, waiting_in}
use Rattle.machine_states.specs.Variables.{Variables}
use Rattle.machine_states.proofs.CallerLevels.{calling_below, some_calling}
use Rattle.machine_states.proofs.NextPoints.{same_word}
use Rattle.codegen.specs.declared.code.ArgCode.{ArgCode}
use Rattle.codegen.specs.declared.code.StepCode.{StepCode}
use Rattle.codegen.specs.declared.code.StepCode.TheVariants as code
use Rattle.codegen.specs.Codes.{DoAll, Does}
use Rattle.machine_words.specs.declared.words.MachineWords.{MachineWords}
use Rattle.machine_words.specs.Words.{regions_in}
use Rattle.frame_steps.specs.declared.active.Active.{Active}
use Rattle.frame_steps.specs.declared.compiled.CompiledProgram.{CompiledProgram}
use Rattle.frame_steps.specs.declared.levels.FrameStep.{FrameStep}
use Rattle.frame_steps.specs.Compiled.{IsCompiled, function_of, program_of, variables_of}
use Rattle.frame_steps.specs.Delivering.{TakesResult}
use Rattle.frame_steps.specs.Rounds.{IsFrameStep, IsRunning}
use Rattle.frame_steps.specs.Standing.{AreSound, IsClosing}
use Rattle.frame_steps.proofs.FunctionCode.{code_long, fit_at}
use Rattle.frame_steps.proofs.Heads.{first_word, head_long}
use Rattle.frame_steps.proofs.ShownFrames.{IsShownFrame, frame_shown}
use Rattle.frame_steps.proofs.Standings.{frame_below, sized}
use Rattle.machine_steps.specs.Leaving.{IsAtCall, lanes_called}
use Rattle.machine_steps.proofs.Callers.{call_well_scoped, call_within, some_called}

-- the call of the frame below, by what its lanes wait for and by its function's code
pub record ReadsCall (w : ℕ) (compiled : CompiledProgram) (regions : Regions) (below : ℕ) (steps : List StepCode) (found : FrameStep) : Type 0 where
  pub n : ℕ
  pub g : Function
  pub for : ResultFor
  pub next : StepNumber
  pub call : IsAtCall (program_of compiled) w regions below found.level n g for next
  pub lanes_are : lanes_of w found.lanes ≡ waiting_in regions below found.level (least_in regions below g found.level)
  pub some : no_lane (waiting_in regions below found.level (least_in regions below g found.level)) ≡ false
  pub sized : length (regions (OfLevel below found.level NumbersOf)) ≡ w
  pub within : found.step < length steps
  pub does : (made : StepCode) → made ≡ get_or steps found.step made → Does made (Enter call.called call.args for next)

-- ---- the frame at its closing brace

module _ {T : Type 0} (history : T → History) (left : T → ℕ) (w : ℕ) (compiled : CompiledProgram) (words : MachineWords T) (sound : AreSound history w compiled words)
    (active : Active) (closing : IsClosing w compiled (regions_in history w words) active) where
  abbrev p : Program
  p = program_of compiled

  abbrev variables : Variables
  variables = variables_of compiled

  abbrev regions : Regions
  regions = regions_in history w words

  pub closing_there : active.frame < 64
  closing_there = frame_below history w compiled words sound active closing.0 None closing.1

  pub function_word : 0 < length (regions (OfHead (active.frame - 1) FunctionOf))
  function_word = omega (arith, head_long history left w words sound.lie.laid (active.frame - 1) FunctionOf (omega (arith, closing_there)))

  pub regions_sized : AreSized (variables_of compiled) w regions
  regions_sized = sized history w compiled words words sound.lie refl sound.lie.laid

  pub some_lanes_called : no_lane (lanes_called w regions active.frame) ≡ false
  some_lanes_called = some_called p variables w regions sound.masked sound.shown.shows active.frame active.level active.function closing.0 active.step None closing.1.next sound.called

  -- ---- the frame below

  module _ (above : 0 < active.frame) (function : ℕ) (read : function ≡ slice_index (regions (OfHead (active.frame - 1) FunctionOf)) 0) where
    abbrev below : ℕ
    below = active.frame - 1

    next_above : IsNext p w regions (suc below) active.level active.function closing.0 active.step None
    next_above =
        let e : active.frame ≡ suc below = omega (arith, above) in subst (λ i. IsNext p w regions i active.level active.function closing.0 active.step None) e closing.1.next

    runs : IsShownFrame p variables w regions below
    runs =
        let masked = sound.masked in
        let shows = sound.shown.shows in
        let height : suc active.frame ≡ length masked.state.frames = same_word (regions Depth) (suc active.frame) (length masked.state.frames) closing.1.next.depth shows.depth in
        frame_shown p variables w regions below masked.state.frames masked.levels (omega (arith, height, above)) shows.frames

    number_is : function ≡ runs.frame.function
    number_is = first_word (regions (OfHead below FunctionOf)) runs.frame.function function runs.shows.number read

    -- its function, by the word of its head
    pub caller_found : (g : Function) × (function_of compiled function ≡ Some g)
    caller_found = (runs.shows.function, ap (function_of compiled) number_is ∙ runs.shows.is_function)

    pub caller_running : IsRunning regions (active.frame - 1) function
    caller_running = record {
      height = suc active.frame;
      depth = closing.1.next.depth;
      below = omega (arith, above);
      runs = runs.shows.number ∙ ap (λ n. n ∷ []) (sym number_is);
    }

    pub reads_call : (found : FrameStep) → ((f : Function) → function_of compiled function ≡ Some f → IsFrameStep w regions (active.frame - 1) f found)
        → (steps : List StepCode) → ((f : Function) → function_of compiled function ≡ Some f → DoAll steps (points_in f))
        → ReadsCall w compiled regions (active.frame - 1) steps found
    unfolding runs caller_found
    reads_call found is steps does =
        let n = runs.frame.function in
        let g = runs.shows.function in
        let step : IsFrameStep w regions below g found = is g caller_found.1 in
        let all : DoAll steps (points_in g) = does g caller_found.1 in
        let calling = calling_below p variables w regions sound.masked sound.shown.shows below active.level active.function closing.0 active.step None next_above n found.level g runs.shows.number runs.shows.is_function step.innermost in
        let call : IsAtCall p w regions below found.level n g calling.for calling.next = record {
          called = calling.called;
          args = calling.args;
          runs = runs.shows.number;
          is_function = runs.shows.is_function;
          innermost = step.innermost;
          calls = calling.calls;
        } in
        let within : found.step < length steps =
        omega (arith, step.least_number, call_within p w regions below found.level n g calling.for calling.next call, code_long g steps all, length-points_of g.body (function_ways g)) in
        record {
          n = n;
          g = g;
          for = calling.for;
          next = calling.next;
          call = call;
          lanes_are = step.lanes ∙ ap (waiting_in regions below found.level) step.least_number;
          some = some_calling w regions below found.level g calling;
          sized = calling.sized;
          within = within;
          does = λ made e.
              fit_at Does steps (points_in g) found.step made (Enter calling.called calling.args calling.for calling.next) all
              (slice_get_read steps (length steps) found.step made refl within e) (ap (slice_get (points_in g)) step.least_number ∙ calling.calls);
        }

-- ---- its call

module _ (w : ℕ) (compiled : CompiledProgram) (regions : Regions) (below : ℕ) (steps : List StepCode) (found : FrameStep) (reads : ReadsCall w compiled regions below steps found)
    (function : ℕ) (args : Vec ArgCode Global) (result_for : TypedResultFor) (next : ℕ) (made : StepCode) (e : made ≡ get_or steps found.step made) (same : made ≡ code.Enter function args result_for next) where
  -- what the code says of the call
  enters : Does (code.Enter function args result_for next) (Enter reads.call.called reads.call.args reads.for reads.next)
  enters = subst (λ m. Does m (Enter reads.call.called reads.call.args reads.for reads.next)) same (reads.does made e)

  pub call_made : IsAtCall (program_of compiled) w regions below found.level reads.n reads.g (result_view result_for) next
  call_made =
      subst (λ m. IsAtCall (program_of compiled) w regions below found.level reads.n reads.g (result_view result_for) m) enters.3
      (subst (λ r. IsAtCall (program_of compiled) w regions below found.level reads.n reads.g r reads.next) enters.2 reads.call)

-- the frame below has what the result is for
pub takes_result : (compiled : CompiledProgram) → IsCompiled compiled → (w : ℕ) (regions : Regions) (below level n : ℕ) (g : Function) (for : ResultFor) (next : StepNumber)
    → IsAtCall (program_of compiled) w regions below level n g for next → TakesResult compiled regions below for g
takes_result compiled is w regions below level n g for next call = record {
  n = n;
  runs = call.runs;
  is_function = call.is_function;
  well_scoped = call_well_scoped (program_of compiled) w regions below level n g for next call (variables_of compiled) is.runnable.most is.runnable.well_scoped;
}
