-- A command that sets no value: nothing is done for it.
use Rattle.std.proofs.Common.{◌≡◌, false, [], Option, None, Some, refl}
use Rattle.std.proofs.lemmas.Bool.{true≢false}
use Rattle.gang_model.specs.Debugger.Debugger.{Command, Debugger, Setting, DoBacktrace, DoBreak, DoContinue, DoDelete, DoFinish, DoInfoBreakpoints, DoInfoLocals, DoNext, DoNothing, DoPrint, DoQuit, DoReverseContinue, DoReverseFinish, DoReverseNext, DoReverseStep, DoSet, DoSetHistory, DoSetIn, DoStep, DoUndo, DoWatch}
use Rattle.prompt_scenes.specs.Holding.{Held}
use Rattle.prompt_scenes.specs.Readings.{sets}
use Rattle.debug_prompt.specs.Printing.{set_by}

module _ (s : Setting) (d : Debugger) (h : Held) where
  pub no_set : (command : Option Command) → sets command ≡ false → set_by s d h command ≡ []
  no_set None is = refl
  no_set (Some (DoSet target z)) is = absurd (true≢false is)
  no_set (Some (DoSetIn deep target z)) is = absurd (true≢false is)
  no_set (Some (DoStep x)) is = refl
  no_set (Some (DoNext x)) is = refl
  no_set (Some (DoReverseStep x)) is = refl
  no_set (Some (DoReverseNext x)) is = refl
  no_set (Some DoFinish) is = refl
  no_set (Some DoContinue) is = refl
  no_set (Some DoReverseFinish) is = refl
  no_set (Some DoReverseContinue) is = refl
  no_set (Some DoUndo) is = refl
  no_set (Some (DoPrint x)) is = refl
  no_set (Some (DoBreak x)) is = refl
  no_set (Some (DoWatch x)) is = refl
  no_set (Some (DoDelete x)) is = refl
  no_set (Some DoInfoBreakpoints) is = refl
  no_set (Some DoInfoLocals) is = refl
  no_set (Some DoBacktrace) is = refl
  no_set (Some DoNothing) is = refl
  no_set (Some DoQuit) is = refl
  no_set (Some (DoSetHistory x)) is = refl
