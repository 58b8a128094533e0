-- What a step leaves of a machine.
use Rattle.std.proofs.Common.{◌≡◌, sym, ap, subst, ℕ, List, ◌∷◌}
use Rattle.undo_log.specs.declared.timeline.Undone.TheVariants as undone
use Rattle.undo_log.specs.History.{History}
use Rattle.gang_model.specs.Debugger.Debugger.{Debugger, Setting, moved}
use Rattle.gang_model.specs.Debugger.Events.{Step}
use Rattle.debug_traits.specs.declared.machine.StepEnd.{StepEnd}
use Rattle.debug_traits.specs.declared.machine.StepEnd.TheVariants as end
use Rattle.debug_traits.specs.Machines.{Steps, StepsWords, fault_view}
use Rattle.mask_states.specs.Masked.{Masked}
use Rattle.mask_states.specs.MaskedStep.{Goes, masked_step}
use Rattle.mask_states.specs.Stands.{AreLowerable}
use Rattle.typed_tree.specs.Views.{program_view}
use Rattle.machine_words.specs.declared.words.MachineWords.{MachineWords}
use Rattle.frame_steps.specs.declared.compiled.CompiledProgram.{CompiledProgram}
use Rattle.frame_steps.specs.Standing.{AreSound, IsShown as WordsShow, Records}
use Rattle.frame_steps.specs.Standing as words
use Rattle.gang_machine.specs.Machines.{IsMachine}
use Rattle.gang_machine.specs.Standings.{SeenStands, ShowsWords, Stands, counted, masked_at, view_of}
use Rattle.gang_machine.proofs.Agreeing.{masked_next, masked_now, step_fails, step_goes, step_over}
use Rattle.gang_machine.proofs.Keeping.{stands_moved}
use Rattle.gang_machine.proofs.Recording.{limit_is, machine_recorded, past_is, words_recorded}
use Rattle.gang_machine.proofs.Seeing.{shown_here}

module _ {T : Type 0} (history : T → History) (w : ℕ) (compiled : CompiledProgram) (old new : MachineWords T) (machine : IsMachine history w compiled old) where
  -- what a step does to words, whatever they show
  abbrev pub StepsSo : StepEnd → Type 0
  StepsSo ended = (masked : Masked) → WordsShow history w compiled old masked → words.Steps history w compiled masked old ended new

  -- the words are again a machine's
  pub machine_stepped : (ended : StepEnd) → StepsSo ended → AreSound history w compiled new → IsMachine history w compiled new
  machine_stepped end.Done steps sound =
      let (next, goes, shown, records) = steps machine.masked machine.shown in
      machine_recorded history w compiled old new undone.Step records machine sound
  machine_stepped (end.Fault fault) steps sound = let (fails, same) = steps machine.masked machine.shown in subst (λ m. IsMachine history w compiled m) (sym same) machine
  machine_stepped end.Ended steps sound = let (over, same) = steps machine.masked machine.shown in subst (λ m. IsMachine history w compiled m) (sym same) machine

  pub words_stepped : (ended : StepEnd) → StepsSo ended → StepsWords (history old.store.timeline) ended (history new.store.timeline)
  words_stepped end.Done steps =
      let (next, goes, shown, records) = steps machine.masked machine.shown in
      words_recorded history w compiled old new undone.Step records machine.lie.laid
  words_stepped (end.Fault fault) steps = let (fails, same) = steps machine.masked machine.shown in ap (λ (m : MachineWords T). history m.store.timeline) same
  words_stepped end.Ended steps = let (over, same) = steps machine.masked machine.shown in ap (λ (m : MachineWords T). history m.store.timeline) same

  module _ (entry : ℕ) (lines : List ℕ) (s : Setting) (d : Debugger) (stands : SeenStands (view_of w entry compiled.program lines old.layout (history old.store.timeline)) s d) where
    abbrev lowerable : AreLowerable (program_view compiled.program)
    lowerable = machine.lie.compiled_is.runnable.lowerable

    abbrev masked : Masked
    masked = masked_now w entry compiled.program lines old.layout (history old.store.timeline) lowerable s d stands

    here : WordsShow history w compiled old masked
    here = shown_here history w entry compiled lines old machine s d stands

    -- the state after the step is shown
    stands_next : (next : Masked) → masked_step (program_view compiled.program) masked ≡ Goes next → WordsShow history w compiled new next → Records history w undone.Step old new
        → SeenStands (view_of w entry compiled.program lines new.layout (history new.store.timeline)) s (moved Step d)
    stands_next next goes shown records =
        let p = compiled.program in
        let h = history new.store.timeline in
        let shows : ShowsWords w p new.layout h.words next = record { shows = shown.shows; declared = shown.declared } in
        let after = masked_next w entry p lines old.layout (history old.store.timeline) lowerable s d stands next goes in
        subst (λ l. SeenStands (view_of w entry p lines l h) s (moved Step d)) (sym records.layout)
        (stands_moved w entry p old.layout lines (history old.store.timeline) s d stands Step h
        (subst (λ l. ShowsWords w p l h.words (masked_at w entry (program_view p) stands.rows (Step ∷ d.events))) records.layout
        (subst (λ m. ShowsWords w p new.layout h.words m) (sym after) shows))
        (past_is history w compiled old new undone.Step records) (limit_is history w compiled old new undone.Step records))

    stands_still : new ≡ old → SeenStands (view_of w entry compiled.program lines new.layout (history new.store.timeline)) s d
    stands_still same = subst (λ (m : MachineWords T). SeenStands (view_of w entry compiled.program lines m.layout (history m.store.timeline)) s d) (sym same) stands

    -- the machine does what the debugger of the definitions does
    pub stands_stepped : (moves : ℕ) (ended : StepEnd) → StepsSo ended → Steps Stands s d ended (counted (view_of w entry compiled.program lines new.layout (history new.store.timeline)) moves)
    stands_stepped moves end.Done steps =
        let (next, goes, shown, records) = steps masked here in
        let gone = step_goes w entry compiled.program lines old.layout (history old.store.timeline) lowerable s d stands next goes in
        (gone.0, gone.1, stands_next next goes shown records)
    stands_stepped moves (end.Fault fault) steps =
        let (fails, same) = steps masked here in
        (step_fails w entry compiled.program lines old.layout (history old.store.timeline) lowerable s d stands (fault_view fault) fails, stands_still same)
    stands_stepped moves end.Ended steps =
        let (over, same) = steps masked here in
        (step_over w entry compiled.program lines old.layout (history old.store.timeline) lowerable s d stands over, stands_still same)
