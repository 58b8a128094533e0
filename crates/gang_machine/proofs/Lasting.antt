-- The program, the entry, the lines and the layout last.
use Rattle.std.proofs.Common.{◌≡◌, ℕ, List, [], ap}
use Rattle.undo_log.specs.History.{History}
use Rattle.debug_traits.specs.declared.machine.StepEnd.{StepEnd}
use Rattle.debug_traits.specs.declared.machine.StepEnd.TheVariants as end
use Rattle.typed_tree.specs.declared.program.Program.{Program}
use Rattle.gang_memory.specs.declared.layout.Layout.{Layout}
use Rattle.machine_words.specs.declared.words.MachineWords.{MachineWords}
use Rattle.frame_steps.specs.declared.compiled.CompiledProgram.{CompiledProgram}
use Rattle.gang_machine.specs.Machines.{IsMachine}
use Rattle.gang_machine.specs.Again.{SameRun, only_words}
use Rattle.gang_machine.specs.Standings.{counted, view_of}
use Rattle.gang_machine.proofs.Stepping.{StepsSo}

pub lasts : (w entry : ℕ) (program : Program) (lines : List ℕ) (old new : Layout) (h k : History) (a b : ℕ) → new ≡ old
    → SameRun (counted (view_of w entry program lines old h) a) (counted (view_of w entry program lines new k) b)
lasts w entry program lines old new h k a b same = ap (λ l. view_of w entry program lines l (only_words [])) same

pub layout_stepped : {T : Type 0} (history : T → History) (w : ℕ) (compiled : CompiledProgram) (old new : MachineWords T) (machine : IsMachine history w compiled old) (ended : StepEnd)
    → StepsSo history w compiled old new machine ended → new.layout ≡ old.layout
layout_stepped history w compiled old new machine end.Done steps = let (next, goes, shown, records) = steps machine.masked machine.shown in records.layout
layout_stepped history w compiled old new machine (end.Fault fault) steps = let (fails, same) = steps machine.masked machine.shown in ap (λ words. words.layout) same
layout_stepped history w compiled old new machine end.Ended steps = let (over, same) = steps machine.masked machine.shown in ap (λ words. words.layout) same
