use Rattle.std.proofs.Common.{subst, sym}
use Rattle.debug_traits.specs.Machines.{StepsWords}
use Rattle.gang_machine.specs.Standings.{Stands, counted, history_of, view_of}
use Rattle.gang_machine.proofs.Stepping.{machine_stepped, stands_stepped, words_stepped}
use Rattle.gang_machine.specs.Again.{SameRun}
use Rattle.gang_machine.proofs.Lasting.{lasts, layout_stepped}
use Rattle.gang_machine.proofs.machine.MachineRecordedMachine.step.Goals as goal

pub invariant_of-self : goal.invariant_of-self
invariant_of-self g c =
    let m = c.self.inside in
    machine_stepped g.T.Timeline.history g.row.W m.compiled m.words c.step.new.words c.self.invariant c.step.result c.step.ensures.steps c.step.ensures.sound

pub returns-clause-words : goal.returns-clause-words
returns-clause-words g c =
    let m = c.self.inside in
    subst (λ m. StepsWords (history_of m) c.step.result (g.T.Timeline.history c.step.new.words.store.timeline)) c.self.view_is
    (words_stepped g.T.Timeline.history g.row.W m.compiled m.words c.step.new.words c.self.invariant c.step.result c.step.ensures.steps)

pub returns-clause-step : goal.returns-clause-step
returns-clause-step g c s d stands =
    let m = c.self.inside in
    stands_stepped g.T.Timeline.history g.row.W m.compiled m.words c.step.new.words c.self.invariant m.entry m.lines.items s d (subst (λ m. Stands m s d) (sym c.self.view_is) stands)
    _ c.step.result c.step.ensures.steps

pub returns-clause-run : goal.returns-clause-run
returns-clause-run g c =
    let m = c.self.inside in
    let history = g.T.Timeline.history in
    subst (λ old. SameRun old (counted (view_of g.row.W m.entry m.compiled.program m.lines.items c.step.new.words.layout (history c.step.new.words.store.timeline)) c.step.new.self.moves.count)) c.self.view_is
    (lasts g.row.W m.entry m.compiled.program m.lines.items m.words.layout c.step.new.words.layout (history m.words.store.timeline) (history c.step.new.words.store.timeline) m.mover.moves.count c.step.new.self.moves.count (layout_stepped history g.row.W m.compiled m.words c.step.new.words c.self.invariant c.step.result c.step.ensures.steps))
