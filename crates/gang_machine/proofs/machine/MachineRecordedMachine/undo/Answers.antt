use Rattle.std.proofs.Common.{subst, sym}
use Rattle.std.specs.Prelude.{Ok}
use Rattle.debug_traits.specs.Machines.{Undoes}
use Rattle.gang_machine.specs.Standings.{SeenStands, Stands, counted, view_of}
use Rattle.gang_machine.proofs.Keeping.{stands_undone}
use Rattle.gang_machine.proofs.Recording.{machine_undone}
use Rattle.gang_machine.specs.Again.{SameRun}
use Rattle.gang_machine.proofs.Lasting.{lasts}
use Rattle.gang_machine.proofs.machine.MachineRecordedMachine.undo.Goals as goal

pub invariant_of-self-2 : goal.invariant_of-self-2
invariant_of-self-2 g c =
    let m = c.self.inside in
    let (past, long, limit, room) = c.in_ok-back.ensures.answer in
    machine_undone g.T.Timeline.history g.row.W m.compiled m.words c.back.new.words c.in_ok-back.back.event c.self.invariant c.in_ok-back.ensures.layout past limit room

pub returns-clause-undo : goal.returns-clause-undo
returns-clause-undo g c s d stands =
    let m = c.self.inside in
    let (past, long, limit, room) = c.in_ok-back.ensures.answer in
    let history = g.T.Timeline.history c.back.new.words.store.timeline in
    subst (λ l. Undoes SeenStands s d (Ok c.in_ok-back.back.event) (view_of g.row.W m.entry m.compiled.program m.lines.items l history)) (sym c.in_ok-back.ensures.layout)
    (stands_undone g.row.W m.entry m.compiled.program m.words.layout m.lines.items (g.T.Timeline.history m.words.store.timeline) s d (subst (λ m. Stands m s d) (sym c.self.view_is) stands)
    history c.in_ok-back.back.event past limit)

pub returns-clause-run : goal.returns-clause-run
returns-clause-run g c =
    let m = c.self.inside in
    let history = g.T.Timeline.history in
    subst (λ old. SameRun old (counted (view_of g.row.W m.entry m.compiled.program m.lines.items c.back.new.words.layout (history c.back.new.words.store.timeline)) c.back.new.self.moves.count)) c.self.view_is
    (lasts g.row.W m.entry m.compiled.program m.lines.items m.words.layout c.back.new.words.layout (history m.words.store.timeline) (history c.back.new.words.store.timeline) m.mover.moves.count c.back.new.self.moves.count (c.in_ok-back.ensures.layout))
