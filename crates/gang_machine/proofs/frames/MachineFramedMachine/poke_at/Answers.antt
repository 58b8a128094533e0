use Rattle.std.proofs.Common.{subst, sym}
use Rattle.undo_log.specs.declared.timeline.Undone.TheVariants as undone
use Rattle.gang_machine.specs.Standings.{Stands, counted, view_of}
use Rattle.gang_machine.proofs.Poking.{stands_poked_at}
use Rattle.gang_machine.proofs.Recording.{machine_recorded}
use Rattle.gang_machine.specs.Again.{SameRun}
use Rattle.gang_machine.proofs.Lasting.{lasts}
use Rattle.gang_machine.proofs.frames.MachineFramedMachine.poke_at.Goals as goal

pub invariant_of-self : goal.invariant_of-self
invariant_of-self g c =
    let m = c.self.inside in
    machine_recorded g.T.Timeline.history g.row.W m.compiled m.words c.poke_at.new.words undone.Poke c.poke_at.ensures.records c.self.invariant c.poke_at.ensures.sound

pub returns-clause-poke : goal.returns-clause-poke
returns-clause-poke g c s d v stands is part =
    let m = c.self.inside in
    let e = c.poke_at.ensures in
    let here = subst (λ m. Stands m s d) (sym c.self.view_is) stands in
    stands_poked_at g.T.Timeline.history g.row.W m.entry m.compiled m.lines.items m.words c.poke_at.new.words c.self.invariant s d here e.records v c.args.shown c.args.at c.args.word part c.args.depth is e.shown

pub poke_at-requires : goal.poke_at-requires
poke_at-requires g c =
    let i = c.self.invariant in
    record { sound = record { lie = i.lie; masked = i.masked; shown = i.shown; called = i.called } }

pub returns-clause-run : goal.returns-clause-run
returns-clause-run g c =
    let m = c.self.inside in
    let history = g.T.Timeline.history in
    subst (λ old. SameRun old (counted (view_of g.row.W m.entry m.compiled.program m.lines.items c.poke_at.new.words.layout (history c.poke_at.new.words.store.timeline)) m.mover.moves.count)) c.self.view_is
    (lasts g.row.W m.entry m.compiled.program m.lines.items m.words.layout c.poke_at.new.words.layout (history m.words.store.timeline) (history c.poke_at.new.words.store.timeline) m.mover.moves.count m.mover.moves.count (c.poke_at.ensures.records.layout))
