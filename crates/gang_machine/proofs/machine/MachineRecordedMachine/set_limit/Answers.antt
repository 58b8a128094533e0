use Rattle.std.proofs.Common.{subst, sym}
use Rattle.debug_traits.specs.Machines.{Limits, LimitsWords}
use Rattle.gang_machine.specs.Standings.{Stands, counted, history_of, view_of}
use Rattle.gang_machine.proofs.Limiting.{machine_limited, stands_limits}
use Rattle.gang_machine.specs.Again.{SameRun}
use Rattle.gang_machine.proofs.Lasting.{lasts}
use Rattle.gang_machine.proofs.machine.MachineRecordedMachine.set_limit.Goals as goal

pub invariant_of-self : goal.invariant_of-self
invariant_of-self g c =
    let m = c.self.inside in
    machine_limited g.T.Timeline.history g.row.W m.compiled m.words c.limited.new.words c.args.limit c.limited.result c.self.invariant c.limited.ensures.layout c.requires.0 c.limited.ensures.limited

pub returns-clause-limit : goal.returns-clause-limit
returns-clause-limit g c s d stands =
    let m = c.self.inside in
    let history = g.T.Timeline.history c.limited.new.words.store.timeline in
    subst (λ l. Limits Stands s d c.args.limit c.limited.result (counted (view_of g.row.W m.entry m.compiled.program m.lines.items l history) m.mover.moves.count)) (sym c.limited.ensures.layout)
    (stands_limits g.row.W m.entry m.compiled.program m.words.layout m.lines.items (g.T.Timeline.history m.words.store.timeline) s d (subst (λ m. Stands m s d) (sym c.self.view_is) stands)
    m.mover.moves.count c.args.limit c.limited.result history c.limited.ensures.limited)

pub returns-clause-words : goal.returns-clause-words
returns-clause-words g c =
    subst (λ m. LimitsWords (history_of m) c.args.limit c.limited.result (g.T.Timeline.history c.limited.new.words.store.timeline)) c.self.view_is c.limited.ensures.limited

pub returns-clause-run : goal.returns-clause-run
returns-clause-run g c =
    let m = c.self.inside in
    let history = g.T.Timeline.history in
    subst (λ old. SameRun old (counted (view_of g.row.W m.entry m.compiled.program m.lines.items c.limited.new.words.layout (history c.limited.new.words.store.timeline)) m.mover.moves.count)) c.self.view_is
    (lasts g.row.W m.entry m.compiled.program m.lines.items m.words.layout c.limited.new.words.layout (history m.words.store.timeline) (history c.limited.new.words.store.timeline) m.mover.moves.count m.mover.moves.count (c.limited.ensures.layout))
