use Rattle.std.proofs.Common.{◌≤◌, subst, sym}
use Rattle.gang_model.specs.Debugger.Debugger.{fresh}
use Rattle.gang_model.specs.Texts.Transcript.{setting}
use Rattle.typed_tree.specs.Views.{program_view}
use Rattle.gang_machine.specs.Openings.{IsNew}
use Rattle.gang_machine.specs.Standings.{Stands}
use Rattle.ispc_debugger.proofs.opening.begun.Goals as goal

-- the machine stands for the first state at every number of steps, so at the one that is asked for
pub returns : goal.returns
returns g c f given may =
    let options = c.args.options.now in
    let entry = c.args.compiled.entry.0 in
    let program = c.in_ok-prepared.ensures.program in
    let limit = c.in_ok-timeline.ensures.limit in
    subst (λ p. Stands c.in_ok-machine.machine (setting (program_view p) entry given (record { width = g.row.W; history = options.history; steps = options.steps })) (fresh options.history)) program
    (subst (λ n. Stands c.in_ok-machine.machine (setting (program_view c.in_ok-prepared.prepared.compiled.program) entry given (record { width = g.row.W; history = n; steps = options.steps })) (fresh n)) limit
    (c.in_ok-machine.ensures f given (c.in_ok-prepared.ensures.rows f given may) options.steps))

-- the machine's type has a size, since a machine over the record fits in memory
pub open-requires : goal.open-requires
open-requires g c =
    let history = g.T.Timeline.history in
    let (f, given, may) = c.requires.begins in
    let fresh = subst (λ n. IsNew n (history c.in_ok-timeline.timeline)) c.words.ensures.layout c.in_ok-timeline.ensures.fresh in
    let some = subst (λ n. 1 ≤ n) (sym c.in_ok-timeline.ensures.limit) c.requires.range.least_history in
    let room = subst (λ n. n ≤ (history c.in_ok-timeline.timeline).room) c.cells.ensures.exact c.in_ok-timeline.ensures.room in
    (c.requires.fits.0, (c.requires.width, (c.in_ok-prepared.ensures.prepared, ((f, given, c.in_ok-prepared.ensures.rows f given may), (fresh, (some, room))))))
