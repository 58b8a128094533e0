use Rattle.std.proofs.Common.{refl}
use Rattle.gang_model.specs.Debugger.Debugger.{fresh}
use Rattle.gang_model.specs.Texts.Transcript.{setting}
use Rattle.ispc_debugger.specs.Runs.{options_view}
use Rattle.ispc_debugger.proofs.opening.open_session_over.Goals as goal

-- the session begins over the machine
pub returns-clause-opened : goal.returns-clause-opened
returns-clause-opened g c =
    let options = c.args.options.now in
    let (program, entry, rows, are, stands) = c.in_ok-machine.ensures.opened in
    (program, entry, rows, are, c.open.ensures (setting program entry rows (options_view options)) (fresh options.history) stands refl refl refl)
