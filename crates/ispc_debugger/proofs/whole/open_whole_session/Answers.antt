use Rattle.std.proofs.Common.{refl}
use Rattle.gang_model.specs.Debugger.Debugger.{fresh}
use Rattle.gang_model.specs.Texts.Transcript.{setting}
use Rattle.ispc_debugger.specs.Runs.{options_view}
use Rattle.ispc_debugger.specs.Whole.{whole_history}
use Rattle.ispc_debugger.proofs.whole.open_whole_session.Goals as goal

-- the run begins over the machine, and the session over the run
pub returns-clause-opened : goal.returns-clause-opened
returns-clause-opened g c =
    let options = c.args.options.now in
    let (program, entry, rows, are, stands) = c.in_ok-machine.ensures.opened in
    let s = setting program entry rows (options_view options) in
    let whole = c.in_ok-run.ensures.stands s (c.in-Ok.ensures.stands s (fresh options.history) stands refl) in
    (program, entry, rows, are, c.open.ensures s (fresh (whole_history options.history)) whole refl refl refl)
