use Rattle.gang_model.specs.Debugger.Debugger.{fresh}
use Rattle.gang_model.specs.Texts.Transcript.{setting}
use Rattle.ispc_debugger.specs.Runs.{options_view}
use Rattle.ispc_debugger.proofs.running.run_wide.Goals as goal

-- the lines are answered from where the session stands
pub returns-clause-transcript : goal.returns-clause-transcript
returns-clause-transcript g c =
    let options = c.args.options.now in
    let (program, entry, rows, are, stands) = c.in_ok-session.ensures.opened in
    (program, entry, rows, are, c.answer_lines.ensures.transcript (setting program entry rows (options_view options)) (fresh options.history) stands)

pub returns-clause-order : goal.returns-clause-order
returns-clause-order g c =
    let options = c.args.options.now in
    let (program, entry, rows, are, stands) = c.in_ok-session.ensures.opened in
    (program, entry, rows, are, c.answer_lines.ensures.order (setting program entry rows (options_view options)) (fresh options.history) stands)
