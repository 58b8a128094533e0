use Rattle.std.proofs.lemmas.Result.{IfErr-weaker}
use Rattle.ispc_debugger.specs.Runs.{asked_of}
use Rattle.ispc_debugger.proofs.Accepted.{not_accepted, once}
use Rattle.ispc_debugger.proofs.opening.open_session.Goals as goal

pub returns-clause-one : goal.returns-clause-one
returns-clause-one g c = once c.args.source.now (asked_of c.args.options.now) c.args.input.now

pub returns-clause-none : goal.returns-clause-none
returns-clause-none g c =
    IfErr-weaker c.open_session_over.result _ _ (λ refusal right. not_accepted c.args.source.now (asked_of c.args.options.now) c.args.input.now refusal right) c.open_session_over.ensures.refused
