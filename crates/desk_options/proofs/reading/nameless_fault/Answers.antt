use Rattle.std.proofs.Common.{ap}
use Rattle.std.proofs.lemmas.Result.{IfOk-weaker}
use Rattle.clap.specs.Faults.{is_simple_and_free}
use Rattle.clap.specs.Walk.{texts}
use Rattle.desk_options.proofs.VerbsRead.{nameless_missing, nameless_told}
use Rattle.desk_options.proofs.reading.nameless_fault.Goals as goal

pub returns-in-Err : goal.returns-in-Err
returns-in-Err c =
    let app = c.in_ok-all_verbs.ensures in
    nameless_told (texts c.args.words.now) _ c.in-Err.fault app (c.in-Err.ensures.kinds (ap is_simple_and_free app))

pub returns : goal.returns
returns c =
    let app = c.in_ok-all_verbs.ensures in
    IfOk-weaker c.error.result _ _
    (λ e kind. nameless_missing (texts c.args.words.now) _ e app (c.in-Ok.ensures.kinds (ap is_simple_and_free app)) kind) c.error.ensures.kind
