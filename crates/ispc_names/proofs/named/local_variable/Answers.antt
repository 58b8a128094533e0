use Rattle.std.proofs.Common.{◌∙◌, sym, ap}
use Rattle.std.specs.Prelude.{slice_get}
use Rattle.gang_model.specs.Names.Scope.{declaration, names_at}
use Rattle.ispc_names.proofs.TableSteps.{scope-in}
use Rattle.ispc_names.proofs.named.local_variable.Goals as goal

pub returns : goal.returns
returns c = λ source are.
    let n = c.args.spot.function.0 in
    let read = c.in_ok-get.ensures.lookup in
    let is = scope-in source c.args.tables.now are n c.in_ok-get.field-0.now read.3.0 read.1 in
    c.find.ensures ∙ ap (λ ss. declaration (names_at (slice_get ss c.args.spot.number)) c.args.name.now) (sym is)
