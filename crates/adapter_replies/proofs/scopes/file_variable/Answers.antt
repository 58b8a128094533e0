use Rattle.std.specs.Prelude.{slice_get}
use Rattle.debug_traits.specs.Machines.{file_variables}
use Rattle.adapter_replies.proofs.TopFrame.{shows_top}
use Rattle.adapter_replies.proofs.scopes.file_variable.Goals as goal

pub returns : goal.returns
returns g c s d st top = shows_top s d c.args.top (slice_get (file_variables s) c.args.number) c.file_variable.result top (c.file_variable.ensures.shown s d st)
