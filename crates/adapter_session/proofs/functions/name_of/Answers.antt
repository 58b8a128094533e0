use Rattle.std.proofs.Common.{ap, ◌∙◌, None, Some}
use Rattle.adapter_session.proofs.FunctionLists.{name_found}
use Rattle.adapter_session.proofs.functions.name_of.Goals as goal

pub returns-in-Some : goal.returns-in-Some
returns-in-Some c = ap Some c.as_slice.ensures.value ∙ name_found c.args.number c.args.functions.now _ c.in-Some.ensures

pub returns-in-None : goal.returns-in-None
returns-in-None c = name_found c.args.number c.args.functions.now None c.in-None.ensures
