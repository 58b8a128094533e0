use Rattle.std.proofs.Common.{◌∙◌, ap}
use Rattle.std.specs.Prelude.{option_map}
use Rattle.adapter_replies.specs.References.{place_of}
use Rattle.adapter_replies.proofs.Opening.{parts_of_first}
use Rattle.adapter_replies.proofs.opened.reference_of_name.Goals as goal

pub returns-in-Some : goal.returns-in-Some
returns-in-Some c = ap (option_map (λ v. place_of v.reference)) c.in-Some.ensures ∙ parts_of_first c.args.name.now c.args.variables.now

pub returns-in-None : goal.returns-in-None
returns-in-None c = ap (option_map (λ v. place_of v.reference)) c.in-None.ensures ∙ parts_of_first c.args.name.now c.args.variables.now
