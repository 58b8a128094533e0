use Rattle.std.proofs.Common.{ap, ◌∙◌, Option, Some, map}
use Rattle.gang_model.specs.Debugger.Debugger.{DoBreak}
use Rattle.gang_model.specs.Texts.Text.{Bytes}
use Rattle.std.specs.Prelude.{option_map}
use Rattle.typed_tree.specs.Views.{program_view}
use Rattle.adapter_session.specs.Restored.{made_in}
use Rattle.adapter_session.specs.Terms.{function_of, name_of}
use Rattle.adapter_session.proofs.restoring.command_anew.Goals as goal

pub returns-in-Some : goal.returns-in-Some
returns-in-Some g c s d meant stands number is =
    let p = program_view c.args.program.now in
    let functions = map function_of c.args.functions.now in
    c.break_on.ensures
    ∙ ap (option_map DoBreak) c.function_line.ensures
    ∙ ap (λ (name : Option Bytes). made_in p name meant.1) (c.in-Some.ensures ∙ ap (λ n. name_of n functions) number)

pub returns-in-None : goal.returns-in-None
returns-in-None g c s d meant stands number is =
    let p = program_view c.args.program.now in
    let functions = map function_of c.args.functions.now in
    ap Some (c.stop_command.ensures s d meant.1 stands is)
    ∙ ap (λ (name : Option Bytes). made_in p name meant.1) (c.in-None.ensures ∙ ap (λ n. name_of n functions) number)
