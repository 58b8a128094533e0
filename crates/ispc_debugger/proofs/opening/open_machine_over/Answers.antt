use Rattle.std.proofs.Common.{Some, subst, option_map}
use Rattle.std.proofs.lemmas.Result.{IfOk-weaker}
use Rattle.typed_tree.specs.Views.{program_view}
use Rattle.ispc_compiler.specs.Front.{Compiles}
use Rattle.ispc_debugger.specs.Runs.{asked_of}
use Rattle.ispc_debugger.proofs.opening.open_machine_over.Goals as goal

pub returns-in-Ok-Some-clause-opened : goal.returns-in-Ok-Some-clause-opened
returns-in-Ok-Some-clause-opened g c =
    let source = c.args.source.now in
    let compiled = c.in-Ok-Some.compiled in
    let found = subst (Compiles source (option_map (λ n. n.now) c.asked_entry.result)) c.in-Ok-Some.field-0-is c.in-Ok-Some.ensures.compiled in
    let accepted : Compiles source (asked_of c.args.options.now) (Some compiled) = subst (λ asked. Compiles source asked (Some compiled)) c.asked_entry.ensures found in
    IfOk-weaker c.open_compiled.result _ _
    (λ machine is. (program_view compiled.program, compiled.entry.0, is.0, (accepted.0, is.1), is.2))
    c.open_compiled.ensures.opened
