use Rattle.std.proofs.Common.{◌∙◌, ap, subst, sym}
use Rattle.std.specs.Prelude.{option_map}
use Rattle.gang_model.specs.Running.Entry.{entry_of}
use Rattle.gang_model.specs.Source.Limits.{limit_refusal}
use Rattle.gang_model.specs.Types.Resolved.{program_of}
use Rattle.gang_model.specs.Types.SourceRefusals.{types_refusal}
use Rattle.source_tree.specs.Tree.{tree_view}
use Rattle.runnable_programs.specs.Sources.{HasVariablesOf}
use Rattle.ispc_compiler.proofs.Fronts.{tree_compiles}
use Rattle.ispc_compiler.proofs.front.compile_tree.Goals as goal

pub returns-clause-compiled : goal.returns-clause-compiled
returns-clause-compiled c =
    let source = tree_view c.args.tree in
    let asked = option_map (λ n. n.now) c.args.asked in
    let named = ap tree_view c.in_ok-named.ensures.named.0 in
    let checked = ap tree_view c.in_ok-checked.ensures.checked.0 ∙ named in
    tree_compiles c.requires.reads.0 source asked _ c.requires.reads.1
    c.in_ok-named.ensures.named.1
    (sym (ap types_refusal named) ∙ c.in_ok-checked.ensures.checked.1)
    (sym (ap limit_refusal (ap tree_view c.tree.ensures.value ∙ checked)) ∙ c.in_ok-check_limits.ensures.sound)
    (sym (ap program_of checked) ∙ c.into_program-program.ensures.program)
    (subst (λ s. HasVariablesOf s c.into_program-program.result) checked c.into_program-program.ensures.variables)
    (sym (ap (λ s. entry_of s asked) checked) ∙ (sym c.entry_of.ensures ∙ ap (option_map (λ f. f.0)) c.in-Some.is))
