use Rattle.std.proofs.Common.{◌≡◌, ◌∙◌, ap, sym, subst, false, length, map}
use Rattle.std.specs.Prelude.{replicate}
use Rattle.std.proofs.lemmas.List.{length-map}
use Rattle.std.proofs.lemmas.Result.{IfOk-weaker}
use Rattle.gang_model.specs.Source.Parsed.{functions_in}
use Rattle.source_tree.specs.Tree.{tree_view}
use Rattle.typed_tree.specs.Views.{function_view, program_view}
use Rattle.lane_alone.proofs.PurePrograms.{functions_alike}
use Rattle.lane_pure.specs.Answers.{AreAnswers}
use Rattle.lane_pure.specs.Callers.{lists}
use Rattle.lane_pure.specs.Found.{IsSpread, with_impure}
use Rattle.lane_pure.proofs.Purity.{are_answers, as_many}
use Rattle.lane_pure.proofs.functions.pure_functions.Goals as goal

pub impure_by_themselves-requires : goal.impure_by_themselves-requires
impure_by_themselves-requires c =
    functions_alike (tree_view c.args.tree.now) (program_view c.args.program.now) c.requires ∙ length-map c.args.program.now.functions.items function_view ∙ sym (ap length c.deref.ensures.value)

pub add_callers-requires-clause-many : goal.add_callers-requires-clause-many
add_callers-requires-clause-many c =
    let functions = c.deref.result.now in
    ap length c.deref-2.ensures.value ∙ sym (length-map c.in_ok-callers.callers.items (λ list. list.items)) ∙ c.in_ok-callers.ensures.all
    ∙ length-map c.args.program.now.functions.items function_view ∙ sym (ap length c.deref.ensures.value)
    ∙ sym (as_many (functions_in (tree_view c.args.tree.now)) (map function_view functions) (length functions) c.in_ok-found.found.marks.items c.in_ok-found.ensures.marks) ∙ sym c.in_ok-found.found.marks.ok.0

pub returns : goal.returns
returns c =
    let source = tree_view c.args.tree.now in
    let program = program_view c.args.program.now in
    let callers = lists c.in_ok-callers.callers.items in
    let alone = c.in_ok-found.found.marks.items in
    let marks = c.add_callers.new.self.marks.items in
    let by_itself : alone ≡ with_impure 0 (functions_in source) program.functions (replicate (length program.functions) false) =
    c.in_ok-found.ensures.marks
    ∙ ap (λ fs. with_impure 0 (functions_in source) (map function_view fs) (replicate (length fs) false)) c.deref.ensures.value
    ∙ ap (λ n. with_impure 0 (functions_in source) program.functions (replicate n false)) (sym (length-map c.args.program.now.functions.items function_view)) in
    let spread : IsSpread callers alone marks = subst (λ vs. IsSpread (lists vs) alone marks) c.deref-2.ensures.value c.in_ok-add_callers.ensures in
    IfOk-weaker c.others.result _ (λ answers. AreAnswers source program answers.items)
    (λ answers turned. are_answers source program c.requires callers c.in_ok-callers.ensures alone marks by_itself spread answers.items turned) c.others.ensures
