use Rattle.std.proofs.Common.{◌≡◌, ◌∙◌, refl, ap, sym, Option, Some, None}
use Rattle.std.specs.Prelude.{is_some, ◌||◌}
use Rattle.gang_model.specs.Source.Names.{same_text}
use Rattle.gang_model.specs.Types.LibraryTable.{statement_call}
use Rattle.ispc_names_scopes.specs.Names.{statement_call_view}
use Rattle.ispc_names_scopes.specs.declared.library.StatementCall.{StatementCall as Call}
use Rattle.source_tree.specs.Tree.{function_view}
use Rattle.type_check_calls.proofs.FunctionNames.{found_any}
use Rattle.type_check_calls.proofs.whole.gives_value.Goals as goal

is_some_view : (call : Option Call) → is_some call ≡ is_some (statement_call_view call)
is_some_view None = refl
is_some_view (Some call) = refl

pub returns-then-is_function_name : goal.returns-then-is_function_name
returns-then-is_function_name c =
    let name = c.args.name.now in
    let functions = c.args.functions.now in
    c.if-is_function_name.true
    ∙ sym (ap (λ b. b || is_some (statement_call name))
    (found_any (λ f. same_text f.name name) (λ f. function_view f.now) functions
    ∙ (sym c.is_function_name.ensures ∙ c.if-is_function_name.true)))

pub returns-else-is_function_name : goal.returns-else-is_function_name
returns-else-is_function_name c =
    let name = c.args.name.now in
    let functions = c.args.functions.now in
    c.is_some.ensures
    ∙ (is_some_view c.statement_call.result
    ∙ (ap (λ call. is_some call) c.statement_call.ensures
    ∙ sym (ap (λ b. b || is_some (statement_call name))
    (found_any (λ f. same_text f.name name) (λ f. function_view f.now) functions
    ∙ (sym c.is_function_name.ensures ∙ c.if-is_function_name.false)))))
