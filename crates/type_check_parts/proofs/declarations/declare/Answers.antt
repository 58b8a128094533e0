use Rattle.std.specs.Prelude.{option_map}
use Rattle.std.proofs.Common.{◌∙◌, ◌∷◌, ap, false}
use Rattle.std.proofs.lemmas.Result.{IfOk-weaker, on_ok_weaker}
use Rattle.gang_types.specs.declared.places.VarId.TheVariants.{Local}
use Rattle.source_tree.specs.Expressions.{expr_view}
use Rattle.type_check_calls.specs.Calls.{context_view}
use Rattle.type_check_parts.proofs.Declaring.{declared-next_variable, declared-typed}
use Rattle.type_check_parts.proofs.Named.{declared-id}
use Rattle.type_check_parts.proofs.declarations.declare.Goals as goal

pub then_declare-requires : goal.then_declare-requires
then_declare-requires c = record { next = declared-id c.declared_with-declared.result (Local c.next.result) c.args.spec false false c.declared_with-declared.ensures ∙ ap Local c.next.ensures }

pub returns-clause-typed : goal.returns-clause-typed
returns-clause-typed c =
    let before = c.args.scope.now in
    IfOk-weaker c.then_declare.result _ _ (λ answer facts p.
    declared-typed c.args.name.now p c.args.place c.args.spec (option_map expr_view c.args.value.now) (context_view c.args.context.now) before.entries before.locals c.then_declare.new.scope.locals c.args.step.now
    c.declared_with-declared.result c.next.result c.variable_of.result c.is_none.result c.fault_if.result c.refuse-in_name.result c.declaration-stmt.result c.second_of-typed.result answer
    c.declared_with-declared.ensures c.next.ensures c.is_none.ensures c.fault_if.ensures c.refuse-in_name.ensures c.variable_of.ensures c.declaration-stmt.ensures
    c.second_of-typed.ensures facts.0 facts.1)
    c.then_declare.ensures.made

pub returns-clause-after : goal.returns-clause-after
returns-clause-after c =
    on_ok_weaker c.then_declare.result (λ entries. entries
    ∙ ap (λ n. n ∷ c.args.scope.now.entries) (declared-next_variable c.args.name.now c.declared_with-declared.result c.args.spec c.next.result c.args.scope.now.locals c.declared_with-declared.ensures c.next.ensures))
    c.then_declare.ensures.entries
