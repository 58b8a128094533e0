use Rattle.std.proofs.Common.{◌≡◌, ◌∙◌, ap, sym, true, List, Vec, Global, ℕ, Some, None, map}
use Rattle.std.specs.Prelude.{if◌then◌else◌}
use Rattle.gang_types.specs.declared.places.Place.{Place}
use Rattle.gang_model.specs.Types.Calls.{WholeCall, gives_value, whole_call}
use Rattle.gang_model.specs.Source.Parsed.{Name, ParsedArgs, ParsedFunction}
use Rattle.source_tree.specs.declared.expressions.Expr.{Expr, Call}
use Rattle.source_tree.specs.declared.expressions.Arg.{Arg}
use Rattle.source_tree.specs.Expressions.{expr_view, args_view}
use Rattle.source_tree.proofs.ArgumentRows.{view_call}
use Rattle.source_tree.specs.Tree.{function_view}
use Rattle.type_check_calls.proofs.whole.+whole_call.Goals as goal

-- a call that stands whole
abbrev called : Place → Name → ParsedArgs → WholeCall
called at name args = record { at = at; name = name; args = args }

of_call : (e : Expr) (at : Place) (n : Vec ℕ Global) (v : Vec Arg Global) (functions : List ParsedFunction)
    → e ≡ Call at n v → gives_value functions n.items ≡ true
    → whole_call functions (expr_view e) ≡ Some (called at n.items (args_view v.items))
of_call e at n v functions is whole =
    ap (λ x. whole_call functions (expr_view x)) is
    ∙ (ap (λ x. whole_call functions x) (view_call at n v)
    ∙ ap (λ b. if b then Some (called at n.items (args_view v.items)) else None) whole)

pub returns-in-Call : goal.returns-in-Call
returns-in-Call t c =
    let functions = map (λ f. function_view f.now) c.args.functions.now in
    let at = c.in-Call.place in
    let n = c.in-Call.name in
    let v = c.in-Call.args in
    let whole = sym (ap (gives_value functions) c.deref-in-Call-1.ensures.value) ∙ (sym c.gives_value.ensures ∙ c.if-gives_value.true) in
    ap (λ name. Some (called at name (args_view c.deref-in-Call-2.result.now))) c.deref-in-Call.ensures.value
    ∙ (ap (λ args. Some (called at n.items (args_view args))) c.deref-in-Call-2.ensures.value
    ∙ sym (of_call c.args.expr.now at n v functions c.in-Call.is whole))
