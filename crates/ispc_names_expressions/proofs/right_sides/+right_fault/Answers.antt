use Rattle.std.proofs.Common.{◌≡◌, ◌∙◌, ap, sym, true, List, Vec, Global, ℕ}
use Rattle.std.specs.Prelude.{if◌then◌else◌}
use Rattle.gang_types.specs.declared.places.Place.{Place}
use Rattle.gang_model.specs.Source.Judged.{least_fault}
use Rattle.gang_model.specs.Types.LibraryTable.{statement_call}
use Rattle.gang_model.specs.Names.NameFaults.{right_names, whole_call_names, names_in, stands_whole}
use Rattle.gang_model.specs.Source.Parsed.{Name, ParsedCall}
use Rattle.gang_model.specs.Names.Scope.{Environment}
use Rattle.source_tree.specs.declared.expressions.Expr.{Expr, Call}
use Rattle.source_tree.specs.declared.expressions.Arg.{Arg}
use Rattle.source_tree.specs.Expressions.{expr_view, args_view}
use Rattle.source_tree.proofs.ArgumentRows.{view_call}
use Rattle.ispc_names_expressions.proofs.right_sides.+right_fault.Goals as goal

right_call : (e : Expr) (at : Place) (n : Vec ℕ Global) (v : Vec Arg Global) (functions : List Name) (env : Environment)
    → e ≡ Call at n v → stands_whole functions n.items ≡ true
    → right_names (expr_view e) functions env ≡ whole_call_names (statement_call n.items) at (args_view v.items) functions env
right_call e at n v functions env is whole =
    ap (λ x. right_names (expr_view x) functions env) is
    ∙ (ap (λ x. right_names x functions env) (view_call at n v)
    ∙ ap (λ b. if b then whole_call_names (statement_call n.items) at (args_view v.items) functions env else names_in (ParsedCall at n.items (args_view v.items)) functions env) whole)

pub returns-then-stands_whole : goal.returns-then-stands_whole
returns-then-stands_whole t c =
    let functions = c.args.functions.now in
    let env = c.args.scopes.now.environment in
    let at = c.in-Call.place in
    let n = c.in-Call.name in
    let v = c.in-Call.args in
    let whole = sym (ap (stands_whole functions) c.deref-in-Call.ensures.value) ∙ (sym c.stands_whole.ensures ∙ c.if-stands_whole.true) in
    c.whole_call_fault.ensures
    ∙ (ap (λ w. least_fault (whole_call_names w at (args_view c.deref-then-stands_whole-2.result.now) functions env))
    (c.statement_call.ensures ∙ ap statement_call c.deref-then-stands_whole.ensures.value)
    ∙ (ap (λ es. least_fault (whole_call_names (statement_call n.items) at (args_view es) functions env)) c.deref-then-stands_whole-2.ensures.value
    ∙ sym (ap least_fault (right_call c.args.expr.now at n v functions env c.in-Call.is whole))))
