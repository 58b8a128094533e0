use Rattle.std.proofs.Common.{◌≡◌, ◌∙◌, ◌++◌, ap, map, subst, sym}
use Rattle.std.specs.Prelude.{IfOk}
use Rattle.std.proofs.lemmas.List.{append-nil}
use Rattle.typed_tree.specs.Views.{arg_view, rounds_view, stmt_view}
use Rattle.typed_tree.proofs.StatementRows.{view_block}
use Rattle.element_accesses.specs.Found.{args_in, own_in, rounds_in}
use Rattle.element_accesses.specs.Views.{founds_view}
use Rattle.element_accesses.proofs.Following.{own_of_rows}
use Rattle.element_accesses.proofs.finding.add_own.Goals as goal

pub returns-in-ForEach : goal.returns-in-ForEach
returns-in-ForEach c =
    let e = ap (λ s. own_in c.args.function (stmt_view s)) c.in-ForEach.is in
    let here = ap (λ spot. rounds_in spot (rounds_view c.in-ForEach.rounds)) (sym c.spot_of-in-ForEach.ensures) in
    subst (λ l. IfOk c.add_rounds.result (λ _. founds_view c.add_rounds.new.found.items ≡ founds_view c.args.found.now.items ++ l)) (sym (e ∙ here)) c.add_rounds.ensures

pub returns-in-Call : goal.returns-in-Call
returns-in-Call c =
    let e = ap (λ s. own_in c.args.function (stmt_view s)) c.in-Call.is in
    let here = ap (λ spot. args_in spot (map arg_view c.in-Call.args.items)) (sym c.spot_of-in-Call.ensures) in
    let given = ap (λ l. args_in c.spot_of-in-Call.result (map arg_view l)) (sym c.deref-in-Call.ensures.value) in
    subst (λ l. IfOk c.add_args.result (λ _. founds_view c.add_args.new.found.items ≡ founds_view c.args.found.now.items ++ l)) (sym (e ∙ here ∙ given)) c.add_args.ensures

pub returns-in-Block : goal.returns-in-Block
returns-in-Block c =
    let old = founds_view c.args.found.now.items in
    let e = ap (λ s. own_in c.args.function (stmt_view s)) c.in-Block.is ∙ ap (own_in c.args.function) (view_block c.in-Block.field-0) ∙ own_of_rows c.args.function c.in-Block.field-0.items in
    sym (append-nil old) ∙ ap (λ l. old ++ l) (sym e)
