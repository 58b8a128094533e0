use Rattle.std.proofs.Common.{◌≡◌, ◌++◌, ◌∙◌, ap, sym, subst}
use Rattle.std.specs.Prelude.{IfOk}
use Rattle.std.proofs.lemmas.List.{append_assoc}
use Rattle.std.proofs.lemmas.Result.{IfOk-weaker}
use Rattle.typed_tree.specs.Views.{segments_view, stmt_view}
use Rattle.typed_tree.proofs.StatementRows.{switch_is}
use Rattle.mask_lowering.proofs.Rows.{block_is}
use Rattle.element_accesses.specs.Found.{accesses_in, own_in}
use Rattle.element_accesses.specs.Views.{founds_view}
use Rattle.element_accesses.proofs.finding.+finding.Goals as goal

pub add_statement-returns-in-Block : goal.add_statement-returns-in-Block
add_statement-returns-in-Block t c =
    let e = block_is c.args.statement.now c.in-Block.statements c.deref.result.now c.in-Block.is c.deref.ensures.value in
    subst (λ s. IfOk c.add_all.result (λ _. founds_view c.add_all.new.found.items ≡ founds_view c.args.found.now.items ++ accesses_in c.args.function s)) (sym e) c.add_all.ensures

pub add_statement-returns-in_ok-add_own-in-Switch :
    goal.add_statement-returns-in_ok-add_own-in-Switch
add_statement-returns-in_ok-add_own-in-Switch t c =
    let e = switch_is c.args.statement.now c.in-Switch.step c.in-Switch.selector c.in-Switch.segments c.deref-in-Switch.result.now c.in-Switch.is c.deref-in-Switch.ensures.value in
    let old = founds_view c.args.found.now.items in
    let own = own_in c.args.function (stmt_view c.args.statement.now) in
    let inner = accesses_in c.args.function (segments_view c.deref-in-Switch.result.now) in
    let whole = ap (accesses_in c.args.function) e in
    let owned = ap (own_in c.args.function) e in
    IfOk-weaker c.add_segments.result (λ _. founds_view c.add_segments.new.found.items ≡ founds_view c.add_own-in-Switch.new.found.items ++ inner)
    (λ _. founds_view c.add_segments.new.found.items ≡ old ++ accesses_in c.args.function (stmt_view c.args.statement.now))
    (λ _ is. is ∙ ap (λ l. l ++ inner) c.in_ok-add_own-in-Switch.ensures ∙ append_assoc old own inner ∙ ap (λ l. old ++ l) (ap (λ l. l ++ inner) owned ∙ sym whole)) c.add_segments.ensures
