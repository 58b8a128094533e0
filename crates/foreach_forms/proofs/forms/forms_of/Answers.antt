use Rattle.std.proofs.Common.{◌≡◌, ◌+◌, ◌++◌, ◌∙◌, add-one, ap, drop, map, sym}
use Rattle.typed_tree.specs.Views.{function_view, stmts_view}
use Rattle.foreach_forms.specs.Forms.{forms_from, forms_in, lines_at}
use Rattle.foreach_forms.proofs.Rows.{added, function_forms_more}
use Rattle.foreach_forms.proofs.forms.forms_of.Goals as goal

pub loop-number-preserved : goal.loop-number-preserved
loop-number-preserved c =
    let items = c.deref-function-items.result.now in
    let i = c.loop-number.number in
    let x = c.function-item.result in
    let here = forms_in i (lines_at x.scopes.standings.items) (stmts_view x.body.items) in
    let split : forms_from i (map function_view (drop i items)) ≡ here ++ forms_from (i + 1) (map function_view (drop (i + 1) items)) =
    function_forms_more items i i x c.loop-number-test.true c.function-item.is ∙ ap (λ n. here ++ forms_from n (map function_view (drop (i + 1) items))) (sym (add-one i)) in
    let is : c.add_all.new.forms.items ≡ c.loop-number.forms.items ++ here =
    c.in_ok-add_all.ensures.forms ∙ ap (λ standings. c.loop-number.forms.items ++ forms_in i (lines_at standings) (stmts_view c.deref.result.now)) c.as_slice-standings.ensures.value
    ∙ ap (λ body. c.loop-number.forms.items ++ forms_in i (lines_at x.scopes.standings.items) (stmts_view body)) c.deref.ensures.value in
    added c.loop-number.forms.items c.add_all.new.forms.items _ here _ _ is c.loop-number.invariant split
