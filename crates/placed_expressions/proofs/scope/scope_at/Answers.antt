use Rattle.std.proofs.Common.{◌≡◌, ◌++◌, ◌∙◌, length, refl, ap, subst, Some, None}
use Rattle.std.specs.Prelude.{slice_get}
use Rattle.std.proofs.lemmas.Option.{slice_get_past, slice_get_read}
use Rattle.type_check_scopes.specs.Entries.{Typing}
use Rattle.placed_expressions.proofs.Scopes.{all_declared, file_entries, none_declared}
use Rattle.placed_expressions.proofs.scope.scope_at.Goals as goal

pub returns-in_default : goal.returns-in_default
returns-in_default c =
    let p = c.args.program.now in
    let n = c.args.spot.function.0 in
    let by_file = c.in_ok-declare_globals.ensures ∙ ap (λ gs. file_entries gs ++ c.new-scope.result.entries) c.deref.ensures.value ∙ ap (λ (t : Typing). file_entries p.globals.items ++ t.entries) c.new-scope.ensures in
    none_declared p c.args.spot c.declare_globals.new.scope.entries
    (subst (λ fs. slice_get fs n ≡ None) c.deref-2.ensures.value (slice_get_past c.deref-2.result.now n c.in_default.ensures.lookup.3)) by_file

pub returns : goal.returns
returns c =
    let p = c.args.program.now in
    let n = c.args.spot.function.0 in
    let f = c.in-Some.function.now in
    let look = c.in-Some.ensures.lookup in
    let by_file = c.in_ok-declare_globals.ensures ∙ ap (λ gs. file_entries gs ++ c.new-scope.result.entries) c.deref.ensures.value ∙ ap (λ (t : Typing). file_entries p.globals.items ++ t.entries) c.new-scope.ensures in
    all_declared p c.args.spot f c.declare_globals.new.scope.entries c.declare_locals.new.scope.entries
    (subst (λ fs. slice_get fs n ≡ Some f) c.deref-2.ensures.value (slice_get_read c.deref-2.result.now (length c.deref-2.result.now) n f refl look.3.0 look.1)) by_file c.in_ok-declare_locals.ensures
