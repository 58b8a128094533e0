use Rattle.std.proofs.Common.{◌≡◌, ◌<◌, ◌∙◌, get_or, length, sym, ap, subst, true, false, Some, arith}
use Rattle.std.specs.Prelude.{map, slice_get}
use Rattle.gang_types.specs.declared.places.VarId.TheVariants.{Local}
use Rattle.gang_model.specs.Source.Names.{named, same_text}
use Rattle.gang_model.specs.Types.Resolved.{local_at}
use Rattle.ispc_names_table.specs.Scopes.{in_scope}
use Rattle.ispc_names_table.proofs.ListedNumbers.{is_listed, name_at}
use Rattle.typed_tree.specs.Views.{variable_view}
use Rattle.machine_names.specs.Found.{IsSeen, SeesFound}
use Rattle.machine_names.proofs.Listed.{found_listed, innermost_at, number_first, number_hidden, number_other, scope_numbers}
use Rattle.machine_names.proofs.names.local_named.Goals as goal
use Rattle.machine_names.proofs.names.local_named.Goals.{else-is_called-via-then-is_called+else-eq, else-is_called-via-else-is_called}

pub loop-number-init : goal.loop-number-init
loop-number-init g c =
    let f = c.args.function.now in
    ap (named c.args.name.now) (sym (scope_numbers (map variable_view f.variables.items) f.scopes.declarations.items f.scopes.standings.items c.args.step))

pub returns-then-eq : goal.returns-then-eq
returns-then-eq g c =
    let f = c.args.function.now in
    let vs = map variable_view f.variables.items in
    let ds = f.scopes.declarations.items in
    let ss = f.scopes.standings.items in
    let n = c.loop-number.number in
    let test = is_listed (name_at ds) (in_scope ds (innermost_at (slice_get ss c.args.step))) in
    let long = c.deref-declaration-items.ensures.value in
    let lt : n < length ds = omega (arith, ap length long, c.loop-number-test.true) in
    let listed = found_listed ds ss c.args.step n c.declaration-item.result c.deref-then-is_called.result.now c.find.result true lt (c.declaration-item.is ∙ ap (λ xs. get_or xs n c.declaration-item.result) long) c.deref-then-is_called.ensures.value c.find.ensures c.if-eq.ensures in
    let same = sym (subst (λ xs. true ≡ same_text (local_at (map variable_view xs) (Local n)).name c.args.name.now) c.deref.ensures.value c.if-is_called.ensures) in
    subst (λ o. SeesFound g.row.W o (Some c.shown_local.result)) (sym (number_first vs test c.args.name.now n (length ds) lt listed same) ∙ c.loop-number.invariant)
    (subst (λ xs. IsSeen g.row.W (local_at (map variable_view xs) (Local n)) c.shown_local.result) c.deref-then-eq.ensures.value c.shown_local.ensures)

pub loop-number-preserved : goal.loop-number-preserved
loop-number-preserved g c =
    let f = c.args.function.now in
    let vs = map variable_view f.variables.items in
    let ds = f.scopes.declarations.items in
    let ss = f.scopes.standings.items in
    let n = c.loop-number.number in
    let test = is_listed (name_at ds) (in_scope ds (innermost_at (slice_get ss c.args.step))) in
    let long = c.deref-declaration-items.ensures.value in
    let lt : n < length ds = omega (arith, ap length long, c.loop-number-test.true) in
    elim c.else-is_called.branch [
      | else-is_called-via-then-is_called+else-eq w ↦
          let hidden = found_listed ds ss c.args.step n c.declaration-item.result w.deref-then-is_called.result.now w.find.result false lt (c.declaration-item.is ∙ ap (λ xs. get_or xs n c.declaration-item.result) long) w.deref-then-is_called.ensures.value w.find.ensures w.if-eq.ensures in
          number_hidden vs test c.args.name.now n (length ds) lt hidden ∙ c.loop-number.invariant
      | else-is_called-via-else-is_called w ↦
          let other = sym (subst (λ xs. false ≡ same_text (local_at (map variable_view xs) (Local n)).name c.args.name.now) c.deref.ensures.value w.if-is_called.ensures) in
          number_other vs test c.args.name.now n (length ds) lt other ∙ c.loop-number.invariant
    ]
