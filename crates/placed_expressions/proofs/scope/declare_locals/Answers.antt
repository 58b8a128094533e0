use Rattle.std.proofs.Common.{◌≡◌, ◌+◌, ◌-◌, ◌<◌, ◌∷◌, ◌++◌, ◌∙◌, false, true, length, sym, ap, arith}
use Rattle.std.specs.Prelude.{map, slice_get}
use Rattle.gang_types.specs.declared.places.VarId.TheVariants.{Local}
use Rattle.gang_model.specs.Types.Resolved.{local_at}
use Rattle.ispc_names_table.specs.Scopes.{in_scope}
use Rattle.ispc_names_table.proofs.ListedNumbers.{is_listed, name_at}
use Rattle.typed_tree.specs.Views.{variable_view}
use Rattle.machine_names.proofs.Listed.{found_listed, from_number, innermost_at, scope_numbers}
use Rattle.frame_expressions.specs.Meanings.{variable_entry}
use Rattle.placed_expressions.proofs.Scopes.{local_hidden, local_more, local_none}
use Rattle.placed_expressions.proofs.scope.declare_locals.Goals as goal

pub loop-number-init : goal.loop-number-init
loop-number-init c =
    let f = c.args.function.now in
    let vs = map variable_view f.variables.items in
    let ds = f.scopes.declarations.items in
    let test = is_listed (name_at ds) (in_scope ds (innermost_at (slice_get f.scopes.standings.items c.args.step))) in
    let all = c.len-number.ensures in
    sym (ap (λ xs. map variable_entry xs ++ c.args.scope.now.entries) (local_none vs test c.len-number.result (length ds) (omega (arith, all, f.scopes.declarations.ok.0))))

pub loop-number-preserved : goal.loop-number-preserved
loop-number-preserved c =
    let f = c.args.function.now in
    let vs = map variable_view f.variables.items in
    let ds = f.scopes.declarations.items in
    let ss = f.scopes.standings.items in
    let test = is_listed (name_at ds) (in_scope ds (innermost_at (slice_get ss c.args.step))) in
    let old = c.args.scope.now.entries in
    let i = c.loop-number.number - 1 in
    let below : i < length ds = omega (arith, c.len-number.ensures, f.scopes.declarations.ok.0, c.loop-number.auto.number, c.loop-number-test.true) in
    let next : c.loop-number.number ≡ i + 1 = omega (arith, c.loop-number-test.true) in
    let hidden = found_listed ds ss c.args.step i c.index.result.now c.deref.result.now c.find.result false below c.index.ensures c.deref.ensures.value c.find.ensures c.if-eq.ensures in
    local_hidden vs test i (length ds) below old c.loop-number.scope.entries hidden
    (c.loop-number.invariant ∙ ap (λ k. map variable_entry (from_number vs test k (length ds)) ++ old) next)

pub loop-number-preserved-in-Continue-1 : goal.loop-number-preserved-in-Continue-1
loop-number-preserved-in-Continue-1 c =
    let f = c.args.function.now in
    let vs = map variable_view f.variables.items in
    let ds = f.scopes.declarations.items in
    let ss = f.scopes.standings.items in
    let test = is_listed (name_at ds) (in_scope ds (innermost_at (slice_get ss c.args.step))) in
    let old = c.args.scope.now.entries in
    let now = c.loop-number.scope.entries in
    let i = c.loop-number.number - 1 in
    let below : i < length ds = omega (arith, c.len-number.ensures, f.scopes.declarations.ok.0, c.loop-number.auto.number, c.loop-number-test.true) in
    let next : c.loop-number.number ≡ i + 1 = omega (arith, c.loop-number-test.true) in
    let listed = found_listed ds ss c.args.step i c.index.result.now c.deref.result.now c.find.result true below c.index.ensures c.deref.ensures.value c.find.ensures c.if-eq.ensures in
    local_more vs test i (length ds) below old now c.declare_local.new.scope.entries listed
    (c.loop-number.invariant ∙ ap (λ k. map variable_entry (from_number vs test k (length ds)) ++ old) next)
    (c.in_ok-declare_local.ensures ∙ ap (λ xs. variable_entry (local_at (map variable_view xs) (Local i)) ∷ now) c.deref-then-eq.ensures.value)

pub returns : goal.returns
returns c =
    let f = c.args.function.now in
    let vs = map variable_view f.variables.items in
    let ds = f.scopes.declarations.items in
    let ss = f.scopes.standings.items in
    let test = is_listed (name_at ds) (in_scope ds (innermost_at (slice_get ss c.args.step))) in
    let old = c.args.scope.now.entries in
    let start : c.loop-number.number ≡ 0 = omega (arith, c.loop-number-test.false) in
    c.loop-number.invariant ∙ ap (λ k. map variable_entry (from_number vs test k (length ds)) ++ old) start
    ∙ ap (λ xs. map variable_entry xs ++ old) (sym (scope_numbers vs ds ss c.args.step))
