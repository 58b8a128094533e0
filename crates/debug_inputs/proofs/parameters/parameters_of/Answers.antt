use Rattle.std.proofs.Common.{◌≡◌, ◌+◌, ◌-◌, ◌<◌, ◌++◌, ◌∷◌, [], ◌∙◌, get_or, length, sym, ap, subst, true, false, Some, None, arith}
use Rattle.std.specs.Prelude.{filter, map, slice_get}
use Rattle.std.proofs.lemmas.List.{length-map, map-append}
use Rattle.gang_model.specs.Debugger.Positions.{scope_of}
use Rattle.gang_model.specs.Types.Resolved.{standing_with}
use Rattle.ispc_names_table.specs.Scopes.{in_scope, standing_view, standings_view}
use Rattle.ispc_names_table.proofs.ListedNumbers.{is_listed, name_at}
use Rattle.typed_tree.specs.Views.{function_view, variable_view}
use Rattle.machine_names.proofs.Listed.{found_listed, innermost_at, scope_numbers}
use Rattle.debug_inputs.specs.Parameters.{parameter_at}
use Rattle.debug_inputs.proofs.ListedParameters.{no_parameter_listed, parameter_hidden, parameter_listed, parameters_from}
use Rattle.debug_inputs.proofs.parameters.parameters_of.Goals as goal
use Rattle.debug_inputs.proofs.parameters.parameters_of.Goals.{in-Some+in_ok-push, in_default}

pub loop-number-init : goal.loop-number-init
loop-number-init c =
    let f = c.args.function.now in
    let vs = map variable_view f.variables.items in
    let ds = f.scopes.declarations.items in
    let ss = f.scopes.standings.items in
    let closing = c.saturating_sub-closing.result in
    let long : length (function_view f).standings ≡ length ss = length-map (standings_view f.scopes) (standing_with vs) ∙ length-map ss (standing_view ds) in
    let last : closing ≡ length (function_view f).standings - 1 = omega (arith, long, c.saturating_sub-closing.ensures, c.len.ensures, f.scopes.standings.ok.0) in
    ap (λ ps. map (λ v. variable_view v.now) ps ++ parameters_from vs (is_listed (name_at ds) (in_scope ds (innermost_at (slice_get ss closing)))) 0 (length ds)) c.new-parameters.ensures.items
    ∙ (ap (filter (λ v. v.is_parameter)) (sym (scope_numbers vs ds ss closing))
    ∙ ap (λ k. filter (λ v. v.is_parameter) (scope_of (slice_get (function_view f).standings k))) last)

pub loop-number-preserved-then-not-is_listed : goal.loop-number-preserved-then-not-is_listed
loop-number-preserved-then-not-is_listed c =
    let f = c.args.function.now in
    let vs = map variable_view f.variables.items in
    let ds = f.scopes.declarations.items in
    let ss = f.scopes.standings.items in
    let n = c.loop-number.number in
    let closing = c.saturating_sub-closing.result in
    let test = is_listed (name_at ds) (in_scope ds (innermost_at (slice_get ss closing))) in
    let so_far = map (λ v. variable_view v.now) c.loop-number.parameters.items in
    let long = c.deref-declaration-items.ensures.value in
    let lt : n < length ds = omega (arith, ap length long, c.loop-number-test.true) in
    let item = c.declaration-item.is ∙ ap (λ xs. get_or xs n c.declaration-item.result) long in
    let hidden = found_listed ds ss closing n c.declaration-item.result c.deref.result.now c.find.result false lt item c.deref.ensures.value c.find.ensures c.if-not-is_listed.ensures in
    ap (λ us. so_far ++ us) (parameter_hidden vs test n (length ds) lt hidden) ∙ c.loop-number.invariant

pub loop-number-preserved : goal.loop-number-preserved
loop-number-preserved c =
    let f = c.args.function.now in
    let vs = map variable_view f.variables.items in
    let ds = f.scopes.declarations.items in
    let ss = f.scopes.standings.items in
    let n = c.loop-number.number in
    let closing = c.saturating_sub-closing.result in
    let test = is_listed (name_at ds) (in_scope ds (innermost_at (slice_get ss closing))) in
    let so_far = map (λ v. variable_view v.now) c.loop-number.parameters.items in
    let long = c.deref-declaration-items.ensures.value in
    let lt : n < length ds = omega (arith, ap length long, c.loop-number-test.true) in
    let item = c.declaration-item.is ∙ ap (λ xs. get_or xs n c.declaration-item.result) long in
    let rest = parameters_from vs test (n + 1) (length ds) in
    let listed = found_listed ds ss closing n c.declaration-item.result c.deref.result.now c.find.result true lt item c.deref.ensures.value c.find.ensures c.if-not-is_listed.ensures in
    elim c.match-parameter.branch [
      | in-Some+in_ok-push w ↦
          let is = subst (λ xs. Some (variable_view w.in-Some.parameter.now) ≡ parameter_at (map variable_view xs) n) c.deref-in-loop-number.ensures.value w.in-Some.ensures in
          ap (λ ps. map (λ v. variable_view v.now) ps ++ rest) (ap (λ ps. ps.items) w.parameters-is ∙ w.in_ok-push.ensures.items)
          ∙ (ap (λ us. us ++ rest) (map-append (λ v. variable_view v.now) c.loop-number.parameters.items (w.in-Some.parameter ∷ []))
          ∙ (parameter_listed vs test n (length ds) (variable_view w.in-Some.parameter.now) so_far lt listed is ∙ c.loop-number.invariant))
      | in_default w ↦
          ap (λ ps. map (λ v. variable_view v.now) ps.items ++ rest) w.parameters-is
          ∙ (ap (λ us. so_far ++ us) (no_parameter_listed vs test n (length ds) lt listed (subst (λ xs. None ≡ parameter_at (map variable_view xs) n) c.deref-in-loop-number.ensures.value w.in_default.ensures)) ∙ c.loop-number.invariant)
    ]
