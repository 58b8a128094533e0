use Rattle.std.proofs.Common.{◌≡◌, ◌+◌, ◌<◌, ◌≤◌, ◌∷◌, ◌∙◌, length, sym, ap, subst, true, false, arith}
use Rattle.std.specs.Prelude.{map, slice_get}
use Rattle.gang_types.specs.declared.places.VarId.TheVariants.{Local}
use Rattle.gang_model.specs.Types.Resolved.{local_at}
use Rattle.ispc_names_table.specs.Scopes.{in_scope}
use Rattle.ispc_names_table.proofs.ListedNumbers.{is_listed, name_at}
use Rattle.typed_tree.specs.Views.{variable_view}
use Rattle.machine_names.specs.Found.{IsNamed}
use Rattle.machine_names.specs.Listed.{is_of}
use Rattle.machine_names.proofs.Listed.{found_listed, innermost_at, kind_end, kind_first, kind_from, kind_hidden, kind_other, listed_rest}
use Rattle.machine_names.proofs.listing.next_listed.Goals as goal
use Rattle.machine_names.proofs.listing.next_listed.Goals.{else-eq-via-then-eq+else-is_of, else-eq-via-else-eq}

pub returns-then-is_of-clause-next : goal.returns-then-is_of-clause-next
returns-then-is_of-clause-next g c =
    let f = c.args.function.now in
    let vs = map variable_view f.variables.items in
    let ds = f.scopes.declarations.items in
    let ss = f.scopes.standings.items in
    let n = c.loop-number.number in
    let test = is_listed (name_at ds) (in_scope ds (innermost_at (slice_get ss c.args.step))) in
    let lt : n < length ds = omega (arith, c.len-number-end.ensures, c.loop-number-test.true) in
    let listed = found_listed ds ss c.args.step n c.index.result.now c.deref.result.now c.find-found.result true lt c.index.ensures c.deref.ensures.value c.find-found.ensures c.if-eq.ensures in
    let own = sym (subst (λ xs. true ≡ is_of c.args.kind (local_at (map variable_view xs) (Local n))) c.deref-then-eq.ensures.value c.if-is_of.ensures) in (
      local_at vs (Local n),
      listed_rest c.args.kind vs ds ss c.args.step c.args.from ∙ c.loop-number.invariant.0 ∙ kind_first c.args.kind vs test n (length ds) lt listed own
          ∙ ap (λ us. local_at vs (Local n) ∷ us) (sym (listed_rest c.args.kind vs ds ss c.args.step (n + 1))),
      subst (λ xs. IsNamed g.row.W (local_at (map variable_view xs) (Local n)) c.named_local.result) c.deref-then-is_of.ensures.value c.named_local.ensures,
    )

pub loop-number-preserved : goal.loop-number-preserved
loop-number-preserved g c =
    let f = c.args.function.now in
    let vs = map variable_view f.variables.items in
    let ds = f.scopes.declarations.items in
    let ss = f.scopes.standings.items in
    let n = c.loop-number.number in
    let test = is_listed (name_at ds) (in_scope ds (innermost_at (slice_get ss c.args.step))) in
    let lt : n < length ds = omega (arith, c.len-number-end.ensures, c.loop-number-test.true) in
    let same : kind_from c.args.kind vs test (n + 1) (length ds) ≡ kind_from c.args.kind vs test n (length ds) = elim c.else-eq.branch [
      | else-eq-via-then-eq+else-is_of u ↦
          kind_other c.args.kind vs test n (length ds) lt (sym (subst (λ xs. false ≡ is_of c.args.kind (local_at (map variable_view xs) (Local n))) u.deref-then-eq.ensures.value u.if-is_of.ensures))
      | else-eq-via-else-eq u ↦
          kind_hidden c.args.kind vs test n (length ds) lt (found_listed ds ss c.args.step n c.index.result.now c.deref.result.now c.find-found.result false lt c.index.ensures c.deref.ensures.value c.find-found.ensures u.if-eq.ensures)
    ] in
    (c.loop-number.invariant.0 ∙ sym same, omega (arith, c.loop-number.invariant.1))

pub returns-clause-next : goal.returns-clause-next
returns-clause-next g c =
    let f = c.args.function.now in
    let vs = map variable_view f.variables.items in
    let ds = f.scopes.declarations.items in
    let ss = f.scopes.standings.items in
    let test = is_listed (name_at ds) (in_scope ds (innermost_at (slice_get ss c.args.step))) in
    let past : length ds ≤ c.loop-number.number = omega (arith, c.len-number-end.ensures, c.loop-number-test.false) in
    listed_rest c.args.kind vs ds ss c.args.step c.args.from ∙ c.loop-number.invariant.0 ∙ kind_end c.args.kind vs test c.loop-number.number (length ds) past
