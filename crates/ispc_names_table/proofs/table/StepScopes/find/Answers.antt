use Rattle.std.proofs.Common.{◌≡◌, ℕ, Some, ◌∙◌, sym, ap, arith, length, get_or, ◌<◌}
use Rattle.std.specs.Prelude.{slice_get, option_map}
use Rattle.std.proofs.lemmas.Option.{slice_get-map, slice_get-get_or}
use Rattle.gang_model.specs.Names.Scope.{declaration, names_at, unhidden}
use Rattle.ispc_names_table.specs.declared.table.Standing.{Standing}
use Rattle.ispc_names_table.specs.declared.table.StepScopes.{StepScopes}
use Rattle.ispc_names_table.specs.Scopes.{in_scope, standing_view, standings_view}
use Rattle.ispc_names_table.proofs.InnerNames.{declaration-unhidden}
use Rattle.ispc_names_table.proofs.table.StepScopes.find.Goals as goal

-- what is listed at a step of the table
names-at : (table : StepScopes) (step : ℕ) (s : Standing) → step < length table.standings.items → s ≡ get_or table.standings.items step s
    → names_at (slice_get (standings_view table) step) ≡ unhidden (in_scope table.declarations.items s.innermost)
names-at table step s lt is =
    ap names_at (slice_get-map (standing_view table.declarations.items) table.standings.items step
    ∙ ap (option_map (standing_view table.declarations.items)) (slice_get-get_or table.standings.items step s lt ∙ ap (λ x. Some x) (sym is)))

pub returns : goal.returns
returns c =
    let table = c.args.self.now in
    let s = c.in_ok-standing.standing.now in
    let read = c.in_ok-standing.ensures.lookup in
    let names = names-at table c.args.step s (omega (arith, read.3.0, ap length c.deref.ensures.value)) (read.1 ∙ ap (λ xs. get_or xs c.args.step s) c.deref.ensures.value) in
    c.found.ensures ∙ ap (λ ds. declaration (in_scope ds s.innermost) c.args.name.now) c.deref-2.ensures.value
    ∙ sym (ap (λ bs. declaration bs c.args.name.now) names ∙ declaration-unhidden (in_scope table.declarations.items s.innermost) c.args.name.now)
