use Rattle.std.proofs.Common.{◌∙◌, ◌-◌, ap, List, length, map, option_map, sym}
use Rattle.std.specs.Prelude.{slice_get}
use Rattle.ispc_names_table.specs.declared.table.Standing.{Standing}
use Rattle.typed_tree.specs.Views.{variable_view}
use Rattle.adapter_replies.proofs.EndFrames.{closing_is}
use Rattle.adapter_replies.proofs.ends.closing_place.Goals as goal

pub returns : goal.returns
returns c =
    let f = c.args.function.now in
    c.place_at.ensures
    ∙ ap (λ n. option_map (λ (s : Standing). s.place) (slice_get c.as_slice-standings.result.now n)) c.saturating_sub.ensures
    ∙ ap (λ (ss : List Standing). option_map (λ (s : Standing). s.place) (slice_get ss (length ss - 1))) c.as_slice-standings.ensures.value
    ∙ sym (closing_is (map variable_view f.variables.items) f.scopes.declarations.items f.scopes.standings.items)
