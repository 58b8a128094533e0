use Rattle.std.proofs.Common.{◌≡◌, ℕ, List, map, ap, ◌∙◌, rules}
use Rattle.std.specs.Prelude.{◌==◌, filter, not}
use Rattle.arrayvec.proofs.ArrayVecLemmas.{filter-from_retain}
use Rattle.conditional_stops.specs.declared.table.Count.{Count}
use Rattle.conditional_stops.specs.Tables.{Table}
use Rattle.conditional_stops.specs.Views.{count_view, table_of}
use Rattle.conditional_stops.proofs.Entries.{beside_viewed}
use Rattle.conditional_stops.proofs.table.Conditions.clear_passes.Goals as goal

pub returns : goal.returns
returns c =
    let old = c.args.self.now in
    let n = c.args.number in
    let left : List (ℕ × ℕ) → Table = λ counts. record (table_of old) { counts = counts } in
    let kept : c.retain.new.self.items ≡ filter (λ (x : Count). not (x.number == n)) old.counts.items =
    filter-from_retain _ _ _ (λ x b f' y called. search rules) _ _ c.retain.ensures.filtered in
    ap (λ xs. left (map count_view xs)) kept ∙ ap left (beside_viewed count_view n old.counts.items)
