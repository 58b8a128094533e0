use Rattle.std.proofs.Common.{◌≡◌, ℕ, List, map, ap, ◌∙◌, rules}
use Rattle.std.specs.Prelude.{◌==◌, filter, not}
use Rattle.arrayvec.proofs.ArrayVecLemmas.{filter-from_retain}
use Rattle.conditional_stops.specs.declared.table.Condition.{Condition}
use Rattle.conditional_stops.specs.Tables.{Table}
use Rattle.conditional_stops.specs.Views.{condition_view, table_of}
use Rattle.conditional_stops.proofs.Entries.{beside_viewed}
use Rattle.conditional_stops.proofs.table.Conditions.clear_condition.Goals as goal

pub returns : goal.returns
returns c =
    let old = c.args.self.now in
    let n = c.args.number in
    let left : List (ℕ × List ℕ) → Table = λ conditions. record (table_of old) { conditions = conditions } in
    let kept : c.retain.new.self.items ≡ filter (λ (x : Condition). not (x.number == n)) old.conditions.items =
    filter-from_retain _ _ _ (λ x b f' y called. search rules) _ _ c.retain.ensures.filtered in
    ap (λ xs. left (map condition_view xs)) kept ∙ ap left (beside_viewed condition_view n old.conditions.items)
