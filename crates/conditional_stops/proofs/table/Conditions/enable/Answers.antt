use Rattle.std.proofs.Common.{◌≡◌, ℕ, List, ap, rules}
use Rattle.std.specs.Prelude.{◌==◌, filter, not}
use Rattle.arrayvec.proofs.ArrayVecLemmas.{filter-from_retain}
use Rattle.conditional_stops.specs.Tables.{Table}
use Rattle.conditional_stops.specs.Views.{table_of}
use Rattle.conditional_stops.proofs.table.Conditions.enable.Goals as goal

pub returns : goal.returns
returns c =
    let old = c.args.self.now in
    let n = c.args.number in
    let left : List ℕ → Table = λ disabled. record (table_of old) { disabled = disabled } in
    let kept : c.retain.new.self.items ≡ filter (λ (x : ℕ). not (x == n)) old.disabled.items =
    filter-from_retain _ _ _ (λ x b f' y called. search rules) _ _ c.retain.ensures.filtered in
    ap left kept
