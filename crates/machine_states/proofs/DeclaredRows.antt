-- The entry's frame has each scalar parameter that an input gives.
use Rattle.std.proofs.Common.{◌≡◌, refl, ap, ◌∙◌, ℕ, zero, suc, true, false, List, [], ◌∷◌, Some}
use Rattle.std.specs.Prelude.{slice_get}
use Rattle.std.proofs.lemmas.Option.{none-some, same_Some}
use Rattle.gang_types.specs.declared.places.VarId.{VarId}
use Rattle.gang_types.specs.declared.places.VarId.TheVariants.{File, Local}
use Rattle.gang_model.specs.Debugger.Events.{Given, Row, with_parameter, with_row, with_rows}
use Rattle.gang_model.specs.Running.State.{same_id}
use Rattle.machine_states.specs.Declared.{has_entry}
use Rattle.machine_states.proofs.DeclaredLists.{or_back, or_front}
use Rattle.machine_states.proofs.StoreWords.{itself}

-- a row takes no variable away
module _ (v : VarId) (row : Row) (given : Given) (has : has_entry given.passed.vars v ≡ true) where
  parameter_keeps : (n : ℕ) → has_entry (with_parameter n row given).passed.vars v ≡ true
  parameter_keeps n = by row.variable.is_array refl
    where
      by : (b : _) → row.variable.is_array ≡ b → has_entry (with_parameter n row given).passed.vars v ≡ true
      by true is = rw is has
      by false is = rw is (or_back (same_id (Local n) v) (has_entry given.passed.vars v) has)

  row_keeps : (id : VarId) → has_entry (with_row id row given).passed.vars v ≡ true
  row_keeps (File n) = has
  row_keeps (Local n) = parameter_keeps n

rows_keep : (v : VarId) (rows : List Row) (given : Given) → has_entry given.passed.vars v ≡ true → has_entry (with_rows rows given).passed.vars v ≡ true
rows_keep v [] given has = has
rows_keep v (row ∷ rows) given has = rows_keep v rows (with_row row.variable.id row given) (row_keeps v row given has row.variable.id)

row_declares : (row : Row) (given : Given) (n : ℕ) → row.variable.is_array ≡ false → has_entry (with_row (Local n) row given).passed.vars (Local n) ≡ true
row_declares row given n scalar = rw scalar (or_front (same_id (Local n) (Local n)) (has_entry given.passed.vars (Local n)) (itself (Local n)))

-- the row of a scalar parameter declares it
pub rows_declare : (rows : List Row) (given : Given) (i : ℕ) (row : Row) (n : ℕ) → slice_get rows i ≡ Some row → row.variable.id ≡ Local n → row.variable.is_array ≡ false
    → has_entry (with_rows rows given).passed.vars (Local n) ≡ true
rows_declare [] given i row n is id scalar = absurd (none-some row is)
rows_declare (first ∷ rows) given zero row n is id scalar =
    let same = same_Some first row is in
    let own : first.variable.id ≡ Local n = ap (λ (r : Row). r.variable.id) same ∙ id in
    let declares = row_declares first given n (ap (λ (r : Row). r.variable.is_array) same ∙ scalar) in
    rows_keep (Local n) rows (with_row first.variable.id first given) (ap (λ v. has_entry (with_row v first given).passed.vars (Local n)) own ∙ declares)
rows_declare (first ∷ rows) given (suc i) row n is id scalar = rows_declare rows (with_row first.variable.id first given) i row n is id scalar
