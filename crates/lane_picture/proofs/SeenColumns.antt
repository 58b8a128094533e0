-- Columns, one after another.
use Rattle.std.proofs.Common.{◌≡◌, refl, sym, ap, ◌∙◌, subst, ℕ, zero, suc, ◌+◌, List, [], ◌∷◌, ◌++◌, length, Some, add-one}
use Rattle.gang_model.specs.Types.Tree.{Program}
use Rattle.gang_model.specs.Running.State.{State}
use Rattle.gang_model.specs.Texts.Text.{where_text}
use Rattle.debug_traits.specs.declared.machine.Position.{Position}
use Rattle.debug_traits.specs.Machines.{position_text}
use Rattle.lane_picture.specs.declared.columns.Column.{Column}
use Rattle.lane_picture.specs.Seen.{AreColumns, IsColumnOf, StandsAt, next_state, state_after}

module _ (p : Program) where
  after_suc : (n : ℕ) (state : State) → state_after p (suc n) state ≡ next_state p (state_after p n state)
  after_suc zero state = refl
  after_suc (suc n) state = after_suc n (next_state p state)

  -- the state after one more step
  pub after_more : (n : ℕ) (state : State) → state_after p (n + 1) state ≡ next_state p (state_after p n state)
  after_more n state = let more : n + 1 ≡ suc n = add-one n in ap (λ k. state_after p k state) more ∙ after_suc n state

  -- one column more
  pub with_column : (state : State) (columns : List Column) (column : Column) → AreColumns p state columns → StandsAt p (state_after p (length columns) state) column → AreColumns p state (columns ++ column ∷ [])
  with_column state [] column are stands = (stands, tt)
  with_column state (first ∷ columns) column are stands = (are.0, with_column (next_state p state) columns column are.1 stands)

  -- the column of a position where a state stands
  pub stands_at : (state : State) (position : Position) (from to : ℕ) (column : Column) → where_text p state ≡ position_text (Some position) → IsColumnOf position from to column → StandsAt p state column
  stands_at state position from to column place is =
      (position.function.now, position.width, rw (is.place, is.depth, is.lanes) place)

  -- columns with that of the position where the run stands now
  pub columns_more : (first here : State) (taken : ℕ) (position : Position) (from to : ℕ) (column : Column) (old new : List Column) → length old ≡ taken → here ≡ state_after p taken first
      → where_text p here ≡ position_text (Some position) → IsColumnOf position from to column → new ≡ old ++ column ∷ [] → AreColumns p first old → AreColumns p first new
  columns_more first here taken position from to column old new each stood place is more are =
      let reached : here ≡ state_after p (length old) first = stood ∙ ap (λ n. state_after p n first) (sym each) in
      subst (AreColumns p first) (sym more) (with_column first old column are (subst (λ state. StandsAt p state column) reached (stands_at here position from to column place is)))
