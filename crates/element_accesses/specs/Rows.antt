-- The accesses of a program with what is counted of each.
use Rattle.std.specs.Prelude.{◌≡◌, ◌^◌, ◌+◌, ℕ, Bool, true, false, ◌&&◌, List, [], ◌∷◌, Option, Some, None, slice_get}
use Rattle.gang_types.specs.declared.places.Spot.{Spot}
use Rattle.gang_types.specs.declared.types.IntType.{IntType}
use Rattle.gang_types.specs.declared.types.Rate.{Rate}
use Rattle.gang_model.specs.Source.Parsed.{ParsedExpr}
use Rattle.gang_model.specs.Running.Value.{value}
use Rattle.gang_model.specs.Debugger.Debugger.{Debugger, Setting, now}
use Rattle.typed_tree.specs.declared.expressions.Expr.{Expr}
use Rattle.typed_tree.specs.declared.program.Program.{Program}
use Rattle.typed_tree.specs.Views.{expr_view}
use Rattle.expression_code.specs.Accepted.{IsAccepted}
use Rattle.expression_runs.specs.Correct.{Computes}
use Rattle.expression_runs.specs.Room.{HasRoom}
use Rattle.debug_traits.specs.Frames.{spot_at, state_at}
use Rattle.frame_expressions.specs.Lanes.{lanes_at}
use Rattle.frame_expressions.specs.Meanings.{Means, entries_at}
use Rattle.element_touches.specs.Counted.{IsFew, none}
use Rattle.element_accesses.specs.declared.accesses.Access.{Access}
use Rattle.element_accesses.specs.Found.{Accessed}
use Rattle.element_accesses.specs.Shown.{array_name, line_at}
use Rattle.element_accesses.specs.declared.step_rows.FunctionRows.{FunctionRows}
use Rattle.element_accesses.specs.declared.step_rows.Stretch.{Stretch}
use Rattle.element_accesses.specs.StepRows.{is_within, stretch_at}
use Rattle.element_accesses.specs.Touched.{is_same, with_value}

-- an access of a program of which nothing is counted, with its line, the name of its array, and code that computes its index
pub record IsRow (p : Program) (access : Access) (accessed : Accessed) : Type 0 where
  pub spot : access.spot ≡ accessed.spot
  pub line : access.line ≡ line_at (slice_get p.functions.items accessed.spot.function.0) accessed.spot.number
  pub array : access.array ≡ accessed.array
  pub name : access.name.items ≡ array_name p accessed.spot accessed.array
  pub way : access.way ≡ accessed.way
  pub is_sure : access.is_sure ≡ accessed.is_sure
  pub index : Expr
  pub index_is : expr_view index ≡ accessed.index
  pub computes : Computes index access.code.items
  pub room : IsAccepted accessed.index → HasRoom accessed.index
  pub done : access.done ≡ none
  pub tried : access.tried ≡ none

-- these are those accesses, in order
abbrev pub AreRows : Program → List Access → List Accessed → Type 0
AreRows p [] [] = Unit {0}
AreRows p [] (accessed ∷ others) = ⊥
AreRows p (access ∷ rows) [] = ⊥
AreRows p (access ∷ rows) (accessed ∷ others) = IsRow p access accessed × AreRows p rows others

-- what was noted is kept
abbrev pub kept : Access → Access
kept access = record access { done = access.tried }

-- whether an access is counted at a step
abbrev pub stands_at : Access → Spot → Bool
stands_at access spot = access.is_sure && is_same access.spot spot

-- an access is as it was but for what is tried, which has with it what the access touches in the step that the machine stands at; and an
-- access that is not counted there is as it was
pub record IsNotedOne {T : Type 0} (stands : T → Setting → Debugger → Type 0) (machine : T) (depth : ℕ) (spot : Spot) (old new : Access) : Type 0 where
  pub others : new ≡ record old { tried = new.tried }
  pub elsewhere : stands_at old spot ≡ false → new ≡ old
  pub few : (most : ℕ) → IsFew most old.tried → IsFew (most + 16) new.tried
  pub here : stands_at old spot ≡ true → (s : Setting) (d : Debugger) (written : ParsedExpr) (type : IntType) (rate : Rate) → stands machine s d
      → spot_at s.program depth (now s d) ≡ Some spot → (means : Means written (entries_at s.program spot) type rate old.code.items) → IsFew (2 ^ 40) old.tried
      → new.tried ≡ with_value (lanes_at depth (now s d)) (value (expr_view means.tree) (lanes_at depth (now s d)) (state_at depth (now s d))) old.tried

-- the same of accesses that may be there
abbrev pub IsNoted : {T : Type 0} (stands : T → Setting → Debugger → Type 0) (machine : T) (depth : ℕ) (spot : Spot) → (old new : Option Access) → Type 0
IsNoted stands machine depth spot None new = new ≡ None
IsNoted stands machine depth spot (Some old) new = (access : Access) × (new ≡ Some access) × IsNotedOne stands machine depth spot old access

-- each row is one of those of its step
abbrev pub ArePlaced : List FunctionRows → List Access → Type 0
ArePlaced functions rows = (row : ℕ) (access : Access) → slice_get rows row ≡ Some access → is_within (stretch_at functions access.spot.function.0 access.spot.number) row ≡ true

-- of the rows that are not among these nothing was noted that was not kept
abbrev pub AreSettled : (noted : Stretch) → List Access → Type 0
AreSettled noted rows = (row : ℕ) (access : Access) → slice_get rows row ≡ Some access → is_within noted row ≡ false → access.tried ≡ access.done
