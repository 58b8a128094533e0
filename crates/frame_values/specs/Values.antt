-- What a text has as its value where a frame stands, by the definitions alone.
use Rattle.std.specs.Prelude.{◌≡◌, ℕ, List, take, None, Some, Ok, Err}
use Rattle.gang_types.specs.declared.places.Spot.{Spot}
use Rattle.gang_types.specs.declared.types.IntType.{IntType}
use Rattle.gang_types.specs.declared.types.Rate.{Rate}
use Rattle.gang_model.specs.Source.Judged.{Sound}
use Rattle.gang_model.specs.Source.Parsed.{ParsedExpr}
use Rattle.gang_model.specs.Types.Conversions.{typed}
use Rattle.gang_model.specs.Types.Tree.{Expr}
use Rattle.gang_model.specs.Types.Typing.{expression}
use Rattle.gang_model.specs.Running.Value.{value}
use Rattle.gang_model.specs.Debugger.Debugger.{Debugger, Setting, now}
use Rattle.debug_traits.specs.declared.machine.Fault.{Fault}
use Rattle.debug_traits.specs.Frames.{spot_at, state_at}
use Rattle.debug_traits.specs.Machines.{fault_view}
use Rattle.frame_expressions.specs.Lanes.{AreFor, lanes_at}
use Rattle.frame_expressions.specs.Meanings.{entries_at}
use Rattle.placed_expressions.specs.Placed.{IsWritten}
use Rattle.placed_expressions.specs.Refusals.{IsRefused}
use Rattle.frame_values.specs.declared.values.ExpressionValue.{ExpressionValue}
use Rattle.frame_values.specs.declared.values.NoValue.{NoValue}
use Rattle.frame_values.specs.declared.values.NoValue.TheVariants as no

-- where the frame at a depth stands, the text is an expression with this tree, of this type and rate
pub record IsTreeOf (text : List ℕ) (s : Setting) (d : Debugger) (deep : ℕ) (tree : Expr) (type : IntType) (rate : Rate) : Type 0 where
  pub spot : Spot
  pub stands : spot_at s.program deep (now s d) ≡ Some spot
  pub written : ParsedExpr
  pub is_written : IsWritten text written
  pub means : expression written (entries_at s.program spot) ≡ Sound (typed tree type rate)

-- the text has this value there, for the lanes that the frame shows
pub record IsValueOf (text : List ℕ) (s : Setting) (d : Debugger) (deep : ℕ) (found : ExpressionValue) : Type 0 where
  pub tree : Expr
  pub is_tree : IsTreeOf text s d deep tree found.value_type found.rate
  pub lanes : AreFor (lanes_at deep (now s d)) found.lanes
  pub words : value tree (lanes_at deep (now s d)) (state_at deep (now s d)) ≡ Ok (take found.lanes.width found.lanes.words)

-- the text's value has this fault there, at the lowest lane that has it
pub record HasFault (text : List ℕ) (s : Setting) (d : Debugger) (deep : ℕ) (fault : Fault) : Type 0 where
  pub tree : Expr
  pub type : IntType
  pub rate : Rate
  pub is_tree : IsTreeOf text s d deep tree type rate
  pub faults : value tree (lanes_at deep (now s d)) (state_at deep (now s d)) ≡ Err (fault_view fault)

-- why the text has no value there
abbrev pub HasNoValue : (text : List ℕ) → Setting → Debugger → (depth : ℕ) → NoValue → Type 0
HasNoValue text s d deep no.NoFrame = spot_at s.program deep (now s d) ≡ None
HasNoValue text s d deep (no.Refused refusal) = (spot : Spot) × (spot_at s.program deep (now s d) ≡ Some spot) × IsRefused text s.program spot refusal
HasNoValue text s d deep (no.Fault fault) = HasFault text s d deep fault
