-- What a condition comes to where the debugger stands, by the definitions alone.
use Rattle.std.specs.Prelude.{◌≡◌, ℕ, true, false, List, Option, Some, None, Ok}
use Rattle.gang_types.specs.declared.types.IntType.{IntType}
use Rattle.gang_types.specs.declared.types.Rate.{Rate}
use Rattle.gang_types.specs.Lanes.{Lanes, lanes_where, no_lane}
use Rattle.gang_types.specs.Masks.{IsGangWidth, lanes_of}
use Rattle.gang_model.specs.Types.Tree.{Expr}
use Rattle.gang_model.specs.Running.Lanes.{holds}
use Rattle.gang_model.specs.Running.Value.{value}
use Rattle.gang_model.specs.Debugger.Debugger.{Debugger, Setting, depth, now}
use Rattle.debug_traits.specs.Frames.{state_at}
use Rattle.frame_expressions.specs.Lanes.{lanes_at}
use Rattle.frame_values.specs.Values.{HasNoValue, IsTreeOf}
use Rattle.conditional_stops.specs.declared.judging.Verdict.{Verdict}
use Rattle.conditional_stops.specs.declared.judging.Verdict.TheVariants as verdict

-- the lanes that the top frame shows
abbrev pub active_lanes : Setting → Debugger → Lanes
active_lanes s d = lanes_at (depth (now s d)) (now s d)

-- the condition's value in the top frame is not 0 in just these active lanes
pub record HoldsIn (text : List ℕ) (s : Setting) (d : Debugger) (lanes : Lanes) : Type 0 where
  pub tree : Expr
  pub type : IntType
  pub rate : Rate
  pub is_tree : IsTreeOf text s d (depth (now s d)) tree type rate
  pub words : List ℕ
  pub has_words : value tree (active_lanes s d) (state_at (depth (now s d)) (now s d)) ≡ Ok words
  pub are : lanes ≡ lanes_where (active_lanes s d) (holds words)

-- what the condition comes to: the lanes in which it holds, of which there is one at least; that there is none; or that it has no value, and why
abbrev pub IsVerdict : (text : List ℕ) → Setting → Debugger → Verdict → Type 0
IsVerdict text s d (verdict.Holds found) = IsGangWidth found.width × HoldsIn text s d (lanes_of found.width found.lanes) × (no_lane (lanes_of found.width found.lanes) ≡ false)
IsVerdict text s d verdict.Fails = (lanes : Lanes) × HoldsIn text s d lanes × (no_lane lanes ≡ true)
IsVerdict text s d (verdict.NoValue why) = HasNoValue text s d (depth (now s d)) why

-- the same of a value that has these words for the active lanes
abbrev pub IsValueVerdict : (active : Lanes) → (words : List ℕ) → Verdict → Type 0
IsValueVerdict active words (verdict.Holds found) = IsGangWidth found.width × (lanes_of found.width found.lanes ≡ lanes_where active (holds words)) × (no_lane (lanes_of found.width found.lanes) ≡ false)
IsValueVerdict active words verdict.Fails = no_lane (lanes_where active (holds words)) ≡ true
IsValueVerdict active words (verdict.NoValue why) = ⊥

-- what the condition comes to, where there is one
abbrev pub IsJudged : (condition : Option (List ℕ)) → Setting → Debugger → Option Verdict → Type 0
IsJudged None s d None = Unit {0}
IsJudged (Some text) s d (Some told) = IsVerdict text s d told
IsJudged condition s d told = ⊥
