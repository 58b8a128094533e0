-- Where a machine stands, as it tells it.
use Rattle.std.proofs.Common.{◌≡◌, sym, ap, ◌∙◌, ℕ, List, ◌++◌, Option, Some, None}
use Rattle.std.specs.Prelude.{codes, decimal}
use Rattle.undo_log.specs.History.{History}
use Rattle.gang_types.specs.declared.places.Place.{Place}
use Rattle.gang_types.specs.Lanes.{Lanes}
use Rattle.gang_types.specs.Masks.{lanes_of}
use Rattle.gang_model.specs.Debugger.Debugger.{Debugger, Setting, depth, now}
use Rattle.gang_model.specs.Debugger.Positions.{line_now}
use Rattle.gang_model.specs.Texts.Text.{Bytes, bits, line_and_column, where_text}
use Rattle.debug_traits.specs.declared.machine.Position.{Position}
use Rattle.debug_traits.specs.Machines.{depth_of, line_of_position, position_text}
use Rattle.gang_memory.specs.declared.layout.Layout.{Layout}
use Rattle.mask_states.specs.Stands.{AreLowerable}
use Rattle.frame_steps.specs.declared.compiled.CompiledProgram.{CompiledProgram}
use Rattle.frame_steps.specs.Compiled.{program_of}
use Rattle.machine_shown.specs.Seen.{IsPositionOf}
use Rattle.gang_machine.specs.Standings.{SeenStands, view_of}
use Rattle.gang_machine.proofs.Agreeing.{masked_now}
use Rattle.gang_machine.proofs.Placing.{depth_ended, depth_here, line_ended, line_here, text_ended, text_here}

abbrev place_line : Place → (name : Bytes) → (depth : ℕ) → Lanes → Bytes
place_line place name deep lanes = codes "at " ++ line_and_column place ++ codes " " ++ name ++ codes " depth " ++ decimal deep ++ codes " lanes " ++ bits lanes

-- equal parts are written alike
written_alike : (place other_place : Place) (name other_name : Bytes) (deep other_deep : ℕ) (lanes other_lanes : Lanes) → place ≡ other_place → name ≡ other_name → deep ≡ other_deep → lanes ≡ other_lanes
    → place_line other_place other_name other_deep other_lanes ≡ place_line place name deep lanes
written_alike place other_place name other_name deep other_deep lanes other_lanes same_place same_name same_deep same_lanes =
    sym (ap (λ x. place_line x name deep lanes) same_place
    ∙ ap (λ x. place_line other_place x deep lanes) same_name
    ∙ ap (λ x. place_line other_place other_name x lanes) same_deep
    ∙ ap (λ x. place_line other_place other_name other_deep x) same_lanes)

module _ (w entry : ℕ) (compiled : CompiledProgram) (lines : List ℕ) (layout : Layout) (h : History) (lowerable : AreLowerable (program_of compiled)) (s : Setting) (d : Debugger)
    (stands : SeenStands (view_of w entry compiled.program lines layout h) s d) where
  pub text_is : (result : Option Position) → IsPositionOf w compiled (masked_now w entry compiled.program lines layout h lowerable s d stands) result → where_text s.program (now s d) ≡ position_text result
  text_is None over = text_ended w entry compiled.program lines layout h lowerable s d stands over
  text_is (Some p) (function, number, f, standing, at_spot, there, place, name, deep, width, lanes) =
      text_here w entry compiled.program lines layout h lowerable s d stands function number f standing at_spot there.is_function there.stands
      ∙ written_alike p.place standing.place p.function.now f.name p.depth _ (lanes_of p.width p.lanes) _ place name deep (ap (λ n. lanes_of n p.lanes) width ∙ lanes)

  pub line_is : (result : Option Position) → IsPositionOf w compiled (masked_now w entry compiled.program lines layout h lowerable s d stands) result → line_now s.program (now s d) ≡ line_of_position result
  line_is None over = line_ended w entry compiled.program lines layout h lowerable s d stands over
  line_is (Some p) (function, number, f, standing, at_spot, there, place, name, deep, width, lanes) =
      line_here w entry compiled.program lines layout h lowerable s d stands function number f standing at_spot there.is_function there.stands
      ∙ ap (λ (x : Place). Some x.line) (sym place)

  pub depth_is : (result : Option Position) → IsPositionOf w compiled (masked_now w entry compiled.program lines layout h lowerable s d stands) result → depth (now s d) ≡ depth_of result
  depth_is None over = depth_ended w entry compiled.program lines layout h lowerable s d stands over
  depth_is (Some p) (function, number, f, standing, at_spot, there, place, name, deep, width, lanes) =
      depth_here w entry compiled.program lines layout h lowerable s d stands function number f standing at_spot there.is_function there.stands ∙ sym deep
