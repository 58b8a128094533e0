-- Where a machine stands, as it is written.
use Rattle.std.proofs.Common.{◌≡◌, ℕ, suc, max, ◌==◌, List, [], ◌∷◌, ◌++◌, length, map, refl, ap, ap₂, sym, ◌∙◌, Option, Some, None, arith}
use Rattle.std.proofs.lemmas.List.{length-map}
use Rattle.std.specs.Prelude.{codes, decimal, slice_get, if◌then◌else◌}
use Rattle.undo_log.specs.History.{History}
use Rattle.gang_types.specs.declared.places.Spot.{Spot}
use Rattle.gang_types.specs.Lanes.{Lanes}
use Rattle.gang_model.specs.Running.State.{Frame}
use Rattle.gang_model.specs.Types.Tree as t
use Rattle.gang_model.specs.Types.Tree.{StepNumber, Function, Standing, Variable}
use Rattle.gang_model.specs.Debugger.Debugger.{Debugger, Setting, depth, now}
use Rattle.gang_model.specs.Debugger.Positions.{line_now, line_of, scope_now, scope_of, spot_in, spot_now, standing_in, standing_of, top_lanes, top_spot}
use Rattle.gang_model.specs.Texts.Text.{Bytes, bits, call_line, frames_text, line_and_column, place_text, standing_text, where_text}
use Rattle.debug_traits.specs.Machines.{call_text}
use Rattle.typed_tree.specs.declared.program.Program.{Program}
use Rattle.typed_tree.specs.Views.{program_view}
use Rattle.gang_memory.specs.declared.layout.Layout.{Layout}
use Rattle.mask_states.specs.Masked.{masked_lanes, masked_spot}
use Rattle.mask_states.specs.MaskedStep.{untasked_frame}
use Rattle.mask_states.specs.Stands.{AreLowerable}
use Rattle.gang_machine.specs.Standings.{SeenStands, view_of}
use Rattle.gang_machine.proofs.Agreeing.{agrees, frames_alike, lanes_are, masked_now, spot_is, standing_is}

-- ---- frames

-- the text of a spot, or of the end
abbrev spot_text : t.Program → Option Spot → (depth : ℕ) → Lanes → Bytes
spot_text p None deep lanes = codes "ended"
spot_text p (Some spot) deep lanes = place_text p spot deep lanes

frames_written : (p : t.Program) (frames : List Frame) → frames_text p frames ≡ spot_text p (top_spot p frames) (length frames) (top_lanes frames)
frames_written p [] = refl
frames_written p (frame ∷ frames) = refl

-- frames that stand nowhere are none
none_left : (p : t.Program) (frames : List Frame) → top_spot p frames ≡ None → frames ≡ []
none_left p [] is = refl
none_left p (frame ∷ frames) is = cc

-- frames that stand somewhere are some
some_left : (p : t.Program) (frames : List Frame) (spot : Spot) → top_spot p frames ≡ Some spot → max 1 (length frames) ≡ length frames
some_left p [] spot is = cc
some_left p (frame ∷ frames) spot is = omega arith

-- the calls of frames hang on no tasks
untasked_calls : (p : t.Program) (deep : ℕ) (frames : List Frame) → call_text p deep (map untasked_frame frames) ≡ call_text p deep frames
untasked_calls p deep [] = refl
untasked_calls p deep (inner ∷ []) = refl
untasked_calls p deep (inner ∷ frame ∷ frames) =
    ap₂ (λ n text. if suc n == deep then call_line p inner.call frame.function deep inner.lanes else text) (length-map frames untasked_frame) (untasked_calls p deep (frame ∷ frames))

-- a step of a function stands so in the source
place_written : (p : t.Program) (function number : ℕ) (f : Function) (standing : Standing) (deep : ℕ) (lanes : Lanes) → slice_get p.functions function ≡ Some f → slice_get f.standings number ≡ Some standing
    → place_text p (spot_in function number) deep lanes
    ≡ codes "at " ++ line_and_column standing.place ++ codes " " ++ f.name ++ codes " depth " ++ decimal deep ++ codes " lanes " ++ bits lanes
place_written p function number f standing deep lanes is_function stands =
    ap (λ o. standing_text (standing_in o number) o deep lanes) is_function ∙ ap (λ o. standing_text o (Some f) deep lanes) stands

module _ (w entry : ℕ) (program : Program) (lines : List ℕ) (layout : Layout) (h : History) (lowerable : AreLowerable (program_view program)) (s : Setting) (d : Debugger)
    (stands : SeenStands (view_of w entry program lines layout h) s d) where
  abbrev p : t.Program
  p = program_view program

  where_is : (o : Option Spot) → masked_spot (masked_now w entry program lines layout h lowerable s d stands) ≡ o
      → where_text s.program (now s d) ≡ spot_text p o (length (masked_now w entry program lines layout h lowerable s d stands).state.frames) (masked_lanes (masked_now w entry program lines layout h lowerable s d stands))
  where_is o is =
      ap (λ q. where_text q (now s d)) stands.program
      ∙ frames_written p (now s d).frames
      ∙ ap (λ o. spot_text p o (length (now s d).frames) (top_lanes (now s d).frames)) (ap (λ q. top_spot q (now s d).frames) (sym stands.program) ∙ spot_is w entry program lines layout h lowerable s d stands ∙ is)
      ∙ ap₂ (spot_text p o) (frames_alike w entry program lines layout h lowerable s d stands) (lanes_are w entry program lines layout h lowerable s d stands)

  spot_of : (o : Option Spot) → masked_spot (masked_now w entry program lines layout h lowerable s d stands) ≡ o → top_spot p (now s d).frames ≡ o
  spot_of o is = ap (λ q. top_spot q (now s d).frames) (sym stands.program) ∙ spot_is w entry program lines layout h lowerable s d stands ∙ is

  -- ---- once the program has ended

  module _ (over : masked_spot (masked_now w entry program lines layout h lowerable s d stands) ≡ None) where
    pub text_ended : where_text s.program (now s d) ≡ codes "ended"
    text_ended = where_is None over

    pub line_ended : line_now s.program (now s d) ≡ None
    line_ended = ap line_of (standing_is w entry program lines layout h lowerable s d stands None over)

    pub depth_ended : depth (now s d) ≡ 1
    depth_ended = ap (λ frames. max 1 (length frames)) (none_left p (now s d).frames (spot_of None over))

  -- ---- where it stands at a step

  module _ (function number : ℕ) (f : Function) (standing : Standing) (here : masked_spot (masked_now w entry program lines layout h lowerable s d stands) ≡ Some (spot_in function number))
      (is_function : slice_get p.functions function ≡ Some f) (is_standing : slice_get f.standings number ≡ Some standing) where
    standing_here : standing_of s.program (spot_now s.program (now s d)) ≡ Some standing
    standing_here =
        standing_is w entry program lines layout h lowerable s d stands (Some (spot_in function number)) here
        ∙ ap (λ o. standing_in o number) is_function ∙ is_standing

    pub text_here : where_text s.program (now s d)
        ≡ codes "at " ++ line_and_column standing.place ++ codes " " ++ f.name ++ codes " depth " ++ decimal (length (masked_now w entry program lines layout h lowerable s d stands).state.frames)
        ++ codes " lanes " ++ bits (masked_lanes (masked_now w entry program lines layout h lowerable s d stands))
    text_here =
        where_is (Some (spot_in function number)) here
        ∙ place_written p function number f standing (length (masked_now w entry program lines layout h lowerable s d stands).state.frames)
        (masked_lanes (masked_now w entry program lines layout h lowerable s d stands)) is_function is_standing

    pub line_here : line_now s.program (now s d) ≡ Some standing.place.line
    line_here = ap line_of standing_here

    pub scope_here : scope_now s.program (now s d) ≡ standing.scope
    scope_here = ap scope_of standing_here

    pub depth_here : depth (now s d) ≡ length (masked_now w entry program lines layout h lowerable s d stands).state.frames
    depth_here = some_left p (now s d).frames (spot_in function number) (spot_of (Some (spot_in function number)) here) ∙ frames_alike w entry program lines layout h lowerable s d stands

  -- ---- calls

  pub calls_are : (deep : ℕ) → call_text s.program deep (now s d).frames ≡ call_text p deep (masked_now w entry program lines layout h lowerable s d stands).state.frames
  calls_are deep =
      ap (λ q. call_text q deep (now s d).frames) stands.program
      ∙ sym (untasked_calls p deep (now s d).frames)
      ∙ ap (λ state. call_text p deep state.frames) (agrees w entry program lines layout h lowerable s d stands).0.words
