-- The frames that an editor is told.
use Rattle.std.specs.Prelude.{ℕ, zero, suc, List, [], ◌∷◌, ◌++◌, length, Option, Some, None, slice_get, codes, drop, string_bytes, unwrap_or, if◌then◌else◌, ◌==◌}
use Rattle.std.specs.Str.Lossy.{utf8_lossy}
use Rattle.gang_types.specs.declared.places.Spot.{Spot}
use Rattle.gang_types.specs.Lanes.{Lanes}
use Rattle.gang_types.specs.Masks.{lanes_of}
use Rattle.gang_model.specs.Types.Tree.{StepNumber, Standing, Function, Program}
use Rattle.gang_model.specs.Running.State as model
use Rattle.gang_model.specs.Debugger.Positions.{frame_spot, frame_lanes, spot_in, standing_at}
use Rattle.gang_model.specs.Texts.Text.{Bytes, bits, line_and_column}
use Rattle.debug_traits.specs.declared.machine.Position.{Position}
use Rattle.adapter_requests.specs.declared.reply.Frame.{Frame}
use Rattle.adapter_replies.specs.Pages.{limited}

-- a frame: its depth, its function's name with the lanes behind it, and LINE:COL of its place
pub record ToldFrame : Type 0 where
  pub depth : ℕ
  pub name : Bytes
  pub place : Bytes

-- NAME [BITS]
abbrev pub frame_name : Bytes → Lanes → Bytes
frame_name function lanes = utf8_lossy function ++ codes " [" ++ bits lanes ++ codes "]"

-- a frame of a reply
abbrev pub frame_view : Frame → ToldFrame
frame_view frame = record { depth = frame.depth; name = string_bytes frame.name; place = line_and_column (record { line = frame.line; col = frame.column }) }

-- the frame of a standing in a function
abbrev pub standing_frame : Option Standing → Option Function → (depth : ℕ) → Lanes → List ToldFrame
standing_frame (Some standing) (Some f) deep lanes = record { depth = deep; name = frame_name f.name lanes; place = line_and_column standing.place } ∷ []
standing_frame standing f deep lanes = []

-- the frame that stands at a spot
abbrev pub frame_at : Program → Spot → (depth : ℕ) → Lanes → List ToldFrame
frame_at p spot deep lanes = standing_frame (standing_at p spot) (slice_get p.functions spot.function.0) deep lanes

-- the top frame, by the step that it does next
abbrev pub top_frame : Program → List model.Frame → List ToldFrame
top_frame p [] = []
top_frame p (frame ∷ frames) = frame_at p (frame_spot p frame) (length (frame ∷ frames)) (frame_lanes frame)

-- a frame by the call that it made, with the lanes of the call
abbrev pub call_frame : Program → Option StepNumber → (function depth : ℕ) → Lanes → List ToldFrame
call_frame p None function deep lanes = []
call_frame p (Some number) function deep lanes = frame_at p (spot_in function number) deep lanes

-- the frames below one, by the calls that they made
abbrev pub outer_frames : Program → model.Frame → List model.Frame → List ToldFrame
outer_frames p inner [] = []
outer_frames p inner (frame ∷ frames) = call_frame p inner.call frame.function (length (frame ∷ frames)) inner.lanes ++ outer_frames p frame frames

-- the frames, the top one first; none of a program that has ended
abbrev pub all_frames : Program → List model.Frame → List ToldFrame
all_frames p [] = []
all_frames p (frame ∷ frames) = top_frame p (frame ∷ frames) ++ outer_frames p frame frames

-- so many of the frames from a place on; from the top one where no place is given, and all where no number is or 0
abbrev pub asked_frames : (start levels : Option ℕ) → List ToldFrame → List ToldFrame
asked_frames start levels frames = limited levels (drop (unwrap_or start 0) frames)

-- ---- one position

-- a position that a machine gives, at a depth
abbrev pub position_frame : (depth : ℕ) → Position → ToldFrame
position_frame deep p = record { depth = deep; name = frame_name p.function.now (lanes_of p.width p.lanes); place = line_and_column p.place }

-- the call that the frame at a depth made
abbrev pub call_told : Program → (depth : ℕ) → List model.Frame → List ToldFrame
call_told p deep [] = []
call_told p deep (inner ∷ []) = []
call_told p deep (inner ∷ frame ∷ frames) =
    if length (frame ∷ frames) == deep then call_frame p inner.call frame.function deep inner.lanes else call_told p deep (frame ∷ frames)

-- the calls of the frames from this depth down to the outermost one
abbrev pub calls_told : Program → List model.Frame → (depth : ℕ) → List ToldFrame
calls_told p frames zero = []
calls_told p frames (suc n) = call_told p (suc n) frames ++ calls_told p frames n
