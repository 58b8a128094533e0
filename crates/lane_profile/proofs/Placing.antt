-- Where a step stands, by the position of the machine.
use Rattle.std.proofs.Common.{◌≡◌, refl, sym, ap, ◌∙◌, ℕ, suc, ◌≤◌, true, false, List, [], ◌∷◌, length, map, Option, Some, None, arith}
use Rattle.std.specs.Prelude.{◌==◌, decimal, if◌then◌else◌, max, nat_lt, slice_get, unwrap_or}
use Rattle.std.proofs.lemmas.Bool.Decides.{nat_tests}
use Rattle.std.proofs.lemmas.List.{length-map}
use Rattle.gang_types.specs.Lanes.{Lanes}
use Rattle.gang_types.specs.declared.places.Spot.{Spot}
use Rattle.gang_types.specs.declared.masks.Mask.{Mask}
use Rattle.gang_types.specs.Masks.{lanes_of}
use Rattle.gang_model.specs.Types.Tree.{Function, Program, Standing}
use Rattle.gang_model.specs.Running.State.{Frame, State}
use Rattle.gang_model.specs.Debugger.Positions.{call_at, frame_lanes, frame_spot, line_now, spot_in, spot_now, standing_at, top_lanes, top_spot}
use Rattle.gang_model.specs.Debugger.Debugger.{depth, has_ended}
use Rattle.gang_model.specs.Texts.Text.{Bytes, bits, frames_text, line_and_column, standing_text, where_text}
use Rattle.debug_traits.specs.declared.machine.Position.{Position}
use Rattle.debug_traits.specs.Frames.{spot_at}
use Rattle.debug_traits.specs.Machines.{depth_of, line_of_position, position_text}
use Rattle.place_texts.proofs.PlaceTexts.{bits_no_blank, column_no_blank, decimal_no_blank, words_same}
use Rattle.lane_counts.specs.declared.tally.StepAt.{StepAt}
use Rattle.lane_counts.specs.Pending.{width_of}
use Rattle.lane_counts.specs.Steps.{Stand, depth as deep_of}
use Rattle.lane_counts.specs.Tallies.{IsAt}
use Rattle.lane_profile.specs.Stands.{name_of, stand_of}

-- ---- the function and the lanes, by the text of a place

abbrev lanes_in : Bytes → Lanes
lanes_in bytes = map (λ byte. byte == 49) bytes

lanes_in_bits : (lanes : Lanes) → lanes_in (bits lanes) ≡ lanes
lanes_in_bits [] = refl
lanes_in_bits (true ∷ lanes) = ap (λ ls. true ∷ ls) (lanes_in_bits lanes)
lanes_in_bits (false ∷ lanes) = ap (λ ls. false ∷ ls) (lanes_in_bits lanes)

abbrev first_byte : Bytes → ℕ
first_byte [] = 0
first_byte (byte ∷ bytes) = byte

-- a text that tells of a step tells its function and its lanes
told_by_standing : (standing : Option Standing) (f : Option Function) (deep : ℕ) (lanes : Lanes) (position : Position) → standing_text standing f deep lanes ≡ position_text (Some position)
    → (name_of f ≡ position.function.now) × (lanes ≡ lanes_of position.width position.lanes)
told_by_standing None f deep lanes position e = let same : 0 ≡ 97 = ap first_byte e in absurd (omega (arith, same))
told_by_standing (Some standing) None deep lanes position e = let same : 0 ≡ 97 = ap first_byte e in absurd (omega (arith, same))
told_by_standing (Some standing) (Some f) deep lanes position e =
    let theirs = lanes_of position.width position.lanes in
    let words = words_same (line_and_column standing.place) f.name (decimal deep) (bits lanes) (line_and_column position.place) position.function.now (decimal position.depth) (bits theirs)
    (column_no_blank standing.place) (decimal_no_blank deep) (bits_no_blank lanes) (column_no_blank position.place) (decimal_no_blank position.depth) (bits_no_blank theirs) e in
    (words.1, sym (lanes_in_bits lanes) ∙ ap lanes_in words.2 ∙ lanes_in_bits theirs)

-- ---- a step of a state

-- a step stands at a position
pub record IsPlaced (position : Position) (stand : Stand) : Type 0 where
  pub line : stand.line ≡ position.place.line
  pub function : (below : List Bytes) × (stand.functions ≡ position.function.now ∷ below)
  pub deep : deep_of stand ≡ position.depth
  pub lanes : stand.lanes ≡ lanes_of position.width position.lanes

one_or_more : (n : ℕ) → suc n ≡ max 1 (suc n)
one_or_more n = omega arith

module _ (p : Program) (position : Position) where
  abbrev named : Frame → Bytes
  named frame = name_of (slice_get p.functions frame.function)

  placed_frames : (state : State) (frames : List Frame) → state.frames ≡ frames → frames_text p frames ≡ position_text (Some position) → line_now p state ≡ Some position.place.line
      → max 1 (length frames) ≡ position.depth → IsPlaced position (stand_of p state)
  placed_frames state [] is text line deep = let same : 101 ≡ 97 = ap first_byte text in absurd (omega (arith, same))
  placed_frames state (frame ∷ frames) is text line deep =
      let told = told_by_standing (standing_at p (frame_spot p frame)) (slice_get p.functions frame.function) (length (frame ∷ frames)) (frame_lanes frame) position text in record {
        line = ap (λ o. unwrap_or o 0) line;
        function = (map named frames, ap (map named) is ∙ ap (λ name. name ∷ map named frames) told.0);
        deep = length-map state.frames named ∙ ap length is ∙ one_or_more (length frames) ∙ deep;
        lanes = ap top_lanes is ∙ told.1;
      }

  pub placed : (state : State) → where_text p state ≡ position_text (Some position) → line_now p state ≡ line_of_position (Some position) → depth state ≡ depth_of (Some position)
      → IsPlaced position (stand_of p state)
  placed state text line deep = placed_frames state state.frames refl text line deep

  -- ---- which step it is

  -- at the depth of the top frame, or past it, stands the top frame
  pub spot_top : (state : State) (deep : ℕ) → length state.frames ≤ deep → spot_at p deep state ≡ spot_now p state
  spot_top state deep few =
      let past : nat_lt deep (length state.frames) ≡ false = grind (arith, nat_tests) in
      ap (λ b. if b then call_at (suc deep) state.frames else spot_now p state) past

  some_spot : (frames : List Frame) → (length frames == 0) ≡ false → top_spot p frames ≡ None → ⊥
  some_spot [] goes none = cc goes
  some_spot (frame ∷ frames) goes none = cc none

  pub no_spot : (state : State) → has_ended state ≡ false → spot_now p state ≡ None → ⊥
  no_spot state goes none = some_spot state.frames goes none

  pub within : (frames : List Frame) (deep : ℕ) → max 1 (length frames) ≡ deep → length frames ≤ deep
  within frames deep is = omega (arith, is)

  -- the step of a machine stands where the state's does
  pub is_at : (state : State) (spot : Spot) (at : StepAt) → IsPlaced position (stand_of p state) → depth state ≡ position.depth → spot_at p position.depth state ≡ Some spot
      → at ≡ record { line = position.place.line; spot = spot; function = position.function; depth = position.depth; gang = at.gang; lanes = position.lanes } → width_of at.gang ≡ position.width → IsAt at (stand_of p state)
  is_at state spot at placed deep is same wide =
      let here : spot_now p state ≡ Some spot = sym (spot_top state position.depth (within state.frames position.depth deep)) ∙ is in record {
        line = placed.line ∙ sym (ap (λ (a : StepAt). a.line) same);
        spot = ap (λ o. unwrap_or o (spot_in 0 0)) here ∙ sym (ap (λ (a : StepAt). a.spot) same);
        function = (placed.function.0, placed.function.1 ∙ ap (λ (a : StepAt). a.function.now ∷ placed.function.0) (sym same));
        deep = placed.deep ∙ sym (ap (λ (a : StepAt). a.depth) same);
        lanes = placed.lanes ∙ ap (λ w. lanes_of w position.lanes) (sym wide) ∙ ap (λ (m : Mask). lanes_of (width_of at.gang) m) (sym (ap (λ (a : StepAt). a.lanes) same));
      }
