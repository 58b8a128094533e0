-- The levels of the top frame change, and nothing else: the regions show the state with the levels that its words show then.
use Rattle.std.proofs.Common.{◌≡◌, refl, sym, ap, ◌∙◌, subst, ℕ, suc, false, List, [], ◌∷◌, length, arith}
use Rattle.gang_types.specs.declared.places.VarId.{VarId}
use Rattle.gang_types.specs.declared.places.VarId.TheVariants.{File, Local}
use Rattle.gang_model.specs.Types.Tree.{Program}
use Rattle.gang_model.specs.Running.State.{Store, Frame, State}
use Rattle.gang_model.specs.Running.Step.{result_rate}
use Rattle.mask_states.specs.Points.{closing_number, points_in}
use Rattle.mask_states.specs.Masked.{Level}
use Rattle.machine_states.specs.ArrayParts.{array_region}
use Rattle.machine_states.specs.Levels.{ShowsLevels}
use Rattle.machine_states.specs.Variables.{Variables}
use Rattle.machine_states.specs.Regions.{FunctionOf, LanesOf, ReturnedOf, ResultOf, OpenOf, LevelOf, LevelPart, Head, Depth, OfHead, OfLevel, OfLocal, Regions, lanes_in, same_head, with_region}
use Rattle.machine_states.specs.Shows.{level_words, result_of, ShowsFrame, Shows}
use Rattle.machine_states.proofs.ChangedRegions.{AreFramesSame, part_away, frames_kept}
use Rattle.machine_states.proofs.FramesBelow.{lanes_same, local_same, frames_below, view_shown}
use Rattle.machine_states.proofs.NextPoints.{same_word}

-- all words are the same but those of the levels of a frame, how many of its forms have begun, and the words of the frames above it
pub record OnlyLevels (i : ℕ) (old new : Regions) : Type 0 where
  pub memory : (v : VarId) → new (array_region v) ≡ old (array_region v)
  pub depth : new Depth ≡ old Depth
  pub function : new (OfHead i FunctionOf) ≡ old (OfHead i FunctionOf)
  pub lanes : new (OfHead i LanesOf) ≡ old (OfHead i LanesOf)
  pub returned : new (OfHead i ReturnedOf) ≡ old (OfHead i ReturnedOf)
  pub result : new (OfHead i ResultOf) ≡ old (OfHead i ResultOf)
  pub locals : (k : ℕ) → new (OfLocal i k) ≡ old (OfLocal i k)
  pub below : AreFramesSame i old new

-- one other part of the head is written
only_head : (i : ℕ) (part : Head) (words : List ℕ) (old : Regions) → same_head part FunctionOf ≡ false → same_head part LanesOf ≡ false → same_head part ReturnedOf ≡ false → same_head part ResultOf ≡ false
    → OnlyLevels i old (with_region (OfHead i part) words old)
only_head i part words old function lanes returned result = record {
  memory = memory;
  depth = refl;
  function = part_away words old i part FunctionOf function;
  lanes = part_away words old i part LanesOf lanes;
  returned = part_away words old i part ReturnedOf returned;
  result = part_away words old i part ResultOf result;
  locals = λ k. refl;
  below = frames_kept words old i (OfHead i part) (omega arith);
}
  where
    memory : (v : VarId) → with_region (OfHead i part) words old (array_region v) ≡ old (array_region v)
    memory (File k) = refl
    memory (Local k) = refl

-- a part of a level, or how many forms have begun
pub only_level : (i level : ℕ) (part : LevelPart) (words : List ℕ) (old : Regions) → OnlyLevels i old (with_region (OfLevel i level part) words old)
only_level i level part words old = only_head i (LevelOf level part) words old refl refl refl refl

pub only_open : (i : ℕ) (words : List ℕ) (old : Regions) → OnlyLevels i old (with_region (OfHead i OpenOf) words old)
only_open i words old = only_head i OpenOf words old refl refl refl refl

-- and another one
pub only_then : (i : ℕ) (old mid new : Regions) → OnlyLevels i old mid → OnlyLevels i mid new → OnlyLevels i old new
only_then i old mid new first then = record {
  memory = λ v. then.memory v ∙ first.memory v;
  depth = then.depth ∙ first.depth;
  function = then.function ∙ first.function;
  lanes = then.lanes ∙ first.lanes;
  returned = then.returned ∙ first.returned;
  result = then.result ∙ first.result;
  locals = λ k. then.locals k ∙ first.locals k;
  below = record {
    lengths = λ v. then.below.lengths v ∙ first.below.lengths v;
    heads = λ j part under. then.below.heads j part under ∙ first.below.heads j part under;
    locals = λ j k under. then.below.locals j k under ∙ first.below.locals j k under;
  };
}

module _ (p : Program) (variables : Variables) (w i : ℕ) (old new : Regions) (only : OnlyLevels i old new) (levels after : List Level) where
  -- what its words show of the top frame's levels
  abbrev pub LevelsGo : Type 0
  LevelsGo = (frame : Frame) (shown : ShowsFrame p variables w old i frame levels)
      → ShowsLevels (points_in shown.function) w (level_words new i) (new (OfHead i OpenOf)) (closing_number shown.function) after

  frame_goes : LevelsGo → (frame : Frame) → ShowsFrame p variables w old i frame levels → ShowsFrame p variables w new i frame after
  frame_goes go frame shown = record {
    function = shown.function;
    is_function = shown.is_function;
    number = only.function ∙ shown.number;
    lanes = shown.lanes ∙ lanes_same p variables w old new i LanesOf only.lanes;
    waits = go frame shown;
    untasked = shown.untasked;
    views = λ k. view_shown p variables w old new only.below.lengths i frame k (only.locals k) (shown.views k);
    locals = λ k. local_same p variables w old new i frame k (only.locals k) (shown.locals k);
    result = shown.result
        ∙ ap (λ returned. result_of (result_rate p frame) returned (old (OfHead i ResultOf))) (lanes_same p variables w old new i ReturnedOf only.returned)
        ∙ ap (result_of (result_rate p frame) (lanes_in w new (OfHead i ReturnedOf))) (sym only.result);
    result_sized = ap length only.result ∙ shown.result_sized;
  }

  state_goes : LevelsGo → (memory : Store) (frames : List Frame) (rest : List (List Level))
      → Shows p variables w old (record { state = record { memory = memory; frames = frames }; levels = levels ∷ rest }) → length frames ≡ suc i
      → Shows p variables w new (record { state = record { memory = memory; frames = frames }; levels = after ∷ rest })
  state_goes go memory [] rest shows e = absurd shows.frames
  state_goes go memory (frame ∷ frames) rest shows e =
      let index : length frames ≡ i = omega (arith, e) in
      record {
        memory = λ v. shows.memory v ∙ sym (only.memory v);
        depth = only.depth ∙ shows.depth;
        few = shows.few;
        frames = (
          subst (λ j. ShowsFrame p variables w new j frame after) (sym index) (frame_goes go frame (subst (λ j. ShowsFrame p variables w old j frame levels) index shows.frames.0)),
          shows.frames.1,
          frames_below p variables w old new i only.below frames rest (omega (arith, index)) shows.frames.2,
        );
      }

  -- the regions show the state with these levels
  pub levels_go : LevelsGo → (state : State) (rest : List (List Level)) → Shows p variables w old (record { state = state; levels = levels ∷ rest }) → old Depth ≡ suc i ∷ []
      → Shows p variables w new (record { state = state; levels = after ∷ rest })
  levels_go go state rest shows depth = state_goes go state.memory state.frames rest shows (same_word (old Depth) (length state.frames) (suc i) shows.depth depth)
