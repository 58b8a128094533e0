-- The line of the call that the frame at a depth made.
use Rattle.std.proofs.Common.{◌≡◌, refl, sym, ap, ◌∙◌, subst, ℕ, suc, ◌+◌, ◌-◌, ◌<◌, ◌≤◌, Bool, true, false, List, [], ◌∷◌, ◌++◌, length, Option, Some, None, arith}
use Rattle.std.specs.Prelude.{slice_get, slice_index, ◌==◌, if◌then◌else◌, codes, decimal, IfSome}
use Rattle.std.proofs.lemmas.Option.{none-some, slice_get-get_or}
use Rattle.gang_types.specs.declared.masks.Mask.{Mask}
use Rattle.gang_types.specs.declared.places.Place.{Place}
use Rattle.gang_types.specs.Masks.{IsGangWidth, lanes_of}
use Rattle.gang_model.specs.Types.Tree.{Standing, Function, Program}
use Rattle.gang_model.specs.Running.State.{Frame}
use Rattle.gang_model.specs.Debugger.Positions.{standing_in}
use Rattle.gang_model.specs.Texts.Text.{Bytes, bits, call_line, line, line_and_column, standing_text}
use Rattle.debug_traits.specs.declared.machine.Position.{Position}
use Rattle.debug_traits.specs.Machines.{call_text, position_line}
use Rattle.mask_states.specs.Points.{closing_number, points_in}
use Rattle.mask_states.specs.Masked.{Masked}
use Rattle.machine_states.specs.Variables.{Variables}
use Rattle.machine_states.specs.Regions.{FunctionOf, LanesOf, Depth, OfHead, OpenOf, Regions, lanes_in}
use Rattle.machine_states.specs.Levels.{ShowsLevels}
use Rattle.machine_states.specs.Shows.{Shows, level_words}
use Rattle.machine_states.specs.Steps.{IsInnermost, least_in}
use Rattle.machine_states.proofs.NextPoints.{same_function, same_word}
use Rattle.machine_states.proofs.Calls.{made_at, none_made, none_made_at_0, calls}
use Rattle.frame_steps.specs.Rounds.{IsRunning}
use Rattle.frame_steps.proofs.FrameLevels.{least_within}
use Rattle.frame_steps.proofs.ShownFrames.{frame_shown}
use Rattle.machine_shown.specs.Seen.{IsStandingOf}

-- ---- a position as a line

-- a step has a standing, up to the closing brace
no_standing : (standings : List Standing) (number : ℕ) → number < length standings → slice_get standings number ≡ None → ⊥
no_standing [] number within none = absurd (omega (arith, within))
no_standing (standing ∷ standings) number within none =
    none-some _ (sym none ∙ slice_get-get_or (standing ∷ standings) number standing within)

pub has_standing : (f : Function) (number : ℕ) → length f.standings ≡ closing_number f + 1 → number ≤ closing_number f → slice_get f.standings number ≡ None → ⊥
has_standing f number long at_most none = no_standing f.standings number (omega (arith, long, at_most)) none

-- a position is told for a gang of this width
pub standing_width : (width : ℕ) (f : Function) (number deep : ℕ) (lanes : Mask) (position : Option Position) → IsGangWidth width
    → IsStandingOf width f number deep lanes position → IfSome position (λ p. IsGangWidth p.width)
standing_width width f number deep lanes None gang stands = tt
standing_width width f number deep lanes (Some p) gang stands = subst IsGangWidth (sym stands.5) gang

abbrev told : Place → Bytes → (deep width : ℕ) → Mask → Bytes
told place name deep width lanes =
    line (codes "at " ++ line_and_column place ++ codes " " ++ name ++ codes " depth " ++ decimal deep ++ codes " lanes " ++ bits (lanes_of width lanes))

-- the line of a call at a step is that of the position
call_line_is : (p : Program) (m number deep width : ℕ) (lanes : Mask) (f : Function) (position : Option Position) → slice_get p.functions m ≡ Some f
    → number < length f.standings → IsStandingOf width f number deep lanes position
    → call_line p (Some number) m deep (lanes_of width lanes) ≡ position_line position
call_line_is p m number deep width lanes f None is within none = absurd (no_standing f.standings number within none)
call_line_is p m number deep width lanes f (Some q) is within stands =
    ap (λ o. line (standing_text (standing_in o number) o deep (lanes_of width lanes))) is
    ∙ ap (λ s. line (standing_text s (Some f) deep (lanes_of width lanes))) stands.1
    ∙ ap (λ place. told place f.name deep width lanes) (sym stands.2)
    ∙ ap (λ name. told q.place name deep width lanes) (sym stands.3)
    ∙ ap (λ d. told q.place q.function.now d width lanes) (sym stands.4)
    ∙ ap (λ w. told q.place q.function.now q.depth w lanes) (sym stands.5)
    ∙ ap (λ ls. told q.place q.function.now q.depth q.width ls) (sym stands.6)

-- ---- the call of a frame

abbrev line_made : Program → (deep : ℕ) → Option (Frame × Frame) → Bytes
line_made p deep None = []
line_made p deep (Some made) = call_line p made.0.call made.1.function deep made.0.lanes

through_if : (p : Program) (deep : ℕ) (b : Bool) (inner frame : Frame) (more : Option (Frame × Frame)) (text : Bytes) → text ≡ line_made p deep more
    → (if b then call_line p inner.call frame.function deep inner.lanes else text) ≡ line_made p deep (if b then Some (inner, frame) else more)
through_if p deep true inner frame more text e = refl
through_if p deep false inner frame more text e = e

call_text_made : (p : Program) (deep : ℕ) (frames : List Frame) → call_text p deep frames ≡ line_made p deep (made_at deep frames)
call_text_made p deep [] = refl
call_text_made p deep (inner ∷ []) = refl
call_text_made p deep (inner ∷ frame ∷ frames) =
    through_if p deep (length (frame ∷ frames) == deep) inner frame (made_at deep (frame ∷ frames)) (call_text p deep (frame ∷ frames)) (call_text_made p deep (frame ∷ frames))

-- where there is no call
pub no_call : (p : Program) (deep : ℕ) (frames : List Frame) → length frames ≤ deep → call_text p deep frames ≡ []
no_call p deep frames few = call_text_made p deep frames ∙ ap (line_made p deep) (none_made deep frames few)

pub no_call_at_0 : (p : Program) (deep : ℕ) (frames : List Frame) → deep ≡ 0 → call_text p deep frames ≡ []
no_call_at_0 p deep frames e =
    call_text_made p deep frames ∙ ap (λ d. line_made p deep (made_at d frames)) e ∙ ap (line_made p deep) (none_made_at_0 frames)

module _ (p : Program) (variables : Variables) (w : ℕ) (regions : Regions) (masked : Masked) (shows : Shows p variables w regions masked) where
  -- a frame that made a call is one of those that the depth counts
  pub is_below : (deep depth : ℕ) → depth ≡ slice_index (regions Depth) 0 → deep < depth → deep < length masked.state.frames
  is_below deep depth e h =
      let height : depth ≡ length masked.state.frames = e ∙ ap (λ words. slice_index words 0) shows.depth in
      omega (arith, h, height)

  -- the frame that made the call at a depth is there
  pub caller_below : (deep depth : ℕ) → depth ≡ slice_index (regions Depth) 0 → deep < depth → deep - 1 < length masked.state.frames
  caller_below deep depth depth_is h = omega (arith, is_below deep depth depth_is h)

  -- the word of the function of a frame is the number of one
  pub function_at : (i word : ℕ) → i < length masked.state.frames → word ≡ slice_index (regions (OfHead i FunctionOf)) 0
      → (f : Function) × (slice_get p.functions word ≡ Some f) × (regions (OfHead i FunctionOf) ≡ word ∷ [])
  function_at i word below e =
      let found = frame_shown p variables w regions i masked.state.frames masked.levels below shows.frames in
      let same : found.frame.function ≡ word = sym (e ∙ ap (λ words. slice_index words 0) found.shows.number) in (
        found.shows.function,
        ap (slice_get p.functions) (sym same) ∙ found.shows.is_function,
        found.shows.number ∙ ap (λ m. m ∷ []) same,
      )

  -- so the frame runs it
  pub running_at : (i word : ℕ) → i < length masked.state.frames → word ≡ slice_index (regions (OfHead i FunctionOf)) 0 → IsRunning regions i word
  running_at i word below e = record { height = length masked.state.frames; depth = shows.depth; below = below; runs = (function_at i word below e).2 }

  -- the step that made a call is one of its function
  call_within : (deep j level m number : ℕ) (g : Function) → deep ≡ suc j → deep < length masked.state.frames → regions (OfHead j FunctionOf) ≡ m ∷ [] → slice_get p.functions m ≡ Some g
      → IsInnermost w regions j g level → number ≡ least_in regions j g level → number ≤ closing_number g
  call_within deep j level m number g e below function is inner least_is =
      let found = frame_shown p variables w regions j masked.state.frames masked.levels (omega (arith, e, below)) shows.frames in
      let runs : found.frame.function ≡ m = same_word (regions (OfHead j FunctionOf)) found.frame.function m found.shows.number function in
      let same : found.shows.function ≡ g = same_function found.shows.function g (slice_get p.functions found.frame.function) found.shows.is_function (ap (slice_get p.functions) runs ∙ is) in
      let waits = subst (λ f. ShowsLevels (points_in f) w (level_words regions j) (regions (OfHead j OpenOf)) (closing_number f) found.levels) same found.shows.waits in
      omega (arith, least_is, least_within w regions j g level found.levels inner waits)

  -- the position of the step that made a call has the line of the call
  pub call_shown : (deep j level m number : ℕ) (g : Function) (lanes : Mask) (position : Option Position) → deep ≡ suc j → deep < length masked.state.frames
      → regions (OfHead j FunctionOf) ≡ m ∷ [] → slice_get p.functions m ≡ Some g → IsInnermost w regions j g level → number ≡ least_in regions j g level
      → lanes_of w lanes ≡ lanes_in w regions (OfHead deep LanesOf) → length g.standings ≡ closing_number g + 1 → IsStandingOf w g number deep lanes position
      → call_text p deep masked.state.frames ≡ position_line position
  call_shown deep j level m number g lanes position e below function is at_body least_is lanes_are long stands =
      let made = calls p variables w regions masked shows (length masked.state.frames) shows.depth j level m g (omega (arith, e, below)) function is at_body in
      let inner = made.0 in
      let frame = made.1 in
      let at_most : number ≤ closing_number g = call_within deep j level m number g e below function is at_body least_is in
      call_text_made p deep masked.state.frames
      ∙ ap (λ d. line_made p deep (made_at d masked.state.frames)) e
      ∙ ap (line_made p deep) made.2
      ∙ ap (λ call. call_line p call frame.function deep inner.lanes) (made.3.call ∙ ap (λ k. Some k) (sym least_is))
      ∙ ap (λ k. call_line p (Some number) k deep inner.lanes) made.3.function
      ∙ ap (λ ls. call_line p (Some number) m deep ls) (made.3.lanes ∙ ap (λ k. lanes_in w regions (OfHead k LanesOf)) (sym e) ∙ sym lanes_are)
      ∙ call_line_is p m number deep w lanes g position is (omega (arith, at_most, long)) stands
