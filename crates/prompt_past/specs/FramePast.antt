-- The past of a variable of a frame: the way back to what changed it, within its frame.
use Rattle.std.specs.Prelude.{ℕ, zero, suc, ◌-◌, ◌&&◌, ◌||◌, Bool, false, not, nat_lt, List, [], ◌∷◌, ◌++◌, Option, Some, None, is_some, option_map, if◌then◌else◌}
use Rattle.gang_types.specs.declared.places.VarId.{VarId}
use Rattle.gang_model.specs.Types.Tree.{Variable}
use Rattle.debug_traits.specs.Frames.{found_at}
use Rattle.debug_traits.specs.declared.machine.Shown.{Shown}
use Rattle.gang_model.specs.Debugger.Debugger.{Command, Debugger, DoReverseStep, DoStep, Setting, Target, depth, do_command, kept_steps, now}
use Rattle.conditional_stops.specs.declared.sights.FrameWatch.{FrameWatch}
use Rattle.conditional_stops.specs.Sights.{differ, is_gone, sight}
use Rattle.gang_types.specs.declared.places.VarId.TheVariants as id
use Rattle.prompt_scenes.specs.FrameWatches.{local_named, part_watch}
use Rattle.prompt_moves.specs.Moments.{led, steps_on}

-- what `watch` of a target would watch of the frame at a depth, if its name stands for a variable of a function there; it takes no number
abbrev pub part_named : Setting → Debugger → (depth : ℕ) → Target → Option FrameWatch
part_named s d deep target = option_map (part_watch 0 target deep) (local_named s d deep target)

-- whether it is still shown, with the same words in all lanes
abbrev pub is_kept : (before now : Option (List ℕ)) → Bool
is_kept before now = is_some now && not (differ before now)

-- whether a variable was declared behind another one of its function
abbrev pub is_later : (one other : VarId) → Bool
is_later (id.Local a) (id.Local b) = nat_lt a b
is_later one other = false

-- whether a name stands for an inner variable, which hides this one
abbrev pub is_inner : VarId → Option Variable → Bool
is_inner one None = false
is_inner one (Some v) = is_later one v.id

-- the same of what is shown there
abbrev pub shows_inner : VarId → Option Shown → Bool
shows_inner one None = false
shows_inner one (Some shown) = is_later one shown.id

abbrev pub is_hidden : Setting → FrameWatch → Debugger → Bool
is_hidden s w d = not (is_gone (depth (now s d)) w) && is_inner w.id (found_at s.program w.depth (now s d) w.name.items)

-- whether the way back goes on from here: it shows these words still, or is hidden
abbrev pub goes_on : Setting → FrameWatch → (shown : Option (List ℕ)) → Debugger → Bool
goes_on s w shown d = is_kept shown (sight s d w) || is_hidden s w d

-- back by single steps, so many at most, up to the first at which it shows other words, or it or its frame is not there
abbrev pub to_change : ℕ → Setting → FrameWatch → (shown : Option (List ℕ)) → Debugger → List Command
to_change zero s w shown d = []
to_change (suc n) s w shown d = let r = do_command s (DoReverseStep 1) d in DoReverseStep 1 ∷ (if goes_on s w shown r.next then to_change n s w shown r.next else [])

-- the same from what is shown now, as far as steps are kept: no breakpoint or watch stops it
abbrev pub back_to_change : Setting → FrameWatch → Debugger → List Command
back_to_change s w d = to_change (kept_steps d) s w (sight s d w) d

-- where the frame is not there any more, one step on leads to where it began
abbrev pub into_frame : Setting → FrameWatch → Debugger → List Command
into_frame s w d = if is_gone (depth (now s d)) w then DoStep 1 ∷ [] else []

-- back to the last change of a variable, to its declaration, or to where its frame began
abbrev pub back_in_frame : Setting → FrameWatch → Debugger → List Command
back_in_frame s w d = let back = back_to_change s w d in back ++ into_frame s w (led s back d)

-- back over so many of the last changes, up to the declaration or out of the frame
abbrev pub changes_back : ℕ → Setting → FrameWatch → Debugger → List Command
changes_back zero s w d = []
changes_back (suc n) s w d =
    let back = back_to_change s w d in
    let e = led s back d in
    back ++ (if differ (sight s d w) (sight s e w) then changes_back n s w e else [])

-- the same, and on again to where the program stood
abbrev pub told_in_frame : (most : ℕ) → Setting → FrameWatch → Debugger → List Command
told_in_frame most s w d =
    let back = changes_back most s w d in
    let e = led s back d in
    back ++ steps_on (kept_steps d - kept_steps e) s e
