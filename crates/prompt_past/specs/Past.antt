-- `last` and `changes`: back to what changed a target.
use Rattle.std.specs.Prelude.{ℕ, ◌-◌, List, [], ◌∷◌, ◌++◌, Option, Some, None, if◌then◌else◌}
use Rattle.gang_model.specs.Debugger.Debugger.{Command, Debugger, DoDelete, DoReverseContinue, DoWatch, Setting, Target, do_command, kept_steps}
use Rattle.conditional_stops.specs.declared.sights.FrameWatch.{FrameWatch}
use Rattle.prompt_scenes.specs.Holding.{Held}
use Rattle.prompt_scenes.specs.SelectedFrame.{depth_of}
use Rattle.prompt_scenes.specs.Changes.{started}
use Rattle.prompt_scenes.specs.Readings.{is_history_end, watch_number}
use Rattle.prompt_moves.specs.Moments.{is_unset, led, steps_on, stops_back}
use Rattle.prompt_moves.specs.Following.{begun, follows, shown}
use Rattle.prompt_past.specs.FramePast.{back_in_frame, part_named, told_in_frame}

-- back to the last change of what has been watched, and the watch goes; where there is none, on again to where it stood
abbrev pub sought : Setting → Held → Debugger → (made : Option ℕ) → List Command
sought s h d None = []
sought s h d (Some number) =
    let r = do_command s DoReverseContinue d in
    let e = (do_command s (DoDelete (Some number)) r.next).next in
    DoReverseContinue ∷ DoDelete (Some number) ∷ (if is_history_end r.answer then steps_on (kept_steps d) s e else follows h r.answer)

-- back to the last change of a target
abbrev pub last_by : Setting → Debugger → Held → Option Target → List Command
last_by s d h None = []
last_by s d h (Some target) = let made = do_command s (DoWatch target) d in DoWatch target ∷ sought s h made.next (watch_number made.answer)

-- back over so many of the last changes of what has been watched, the watch goes, and on again to where it stood
abbrev pub told_changes : Setting → Debugger → (most : ℕ) → (made : Option ℕ) → List Command
told_changes s d most None = []
told_changes s d most (Some number) =
    let back = stops_back most s d in
    let e = (do_command s (DoDelete (Some number)) (led s back d)).next in
    back ++ DoDelete (Some number) ∷ steps_on (kept_steps d - kept_steps e) s e

-- so many of the last changes of a target
abbrev pub watched_changes : Setting → Debugger → Target → (most : ℕ) → List Command
watched_changes s d target most = let made = do_command s (DoWatch target) d in DoWatch target ∷ told_changes s made.next most (watch_number made.answer)

-- the same, where single steps lead back to where the program stands
abbrev pub changes_by : Setting → Debugger → Option (Target × ℕ) → List Command
changes_by s d None = []
changes_by s d (Some named) = if is_unset d then watched_changes s d named.0 named.1 else []

-- the variable of the frame that is selected that a target names, as `watch` looks it up: in that frame first
abbrev pub part_of : Setting → Debugger → Held → Target → Option FrameWatch
part_of s d h target = part_named s d (depth_of s d h) target

-- `last`: of a variable of the frame that is selected, back within that frame, and all that is displayed is printed; else of one of the file
abbrev pub last_as : Setting → Debugger → Held → Target → (part : Option FrameWatch) → List Command
last_as s d h target None = last_by s d h (Some target)
last_as s d h target (Some w) = back_in_frame s w d ++ shown h.displays

-- the same where no value that was set can be taken back: else the way back would lead past a change that no statement made
abbrev pub last_of : Setting → Debugger → Held → Option Target → List Command
last_of s d h None = []
last_of s d h (Some target) = if is_unset d then last_as s d h target (part_of s d h target) else []

-- `changes`: of a variable of the frame that is selected, where single steps lead back to where the program stands; else of one of the file
abbrev pub changes_as : Setting → Debugger → Target × ℕ → (part : Option FrameWatch) → List Command
changes_as s d named None = changes_by s d (Some named)
changes_as s d named (Some w) = if is_unset d then told_in_frame named.1 s w d else []

abbrev pub changes_of : Setting → Debugger → Held → Option (Target × ℕ) → List Command
changes_of s d h None = []
changes_of s d h (Some named) = changes_as s d named (part_of s d h named.0)

-- what going back to a change changes
abbrev pub after_sought : Setting → Held → Debugger → (made : Option ℕ) → Held
after_sought s h d None = h
after_sought s h d (Some number) = let r = do_command s DoReverseContinue d in if is_history_end r.answer then h else begun h r.answer

abbrev pub after_last : Setting → Debugger → Held → Option Target → Held
after_last s d h None = h
after_last s d h (Some target) = let made = do_command s (DoWatch target) d in after_sought s h made.next (watch_number made.answer)

-- what going back within a frame changes, or to a change of a variable of the file
abbrev pub after_last_as : Setting → Debugger → Held → Target → (part : Option FrameWatch) → Held
after_last_as s d h target None = after_last s d h (Some target)
after_last_as s d h target (Some w) = started h

-- what `last` changes: nothing where it does nothing
abbrev pub after_last_of : Setting → Debugger → Held → Option Target → Held
after_last_of s d h None = h
after_last_of s d h (Some target) = if is_unset d then after_last_as s d h target (part_of s d h target) else h
