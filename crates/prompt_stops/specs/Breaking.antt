-- Breakpoints and watches, as lines make, change and delete them.
use Rattle.std.specs.Prelude.{◌≡◌, ℕ, ◌&&◌, Bool, bytes_eq, codes, false, true, nat_lt, List, [], ◌∷◌, ◌++◌, length, Option, Some, None, if◌then◌else◌}
use Rattle.gang_types.specs.declared.places.Spot.{Spot}
use Rattle.gang_types.specs.declared.places.VarId.{VarId}
use Rattle.gang_model.specs.Debugger.Debugger.{Command, Debugger, DoBreak, DoDelete, DoWatch, Setting, Target, do_command, now}
use Rattle.gang_model.specs.Texts.CommandText.{command_of}
use Rattle.gang_model.specs.Types.Tree.{Program}
use Rattle.debug_traits.specs.Frames.{spot_at}
use Rattle.conditional_stops.specs.declared.writes.SetPlace.{SetPlace}
use Rattle.debug_session.specs.declared.session.Session.{Session}
use Rattle.command_lists.specs.Lists.{HasDone}
use Rattle.expression_watches.specs.declared.sights.ExpressionWatch.{ExpressionWatch}
use Rattle.expression_watches.specs.Meanings.{is_meant}
use Rattle.expression_watches.specs.Sights as expression
use Rattle.prompt_lines.specs.Conditions.{before_if, behind_first, first_word}
use Rattle.prompt_lines.specs.Numbers.{are_numbers}
use Rattle.prompt_lines.specs.Words.{printing_text}
use Rattle.prompt_scenes.specs.Conditions.{forgotten_by, made_so}
use Rattle.prompt_scenes.specs.FrameWatches.{is_frame, local_named, place_named, with_expression, with_frame, with_writes, without_frames}
use Rattle.prompt_scenes.specs.Holding.{Held}
use Rattle.prompt_scenes.specs.SelectedFrame.{depth_of}
use Rattle.prompt_scenes.specs.Readings.{made_number, print_of, trimmed, watch_number}
use Rattle.prompt_scenes.specs.Changes.{with_temporary}
use Rattle.prompt_stops.specs.Numbers.{after_deleted, deleted_each, disabled_each, enabled_each, numbers_named}

-- a breakpoint is made
abbrev pub broken : (line : Option ℕ) → List Command
broken None = []
broken (Some n) = DoBreak n ∷ []

-- whether a number is that of the watch of a frame
abbrev pub is_frame_number : Option ℕ → Held → Bool
is_frame_number None h = false
is_frame_number (Some n) h = is_frame n h

-- a breakpoint or watch is deleted, or all; the watch of a frame is no stop of the debugger's
abbrev pub deletes : Held → Option (Option ℕ) → List Command
deletes h None = []
deletes h (Some number) = if is_frame_number number h then [] else DoDelete number ∷ []

-- some are deleted, one after another
abbrev pub deletes_each : Held → List ℕ → List Command
deletes_each h [] = []
deletes_each h (number ∷ numbers) = deletes h (Some (Some number)) ++ deletes_each (after_deleted number h) numbers

-- those that a line names by more than one number
abbrev pub deletes_named : Debugger → Held → (text : List ℕ) → List Command
deletes_named d h text = if are_numbers text then deletes_each h (numbers_named d h text) else []

-- one, or all, or those that a line names
abbrev pub deletes_by : Debugger → Held → Option (Option ℕ) → (text : List ℕ) → List Command
deletes_by d h None text = deletes_named d h text
deletes_by d h (Some number) text = deletes h (Some number)

-- a breakpoint is deleted
abbrev pub cleared : (number : Option ℕ) → List Command
cleared None = []
cleared (Some n) = DoDelete (Some n) ∷ []

-- the next number is taken: a breakpoint is made, and deleted at once
abbrev pub numbered : Setting → Debugger → List Command
numbered s d = DoBreak 1 ∷ cleared (made_number (do_command s (DoBreak 1) d).answer)

-- the number that is taken, if one is left
abbrev pub taken : Setting → Debugger → Option ℕ
taken s d = made_number (do_command s (DoBreak 1) d).answer

-- ---- what is watched

-- the step at which the frame stands that is selected
abbrev pub spot_of : Setting → Debugger → Held → Option Spot
spot_of s d h = spot_at s.program (depth_of s d h) (now s d)

-- a target is watched: a variable of the frame that is selected by a number that is taken, where there is room, and one of the file by the debugger
abbrev pub watched_as : Setting → Debugger → Held → Target → (local : Option VarId) → List Command
watched_as s d h target None = DoWatch target ∷ []
watched_as s d h target (Some v) = if nat_lt (length h.frames) 16 then numbered s d else []

-- a text, if it has any byte
abbrev pub if_any : List ℕ → Option (List ℕ)
if_any [] = None
if_any (byte ∷ bytes) = Some (byte ∷ bytes)

-- what stands behind the first word of a command line and before its condition, without the blanks around it; nothing of one that was cut
abbrev pub written_in : (text : List ℕ) → Option (List ℕ)
written_in text = if nat_lt (length text) 257 then if_any (trimmed (behind_first (before_if text))) else None

-- what stands behind `-w`
abbrev pub name_behind : (text : List ℕ) → Option (List ℕ)
name_behind text = if bytes_eq (first_word text) (codes "-w") then if_any (trimmed (behind_first text)) else None

abbrev pub name_in : Option (List ℕ) → Option (List ℕ)
name_in None = None
name_in (Some text) = name_behind text

-- the text of the variable or the element that a line names to watch what sets it
abbrev pub write_name : (text : List ℕ) → Option (List ℕ)
write_name text = name_in (written_in text)

-- the target that such a text spells, as behind `print`
abbrev pub place_target : (name : List ℕ) → Option Target
place_target name = print_of (command_of (printing_text name))

-- what sets a place is watched by a number that is taken, where there is room
abbrev pub writes_by : Setting → Debugger → Held → Option SetPlace → List Command
writes_by s d h None = []
writes_by s d h (Some place) = if nat_lt (length h.frames) 16 then numbered s d else []

-- the same of a target in the frame that is selected
abbrev pub writes_of : Setting → Debugger → Held → Option Target → List Command
writes_of s d h None = []
writes_of s d h (Some target) = writes_by s d h (place_named s d (depth_of s d h) target)

-- the same of a text
abbrev pub writes_watched : Setting → Debugger → Held → (name : List ℕ) → List Command
writes_watched s d h name = writes_of s d h (place_target name)

-- whether a text means an expression at a step, if there is one
abbrev pub means_at : Program → (text : List ℕ) → Option Spot → Bool
means_at p text None = false
means_at p text (Some spot) = is_meant p spot text

-- whether a text can be watched: it means an expression where the frame stands that is selected, and there is room
abbrev pub can_watch : Setting → Debugger → Held → (text : List ℕ) → Bool
can_watch s d h text = nat_lt (length h.frames) 16 && means_at s.program text (spot_of s d h)

-- a text is watched by a number that is taken, where it can be
abbrev pub text_watched : Setting → Debugger → Held → (text : Option (List ℕ)) → List Command
text_watched s d h None = []
text_watched s d h (Some text) = if can_watch s d h text then numbered s d else []

-- a target is watched, or else a text
abbrev pub watched : Setting → Debugger → Held → Option Target → (text : Option (List ℕ)) → List Command
watched s d h None text = text_watched s d h text
watched s d h (Some target) text = watched_as s d h target (local_named s d (depth_of s d h) target)

-- a breakpoint on a line is to be temporary
abbrev pub after_break : Setting → Debugger → Held → (line : Option ℕ) → Held
after_break s d h None = h
after_break s d h (Some n) = with_temporary h (made_number (do_command s (DoBreak n) d).answer)

-- a breakpoint that is made has the condition that was named
abbrev pub after_made : Setting → Debugger → Held → (line : Option ℕ) → (condition : Option (List ℕ)) → Held
after_made s d h None condition = h
after_made s d h (Some n) condition = made_so (made_number (do_command s (DoBreak n) d).answer) condition h

-- the watch of a text by a number, if one was found, in the frame at a depth, which stands at a step
abbrev pub watch_made : (number : Option ℕ) → (depth : ℕ) → Option Spot → (text : List ℕ) → Option ExpressionWatch
watch_made (Some number) deep (Some spot) text = expression.watch_of number deep spot text
watch_made number deep spot text = None

-- a watch that is made
abbrev pub watched_then : Setting → Debugger → Held → Target → (local : Option VarId) → (condition : Option (List ℕ)) → Held
watched_then s d h target None condition = made_so (watch_number (do_command s (DoWatch target) d).answer) condition h
watched_then s d h target (Some v) condition =
    if nat_lt (length h.frames) 16
    then made_so (taken s d) condition (with_frame (taken s d) target (depth_of s d h) v h) else h

abbrev pub text_watched_then : Setting → Debugger → Held → (text condition : Option (List ℕ)) → Held
text_watched_then s d h None condition = h
text_watched_then s d h (Some text) condition =
    if can_watch s d h text then made_so (taken s d) condition (with_expression (watch_made (taken s d) (depth_of s d h) (spot_of s d h) text) h) else h

abbrev pub after_watch : Setting → Debugger → Held → Option Target → (text condition : Option (List ℕ)) → Held
after_watch s d h None text condition = text_watched_then s d h text condition
after_watch s d h (Some target) text condition = watched_then s d h target (local_named s d (depth_of s d h) target) condition

-- what is held where what sets a place is watched, with its condition
abbrev pub writes_then : Setting → Debugger → Held → (name : List ℕ) → Option SetPlace → (condition : Option (List ℕ)) → Held
writes_then s d h name None condition = h
writes_then s d h name (Some place) condition =
    if nat_lt (length h.frames) 16 then made_so (taken s d) condition (with_writes (taken s d) name (depth_of s d h) place h) else h

-- the same of a target in the frame that is selected
abbrev pub writes_of_then : Setting → Debugger → Held → Option Target → (condition : Option (List ℕ)) → Held
writes_of_then s d h None condition = h
writes_of_then s d h (Some target) condition = writes_then s d h target.name (place_named s d (depth_of s d h) target) condition

-- the same of a text
abbrev pub writes_watched_then : Setting → Debugger → Held → (name : List ℕ) → (condition : Option (List ℕ)) → Held
writes_watched_then s d h name condition = writes_of_then s d h (place_target name) condition

-- what a line that watches comes to: it is done as these say; or there was no memory to read the text, and nothing is done
abbrev pub DoesWatch : {M : Type 0} → (M → Setting → Debugger → Type 0) → Setting → Debugger → Held → Option Target → (text condition : Option (List ℕ)) → (refused : Bool) → Session M → Held → Type 0
DoesWatch stands s d h None text condition true session new = HasDone stands s [] d session × (new ≡ h)
DoesWatch stands s d h target text condition refused session new = HasDone stands s (watched s d h target text) d session × (new ≡ after_watch s d h target text condition)

-- one of them
pub record Watches {M : Type 0} (stands : M → Setting → Debugger → Type 0) (s : Setting) (d : Debugger) (h : Held) (target : Option Target) (text condition : Option (List ℕ)) (session : Session M) (new : Held) : Type 0 where
  pub refused : Bool
  pub does : DoesWatch stands s d h target text condition refused session new

-- the commands of a line that watches what sets the variable of a name; where it names none, a target or a text
abbrev pub watched_by : Setting → Debugger → Held → (name : Option (List ℕ)) → Option Target → (text : Option (List ℕ)) → List Command
watched_by s d h None target text = watched s d h target text
watched_by s d h (Some name) target text = writes_watched s d h name

-- what is held then
abbrev pub after_watch_by : Setting → Debugger → Held → (name : Option (List ℕ)) → Option Target → (text condition : Option (List ℕ)) → Held
after_watch_by s d h None target text condition = after_watch s d h target text condition
after_watch_by s d h (Some name) target text condition = writes_watched_then s d h name condition

-- such a line is done; for a text there may have been no memory
abbrev pub WatchesBy : {M : Type 0} → (M → Setting → Debugger → Type 0) → Setting → Debugger → Held → (name : Option (List ℕ)) → Option Target → (text condition : Option (List ℕ)) → Session M → Held → Type 0
WatchesBy stands s d h None target text condition session new = Watches stands s d h target text condition session new
WatchesBy stands s d h (Some name) target text condition session new = HasDone stands s (writes_watched s d h name) d session × (new ≡ writes_watched_then s d h name condition)

-- what was deleted is forgotten: one, or all, or those that a line names
abbrev pub after_named : Debugger → Held → (text : List ℕ) → Held
after_named d h text = if are_numbers text then deleted_each (numbers_named d h text) h else h

abbrev pub after_deletes : Debugger → Held → Option (Option ℕ) → (text : List ℕ) → Held
after_deletes d h None text = after_named d h text
after_deletes d h (Some number) text = forgotten_by (Some number) (without_frames (Some number) h)

-- what a line names is disabled, or enabled
abbrev pub after_disable : Debugger → Held → (text : List ℕ) → Held
after_disable d h text = if are_numbers text then disabled_each (numbers_named d h text) h else h

abbrev pub after_enable : Debugger → Held → (text : List ℕ) → Held
after_enable d h text = if are_numbers text then enabled_each (numbers_named d h text) h else h
