-- Whether what an editor names can be watched, by where it stands: among the variables of a reference, in a frame or in the file.
use Rattle.std.specs.Prelude.{ℕ, ◌==◌, Bool, true, false, ◌&&◌, ◌++◌, Option, Some, None, codes, unwrap_or, if◌then◌else◌}
use Rattle.gang_model.specs.Types.Tree.{Variable}
use Rattle.gang_model.specs.Debugger.Debugger.{Command, Debugger, DoWatch, Setting, depth, global_named, now}
use Rattle.gang_model.specs.Texts.CommandText.{command_of}
use Rattle.gang_model.specs.Texts.Text.{Bytes}
use Rattle.debug_traits.specs.Frames.{found_at}
use Rattle.adapter_replies.specs.declared.places.Place.{Place}
use Rattle.adapter_replies.specs.declared.places.Place.TheVariants as place
use Rattle.adapter_replies.specs.Breakpoints.{can_watch}
use Rattle.adapter_replies.specs.References.{is_frame, place_of}
use Rattle.adapter_replies.specs.Variables.{is_it}

-- whether what is at a place are the variables of the file, or the lanes or elements of one of them
abbrev pub is_of_file : Place → Bool
is_of_file place.File = true
is_of_file (place.OfFile number) = true
is_of_file (place.FileRange number range) = true
is_of_file other = false

-- whether a variable that was found is that of the file, if there is one
abbrev pub is_that_of_file : (found of_file : Option Variable) → Bool
is_that_of_file found None = false
is_that_of_file found (Some v) = is_it found v

-- whether a name finds a variable of the file in the frame at a depth, and not one of the frame that hides it
abbrev pub finds_of_file : Setting → Debugger → (depth : ℕ) → (name : Bytes) → Bool
finds_of_file s d deep name = is_that_of_file (found_at s.program deep (now s d) name) (global_named s.program name)

-- whether a command watches what its name finds in the frame at a depth
abbrev pub watches_found : Setting → Debugger → (depth : ℕ) → Option Command → Bool
watches_found s d deep (Some (DoWatch target)) = finds_of_file s d deep target.name
watches_found s d deep other = false

-- whether a command watches what can be watched, of an expression: in the frame of a number, if it is there, or in the file
abbrev pub can_watch_in : Setting → Debugger → (frame : Option ℕ) → Option Command → Bool
can_watch_in s d None command = can_watch s d command
can_watch_in s d (Some deep) command = is_frame (depth (now s d)) deep && (watches_found s d deep command && can_watch s d command)

-- the same of one of the variables of a reference; where that is 0, of an expression
abbrev pub can_watch_of : Setting → Debugger → (reference : ℕ) → (frame : Option ℕ) → Option Command → Bool
can_watch_of s d reference frame command = if reference == 0 then can_watch_in s d frame command else is_of_file (place_of reference) && can_watch s d command

-- whether what is asked for can be watched, as `watch` takes its text
abbrev pub is_watchable_of : Setting → Debugger → (reference frame : Option ℕ) → (text : Bytes) → Bool
is_watchable_of s d reference frame text = can_watch_of s d (unwrap_or reference 0) frame (command_of (codes "watch " ++ text))
