-- Lines that print, set or display a target.
use Rattle.std.specs.Prelude.{ℕ, ◌==◌, ℤ, Bool, nat_lt, List, [], ◌∷◌, length, Option, Some, None, if◌then◌else◌}
use Rattle.gang_model.specs.Debugger.Debugger.{Command, Debugger, DoPrint, DoSet, DoSetIn, Setting, Target}
use Rattle.prompt_scenes.specs.Holding.{Held}
use Rattle.prompt_scenes.specs.SelectedFrame.{depth_of, in_top, shows}
use Rattle.prompt_scenes.specs.Changes.{with_display, without_display}

-- a target is set in the frame that is selected
abbrev pub set_selected : Setting → Debugger → Held → Target → (value : ℤ) → List Command
set_selected s d h target z = if h.frame == 0 then DoSet target z ∷ [] else DoSetIn (depth_of s d h) target z ∷ []

-- the same, where a command line sets one
abbrev pub set_by : Setting → Debugger → Held → Option Command → List Command
set_by s d h (Some (DoSet target z)) = set_selected s d h target z
set_by s d h command = []

-- a target is printed, else set as the other command says
abbrev pub printed_or_set : Setting → Debugger → Held → Option Target → (other : Option Command) → List Command
printed_or_set s d h None other = set_by s d h other
printed_or_set s d h (Some target) other = in_top h (DoPrint target ∷ [])

-- whether a command line is to be displayed: of a target if it is shown, and any other if all of it is held
abbrev pub is_displayed : Setting → Debugger → Held → (text : List ℕ) → Option Target → Bool
is_displayed s d h text None = nat_lt (length text) 257
is_displayed s d h text (Some target) = shows s d h target

-- what a command line names is to be displayed
abbrev pub after_print : Setting → Debugger → Held → (text : List ℕ) → Option Target → Held
after_print s d h text target = if is_displayed s d h text target then with_display h text else h

-- what has a number is to be displayed no more
abbrev pub after_delete : Held → Option (Option ℕ) → Held
after_delete h None = h
after_delete h (Some number) = without_display h number
