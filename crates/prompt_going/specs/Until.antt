-- `until`: on to a line, by a breakpoint that is made for it.
use Rattle.std.specs.Prelude.{ℕ, List, [], ◌∷◌, Option, Some, None}
use Rattle.gang_model.specs.Debugger.Debugger.{Command, Debugger, DoBreak, DoContinue, DoDelete, Setting, do_command}
use Rattle.prompt_scenes.specs.Holding.{Held}
use Rattle.prompt_scenes.specs.Readings.{made_number}
use Rattle.prompt_moves.specs.Following.{begun, follows}

-- on to a breakpoint that has been made, which then goes
abbrev pub going : Setting → Held → Debugger → (made : Option ℕ) → List Command
going s h d None = []
going s h d (Some number) = DoContinue ∷ DoDelete (Some number) ∷ follows h (do_command s DoContinue d).answer

-- on to a line: a breakpoint is made for it
abbrev pub until_line : Setting → Debugger → Held → (line : Option ℕ) → List Command
until_line s d h None = []
until_line s d h (Some n) = let made = do_command s (DoBreak n) d in DoBreak n ∷ going s h made.next (made_number made.answer)

-- what going on to a breakpoint changes
abbrev pub after_going : Setting → Held → Debugger → (made : Option ℕ) → Held
after_going s h d None = h
after_going s h d (Some number) = begun h (do_command s DoContinue d).answer

-- what going on to a line changes
abbrev pub after_until : Setting → Debugger → Held → (line : Option ℕ) → Held
after_until s d h None = h
after_until s d h (Some n) = let made = do_command s (DoBreak n) d in after_going s h made.next (made_number made.answer)
