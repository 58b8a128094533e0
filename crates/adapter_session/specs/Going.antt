-- How the program goes to a time of a line.
use Rattle.std.specs.Prelude.{ℕ, Bool, true, false, ◌==◌, List, [], ◌∷◌, Option, Some, None}
use Rattle.gang_model.specs.Debugger.Debugger as model
use Rattle.gang_model.specs.Debugger.Debugger.{Command, Debugger, DoBreak, DoContinue, DoDelete, DoReverseContinue, Setting, do_command}
use Rattle.debug_answers.specs.declared.answer.Answer.{Answer}
use Rattle.debug_answers.specs.declared.answer.Answer.TheVariants as answer
use Rattle.adapter_requests.specs.declared.request.Request.{Request}
use Rattle.adapter_requests.specs.declared.request.Request.TheVariants as request
use Rattle.adapter_requests.specs.declared.request.Way.{Way}
use Rattle.adapter_requests.specs.declared.request.Way.TheVariants.{Backwards, Forwards}

-- the line and the time of it to which a request asks to go
abbrev pub goto_of : Request → Option (ℕ × Way)
goto_of (request.Goto line way) = Some (line, way)
goto_of other = None

-- on to the next time, or back to the last one
abbrev pub move_of : Way → Command
move_of Forwards = DoContinue
move_of Backwards = DoReverseContinue

-- the breakpoint that was made, by an answer of the definitions and by one that is given
abbrev pub made_number : model.Answer → Option ℕ
made_number (model.BreaksAt n line) = Some n
made_number other = None

abbrev pub given_number : Answer → Option ℕ
given_number (answer.BreaksAt n line) = Some n
given_number other = None

-- a move to a breakpoint that was made, which then goes
abbrev pub going : Way → (made : Option ℕ) → List Command
going way None = []
going way (Some number) = move_of way ∷ DoDelete (Some number) ∷ []

-- a breakpoint is made on the line, the program moves, and the breakpoint goes
abbrev pub goto_commands : Setting → Debugger → ℕ × Way → List Command
goto_commands s d time = DoBreak time.0 ∷ going time.1 (made_number (do_command s (DoBreak time.0) d).answer)

-- the reply to the move, or why no breakpoint was made
abbrev pub reply_from : Setting → Way → (made : model.Reply) → Option ℕ → model.Reply
reply_from s way made None = made
reply_from s way made (Some number) = do_command s (move_of way) made.next

abbrev pub goto_reply : Setting → Debugger → ℕ × Way → model.Reply
goto_reply s d time = let made = do_command s (DoBreak time.0) d in reply_from s time.1 made (made_number made.answer)

-- whether a move stopped at a breakpoint that was made
abbrev pub is_at : Option ℕ → Answer → Bool
is_at None given = false
is_at (Some number) (answer.AtBreakpoint n) = n == number
is_at (Some number) other = false

-- the answer that a move is told by: at the breakpoint that was made the goal is reached
abbrev pub reached : (is_at : Bool) → Answer → Answer
reached true given = answer.Here
reached false given = given
