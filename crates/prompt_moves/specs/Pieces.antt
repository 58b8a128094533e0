-- `continue` in pieces: `step N` again and again. A `step` ends where its moves are made before breakpoints and watches are looked
-- at, so what would end `continue` there is asked for behind each piece.
use Rattle.std.specs.Prelude.{◌≡◌, ℕ, false, List, Option, Some, None, if◌then◌else◌}
use Rattle.gang_model.specs.Running.State.{State}
use Rattle.gang_model.specs.Debugger.Debugger.{AtBreakpoint, Debugger, Here, NoGoal, Reply, Setting, differs, first_stop, forward, forward_refusal, has_ended, now, on_line, unless_refused}
use Rattle.gang_model.specs.Debugger.Positions.{line_now}
use Rattle.debug_answers.specs.declared.answer.Answer.{Answer}
use Rattle.debug_answers.specs.Meanings.{Means}
use Rattle.debug_session.specs.declared.session.Session.{Session}
use Rattle.debug_session.specs.Sessions.{Replied, StandsFor}
use Rattle.gang_model.specs.Debugger.Debugger as model

-- `continue`, so many moves at most
abbrev pub continued : (most : ℕ) → Setting → Debugger → Reply
continued most s d = unless_refused (forward_refusal false (now s d)) d (forward most s NoGoal)

-- no move ends by a watch
abbrev pub NoWatch : List (ℕ × model.Stop) → Type 0
NoWatch stops = (old new : State) → first_stop (differs old new) stops ≡ None

-- a breakpoint ends `continue`
abbrev pub at_breakpoint : Option ℕ → Option model.Answer
at_breakpoint None = None
at_breakpoint (Some n) = Some (AtBreakpoint n)

-- what ends `continue` where a piece has led: that the program has ended, or a breakpoint on the line
abbrev pub ends_there : Setting → Debugger → Option model.Answer
ends_there s d = if has_ended (now s d) then Some Here else at_breakpoint (first_stop (on_line (line_now s.program (now s d))) d.stops)

-- what ends `continue` is told as the definitions have it, or nothing does
abbrev pub MeansEnd : Setting → Debugger → Option Answer → Option model.Answer → Type 0
MeansEnd s d None None = Unit {0}
MeansEnd s d (Some told) (Some meant) = Means s d told meant
MeansEnd s d told meant = ⊥

-- a piece ended `continue` with its reply, or led to where so many moves are left of it
abbrev pub GoesBy : {M : Type 0} → (M → Setting → Debugger → Type 0) → Setting → Reply → (left : ℕ) → Option Answer → Session M → Type 0
GoesBy stands s whole left (Some told) new = Replied stands s whole told new
GoesBy stands s whole left None new = (e : Debugger) × StandsFor stands new s e × NoWatch e.stops × (has_ended (now s e) ≡ false) × (whole ≡ forward left s NoGoal e)
