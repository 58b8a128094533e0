-- The text of a move's answer says why the command stopped: answers that stopped for different reasons have different texts.
use Rattle.std.proofs.Common.{◌≡◌, refl, sym, ap, ◌∙◌, ℕ, List, [], ◌∷◌, length, Option, Some, None}
use Rattle.std.specs.Prelude.{◌==◌, slice_get, if◌then◌else◌}
use Rattle.gang_types.specs.Lanes.{Lanes}
use Rattle.gang_model.specs.Running.Lanes.{Fault}
use Rattle.gang_model.specs.Types.Tree.{Standing, Function, Program}
use Rattle.gang_model.specs.Running.State.{Frame}
use Rattle.gang_model.specs.Debugger.Positions.{frame_spot, frame_lanes, standing_at}
use Rattle.gang_model.specs.Debugger.Debugger.{Debugger, Answer, Here, AtBreakpoint, AtWatch, AtFault, HistoryEnd, StepLimit, UndoneStep, UndonePoke, Setting, now}
use Rattle.gang_model.specs.Texts.Text.{Bytes, line, standing_text, frames_text, text}

-- why a command that moves stopped
pub data Reason : Type 0 where
  GoalOrEnd Breakpoint Watched Faulted HistoryEnded LimitReached TakenBack : Reason

-- the answers of commands that move, with the reason
pub data StoppedFor : Answer → Reason → Type 0 where
  here : StoppedFor Here GoalOrEnd
  at_breakpoint : {n : ℕ} → StoppedFor (AtBreakpoint n) Breakpoint
  at_watch : {n : ℕ} → StoppedFor (AtWatch n) Watched
  at_fault : {fault : Fault} → StoppedFor (AtFault fault) Faulted
  at_history_end : StoppedFor HistoryEnd HistoryEnded
  at_limit : StoppedFor StepLimit LimitReached
  undone_step : StoppedFor UndoneStep TakenBack
  undone_poke : StoppedFor UndonePoke TakenBack

-- the reason that the first byte of a text names
abbrev reason_by : ℕ → Reason
reason_by byte =
    if byte == 98 then Breakpoint
    else (if byte == 119 then Watched
    else (if byte == 102 then Faulted
    else (if byte == 104 then HistoryEnded
    else (if byte == 115 then LimitReached
    else (if byte == 117 then TakenBack else GoalOrEnd)))))

abbrev reason_in : Bytes → Reason
reason_in [] = GoalOrEnd
reason_in (byte ∷ bytes) = reason_by byte

place_gives : (standing : Option Standing) (f : Option Function) (depth : ℕ) (lanes : Lanes) → reason_in (line (standing_text standing f depth lanes)) ≡ GoalOrEnd
place_gives None f depth lanes = refl
place_gives (Some standing) None depth lanes = refl
place_gives (Some standing) (Some f) depth lanes = refl

frames_give : (p : Program) (frames : List Frame) → reason_in (line (frames_text p frames)) ≡ GoalOrEnd
frames_give p [] = refl
frames_give p (frame ∷ frames) =
    place_gives (standing_at p (frame_spot p frame)) (slice_get p.functions (frame_spot p frame).function.0) (length (frame ∷ frames)) (frame_lanes frame)

-- the text of an answer gives its reason
text_gives : (s : Setting) (d : Debugger) {answer : Answer} {reason : Reason} → StoppedFor answer reason → reason_in (text s answer d) ≡ reason
text_gives s d here = frames_give s.program (now s d).frames
text_gives s d at_breakpoint = refl
text_gives s d at_watch = refl
text_gives s d at_fault = refl
text_gives s d at_history_end = refl
text_gives s d at_limit = refl
text_gives s d undone_step = refl
text_gives s d undone_poke = refl

-- answers with one text stopped for one reason
pub same_reason : (s : Setting) (d e : Debugger) {a b : Answer} {reason other : Reason} → StoppedFor a reason → StoppedFor b other → text s a d ≡ text s b e → reason ≡ other
same_reason s d e h k same = sym (text_gives s d h) ∙ ap reason_in same ∙ text_gives s e k
