-- A piece of `continue`, and what is left of it.
use Rattle.std.proofs.Common.{◌≡◌, refl, sym, subst, ap, ◌∙◌, ℕ, suc, zero, ◌+◌, ◌-◌, ◌≤◌, Bool, true, false, List, [], ◌∷◌, length, Option, Some, None, Result, Ok, Err, inl, inr, arith}
use Rattle.std.specs.Prelude.{◌==◌, ◌||◌, if◌then◌else◌, nat_le}
use Rattle.std.specs.List.{list_any}
use Rattle.std.proofs.lemmas.Bool.Decides.{nat_tests}
use Rattle.std.proofs.lemmas.Bool.{cases_Bool}
use Rattle.gang_model.specs.Types.Tree.{Program}
use Rattle.gang_model.specs.Running.Lanes.{Fault}
use Rattle.gang_model.specs.Running.State.{Frame, State, Store, Task}
use Rattle.gang_model.specs.Running.Step.{Fails, Goes, Over, Stepped, perform, step, step_frame, step_task, stepped}
use Rattle.gang_model.specs.Debugger.Events.{Step}
use Rattle.gang_model.specs.Debugger.Positions.{line_of, standing_of, top_spot, line_now}
use Rattle.gang_model.specs.Debugger.Debugger as model
use Rattle.gang_model.specs.Debugger.Debugger.{AfterMove, Debugger, DoContinue, DoStep, Ended, Ends, Goal, GoesOn, Here, Moves, NoGoal, Reply, Setting, StepLimit, Stop, attempted, after_move, depth, differs, do_command, ends_or_goes_on, first_stop, forward, has_ended, moved, now, on_line, or_next, reply, towards, unless_refused}
use Rattle.debug_answers.specs.declared.stops.NumberedStop.{NumberedStop}
use Rattle.debug_answers.specs.declared.stops.Stop as declared
use Rattle.debug_answers.specs.declared.stops.Stop.TheVariants as stop
use Rattle.debug_answers.specs.declared.answer.Answer.{Answer}
use Rattle.debug_answers.specs.declared.answer.Answer.TheVariants as answer
use Rattle.debug_answers.specs.Meanings.{AreStops, IsStop}
use Rattle.debug_session.specs.declared.session.Session.{Session}
use Rattle.debug_session.specs.Sessions.{Replied, RepliesTo, StandsFor}
use Rattle.debug_session.proofs.Moves.{forward_fails, forward_goes, forward_over}
use Rattle.debug_session.proofs.Turns.{first_nowhere, first_stop_at}
use Rattle.debug_traits.specs.declared.machine.Position.{Position}
use Rattle.debug_traits.specs.Machines.{line_of_position}
use Rattle.conditional_stops.specs.Watching.{is_watch, watches}
use Rattle.prompt_scenes.specs.Readings.{is_here}
use Rattle.prompt_scenes.proofs.AnswersMean.{is_here-means}
use Rattle.prompt_scenes.specs.Given as given
use Rattle.prompt_moves.specs.Breakpoints.{stop_here}
use Rattle.prompt_moves.specs.Pieces.{GoesBy, MeansEnd, NoWatch, at_breakpoint, continued, ends_there}
use Rattle.prompt_moves.proofs.DoneCommands.{sure_reply}

-- ---- where the program has ended

no_step_over : (r : Result State Fault) → stepped r ≡ Over → ⊥
no_step_over (Ok state) e = cc e
no_step_over (Err fault) e = cc e

no_task_over : (p : Program) (memory : Store) (frames : List Frame) (frame : Frame) (tasks : List Task) → step_task p memory frames frame tasks ≡ Over → ⊥
no_task_over p memory frames frame [] e = cc e
no_task_over p memory frames frame (t ∷ ts) e = no_step_over (perform p t.doing t.lanes (record { memory = memory; frames = record frame { tasks = ts } ∷ frames })) e

-- a program that is over has ended
over_ended : (p : Program) (memory : Store) (frames : List Frame) → step_frame p memory frames ≡ Over → (length frames == 0) ≡ true
over_ended p memory [] e = refl
over_ended p memory (frame ∷ frames) e = absurd (no_task_over p memory frames frame frame.tasks e)

-- and then there is no line
ended_nowhere : (p : Program) (frames : List Frame) → (length frames == 0) ≡ true → line_of (standing_of p (top_spot p frames)) ≡ None
ended_nowhere p [] e = refl
ended_nowhere p (frame ∷ frames) e = grind (arith, nat_tests)

-- ---- one move

-- what `continue` comes to where a piece has led, by what ends it there, with so many moves left
abbrev from_there : Setting → ℕ → Option model.Answer → Debugger → Reply
from_there s left (Some answer) d = reply answer d
from_there s left None d = forward left s NoGoal d

-- what `continue` comes to behind the reply of a piece
abbrev behind_piece : Setting → ℕ → Reply → Reply
behind_piece s left r = if is_here r.answer then from_there s left (ends_there s r.next) r.next else r

-- what `continue` comes to where the piece has led to the end
ended_there : (s : Setting) (left : ℕ) (d : Debugger) → has_ended (now s d) ≡ true → from_there s left (ends_there s d) d ≡ reply Here d
ended_there s left d e = ap (λ b. from_there s left (if b then Some Here else at_breakpoint (first_stop (on_line (line_now s.program (now s d))) d.stops)) d) e

-- the last move of a piece
last_move : (s : Setting) (left b : ℕ) (d : Debugger) (breakpoint watch : Option ℕ) (ended : Bool) → b ≡ left → watch ≡ None → (ended ≡ true → breakpoint ≡ None)
    → or_next (ends_or_goes_on (Some NoGoal) breakpoint watch ended Here) d (λ goal. forward b s goal d) ≡ from_there s left (if ended then Some Here else at_breakpoint breakpoint) d
last_move s left b d None None true same e nowhere = refl
last_move s left b d None None false same e nowhere = ap (λ n. forward n s NoGoal d) same
last_move s left b d (Some n) None true same e nowhere = cc (nowhere refl)
last_move s left b d (Some n) None false same e nowhere = refl
last_move s left b d breakpoint (Some n) ended same e nowhere = cc e

-- a move before it
move_before : (s : Setting) (left b c : ℕ) (goal : Goal) (d : Debugger) (breakpoint watch : Option ℕ) (ended : Bool) → watch ≡ None → ended ≡ has_ended (now s d)
    → forward b s NoGoal d ≡ behind_piece s left (forward c s goal d)
    → or_next (ends_or_goes_on (Some NoGoal) breakpoint watch ended Here) d (λ goal. forward b s goal d)
    ≡ behind_piece s left (or_next (ends_or_goes_on (Some goal) breakpoint watch ended Here) d (λ goal. forward c s goal d))
move_before s left b c goal d (Some n) None ended e is further = refl
move_before s left b c goal d None None true e is further = sym (ended_there s left d (sym is))
move_before s left b c goal d None None false e is further = further
move_before s left b c goal d breakpoint (Some n) ended e is further = cc e

-- two moves or more are to be made, and then one less
towards_more : (a deep : ℕ) → towards (Moves (suc (suc a))) deep ≡ Some (Moves (suc a))
towards_more a deep =
    let more : nat_le (suc (suc a)) 1 ≡ false = grind (arith, nat_tests) in
    let less : suc (suc a) - 1 ≡ suc a = omega arith in
    ap (λ t. if t then None else Some (Moves (suc (suc a) - 1))) more ∙ ap (λ n. Some (Moves n)) less

-- ---- a piece

module _ (s : Setting) (left other : ℕ) where
  -- `continue` goes as so many moves of a step and what is left behind them
  by_step : (a b c : ℕ) (d : Debugger) (r : Stepped) → NoWatch d.stops → step s.program (now s d) ≡ r → b ≡ a + left → c ≡ a + other
      → forward (suc b) s NoGoal d ≡ behind_piece s left (forward (suc c) s (Moves (suc a)) d)
  by_step a b c d (Fails fault) none e more same =
      forward_fails s d b NoGoal fault e ∙ ap (behind_piece s left) (sym (forward_fails s d c (Moves (suc a)) fault e))
  by_step a b c d Over none e more same =
      forward_over s d b NoGoal e ∙ sym (ended_there s left d (over_ended s.program (now s d).memory (now s d).frames e))
      ∙ ap (behind_piece s left) (sym (forward_over s d c (Moves (suc a)) e))
  by_step zero b c d (Goes new) none e more same =
      let there = now s (moved Step d) in
      let last : b ≡ left = omega arith in
      forward_goes s d b NoGoal new (has_ended there) e refl
      ∙ last_move s left b (moved Step d) (first_stop (on_line (line_now s.program there)) d.stops) (first_stop (differs (now s d) there) d.stops) (has_ended there)
      last (none (now s d) there) (λ ended. ap (λ line. first_stop (on_line line) d.stops) (ended_nowhere s.program there.frames ended) ∙ first_nowhere d.stops)
      ∙ ap (behind_piece s left) (sym (forward_goes s d c (Moves 1) new (has_ended there) e refl))
  by_step (suc a) (suc b) (suc c) d (Goes new) none e more same =
      let there = now s (moved Step d) in
      let more_then : b ≡ a + left = omega arith in
      let same_then : c ≡ a + other = omega arith in
      let line = first_stop (on_line (line_now s.program there)) d.stops in
      let change = first_stop (differs (now s d) there) d.stops in
      forward_goes s d (suc b) NoGoal new (has_ended there) e refl
      ∙ move_before s left (suc b) (suc c) (Moves (suc a)) (moved Step d) line change (has_ended there) (none (now s d) there) refl
      (by_step a b c (moved Step d) (step s.program there) none refl more_then same_then)
      ∙ ap (λ g. behind_piece s left (or_next (ends_or_goes_on g line change (has_ended there) Here) (moved Step d) (λ goal. forward (suc c) s goal (moved Step d)))) (sym (towards_more a (depth there)))
      ∙ ap (behind_piece s left) (sym (forward_goes s d (suc c) (Moves (suc (suc a))) new (has_ended there) e refl))
  by_step (suc a) zero c d (Goes new) none e more same = absurd (omega arith)
  by_step (suc a) (suc b) zero d (Goes new) none e more same = absurd (omega arith)

by_moves : (s : Setting) (count most limit : ℕ) (d : Debugger) → NoWatch d.stops → 1 ≤ count → count ≤ limit → count ≤ most
    → forward most s NoGoal d ≡ behind_piece s (most - count) (forward limit s (Moves count) d)
by_moves s (suc a) (suc b) (suc c) d none one within few =
    let more : b ≡ a + (suc b - suc a) = omega arith in
    let same : c ≡ a + (c - a) = omega arith in
    by_step s (suc b - suc a) (c - a) a b c d (step s.program (now s d)) none refl more same
by_moves s zero most limit d none one within few = absurd (omega arith)
by_moves s (suc a) zero limit d none one within few = absurd (omega arith)
by_moves s (suc a) (suc b) zero d none one within few = absurd (omega arith)

-- `continue` is what is left of it behind a step of so many moves
pub by_piece : (s : Setting) (count most : ℕ) (d : Debugger) → NoWatch d.stops → 1 ≤ count → count ≤ s.limit → count ≤ most
    → continued most s d ≡ behind_piece s (most - count) (do_command s (DoStep count) d)
by_piece s count most d none one within few = elim (cases_Bool (has_ended (now s d))) [
  | inl e ↦
      ap (λ b. unless_refused (if b then Some Ended else None) d (forward most s NoGoal)) e
      ∙ ap (behind_piece s (most - count)) (sym (ap (λ b. unless_refused (if b then Some Ended else None) d (forward s.limit s (Moves count))) e))
  | inr e ↦
      ap (λ b. unless_refused (if b then Some Ended else None) d (forward most s NoGoal)) e
      ∙ by_moves s count most s.limit d none one within few
      ∙ ap (behind_piece s (most - count)) (sym (ap (λ b. unless_refused (if b then Some Ended else None) d (forward s.limit s (Moves count))) e))
]

-- ---- what stays

or_stops : (m : AfterMove) (d : Debugger) (next : Goal → Reply) → ((goal : Goal) → (next goal).next.stops ≡ d.stops) → (or_next m d next).next.stops ≡ d.stops
or_stops (Ends answer) d next same = refl
or_stops (GoesOn goal) d next same = same goal

attempted_stops : (s : Setting) (goal : Goal) (d : Debugger) (r : Stepped) (next : Goal → Reply) → ((goal : Goal) → (next goal).next.stops ≡ d.stops) → (attempted s goal d r next).next.stops ≡ d.stops
attempted_stops s goal d Over next same = refl
attempted_stops s goal d (Fails fault) next same = refl
attempted_stops s goal d (Goes new) next same = or_stops (after_move s.program goal (now s d) new d.stops (has_ended new) Here) (moved Step d) next same

forward_stops : (n : ℕ) (s : Setting) (goal : Goal) (d : Debugger) → (forward n s goal d).next.stops ≡ d.stops
forward_stops zero s goal d = refl
forward_stops (suc n) s goal d = attempted_stops s goal d (step s.program (now s d)) (λ next. forward n s next (moved Step d)) (λ next. forward_stops n s next (moved Step d))

-- a step leaves breakpoints and watches as they are
pub step_stops : (s : Setting) (n : ℕ) (d : Debugger) → (do_command s (DoStep n) d).next.stops ≡ d.stops
step_stops s n d = elim (cases_Bool (has_ended (now s d))) [
  | inl e ↦ ap (λ b. (unless_refused (if b then Some Ended else None) d (forward s.limit s (Moves n))).next.stops) e
  | inr e ↦ ap (λ b. (unless_refused (if b then Some Ended else None) d (forward s.limit s (Moves n))).next.stops) e ∙ forward_stops s.limit s (Moves n) d
]

-- ---- what a piece comes to

-- where nothing ends `continue`, the program has not ended
not_ended : (s : Setting) (d : Debugger) → None ≡ ends_there s d → has_ended (now s d) ≡ false
not_ended s d e = elim (cases_Bool (has_ended (now s d))) [
  | inl ended ↦ cc (e ∙ ap (λ b. if b then Some Here else at_breakpoint (first_stop (on_line (line_now s.program (now s d))) d.stops)) ended)
  | inr other ↦ other
]

ended_so : (s : Setting) (d : Debugger) (b : Bool) → has_ended (now s d) ≡ b → ends_there s d ≡ (if b then Some Here else at_breakpoint (first_stop (on_line (line_now s.program (now s d))) d.stops))
ended_so s d b e = ap (λ b. if b then Some Here else at_breakpoint (first_stop (on_line (line_now s.program (now s d))) d.stops)) e

-- the program has ended
pub ends_by_end : (s : Setting) (d : Debugger) → has_ended (now s d) ≡ true → MeansEnd s d (Some answer.Here) (ends_there s d)
ends_by_end s d e = subst (MeansEnd s d (Some answer.Here)) (sym (ended_so s d true e)) refl

-- a breakpoint is on the line
pub ends_by_breakpoint : (s : Setting) (d : Debugger) (n : ℕ) → has_ended (now s d) ≡ false → Some n ≡ first_stop (on_line (line_now s.program (now s d))) d.stops
    → MeansEnd s d (Some (answer.AtBreakpoint n)) (ends_there s d)
ends_by_breakpoint s d n e stops = subst (MeansEnd s d (Some (answer.AtBreakpoint n))) (sym (ended_so s d false e ∙ ap at_breakpoint (sym stops))) refl

-- nothing ends `continue`
pub ends_by_none : (s : Setting) (d : Debugger) → has_ended (now s d) ≡ false → None ≡ first_stop (on_line (line_now s.program (now s d))) d.stops → MeansEnd s d None (ends_there s d)
ends_by_none s d e stops = subst (MeansEnd s d None) (sym (ended_so s d false e ∙ ap at_breakpoint (sym stops))) tt

-- what is left of `continue` where the program has not ended
continued_open : (s : Setting) (left : ℕ) (d : Debugger) → has_ended (now s d) ≡ false → continued left s d ≡ forward left s NoGoal d
continued_open s left d e = ap (λ b. unless_refused (if b then Some Ended else None) d (forward left s NoGoal)) e

-- a piece led on
pub goes_on : (s : Setting) (whole : Reply) (left rest : ℕ) (e f : Debugger) → whole ≡ continued left s e → continued left s e ≡ forward rest s NoGoal f → has_ended (now s f) ≡ false
    → whole ≡ continued rest s f
goes_on s whole left rest e f same more going = same ∙ more ∙ sym (continued_open s rest f going)

-- the last piece led on, and no move is left
pub gone_all : (s : Setting) (whole : Reply) (left : ℕ) (e f : Debugger) → whole ≡ continued left s e → continued left s e ≡ forward (left - left) s NoGoal f → whole ≡ reply StepLimit f
gone_all s whole left e f same more =
    let none : left - left ≡ 0 = omega arith in
    same ∙ more ∙ ap (λ n. forward n s NoGoal f) none

module _ {M : Type 0} (stands : M → Setting → Debugger → Type 0) (s : Setting) where
  goes_there : (whole : Reply) (left : ℕ) (e : Debugger) (told : Option Answer) (meant : Option model.Answer) (new : Session M) → StandsFor stands new s e → NoWatch e.stops
      → MeansEnd s e told meant → meant ≡ ends_there s e → whole ≡ from_there s left meant e → GoesBy stands s whole left told new
  goes_there whole left e None None new there none means same is = (e, there, none, not_ended s e same, is)
  goes_there whole left e (Some told) (Some meant) new there none means same is = subst (λ r. Replied stands s r told new) (sym is) (record { there = there; means = means })
  goes_there whole left e (Some told) None new there none means same is = absurd means
  goes_there whole left e None (Some meant) new there none means same is = absurd means

  step_reply : (may_want : Type 0) (count : ℕ) (d : Debugger) (told : Answer) (new : Session M) (replies : RepliesTo may_want stands s (DoStep count) d told new) → replies.reply ≡ do_command s (DoStep count) d
  step_reply may_want count d told new replies = sure_reply may_want s (DoStep count) d replies.reply refl replies.is_reply

  -- a piece whose moves are made
  pub piece_made : (may_want : Type 0) (count most : ℕ) (d : Debugger) (told : Answer) (end : Option Answer) (new : Session M) → NoWatch d.stops → 1 ≤ count → count ≤ s.limit → count ≤ most
      → RepliesTo may_want stands s (DoStep count) d told new → given.is_here told ≡ true → ((e : Debugger) → StandsFor stands new s e → MeansEnd s e end (ends_there s e))
      → GoesBy stands s (continued most s d) (most - count) end new
  piece_made may_want count most d told end new none one within few replies here means =
      let r = replies.reply in
      let is : r ≡ do_command s (DoStep count) d = step_reply may_want count d told new replies in
      let made : is_here r.answer ≡ true = sym (is_here-means s r.next told r.answer replies.replied.means) ∙ here in
      let whole : continued most s d ≡ from_there s (most - count) (ends_there s r.next) r.next =
      by_piece s count most d none one within few ∙ ap (behind_piece s (most - count)) (sym is)
      ∙ ap (λ b. if b then from_there s (most - count) (ends_there s r.next) r.next else r) made in
      let same : r.next.stops ≡ d.stops = ap (λ (r : Reply). r.next.stops) is ∙ step_stops s count d in
      goes_there (continued most s d) (most - count) r.next end (ends_there s r.next) new replies.replied.there (subst NoWatch (sym same) none) (means r.next replies.replied.there) refl whole

  -- a piece that ended before
  pub piece_ended : (may_want : Type 0) (count most : ℕ) (d : Debugger) (told : Answer) (new : Session M) → NoWatch d.stops → 1 ≤ count → count ≤ s.limit → count ≤ most
      → RepliesTo may_want stands s (DoStep count) d told new → given.is_here told ≡ false → Replied stands s (continued most s d) told new
  piece_ended may_want count most d told new none one within few replies here =
      let r = replies.reply in
      let is : r ≡ do_command s (DoStep count) d = step_reply may_want count d told new replies in
      let ended : is_here r.answer ≡ false = sym (is_here-means s r.next told r.answer replies.replied.means) ∙ here in
      let whole : continued most s d ≡ r =
      by_piece s count most d none one within few ∙ ap (behind_piece s (most - count)) (sym is)
      ∙ ap (λ b. if b then from_there s (most - count) (ends_there s r.next) r.next else r) ended in
      subst (λ r. Replied stands s r told new) (sym whole) replies.replied

  -- all of it is `continue`
  pub as_continue : (may_want : Type 0) (most : ℕ) (d : Debugger) (told : Answer) (new : Session M) → s.limit ≡ most → Replied stands s (continued most s d) told new → RepliesTo may_want stands s DoContinue d told new
  as_continue may_want most d told new limit replied = record {
    reply = do_command s DoContinue d;
    is_reply = inl (inl refl);
    replied = subst (λ n. Replied stands s (continued n s d) told new) (sym limit) replied;
  }

  -- one reply for another
  pub replied_so : (r q : Reply) (told : Answer) (new : Session M) → r ≡ q → Replied stands s q told new → Replied stands s r told new
  replied_so r q told new same h = subst (λ r. Replied stands s r told new) (sym same) h

-- ---- watches

plain_stop : (s : Setting) (given : declared.Stop) (meant : Stop) (old new : State) → watches given ≡ false → IsStop s given meant → differs old new meant ≡ false
plain_stop s (stop.Line line) (model.Line l) old new e is = refl
plain_stop s (stop.Line line) (model.Watch target v) old new e is = absurd is
plain_stop s (stop.Watch variable at) meant old new e is = cc e

-- where none is given, none is meant
pub no_watch : (s : Setting) (given : List NumberedStop) (meant : List (ℕ × Stop)) → list_any is_watch given ≡ false → AreStops s given meant → NoWatch meant
no_watch s [] [] e are old new = refl
no_watch s [] (entry ∷ meant) e are old new = absurd are
no_watch s (first ∷ given) [] e are old new = absurd are
no_watch s (first ∷ given) (entry ∷ meant) e are old new = elim (cases_Bool (is_watch first)) [
  | inl watch ↦ cc (sym (ap (λ b. b || list_any is_watch given) watch) ∙ e)
  | inr plain ↦
      first_stop_at (differs old new) (entry ∷ meant) entry meant false refl (plain_stop s first.stop entry.1 old new plain are.1)
      ∙ no_watch s given meant (sym (ap (λ b. b || list_any is_watch given) plain) ∙ e) are.2 old new
]

-- no breakpoint is where the program has ended
pub stands_nowhere : (s : Setting) (d : Debugger) (r : Option Position) → line_now s.program (now s d) ≡ line_of_position r → r ≡ None → None ≡ stop_here s d
stands_nowhere s d r there ended = sym (ap (λ line. first_stop (on_line line) d.stops) (there ∙ ap line_of_position ended) ∙ first_nowhere d.stops)
