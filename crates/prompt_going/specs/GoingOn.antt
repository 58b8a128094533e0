-- On to a breakpoint or watch that counts, where conditions or counts are there or something is disabled: how often a command is done for that
-- depends on what the conditions come to.
use Rattle.std.specs.Prelude.{◌≡◌, ℕ, Bool, true, false, List, [], ◌++◌, ◌==◌, length, replicate, Option, Some, None, if◌then◌else◌}
use Rattle.gang_model.specs.Debugger.Debugger.{Command, Debugger, DoContinue, DoReverseContinue, Setting}
use Rattle.command_lists.specs.Lists.{HasDone}
use Rattle.debug_session.specs.declared.session.Session.{Session}
use Rattle.conditional_stops.specs.declared.going.Direction.{Direction}
use Rattle.conditional_stops.specs.declared.going.MoveEnd.{MoveEnd}
use Rattle.conditional_stops.specs.declared.going.Moved.{Moved}
use Rattle.conditional_stops.specs.declared.reasons.CountedStop.{CountedStop}
use Rattle.conditional_stops.specs.Going.{GoesOn, answer_at, answer_of, times}
use Rattle.conditional_stops.specs.Reasons.{Asks, breakpoints_here}
use Rattle.conditional_stops.specs.Tables.{Table, is_nothing}
use Rattle.conditional_stops.specs.Walking.{WalksOn, step_of}
use Rattle.conditional_stops.specs.declared.going.Direction.TheVariants as direction
use Rattle.conditional_stops.specs.declared.going.MoveEnd.TheVariants as end
use Rattle.conditional_stops.specs.Going as going
use Rattle.prompt_scenes.specs.FrameWatches.{ended}
use Rattle.prompt_scenes.specs.Holding.{Held}
use Rattle.prompt_moves.specs.Following.{after_own, own}
use Rattle.prompt_moves.specs.GivenMoves.{begun, follows}
use Rattle.prompt_moves.specs.Moments.{at_first}

-- the most stops that are passed for one line
abbrev pub most : ℕ
most = 1000000

-- whether so many stops were passed as can be in one move
abbrev pub is_most : MoveEnd → Bool
is_most end.MostPassed = true
is_most ended = false

-- the session has done these commands and nothing else, and this is held then
abbrev pub Does : {M : Type 0} → (M → Setting → Debugger → Type 0) → Setting → Debugger → List Command → (changed : Held) → Session M → Held → Type 0
Does stands s d commands changed session new = HasDone stands s commands d session × (new ≡ changed)

-- the session has gone on to a stop that counts, or to what else ended that, and then what follows a move has followed
pub record GoesToStop {M : Type 0} (stands : M → Setting → Debugger → Type 0) (s : Setting) (way : Direction) (d : Debugger) (h : Held) (session : Session M) (new : Held) : Type 0 where
  pub moved : Moved
  pub there : Session M
  pub table : Table
  pub goes : GoesOn stands s way most d h.table moved there table
  pub does : Does stands s d (replicate (times moved.passed moved.end) (going.command_of way) ++ follows (record h { table = table }) (answer_of moved.end))
      (begun (record h { table = table }) (answer_of moved.end)) session new

-- which way a command goes on
abbrev pub way_of : Option Command → Option Direction
way_of (Some DoContinue) = Some direction.Forward
way_of (Some DoReverseContinue) = Some direction.Backward
way_of command = None

-- the same where a condition or a count is there, or something is disabled
abbrev pub way_by : Held → Option Command → Option Direction
way_by h command = if is_nothing h.table then None else way_of command

-- the command of a command line is done
abbrev pub DoesOwn : {M : Type 0} → (M → Setting → Debugger → Type 0) → Setting → Debugger → Held → Option Command → Option Direction → Session M → Held → Type 0
DoesOwn stands s d h command None session new = Does stands s d (own s d h command) (after_own s d h command) session new
DoesOwn stands s d h command (Some way) session new = GoesToStop stands s way d h session new

-- the session has gone on by single steps to a stop that counts, or to what else ended that, and then what follows a move has followed
pub record WalksToStop {M : Type 0} (stands : M → Setting → Debugger → Type 0) (s : Setting) (way : Direction) (d : Debugger) (h : Held) (session : Session M) (new : Held) : Type 0 where
  pub moved : Moved
  pub there : Session M
  pub table : Table
  pub walks : WalksOn stands s way h.frames most d h.table moved there table
  pub does : Does stands s d (replicate (times moved.passed moved.end) (step_of way) ++ follows (record h { table = table }) (answer_of moved.end))
      (begun (record h { table = table }) (answer_of moved.end)) session new

-- which way a command goes on by single steps: where variables of frames are watched
abbrev pub walks_by : Held → Option Command → Option Direction
walks_by h command = if length h.frames == 0 then None else way_of command

-- the command of a command line is done, by single steps or not
abbrev pub DoesTyped : {M : Type 0} → (M → Setting → Debugger → Type 0) → Setting → Debugger → Held → Option Command → Option Direction → Session M → Held → Type 0
DoesTyped stands s d h command None session new = DoesOwn stands s d h command (way_by h command) session new
DoesTyped stands s d h command (Some way) session new = WalksToStop stands s way d h session new

-- the program goes on, by single steps where any are watched
abbrev pub GoesForward : {M : Type 0} → (M → Setting → Debugger → Type 0) → Setting → Debugger → Held → (none_watched : Bool) → Session M → Held → Type 0
GoesForward stands s d h true session new = GoesToStop stands s direction.Forward d h session new
GoesForward stands s d h false session new = WalksToStop stands s direction.Forward d h session new

-- the program begins: a breakpoint that counts stops it at once, else it goes on
abbrev pub BeginsBy : {M : Type 0} → (M → Setting → Debugger → Type 0) → Setting → Debugger → Option CountedStop → Held → Session M → Held → Type 0
BeginsBy stands s d None h session new = GoesForward stands s d h (length h.frames == 0) session new
BeginsBy stands s d (Some counted) h session new = Does stands s d (follows h (answer_at counted.reason)) (begun h (answer_at counted.reason)) session new

-- the breakpoints on the line where it begins are asked first
pub record Begins {M : Type 0} (stands : M → Setting → Debugger → Type 0) (s : Setting) (d : Debugger) (h : Held) (session : Session M) (new : Held) : Type 0 where
  pub first : Option CountedStop
  pub table : Table
  pub asks : Asks s d (breakpoints_here s d d.stops) h.table first table
  pub begins : BeginsBy stands s d first (record h { table = table }) session new

-- a program that has begun begins anew where everything can be taken back: after as many `undo` it is at its first state
abbrev pub RunsBy : {M : Type 0} → (M → Setting → Debugger → Type 0) → Setting → Debugger → (has_begun whole : Bool) → Held → Session M → Held → Type 0
RunsBy stands s d false whole h session new = Begins stands s d h session new
RunsBy stands s d true true h session new = Begins stands s (at_first d) h session new
RunsBy stands s d true false h session new = Does stands s d [] h session new

-- the same, where the watches of frames end first
abbrev pub Runs : {M : Type 0} → (M → Setting → Debugger → Type 0) → Setting → Debugger → (has_begun whole : Bool) → Held → Session M → Held → Type 0
Runs stands s d has_begun whole h session new = RunsBy stands s d has_begun whole (ended 0 h) session new
