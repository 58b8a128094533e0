-- What is done for a line, where conditions or counts are there or something is disabled, and where none is. With none it is a list of
-- commands (`commands_of`), but that there may be no memory to read an expression that is to be watched. With some, `continue`, `reverse-continue` and `run` go on to a breakpoint or watch that counts, and how often a command is done for
-- that depends on what the conditions come to.
use Rattle.std.specs.Prelude.{◌≡◌, ◌==◌, ℕ, ◌||◌, ◌&&◌, Bool, true, false, not, List, min, nat_lt, Option, Some, None, option_map, if◌then◌else◌, length}
use Rattle.gang_model.specs.Debugger.Debugger.{Debugger, Setting, Target, depth, kept_steps, now}
use Rattle.gang_model.specs.Texts.CommandText.{command_of}
use Rattle.debug_session.specs.declared.session.Session.{Session}
use Rattle.debug_session.specs.Sessions.{StandsFor}
use Rattle.conditional_stops.specs.Tables.{is_nothing}
use Rattle.prompt_lines.specs.Conditions.{before_if, condition_in}
use Rattle.prompt_lines.specs.declared.line.Kind.{Kind}
use Rattle.prompt_lines.specs.Sources.{Sheet}
use Rattle.prompt_lines.specs.Words.{Spelled, is_alone}
use Rattle.prompt_lines.specs.declared.line.Kind.TheVariants as kind
use Rattle.prompt_scenes.specs.SelectedFrame.{depth_of}
use Rattle.prompt_scenes.specs.Readings.{watch_of}
use Rattle.prompt_scenes.specs.FrameWatches.{ended, known, local_named}
use Rattle.prompt_scenes.specs.Holding.{Held}
use Rattle.prompt_moves.specs.Moments.{is_whole}
use Rattle.prompt_stops.specs.Breaking.{WatchesBy, write_name, written_in}
use Rattle.prompt_going.specs.GoingOn.{Does, DoesTyped, Runs, walks_by}
use Rattle.debug_prompt.specs.Doing.{changed_by, commands_by, meant}

-- whether `run` is a list of commands: nothing is said of any stop, and none are watched step by step; or more than one word was typed
abbrev pub runs_plainly : Held → (text : List ℕ) → Bool
runs_plainly h text = (is_nothing h.table && (length h.frames == 0)) || not (is_alone text)

-- `run`
abbrev pub DoesRun : {M : Type 0} → (M → Setting → Debugger → Type 0) → Sheet → Setting → Debugger → Held → (text : List ℕ) → (plain : Bool) → Session M → Held → Type 0
DoesRun stands sheet s d h text true session new = Does stands s d (commands_by kind.Run sheet s d h text) (changed_by kind.Run sheet s d h text) session new
DoesRun stands sheet s d h text false session new = Runs stands s d h.has_begun (is_whole d) h session new

-- what is done with a command line of a kind
abbrev pub DoesKind : {M : Type 0} → (M → Setting → Debugger → Type 0) → Kind → Sheet → Setting → Debugger → Held → (text : List ℕ) → Session M → Held → Type 0
DoesKind stands kind.Own sheet s d h text session new = DoesTyped stands s d h (command_of text) (walks_by h (command_of text)) session new
DoesKind stands kind.Run sheet s d h text session new = DoesRun stands sheet s d h text (runs_plainly h text) session new
DoesKind stands kind.Watch sheet s d h text session new =
    WatchesBy stands s d h (write_name text) (watch_of (command_of (before_if text))) (written_in text) (condition_in text) session new
DoesKind stands other sheet s d h text session new = Does stands s d (commands_by other sheet s d h text) (changed_by other sheet s d h text) session new

-- the depth of the frame that is selected, where a target names a variable of it
abbrev pub depth_named : Setting → Debugger → Held → Target → Option ℕ
depth_named s d h target = option_map (λ v. depth_of s d h) (local_named s d (depth_of s d h) target)

-- the depth of the frame within which a line goes back, if it does: `last` of a variable of a frame
abbrev pub depth_within : Setting → Debugger → Held → Kind → (target : Option Target) → Option ℕ
depth_within s d h kind.Last (Some target) = depth_named s d h target
depth_within s d h kind target = None

-- the depth up to which frames are those of before: those up to a frame within which the line went back, else as the line says
abbrev pub known_within : (within : Option ℕ) → Kind → (text : List ℕ) → (depth : ℕ) → ℕ
known_within None kind text deep = known kind text deep
known_within (Some within) kind text deep = min within deep

-- whether a line of a kind leads to another moment, over any number of moves
abbrev pub leads_elsewhere : Kind → Bool
leads_elsewhere kind.Until = true
leads_elsewhere kind.Goto = true
leads_elsewhere kind.Restart = true
leads_elsewhere kind.Last = true
leads_elsewhere other = false

-- whether such a line has led nowhere: as many steps can be taken back as before it, and none was dropped
abbrev pub has_stayed : Kind → (steps : ℕ) → Debugger → Bool
has_stayed kind steps d = leads_elsewhere kind && (kept_steps d == steps) && nat_lt d.kept d.history

-- the depth up to which frames are those of before, after a line before which so many steps could be taken back
abbrev pub known_now : Setting → (within : Option ℕ) → (steps : ℕ) → Kind → (text : List ℕ) → Debugger → ℕ
known_now s within steps kind text d = if has_stayed kind steps d then depth (now s d) else known_within within kind text (depth (now s d))

-- the same after a line that led from one debugger to another
abbrev pub known_by : Setting → (before : Debugger) → Held → Spelled → (after : Debugger) → ℕ
known_by s d h line e = known_now s (depth_within s d h line.kind (watch_of (command_of line.text))) (kept_steps d) line.kind line.text e

-- what is done for a line, where one is kept; then the watches end whose frame is not known to be there
pub record DoesLine {M : Type 0} (stands : M → Setting → Debugger → Type 0) (sheet : Sheet) (kept : Spelled) (h : Held) (s : Setting) (d : Debugger) (line : List ℕ) (session : Session M) (new : Held) : Type 0 where
  pub middle : Held
  pub does : DoesKind stands (meant kept line).kind sheet s d h (meant kept line).text session middle
  pub ends : (e : Debugger) → StandsFor stands session s e → new ≡ ended (known_by s d h (meant kept line) e) middle
