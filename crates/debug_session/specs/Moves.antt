-- What moves come to, where they lead, and what watches show before them.
use Rattle.std.specs.Prelude.{◌≡◌, ℕ, ℤ, false, not, if◌then◌else◌, List, [], ◌∷◌, ◌++◌, map, Option, Some, None, is_none}
use Rattle.arrayvec.specs.ArrayVec.{ArrayVec}
use Rattle.gang_model.specs.Running.State.{State}
use Rattle.gang_model.specs.Debugger.Debugger as model
use Rattle.gang_model.specs.Debugger.Debugger.{Constant, Debugger, OutOfRange, Reply, Setting, bad_part, depth, has_ended, is_value, now, target_words}
use Rattle.gang_model.specs.Debugger.Positions.{line_now}
use Rattle.debug_traits.specs.declared.machine.Shown.{Shown}
use Rattle.debug_answers.specs.declared.answer.Answer.{Answer}
use Rattle.debug_answers.specs.declared.answer.Refusal.{Refusal}
use Rattle.debug_answers.specs.Meanings.{Means, refusal_view}
use Rattle.debug_session.specs.declared.moving.AfterMove.{AfterMove}
use Rattle.debug_session.specs.declared.moving.AfterMove.TheVariants.{Ends, GoesOn}
use Rattle.debug_session.specs.declared.places.Reached.{Reached}
use Rattle.debug_session.specs.Goals.{goal_view}
use Rattle.debug_session.specs.Sessions.{RepliesOn, bare, is_refused}

-- a machine stands for a debugger that has the breakpoints, watches and next number of another one
pub record Follows {M : Type 0} (stands : M → Setting → Debugger → Type 0) (s : Setting) (d : Debugger) (machine : M) (e : Debugger) : Type 0 where
  pub there : stands machine s (bare e)
  pub stops : e.stops ≡ d.stops
  pub next : e.next ≡ d.next

-- a command was replied that keeps the breakpoints and watches
pub record Done {M : Type 0} (stands : M → Setting → Debugger → Type 0) (s : Setting) (d : Debugger) (reply : Reply) (given : Answer) (machine : M) : Type 0 where
  pub follows : Follows stands s d machine reply.next
  pub means : Means s reply.next given reply.answer

-- a command that may want for memory was done, or was refused for memory
abbrev pub MayBeDone : {M : Type 0} → (may_want : Type 0) → (M → Setting → Debugger → Type 0) → Setting → (d : Debugger) → model.Command → Answer → M → Type 0
MayBeDone may_want stands s d command given machine = (reply : Reply) × RepliesOn may_want s command d reply × Done stands s d reply given machine

-- the line and the depth are those where the debugger stands
pub record IsReached (s : Setting) (d : Debugger) (reached : Reached) : Type 0 where
  pub line : line_now s.program (now s d) ≡ reached.line
  pub depth : depth (now s d) ≡ reached.depth
  pub ended : has_ended (now s d) ≡ is_none reached.line

-- what ends a command after a move, or the goal that is left, means that of the definitions
abbrev pub MeansAfter : Setting → Debugger → AfterMove → model.AfterMove → Type 0
MeansAfter s d (Ends given) (model.Ends meant) = Means s d given meant
MeansAfter s d (GoesOn goal) (model.GoesOn meant) = goal_view goal ≡ meant
MeansAfter s d given meant = ⊥

-- a command that ends after a move is not refused
abbrev pub IsPlainEnd : AfterMove → Type 0
IsPlainEnd (Ends given) = is_refused given ≡ false
IsPlainEnd (GoesOn goal) = Unit {0}

-- a fact of a command that goes on after a move
abbrev pub IfGoesOn : AfterMove → Type 0 → Type 0
IfGoesOn (Ends given) P = Unit {0}
IfGoesOn (GoesOn goal) P = P

-- a move ended the command with its reply, or led to a debugger from which what is left goes on
abbrev pub Moved : {M : Type 0} → (M → Setting → Debugger → Type 0) → Setting → (d e : Debugger) → Reply → (model.Goal → Debugger → Reply) → AfterMove → M → Type 0
Moved stands s d e reply next (Ends given) machine = Done stands s d reply given machine
Moved stands s d e reply next (GoesOn goal) machine = Follows stands s d machine e × (reply ≡ next (goal_view goal) e)

-- the words that a stop shows, if it is a watch
abbrev pub stop_words : State → model.Stop → List (List ℕ)
stop_words state (model.Line line) = []
stop_words state (model.Watch target v) = target_words state target v ∷ []

-- the words that the watches show, in their order
abbrev pub watch_words : State → List (ℕ × model.Stop) → List (List ℕ)
watch_words state [] = []
watch_words state (entry ∷ stops) = stop_words state entry.1 ++ watch_words state stops

-- words that were noted
abbrev pub noted : List (ArrayVec ℕ) → List (List ℕ)
noted before = map (λ words. words.items) before

-- the first reason, if there is one, else the second
abbrev pub first_of : (first second : Option model.Refusal) → Option model.Refusal
first_of None second = second
first_of (Some r) second = Some r

-- why a value is not set, if it is not: there is no such part, the type has no such value, or the variable is constant
abbrev pub set_refusal : (at : Option ℕ) → Shown → (number : ℤ) → Option model.Refusal
set_refusal at shown number = first_of (bad_part false at shown.is_array shown.rate shown.count)
    (if not (is_value shown.value_type number) then Some OutOfRange else (if shown.is_constant then Some Constant else None))

-- why a command is refused, if it is
abbrev pub refusal_option : Option Refusal → Option model.Refusal
refusal_option None = None
refusal_option (Some r) = Some (refusal_view r)
