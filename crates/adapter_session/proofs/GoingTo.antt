-- Replies to a breakpoint that is made, to a move and to a breakpoint that goes.
use Rattle.std.proofs.Common.{◌≡◌, Bool, true, false, inl, inr, refl, sym, ap}
use Rattle.gang_model.specs.Debugger.Debugger as model
use Rattle.gang_model.specs.Debugger.Debugger.{Command, Debugger, MayRunOut, Reply, Setting, do_command}
use Rattle.debug_answers.specs.declared.answer.Answer.{Answer}
use Rattle.debug_answers.specs.declared.answer.Answer.TheVariants as answer
use Rattle.debug_answers.specs.Meanings.{Means}
use Rattle.debug_session.specs.Sessions.{RepliesOn, Sets}
use Rattle.adapter_requests.specs.declared.request.Way.{Way}
use Rattle.adapter_requests.specs.declared.request.Way.TheVariants.{Backwards, Forwards}
use Rattle.adapter_session.specs.Going.{given_number, made_number, move_of, reached}

-- a command that wants for no memory has one reply
pub one_reply : (may_want : Type 0) (s : Setting) (command : Command) (d : Debugger) (r : Reply) → (MayRunOut command d → ⊥) → (Sets command → ⊥) → RepliesOn may_want s command d r → r ≡ do_command s command d
one_reply may_want s command d r sure none is = elim is [
  | inl done ↦ elim done [ inl e ↦ e | inr out ↦ absurd (sure out.0) ]
  | inr out ↦ absurd (none out.1.0)
]

-- a move to a time of a line does
pub move_reply : (may_want : Type 0) (s : Setting) (way : Way) (d : Debugger) (r : Reply) → RepliesOn may_want s (move_of way) d r → r ≡ do_command s (move_of way) d
move_reply may_want s Forwards d r is = one_reply may_want s (move_of Forwards) d r (λ may. may) (λ sets. sets) is
move_reply may_want s Backwards d r is = one_reply may_want s (move_of Backwards) d r (λ may. may) (λ sets. sets) is

-- the answer that a move is told by means one
pub reached_means : (s : Setting) (d : Debugger) (b : Bool) (given : Answer) (meant : model.Answer) → Means s d given meant → (m : model.Answer) × Means s d (reached b given) m
reached_means s d true given meant is = (model.Here, refl)
reached_means s d false given meant is = (meant, is)

-- the breakpoint that was made, by what an answer means
pub number_means : (s : Setting) (d : Debugger) (given : Answer) (meant : model.Answer) → Means s d given meant → given_number given ≡ made_number meant
number_means s d answer.Here meant is = sym (ap made_number is)
number_means s d (answer.AtBreakpoint n) meant is = sym (ap made_number is)
number_means s d (answer.AtWatch n) meant is = sym (ap made_number is)
number_means s d (answer.AtFault fault) meant is = sym (ap made_number is)
number_means s d answer.HistoryEnd meant is = sym (ap made_number is)
number_means s d answer.StepLimit meant is = sym (ap made_number is)
number_means s d answer.UndoneStep meant is = sym (ap made_number is)
number_means s d answer.UndonePoke meant is = sym (ap made_number is)
number_means s d (answer.Shows target shown) meant (v, is, inside, found) = sym (ap made_number is)
number_means s d (answer.BreaksAt n line) meant is = sym (ap made_number is)
number_means s d (answer.Watches n target) meant is = sym (ap made_number is)
number_means s d (answer.Deleted n) meant is = sym (ap made_number is)
number_means s d answer.ListsStops meant is = sym (ap made_number is)
number_means s d answer.ListsLocals meant is = sym (ap made_number is)
number_means s d answer.ListsFrames meant is = sym (ap made_number is)
number_means s d (answer.KeepsHistory n) meant is = sym (ap made_number is)
number_means s d answer.Silent meant is = sym (ap made_number is)
number_means s d (answer.Refused r) meant is = sym (ap made_number is)
