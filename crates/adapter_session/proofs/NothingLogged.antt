-- Where no breakpoint has a message, a program goes on as without them, and nothing is written.
use Rattle.std.proofs.Common.{◌≡◌, refl, ap, subst, ◌∙◌, List, []}
use Rattle.gang_model.specs.Debugger.Debugger.{Debugger, Setting}
use Rattle.gang_model.specs.Texts.Text.{Bytes}
use Rattle.debug_session.specs.declared.session.Session.{Session}
use Rattle.conditional_stops.specs.declared.going.Direction.{Direction}
use Rattle.conditional_stops.specs.Going.{GoesOn}
use Rattle.conditional_stops.specs.Tables.{Table}
use Rattle.log_points.specs.Going.{WritesOn}
use Rattle.log_points.specs.Points.{no_text, written_of}
use Rattle.log_points.proofs.Silent.{silent_on}
use Rattle.adapter_requests.specs.declared.request.Request.{Request}
use Rattle.adapter_session.specs.declared.answering.Answered.{Answered}
use Rattle.adapter_session.specs.Done.{GoesToStop, most}
use Rattle.adapter_session.specs.Terms.{FunctionStop, Terms, anew}

-- what was asked for is left as it is where none has a message
pub anew_plainly : (table : Table) (functions : List FunctionStop) → (anew table [] functions).left ≡ table
anew_plainly table functions = refl

pub nothing_logged : {M : Type 0} (stands : M → Setting → Debugger → Type 0) (s : Setting) (program : Bytes) (request : Request) (way : Direction) (d : Debugger) (terms : Terms) (answered : Answered) (session : Session M) (new : Terms)
    → terms.logs ≡ [] → (does : GoesToStop stands s program request way d terms answered session new)
    → GoesOn stands s way most d terms.left does.wrote.moved session new.left × (new.log_left ≡ terms.log_left) × (written_of answered.written ≡ no_text)
nothing_logged stands s program request way d terms answered session new none does =
    let plain = subst (λ logs. WritesOn stands s way most d logs terms.left terms.log_left does.wrote session new.left new.log_left) none does.goes in
    let silent = silent_on stands s way most d terms.left terms.log_left new.left new.log_left does.wrote session plain in
    (silent.0, silent.1, ap written_of does.written ∙ silent.2)
