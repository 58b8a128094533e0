-- From a run to what its page tells.
use Rattle.std.proofs.Common.{ℕ, subst}
use Rattle.gang_model.specs.Debugger.Debugger.{Debugger, Setting}
use Rattle.debug_session.specs.declared.session.Session.{Session}
use Rattle.lane_picture.specs.declared.columns.StepsEnd.{StepsEnd}
use Rattle.lane_picture.specs.Tries.{HasRun, end_view}
use Rattle.run_page.specs.declared.page.PageEnd.{PageEnd}
use Rattle.run_page.specs.Pages.{HasWritten, TellsEnd}

-- a page tells of a run what its end says
pub written : {M : Type 0} (stands : M → Setting → Debugger → Type 0) (s : Setting) (most : ℕ) (d : Debugger) (how : StepsEnd) (told : PageEnd) (session : Session M)
    → TellsEnd told (end_view how) → HasRun stands s most d how session → HasWritten stands s most d told session
written stands s most d how told session tells run =
    record { begun = run.begun; whole = run.whole; ends = λ limit. subst (TellsEnd told) (run.ends limit) tells }
