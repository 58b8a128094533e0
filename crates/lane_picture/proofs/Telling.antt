-- From a run to what its picture tells.
use Rattle.std.proofs.Common.{ℕ, subst}
use Rattle.gang_model.specs.Debugger.Debugger.{Debugger, Setting}
use Rattle.debug_session.specs.declared.session.Session.{Session}
use Rattle.lane_picture.specs.declared.columns.StepsEnd.{StepsEnd}
use Rattle.lane_picture.specs.declared.picture.PictureEnd.{PictureEnd}
use Rattle.lane_picture.specs.Pictures.{HasDrawn, TellsEnd}
use Rattle.lane_picture.specs.Tries.{HasRun, end_view}

-- a picture tells of a run what its end says
pub drawn : {M : Type 0} (stands : M → Setting → Debugger → Type 0) (s : Setting) (most : ℕ) (d : Debugger) (how : StepsEnd) (told : PictureEnd) (session : Session M)
    → TellsEnd told (end_view how) → HasRun stands s most d how session → HasDrawn stands s most d told session
drawn stands s most d how told session tells run =
    record { begun = run.begun; whole = run.whole; ends = λ limit. subst (TellsEnd told) (run.ends limit) tells }
