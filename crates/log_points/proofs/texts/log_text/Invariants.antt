-- the text of what is left stands behind that of what was read
use Rattle.std.proofs.Common.{◌++◌, length, string_bytes}
use denote.Text.{Utf8}
use denote.Shadow.{shadow}
use Rattle.gang_model.specs.Debugger.Debugger.{Debugger, Setting}
use Rattle.gang_model.specs.Texts.Text.{Bytes}
use Rattle.debug_session.specs.Sessions.{bare}
use Rattle.log_points.specs.Texts.{IsLogText}
use Rattle.log_points.proofs.texts.log_text.Given as goal

abbrev pub invariant-loop-part : goal.invariant-loop-part
invariant-loop-part g l =
    shadow (Utf8 l.rest)
    × ((s : Setting) (d : Debugger) → g.M.RecordedMachine.stands l.machine s (bare d) → (later : Bytes) → IsLogText s d l.rest later → IsLogText s d l.message (string_bytes l.text ++ later))

abbrev pub decreases-loop-part : goal.decreases-loop-part
decreases-loop-part g l = length l.rest
