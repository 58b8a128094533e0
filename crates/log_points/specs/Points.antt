-- Breakpoints that write a text in place of stopping, and the texts that were written.
use Rattle.std.specs.Prelude.{ℕ, ◌==◌, ◌&&◌, Bool, false, List, [], ◌∷◌, ◌++◌, find, length, map, nat_le, nat_lt, string_bytes, Option, option_map, if◌then◌else◌}
use Rattle.gang_model.specs.Texts.Text.{Bytes}
use Rattle.conditional_stops.specs.Tables.{Table, with_disabled}
use Rattle.log_points.specs.declared.points.LogPoint.{LogPoint}
use Rattle.log_points.specs.declared.points.Logs.{Logs}
use Rattle.log_points.specs.declared.points.Written.{Written as GivenWritten}

-- a breakpoint that writes a text, by its number
pub record Log : Type 0 where
  pub number : ℕ
  pub message : Bytes

abbrev pub log_of : LogPoint → Log
log_of point = record { number = point.number; message = point.message.bytes }

abbrev pub logs_of : Logs → List Log
logs_of logs = map log_of logs.points.items

-- a breakpoint writes a text, behind others that do, where its message is short enough and there is room
abbrev pub with_log : (number : ℕ) → (message : Bytes) → List Log → List Log
with_log number message logs =
    if nat_le (length message) 256 && nat_lt (length logs) 64 then logs ++ record { number = number; message = message } ∷ [] else logs

-- the message of the breakpoint of a number, if it writes one
abbrev pub message_of : (number : ℕ) → List Log → Option Bytes
message_of number logs = option_map (λ log. log.message) (find (λ log. log.number == number) logs)

-- texts that were written, one after another, and whether some are left out
pub record Written : Type 0 where
  pub texts : List Bytes
  pub is_cut : Bool

abbrev pub written_of : GivenWritten → Written
written_of written = record { texts = map string_bytes written.texts.items; is_cut = written.is_cut }

abbrev pub no_text : Written
no_text = record { texts = []; is_cut = false }

-- the breakpoints that write a text are disabled, whatever they were before
abbrev pub silenced : List Log → Table → Table
silenced [] table = table
silenced (log ∷ logs) table = silenced logs (with_disabled log.number table)
