-- Where no breakpoint writes a text, nothing is written, and a program goes on as without them.
use Rattle.std.proofs.Common.{◌≡◌, ℕ, ◌∙◌, List, [], ◌∷◌}
use Rattle.gang_model.specs.Debugger.Debugger.{Debugger, Setting}
use Rattle.debug_session.specs.declared.session.Session.{Session}
use Rattle.conditional_stops.specs.declared.going.Direction.{Direction}
use Rattle.conditional_stops.specs.Going.{GoesOn, command_of}
use Rattle.conditional_stops.specs.Tables.{Table}
use Rattle.log_points.specs.declared.going.WroteOn.{WroteOn}
use Rattle.log_points.specs.Going.{WritesOn, places, stops_of}
use Rattle.log_points.specs.Points.{Written, no_text, written_of}
use Rattle.log_points.specs.Writing.{WritesAlong, WritesHere}

pub silent_here : (s : Setting) (d : Debugger) (table new_table : Table) (old new : Written) → WritesHere s d [] table old new_table new → (new_table ≡ table) × (new ≡ old)
silent_here s d table new_table old new nothing = nothing

pub silent_along : (s : Setting) (places : List Debugger) (table new_table : Table) (old new : Written) → WritesAlong s places [] table old new_table new → (new_table ≡ table) × (new ≡ old)
silent_along s [] table new_table old new nothing = nothing
silent_along s (d ∷ places) table new_table old new (middle_table, middle, here, rest) =
    let later = silent_along s places middle_table new_table middle new rest in
    (later.0 ∙ here.0, later.1 ∙ here.1)

pub silent_on : {M : Type 0} (stands : M → Setting → Debugger → Type 0) (s : Setting) (way : Direction) (most : ℕ) (d : Debugger) (table log_table new log_new : Table) (wrote : WroteOn) (session : Session M)
    → WritesOn stands s way most d [] table log_table wrote session new log_new → GoesOn stands s way most d table wrote.moved session new × (log_new ≡ log_table) × (written_of wrote.written ≡ no_text)
silent_on stands s way most d table log_table new log_new wrote session on =
    let silent = silent_along s (places (stops_of wrote.moved.passed wrote.moved.end) s (command_of way) d) log_table log_new no_text (written_of wrote.written) on.writes in
    (on.goes, silent.0, silent.1)
