-- Moments of the run: how many steps lead to them, and the commands that go there.
use Rattle.std.specs.Prelude.{ℕ, zero, suc, ◌-◌, ◌==◌, ◌&&◌, Bool, nat_le, nat_lt, List, [], ◌∷◌, ◌++◌, drop, replicate, if◌then◌else◌}
use Rattle.gang_model.specs.Debugger.Debugger.{Answer, Command, Debugger, DoReverseContinue, DoReverseStep, DoStep, DoUndo, Setting, do_command, kept_steps}
use Rattle.prompt_scenes.specs.Readings.{is_here, is_history_end, is_stop}

-- everything is taken back, one event after another: no breakpoint or watch stops that
abbrev pub all_back : Debugger → List Command
all_back d = replicate d.kept DoUndo

-- the debugger before the oldest event that can be taken back: its breakpoints and watches stay
abbrev pub at_first : Debugger → Debugger
at_first d = record d { events = drop d.kept d.events; kept = 0 }

-- whether the run can be taken back to its start: no limit was set, all of which are at most 65,536, and the history is not full
abbrev pub is_whole : Debugger → Bool
is_whole d = nat_lt 65536 d.history && nat_lt d.kept d.history

-- where commands lead that are done one after another
abbrev pub led : Setting → List Command → Debugger → Debugger
led s [] d = d
led s (command ∷ commands) d = led s commands (do_command s command d).next

-- single steps, so many, up to the first that is not made: no breakpoint or watch stops one
abbrev pub steps_on : ℕ → Setting → Debugger → List Command
steps_on zero s d = []
steps_on (suc n) s d = let r = do_command s (DoStep 1) d in DoStep 1 ∷ (if is_here r.answer then steps_on n s r.next else [])

-- to the moment after so many steps of the run: back step by step, or on
abbrev pub to_moment : ℕ → Setting → Debugger → List Command
to_moment n s d = if nat_le n (kept_steps d) then replicate (kept_steps d - n) (DoReverseStep 1) else steps_on (n - kept_steps d) s d

-- whether no value that was set can be taken back
abbrev pub is_unset : Debugger → Bool
is_unset d = d.kept == kept_steps d

-- whether a move back went past all changes, and single steps lead to where it began
abbrev pub is_unchanged : Debugger → Answer → Bool
is_unchanged d answer = is_history_end answer && is_unset d

-- back from stop to stop, so often, up to the first move that nothing stops
abbrev pub stops_back : ℕ → Setting → Debugger → List Command
stops_back zero s d = []
stops_back (suc n) s d = let r = do_command s DoReverseContinue d in DoReverseContinue ∷ (if is_stop r.answer then stops_back n s r.next else [])

-- through the whole run, or so many steps of it: back to its start, on step by step, and to where it stood
abbrev pub walked : ℕ → Setting → Debugger → List Command
walked most s d =
    let back = to_moment 0 s d in
    let start = led s back d in
    let on = steps_on most s start in
    back ++ on ++ to_moment (kept_steps d) s (led s on start)

-- what is done only where the run can be taken back to its start
abbrev pub if_whole : Debugger → List Command → List Command
if_whole d commands = if is_whole d then commands else []
