-- Where a program stands at each moment of a record.
use Rattle.std.specs.Prelude.{◌≡◌, ◌⊎◌, true, false, ℕ, ◌+◌, ◌-◌, ◌%◌, ◌==◌, ◌≤◌, ◌&&◌, ◌||◌, max, nat_le, Bool, All, List, [], ◌∷◌, ◌++◌, codes, decimal, filter, map, Option, Some, None}
use Rattle.std.specs.List.{list_any, range_with_len}
use Rattle.gang_types.specs.Masks.{lanes_of}
use Rattle.gang_model.specs.Types.Tree.{Program}
use Rattle.gang_model.specs.Running.State.{State}
use Rattle.gang_model.specs.Debugger.Debugger.{Debugger, Setting, has_ended, now}
use Rattle.gang_model.specs.Texts.Text.{Bytes, bits, line_and_column, where_text}
use Rattle.debug_session.specs.declared.session.Session.{Session}
use Rattle.lane_picture.specs.declared.columns.StepsEnd.{StepsEnd}
use Rattle.lane_picture.specs.declared.columns.StepsEnd.TheVariants as end
use Rattle.lane_picture.specs.Runs as run
use Rattle.lane_picture.specs.Runs.{RunEnd}
use Rattle.lane_picture.specs.Seen.{state_after}
use Rattle.lane_picture.specs.Tries.{Tries}
use Rattle.run_page.specs.declared.moments.Moment.{Moment}
use Rattle.run_page.specs.declared.moments.Stand.{Stand}
use Rattle.run_page.specs.declared.page.Subject.{Subject}

-- where a moment stands, as the debugger tells it of a function of this name and a gang of so many lanes
abbrev pub stand_text : (name : Bytes) → (width : ℕ) → Option Stand → Bytes
stand_text name width None = codes "ended"
stand_text name width (Some stand) =
    codes "at " ++ line_and_column stand.place ++ codes " " ++ name ++ codes " depth " ++ decimal stand.depth ++ codes " lanes " ++ bits (lanes_of width stand.lanes)

-- this text tells it
abbrev pub Stands : Bytes → Option Stand → Type 0
Stands text stand = (name : Bytes) × (width : ℕ) × (text ≡ stand_text name width stand)

-- each moment stands where the state does after as many steps as were done before it
abbrev pub AreMoments : Program → (first : State) → List Moment → Type 0
AreMoments p first moments = All (λ moment. Stands (where_text p (state_after p moment.taken first)) moment.stand) moments

-- a moment was put behind others: so many steps were done before it, and it stands where a debugger does
abbrev pub NotesMoment : Setting → Debugger → (taken : ℕ) → (old new : List Moment) → Type 0
NotesMoment s d taken old new = (moment : Moment) × (new ≡ old ++ moment ∷ []) × (moment.taken ≡ taken) × Stands (where_text s.program (now s d)) moment.stand

-- ---- a try

-- a session had ended, and nothing was done; or it has tried a step, and it came to this
abbrev pub ComesTo : {M : Type 0} → (M → Setting → Debugger → Type 0) → Setting → Debugger → Option StepsEnd → (old new : Session M) → Type 0
ComesTo stands s d came old new = ((has_ended (now s d) ≡ true) × (came ≡ Some end.Ended) × (new ≡ old)) ⊎ ((has_ended (now s d) ≡ false) × Tries stands s d came new)

-- ---- which moments there are

-- how many steps on each side of a step that was asked for are whole
abbrev pub reach : ℕ
reach = 1000

-- two steps, by their numbers, are no farther from one another
abbrev pub is_near : (number place : ℕ) → Bool
is_near number place = nat_le number (place + reach) && nat_le place (number + reach)

-- whether the moment behind so many steps is told: one of each so many, and those near a step that was asked for
abbrev pub is_told : Subject → (taken : ℕ) → Bool
is_told subject taken = (taken % max subject.each 1 == 0) || list_any (is_near (subject.first_number + taken)) subject.around.now

-- the moments that are told where so many steps were done: these, and the last one
abbrev pub told_moments : Subject → (done : ℕ) → List ℕ
told_moments subject done = filter (is_told subject) (range_with_len 0 done) ++ done ∷ []

-- how many steps were done where so many were tried, and the run ended so: a fault is one that was not done
abbrev pub steps_done : (tried : ℕ) → RunEnd → ℕ
steps_done tried (run.AtFault fault) = tried - 1
steps_done tried end = tried

-- the steps that were done before each moment
abbrev pub steps_of : List Moment → List ℕ
steps_of moments = map (λ moment. moment.taken) moments
