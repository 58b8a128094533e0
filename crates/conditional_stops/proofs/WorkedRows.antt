-- Rows that the check computes from the definitions: breakpoint 7 has a condition and two stops to be passed, watch 3 a condition alone,
-- and breakpoint 9 is disabled.
use Rattle.std.proofs.Common.{◌≡◌, refl, true, false, [], ◌∷◌, Some, None}
use Rattle.std.specs.Prelude.{codes, replicate}
use Rattle.gang_types.specs.Lanes.{lanes_where, no_lane}
use Rattle.gang_model.specs.Running.Lanes.{holds}
use Rattle.gang_model.specs.Debugger.Debugger.{AtBreakpoint, AtWatch, Here, Line, on_line}
use Rattle.frame_values.specs.declared.values.NoValue.TheVariants.{NoFrame}
use Rattle.conditional_stops.specs.declared.asking.Taking.TheVariants as taking
use Rattle.conditional_stops.specs.declared.judging.Verdict.TheVariants as verdict
use Rattle.conditional_stops.specs.declared.going.MoveEnd.TheVariants as end
use Rattle.conditional_stops.specs.declared.reasons.Reason.TheVariants as reason
use Rattle.conditional_stops.specs.declared.table.ConditionRefusal.TheVariants.{TableFull, TooLong}
use Rattle.conditional_stops.specs.Going.{is_stop, times}
use Rattle.conditional_stops.specs.Reasons.{table_after, taken, taking_of}
use Rattle.conditional_stops.specs.Tables.{Table, asked_condition, condition_of, condition_refusal, count_refusal, is_disabled, nothing, passes_of, with_condition, with_disabled, with_passes, without, without_condition, without_disabled}
use Rattle.conditional_stops.proofs.Asked.{chosen}

abbrev some : Table
some = record { conditions = (7, codes "a") ∷ (3, codes "b") ∷ []; counts = (7, 2) ∷ []; disabled = 9 ∷ [] }

-- ---- the table

its_condition : condition_of 3 some ≡ Some (codes "b")
its_condition = refl

no_condition : condition_of 4 some ≡ None
no_condition = refl

its_count : passes_of 7 some ≡ 2
its_count = refl

no_count : passes_of 3 some ≡ 0
no_count = refl

another_condition : condition_of 7 (with_condition 7 (codes "c") some) ≡ Some (codes "c")
another_condition = refl

the_other_stays : condition_of 3 (with_condition 7 (codes "c") some) ≡ Some (codes "b")
the_other_stays = refl

none_then : condition_of 7 (without_condition 7 some) ≡ None
none_then = refl

another_count : passes_of 7 (with_passes 7 9 some) ≡ 9
another_count = refl

no_count_is_kept : with_passes 7 0 some ≡ record some { counts = [] }
no_count_is_kept = refl

forgotten : without 7 some ≡ record { conditions = (3, codes "b") ∷ []; counts = []; disabled = 9 ∷ [] }
forgotten = refl

-- ---- 64 are there

abbrev full : Table
full = record { conditions = replicate 64 (1, codes "a"); counts = replicate 64 (1, 5); disabled = replicate 80 9 }

too_long : condition_refusal 2 (replicate 257 65) nothing ≡ Some TooLong
too_long = refl

long_enough : condition_refusal 2 (replicate 256 65) nothing ≡ None
long_enough = refl

one_too_many : condition_refusal 2 (codes "a") full ≡ Some TableFull
one_too_many = refl

its_own_place : condition_refusal 1 (codes "a") full ≡ None
its_own_place = refl

a_count_too_many : count_refusal 2 1 full ≡ Some TableFull
a_count_too_many = refl

no_count_fits : count_refusal 2 0 full ≡ None
no_count_fits = refl

-- ---- what is disabled

is_off : is_disabled 9 some ≡ true
is_off = refl

is_on : is_disabled 7 some ≡ false
is_on = refl

off_with_its_count : with_disabled 7 some ≡ record some { disabled = 9 ∷ 7 ∷ [] }
off_with_its_count = refl

off_once : with_disabled 9 some ≡ some
off_once = refl

on_with_its_condition : without_disabled 7 (with_disabled 7 some) ≡ some
on_with_its_condition = refl

deleted_while_off : without 9 some ≡ record some { disabled = [] }
deleted_while_off = refl

no_room : with_disabled 7 full ≡ full
no_room = refl

not_asked : asked_condition 7 (with_disabled 7 some) ≡ None
not_asked = refl

the_other_is_asked : asked_condition 3 (with_disabled 7 some) ≡ Some (codes "b")
the_other_is_asked = refl

-- ---- what a stop is taken for

disabled_fails : taken (with_disabled 3 some) (reason.Watch 3) None ≡ taking.Fails
disabled_fails = refl

disabled_passes_none : taken (with_disabled 7 some) (reason.Breakpoint 7) None ≡ taking.Fails
disabled_passes_none = refl

enabled_passes : taken some (reason.Breakpoint 7) None ≡ taking.Passes
enabled_passes = refl

counts_at_once : taking_of 0 None ≡ taking.Counts
counts_at_once = refl

is_passed : taking_of 2 None ≡ taking.Passes
is_passed = refl

fails : taking_of 2 (Some verdict.Fails) ≡ taking.Fails
fails = refl

has_no_value : taking_of 2 (Some (verdict.NoValue NoFrame)) ≡ taking.Counts
has_no_value = refl

goes_down : passes_of 7 (table_after taking.Passes 7 some) ≡ 1
goes_down = refl

stays : table_after taking.Fails 7 some ≡ some
stays = refl

-- ---- lanes, and breakpoints on a line

lanes_found : lanes_where (true ∷ true ∷ false ∷ true ∷ []) (holds (5 ∷ 0 ∷ 9 ∷ 1 ∷ [])) ≡ true ∷ false ∷ false ∷ true ∷ []
lanes_found = refl

no_lane_found : no_lane (lanes_where (true ∷ true ∷ false ∷ true ∷ []) (holds (0 ∷ 0 ∷ 9 ∷ 0 ∷ []))) ≡ true
no_lane_found = refl

on_line_5 : chosen reason.Breakpoint (on_line (Some 5)) ((1, Line 5) ∷ (2, Line 6) ∷ (4, Line 5) ∷ []) ≡ reason.Breakpoint 1 ∷ reason.Breakpoint 4 ∷ []
on_line_5 = refl

-- ---- how a move ends

at_breakpoint : is_stop (AtBreakpoint 1) ≡ true
at_breakpoint = refl

at_watch : is_stop (AtWatch 1) ≡ true
at_watch = refl

at_end : is_stop Here ≡ false
at_end = refl

once_more : times 3 (end.Stopped (record { reason = reason.Watch 1; verdict = None })) ≡ 4
once_more = refl

no_more : times 3 end.MostPassed ≡ 3
no_more = refl
