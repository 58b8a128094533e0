-- The conditions and the counts of breakpoints and watches, by their numbers, and which of them are disabled.
use Rattle.std.specs.List.{list_any}
use Rattle.std.specs.Prelude.{ℕ, ◌==◌, ◌&&◌, ◌||◌, not, nat_le, nat_lt, Bool, List, [], ◌∷◌, ◌++◌, filter, find, length, Option, Some, None, option_map, if◌then◌else◌}
use Rattle.conditional_stops.specs.declared.table.ConditionRefusal.{ConditionRefusal}
use Rattle.conditional_stops.specs.declared.table.ConditionRefusal.TheVariants.{TooLong, TableFull}

-- the texts of conditions, and how many stops are still to be passed, each by the number of its breakpoint or watch; and the numbers of
-- those that are disabled
pub record Table : Type 0 where
  pub conditions : List (ℕ × List ℕ)
  pub counts : List (ℕ × ℕ)
  pub disabled : List ℕ

-- no condition and no count, and nothing is disabled
abbrev pub nothing : Table
nothing = record { conditions = []; counts = []; disabled = [] }

-- whether nothing is there
abbrev pub is_nothing : Table → Bool
is_nothing table = (length table.conditions == 0) && (length table.counts == 0) && (length table.disabled == 0)

-- what stands by a number, if anything does
abbrev pub entry_at : {A : Type 0} → ℕ → List (ℕ × A) → Option A
entry_at number entries = option_map (λ entry. entry.1) (find (λ entry. entry.0 == number) entries)

-- all that does not stand by a number
abbrev pub beside : {A : Type 0} → ℕ → List (ℕ × A) → List (ℕ × A)
beside number entries = filter (λ entry. not (entry.0 == number)) entries

-- whether 64 others are there, as many as can be
abbrev pub is_full_beside : {A : Type 0} → ℕ → List (ℕ × A) → Bool
is_full_beside number entries = nat_le 64 (length (beside number entries))

-- the condition of a breakpoint or watch, if it has one
abbrev pub condition_of : ℕ → Table → Option (List ℕ)
condition_of number table = entry_at number table.conditions

-- the number, or 0 where there is none
abbrev pub or_zero : Option ℕ → ℕ
or_zero None = 0
or_zero (Some n) = n

-- how many stops of a breakpoint or watch are still to be passed
abbrev pub passes_of : ℕ → Table → ℕ
passes_of number table = or_zero (entry_at number table.counts)

-- whether a breakpoint or watch is disabled
abbrev pub is_disabled : ℕ → Table → Bool
is_disabled number table = list_any (λ n. n == number) table.disabled

-- the condition that is asked: none of what is disabled
abbrev pub asked_condition : ℕ → Table → Option (List ℕ)
asked_condition number table = if is_disabled number table then None else condition_of number table

-- a breakpoint or watch has this condition
abbrev pub with_condition : ℕ → (text : List ℕ) → Table → Table
with_condition number text table = record table { conditions = beside number table.conditions ++ (number, text) ∷ [] }

-- it has none
abbrev pub without_condition : ℕ → Table → Table
without_condition number table = record table { conditions = beside number table.conditions }

-- so many of its stops are to be passed; a count of 0 takes no room
abbrev pub with_passes : ℕ → (count : ℕ) → Table → Table
with_passes number count table =
    record table { counts = if (count == 0) || is_full_beside number table.counts then beside number table.counts else beside number table.counts ++ (number, count) ∷ [] }

-- none of its stops is
abbrev pub without_passes : ℕ → Table → Table
without_passes number table = record table { counts = beside number table.counts }

-- a breakpoint or watch is disabled; 80 may be, as many as breakpoints and watches can be there
abbrev pub with_disabled : ℕ → Table → Table
with_disabled number table =
    if is_disabled number table || nat_le 80 (length table.disabled) then table else record table { disabled = table.disabled ++ number ∷ [] }

-- it is not
abbrev pub without_disabled : ℕ → Table → Table
without_disabled number table = record table { disabled = filter (λ n. not (n == number)) table.disabled }

-- nothing is said of it: no condition and no count is there, and it is not disabled
abbrev pub without : ℕ → Table → Table
without number table = record {
  conditions = beside number table.conditions;
  counts = beside number table.counts;
  disabled = filter (λ n. not (n == number)) table.disabled;
}

-- why a condition is not taken, if it is not
abbrev pub condition_refusal : ℕ → (text : List ℕ) → Table → Option ConditionRefusal
condition_refusal number text table =
    if nat_lt 256 (length text) then Some TooLong else (if is_full_beside number table.conditions then Some TableFull else None)

-- why a count is not taken, if it is not
abbrev pub count_refusal : ℕ → (count : ℕ) → Table → Option ConditionRefusal
count_refusal number count table =
    if count == 0 then None else (if is_full_beside number table.counts then Some TableFull else None)
