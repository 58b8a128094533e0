-- The conditions and the counts of an editor's breakpoints and watches, the messages of those that write a text in place of stopping, which breakpoints
-- are functions', by the functions' names, and in which function the program began.
use Rattle.std.specs.Prelude.{ℕ, ◌==◌, List, [], ◌∷◌, ◌++◌, drop, find, length, map, nat_le, nat_lt, Option, Some, None, is_none, option_map, if◌then◌else◌}
use Rattle.gang_types.specs.declared.places.Spot.{Spot}
use Rattle.gang_model.specs.Texts.Text.{Bytes}
use Rattle.conditional_stops.specs.Tables.{Table, condition_of, condition_refusal, count_refusal, nothing, passes_of, with_condition, with_passes}
use Rattle.conditional_stops.specs.Views.{table_of}
use Rattle.log_points.specs.Points.{Log, logs_of, message_of, silenced, with_log}
use Rattle.adapter_session.specs.declared.functions.FunctionStop.{FunctionStop as GivenFunctionStop}
use Rattle.adapter_session.specs.declared.terms.Terms.{Terms as GivenTerms}
use Rattle.adapter_session.specs.Changes.{Asked, Change}

-- a breakpoint of a function, by its number, and the name of the function
pub record FunctionStop : Type 0 where
  pub number : ℕ
  pub name : Bytes

abbrev pub function_of : GivenFunctionStop → FunctionStop
function_of f = record { number = f.number; name = f.name.items }

-- conditions and counts as they were asked for, and as the run has left them; the breakpoints that write a text, with what the run
-- has left of theirs; the breakpoints of functions; and the number of the function in which the program began, once it is known
pub record Terms : Type 0 where
  pub asked : Table
  pub left : Table
  pub logs : List Log
  pub log_left : Table
  pub functions : List FunctionStop
  pub entry : Option ℕ

abbrev pub terms_of : GivenTerms → Terms
terms_of t = record { asked = table_of t.asked; left = table_of t.left; logs = logs_of t.logs; log_left = table_of t.logs.terms; functions = map function_of t.functions.items; entry = t.entry }

-- the numbers of the breakpoints of functions
abbrev pub function_numbers : Terms → List ℕ
function_numbers terms = map (λ f. f.number) terms.functions

-- as they are asked for, of which no stop was passed yet: those that write a text stop nowhere
abbrev pub anew : Table → List Log → List FunctionStop → Terms
anew table logs functions = record { asked = table; left = silenced logs table; logs = logs; log_left = table; functions = functions; entry = None }

-- the function in which a program began, by where its outermost frame stands, or else as it was known
abbrev pub begun_in : (outermost : Option Spot) → (known : Option ℕ) → Option ℕ
begun_in None known = known
begun_in (Some spot) known = Some spot.function.0

abbrev pub noted : (outermost : Option Spot) → Terms → Terms
noted outermost terms = record terms { entry = begun_in outermost terms.entry }

-- a breakpoint has this condition, if it is one and there is room
abbrev pub conditioned : ℕ → Option Bytes → Table → Table
conditioned number None table = table
conditioned number (Some text) table = if is_none (condition_refusal number text table) then with_condition number text table else table

-- so many of its stops are to be passed, if there is room
abbrev pub counted : ℕ → (passes : ℕ) → Table → Table
counted number passes table = if is_none (count_refusal number passes table) then with_passes number passes table else table

-- a condition and a count for the first of some numbers, if there is one
abbrev pub first_given : List ℕ → (condition : Option Bytes) → (passes : ℕ) → Table → Table
first_given [] condition passes table = table
first_given (number ∷ numbers) condition passes table = counted number passes (conditioned number condition table)

-- a breakpoint writes a text, if it has a message
abbrev pub messaged : ℕ → Option Bytes → List Log → List Log
messaged number None logs = logs
messaged number (Some message) logs = with_log number message logs

-- a message for the first of some numbers, if there is one
abbrev pub first_logged : List ℕ → (message : Option Bytes) → List Log → List Log
first_logged [] message logs = logs
first_logged (number ∷ numbers) message logs = messaged number message logs

-- the name that is kept of a function: none of more than 256 bytes, and no function has that which stands for it
abbrev pub kept_name : Bytes → Bytes
kept_name name = if nat_le (length name) 256 then name else []

-- a breakpoint is a function's, behind others that are, where there is room: 64 can be there
abbrev pub with_function : ℕ → (name : Bytes) → List FunctionStop → List FunctionStop
with_function number name functions = if nat_lt (length functions) 64 then functions ++ record { number = number; name = kept_name name } ∷ [] else functions

-- the same, if it has a name
abbrev pub named : ℕ → (name : Option Bytes) → List FunctionStop → List FunctionStop
named number None functions = functions
named number (Some name) functions = with_function number name functions

-- and of the first of some numbers, if there is one
abbrev pub first_named : List ℕ → (name : Option Bytes) → List FunctionStop → List FunctionStop
first_named [] name functions = functions
first_named (number ∷ numbers) name functions = named number name functions

-- the name of the function whose breakpoint has a number, if one has it
abbrev pub name_of : ℕ → List FunctionStop → Option Bytes
name_of number functions = option_map (λ f. f.name) (find (λ f. f.number == number) functions)

-- stops that have these numbers, one after another, each with the condition and the count that are asked for it
abbrev pub numbered : List Asked → (numbers : List ℕ) → Table → Table
numbered [] numbers table = table
numbered (asked ∷ others) numbers table = numbered others (drop 1 numbers) (first_given numbers asked.condition asked.passes table)

-- the same, of those that have a message
abbrev pub logged : List Asked → (numbers : List ℕ) → List Log → List Log
logged [] numbers logs = logs
logged (asked ∷ others) numbers logs = logged others (drop 1 numbers) (first_logged numbers asked.log logs)

-- the same, of those of functions
abbrev pub all_named : List Asked → (numbers : List ℕ) → List FunctionStop → List FunctionStop
all_named [] numbers functions = functions
all_named (asked ∷ others) numbers functions = all_named others (drop 1 numbers) (first_named numbers asked.name functions)

-- ---- made anew

-- breakpoints and watches that have these numbers, one after another: each has what was asked for the one that it is in place of
abbrev pub carried : (asked : Table) → (old new : List ℕ) → Table → Table
carried asked [] new table = table
carried asked (number ∷ old) new table = carried asked old (drop 1 new) (first_given new (condition_of number asked) (passes_of number asked) table)

-- the same of those that write a text
abbrev pub carried_logs : (asked : List Log) → (old new : List ℕ) → List Log → List Log
carried_logs asked [] new logs = logs
carried_logs asked (number ∷ old) new logs = carried_logs asked old (drop 1 new) (first_logged new (message_of number asked) logs)

-- a breakpoint that is made in place of a function's is that function's
abbrev pub carried_functions : List FunctionStop → (old new : List ℕ) → List FunctionStop → List FunctionStop
carried_functions functions [] new made = made
carried_functions functions (number ∷ old) new made = carried_functions functions old (drop 1 new) (first_named new (name_of number functions) made)

-- ---- in place of others

-- what there is for those that stand has stayed
abbrev pub kept : (numbers : List ℕ) → Table → Table
kept numbers table = carried table numbers numbers nothing

abbrev pub kept_logs : (numbers : List ℕ) → List Log → List Log
kept_logs numbers logs = carried_logs logs numbers numbers []

-- and those that came have theirs
abbrev pub given : (numbers came : List ℕ) → List Asked → Table → Table
given numbers came asked table = numbered asked came (kept numbers table)

abbrev pub given_logs : (numbers came : List ℕ) → List Asked → List Log → List Log
given_logs numbers came asked logs = logged asked came (kept_logs numbers logs)

abbrev pub given_functions : (numbers came : List ℕ) → List Asked → List FunctionStop → List FunctionStop
given_functions numbers came asked functions = all_named asked came (carried_functions functions numbers numbers [])

-- where stops came in place of others: all have these numbers then
abbrev pub changed : (numbers came : List ℕ) → List Asked → Terms → Terms
changed numbers came asked terms = record {
  asked = given numbers came asked terms.asked;
  left = silenced (given_logs numbers came asked terms.logs) (given numbers came asked terms.left);
  logs = given_logs numbers came asked terms.logs;
  log_left = given numbers came asked terms.log_left;
  functions = given_functions numbers came asked terms.functions;
  entry = terms.entry;
}

-- those that came stand behind those that stayed
abbrev pub changed_by : Option Change → (numbers : List ℕ) → Terms → Terms
changed_by None numbers terms = terms
changed_by (Some change) numbers terms = changed numbers (drop change.staying numbers) change.asked terms
