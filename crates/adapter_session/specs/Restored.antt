-- How a restart makes breakpoints and watches anew, in the program that is there then.
use Rattle.std.specs.Prelude.{◌≡◌, ◌≤◌, ℕ, zero, suc, ◌-◌, Bool, true, false, ◌&&◌, List, [], ◌∷◌, ◌++◌, length, map, nat_lt, Option, Some, None, option_map, if◌then◌else◌}
use Rattle.gang_model.specs.Debugger.Debugger as model
use Rattle.gang_model.specs.Debugger.Debugger.{Command, Debugger, DoBreak, DoDelete, DoWatch, Reply, Setting, Stop, Line, Watch, do_command, reply}
use Rattle.gang_model.specs.Types.Tree.{Program}
use Rattle.gang_model.specs.Texts.Text.{Bytes}
use Rattle.conditional_stops.specs.Tables.{nothing}
use Rattle.debug_answers.specs.declared.answer.Answer.{Answer}
use Rattle.debug_answers.specs.declared.answer.Answer.TheVariants as answer
use Rattle.function_lines.specs.Lines.{function_line}
use Rattle.adapter_session.specs.Changes.{can_stand}
use Rattle.adapter_session.specs.Requested.{command_list}
use Rattle.adapter_session.specs.Terms.{FunctionStop, Terms, anew, carried, carried_functions, carried_logs, name_of}

-- the command that makes a breakpoint or a watch: `break N` or `watch T`
abbrev pub made_anew : Stop → Command
made_anew (Line line) = DoBreak line
made_anew (Watch target v) = DoWatch target

-- the same in a program: the breakpoint of a function stands where the program has a function of this name, if it has one
abbrev pub made_in : Program → (name : Option Bytes) → Stop → Option Command
made_in p None stop = Some (made_anew stop)
made_in p (Some name) stop = option_map DoBreak (function_line p name)

abbrev pub command_in : Program → List FunctionStop → ℕ × Stop → Option Command
command_in p functions entry = made_in p (name_of entry.0 functions) entry.1

-- the reply to a command; where there is none, nothing is done
abbrev pub reply_to : Setting → Option Command → Debugger → Reply
reply_to s None d = reply model.Silent d
reply_to s (Some command) d = do_command s command d

-- whether a breakpoint or a watch was made, by an answer of the definitions and by one that is given
abbrev pub is_made : model.Answer → Bool
is_made (model.BreaksAt number line) = true
is_made (model.Watches number target) = true
is_made other = false

abbrev pub given_made : Answer → Bool
given_made (answer.BreaksAt number line) = true
given_made (answer.Watches number target) = true
given_made other = false

-- a number behind those that were made, if its stop was; 64 can be there
abbrev pub with_made : (is_made : Bool) → (number : ℕ) → List ℕ → List ℕ
with_made is_made number made = if is_made && nat_lt (length made) 64 then made ++ number ∷ [] else made

-- a number is used up: a breakpoint that has it is made on the first line that has a place, and goes
abbrev pub used : (number : ℕ) → List Command
used number = DoBreak 1 ∷ DoDelete (Some number) ∷ []

-- so many numbers are used up, from one on
abbrev pub used_up : (many number : ℕ) → List Command
used_up zero number = []
used_up (suc many) number = used number ++ used_up many (suc number)

-- where commands lead
abbrev pub led : Setting → List Command → Debugger → Debugger
led s [] d = d
led s (command ∷ commands) d = led s commands (do_command s command d).next

-- the reply to the command that makes a breakpoint or a watch anew, once the numbers from the next one up to its own are used up
abbrev pub reply_anew : Setting → List FunctionStop → (next : ℕ) → ℕ × Stop → Debugger → Reply
reply_anew s functions next entry d = reply_to s (command_in s.program functions entry) (led s (used_up (entry.0 - next) next) d)

-- one that cannot be made uses its number up
abbrev pub unless_made : (is_made : Bool) → (number : ℕ) → List Command
unless_made true number = []
unless_made false number = used number

-- the commands that make one anew with its own number
abbrev pub commands_anew : Setting → List FunctionStop → (next : ℕ) → ℕ × Stop → Debugger → List Command
commands_anew s functions next entry d =
    used_up (entry.0 - next) next ++ (command_list (command_in s.program functions entry) ++ unless_made (is_made (reply_anew s functions next entry d).answer) entry.0)

-- those that make breakpoints and watches anew, in their order, where a number is next
abbrev pub commands_from : Setting → List FunctionStop → (next : ℕ) → List (ℕ × Stop) → Debugger → List Command
commands_from s functions next [] d = []
commands_from s functions next (entry ∷ stops) d =
    let commands = commands_anew s functions next entry d in
    commands ++ commands_from s functions (suc entry.0) stops (led s commands d)

-- the same in a program that begins anew: there 1 is the next number
abbrev pub stop_commands : Setting → List FunctionStop → List (ℕ × Stop) → Debugger → List Command
stop_commands s functions stops d = commands_from s functions 1 stops d

-- the numbers of those of these breakpoints and watches that can be made, one after another, behind others
abbrev pub restored_from : Setting → List FunctionStop → (next : ℕ) → List (ℕ × Stop) → Debugger → (made : List ℕ) → List ℕ
restored_from s functions next [] d made = made
restored_from s functions next (entry ∷ stops) d made =
    restored_from s functions (suc entry.0) stops (led s (commands_anew s functions next entry d) d) (with_made (is_made (reply_anew s functions next entry d).answer) entry.0 made)

abbrev pub restored : Setting → List FunctionStop → List (ℕ × Stop) → Debugger → (made : List ℕ) → List ℕ
restored s functions stops d made = restored_from s functions 1 stops d made

-- breakpoints and watches have numbers from one on, each a greater one than that before, as a debugger gives them: 10,000,000 is the last
abbrev pub AreNumbered : (next : ℕ) → List (ℕ × Stop) → Type 0
AreNumbered next [] = Unit {0}
AreNumbered next (entry ∷ stops) = (next ≤ entry.0) × (entry.0 ≤ 10000000) × AreNumbered (suc entry.0) stops

-- the breakpoints and watches of a debugger, of which 64 can be there, can be made anew with their numbers by one that begins anew, of a program with a line
-- on which a breakpoint can stand
pub record CanKeepNumbers (s : Setting) (d : Debugger) (stops : List (ℕ × Stop)) : Type 0 where
  pub has_place : can_stand s 1 ≡ true
  pub begins : (d.next ≡ 1) × (d.stops ≡ [])
  pub few : length stops ≤ 64
  pub numbered : AreNumbered 1 stops

-- the numbers of breakpoints and watches
abbrev pub numbers : List (ℕ × Stop) → List ℕ
numbers stops = map (λ entry. entry.0) stops

-- the conditions, counts and messages that were asked for, of the breakpoints and watches that are made anew, and which of them are functions'
abbrev pub terms_anew : Terms → (old new : List ℕ) → Terms
terms_anew terms old new = anew (carried terms.asked old new nothing) (carried_logs terms.logs old new []) (carried_functions terms.functions old new [])
