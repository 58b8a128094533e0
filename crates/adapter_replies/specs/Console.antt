-- What is asked for in the console that is no command.
use Rattle.std.specs.Prelude.{ℕ, Bool, ◌||◌, ◌++◌, List, [], ◌∷◌, Option, Some, None, codes, flat_map, nat_eq, if◌then◌else◌}
use Rattle.std.specs.List.{starts_with}
use Rattle.gang_model.specs.Source.Names.{same_text}
use Rattle.gang_model.specs.Debugger.Debugger.{Debugger, Setting, now}
use Rattle.gang_model.specs.Texts.Text.{Bytes, locals_lines, or_none}
use Rattle.debug_traits.specs.Frames.{scope_at, state_at}
use Rattle.adapter_requests.specs.declared.request.Context.{Context}
use Rattle.adapter_requests.specs.declared.request.Context.TheVariants.{Console}
use Rattle.adapter_replies.specs.declared.console.Asked.{Asked}
use Rattle.adapter_replies.specs.declared.console.Asked.TheVariants.{Help, Locals, Parameters, Value, Words}
use Rattle.adapter_replies.specs.declared.hints.Hinted.{Hinted}
use Rattle.adapter_replies.specs.Hints.{hint_in}
use Rattle.adapter_replies.specs.Shown.{shown_text}
use Rattle.adapter_replies.specs.Variables.{ToldVariable}

-- whether a text is `help` alone, or with a word behind it
abbrev pub is_help : (text : Bytes) → Bool
is_help text = same_text text (codes "help") || starts_with nat_eq text (codes "help ")

-- what to do in place of a line, where it has a hint, else the value of an expression
abbrev pub words_or_value : Option Hinted → Asked
words_or_value None = Value
words_or_value (Some hinted) = Words hinted

-- what a text asks for: in the console help, the parameters, the local variables or what to do in place of a line, and else the value of an expression
abbrev pub asked_in : Context → (text : Bytes) → Asked
asked_in Console text =
    if is_help text then Help
    else (if same_text text (codes "info args") then Parameters else (if same_text text (codes "info locals") then Locals else words_or_value (hint_in text)))
asked_in other text = Value

-- the commands, in the debugger's own words
abbrev pub commands_text : Bytes
commands_text =
    codes "step [N], next [N], finish, continue: forwards\n"
    ++ codes "reverse-step [N], reverse-next [N], reverse-finish, reverse-continue, undo: back\n"
    ++ codes "print T, set var T = V, info locals, backtrace: values and frames\n"
    ++ codes "break LINE, watch T, delete [N], info breakpoints: stops\n"
    ++ codes "set record full insn-number-max N: how many steps and changes can be taken back\n"

-- what else can be typed
abbrev pub words_text : Bytes
words_text = codes "fin, where, d 2, i b, set T = V: words of the prompt do the same, unless a variable has this name\n"

abbrev pub others_text : Bytes
others_text = codes "T is a variable, or one lane or element of it, as x[2]; any other line is an expression, as x + 1"

-- what can be typed in the console
abbrev pub help_text : Bytes
help_text = commands_text ++ (words_text ++ others_text)

-- the line of a parameter
abbrev pub parameter_line : ToldVariable → Bytes
parameter_line v = v.name ++ (codes " = " ++ (v.value ++ codes "\n"))

-- a line for each parameter, or that there is none
abbrev pub parameters_text : List ToldVariable → Bytes
parameters_text [] = codes "no parameters"
parameters_text (v ∷ variables) = shown_text (flat_map parameter_line (v ∷ variables))

-- the local variables of the frame at a depth, as the debugger lists those of the top frame
abbrev pub locals_text : Setting → Debugger → (depth : ℕ) → Bytes
locals_text s d deep = shown_text (or_none (locals_lines (state_at deep (now s d)) (scope_at s.program deep (now s d))))
