-- Worked rows of the numbers that a restart keeps.
use Rattle.std.proofs.Common.{◌≡◌, refl, ℕ, Some, List, [], ◌∷◌, codes, map}
use Rattle.gang_types.specs.declared.types.IntType.TheVariants.{Int32}
use Rattle.gang_types.specs.declared.types.Rate.TheVariants.{Uniform}
use Rattle.gang_model.specs.Types.Tree.{Empty, Program, Standing, Variable}
use Rattle.gang_model.specs.Running.State.{State}
use Rattle.gang_model.specs.Debugger.Debugger.{DoBreak, DoDelete, DoWatch, Line, Setting, Stop, Target, Watch, fresh}
use Rattle.adapter_session.specs.Restored.{led, made_anew, numbers, restored, stop_commands, used_up}

-- the watch of a target is made anew by its target, a breakpoint by its line
a_watch : (target : Target) (v : Variable) → made_anew (Watch target v) ≡ DoWatch target
a_watch target v = refl

a_breakpoint : made_anew (Line 5) ≡ DoBreak 5
a_breakpoint = refl

-- the numbers 3 and 4 are used up
two_numbers : used_up 2 3 ≡ DoBreak 1 ∷ DoDelete (Some 3) ∷ DoBreak 1 ∷ DoDelete (Some 4) ∷ []
two_numbers = refl

no_number : used_up 0 3 ≡ []
no_number = refl

-- a program whose steps stand on the lines 5 and 7
abbrev standing : ℕ → Standing
standing line = record { place = record { line = line; col = 5 }; scope = [] }

abbrev program : Program
program = record { functions = record { name = codes "go"; result = Uniform; result_type = Int32; body = Empty; standings = map standing (5 ∷ 7 ∷ []) } ∷ []; globals = [] }

abbrev begun : State → Setting
begun first = record { program = program; first = first; limit = 10 }

-- breakpoints 2, 3 and 5, of which no step stands on the line of 3 or behind it
abbrev old : List (ℕ × Stop)
old = (2, Line 5) ∷ (3, Line 8) ∷ (5, Line 7) ∷ []

the_commands : (first : State) → stop_commands (begun first) [] old (fresh 10)
    ≡ DoBreak 1 ∷ DoDelete (Some 1) ∷ DoBreak 5 ∷ DoBreak 8 ∷ DoBreak 1 ∷ DoDelete (Some 3) ∷ DoBreak 1 ∷ DoDelete (Some 4) ∷ DoBreak 7 ∷ []
the_commands first = refl

those_made : (first : State) → restored (begun first) [] old (fresh 10) [] ≡ 2 ∷ 5 ∷ []
those_made first = refl

their_numbers : (first : State) → numbers (led (begun first) (stop_commands (begun first) [] old (fresh 10)) (fresh 10)).stops ≡ 2 ∷ 5 ∷ []
their_numbers first = refl

-- the next one has a number of its own, also where the last could not be made
the_next : (first : State) → (led (begun first) (stop_commands (begun first) [] ((2, Line 5) ∷ (3, Line 8) ∷ []) (fresh 10)) (fresh 10)).next ≡ 4
the_next first = refl
