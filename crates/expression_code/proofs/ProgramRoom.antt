-- Each expression in the program of a source finds room.
use Rattle.std.proofs.Common.{ℕ, zero, suc, List, [], ◌∷◌, ◌≡◌, subst, length}
use Rattle.std.proofs.lemmas.Option.{same_Some, none-some}
use Rattle.std.specs.Prelude.{Some, slice_get}
use Rattle.gang_model.specs.Source.Tokens.{Lexeme}
use Rattle.gang_model.specs.Source.Parsed.{ParsedFunction, ParsedSource, functions_in, globals_in}
use Rattle.gang_model.specs.Source.SpellsSource.{IsTree}
use Rattle.gang_model.specs.Source.Judged.{unless}
use Rattle.gang_model.specs.Types.Tree.{Function, Program}
use Rattle.gang_model.specs.Types.Signatures.{result_of}
use Rattle.gang_model.specs.Types.Calls.{Context}
use Rattle.gang_model.specs.Types.TypeFaults.{signature_faults}
use Rattle.gang_model.specs.Types.Statements.{statements}
use Rattle.gang_model.specs.Types.Resolved.{param_entries, global_entries, judged_globals, judged_function, judged_functions, judged_program, program_of}
use Rattle.gang_model.proofs.JudgedLaws.{OnSound, on_any, on_pair}
use Rattle.gang_model.proofs.StandingLaws.{Each}
use Rattle.gang_model.proofs.VariableLaws.{on_some}
use Rattle.expression_code.specs.ProgramRoom.{HaveRoom}
use Rattle.expression_code.proofs.LightStatements.{IsLightFunction, light_functions}
use Rattle.expression_code.proofs.RoomOfStatements.{MadeHasRoom, statements-room}

abbrev FunctionHasRoom : Function → Type 0
FunctionHasRoom f = HaveRoom f.body

function-room : (source : ParsedSource) (f : ParsedFunction) → IsLightFunction f → OnSound (judged_function source f) FunctionHasRoom
function-room source f light =
    let context : Context = record { functions = functions_in source; result = result_of f.spec } in
    let scope = param_entries 0 f.params (global_entries 0 (globals_in source)) in
    on_pair (unless (signature_faults f) f) (statements f.body context scope (length f.params) 0) _ (λ g. Unit {0}) MadeHasRoom FunctionHasRoom
    (on_any (unless (signature_faults f) f)) (statements-room f.body context scope (length f.params) 0 light) (λ g m _ room. room)

functions-room : (source : ParsedSource) (functions : List ParsedFunction) → Each IsLightFunction functions
    → OnSound (judged_functions source functions) (Each FunctionHasRoom)
functions-room source [] light = tt
functions-room source (f ∷ functions) light =
    on_pair (judged_function source f) (judged_functions source functions) _ FunctionHasRoom (Each FunctionHasRoom) (Each FunctionHasRoom)
    (function-room source f light.0) (functions-room source functions light.1) (λ g typed room rest. (room, rest))

room_at : (functions : List Function) → Each FunctionHasRoom functions → (n : ℕ) (f : Function) → slice_get functions n ≡ Some f → HaveRoom f.body
room_at [] room n f e = absurd (none-some f e)
room_at (g ∷ functions) room zero f e = subst FunctionHasRoom (same_Some g f e) room.0
room_at (g ∷ functions) room (suc n) f e = room_at functions room.1 n f e

-- each expression in the program that a spelled source stands for finds room
pub program_of-have_room : (source : ParsedSource) (tokens : List Lexeme) (p : Program) → IsTree source tokens → program_of source ≡ Some p
    → (n : ℕ) (f : Function) → slice_get p.functions n ≡ Some f → HaveRoom f.body
program_of-have_room source tokens p tree made =
    room_at p.functions
    (on_some (judged_program source) (λ q. Each FunctionHasRoom q.functions) p
    (on_pair (judged_globals 0 (globals_in source)) (judged_functions source (functions_in source)) _ (λ g. Unit {0}) (Each FunctionHasRoom) (λ q. Each FunctionHasRoom q.functions)
    (on_any (judged_globals 0 (globals_in source))) (functions-room source (functions_in source) (light_functions source tokens tree)) (λ g typed _ room. room)) made)
