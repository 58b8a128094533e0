-- What holds of the file-scope variables and of the functions of a source's program.
use Rattle.std.proofs.Common.{◌≡◌, List}
use Rattle.std.specs.Prelude.{Some}
use Rattle.gang_model.specs.Types.Tree.{Function, Global, Program}
use Rattle.gang_model.specs.Source.Parsed.{ParsedSource, functions_in, globals_in}
use Rattle.gang_model.specs.Types.Resolved.{judged_globals, judged_functions, judged_program, program_of}
use Rattle.gang_model.proofs.JudgedLaws.{OnSound, on_any, on_pair}
use Rattle.gang_model.proofs.VariableLaws.{on_some}

pub program_parts : (source : ParsedSource) (P : List Global → Type 0) (Q : List Function → Type 0) (p : Program)
    → OnSound (judged_globals 0 (globals_in source)) P → OnSound (judged_functions source (functions_in source)) Q → program_of source ≡ Some p → P p.globals × Q p.functions
program_parts source P Q p globals functions e =
    on_some (judged_program source) (λ made. P made.globals × Q made.functions) p
    (on_pair (judged_globals 0 (globals_in source)) (judged_functions source (functions_in source)) _ P Q (λ made. P made.globals × Q made.functions) globals functions (λ x y h l. (h, l))) e

pub program_globals : (source : ParsedSource) (P : List Global → Type 0) (p : Program) → OnSound (judged_globals 0 (globals_in source)) P → program_of source ≡ Some p → P p.globals
program_globals source P p globals e = (program_parts source P (λ functions. Unit {0}) p globals (on_any (judged_functions source (functions_in source))) e).0

pub program_functions : (source : ParsedSource) (Q : List Function → Type 0) (p : Program) → OnSound (judged_functions source (functions_in source)) Q → program_of source ≡ Some p
    → Q p.functions
program_functions source Q p functions e = (program_parts source (λ globals. Unit {0}) Q p (on_any (judged_globals 0 (globals_in source))) functions e).1
