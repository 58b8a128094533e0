-- The program that a tree stands for, if it has no faults of types
-- (a choice of this project: names are resolved and every conversion is written out). `check` decides `judged_program`;
-- its typed tree is the program.
use Rattle.std.specs.Prelude.{ℕ, suc, Bool, true, false, List, [], ◌∷◌, ◌++◌, length, map, Option, Some, None, slice_index_or}
use Rattle.gang_types.specs.declared.types.IntType.{IntType}
use Rattle.gang_types.specs.declared.types.IntType.TheVariants as t
use Rattle.gang_types.specs.declared.types.Rate.{Rate}
use Rattle.gang_types.specs.declared.types.Rate.TheVariants.{Uniform}
use Rattle.gang_types.specs.declared.operators.UnaryOp.TheVariants.{Negate}
use Rattle.gang_types.specs.declared.places.VarId.{VarId}
use Rattle.gang_types.specs.declared.places.VarId.TheVariants.{File, Local}
use Rattle.gang_types.specs.Values.{converted, unary_of}
use Rattle.gang_model.specs.declared.forms.GlobalForm.{GlobalForm}
use Rattle.gang_model.specs.declared.forms.GlobalForm.TheVariants.{Array, Initial}
use Rattle.gang_model.specs.declared.forms.Literal.TheVariants.{Number, Truth}
use Rattle.gang_model.specs.declared.refusals.SourceRefusal.{SourceRefusal}
use Rattle.gang_model.specs.Types.Tree.{Variable, Standing, Function, Global, Program}
use Rattle.gang_model.specs.Source.Parsed.{ParsedParam, ParsedFunction, ParsedGlobal, ParsedSource, functions_in, globals_in}
use Rattle.gang_model.specs.Names.Scope.{Environment, NameStanding, standings_of, file_scope}
use Rattle.gang_model.specs.Source.Judged.{Judged, Sound, faults_of, sound_part, unless, both, ◌>>=◌}
use Rattle.gang_model.specs.Types.Conversions.{literal_type}
use Rattle.gang_model.specs.Types.Typing.{Entry, Scope, declared, truth_value}
use Rattle.gang_model.specs.Types.Signatures.{declared_type, ResultType, result_of}
use Rattle.gang_model.specs.Types.Statements.{Made, statements}
use Rattle.gang_model.specs.Types.TypeFaults.{is_array_form, signature_faults, global_faults}

-- ---- file scope

-- a literal's word, in the type that it has by itself
abbrev pub literal_word : (is_negative : Bool) → IntType → ℕ → ℕ
literal_word true type n = unary_of Negate type n
literal_word false type n = n

-- the first word of a file-scope variable: its literal's value, converted from the literal's own type
abbrev pub first_word : IntType → GlobalForm → ℕ
first_word type (Initial (Number is_negative n is_unsigned is_long)) =
    let own = literal_type n is_unsigned is_long in converted own type (literal_word is_negative own n)
first_word type (Initial (Truth b)) = converted t.Bool type (truth_value b)
first_word type form = 0

-- how many elements a file-scope variable has, none unless it is an array
abbrev pub length_of : GlobalForm → ℕ
length_of (Array n) = n
length_of form = 0

-- the k-th file-scope variable, as its declaration says
abbrev pub global_entry : ℕ → ParsedGlobal → Entry
global_entry k g = declared g.name (File k) g.spec (is_array_form g.form) false

-- the file-scope variables, in the order of the source from number k on
abbrev pub global_entries : ℕ → List ParsedGlobal → Scope
global_entries k [] = []
global_entries k (g ∷ globals) = global_entry k g ∷ global_entries (suc k) globals

-- the k-th file-scope variable in the typed tree
abbrev pub global_of : ℕ → ParsedGlobal → Global
global_of k g = record { variable = (global_entry k g).variable; word = first_word (declared_type g.spec.value_type) g.form; len = length_of g.form }

-- the file-scope variables in the typed tree, by their numbers from k on
abbrev pub file_variables : ℕ → List ParsedGlobal → List Variable
file_variables k [] = []
file_variables k (g ∷ globals) = (global_of k g).variable ∷ file_variables (suc k) globals

-- the file-scope variables, each judged by itself
abbrev pub judged_globals : ℕ → List ParsedGlobal → Judged (List Global)
judged_globals k [] = Sound []
judged_globals k (g ∷ globals) = do
  parts ← both (unless (global_faults g) (global_of k g)) (judged_globals (suc k) globals)
  Sound (parts.0 ∷ parts.1)

-- ---- functions

-- the parameters in scope, the last one first, from the k-th variable on
abbrev pub param_entries : ℕ → List ParsedParam → Scope → Scope
param_entries k [] scope = scope
param_entries k (p ∷ params) scope = param_entries (suc k) params (declared p.name (Local k) p.spec p.is_array true ∷ scope)

-- the parameters, by their numbers
abbrev pub param_variables : ℕ → List ParsedParam → List Variable
param_variables k [] = []
param_variables k (p ∷ params) = (declared p.name (Local k) p.spec p.is_array true).variable ∷ param_variables (suc k) params

-- a variable of no function
abbrev pub no_variable : Variable
no_variable = record { name = []; id = Local 0; type = t.Int32; rate = Uniform; is_array = false; is_parameter = false; is_constant = true }

-- a local variable by its number
abbrev pub local_at : List Variable → VarId → Variable
local_at variables (File k) = no_variable
local_at variables (Local k) = slice_index_or variables k no_variable

-- a step's place and scope, from its names and the function's variables
abbrev pub standing_with : List Variable → NameStanding → Standing
standing_with variables s = record { place = s.place; scope = map (λ b. local_at variables b.id) s.names }

-- a result's type; int32 stands for `void`
abbrev pub type_or_int32 : ResultType → IntType
type_or_int32 None = t.Int32
type_or_int32 (Some r) = r.0

-- a result's rate; uniform stands for `void`
abbrev pub rate_or_uniform : ResultType → Rate
rate_or_uniform None = Uniform
rate_or_uniform (Some r) = r.1

-- a function in the typed tree
abbrev pub function_made : Environment → ParsedFunction → Made → Function
function_made environment f body = record {
  name = f.name;
  result = rate_or_uniform (result_of f.spec);
  result_type = type_or_int32 (result_of f.spec);
  body = body.stmt;
  standings = map (standing_with (param_variables 0 f.params ++ body.variables)) (standings_of environment f);
}

-- a function: its signature and its body are judged each by itself
abbrev pub judged_function : ParsedSource → ParsedFunction → Judged Function
judged_function source f = do
  parts ← both (unless (signature_faults f) f)
      (statements f.body (record { functions = functions_in source; result = result_of f.spec })
      (param_entries 0 f.params (global_entries 0 (globals_in source))) (length f.params) 0)
  Sound (function_made (file_scope source) f parts.1)

-- functions, each judged by itself
abbrev pub judged_functions : ParsedSource → List ParsedFunction → Judged (List Function)
judged_functions source [] = Sound []
judged_functions source (f ∷ functions) = do
  parts ← both (judged_function source f) (judged_functions source functions)
  Sound (parts.0 ∷ parts.1)

-- ---- the whole source

-- the types of a source: its typed tree, or its faults S7 to S10
abbrev pub judged_program : ParsedSource → Judged Program
judged_program source = do
  parts ← both (judged_globals 0 (globals_in source)) (judged_functions source (functions_in source))
  Sound (record { functions = parts.1; globals = parts.0 })

-- the faults of types, in the order of the tree
abbrev pub type_faults : ParsedSource → List SourceRefusal
type_faults source = faults_of (judged_program source)

-- the typed tree of a source without faults of types
abbrev pub program_of : ParsedSource → Option Program
program_of source = sound_part (judged_program source)
