-- An input of three lines: its rows, and the lengths of the entry's arrays.
use Rattle.std.proofs.Common.{ℕ, [], ◌∷◌, ◌≡◌, refl}
use Rattle.std.specs.Prelude.{Bool, true, false, codes, List, Option, Some, None, Ok, slice_get}
use Rattle.gang_types.specs.Values.{value_of, residue, word_of, value_in, wrapped}
use Rattle.gang_types.specs.declared.types.IntType.{IntType}
use Rattle.gang_types.specs.declared.types.IntType.TheVariants.{Int8, Int32}
use Rattle.gang_types.specs.declared.types.Rate.TheVariants.{Uniform}
use Rattle.gang_types.specs.declared.places.Place.{Place}
use Rattle.gang_types.specs.declared.places.VarId.{VarId}
use Rattle.gang_types.specs.declared.places.VarId.TheVariants.{File, Local}
use Rattle.gang_model.specs.declared.forms.Spec.{Spec}
use Rattle.gang_model.specs.declared.forms.GlobalForm.TheVariants.{Array}
use Rattle.gang_model.specs.Types.Tree.{Variable, Function, Program}
use Rattle.gang_model.specs.Source.Parsed.{Name, ParsedDeclare, ParsedLast, ParsedNext, ParsedFunctionItem, ParsedGlobalItem, ParsedSource}
use Rattle.gang_model.specs.Types.SourceRefusals.{IsAccepted}
use Rattle.gang_model.specs.Types.Resolved.{program_of}
use Rattle.gang_model.specs.Debugger.Events.{Row}
use Rattle.gang_model.specs.Texts.InputText.{rows_of}
use Rattle.input_rows.specs.Inputs.{AreInputs, entry_lengths}
use Rattle.input_rows.proofs.InputRows.{rows_of-inputs}

-- uniform int8 g[4];
-- export void f(uniform int n, uniform int a[]) { int x; }

abbrev at : (line column : ℕ) → Place
at line column = record { line = line; col = column }

abbrev uniform : IntType → Spec
uniform type = record { is_exported = false; is_static = false; is_inline = false; is_constant = false; rate = Some Uniform; value_type = Some type }

abbrev source : ParsedSource
source =
    ParsedGlobalItem (record { at = at 1 14; name = codes "g"; spec = uniform Int8; form = Array 4 })
    ∷ ParsedFunctionItem (record {
      at = at 2 13;
      name = codes "f";
      spec = record { is_exported = true; is_static = false; is_inline = false; is_constant = false; rate = None; value_type = None };
      params = record { at = at 2 27; name = codes "n"; spec = uniform Int32; is_array = false } ∷ record { at = at 2 42; name = codes "a"; spec = uniform Int32; is_array = true } ∷ [];
      body = ParsedNext (ParsedDeclare (at 2 49) (record { is_exported = false; is_static = false; is_inline = false; is_constant = false; rate = None; value_type = Some Int32 }) (at 2 53) (codes "x") None) ParsedLast;
      closing = at 2 56;
    })
    ∷ []

accepted : IsAccepted source
accepted = refl

abbrev program_in : Option Program → Program
program_in None = record { functions = []; globals = [] }
program_in (Some p) = p

abbrev program : Program
program = program_in (program_of source)

typed : program_of source ≡ Some program
typed = refl

abbrev input : List ℕ
input = codes "g = 1 -1\na = 7 0x10 9\nn = 3"

abbrev variable : Name → VarId → IntType → (is_array is_parameter : Bool) → Variable
variable name id type is_array is_parameter = record { name = name; id = id; type = type; rate = Uniform; is_array = is_array; is_parameter = is_parameter; is_constant = false }

abbrev rows : List Row
rows =
    record { variable = variable (codes "g") (File 0) Int8 true false; words = 1 ∷ 18446744073709551615 ∷ [] }
    ∷ record { variable = variable (codes "a") (Local 1) Int32 true true; words = 7 ∷ 16 ∷ 9 ∷ [] }
    ∷ record { variable = variable (codes "n") (Local 0) Int32 false true; words = 3 ∷ [] }
    ∷ []

rows_are : rows_of program 0 input ≡ Ok rows
unfolding value_of residue word_of value_in wrapped
rows_are = refl

-- n is no array; a has three words
lengths_are : entry_lengths 2 rows ≡ 0 ∷ 3 ∷ []
lengths_are = refl

-- a run of f may begin with them
rows_are_inputs : (f : Function) → slice_get program.functions 0 ≡ Some f → AreInputs program f rows
rows_are_inputs f there = rows_of-inputs source program accepted typed 0 f there input rows rows_are
