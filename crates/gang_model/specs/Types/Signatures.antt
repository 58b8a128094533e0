-- What a spec declares, and when two functions have the same parameters (a choice of this project: two functions of one name
-- differ in the types or rates of their parameters).
use Rattle.std.specs.Prelude.{Bool, true, false, ◌&&◌, List, [], ◌∷◌, Option, Some, None, is_none}
use Rattle.gang_types.specs.declared.types.IntType.{IntType}
use Rattle.gang_types.specs.declared.types.IntType.TheVariants as t
use Rattle.gang_types.specs.declared.types.Rate.{Rate}
use Rattle.gang_types.specs.declared.types.Rate.TheVariants.{Varying}
use Rattle.gang_model.specs.declared.forms.Spec.{Spec}
use Rattle.gang_model.specs.Source.Names.{same_text}
use Rattle.gang_model.specs.Source.Parsed.{ParsedParam, ParsedFunction}
use Rattle.gang_model.specs.Types.Conversions.{same_bool, same_type, same_rate}

-- the type of a declaration; that it is `void` is a fault of its own
abbrev pub declared_type : Option IntType → IntType
declared_type None = t.Int32
declared_type (Some type) = type

-- a declaration without a rate is varying
abbrev pub declared_rate : Option Rate → Rate
declared_rate None = Varying
declared_rate (Some rate) = rate

-- a result's type and rate; none for `void`
abbrev pub ResultType : Type 0
ResultType = Option (IntType × Rate)

-- a result of this rate, if it has a type
abbrev pub result_with : Option IntType → Rate → ResultType
result_with None rate = None
result_with (Some type) rate = Some (type, rate)

-- the result of a function with this spec
abbrev pub result_of : Spec → ResultType
result_of spec = result_with spec.value_type (declared_rate spec.rate)

-- whether two specs have the same type, `void` being one
abbrev pub same_declared_type : Option IntType → Option IntType → Bool
same_declared_type a b = same_bool (is_none a) (is_none b) && same_type (declared_type a) (declared_type b)

-- whether two parameters have the same type and rate and both or neither are arrays
abbrev pub same_param : ParsedParam → ParsedParam → Bool
same_param p q = same_declared_type p.spec.value_type q.spec.value_type
    && (same_rate (declared_rate p.spec.rate) (declared_rate q.spec.rate) && same_bool p.is_array q.is_array)

-- whether two lists of parameters are the same, one by one
abbrev pub same_params : List ParsedParam → List ParsedParam → Bool
same_params [] [] = true
same_params [] (q ∷ others) = false
same_params (p ∷ params) [] = false
same_params (p ∷ params) (q ∷ others) = same_param p q && same_params params others

-- whether two functions have one name and the same parameter types and rates
abbrev pub same_signature : ParsedFunction → ParsedFunction → Bool
same_signature f g = same_text f.name g.name && same_params f.params g.params
