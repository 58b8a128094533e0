-- The text under which the signature of a function is kept: two functions have the same where they have one name and the same
-- parameter types and rates, and only there.
use Rattle.std.specs.Prelude.{ℕ, Bool, List, [], ◌∷◌, ◌++◌, is_none, if◌then◌else◌}
use Rattle.gang_types.specs.Values.{width, is_signed}
use Rattle.gang_model.specs.Source.Parsed.{Name, ParsedParam, ParsedFunction}
use Rattle.gang_model.specs.Types.Conversions.{is_varying}
use Rattle.gang_model.specs.Types.Signatures.{declared_type, declared_rate}

-- a truth value as a number
abbrev pub digit : Bool → ℕ
digit b = if b then 1 else 0

-- a parameter: whether it is `void`, its type, its rate, and whether it is an array; no text of a parameter begins with 0
abbrev pub param_key : ParsedParam → List ℕ
param_key p =
    (if is_none p.spec.value_type then 2 else 1)
    ∷ width (declared_type p.spec.value_type)
    ∷ digit (is_signed (declared_type p.spec.value_type))
    ∷ digit (is_varying (declared_rate p.spec.rate))
    ∷ digit p.is_array
    ∷ []

-- the parameters, 0, and the name
abbrev pub key_with : List ParsedParam → Name → Name
key_with [] name = 0 ∷ name
key_with (p ∷ params) name = param_key p ++ key_with params name

abbrev pub signature_key : ParsedFunction → Name
signature_key f = key_with f.params f.name
