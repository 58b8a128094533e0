-- Which function does a step, by its code.
use Rattle.codegen.specs.declared.code.StepCode.{StepCode}
use Rattle.codegen.specs.declared.code.StepCode.TheVariants as code

-- a packed store or a packed load
abbrev pub IsPacked : StepCode → Type 0
IsPacked (code.PackedStore array from value result_for next) = Unit {0}
IsPacked (code.PackedLoad array from into result_for next) = Unit {0}
IsPacked step = ⊥

-- a step that writes a variable or elements
abbrev pub IsWrite : StepCode → Type 0
IsWrite (code.Declare variable value next) = Unit {0}
IsWrite (code.Assign variable value next) = Unit {0}
IsWrite (code.Change variable change value next) = Unit {0}
IsWrite (code.AssignElement array index value next) = Unit {0}
IsWrite (code.ChangeElement array index change value next) = Unit {0}
IsWrite (code.PackedStore array from value result_for next) = Unit {0}
IsWrite (code.PackedLoad array from into result_for next) = Unit {0}
IsWrite step = ⊥
