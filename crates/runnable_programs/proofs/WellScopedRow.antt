-- A source with a call, a loop and a branch has a well-scoped program.
use Rattle.std.proofs.Common.{ℕ, [], ◌∷◌, ◌≡◌, refl, arith}
use Rattle.std.specs.Prelude.{Bool, true, false, codes, Option, Some, None}
use Rattle.gang_types.specs.declared.types.IntType.TheVariants.{Int32}
use Rattle.gang_types.specs.declared.types.Rate.{Rate}
use Rattle.gang_types.specs.declared.types.Rate.TheVariants.{Uniform, Varying}
use Rattle.gang_types.specs.declared.operators.BinaryOp.TheVariants.{Add, Less}
use Rattle.gang_types.specs.declared.places.Place.{Place}
use Rattle.gang_types.specs.declared.places.VarId.{VarId}
use Rattle.gang_types.specs.declared.places.VarId.TheVariants.{File, Local}
use Rattle.gang_model.specs.declared.forms.Infix.TheVariants.{Op}
use Rattle.gang_model.specs.declared.forms.Spec.{Spec}
use Rattle.gang_model.specs.declared.forms.GlobalForm.TheVariants.{Plain}
use Rattle.gang_model.specs.Types.Tree.{Variable, Program}
use Rattle.gang_model.specs.Source.Parsed.{Name, ParsedExpr, ParsedNumber, ParsedName, ParsedCall, ParsedBinary, ParsedEnd, ParsedValue, ParsedTarget, ParsedStmt, ParsedBlock, ParsedDeclare, ParsedAssign, ParsedIncrement, ParsedBreak, ParsedReturn, ParsedIf, ParsedFor, ParsedLast, ParsedNext, ParsedFunction, ParsedFunctionItem, ParsedGlobalItem, ParsedSource}
use Rattle.gang_model.specs.Source.Limits.{most_variables}
use Rattle.gang_model.specs.Types.SourceRefusals.{IsAccepted}
use Rattle.gang_model.specs.Types.Resolved.{program_of}
use Rattle.gang_model.proofs.RefusalLaws.{accepted-program}
use Rattle.machine_states.specs.Variables.{Variables}
use Rattle.machine_states.specs.WellScoped.{IsWellScopedProgram}
use Rattle.runnable_programs.specs.Sources.{source_variables}
use Rattle.runnable_programs.proofs.FewVariables.{few_variables}
use Rattle.runnable_programs.proofs.WellScopedSources.{well_scoped_program}
use Rattle.runnable_programs.proofs.WellSpelled.{IsWellSpelledSource}

-- uniform int g; int twice(int a) { return a + a; }
-- export void f() { int x = twice(g); for (int i = 0; i < 4; ++i) { int y = x; if (y < i) break; } x = twice(x); }

abbrev pub at : ℕ → Place
at column = record { line = 1; col = column }

abbrev pub int : Option Rate → Spec
int rate = record { is_exported = false; is_static = false; is_inline = false; is_constant = false; rate = rate; value_type = Some Int32 }

-- export void
abbrev pub exported : Spec
exported = record { is_exported = true; is_static = false; is_inline = false; is_constant = false; rate = None; value_type = None }

abbrev pub named : Name → ℕ → ParsedExpr
named name column = ParsedName (at column) name

abbrev target : Name → ℕ → ParsedTarget
target name column = record { at = at column; name = name; index = None }

abbrev twice_of : ℕ → ParsedExpr → ParsedExpr
twice_of column e = ParsedCall (at column) (codes "twice") (ParsedValue e ParsedEnd)

abbrev twice : ParsedFunction
twice = record {
  at = at 20;
  name = codes "twice";
  spec = int None;
  params = record { at = at 30; name = codes "a"; spec = int None; is_array = false } ∷ [];
  body = ParsedNext (ParsedReturn (at 35) (Some (ParsedBinary (Op Add) (named (codes "a") 42) (named (codes "a") 46)))) ParsedLast;
  closing = at 49;
}

abbrev round : ParsedStmt
round =
    ParsedBlock
    (ParsedNext (ParsedDeclare (at 115) (int None) (at 119) (codes "y") (Some (named (codes "x") 123)))
    (ParsedNext (ParsedIf (at 126) (ParsedBinary (Op Less) (named (codes "y") 130) (named (codes "i") 134)) (ParsedBreak (at 137))) ParsedLast))

abbrev loop : ParsedStmt
loop =
    ParsedFor (at 88) (ParsedDeclare (at 93) (int None) (at 97) (codes "i") (Some (ParsedNumber (at 101) 0 false false)))
    (Some (ParsedBinary (Op Less) (named (codes "i") 104) (ParsedNumber (at 108) 4 false false))) (ParsedIncrement (at 111) (target (codes "i") 113) Add) round

abbrev entry : ParsedFunction
entry = record {
  at = at 64;
  name = codes "f";
  spec = exported;
  params = [];
  body = ParsedNext (ParsedDeclare (at 70) (int None) (at 74) (codes "x") (Some (twice_of 78 (named (codes "g") 84))))
      (ParsedNext loop (ParsedNext (ParsedAssign (at 146) (target (codes "x") 146) (twice_of 150 (named (codes "x") 156))) ParsedLast));
  closing = at 160;
}

abbrev source : ParsedSource
source =
    ParsedGlobalItem (record { at = at 13; name = codes "g"; spec = int (Some Uniform); form = Plain }) ∷ ParsedFunctionItem twice ∷ ParsedFunctionItem entry ∷ []

-- ---- its variables

abbrev variable : Name → VarId → Rate → (is_parameter : Bool) → Variable
variable name id rate is_parameter = record { name = name; id = id; type = Int32; rate = rate; is_array = false; is_parameter = is_parameter; is_constant = false }

abbrev variables : Variables
variables = record {
  file = variable (codes "g") (File 0) Uniform false ∷ [];
  own = (variable (codes "a") (Local 0) Varying true ∷ [])
      ∷ (variable (codes "x") (Local 0) Varying false ∷ variable (codes "i") (Local 1) Varying false ∷ variable (codes "y") (Local 2) Varying false ∷ [])
      ∷ [];
  parameters = 1 ∷ 0 ∷ [];
}

variables_are : source_variables source ≡ variables
variables_are = refl

-- ---- its program

accepted : IsAccepted source
accepted = refl

abbrev typed : (p : Program) × (program_of source ≡ Some p)
typed = accepted-program source accepted

spelled : IsWellSpelledSource source
spelled = ((tt, tt), ((tt, ((refl, refl, tt, tt, (tt, (tt, tt))), (tt, tt))), tt))

program_is_well_scoped : IsWellScopedProgram (source_variables source) most_variables typed.0
program_is_well_scoped = well_scoped_program source most_variables typed.0 spelled (omega arith, (omega arith, tt)) (few_variables source refl) typed.1
