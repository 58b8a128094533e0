-- A source with foreach forms and a `switch` has a program that is well-scoped and names nothing before it is declared.
use Rattle.std.proofs.Common.{[], ◌∷◌, ◌≡◌, refl, arith}
use Rattle.std.specs.Prelude.{false, codes, Some, None}
use Rattle.gang_types.specs.Values.{residue, value_in}
use Rattle.gang_model.specs.Source.Parsed.{ParsedNumber, ParsedStmt, ParsedEmpty, ParsedBlock, ParsedDeclare, ParsedSwitch, ParsedForEach, ParsedForEachActive, ParsedForEachUnique, ParsedLast, ParsedNext, ParsedNoMore, ParsedSegment, ParsedFunctionItem, ParsedSource}
use Rattle.gang_model.specs.Source.Limits.{most_variables}
use Rattle.gang_model.specs.Types.SourceRefusals.{IsAccepted}
use Rattle.gang_model.specs.Types.Tree.{Program}
use Rattle.gang_model.specs.Types.Resolved.{program_of}
use Rattle.gang_model.proofs.RefusalLaws.{accepted-program}
use Rattle.machine_states.specs.Declared.{AreDeclaredFirst}
use Rattle.machine_states.specs.WellScoped.{IsWellScopedProgram}
use Rattle.runnable_programs.specs.Sources.{source_variables}
use Rattle.runnable_programs.proofs.DeclaredSources.{declared_program}
use Rattle.runnable_programs.proofs.FewVariables.{few_variables}
use Rattle.runnable_programs.proofs.WellScopedRow.{at, int, exported, named}
use Rattle.runnable_programs.proofs.WellScopedSources.{well_scoped_program}
use Rattle.runnable_programs.proofs.WellSpelled.{IsWellSpelledSource}

-- export void f() { foreach (i = 0 ... 4) switch (i) { case 0: { int y = i; } default: ; }
-- foreach_unique (v in programIndex) foreach_active (j) int z = v; }

abbrev choice : ParsedStmt
choice =
    ParsedSwitch (at 41) (named (codes "i") 49)
    (ParsedSegment (at 54) (Some (record { is_negative = false; value = 0 }))
    (ParsedNext (ParsedBlock (ParsedNext (ParsedDeclare (at 64) (int None) (at 68) (codes "y") (Some (named (codes "i") 72))) ParsedLast)) ParsedLast)
    (ParsedSegment (at 77) None (ParsedNext ParsedEmpty ParsedLast) ParsedNoMore))

abbrev rows : ParsedStmt
rows =
    ParsedForEach (at 19) false
    (record { at = at 28; name = codes "i"; low = ParsedNumber (at 32) 0 false false; high = ParsedNumber (at 38) 4 false false } ∷ []) choice

abbrev distinct : ParsedStmt
distinct =
    ParsedForEachUnique (at 91) (at 107) (codes "v") (named (codes "programIndex") 112)
    (ParsedForEachActive (at 126) (at 142) (codes "j") (ParsedDeclare (at 145) (int None) (at 149) (codes "z") (Some (named (codes "v") 153))))

abbrev source : ParsedSource
source =
    ParsedFunctionItem (record { at = at 13; name = codes "f"; spec = exported; params = []; body = ParsedNext rows (ParsedNext distinct ParsedLast); closing = at 156 }) ∷ []

accepted : IsAccepted source
unfolding value_in residue
accepted = refl

abbrev typed : (p : Program) × (program_of source ≡ Some p)
typed = accepted-program source accepted

spelled : IsWellSpelledSource source
spelled = ((((omega arith, omega arith), (((refl, tt), ((tt, tt), tt), ((refl, tt), (tt, tt), tt)))), (tt, tt)), tt)

program_is_well_scoped : IsWellScopedProgram (source_variables source) most_variables typed.0
program_is_well_scoped = well_scoped_program source most_variables typed.0 spelled (omega arith, tt) (few_variables source refl) typed.1

program_is_declared : AreDeclaredFirst (source_variables source) typed.0
program_is_declared = declared_program source typed.0 spelled typed.1
