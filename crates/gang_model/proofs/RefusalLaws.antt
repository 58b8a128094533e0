-- What follows for a source without refusal: it has no fault at all, and stands for a typed tree.
use Rattle.std.proofs.Common.{true≢false, List, [], ◌∷◌, ◌≡◌, refl, ap}
use Rattle.std.specs.Prelude.{is_some, Option, Some, None}
use Rattle.gang_model.specs.declared.refusals.SourceRefusal.{SourceRefusal}
use Rattle.gang_model.specs.Types.Tree.{Program}
use Rattle.gang_model.specs.Source.Parsed.{ParsedSource}
use Rattle.gang_model.specs.Source.Judged.{sound_part, least_fault}
use Rattle.gang_model.proofs.JudgedLaws.{sound_without_faults}
use Rattle.gang_model.specs.Names.NameFaults.{name_faults}
use Rattle.gang_model.specs.Types.Resolved.{judged_program, program_of, type_faults}
use Rattle.gang_model.specs.Types.SourceRefusals.{names_refusal, types_refusal, first_refusal, IsAccepted}

-- no least fault means no fault
no_fault : (faults : List SourceRefusal) → least_fault faults ≡ None → faults ≡ []
no_fault [] e = refl
no_fault (f ∷ faults) e = absurd (true≢false (ap is_some e))

no_first : (names types : Option SourceRefusal) → first_refusal names types ≡ None → names ≡ None
no_first None types e = refl
no_first (Some f) types e = absurd (true≢false (ap is_some e))

no_later : (names types : Option SourceRefusal) → first_refusal names types ≡ None → types ≡ None
no_later None types e = e
no_later (Some f) types e = absurd (true≢false (ap is_some e))

-- an accepted source has no fault of names
pub accepted-names : (source : ParsedSource) → IsAccepted source → name_faults source ≡ []
accepted-names source e = no_fault (name_faults source) (no_first (names_refusal source) (types_refusal source) e)

-- an accepted source has no fault of types
pub accepted-types : (source : ParsedSource) → IsAccepted source → type_faults source ≡ []
accepted-types source e = no_fault (type_faults source) (no_later (names_refusal source) (types_refusal source) e)

-- an accepted source stands for a typed tree
pub accepted-program : (source : ParsedSource) → IsAccepted source → (p : Program) × (program_of source ≡ Some p)
accepted-program source e =
    let sound = sound_without_faults (judged_program source) (no_later (names_refusal source) (types_refusal source) e) in
    (sound.0, ap sound_part sound.1)
