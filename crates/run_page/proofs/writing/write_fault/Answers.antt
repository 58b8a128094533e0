use Rattle.std.proofs.Common.{◌≡◌, ◌∷◌, [], ◌∙◌, ℕ, ap, codes, decimal}
use Rattle.gang_types.specs.declared.faults.FaultName.{FaultName}
use Rattle.gang_model.specs.Texts.Text.{Bytes}
use Rattle.json_texts.specs.Json.{list_text, string_text}
use Rattle.json_texts.proofs.Listing.{ok_text}
use Rattle.run_page.specs.RecordText.{fault_name, fault_number}
use Rattle.run_page.proofs.writing.write_fault.Goals as goal

abbrev text : (lane : ℕ) → (number name : Bytes) → Bytes
text lane number name = list_text (string_text (codes "fault") ∷ string_text number ∷ string_text name ∷ decimal lane ∷ [])

same : (fault : FaultName) (lane : ℕ) (number name : Bytes) → number ≡ fault_number fault → name ≡ fault_name fault → text lane number name ≡ text lane (fault_number fault) (fault_name fault)
same fault lane number name e f = ap (λ t. text lane t name) e ∙ ap (text lane (fault_number fault)) f

pub returns-clause-written : goal.returns-clause-written
returns-clause-written g c =
    ok_text _ _ _ _ c.write_parts.result (same c.args.fault.name c.args.fault.lane _ _ c.fault_number.ensures c.fault_name.ensures) c.write_parts.ensures.written
