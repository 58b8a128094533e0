-- Arguments that may be left out, one before others.
use Rattle.std.proofs.Common.{◌≡◌, ap, ◌∙◌, Bool, List, ◌∷◌, Option, Some, if◌then◌else◌}
use Rattle.gang_model.specs.Texts.Text.{Bytes}
use Rattle.adapter_messages.specs.Faults.{first_missing}

-- the first that is wrong of one argument and others behind it
pub wrong_then : (name : Bytes) (right x : Bool) (others : Option Bytes) (rest : List (Bytes × Bool)) (result : Option Bytes) → result ≡ (if right then others else Some name) → right ≡ x
    → others ≡ first_missing rest → result ≡ first_missing ((name, x) ∷ rest)
wrong_then name right x others rest result is same so = is ∙ ap (λ b. if b then others else Some name) same ∙ ap (λ o. if x then o else Some name) so
