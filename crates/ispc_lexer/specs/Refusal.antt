-- What a refusal of the lexer says.
use Rattle.std.specs.Prelude.{◌≡◌, ◌⊎◌, ℕ, ◌<◌, ◌≤◌, List, length}
use Rattle.gang_types.specs.declared.places.Place.{Place}
use Rattle.gang_model.specs.declared.refusals.RefusalNumber.{RefusalNumber}
use Rattle.gang_model.specs.declared.refusals.RefusalNumber.TheVariants.{S13}
use Rattle.gang_model.specs.Source.Tokens.{Lexeme}
use Rattle.gang_model.specs.Source.Lexes.{Lexes, IsFirstFault, first_place, max_source}
use Rattle.source_answers.specs.declared.fault.SourceFault.{SourceFault}
use Rattle.source_answers.specs.declared.fault.SourceFault.TheVariants as fault

-- the first fault, no other one being it, of a source that no tokens spell
pub record IsOnlyFault (source : List ℕ) (n : RefusalNumber) (p : Place) : Type 0 where
  pub first : IsFirstFault source n p
  pub only : (other : RefusalNumber) (place : Place) → IsFirstFault source other place → (other ≡ n) × (place ≡ p)
  pub none : (tokens : List Lexeme) → Lexes source tokens → ⊥

-- S13 stands exactly where the source has too many bytes
abbrev pub IsRefusal : List ℕ → SourceFault → Type 0
IsRefusal source fault.Memory = Unit {0}
IsRefusal source (fault.Refused r) =
    ((max_source < length source) × (r.number ≡ S13) × (r.place ≡ first_place))
    ⊎ ((length source ≤ max_source) × IsOnlyFault source r.number r.place)
