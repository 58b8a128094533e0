-- How the text of a source reads, why it is refused, and which program it is (a choice of this project: the first phase that
-- finds a fault names it).
use Rattle.std.specs.Prelude.{◌≡◌, ◌⊎◌, ℕ, ◌<◌, ◌≤◌, List, length, Option, Some, None}
use Rattle.gang_model.specs.declared.refusals.RefusalNumber.{RefusalNumber}
use Rattle.gang_model.specs.declared.refusals.RefusalNumber.TheVariants.{S3, S4, S13}
use Rattle.gang_model.specs.declared.refusals.SourceRefusal.{SourceRefusal}
use Rattle.gang_model.specs.Source.Tokens.{Lexeme}
use Rattle.gang_model.specs.Source.Lexes.{Lexes, IsFirstFault, first_place, max_source}
use Rattle.gang_model.specs.Source.Parsed.{Name, ParsedSource}
use Rattle.gang_model.specs.Source.SpellsSource.{IsTree}
use Rattle.gang_model.specs.Types.Tree.{Program}
use Rattle.gang_model.specs.Types.Resolved.{program_of}
use Rattle.gang_model.specs.Running.Entry.{entry_of}
use Rattle.gang_model.specs.Texts.Run.{source_refusal}
use Rattle.gang_model.specs.Texts.Text.{Bytes}

-- a text reads as a tree
pub record ReadsAs (text : Bytes) (source : ParsedSource) : Type 0 where
  pub few : length text ≤ max_source
  pub tokens : List Lexeme
  pub spelled : Lexes text tokens
  pub tree : IsTree source tokens

-- a text of too many bytes: S13 at its first byte
pub record IsTooLong (text : Bytes) (refusal : SourceRefusal) : Type 0 where
  pub many : max_source < length text
  pub number : refusal.number ≡ S13
  pub place : refusal.place ≡ first_place

-- a text that has no tokens: S1 or S2 where the first piece cannot be read
pub record HasNoTokens (text : Bytes) (refusal : SourceRefusal) : Type 0 where
  pub few : length text ≤ max_source
  pub first : IsFirstFault text refusal.number refusal.place
  pub none : (tokens : List Lexeme) → Lexes text tokens → ⊥

-- S3, S4 or S13
abbrev pub IsTreeNumber : RefusalNumber → Type 0
IsTreeNumber number = (number ≡ S3) ⊎ ((number ≡ S4) ⊎ (number ≡ S13))

-- a text whose tokens no tree spells
pub record HasNoTree (text : Bytes) (refusal : SourceRefusal) : Type 0 where
  pub few : length text ≤ max_source
  pub tokens : List Lexeme
  pub spelled : Lexes text tokens
  pub none : (source : ParsedSource) → IsTree source tokens → ⊥
  pub number : IsTreeNumber refusal.number

-- a text whose tree is refused by its names, its types or the limits
pub record HasFault (text : Bytes) (refusal : SourceRefusal) : Type 0 where
  pub source : ParsedSource
  pub reads : ReadsAs text source
  pub fault : source_refusal source ≡ Some refusal

-- why a text is refused, of the phase that refuses it
abbrev pub IsRightRefusal : Bytes → SourceRefusal → Type 0
IsRightRefusal text refusal = IsTooLong text refusal ⊎ (HasNoTokens text refusal ⊎ (HasNoTree text refusal ⊎ HasFault text refusal))

-- a text without a fault
pub record IsAcceptedAs (text : Bytes) (source : ParsedSource) : Type 0 where
  pub reads : ReadsAs text source
  pub sound : source_refusal source ≡ None

-- the program of an accepted text, and the function that its run begins with
pub record IsProgramOf (text : Bytes) (asked : Option Name) (program : Program) (entry : ℕ) : Type 0 where
  pub source : ParsedSource
  pub accepted : IsAcceptedAs text source
  pub program_is : program_of source ≡ Some program
  pub entry_is : entry_of source asked ≡ Some entry

-- an accepted text that has no function to begin with
pub record HasNoEntry (text : Bytes) (asked : Option Name) : Type 0 where
  pub source : ParsedSource
  pub accepted : IsAcceptedAs text source
  pub none : entry_of source asked ≡ None
