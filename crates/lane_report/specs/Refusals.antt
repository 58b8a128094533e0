-- Why a source has no report: its refusal, of the first phase from the tokens to the types that has one. No limit
-- on variables or array words is asked for, since nothing is run.
use Rattle.std.specs.Prelude.{◌≡◌, ◌⊎◌, Some}
use Rattle.gang_model.specs.declared.refusals.SourceRefusal.{SourceRefusal}
use Rattle.gang_model.specs.Source.Parsed.{ParsedSource}
use Rattle.gang_model.specs.Source.Sources.{HasNoTokens, HasNoTree, IsTooLong, ReadsAs}
use Rattle.gang_model.specs.Types.SourceRefusals.{refusal_of}
use Rattle.gang_model.specs.Texts.Text.{Bytes}
use Rattle.source_answers.specs.declared.fault.SourceFault.{SourceFault}
use Rattle.source_answers.specs.declared.fault.SourceFault.TheVariants as fault
use Rattle.ispc_refusals.specs.declared.refusal.Refusal.{Refusal}
use Rattle.ispc_refusals.specs.declared.refusal.Refusal.TheVariants as refused

-- a text whose tree is refused by its names or its types
pub record IsFaulty (text : Bytes) (refusal : SourceRefusal) : Type 0 where
  pub source : ParsedSource
  pub reads : ReadsAs text source
  pub fault : refusal_of source ≡ Some refusal

-- why a text is refused, of the phase that refuses it
abbrev pub IsSourceRefusal : Bytes → SourceRefusal → Type 0
IsSourceRefusal text refusal = IsTooLong text refusal ⊎ (HasNoTokens text refusal ⊎ (HasNoTree text refusal ⊎ IsFaulty text refusal))

-- out of memory, or why the text is refused
abbrev pub IsRefused : Bytes → SourceFault → Type 0
IsRefused text fault.Memory = Unit {0}
IsRefused text (fault.Refused r) = IsSourceRefusal text r

-- whether a refusal of a report is right; out of memory may come at any time
abbrev pub IsRight : Bytes → Refusal → Type 0
IsRight text (refused.Source r) = IsSourceRefusal text r
IsRight text refused.Memory = Unit {0}
IsRight text refused.NoEntry = ⊥
IsRight text refused.NoScript = ⊥
IsRight text (refused.Input _) = ⊥
