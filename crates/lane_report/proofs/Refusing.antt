-- The refusals of the phases, as those of a report.
use Rattle.std.proofs.Common.{◌≡◌, ◌⊎◌, ◌≤◌, List, length, Some, None, sym, ap, ◌∙◌, subst, inl, inr}
use Rattle.gang_model.specs.declared.refusals.SourceRefusal.{SourceRefusal}
use Rattle.gang_model.specs.Source.Lexes.{Lexes, max_source}
use Rattle.gang_model.specs.Source.Limits.{limit_refusal}
use Rattle.gang_model.specs.Source.Parsed.{ParsedSource}
use Rattle.gang_model.specs.Source.Sources.{IsRightRefusal, ReadsAs}
use Rattle.gang_model.specs.Source.SpellsSource.{IsTree}
use Rattle.gang_model.specs.Source.Tokens.{Lexeme}
use Rattle.gang_model.specs.Texts.Text.{Bytes}
use Rattle.gang_model.specs.Types.SourceRefusals.{IsAccepted, first_refusal, names_refusal, types_refusal}
use Rattle.source_answers.specs.declared.fault.SourceFault.{SourceFault}
use Rattle.source_answers.specs.declared.fault.SourceFault.TheVariants.{Memory, Refused}
use Rattle.ispc_lexer.specs.Refusal.{IsRefusal as IsLexerRefusal}
use Rattle.ispc_parser_shared.specs.Refusals.{IsRefusal as IsParserRefusal}
use Rattle.ispc_parser_words.proofs.TreeNumbers.{tree_number}
use Rattle.lane_report.specs.Refusals.{IsRefused, IsSourceRefusal}

-- the tokens' refusals
pub by_tokens : (text : Bytes) (fault : SourceFault) → IsLexerRefusal text fault → IsRefused text fault
by_tokens text Memory h = tt
by_tokens text (Refused r) (inl (many, number, place)) = inl (record { many = many; number = number; place = place })
by_tokens text (Refused r) (inr (few, only)) = inr (inl (record { few = few; first = only.first; none = only.none }))

-- the tree's refusals
pub by_tree : (text : Bytes) (tokens : List Lexeme) (fault : SourceFault) → length text ≤ max_source → Lexes text tokens
    → (fault ≡ Memory) ⊎ (IsParserRefusal fault × ((tree : ParsedSource) → IsTree tree tokens → ⊥)) → IsRefused text fault
by_tree text tokens fault few spelled (inl is) = subst (IsRefused text) (sym is) tt
by_tree text tokens Memory few spelled (inr h) = tt
by_tree text tokens (Refused r) few spelled (inr (number, none)) =
    inr (inr (inl (record { few = few; tokens = tokens; spelled = spelled; none = none; number = tree_number r.number number })))

module _ (text : Bytes) (source : ParsedSource) (reads : ReadsAs text source) where
  -- the refusals of names
  pub by_names : (fault : SourceFault) → (fault ≡ Memory) ⊎ ((refusal : SourceRefusal) × (fault ≡ Refused refusal) × (names_refusal source ≡ Some refusal)) → IsRefused text fault
  by_names fault (inl is) = subst (IsRefused text) (sym is) tt
  by_names fault (inr (refusal, is, h)) =
      subst (IsRefused text) (sym is) (inr (inr (inr (record { source = source; reads = reads; fault = ap (λ n. first_refusal n (types_refusal source)) h }))))

  -- the refusals of types, where names have none
  pub by_types : (fault : SourceFault) → names_refusal source ≡ None
      → (fault ≡ Memory) ⊎ ((refusal : SourceRefusal) × (fault ≡ Refused refusal) × (types_refusal source ≡ Some refusal)) → IsRefused text fault
  by_types fault none (inl is) = subst (IsRefused text) (sym is) tt
  by_types fault none (inr (refusal, is, h)) =
      subst (IsRefused text) (sym is) (inr (inr (inr (record { source = source; reads = reads; fault = ap (λ n. first_refusal n (types_refusal source)) none ∙ h }))))

-- a source without either is accepted
pub by_neither : (source : ParsedSource) → names_refusal source ≡ None → types_refusal source ≡ None → IsAccepted source
by_neither source names types = ap (λ n. first_refusal n (types_refusal source)) names ∙ types

-- a run of the source is refused as the report is
pub as_in_a_run : (text : Bytes) (refusal : SourceRefusal) → IsSourceRefusal text refusal → IsRightRefusal text refusal
as_in_a_run text refusal (inl long) = inl long
as_in_a_run text refusal (inr (inl none)) = inr (inl none)
as_in_a_run text refusal (inr (inr (inl none))) = inr (inr (inl none))
as_in_a_run text refusal (inr (inr (inr faulty))) = inr (inr (inr (record {
  source = faulty.source;
  reads = faulty.reads;
  fault = ap (λ found. first_refusal found (limit_refusal faulty.source)) faulty.fault;
})))
