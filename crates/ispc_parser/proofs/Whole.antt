-- The tree of all the tokens.
use Rattle.std.proofs.Common.{◌≡◌, ◌⊎◌, inl, inr, List, Result, Ok, Err, refl, sym, ◌∙◌}
use Rattle.std.specs.Prelude.{IfOk, IfErr}
use Rattle.gang_model.specs.Source.Tokens.{Lexeme}
use Rattle.gang_model.specs.Source.Parsed.{ParsedSource}
use Rattle.gang_model.specs.Source.SpellsSource.{IsTree}
use Rattle.source_answers.specs.declared.fault.SourceFault.{SourceFault}
use Rattle.source_answers.specs.declared.fault.SourceFault.TheVariants as faults
use Rattle.ispc_parser_words.specs.Front.{Gives}
use Rattle.ispc_parser_shared.specs.Refusals.{IsRefusal}
use Rattle.ispc_parser.specs.Source.{tree_of}
use Rattle.ispc_parser.proofs.SourceSound.{tree_sound}
use Rattle.ispc_parser.proofs.SourceComplete.{tree_complete}
use Rattle.std.proofs.lemmas.Option.{same_Some}

module _ {X : Type 0} (view : X → ParsedSource) (ts : List Lexeme) where
  pub is_found : (r : Result X SourceFault) → Gives view r (tree_of ts) → IfOk r (λ x. IsTree (view x) ts)
  is_found (Ok x) h = tree_sound (view x) ts h
  is_found (Err e) h = tt

  pub is_one : (r : Result X SourceFault) → Gives view r (tree_of ts) → IfOk r (λ x. (other : ParsedSource) → IsTree other ts → other ≡ view x)
  is_one (Ok x) h = λ other t. same_Some other (view x) (sym (tree_complete other ts t) ∙ h)
  is_one (Err e) h = tt

  pub is_none : (r : Result X SourceFault) → Gives view r (tree_of ts) → IfErr r (λ e. (e ≡ faults.Memory) ⊎ (IsRefusal e × ((tree : ParsedSource) → IsTree tree ts → ⊥)))
  is_none (Ok x) h = tt
  is_none (Err faults.Memory) h = inl refl
  is_none (Err (faults.Refused f)) h = inr (h.1, λ tree t. let found = tree_complete tree ts t in let none = h.0 in absurd cc)
