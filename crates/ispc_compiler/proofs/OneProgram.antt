-- A text has one tree, and so one program and one entry, and no program where a refusal of it is right.
use Rattle.std.proofs.Common.{◌≡◌, ◌⊎◌, ℕ, List, inl, inr, refl, sym, ap, ◌∙◌, subst, arith}
use Rattle.std.specs.Prelude.{Option, Some, None, Result, Ok, Err, IfOk, IfErr}
use Rattle.std.proofs.lemmas.Option.{same_Some}
use Rattle.gang_model.specs.declared.refusals.SourceRefusal.{SourceRefusal}
use Rattle.gang_model.specs.Running.Entry.{entry_of}
use Rattle.gang_model.specs.Source.Parsed.{Name, ParsedSource}
use Rattle.gang_model.specs.Source.Sources.{HasNoEntry, IsProgramOf, IsRightRefusal, ReadsAs}
use Rattle.gang_model.specs.Source.SpellsSource.{IsTree}
use Rattle.gang_model.specs.Texts.Run.{source_refusal}
use Rattle.gang_model.specs.Types.Resolved.{program_of}
use Rattle.gang_model.specs.Types.Tree.{Program}
use Rattle.source_answers.specs.declared.fault.SourceFault.{SourceFault}
use Rattle.source_answers.specs.declared.fault.SourceFault.TheVariants.{Memory, Refused}
use Rattle.ispc_lexer.proofs.Laws.{same_tokens}
use Rattle.ispc_parser.proofs.SourceComplete.{tree_complete}
use Rattle.ispc_compiler.specs.declared.front.Compiled.{Compiled}
use Rattle.ispc_compiler.specs.Front.{Compiles, HasNoProgram, IsOnly, IsRefused}

module _ (text : List ℕ) where
  -- a text reads as one tree
  pub same_tree : (one other : ParsedSource) → ReadsAs text one → ReadsAs text other → one ≡ other
  same_tree one other a b =
      let tokens : a.tokens ≡ b.tokens = same_tokens text a.tokens b.tokens a.spelled b.spelled in
      same_Some one other (sym (tree_complete one b.tokens (subst (IsTree one) tokens a.tree)) ∙ tree_complete other b.tokens b.tree)

  module _ (asked : Option Name) where
    -- a text has one program, with one entry
    pub same_program : (one other : Program) (entry another : ℕ) → IsProgramOf text asked one entry → IsProgramOf text asked other another → (one ≡ other) × (entry ≡ another)
    same_program one other entry another a b =
        let tree : a.source ≡ b.source = same_tree a.source b.source a.accepted.reads b.accepted.reads in (
          same_Some one other (sym a.program_is ∙ ap program_of tree ∙ b.program_is),
          same_Some entry another (sym a.entry_is ∙ ap (λ s. entry_of s asked) tree ∙ b.entry_is),
        )

    -- and none without an entry
    pub no_entry : HasNoEntry text asked → HasNoProgram text asked
    no_entry none program entry is =
        let tree : none.source ≡ is.source = same_tree none.source is.source none.accepted.reads is.accepted.reads in
        let missing = sym none.none ∙ ap (λ s. entry_of s asked) tree in
        let there = is.entry_is in
        absurd cc

    -- nor where it is refused
    pub no_program : (refusal : SourceRefusal) → IsRightRefusal text refusal → HasNoProgram text asked
    no_program refusal (inl long) program entry is = absurd (omega (arith, long.many, is.accepted.reads.few))
    no_program refusal (inr (inl lexed)) program entry is = lexed.none is.accepted.reads.tokens is.accepted.reads.spelled
    no_program refusal (inr (inr (inl parsed))) program entry is =
        let reads = is.accepted.reads in
        let tokens : reads.tokens ≡ parsed.tokens = same_tokens text reads.tokens parsed.tokens reads.spelled parsed.spelled in
        parsed.none is.source (subst (IsTree is.source) tokens reads.tree)
    no_program refusal (inr (inr (inr judged))) program entry is =
        let tree : judged.source ≡ is.source = same_tree judged.source is.source judged.reads is.accepted.reads in
        let found = sym judged.fault ∙ ap source_refusal tree in
        let sound = is.accepted.sound in
        absurd cc

    -- ---- what `compile_source` says

    only : (found : Option Compiled) → Compiles text asked found → IsOnly text asked found
    only None none = no_entry none
    only (Some compiled) is = λ program entry other. same_program program _ entry _ other is.0

    pub is_only : (result : Result (Option Compiled) SourceFault) → IfOk result (Compiles text asked) → IfOk result (IsOnly text asked)
    is_only (Ok found) h = only found h
    is_only (Err fault) h = tt

    has_none : (fault : SourceFault) → IsRefused text fault → (fault ≡ Memory) ⊎ HasNoProgram text asked
    has_none Memory h = inl refl
    has_none (Refused refusal) h = inr (no_program refusal h)

    pub is_none : {A : Type 0} (result : Result A SourceFault) → IfErr result (IsRefused text) → IfErr result (λ fault. (fault ≡ Memory) ⊎ HasNoProgram text asked)
    is_none (Ok found) h = tt
    is_none (Err fault) h = has_none fault h
