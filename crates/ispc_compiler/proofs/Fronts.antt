-- What the phases give together.
use Rattle.std.proofs.Common.{◌≡◌, ◌⊎◌, ℕ, ◌≤◌, List, length, Option, Some, None, sym, ap, ◌∙◌, subst, inl, inr}
use Rattle.std.specs.Prelude.{Result, Ok, Err, IfOk}
use Rattle.gang_model.specs.declared.refusals.SourceRefusal.{SourceRefusal}
use Rattle.gang_model.specs.Running.Entry.{entry_of}
use Rattle.gang_model.specs.Source.Lexes.{Lexes, max_source}
use Rattle.gang_model.specs.Source.Limits.{limit_refusal}
use Rattle.gang_model.specs.Source.Parsed.{Name, ParsedSource}
use Rattle.gang_model.specs.Types.Resolved.{program_of}
use Rattle.gang_model.specs.Texts.Run.{source_refusal}
use Rattle.gang_model.specs.Types.SourceRefusals.{first_refusal, names_refusal, types_refusal}
use Rattle.gang_model.specs.Source.Sources.{IsProgramOf, ReadsAs}
use Rattle.gang_model.specs.Source.SpellsSource.{IsTree}
use Rattle.gang_model.specs.Source.Tokens.{Lexeme}
use Rattle.source_answers.specs.declared.fault.SourceFault.{SourceFault}
use Rattle.source_answers.specs.declared.fault.SourceFault.TheVariants.{Memory, Refused}
use Rattle.ispc_lexer.specs.Refusal.{IsRefusal as IsLexerRefusal}
use Rattle.ispc_parser_shared.specs.Refusals.{IsRefusal as IsParserRefusal}
use Rattle.ispc_parser_words.proofs.TreeNumbers.{tree_number}
use Rattle.runnable_programs.specs.Sources.{HasVariablesOf}
use Rattle.runnable_programs.proofs.RunnableSources.{entry_text, runnable_text}
use Rattle.typed_tree.specs.Views.{program_view}
use Rattle.ispc_compiler.specs.declared.front.Compiled.{Compiled}
use Rattle.ispc_compiler.specs.Front.{Compiles, CompilesTree, GivesTree, IsFault, IsRefused}

-- a fault of a tree refuses its text
pub fault_right : (text : List ℕ) (source : ParsedSource) (fault : SourceFault) → ReadsAs text source → IsFault (source_refusal source) fault → IsRefused text fault
fault_right text source Memory reads h = tt
fault_right text source (Refused r) reads h = inr (inr (inr (record { source = source; reads = reads; fault = h })))

-- what a tree gives, its text gives
pub compiled_right : (text : List ℕ) (source : ParsedSource) (asked : Option Name) (found : Option Compiled) → ReadsAs text source → GivesTree source asked found → Compiles text asked found
compiled_right text source asked None reads (sound, none) =
    record { source = source; accepted = record { reads = reads; sound = sound }; none = none }
compiled_right text source asked (Some c) reads g =
    (record { source = source; accepted = record { reads = reads; sound = g.sound }; program_is = g.program; entry_is = g.entry }, g.variables, g.ready)

pub found_right : (text : List ℕ) (source : ParsedSource) (asked : Option Name) (result : Result (Option Compiled) SourceFault) → ReadsAs text source
    → IfOk result (GivesTree source asked) → IfOk result (Compiles text asked)
found_right text source asked (Ok found) reads h = compiled_right text source asked found reads h
found_right text source asked (Err fault) reads h = tt

-- the tokens' refusals
pub lexer_right : (text : List ℕ) (fault : SourceFault) → IsLexerRefusal text fault → IsRefused text fault
lexer_right text Memory h = tt
lexer_right text (Refused r) (inl (many, number, place)) = inl (record { many = many; number = number; place = place })
lexer_right text (Refused r) (inr (few, only)) = inr (inl (record { few = few; first = only.first; none = only.none }))

-- the tree's refusals
pub parser_right : (text : List ℕ) (tokens : List Lexeme) (fault : SourceFault) → length text ≤ max_source → Lexes text tokens
    → (fault ≡ Memory) ⊎ (IsParserRefusal fault × ((tree : ParsedSource) → IsTree tree tokens → ⊥)) → IsRefused text fault
parser_right text tokens fault few spelled (inl is) = subst (IsRefused text) (sym is) tt
parser_right text tokens Memory few spelled (inr h) = tt
parser_right text tokens (Refused r) few spelled (inr (number, none)) =
    inr (inr (inl (record { few = few; tokens = tokens; spelled = spelled; none = none; number = tree_number r.number number })))

-- a fault that a phase answers is the one that it finds
pub found_fault : (found : Option SourceRefusal) (fault : SourceFault) → (fault ≡ Memory) ⊎ ((refusal : SourceRefusal) × (fault ≡ Refused refusal) × (found ≡ Some refusal)) → IsFault found fault
found_fault found fault (inl is) = subst (IsFault found) (sym is) tt
found_fault found fault (inr (refusal, is, h)) = subst (IsFault found) (sym is) h

-- a fault of names refuses the tree
pub by_names : (source : ParsedSource) (fault : SourceFault) → IsFault (names_refusal source) fault → IsFault (source_refusal source) fault
by_names source Memory h = tt
by_names source (Refused r) h = ap (λ n. first_refusal (first_refusal n (types_refusal source)) (limit_refusal source)) h

-- without a fault of names, one of types does
pub by_types : (source : ParsedSource) (fault : SourceFault) → names_refusal source ≡ None → IsFault (types_refusal source) fault → IsFault (source_refusal source) fault
by_types source Memory n h = tt
by_types source (Refused r) n h =
    ap (λ n. first_refusal (first_refusal n (types_refusal source)) (limit_refusal source)) n ∙ ap (λ t. first_refusal t (limit_refusal source)) h

-- without either, the limits decide
pub by_limits : (source : ParsedSource) → names_refusal source ≡ None → types_refusal source ≡ None → source_refusal source ≡ limit_refusal source
by_limits source n t =
    ap (λ n. first_refusal (first_refusal n (types_refusal source)) (limit_refusal source)) n ∙ ap (λ t. first_refusal t (limit_refusal source)) t

-- and the limits' refusal is the tree's
pub by_limits_fault : (source : ParsedSource) (fault : SourceFault) → names_refusal source ≡ None → types_refusal source ≡ None → IsFault (limit_refusal source) fault → IsFault (source_refusal source) fault
by_limits_fault source fault n t h = subst (λ found. IsFault found fault) (sym (by_limits source n t)) h

-- the program of a tree without a fault
pub tree_compiles : (text : List ℕ) (source : ParsedSource) (asked : Option Name) (compiled : Compiled) → ReadsAs text source → names_refusal source ≡ None → types_refusal source ≡ None
    → limit_refusal source ≡ None → program_of source ≡ Some (program_view compiled.program) → HasVariablesOf source compiled.program → entry_of source asked ≡ Some compiled.entry.0
    → CompilesTree source asked compiled
tree_compiles text source asked compiled reads n t l program own entry =
    let sound = by_limits source n t ∙ l in
    let is : IsProgramOf text asked (program_view compiled.program) compiled.entry.0 =
    record { source = source; accepted = record { reads = reads; sound = sound }; program_is = program; entry_is = entry } in
    record {
      sound = sound;
      program = program;
      entry = entry;
      variables = own;
      ready = record {
        runnable = runnable_text text asked compiled.entry.0 compiled.program is own;
        entry = entry_text text asked compiled.entry.0 compiled.program is;
      };
    }
