-- What the phases from a text to a program give.
use Rattle.std.specs.Prelude.{◌≡◌, ℕ, List, Option, Some, None, slice_get}
use Rattle.gang_model.specs.declared.refusals.SourceRefusal.{SourceRefusal}
use Rattle.gang_model.specs.Running.Entry.{entry_of}
use Rattle.runnable_programs.specs.Sources.{HasVariablesOf}
use Rattle.gang_model.specs.Source.Parsed.{Name, ParsedSource}
use Rattle.gang_model.specs.Types.Resolved.{program_of}
use Rattle.gang_model.specs.Types.Tree.{Function, Program as ModelProgram}
use Rattle.gang_model.specs.Texts.Run.{source_refusal}
use Rattle.gang_model.specs.Source.Sources.{HasNoEntry, IsProgramOf, IsRightRefusal}
use Rattle.codegen.specs.Programs.{IsRunnable}
use Rattle.typed_tree.specs.Views.{program_view}
use Rattle.source_answers.specs.declared.fault.SourceFault.{SourceFault}
use Rattle.source_answers.specs.declared.fault.SourceFault.TheVariants.{Memory, Refused}
use Rattle.ispc_compiler.specs.declared.front.Compiled.{Compiled}

-- a program that a machine runs from its entry on
pub record IsReady (compiled : Compiled) : Type 0 where
  pub runnable : IsRunnable compiled.program
  pub entry : (f : Function) × (slice_get (program_view compiled.program).functions compiled.entry.0 ≡ Some f)

-- the program and the entry of a tree without a fault, with the variables that the tree declares
pub record CompilesTree (source : ParsedSource) (asked : Option Name) (compiled : Compiled) : Type 0 where
  pub sound : source_refusal source ≡ None
  pub program : program_of source ≡ Some (program_view compiled.program)
  pub entry : entry_of source asked ≡ Some compiled.entry.0
  pub variables : HasVariablesOf source compiled.program
  pub ready : IsReady compiled

-- the same, or nothing where the tree has no fault and no function to begin with
abbrev pub GivesTree : ParsedSource → (asked : Option Name) → Option Compiled → Type 0
GivesTree source asked None = (source_refusal source ≡ None) × (entry_of source asked ≡ None)
GivesTree source asked (Some compiled) = CompilesTree source asked compiled

-- the program of a text and its entry, with the variables that the text declares, or nothing where it has no function to begin with
abbrev pub Compiles : List ℕ → (asked : Option Name) → Option Compiled → Type 0
Compiles text asked None = HasNoEntry text asked
Compiles text asked (Some compiled) =
    (is : IsProgramOf text asked (program_view compiled.program) compiled.entry.0) × HasVariablesOf is.source compiled.program × IsReady compiled

-- a text has no program with an entry
abbrev pub HasNoProgram : List ℕ → (asked : Option Name) → Type 0
HasNoProgram text asked = (program : ModelProgram) (entry : ℕ) → IsProgramOf text asked program entry → ⊥

-- a text has no other program and no other entry than this one
abbrev pub IsOnly : List ℕ → (asked : Option Name) → Option Compiled → Type 0
IsOnly text asked None = HasNoProgram text asked
IsOnly text asked (Some compiled) = (program : ModelProgram) (entry : ℕ) → IsProgramOf text asked program entry → (program ≡ program_view compiled.program) × (entry ≡ compiled.entry.0)

-- out of memory, or the refusal that is found
abbrev pub IsFault : Option SourceRefusal → SourceFault → Type 0
IsFault found Memory = Unit {0}
IsFault found (Refused refusal) = found ≡ Some refusal

-- out of memory, or the right refusal
abbrev pub IsRefused : List ℕ → SourceFault → Type 0
IsRefused text Memory = Unit {0}
IsRefused text (Refused refusal) = IsRightRefusal text refusal
