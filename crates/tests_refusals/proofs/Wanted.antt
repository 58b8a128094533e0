-- What is wanted of a source, and what the definitions give for it.
use Rattle.std.specs.Prelude.{ℕ, List, [], ◌∷◌, map, Option, Some, None, slice_get}
use Rattle.gang_types.specs.declared.types.Rate.{Rate}
use Rattle.gang_types.specs.declared.types.IntType.{IntType}
use Rattle.gang_model.specs.declared.refusals.RefusalNumber.{RefusalNumber}
use Rattle.gang_model.specs.declared.refusals.SourceRefusal.{SourceRefusal}
use Rattle.gang_model.specs.Source.Parsed.{Name, ParsedExpr, ParsedSource, functions_in}
use Rattle.gang_model.specs.Source.Judged.{Sound, Faulty}
use Rattle.gang_model.specs.Names.Scope.{NameStanding, standings_at}
use Rattle.gang_model.specs.Types.Typing.{expression}
use Rattle.gang_model.specs.Types.Resolved.{program_of}
use Rattle.tests_transcripts.proofs.Forms.{at}

-- a refusal and its place
abbrev pub refused : RefusalNumber → ℕ → ℕ → Option SourceRefusal
refused number line col = Some (record { number = number; place = at line col })

-- no refusal
abbrev pub accepted : Option SourceRefusal
accepted = None

-- the type and rate of an expression of built-in names, if it has no fault
abbrev pub type_of : ParsedExpr → Option (IntType × Rate)
type_of e = elim (expression e []) [ Sound x ↦ Some (x.type, x.rate) | Faulty first others ↦ None ]

abbrev pub has_type : IntType → Rate → Option (IntType × Rate)
has_type type rate = Some (type, rate)

abbrev names_of : List NameStanding → List (List Name)
names_of [] = []
names_of (s ∷ standings) = map (λ b. b.name) s.names ∷ names_of standings

-- the names listed at each step of a function
abbrev pub listed_at : ParsedSource → ℕ → List (List Name)
listed_at source f = names_of (standings_at source (slice_get (functions_in source) f))

-- the first words of the file-scope variables
abbrev pub first_words : ParsedSource → List ℕ
first_words source = elim (program_of source) [ None ↦ [] | Some p ↦ map (λ g. g.word) p.globals ]
