-- The limits that a source without faults meets: the variables of one function and the words of file-scope arrays
-- (a choice of this project). The refusal is the first in the order of the source.
use Rattle.std.specs.Prelude.{ℕ, ◌+◌, ◌^◌, nat_lt, List, [], ◌∷◌, ◌++◌, map, Option, Some, None, slice_get}
use Rattle.gang_types.specs.declared.places.Place.{Place}
use Rattle.gang_model.specs.declared.refusals.RefusalNumber.TheVariants.{S13}
use Rattle.gang_model.specs.declared.refusals.SourceRefusal.{SourceRefusal}
use Rattle.gang_model.specs.Source.Parsed.{ParsedStmt, ParsedBlock, ParsedDeclare, ParsedIf, ParsedIfElse, ParsedWhile, ParsedDo, ParsedFor, ParsedSwitch, ParsedForEach, ParsedForEachActive, ParsedForEachUnique, ParsedStmts, ParsedLast, ParsedNext, ParsedSegments, ParsedNoMore, ParsedSegment, ParsedFunction, ParsedItem, ParsedFunctionItem, ParsedGlobalItem, ParsedSource}
use Rattle.gang_model.specs.Source.Judged.{fault_if}
use Rattle.gang_model.specs.Types.Resolved.{length_of}

-- how many variables a function may have: parameters, locals and index variables
abbrev pub most_variables : ℕ
most_variables = 256

-- how many words the file-scope arrays may have together, one for each element
abbrev pub most_array_words : ℕ
most_array_words = 2 ^ 20

abbrev mutual
  -- the places of the names that a statement declares, in the order of the source
  pub declared_in : ParsedStmt → List Place
  declared_in (ParsedBlock ss) = declared_in_all ss
  declared_in (ParsedDeclare p spec at name e) = at ∷ []
  declared_in (ParsedIf p e a) = declared_in a
  declared_in (ParsedIfElse p e a b) = declared_in a ++ declared_in b
  declared_in (ParsedWhile p e body) = declared_in body
  declared_in (ParsedDo body p e) = declared_in body
  declared_in (ParsedFor p start e update body) = declared_in start ++ (declared_in update ++ declared_in body)
  declared_in (ParsedSwitch p e segments) = declared_in_segments segments
  declared_in (ParsedForEach p is_tiled dims body) = map (λ d. d.at) dims ++ declared_in body
  declared_in (ParsedForEachActive p at name body) = at ∷ declared_in body
  declared_in (ParsedForEachUnique p at name e body) = at ∷ declared_in body
  declared_in s = []

  -- the same of a list of statements
  pub declared_in_all : ParsedStmts → List Place
  declared_in_all ParsedLast = []
  declared_in_all (ParsedNext s ss) = declared_in s ++ declared_in_all ss

  -- the same of the segments of a switch
  pub declared_in_segments : ParsedSegments → List Place
  declared_in_segments ParsedNoMore = []
  declared_in_segments (ParsedSegment p label ss rest) = declared_in_all ss ++ declared_in_segments rest

-- the places of the names of a function's variables, in the order of the source
abbrev pub variables_of : ParsedFunction → List Place
variables_of f = map (λ p. p.at) f.params ++ declared_in_all f.body

-- S13 at the first variable past the limit, if there is one
abbrev pub past_limit : Option Place → List SourceRefusal
past_limit None = []
past_limit (Some place) = record { number = S13; place = place } ∷ []

-- the limits passed by some definitions, after file-scope arrays of so many words; S13 stands at the name of the first
-- variable past a function's limit, or of the array with which the words are too many
abbrev pub limits_passed : (words : ℕ) → List ParsedItem → List SourceRefusal
limits_passed words [] = []
limits_passed words (ParsedFunctionItem f ∷ items) = past_limit (slice_get (variables_of f) most_variables) ++ limits_passed words items
limits_passed words (ParsedGlobalItem g ∷ items) =
    fault_if (nat_lt most_array_words (words + length_of g.form)) S13 g.at ++ limits_passed (words + length_of g.form) items

-- the first of some faults, if there are any
abbrev pub first_fault : List SourceRefusal → Option SourceRefusal
first_fault [] = None
first_fault (fault ∷ others) = Some fault

-- the refusal of a source that passes a limit
abbrev pub limit_refusal : ParsedSource → Option SourceRefusal
limit_refusal source = first_fault (limits_passed 0 source)
