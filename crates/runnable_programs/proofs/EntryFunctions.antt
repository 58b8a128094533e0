-- The entry of a source is an exported function of it, and one of its program.
use Rattle.std.proofs.Common.{ℕ, zero, suc, ◌+◌, Bool, true, false, ◌&&◌, List, [], ◌∷◌, ◌≡◌, refl, sym, ◌∙◌, subst, arith}
use Rattle.std.proofs.lemmas.Option.{same_Some, none-some}
use Rattle.std.specs.Prelude.{Option, Some, slice_get, if◌then◌else◌}
use Rattle.gang_model.specs.Types.Tree.{Function}
use Rattle.gang_model.specs.Source.Parsed.{Name, ParsedFunction, ParsedSource, functions_in}
use Rattle.gang_model.specs.Running.Entry.{is_asked, entry_from, entry_of}
use Rattle.gang_model.proofs.JudgedLaws.{and_true}
use Rattle.gang_model.proofs.VariableLaws.{FunctionsRight}

-- an exported function has this number, counted from the first one's
record IsExportedFrom (first : ℕ) (functions : List ParsedFunction) (number : ℕ) : Type 0 where
  pub place : ℕ
  pub is_number : number ≡ first + place
  pub function : ParsedFunction
  pub found : slice_get functions place ≡ Some function
  pub exported : function.spec.is_exported ≡ true

exported_from : (first : ℕ) (asked : Option Name) (functions : List ParsedFunction) (number : ℕ) → entry_from first asked functions ≡ Some number
    → IsExportedFrom first functions number
exported_from first asked [] number e = absurd (none-some number e)
exported_from first asked (f ∷ functions) number e = by (f.spec.is_exported && is_asked asked f) refl (exported_from (suc first) asked functions number) e
  where
    by : (b : Bool) → (f.spec.is_exported && is_asked asked f) ≡ b → (entry_from (suc first) asked functions ≡ Some number → IsExportedFrom (suc first) functions number)
        → (if b then Some first else entry_from (suc first) asked functions) ≡ Some number
        → IsExportedFrom first (f ∷ functions) number
    by true is after e = record {
      place = 0;
      is_number = sym (same_Some first number e) ∙ omega arith;
      function = f;
      found = refl;
      exported = (and_true f.spec.is_exported (is_asked asked f) is).0;
    }
    by false is after e =
        let later = after e in
        record {
          place = suc later.place;
          is_number = later.is_number ∙ omega arith;
          function = later.function;
          found = later.found;
          exported = later.exported;
        }

-- the function with this number is exported
pub record IsExported (functions : List ParsedFunction) (number : ℕ) : Type 0 where
  pub function : ParsedFunction
  pub found : slice_get functions number ≡ Some function
  pub exported : function.spec.is_exported ≡ true

pub entry_exported : (source : ParsedSource) (asked : Option Name) (entry : ℕ) → entry_of source asked ≡ Some entry → IsExported (functions_in source) entry
entry_exported source asked entry e =
    let from = exported_from 0 asked (functions_in source) entry e in
    let number : from.place ≡ entry = omega (arith, from.is_number) in
    record { function = from.function; found = subst (λ n. slice_get (functions_in source) n ≡ Some from.function) number from.found; exported = from.exported }

-- the typed tree has a function for each of the tree as written
pub typed_function : (source : ParsedSource) (functions : List ParsedFunction) (typed : List Function) → FunctionsRight source functions typed
    → (n : ℕ) (f : ParsedFunction) → slice_get functions n ≡ Some f → (g : Function) × (slice_get typed n ≡ Some g)
typed_function source [] typed right n f e = absurd (none-some f e)
typed_function source (h ∷ functions) [] right n f e = absurd right
typed_function source (h ∷ functions) (g ∷ typed) right zero f e = (g, refl)
typed_function source (h ∷ functions) (g ∷ typed) right (suc n) f e = typed_function source functions typed right.1 n f e
