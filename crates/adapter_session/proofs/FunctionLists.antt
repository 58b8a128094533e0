-- Breakpoints of functions that are noted, one after another, and as they are found.
use Rattle.std.proofs.Common.{◌≡◌, refl, ap, sym, ◌∙◌, ℕ, ◌+◌, ◌<◌, ◌≤◌, List, [], ◌∷◌, length, drop, get_or, map, Option, inl, inr}
use Rattle.std.specs.Prelude.{◌==◌, find, option_map}
use Rattle.std.proofs.lemmas.Bool.{cases_Bool}
use Rattle.std.proofs.lemmas.List.{at_drop_more, at_drop_all}
use Rattle.debug_answers.specs.declared.stops.NumberedStop.{NumberedStop}
use Rattle.adapter_session.specs.declared.changes.Asked.{Asked}
use Rattle.adapter_session.specs.declared.functions.FunctionStop.{FunctionStop as GivenFunctionStop}
use Rattle.adapter_session.specs.Changes.{asked_view}
use Rattle.adapter_session.specs.Given.{all_numbers}
use Rattle.adapter_session.specs.Terms.{FunctionStop, all_named, carried_functions, first_named, function_of, name_of}

-- one more gets its name
pub names_more : (asked : List Asked) (i : ℕ) (x : Asked) (before after : List ℕ) (old new total : List FunctionStop) → i < length asked
    → new ≡ first_named before (asked_view (get_or asked i x)).name old → after ≡ drop 1 before
    → all_named (map asked_view (drop i asked)) before old ≡ total → all_named (map asked_view (drop (i + 1) asked)) after new ≡ total
names_more asked i x before after old new total within given behind so =
    let others = map asked_view (drop (i + 1) asked) in
    ap (λ left. all_named others left new) behind
    ∙ ap (λ f. all_named others (drop 1 before) f) given
    ∙ sym (ap (λ list. all_named list before old) (at_drop_more (map asked_view) asked i x within))
    ∙ so

pub names_end : (asked : List Asked) (i : ℕ) (left : List ℕ) (functions total : List FunctionStop) → length asked ≤ i → all_named (map asked_view (drop i asked)) left functions ≡ total → functions ≡ total
names_end asked i left functions total past so = sym (ap (λ list. all_named list left functions) (at_drop_all (map asked_view) asked i past)) ∙ so

-- ---- made anew

-- one more is carried
pub carries_function : (functions : List FunctionStop) (old : List NumberedStop) (i : ℕ) (x : NumberedStop) (before after : List ℕ) (made new total : List FunctionStop) → i < length old
    → new ≡ first_named before (name_of (get_or old i x).number functions) made → after ≡ drop 1 before
    → carried_functions functions (all_numbers (drop i old)) before made ≡ total → carried_functions functions (all_numbers (drop (i + 1) old)) after new ≡ total
carries_function functions old i x before after made new total within noted behind so =
    let others = all_numbers (drop (i + 1) old) in
    ap (λ left. carried_functions functions others left new) behind
    ∙ ap (carried_functions functions others (drop 1 before)) noted
    ∙ sym (ap (λ olds. carried_functions functions olds before made) (at_drop_more all_numbers old i x within))
    ∙ so

pub functions_end : (functions : List FunctionStop) (old : List NumberedStop) (i : ℕ) (left : List ℕ) (made total : List FunctionStop) → length old ≤ i → carried_functions functions (all_numbers (drop i old)) left made ≡ total → made ≡ total
functions_end functions old i left made total past so = sym (ap (λ olds. carried_functions functions olds left made) (at_drop_all all_numbers old i past)) ∙ so

-- ---- as they are found

module _ (number : ℕ) where
  find_function : (functions : List GivenFunctionStop)
      → find (λ (f : FunctionStop). f.number == number) (map function_of functions) ≡ option_map function_of (find (λ (f : GivenFunctionStop). f.number == number) functions)
  find_function [] = refl
  find_function (f ∷ functions) = elim (cases_Bool (f.number == number)) [
    | inl e ↦ rw e refl
    | inr e ↦ rw e (find_function functions)
  ]

  -- the name of what was found
  pub name_found : (functions : List GivenFunctionStop) (found : Option GivenFunctionStop) → found ≡ find (λ (f : GivenFunctionStop). f.number == number) functions
      → option_map (λ (f : FunctionStop). f.name) (option_map function_of found) ≡ name_of number (map function_of functions)
  name_found functions found is =
      ap (λ o. option_map (λ (f : FunctionStop). f.name) (option_map function_of o)) is ∙ ap (λ o. option_map (λ (f : FunctionStop). f.name) o) (sym (find_function functions))

abbrev pub number_in : FunctionStop → ℕ
number_in f = f.number
