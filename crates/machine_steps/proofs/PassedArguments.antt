-- The words of a call's arguments, one after the other.
use Rattle.std.proofs.Common.{◌≡◌, refl, ap, ◌∙◌, subst, sym, ℕ, zero, suc, ◌+◌, ◌≤◌, List, [], ◌∷◌, ◌++◌, length, take, Some}
use Rattle.std.specs.Prelude.{Ok, Err, slice_get}
use Rattle.std.proofs.lemmas.List.{take_all, take_more}
use Rattle.std.proofs.lemmas.Option.{get_or_from_slice_get, none-some, same_Some, slice_get_within}
use Rattle.gang_types.specs.Lanes.{Lanes}
use Rattle.gang_model.specs.Types.Tree.{Arg, Value, Array}
use Rattle.gang_model.specs.Running.Lanes.{Fault, ◌>>=◌}
use Rattle.gang_model.specs.Running.State.{State, View, declared_words}
use Rattle.gang_model.specs.Running.Step.{Passed, passed}
use Rattle.codegen.specs.Codes.{Fit}
use Rattle.codegen.proofs.Rows.{fit_more}
use Rattle.machine_states.specs.ArrayParts.{view_of_words}
use Rattle.machine_states.specs.Regions.{Regions}
use Rattle.machine_steps.specs.Calls.{AreArgumentWords, IsArgumentFault}

-- what a frame begins with, with one argument more: a parameter has its value in these lanes, or stands for a part of an array
abbrev pub with_argument : Lanes → Arg → (words : List ℕ) → Passed → Passed
with_argument lanes (Value x e) words more = record more { vars = (x.id, declared_words x.rate lanes words) ∷ more.vars }
with_argument lanes (Array parameter array from) words more = record more { views = (parameter, view_of_words words) ∷ more.views }

-- with all of them
abbrev pub passed_with : Lanes → List Arg → (given : List (List ℕ)) → Passed
passed_with lanes [] given = record { views = []; vars = [] }
passed_with lanes (y ∷ meant) [] = record { views = []; vars = [] }
passed_with lanes (y ∷ meant) (words ∷ given) = with_argument lanes y words (passed_with lanes meant given)

module _ (width : ℕ) (regions : Regions) (lanes : Lanes) (state : State) where
  -- what is passed once there are the words of the first argument
  goes_on : (y : Arg) (args : List Arg) (words : List ℕ) → AreArgumentWords width regions lanes state y words
      → passed (y ∷ args) lanes state ≡ (passed args lanes state >>= λ (more : Passed). Ok (with_argument lanes y words more))
  goes_on (Value x e) args words h = ap (λ r. r >>= λ u. passed args lanes state >>= λ (more : Passed). Ok (record more { vars = (x.id, declared_words x.rate lanes u) ∷ more.vars })) h
  goes_on (Array parameter array from) args words h =
      ap (λ r. r >>= λ (view : View). passed args lanes state >>= λ (more : Passed). Ok (record more { views = (parameter, view) ∷ more.views })) h.0

  fails_first : (y : Arg) (args : List Arg) (fault : Fault) → IsArgumentFault lanes state y fault → passed (y ∷ args) lanes state ≡ Err fault
  fails_first (Value x e) args fault h = ap (λ r. r >>= λ u. passed args lanes state >>= λ (more : Passed). Ok (record more { vars = (x.id, declared_words x.rate lanes u) ∷ more.vars })) h
  fails_first (Array parameter array from) args fault h =
      ap (λ r. r >>= λ (view : View). passed args lanes state >>= λ (more : Passed). Ok (record more { views = (parameter, view) ∷ more.views })) h

  -- ---- all arguments

  abbrev AreWords : List Arg → List (List ℕ) → Type 0
  AreWords meant given = Fit (AreArgumentWords width regions lanes state) meant given

  pub one_passed : (meant : List Arg) (given new : List (List ℕ)) (count : ℕ) (y : Arg) (words : List ℕ) → slice_get meant count ≡ Some y → AreArgumentWords width regions lanes state y words
      → new ≡ given ++ words ∷ [] → AreWords (take count meant) given → AreWords (take (count + 1) meant) new
  one_passed meant given new count y words there is pushed so_far =
      let more : take (count + 1) meant ≡ take count meant ++ y ∷ [] =
      take_more meant count y (slice_get_within meant count y there) ∙ ap (λ z. take count meant ++ z ∷ []) (get_or_from_slice_get meant count y y there) in
      subst (λ args. AreWords args new) (sym more)
      (subst (AreWords (take count meant ++ y ∷ [])) (sym pushed) (fit_more (AreArgumentWords width regions lanes state) (take count meant) given y words so_far is))

  -- a fault behind arguments with words is the first one
  pub fault_passed : (meant : List Arg) (given : List (List ℕ)) (count : ℕ) (y : Arg) (fault : Fault) → AreWords (take count meant) given → slice_get meant count ≡ Some y
      → IsArgumentFault lanes state y fault → passed meant lanes state ≡ Err fault
  fault_passed [] given count y fault so_far there is = absurd (none-some y there)
  fault_passed (z ∷ meant) given zero y fault so_far there is =
      fails_first z meant fault (subst (λ a. IsArgumentFault lanes state a fault) (sym (same_Some z y there)) is)
  fault_passed (z ∷ meant) [] (suc count) y fault so_far there is = absurd so_far
  fault_passed (z ∷ meant) (words ∷ given) (suc count) y fault so_far there is =
      goes_on z meant words so_far.0
      ∙ ap (λ r. r >>= λ (more : Passed). Ok (with_argument lanes z words more)) (fault_passed meant given count y fault so_far.1 there is)

  -- each parameter has its value, or stands for its part of an array
  pub all_passed : (meant : List Arg) (given : List (List ℕ)) → AreWords meant given → passed meant lanes state ≡ Ok (passed_with lanes meant given)
  all_passed [] given are = refl
  all_passed (y ∷ meant) [] are = absurd are
  all_passed (y ∷ meant) (words ∷ given) are =
      goes_on y meant words are.0
      ∙ ap (λ r. r >>= λ (more : Passed). Ok (with_argument lanes y words more)) (all_passed meant given are.1)

  pub whole : (meant : List Arg) (given : List (List ℕ)) (count : ℕ) → length meant ≤ count → AreWords (take count meant) given → AreWords meant given
  whole meant given count over are = subst (λ args. AreWords args given) (take_all count meant over) are
