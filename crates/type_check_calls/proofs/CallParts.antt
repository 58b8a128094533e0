-- Calls of the library by their arguments.
use Rattle.std.proofs.Common.{◌≡◌, refl, sym, ap, List, [], ◌∷◌, Option, Some, None, map}
use Rattle.gang_types.specs.declared.places.Place.{Place}
use Rattle.gang_model.specs.declared.refusals.RefusalNumber.TheVariants.{S9}
use Rattle.gang_model.specs.Types.Tree.{ResultFor, StepNumber}
use Rattle.gang_model.specs.Source.Judged.{refused}
use Rattle.gang_model.specs.Types.LibraryTable.{Asserts, PackedStores, PackedLoads}
use Rattle.gang_model.specs.Types.Typing.{Passing, Scalar, View, Reference}
use Rattle.gang_model.specs.Types.Calls.{library_statement}
use Rattle.type_check_calls.specs.Arguments.{only, pair}

pub only_one : {A : Type 0} (xs : List A) (a : A) → Some a ≡ only xs → xs ≡ a ∷ []
only_one [] a e = cc
only_one (x ∷ []) a e = cc
only_one (x ∷ y ∷ more) a e = cc

abbrev listed : {A : Type 0} → Option (A × A) → List A
listed None = []
listed (Some both) = both.0 ∷ both.1 ∷ []

pub only_two : {A : Type 0} (xs : List A) (a b : A) → Some (a, b) ≡ pair xs → xs ≡ a ∷ b ∷ []
only_two [] a b e = cc
only_two (x ∷ []) a b e = cc
only_two (x ∷ y ∷ []) a b e = sym (ap listed e)
only_two (x ∷ y ∷ z ∷ more) a b e = cc

module _ (p : Place) (result_for : ResultFor) (step : StepNumber) where
  not_asserted : (xs : List Passing) → None ≡ only xs → library_statement p Asserts xs result_for step ≡ refused S9 p
  not_asserted [] e = refl
  not_asserted (a ∷ []) e = cc
  not_asserted (Scalar q x ∷ b ∷ more) e = refl
  not_asserted (View q n from ∷ b ∷ more) e = refl
  not_asserted (Reference q n ∷ b ∷ more) e = refl

  not_stored : (xs : List Passing) → None ≡ pair xs → library_statement p PackedStores xs result_for step ≡ refused S9 p
  not_stored [] e = refl
  not_stored (Scalar q x ∷ []) e = refl
  not_stored (View q n from ∷ []) e = refl
  not_stored (Reference q n ∷ []) e = refl
  not_stored (a ∷ b ∷ []) e = cc
  not_stored (Scalar q x ∷ b ∷ d ∷ more) e = refl
  not_stored (Reference q n ∷ b ∷ d ∷ more) e = refl
  not_stored (View q n from ∷ Scalar r x ∷ d ∷ more) e = refl
  not_stored (View q n from ∷ View r m at ∷ d ∷ more) e = refl
  not_stored (View q n from ∷ Reference r m ∷ d ∷ more) e = refl

  not_loaded : (xs : List Passing) → None ≡ pair xs → library_statement p PackedLoads xs result_for step ≡ refused S9 p
  not_loaded [] e = refl
  not_loaded (Scalar q x ∷ []) e = refl
  not_loaded (View q n from ∷ []) e = refl
  not_loaded (Reference q n ∷ []) e = refl
  not_loaded (a ∷ b ∷ []) e = cc
  not_loaded (Scalar q x ∷ b ∷ d ∷ more) e = refl
  not_loaded (Reference q n ∷ b ∷ d ∷ more) e = refl
  not_loaded (View q n from ∷ Scalar r x ∷ d ∷ more) e = refl
  not_loaded (View q n from ∷ View r m at ∷ d ∷ more) e = refl
  not_loaded (View q n from ∷ Reference r m ∷ d ∷ more) e = refl

pub only_none : {A B : Type 0} (f : A → B) (xs : List A) → None ≡ only xs → None ≡ only (map f xs)
only_none f [] e = refl
only_none f (x ∷ []) e = cc
only_none f (x ∷ y ∷ more) e = refl

pub pair_none : {A B : Type 0} (f : A → B) (xs : List A) → None ≡ pair xs → None ≡ pair (map f xs)
pair_none f [] e = refl
pair_none f (x ∷ []) e = refl
pair_none f (x ∷ y ∷ []) e = cc
pair_none f (x ∷ y ∷ z ∷ more) e = refl

pub assert_refused : {A : Type 0} (f : A → Passing) (p : Place) (result_for : ResultFor) (step : StepNumber) (xs : List A) → None ≡ only xs
    → library_statement p Asserts (map f xs) result_for step ≡ refused S9 p
assert_refused f p result_for step xs e = not_asserted p result_for step (map f xs) (only_none f xs e)

pub store_refused : {A : Type 0} (f : A → Passing) (p : Place) (result_for : ResultFor) (step : StepNumber) (xs : List A) → None ≡ pair xs
    → library_statement p PackedStores (map f xs) result_for step ≡ refused S9 p
store_refused f p result_for step xs e = not_stored p result_for step (map f xs) (pair_none f xs e)

pub load_refused : {A : Type 0} (f : A → Passing) (p : Place) (result_for : ResultFor) (step : StepNumber) (xs : List A) → None ≡ pair xs
    → library_statement p PackedLoads (map f xs) result_for step ≡ refused S9 p
load_refused f p result_for step xs e = not_loaded p result_for step (map f xs) (pair_none f xs e)
