-- The arguments of a call, one by one.
use Rattle.std.proofs.Common.{◌≡◌, ℕ, List, [], ◌∷◌, length, refl, sym, ap, ◌∙◌, map, arith, slice_index_or}
use Rattle.std.specs.Prelude.{Some, Result, Ok, Err, IfOk, remove}
use Rattle.std.specs.declared.alloc.AllocError.{AllocError}
use Rattle.gang_model.specs.Types.LibraryTable as table
use Rattle.gang_model.specs.Types.Typing as typing
use Rattle.type_check_values.specs.declared.typed.Typed.{Typed}
use Rattle.type_check_values.specs.Views.{typed_view}
use Rattle.type_check_library.specs.declared.arguments.Argument.{Argument}
use Rattle.type_check_library.specs.Arguments.{argument_view}
use Rattle.type_check_library.specs.declared.calls.LibraryCall.{LibraryCall}
use Rattle.type_check_library.specs.declared.calls.LibraryCall.TheVariants as call
use Rattle.type_check_library.specs.declared.calls.CallOfOne.{CallOfOne}
use Rattle.type_check_library.specs.declared.calls.CallOfOne.TheVariants as one
use Rattle.type_check_library.specs.declared.calls.CallOfTwo.{CallOfTwo}
use Rattle.type_check_library.specs.declared.calls.CallOfTwo.TheVariants as two
use Rattle.type_check_library.specs.declared.calls.CallOfThree.{CallOfThree}
use Rattle.type_check_library.specs.declared.calls.CallOfThree.TheVariants as three
use Rattle.type_check_library.specs.Calls.{call_view, call_of_one_view, call_of_two_view, call_of_three_view}

-- how many arguments a call takes
abbrev pub taken_by : table.LibraryCall → ℕ
taken_by f = length (table.asked_by f)

taken_by-one : (f : CallOfOne) → taken_by (call_of_one_view f) ≡ 1
taken_by-one (one.ReduceTruths f) = refl
taken_by-one (one.ReduceNumbers f) = refl
taken_by-one one.CompareLanes = refl
taken_by-one (one.ScanLanes f) = refl
taken_by-one one.CountOnes = refl
taken_by-one one.TakeMagnitude = refl

taken_by-two : (f : CallOfTwo) → taken_by (call_of_two_view f) ≡ 2
taken_by-two (two.Compare f) = refl
taken_by-two two.Broadcast = refl
taken_by-two two.Extract = refl
taken_by-two two.Rotate = refl
taken_by-two two.Shift = refl
taken_by-two two.Shuffle = refl

taken_by-three : (f : CallOfThree) → taken_by (call_of_three_view f) ≡ 3
taken_by-three three.Insert = refl
taken_by-three three.ShuffleTwo = refl
taken_by-three three.Clamp = refl
taken_by-three three.Select = refl

pub takes_none : (f : LibraryCall) → f ≡ call.LaneMask → taken_by (call_view f) ≡ 0
takes_none f e = ap (λ g. taken_by (call_view g)) e

pub takes_one : (f : LibraryCall) (g : CallOfOne) → f ≡ call.OfOne g → taken_by (call_view f) ≡ 1
takes_one f g e = ap (λ h. taken_by (call_view h)) e ∙ taken_by-one g

pub takes_two : (f : LibraryCall) (g : CallOfTwo) → f ≡ call.OfTwo g → taken_by (call_view f) ≡ 2
takes_two f g e = ap (λ h. taken_by (call_view h)) e ∙ taken_by-two g

pub takes_three : (f : LibraryCall) (g : CallOfThree) → f ≡ call.OfThree g → taken_by (call_view f) ≡ 3
takes_three f g e = ap (λ h. taken_by (call_view h)) e ∙ taken_by-three g

pub none_left : (xs : List Argument) → length xs ≡ 0 → xs ≡ []
none_left [] n = refl
none_left (x ∷ xs) n = absurd (omega arith)

pub one_removed : (xs : List Argument) (a : Argument) → length xs ≡ 1 → a ≡ slice_index_or xs 0 a → xs ≡ a ∷ []
one_removed [] a n h = absurd (omega arith)
one_removed (x ∷ []) a n h = ap (λ z. z ∷ []) (sym h)
one_removed (x ∷ y ∷ xs) a n h = absurd (omega arith)

pub two_removed : (xs ys : List Argument) (a b : Argument) → length xs ≡ 2 → b ≡ slice_index_or xs 1 b → ys ≡ remove xs 1 → a ≡ slice_index_or ys 0 a
    → xs ≡ a ∷ b ∷ []
two_removed [] ys a b n h r k = absurd (omega arith)
two_removed (x ∷ []) ys a b n h r k = absurd (omega arith)
two_removed (x ∷ y ∷ []) ys a b n h r k =
    let first : a ≡ x = k ∙ ap (λ zs. slice_index_or zs 0 a) r in
    ap (λ z. z ∷ y ∷ []) (sym first) ∙ ap (λ z. a ∷ z ∷ []) (sym h)
two_removed (x ∷ y ∷ z ∷ xs) ys a b n h r k = absurd (omega arith)

pub three_removed : (xs ys zs : List Argument) (a b d : Argument) → length xs ≡ 3 → d ≡ slice_index_or xs 2 d → ys ≡ remove xs 2
    → b ≡ slice_index_or ys 1 b → zs ≡ remove ys 1 → a ≡ slice_index_or zs 0 a → xs ≡ a ∷ b ∷ d ∷ []
three_removed [] ys zs a b d n h r k s m = absurd (omega arith)
three_removed (x ∷ []) ys zs a b d n h r k s m = absurd (omega arith)
three_removed (x ∷ y ∷ []) ys zs a b d n h r k s m = absurd (omega arith)
three_removed (x ∷ y ∷ z ∷ []) ys zs a b d n h r k s m =
    let left : zs ≡ x ∷ [] = s ∙ ap (λ l. remove l 1) r in
    let first : a ≡ x = m ∙ ap (λ l. slice_index_or l 0 a) left in
    let second : b ≡ y = k ∙ ap (λ l. slice_index_or l 1 b) r in
    ap (λ l. l ∷ y ∷ z ∷ []) (sym first) ∙ (ap (λ l. a ∷ l ∷ z ∷ []) (sym second) ∙ ap (λ l. a ∷ b ∷ l ∷ []) (sym h))
three_removed (x ∷ y ∷ z ∷ w ∷ xs) ys zs a b d n h r k s m = absurd (omega arith)

-- the expression of a call with these arguments
abbrev pub value_by : table.LibraryCall → List Argument → Typed → Type 0
value_by f xs e = Some (typed_view e) ≡ table.library_value f (typing.second_parts (map argument_view xs))

pub same_value : (f g : table.LibraryCall) (xs ys : List Argument) (e : Typed) → g ≡ f → ys ≡ xs → value_by f xs e → value_by g ys e
same_value f g xs ys e p q h =
    h ∙ sym (ap (λ k. table.library_value k (typing.second_parts (map argument_view ys))) p ∙ ap (λ l. table.library_value f (typing.second_parts (map argument_view l))) q)

pub of_call : (r : Result Typed AllocError) (f g : table.LibraryCall) (xs ys : List Argument) → g ≡ f → ys ≡ xs → IfOk r (value_by f xs) → IfOk r (value_by g ys)
of_call (Ok e) f g xs ys p q h = same_value f g xs ys e p q h
of_call (Err error) f g xs ys p q h = tt
