-- Touches that are worked out.
use Rattle.std.specs.Prelude.{◌≡◌, refl, true, false, [], ◌∷◌}
use Rattle.element_touches.specs.Counted.{counts_of}
use Rattle.element_touches.specs.Touches.{different, is_consecutive, is_equal, touched}

-- lanes 1 and 3 of four
two_lanes : touched (false ∷ true ∷ false ∷ true ∷ []) (9 ∷ 7 ∷ 5 ∷ 8 ∷ []) ≡ 7 ∷ 8 ∷ []
two_lanes = refl

no_lanes : touched (false ∷ false ∷ []) (1 ∷ 2 ∷ []) ≡ []
no_lanes = refl

-- an element that comes again counts once
three_of_five : different (4 ∷ 2 ∷ 4 ∷ 3 ∷ 2 ∷ []) ≡ 3
three_of_five = refl

a_row : is_consecutive (7 ∷ 8 ∷ 9 ∷ []) ≡ true
a_row = refl

-- a gap, a falling order and one element are no row
a_gap : is_consecutive (7 ∷ 9 ∷ []) ≡ false
a_gap = refl

falling : is_consecutive (8 ∷ 7 ∷ []) ≡ false
falling = refl

the_same : is_consecutive (7 ∷ 7 ∷ []) ≡ false
the_same = refl

-- one lane alone is a row and one element
alone : is_consecutive (7 ∷ []) ≡ true
alone = refl

alone_too : is_equal (7 ∷ []) ≡ true
alone_too = refl

one_element : is_equal (7 ∷ 7 ∷ 7 ∷ []) ≡ true
one_element = refl

two_elements : is_equal (7 ∷ 7 ∷ 8 ∷ []) ≡ false
two_elements = refl

-- a vector load, a broadcast and a gather of three elements by four lanes
three_times : counts_of ((1 ∷ 2 ∷ 3 ∷ 4 ∷ []) ∷ (5 ∷ 5 ∷ []) ∷ (9 ∷ 1 ∷ 9 ∷ 2 ∷ []) ∷ [])
    ≡ record { times = 3; lanes = 10; elements = 8; consecutive = 1; equal = 1; scattered = 3 }
three_times = refl
