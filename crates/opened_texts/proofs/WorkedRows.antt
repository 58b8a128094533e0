-- Rows that the check computes from the definitions.
use Rattle.std.proofs.Common.{◌≡◌, refl, ℕ, List, [], ◌∷◌, ◌++◌, codes, map, Some, None}
use Rattle.std.specs.List.{range_with_len, slice_get}
use Rattle.opened_texts.specs.Texts.{noted, place_noted}

-- `v` of the frames at depths 1 and 2
two : List (ℕ × List ℕ)
two = (1, codes "v") ∷ (2, codes "v") ∷ []

-- it is there already
the_same_text : place_noted 2 (codes "v") two ≡ Some 1
unfolding two
the_same_text = refl

nothing_more : noted 2 (codes "v") two ≡ two
unfolding two
nothing_more = refl

-- it is put behind
another_frame : place_noted 3 (codes "v") two ≡ Some 2
unfolding two
another_frame = refl

another_text : noted 2 (codes "w") two ≡ two ++ (2, codes "w") ∷ []
unfolding two
another_text = refl

-- a full table, of the texts of one byte each
full : List (ℕ × List ℕ)
full = map (λ n. (1, n ∷ [])) (range_with_len 0 64)

the_last_place : place_noted 1 (63 ∷ []) full ≡ Some 63
unfolding full
the_last_place = refl

a_sixty_fifth : place_noted 1 (64 ∷ []) full ≡ None
unfolding full
a_sixty_fifth = refl

-- a text of 256 bytes, and one of 257
the_longest : place_noted 1 (map (λ n. 65) (range_with_len 0 256)) [] ≡ Some 0
the_longest = refl

too_long : noted 1 (map (λ n. 65) (range_with_len 0 257)) two ≡ two
unfolding two
too_long = refl

-- what stands at a place
there : slice_get two 1 ≡ Some (2, codes "v")
unfolding two
there = refl

nothing_there : slice_get two 2 ≡ None
unfolding two
nothing_there = refl
