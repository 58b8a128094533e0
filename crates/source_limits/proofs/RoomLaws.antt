-- The room of a function's variables, part by part.
use Rattle.std.proofs.Common.{ℕ, zero, suc, ◌-◌, ◌<◌, ◌≤◌, map, List, [], ◌∷◌, ◌++◌, ◌≡◌, refl, sym, ◌∙◌, ap, arith, length}
use Rattle.std.specs.Prelude.{Result, Ok, Err, slice_get, slice_index_or}
use Rattle.gang_types.specs.declared.places.Place.{Place}
use Rattle.source_limits.specs.Room.{room_or, room_after}

one_less : (room : ℕ) (p : Place) (places : List Place) → room_after (suc room) (p ∷ places) ≡ room_after room places
one_less room p places = ap (room_or (slice_get places room)) (omega arith)

-- the room that is left, and what follows in it
abbrev pub then_room : Result ℕ Place → List Place → Result ℕ Place
then_room (Ok room) places = room_after room places
then_room (Err p) places = Err p

pub room_append : (room : ℕ) (xs ys : List Place) → room_after room (xs ++ ys) ≡ then_room (room_after room xs) ys
room_append room [] ys = ap (λ n. room_after n ys) (omega arith)
room_append zero (x ∷ xs) ys = refl
room_append (suc room) (x ∷ xs) ys = one_less room x (xs ++ ys) ∙ (room_append room xs ys ∙ ap (λ r. then_room r ys) (sym (one_less room x xs)))

-- one part, and what follows it
pub room_two : (room left : ℕ) (xs ys : List Place) (r : Result ℕ Place) → Ok left ≡ room_after room xs → r ≡ room_after left ys → r ≡ room_after room (xs ++ ys)
room_two room left xs ys r first second = second ∙ (ap (λ x. then_room x ys) first ∙ sym (room_append room xs ys))

-- a part without room, whatever follows it
pub room_stop : (room : ℕ) (xs ys : List Place) (p : Place) → Err p ≡ room_after room xs → Err p ≡ room_after room (xs ++ ys)
room_stop room xs ys p first = ap (λ x. then_room x ys) first ∙ sym (room_append room xs ys)

-- where a variable has no room
pub room_past : {A : Type 0} (at : A → Place) (xs : List A) (room : ℕ) (d : A) → room < length xs → Err (at (slice_index_or xs room d)) ≡ room_after room (map at xs)
room_past at [] room d within = absurd (omega (arith, within))
room_past at (x ∷ xs) zero d within = refl
room_past at (x ∷ xs) (suc room) d within = room_past at xs room d (omega (arith, within)) ∙ sym (one_less room (at x) (map at xs))

-- where all have room
pub room_all : {A : Type 0} (at : A → Place) (xs : List A) (room : ℕ) → length xs ≤ room → Ok (room - length xs) ≡ room_after room (map at xs)
room_all at [] room within = refl
room_all at (y ∷ xs) zero within = absurd (omega (arith, within))
room_all at (y ∷ xs) (suc room) within = ap Ok (omega arith) ∙ (room_all at xs room (omega (arith, within)) ∙ sym (one_less room (at y) (map at xs)))

-- places that are read in two steps
pub places-map : {A B : Type 0} (at : B → Place) (f : A → B) (xs : List A) → map at (map f xs) ≡ map (λ x. at (f x)) xs
places-map at f [] = refl
places-map at f (x ∷ xs) = ap (λ ys. at (f x) ∷ ys) (places-map at f xs)
