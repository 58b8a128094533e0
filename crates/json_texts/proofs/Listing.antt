-- Texts of lists, item by item.
use Rattle.std.proofs.Common.{◌≡◌, ℕ, ◌+◌, ◌<◌, ◌≤◌, Bool, List, [], ◌∷◌, ◌++◌, length, map, take, get_or, Option, Result, Ok, Err, IfOk, refl, ap, sym, subst, ◌∙◌, append-nil, append_assoc, arith}
use Rattle.std.proofs.lemmas.List.{flat_map_more, length-map, length-take-le, map_more, take_all, take_more}
use Rattle.std.proofs.KnownBytes.{Appends-trans}
use Rattle.std.specs.Prelude.{codes, flat_map}
use Rattle.std.specs.Io.KnownBytes.{Appends}
use Rattle.gang_model.specs.Texts.Text.{Bytes}
use Rattle.debug_traits.specs.Devices.{Writes}
use Rattle.json_texts.specs.Json.{comma_before, list_text, rest_text}

-- a text behind another one, where it was written
pub ok_appends : {X E : Type 0} (a b c : Option Bytes) (written : Result X E) (front rest : Bytes) → Appends a b front → IfOk written (λ _. Appends b c rest) → IfOk written (λ _. Appends a c (front ++ rest))
ok_appends a b c (Ok x) front rest first second = Appends-trans a b c front rest first second
ok_appends a b c (Err e) front rest first second = second

-- what was written by `write_all`
pub written_ok : {X E : Type 0} (text : Bytes) (a b : Option Bytes) (failed : Bool) (written : Result X E) → Writes text a b failed written → IfOk written (λ _. Appends a b text)
written_ok text a b failed (Ok x) is = is.0
written_ok text a b failed (Err e) is = tt

-- a text of a `flat_map`, one more
pub flat_more : {X : Type 0} (f : X → Bytes) (xs : List X) (i : ℕ) (d : X) (a b c : Option Bytes) → i < length xs
    → Appends a b (flat_map f (take i xs)) → Appends b c (f (get_or xs i d)) → Appends a c (flat_map f (take (i + 1) xs))
flat_more f xs i d a b c inside first one =
    subst (Appends a c) (flat_map_more f [] (take i xs) (get_or xs i d) ∙ ap (flat_map f) (sym (take_more xs i d inside))) (Appends-trans a b c _ _ first one)

-- ---- items with commas between them

-- items, before the end of their list
abbrev pub joined : List Bytes → Bytes
joined [] = []
joined (item ∷ items) = item ++ flat_map (λ it. codes "," ++ it) items

rest_is : (items : List Bytes) → rest_text items ≡ flat_map (λ it. codes "," ++ it) items ++ codes "]"
rest_is [] = refl
rest_is (item ∷ items) = ap (λ t. codes "," ++ (item ++ t)) (rest_is items) ∙ ap (λ t. codes "," ++ t) (sym (append_assoc item (flat_map (λ it. codes "," ++ it) items) (codes "]")))

-- a list is its brackets round its items
pub list_is : (items : List Bytes) → list_text items ≡ codes "[" ++ (joined items ++ codes "]")
list_is [] = refl
list_is (item ∷ items) =
    ap (λ t. codes "[" ++ (item ++ t)) (rest_is items) ∙ ap (λ t. codes "[" ++ t) (sym (append_assoc item (flat_map (λ it. codes "," ++ it) items) (codes "]")))

-- an item behind others
joined_more : (items : List Bytes) (item : Bytes) → joined (items ++ item ∷ []) ≡ joined items ++ (comma_before (length items) ++ item)
joined_more [] item = append-nil item
joined_more (first ∷ items) item =
    ap (λ t. first ++ t) (sym (flat_map_more (λ it. codes "," ++ it) [] items item)) ∙ sym (append_assoc first (flat_map (λ it. codes "," ++ it) items) (codes "," ++ item))

-- one item more was written
pub item_more : (items : List Bytes) (i : ℕ) (item : Bytes) (a b c e : Option Bytes) → length items ≡ i
    → Appends a b (joined items) → Appends b c (comma_before i) → Appends c e item → Appends a e (joined (items ++ item ∷ []))
item_more items i item a b c e long first before one =
    subst (Appends a e) (ap (λ n. joined items ++ (comma_before n ++ item)) (sym long) ∙ sym (joined_more items item)) (Appends-trans a b e _ _ first (Appends-trans b c e _ _ before one))

-- a list was written: its begin, its items and its end
pub list_closed : {Y E : Type 0} (items : List Bytes) (a b c e : Option Bytes) (written : Result Y E)
    → Appends a b (codes "[") → Appends b c (joined items) → IfOk written (λ _. Appends c e (codes "]")) → IfOk written (λ _. Appends a e (list_text items))
list_closed items a b c e (Ok y) opened all closed = subst (Appends a e) (sym (list_is items)) (Appends-trans a b e _ _ opened (Appends-trans b c e _ _ all closed))
list_closed items a b c e (Err fault) opened all closed = closed

module _ {X : Type 0} (f : X → Bytes) (xs : List X) where
  -- one of the items of a list
  pub list_more : (i : ℕ) (d : X) (a b c e : Option Bytes) → i < length xs
      → Appends a b (joined (map f (take i xs))) → Appends b c (comma_before i) → Appends c e (f (get_or xs i d)) → Appends a e (joined (map f (take (i + 1) xs)))
  list_more i d a b c e inside first before one =
      let long : length (map f (take i xs)) ≡ i = length-map (take i xs) f ∙ length-take-le i xs (omega (arith, inside)) in
      subst (λ items. Appends a e (joined items)) (sym (map_more f xs i d inside)) (item_more (map f (take i xs)) i (f (get_or xs i d)) a b c e long first before one)

  -- a list was written
  pub list_whole : {Y E : Type 0} (i : ℕ) (a b c e : Option Bytes) (written : Result Y E) → length xs ≤ i
      → Appends a b (codes "[") → Appends b c (joined (map f (take i xs))) → IfOk written (λ _. Appends c e (codes "]")) → IfOk written (λ _. Appends a e (list_text (map f xs)))
  list_whole i a b c e written past opened all closed =
      let items : joined (map f (take i xs)) ≡ joined (map f xs) = ap (λ ys. joined (map f ys)) (take_all i xs past) in
      list_closed (map f xs) a b c e written opened (subst (Appends b c) items all) closed

-- the same text
pub ok_text : {X E : Type 0} (a b : Option Bytes) (text other : Bytes) (written : Result X E) → text ≡ other → IfOk written (λ _. Appends a b text) → IfOk written (λ _. Appends a b other)
ok_text a b text other written same is = subst (λ t. IfOk written (λ _. Appends a b t)) same is
