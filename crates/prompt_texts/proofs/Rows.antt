-- Rows of items, one more behind others.
use Rattle.std.proofs.Common.{◌≡◌, ◌∙◌, ℕ, suc, ◌+◌, ◌<◌, List, [], ◌∷◌, ◌++◌, get_or, length, take, ap, append-nil, append_assoc, sym, arith}
use Rattle.std.proofs.lemmas.List.{length-take-le, take_more}
use Rattle.gang_types.specs.declared.types.IntType.{IntType}
use Rattle.value_digits.specs.declared.digits.Digits.{Digits}
use Rattle.gang_types.specs.Lanes.{Lanes}
use Rattle.prompt_texts.specs.declared.items.Item.{Item}
use Rattle.prompt_texts.specs.Items.{head_text, item_text, lane_item, lane_items, rows_text}

rows_append : (given : Digits) (type : IntType) (size place : ℕ) (items : List Item) (item : Item)
    → rows_text given type size place (items ++ item ∷ [])
    ≡ rows_text given type size place items ++ (head_text size (place + length items) item.index ++ item_text given type item)
rows_append given type size place [] item =
    let same : place + 0 ≡ place = omega arith in
    append-nil _ ∙ ap (λ p. head_text size p item.index ++ item_text given type item) (sym same)
rows_append given type size place (first ∷ items) item =
    let same : suc place + length items ≡ place + suc (length items) = omega arith in
    ap (λ l. (head_text size place first.index ++ item_text given type first) ++ l)
    (rows_append given type size (suc place) items item ∙ ap (λ p. rows_text given type size (suc place) items ++ (head_text size p item.index ++ item_text given type item)) same)
    ∙ sym (append_assoc (head_text size place first.index ++ item_text given type first) (rows_text given type size (suc place) items) _)

-- the rows up to and with an item
pub rows_more : (given : Digits) (type : IntType) (size : ℕ) (items : List Item) (i : ℕ) (d : Item) → i < length items
    → rows_text given type size 0 (take (i + 1) items)
    ≡ rows_text given type size 0 (take i items) ++ (head_text size i (get_or items i d).index ++ item_text given type (get_or items i d))
rows_more given type size items i d inside =
    let all : 0 + length (take i items) ≡ i = omega (arith, length-take-le i items (omega (arith, inside)), inside) in
    ap (rows_text given type size 0) (take_more items i d inside) ∙ rows_append given type size 0 (take i items) (get_or items i d)
    ∙ ap (λ p. rows_text given type size 0 (take i items) ++ (head_text size p (get_or items i d).index ++ item_text given type (get_or items i d))) all

-- ---- lanes

lanes_append : (lanes : Lanes) (from : ℕ) (words : List ℕ) (word : ℕ)
    → lane_items lanes from (words ++ word ∷ []) ≡ lane_items lanes from words ++ lane_item lanes (from + length words) word ∷ []
lanes_append lanes from [] word = let same : from ≡ from + 0 = omega arith in ap (λ k. lane_item lanes k word ∷ []) same
lanes_append lanes from (first ∷ words) word =
    let same : suc from + length words ≡ from + suc (length words) = omega arith in
    ap (λ l. lane_item lanes from first ∷ l)
    (lanes_append lanes (suc from) words word ∙ ap (λ k. lane_items lanes (suc from) words ++ lane_item lanes k word ∷ []) same)

-- the items of the lanes up to and with one
pub lanes_more : (lanes : Lanes) (from : ℕ) (words : List ℕ) (i : ℕ) → i < length words
    → lane_items lanes from (take (i + 1) words) ≡ lane_items lanes from (take i words) ++ lane_item lanes (from + i) (get_or words i 0) ∷ []
lanes_more lanes from words i inside =
    let all : length (take i words) ≡ i = length-take-le i words (omega (arith, inside)) in
    ap (lane_items lanes from) (take_more words i 0 inside) ∙ lanes_append lanes from (take i words) (get_or words i 0)
    ∙ ap (λ k. lane_items lanes from (take i words) ++ lane_item lanes (from + k) (get_or words i 0) ∷ []) all
