-- Texts of JSON, computed.
use Rattle.std.specs.Prelude.{◌≡◌, ◌∷◌, [], true, false, codes, neg_ℤ, pos, refl}
use Rattle.std.specs.Fmt.{digits}
use Rattle.json_texts.specs.Json.{byte_text, list_text, replaced, whole_text}

no_item : list_text [] ≡ codes "[]"
no_item = refl

one_item : list_text (codes "1" ∷ []) ≡ codes "[1]"
one_item = refl

three_items : list_text (codes "1" ∷ codes "x" ∷ codes "3" ∷ []) ≡ codes "[1,x,3]"
three_items = refl

-- bytes of a string
letter : byte_text true 97 ≡ codes "a"
letter = refl

less_sign : byte_text true 60 ≡ codes "\\u003c"
less_sign = refl

quote : byte_text true 34 ≡ codes "\\\""
quote = refl

line_end : byte_text true 10 ≡ codes "\\n"
line_end = refl

other_control : byte_text true 13 ≡ replaced
other_control = refl

of_a_text : byte_text true 195 ≡ 195 ∷ []
of_a_text = refl

of_no_text : byte_text false 195 ≡ replaced
of_no_text = refl

-- whole numbers: the greatest that JavaScript tells from the next one, and that one
small : whole_text (neg_ℤ (pos 12)) ≡ codes "-12"
unfolding digits
small = refl

exact : whole_text (pos 9007199254740991) ≡ codes "9007199254740991"
unfolding digits
exact = refl

too_large : whole_text (pos 9007199254740992) ≡ codes "\"9007199254740992\""
unfolding digits
too_large = refl

too_small : whole_text (neg_ℤ (pos 9007199254740992)) ≡ codes "\"-9007199254740992\""
unfolding digits
too_small = refl
