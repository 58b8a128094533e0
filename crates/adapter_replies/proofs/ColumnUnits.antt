-- The first characters of a text that have at most so many units, one byte after another.
use Rattle.std.proofs.Common.{◌≡◌, ℕ, ◌+◌, ◌-◌, ◌<◌, ◌≤◌, Bool, true, false, nat_lt, [], ◌∷◌, ◌++◌, drop, get_or, length, take, ap, sym, ◌∙◌, append_assoc, append-nil, arith, if◌then◌else◌}
use Rattle.std.proofs.lemmas.Bool.Decides.{nat_tests}
use Rattle.std.proofs.lemmas.List.{drop_all, drop_more, take_all, take_more}
use Rattle.gang_model.specs.Texts.Text.{Bytes}
use Rattle.adapter_replies.specs.Columns.{first_units, units_of}

is_lt : (a b : ℕ) → a < b → nat_lt a b ≡ true
is_lt a b less = grind (arith, nat_tests)

not_lt : (a b : ℕ) → b ≤ a → nat_lt a b ≡ false
not_lt a b past = grind (arith, nat_tests)

-- one byte more, where its units fit or do not
by_test : (left byte : ℕ) (text : Bytes) (b : Bool) → nat_lt left (units_of byte) ≡ b → first_units left (byte ∷ text) ≡ (if b then [] else byte ∷ first_units (left - units_of byte) text)
by_test left byte text b is = ap (λ t. if t then [] else byte ∷ first_units (left - units_of byte) text) is

at : (units left i : ℕ) (text : Bytes) → i < length text → first_units units text ≡ take i text ++ first_units left (drop i text)
    → first_units units text ≡ take i text ++ first_units left (get_or text i 0 ∷ drop (i + 1) text)
at units left i text within so = so ∙ ap (λ rest. take i text ++ first_units left rest) (drop_more text i 0 within)

pub next_fits : (units left many i : ℕ) (text : Bytes) → i < length text → first_units units text ≡ take i text ++ first_units left (drop i text) → many ≡ units_of (get_or text i 0)
    → many ≤ left → first_units units text ≡ take (i + 1) text ++ first_units (left - many) (drop (i + 1) text)
next_fits units left many i text within so is fits =
    let byte = get_or text i 0 in
    let test : nat_lt left (units_of byte) ≡ false = ap (nat_lt left) (sym is) ∙ not_lt left many fits in
    at units left i text within so
    ∙ ap (λ rest. take i text ++ rest) (by_test left byte (drop (i + 1) text) false test)
    ∙ sym (append_assoc (take i text) (byte ∷ []) (first_units (left - units_of byte) (drop (i + 1) text)))
    ∙ ap (λ front. front ++ first_units (left - units_of byte) (drop (i + 1) text)) (sym (take_more text i 0 within))
    ∙ ap (λ n. take (i + 1) text ++ first_units (left - n) (drop (i + 1) text)) (sym is)

pub none_fits : (units left many i : ℕ) (text : Bytes) → i < length text → first_units units text ≡ take i text ++ first_units left (drop i text) → many ≡ units_of (get_or text i 0)
    → left < many → take i text ≡ first_units units text
none_fits units left many i text within so is fits =
    let byte = get_or text i 0 in
    let test : nat_lt left (units_of byte) ≡ true = ap (nat_lt left) (sym is) ∙ is_lt left many fits in
    sym (at units left i text within so
    ∙ ap (λ rest. take i text ++ rest) (by_test left byte (drop (i + 1) text) true test)
    ∙ append-nil (take i text))

pub all_fit : (units left i : ℕ) (text : Bytes) → length text ≤ i → first_units units text ≡ take i text ++ first_units left (drop i text) → take (length text) text ≡ first_units units text
all_fit units left i text past so =
    take_all (length text) text (omega arith)
    ∙ sym (so ∙ ap (λ rest. take i text ++ first_units left rest) (drop_all i text past) ∙ append-nil (take i text) ∙ take_all i text past)
