-- Marks and reserved words in their tables.
use Rattle.std.proofs.Common.{◌≡◌, ◌⊎◌, inl, inr, ℕ, ◌≤◌, List, [], ◌∷◌, ◌++◌, length, take, drop, Some, Bool, true, false, cond, not, ◌&&◌, ◌||◌, refl, sym, ap, subst, ◌∙◌, arith}
use Rattle.std.specs.Prelude.{nat_eq, nat_le}
use Rattle.std.specs.List.{list_all, list_any, starts_with, find}
use Rattle.std.proofs.lemmas.Bool.{leb-true}
use Rattle.std.proofs.Math.Seq.{take-append_seam}
use lib.Pointwise.{pointwise}
use Rattle.std.specs.Cmp.Lexicographic.{same_text}
use denote.Enum.Bare.{sameb, same_true}
use Rattle.gang_model.specs.declared.marks.Mark.{Mark}
use Rattle.gang_model.specs.declared.marks.Mark.TheVariants as mark
use Rattle.gang_model.specs.contracts.marks.Mark.{the_type}
use Rattle.gang_model.specs.Source.Spelling.{text_of}
use Rattle.gang_model.specs.Source.Lexes.{begins_word, NoComment, IsLongest}
use Rattle.ispc_lexer.specs.declared.marks.TheConstants.{RESERVED, PUNCTUATION}
use Rattle.ispc_lexer.specs.Pieces.{first_of, mark_of, reserved_of}
use Rattle.ispc_lexer.proofs.Runs.{both_true, starts_sound, starts_again}
use Rattle.std.proofs.lemmas.Option.{same_Some}

abbrev In : Mark → List Mark → Type 0
In x ms = list_any (λ y. sameb the_type y x) ms ≡ true

in_cases : (x y : Mark) (ms : List Mark) → In x (y ∷ ms) → (y ≡ x) ⊎ In x ms
in_cases x y ms h = go (sameb the_type y x) refl h
  where
    go : (v : Bool) → sameb the_type y x ≡ v → (v || list_any (λ z. sameb the_type z x) ms) ≡ true → (y ≡ x) ⊎ In x ms
    go true e k = inl (same_true the_type tt y x e)
    go false e k = inr k

-- ---- the first of a table

abbrev starts : List ℕ → Mark → Bool
starts bs m = starts_with nat_eq bs (text_of m)

found : (p : Mark → Bool) (ms : List Mark) (m : Mark) → find p ms ≡ Some m → p m ≡ true
found p [] m e = absurd cc
found p (y ∷ ms) m e = go (p y) refl e (found p ms m)
  where
    go : (v : Bool) → p y ≡ v → cond v (Some y) (find p ms) ≡ Some m → (find p ms ≡ Some m → p m ≡ true) → p m ≡ true
    go true h k rest = ap p (sym (same_Some y m k)) ∙ h
    go false h k rest = rest k

kept : (p q : Mark → Bool) (ms : List Mark) (m : Mark) → list_all q ms ≡ true → find p ms ≡ Some m → q m ≡ true
kept p q [] m all e = absurd cc
kept p q (y ∷ ms) m all e =
    let b = both_true (q y) (list_all q ms) all in go (p y) e b.0 (kept p q ms m b.1)
  where
    go : (v : Bool) → cond v (Some y) (find p ms) ≡ Some m → q y ≡ true → (find p ms ≡ Some m → q m ≡ true) → q m ≡ true
    go true k here rest = ap q (sym (same_Some y m k)) ∙ here
    go false k here rest = rest k

some_found : (p : Mark → Bool) (ms : List Mark) (o : Mark) → In o ms → p o ≡ true → (m : Mark) × (find p ms ≡ Some m)
some_found p [] o h e = absurd cc
some_found p (y ∷ ms) o h e = go (p y) refl (λ k. some_found p ms o k e)
  where
    go : (v : Bool) → p y ≡ v → (In o ms → (m : Mark) × (find p ms ≡ Some m)) → (m : Mark) × (cond v (Some y) (find p ms) ≡ Some m)
    go true k rest = (y, refl)
    go false k rest = elim (in_cases o y ms h) [ inl same ↦ (let yes : p y ≡ true = ap p same ∙ e in absurd cc) | inr later ↦ rest later ]

abbrev size : Mark → ℕ
size m = length (text_of m)

abbrev sorted : List Mark → Bool
sorted [] = true
sorted (m ∷ ms) = list_all (λ y. nat_le (size y) (size m)) ms && sorted ms

all_in : (q : Mark → Bool) (ms : List Mark) (o : Mark) → list_all q ms ≡ true → In o ms → q o ≡ true
all_in q [] o all h = absurd cc
all_in q (y ∷ ms) o all h =
    let b = both_true (q y) (list_all q ms) all in
    elim (in_cases o y ms h) [ inl same ↦ ap q (sym same) ∙ b.0 | inr later ↦ all_in q ms o b.1 later ]

longest : (bs : List ℕ) (ms : List Mark) (m o : Mark) → sorted ms ≡ true → first_of ms bs ≡ Some m → In o ms → starts bs o ≡ true → size o ≤ size m
longest bs [] m o sort e h k = absurd cc
longest bs (y ∷ ms) m o sort e h k =
    let b = both_true (list_all (λ z. nat_le (size z) (size y)) ms) (sorted ms) sort in
    go (starts bs y) refl e b.0 (λ found_later later. longest bs ms m o b.1 found_later later k)
  where
    go : (v : Bool) → starts bs y ≡ v → cond v (Some y) (first_of ms bs) ≡ Some m → list_all (λ z. nat_le (size z) (size y)) ms ≡ true → (first_of ms bs ≡ Some m → In o ms → size o ≤ size m) → size o ≤ size m
    go true s f short rest =
        let is : y ≡ m = same_Some y m f in
        subst (λ (z : Mark). size o ≤ size z) is (elim (in_cases o y ms h) [
          | inl same ↦ subst (λ (z : Mark). size z ≤ size y) same (omega arith)
          | inr later ↦ leb-true (size o) (size y) (all_in (λ z. nat_le (size z) (size y)) ms o short later)
        ])
    go false s f short rest = elim (in_cases o y ms h) [ inl same ↦ (let yes : starts bs y ≡ true = ap (starts bs) same ∙ k in absurd cc) | inr later ↦ rest f later ]

-- ---- the tables

is_sorted : sorted PUNCTUATION ≡ true
unfolding text_of
is_sorted = refl

no_words : list_all (λ y. not (begins_word (text_of y))) PUNCTUATION ≡ true
unfolding text_of
no_words = refl

covers : (m : Mark) → begins_word (text_of m) ≡ false → In m PUNCTUATION
unfolding text_of
covers mark.LeftParen e = refl
covers mark.RightParen e = refl
covers mark.LeftBrace e = refl
covers mark.RightBrace e = refl
covers mark.LeftBracket e = refl
covers mark.RightBracket e = refl
covers mark.Comma e = refl
covers mark.Semicolon e = refl
covers mark.Question e = refl
covers mark.Colon e = refl
covers mark.Plus e = refl
covers mark.Minus e = refl
covers mark.Star e = refl
covers mark.Slash e = refl
covers mark.Percent e = refl
covers mark.Ampersand e = refl
covers mark.Bar e = refl
covers mark.Caret e = refl
covers mark.Tilde e = refl
covers mark.Exclamation e = refl
covers mark.Less e = refl
covers mark.Greater e = refl
covers mark.ShiftLeft e = refl
covers mark.ShiftRight e = refl
covers mark.LessEqual e = refl
covers mark.GreaterEqual e = refl
covers mark.EqualEqual e = refl
covers mark.NotEqual e = refl
covers mark.AndAnd e = refl
covers mark.OrOr e = refl
covers mark.Assign e = refl
covers mark.PlusAssign e = refl
covers mark.MinusAssign e = refl
covers mark.StarAssign e = refl
covers mark.SlashAssign e = refl
covers mark.PercentAssign e = refl
covers mark.AmpersandAssign e = refl
covers mark.BarAssign e = refl
covers mark.CaretAssign e = refl
covers mark.ShiftLeftAssign e = refl
covers mark.ShiftRightAssign e = refl
covers mark.PlusPlus e = refl
covers mark.MinusMinus e = refl
covers mark.Dots e = refl
covers _ e = absurd cc

mark_self : (m : Mark) → begins_word (text_of m) ≡ false → mark_of (text_of m) ≡ Some m
unfolding text_of mark_of
mark_self mark.LeftParen e = refl
mark_self mark.RightParen e = refl
mark_self mark.LeftBrace e = refl
mark_self mark.RightBrace e = refl
mark_self mark.LeftBracket e = refl
mark_self mark.RightBracket e = refl
mark_self mark.Comma e = refl
mark_self mark.Semicolon e = refl
mark_self mark.Question e = refl
mark_self mark.Colon e = refl
mark_self mark.Plus e = refl
mark_self mark.Minus e = refl
mark_self mark.Star e = refl
mark_self mark.Slash e = refl
mark_self mark.Percent e = refl
mark_self mark.Ampersand e = refl
mark_self mark.Bar e = refl
mark_self mark.Caret e = refl
mark_self mark.Tilde e = refl
mark_self mark.Exclamation e = refl
mark_self mark.Less e = refl
mark_self mark.Greater e = refl
mark_self mark.ShiftLeft e = refl
mark_self mark.ShiftRight e = refl
mark_self mark.LessEqual e = refl
mark_self mark.GreaterEqual e = refl
mark_self mark.EqualEqual e = refl
mark_self mark.NotEqual e = refl
mark_self mark.AndAnd e = refl
mark_self mark.OrOr e = refl
mark_self mark.Assign e = refl
mark_self mark.PlusAssign e = refl
mark_self mark.MinusAssign e = refl
mark_self mark.StarAssign e = refl
mark_self mark.SlashAssign e = refl
mark_self mark.PercentAssign e = refl
mark_self mark.AmpersandAssign e = refl
mark_self mark.BarAssign e = refl
mark_self mark.CaretAssign e = refl
mark_self mark.ShiftLeftAssign e = refl
mark_self mark.ShiftRightAssign e = refl
mark_self mark.PlusPlus e = refl
mark_self mark.MinusMinus e = refl
mark_self mark.Dots e = refl
mark_self _ e = absurd cc

reserved_self : (m : Mark) → begins_word (text_of m) ≡ true → reserved_of (text_of m) ≡ Some m
unfolding text_of reserved_of
reserved_self mark.Export e = refl
reserved_self mark.Static e = refl
reserved_self mark.Inline e = refl
reserved_self mark.Const e = refl
reserved_self mark.Uniform e = refl
reserved_self mark.Varying e = refl
reserved_self mark.Unsigned e = refl
reserved_self mark.Void e = refl
reserved_self mark.Bool e = refl
reserved_self mark.Int e = refl
reserved_self mark.Int8 e = refl
reserved_self mark.Int16 e = refl
reserved_self mark.Int32 e = refl
reserved_self mark.Int64 e = refl
reserved_self mark.Uint e = refl
reserved_self mark.Uint8 e = refl
reserved_self mark.Uint16 e = refl
reserved_self mark.Uint32 e = refl
reserved_self mark.Uint64 e = refl
reserved_self mark.True e = refl
reserved_self mark.False e = refl
reserved_self mark.If e = refl
reserved_self mark.Else e = refl
reserved_self mark.Cif e = refl
reserved_self mark.While e = refl
reserved_self mark.Cwhile e = refl
reserved_self mark.Do e = refl
reserved_self mark.Cdo e = refl
reserved_self mark.For e = refl
reserved_self mark.Cfor e = refl
reserved_self mark.Break e = refl
reserved_self mark.Continue e = refl
reserved_self mark.Return e = refl
reserved_self mark.Foreach e = refl
reserved_self mark.ForeachTiled e = refl
reserved_self mark.ForeachActive e = refl
reserved_self mark.ForeachUnique e = refl
reserved_self mark.In e = refl
reserved_self mark.Switch e = refl
reserved_self mark.Case e = refl
reserved_self mark.Default e = refl
reserved_self _ e = absurd cc

-- ---- what the tables say

pub mark_sound : (bs : List ℕ) (m : Mark) → NoComment bs → mark_of bs ≡ Some m → (bs ≡ text_of m ++ drop (size m) bs) × IsLongest m (drop (size m) bs)
unfolding mark_of
mark_sound bs m clear e =
    let here : bs ≡ text_of m ++ drop (size m) bs = starts_sound bs (text_of m) (found (starts bs) PUNCTUATION m e) in
    let other_than_word : not (begins_word (text_of m)) ≡ true = kept (starts bs) (λ y. not (begins_word (text_of y))) PUNCTUATION m no_words e in (
      here,
      record {
        no_word = not_is (begins_word (text_of m)) other_than_word;
        no_comment = subst NoComment here clear;
        longest = λ other rest punct is. longest bs PUNCTUATION m other is_sorted e (covers other punct) (starts_again bs (text_of other) rest (here ∙ is));
      },
    )
  where
    not_is : (v : Bool) → not v ≡ true → v ≡ false
    not_is true k = sym k
    not_is false k = refl

pub mark_complete : (m : Mark) (after : List ℕ) → IsLongest m after → mark_of (text_of m ++ after) ≡ Some m
unfolding mark_of
mark_complete m after h =
    let first = some_found (starts (text_of m ++ after)) PUNCTUATION m (covers m h.no_word) (starts_again (text_of m ++ after) (text_of m) after refl) in
    finish first.0 first.1
  where
    word_less : (v : Bool) → not v ≡ true → v ≡ false
    word_less true k = sym k
    word_less false k = refl

    finish : (x : Mark) → first_of PUNCTUATION (text_of m ++ after) ≡ Some x → first_of PUNCTUATION (text_of m ++ after) ≡ Some m
    finish x e =
        let here : text_of m ++ after ≡ text_of x ++ drop (size x) (text_of m ++ after) = starts_sound (text_of m ++ after) (text_of x) (found (starts (text_of m ++ after)) PUNCTUATION x e) in
        let punct : begins_word (text_of x) ≡ false = word_less (begins_word (text_of x)) (kept (starts (text_of m ++ after)) (λ y. not (begins_word (text_of y))) PUNCTUATION x no_words e) in
        let most : size x ≤ size m = h.longest x (drop (size x) (text_of m ++ after)) punct here in
        let least : size m ≤ size x = longest (text_of m ++ after) PUNCTUATION x m is_sorted e (covers m h.no_word) (starts_again (text_of m ++ after) (text_of m) after refl) in
        let size_is : size m ≡ size x = omega arith in
        let front_m : take (size m) (text_of m ++ after) ≡ text_of m = take-append_seam (text_of m) after in
        let front_x : take (size x) (text_of m ++ after) ≡ text_of x = ap (take (size x)) here ∙ take-append_seam (text_of x) (drop (size x) (text_of m ++ after)) in
        let same : text_of m ≡ text_of x = sym front_m ∙ ap (λ (n : ℕ). take n (text_of m ++ after)) size_is ∙ front_x in
        e ∙ sym (mark_self x punct) ∙ ap mark_of (sym same) ∙ mark_self m h.no_word

-- ---- reserved words

pub reserved_again : (m : Mark) (text : List ℕ) → begins_word text ≡ true → text_of m ≡ text → reserved_of text ≡ Some m
reserved_again m text word is = ap reserved_of (sym is) ∙ reserved_self m (ap begins_word is ∙ word)

pub reserved_sound : (text : List ℕ) (m : Mark) → reserved_of text ≡ Some m → text_of m ≡ text
unfolding reserved_of
reserved_sound text m e = sym (same_text text (text_of m) (sym (found (λ x. pointwise nat_eq text (text_of x)) RESERVED m e)))
