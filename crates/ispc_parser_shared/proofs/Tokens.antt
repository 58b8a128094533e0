-- Single tokens, names and numbers, read and spelled.
use Rattle.std.proofs.Common.{◌≡◌, inl, inr, ℕ, zero, suc, List, [], ◌∷◌, Option, Some, None, Bool, true, false, refl, sym, ap, ◌∙◌, subst}
use denote.Enum.Bare.{sameb, same_true}
use Rattle.gang_types.specs.declared.places.Place.{Place}
use Rattle.gang_model.specs.declared.marks.Mark.{Mark}
use Rattle.gang_model.specs.declared.marks.Mark.TheVariants as mark
use Rattle.gang_model.specs.contracts.marks.Mark.{the_type}
use Rattle.gang_model.specs.Source.Tokens.{Sort, named, numbered, marked, Lexeme}
use Rattle.gang_model.specs.Source.Parsed.{Name}
use Rattle.gang_model.specs.Source.Spells.{Takes, TakesAt, Opens}
use Rattle.gang_model.specs.Source.SpellsStatements.{NotNext, BeginsAt, InParens}
use Rattle.ispc_parser_words.specs.Front.{begins, take, is_mark}
use Rattle.gang_model.proofs.NestingLaws.{opened}
use Rattle.ispc_parser_words.proofs.Tokens.{mark_is, is_mark-same, take_takes, take_again, begins_again}
use Rattle.ispc_parser_shared.specs.Front.{Reader, deeper, enter, take_at, name_in, name_of, Digits, digits_in, number_of, in_parens}
use Rattle.std.proofs.lemmas.Option.{same_Some}
use Rattle.ispc_lexer.proofs.Runs.{which, bind_some}

-- ---- marks

pub opens_here : (d n : ℕ) (F : ℕ → Type 0) → d ≡ suc n → F n → Opens d F
opens_here d n F e h = subst (λ (k : ℕ). Opens k F) (sym e) h

pub other_first : (m : Mark) (s : Sort) (ts rest : List Lexeme) → Takes s ts rest → is_mark m s ≡ false → begins m ts ≡ false
other_first m s ts rest h e = rw (h.is, h.sort_is) e

pub begins_takes : (m : Mark) (t : Lexeme) (ts : List Lexeme) → is_mark m t.sort ≡ true → Takes (marked m) (t ∷ ts) ts
begins_takes m t ts e = record { token = t; is = refl; sort_is = mark_is m t.sort e }

pub not_next : (m : Mark) (ts : List Lexeme) → begins m ts ≡ false → NotNext m ts
not_next m ts e rest h = let yes = begins_again m ts rest h in absurd cc

pub begins_next : (m : Mark) (ts : List Lexeme) → NotNext m ts → begins m ts ≡ false
begins_next m [] h = refl
begins_next m (t ∷ ts) h = go (is_mark m t.sort) refl
  where
    go : (v : Bool) → is_mark m t.sort ≡ v → v ≡ false
    go false e = refl
    go true e = absurd (h ts (begins_takes m t ts e))

pub begins_at : (s : Sort) (at : Place) (ts rest : List Lexeme) → TakesAt s at ts rest → BeginsAt at ts
begins_at s at ts rest h = rw h.is h.place_is

pub same_place : (x y : Place) (ts : List Lexeme) → BeginsAt x ts → BeginsAt y ts → x ≡ y
same_place x y [] h k = absurd h
same_place x y (t ∷ ts) h k = sym h ∙ k

-- a mark that has a meaning is none without one
pub differs : {A : Type 0} (f : Mark → Option A) (m k : Mark) (x : A) → f m ≡ Some x → f k ≡ None → is_mark k (marked m) ≡ false
differs f m k x e none = go (sameb the_type m k) refl
  where
    go : (v : Bool) → sameb the_type m k ≡ v → v ≡ false
    go false is = refl
    go true is = let same : f m ≡ f k = ap f (same_true the_type tt m k is) in absurd cc

pub first_at : (t : Lexeme) (ts : List Lexeme) (s : Sort) → t.sort ≡ s → TakesAt s t.place (t ∷ ts) ts
first_at t ts s e = record { token = t; is = refl; sort_is = e; place_is = refl }

pub take_at_sound : (m : Mark) (at : Place) (ts rest : List Lexeme) → take_at m ts ≡ Some (at, rest) → TakesAt (marked m) at ts rest
unfolding take_at
take_at_sound m at [] rest e = absurd cc
take_at_sound m at (t ∷ ts) rest e =
    elim (which (is_mark m t.sort) _ _ (Some (at, rest)) e) [
      | inl p ↦ subst (λ (y : Place × List Lexeme). TakesAt (marked m) y.0 (t ∷ ts) y.1) (same_Some (t.place, ts) (at, rest) p.1) (first_at t ts (marked m) (mark_is m t.sort p.0))
      | inr p ↦ let no_value = p.1 in absurd cc
    ]

pub take_at_again : (m : Mark) (at : Place) (ts rest : List Lexeme) → TakesAt (marked m) at ts rest → take_at m ts ≡ Some (at, rest)
unfolding take_at
take_at_again m at ts rest h = rw (h.is, h.sort_is, is_mark-same m, h.place_is) refl

-- ---- nestings

deeper_is : (d n : ℕ) → deeper d ≡ Some n → d ≡ suc n
deeper_is zero n e = absurd cc
deeper_is (suc d) n e = ap suc (same_Some d n e)

pub enter_sound : (m : Mark) (d n : ℕ) (ts rest : List Lexeme) → enter m d ts ≡ Some (n, rest) → Takes (marked m) ts rest × (d ≡ suc n)
unfolding enter
enter_sound m d n ts rest e =
    let q1 = bind_some (take m ts) _ (n, rest) e in
    let q2 = bind_some (deeper d) _ (n, rest) q1.2 in
    subst (λ (y : ℕ × List Lexeme). Takes (marked m) ts y.1 × (d ≡ suc y.0)) (same_Some (q2.0, q1.0) (n, rest) q2.2) (take_takes m ts q1.0 q1.1, deeper_is d q2.0 q2.1)

pub enter_again : (m : Mark) (d n : ℕ) (ts rest : List Lexeme) → Takes (marked m) ts rest → d ≡ suc n → enter m d ts ≡ Some (n, rest)
unfolding enter
enter_again m d n ts rest h e = rw (take_again m ts rest h, e) refl

pub in_parens_sound : {A : Type 0} (one : ℕ → Reader A) (F : A → ℕ → List Lexeme → List Lexeme → Type 0)
    → ((n : ℕ) (x : A) (ts rest : List Lexeme) → one n ts ≡ Some (x, rest) → F x n ts rest)
    → (d : ℕ) (x : A) (ts rest : List Lexeme) → in_parens one d ts ≡ Some (x, rest) → InParens d (F x) ts rest
unfolding in_parens
in_parens_sound {A} one F good d x ts rest e =
    let q1 = bind_some (enter mark.LeftParen d ts) _ (x, rest) e in
    let q2 = bind_some (one q1.0.0 q1.0.1) _ (x, rest) q1.2 in
    let q3 = bind_some (take mark.RightParen q2.0.1) _ (x, rest) q2.2 in
    let o = enter_sound mark.LeftParen d q1.0.0 ts q1.0.1 q1.1 in
    subst (λ (y : A × List Lexeme). InParens d (F y.0) ts y.1) (same_Some (q2.0.0, q3.0) (x, rest) q3.2)
    (q1.0.1, q2.0.1, o.0, opens_here d q1.0.0 (λ n. F q2.0.0 n q1.0.1 q2.0.1) o.1 (good q1.0.0 q2.0.0 q1.0.1 q2.0.1 q2.1), take_takes mark.RightParen q2.0.1 q3.0 q3.1)

pub in_parens_again : {A : Type 0} (one : ℕ → Reader A) (F : A → ℕ → List Lexeme → List Lexeme → Type 0)
    → ((n : ℕ) (x : A) (ts rest after : List Lexeme) → F x n ts rest → Takes (marked mark.RightParen) rest after → one n ts ≡ Some (x, rest))
    → (d : ℕ) (x : A) (ts rest : List Lexeme) → InParens d (F x) ts rest → in_parens one d ts ≡ Some (x, rest)
unfolding in_parens
in_parens_again one F good d x ts rest h =
    let p = opened d _ h.3 in
    rw (enter_again mark.LeftParen d p.0 ts h.0 h.2 p.1, good p.0 x h.0 h.1 rest p.2 h.4, take_again mark.RightParen h.1 rest h.4) refl

-- ---- names

name_in_is : (s : Sort) (n : Name) → name_in s ≡ Some n → s ≡ named n
name_in_is (named k) n e = ap named (same_Some k n e)
name_in_is (marked m) n e = absurd cc
name_in_is (numbered k u l) n e = absurd cc

pub name_sound : (y : Place × Name) (ts rest : List Lexeme) → name_of ts ≡ Some (y, rest) → TakesAt (named y.1) y.0 ts rest
unfolding name_of
name_sound y [] rest e = absurd cc
name_sound y (t ∷ ts) rest e =
    let q = bind_some (name_in t.sort) _ (y, rest) e in
    subst (λ (z : (Place × Name) × List Lexeme). TakesAt (named z.0.1) z.0.0 (t ∷ ts) z.1) (same_Some ((t.place, q.0), ts) (y, rest) q.2)
    (first_at t ts (named q.0) (name_in_is t.sort q.0 q.1))

pub name_again : (at : Place) (n : Name) (ts rest : List Lexeme) → TakesAt (named n) at ts rest → name_of ts ≡ Some ((at, n), rest)
unfolding name_of
name_again at n ts rest h = rw (h.is, h.sort_is, h.place_is) refl

-- ---- numbers

digits_in_is : (s : Sort) (x : Digits) → digits_in s ≡ Some x → s ≡ numbered x.value x.is_unsigned x.is_long
digits_in_is (numbered n u l) x e = subst (λ (y : Digits). numbered n u l ≡ numbered y.value y.is_unsigned y.is_long) (same_Some (record { value = n; is_unsigned = u; is_long = l }) x e) refl
digits_in_is (named n) x e = absurd cc
digits_in_is (marked m) x e = absurd cc

pub number_sound : (x : Digits) (ts rest : List Lexeme) → number_of ts ≡ Some (x, rest) → Takes (numbered x.value x.is_unsigned x.is_long) ts rest
unfolding number_of
number_sound x [] rest e = absurd cc
number_sound x (t ∷ ts) rest e =
    let q = bind_some (digits_in t.sort) _ (x, rest) e in
    subst (λ (y : Digits × List Lexeme). Takes (numbered y.0.value y.0.is_unsigned y.0.is_long) (t ∷ ts) y.1) (same_Some (q.0, ts) (x, rest) q.2)
    (record { token = t; is = refl; sort_is = digits_in_is t.sort q.0 q.1 })

pub number_again : (n : ℕ) (is_unsigned is_long : Bool) (ts rest : List Lexeme) → Takes (numbered n is_unsigned is_long) ts rest
    → number_of ts ≡ Some (record { value = n; is_unsigned = is_unsigned; is_long = is_long }, rest)
unfolding number_of
number_again n u l ts rest h = rw (h.is, h.sort_is) refl
