-- A loop or a foreach form without its body is what stands inside its parentheses.
use Rattle.std.proofs.Common.{◌≡◌, ℕ, List, Option, Some, None, refl}
use Rattle.gang_types.specs.declared.places.Place.{Place}
use Rattle.gang_model.specs.declared.marks.Mark.TheVariants as mark
use Rattle.gang_model.specs.Source.Tokens.{Lexeme}
use Rattle.ispc_lexer.specs.Options.{◌>>=◌}
use Rattle.ispc_parser_words.specs.Front.{take}
use Rattle.ispc_parser_expressions.specs.Parse.{whole_expr}
use Rattle.ispc_parser_shared.specs.declared.words.Loop.{Loop}
use Rattle.ispc_parser_shared.specs.declared.words.Loop.TheVariants as loop
use Rattle.ispc_parser_shared.specs.Front.{Reader, enter, name_of, in_parens}
use Rattle.ispc_parser_heads.specs.Heads.{rounds_of, dims_of, distinct_of, WhileHead, ForHead, ForEachHead, ActiveHead, UniqueHead, head_of, inside_of}

abbrev followed : {A : Type 0} → A → Option (List Lexeme) → Option (A × List Lexeme)
followed x read = read >>= λ rest. Some (x, rest)

-- up to the `)`
abbrev closed : {A : Type 0} → Option (A × List Lexeme) → Option (A × List Lexeme)
closed part = part >>= λ x. followed x.0 (take mark.RightParen x.1)

abbrev made : {A B : Type 0} → (A → B) → Option (A × List Lexeme) → Option (B × List Lexeme)
made f part = part >>= λ x. Some (f x.0, x.1)

made_followed : {A B : Type 0} (f : A → B) (x : A) (read : Option (List Lexeme)) → made f (followed x read) ≡ followed (f x) read
made_followed f x None = refl
made_followed f x (Some rest) = refl

made_closed : {A B : Type 0} (f : A → B) (part : Option (A × List Lexeme)) → made f (closed part) ≡ closed (made f part)
made_closed f None = refl
made_closed f (Some x) = made_followed f x.0 (take mark.RightParen x.1)

abbrev inside : {A : Type 0} → (ℕ → Reader A) → Option (ℕ × List Lexeme) → Option (A × List Lexeme)
inside one opened = opened >>= λ o. closed (one o.0 o.1)

made_inside : {A B : Type 0} (f : A → B) (one : ℕ → Reader A) (opened : Option (ℕ × List Lexeme))
    → made f (inside one opened) ≡ inside (λ d ts. made f (one d ts)) opened
made_inside f one None = refl
made_inside f one (Some o) = made_closed f (one o.0 o.1)

pub head_is : (word : Loop) (d : ℕ) (at : Place) (ts : List Lexeme)
    → head_of word d at ts ≡ in_parens (inside_of word at) d ts
unfolding head_of in_parens
head_is loop.While d at ts = made_inside (WhileHead at) whole_expr (enter mark.LeftParen d ts)
head_is loop.For d at ts = made_inside (ForHead at) rounds_of (enter mark.LeftParen d ts)
head_is (loop.ForEach is_tiled) d at ts = made_inside (ForEachHead at is_tiled) dims_of (enter mark.LeftParen d ts)
head_is loop.ForEachActive d at ts = made_inside (λ n. ActiveHead at n.0 n.1) (λ inner. name_of) (enter mark.LeftParen d ts)
head_is loop.ForEachUnique d at ts = made_inside (UniqueHead at) distinct_of (enter mark.LeftParen d ts)
