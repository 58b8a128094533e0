-- All pieces of a source, from the left to the right.
use Rattle.std.specs.Prelude.{◌≡◌, ℕ, zero, suc, ◌+◌, List, [], ◌∷◌, ◌++◌, take, drop, Result, Ok, Err, if◌then◌else◌}
use Rattle.gang_types.specs.declared.places.Place.{Place}
use Rattle.gang_model.specs.declared.refusals.SourceRefusal.{SourceRefusal}
use Rattle.gang_model.specs.Source.Tokens.{Lexeme}
use Rattle.gang_model.specs.Source.Lexes.{place_after, fault_at}
use Rattle.source_answers.specs.declared.fault.SourceFault.{SourceFault}
use Rattle.source_answers.specs.declared.fault.SourceFault.TheVariants as fault
use Rattle.ispc_lexer.specs.Numbers.{is_nil}
use Rattle.ispc_lexer.specs.Options.{if_some}
use Rattle.ispc_lexer.specs.Pieces.{piece_of, Shape, shape}

abbrev pub Fails : {Y : Type 0} → SourceFault → Result Y SourceRefusal → Type 0
Fails fault.Memory read = Unit {0}
Fails (fault.Refused r) read = read ≡ Err r

-- what is read, unless memory is wanting
abbrev pub Gives : {X Y : Type 0} → (X → Y) → Result X SourceFault → Result Y SourceRefusal → Type 0
Gives view (Ok x) read = read ≡ Ok (view x)
Gives view (Err e) read = Fails e read

infixl 10 ◌>>>◌
abbrev pub ◌>>>◌ : {A B : Type 0} → Result A SourceRefusal → (A → Result B SourceRefusal) → Result B SourceRefusal
(Ok x) >>> f = f x
(Err e) >>> f = Err e

abbrev pub lexeme_at : Shape → ℕ → Place → List Lexeme
lexeme_at s at p = if_some s.sort (λ sort. record { sort = sort; start = at; end = at + s.len; place = p } ∷ []) []

-- at most n pieces from here on
unfoldable pub lexed : ℕ → ℕ → Place → List ℕ → Result (List Lexeme) SourceRefusal
lexed zero at p bs = Ok []
lexed (suc n) at p bs = if is_nil bs then Ok [] else if_some (piece_of bs)
    (λ x. lexed n (at + (shape x).len) (place_after p (take (shape x).len bs)) (drop (shape x).len bs) >>> λ more. Ok (lexeme_at (shape x) at p ++ more))
    (Err (record { number = fault_at bs; place = p }))
