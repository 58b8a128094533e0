-- Which of gang_model's tokens a token is.
use Rattle.std.specs.Prelude.{List, [], ◌∷◌}
use Rattle.gang_model.specs.Source.Tokens.{Sort, named, numbered, marked, Lexeme}
use Rattle.ispc_lexer.specs.declared.token.Kind.{Kind}
use Rattle.ispc_lexer.specs.declared.token.Kind.TheVariants as kind
use Rattle.ispc_lexer.specs.declared.token.Token.{Token}

abbrev pub sort_of : Kind → Sort
sort_of (kind.Name text) = named text.items
sort_of (kind.Number n) = numbered n.value n.is_unsigned n.is_long
sort_of (kind.Mark m) = marked m

abbrev pub lexeme_of : Token → Lexeme
lexeme_of t = record { sort = sort_of t.kind; start = t.start; end = t.end; place = t.place }

abbrev pub lexemes_of : List Token → List Lexeme
lexemes_of [] = []
lexemes_of (t ∷ ts) = lexeme_of t ∷ lexemes_of ts
