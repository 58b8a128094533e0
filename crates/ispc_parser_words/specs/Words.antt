-- The words of a spec at the front of the tokens.
use Rattle.std.specs.Prelude.{Bool, true, false, List, [], ◌∷◌, Option, Some, None, if◌then◌else◌}
use Rattle.gang_types.specs.declared.types.IntType.{IntType}
use Rattle.gang_types.specs.declared.types.Rate.{Rate}
use Rattle.gang_model.specs.declared.marks.Mark.{Mark}
use Rattle.gang_model.specs.declared.forms.Spec.{Spec}
use Rattle.gang_model.specs.Source.Tokens.{Sort, marked, Lexeme}
use Rattle.gang_model.specs.Source.Specs.{is_spec_word, spec_of, cast_spec_of}
use Rattle.ispc_lexer.specs.Options.{◌>>=◌, if_some}

abbrev pub spec_word : Sort → Option Mark
spec_word (marked m) = if is_spec_word m then Some m else None
spec_word _ = None

-- as many of them as stand here
abbrev pub words_of : List Lexeme → List Mark
words_of [] = []
words_of (t ∷ ts) = if_some (spec_word t.sort) (λ w. w ∷ words_of ts) []

abbrev pub after_words : List Lexeme → List Lexeme
after_words [] = []
after_words (t ∷ ts) = if_some (spec_word t.sort) (λ w. after_words ts) (t ∷ ts)

abbrev pub next_word : List Lexeme → Option (Mark × List Lexeme)
next_word [] = None
next_word (t ∷ ts) = spec_word t.sort >>= λ w. Some (w, ts)

abbrev pub begins_word : List Lexeme → Bool
begins_word [] = false
begins_word (t ∷ ts) = if_some (spec_word t.sort) (λ w. true) false

unfoldable pub spec_at : List Lexeme → Option (Spec × List Lexeme)
spec_at ts = spec_of (words_of ts) >>= λ s. Some (s, after_words ts)

unfoldable pub cast_spec_at : List Lexeme → Option ((Option Rate × Option IntType) × List Lexeme)
cast_spec_at ts = cast_spec_of (words_of ts) >>= λ s. Some (s, after_words ts)
