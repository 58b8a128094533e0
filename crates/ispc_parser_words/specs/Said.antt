-- What the words of a spec say that were read so far.
use Rattle.std.specs.Prelude.{Bool, true, false, ◌||◌, not, List, [], ◌∷◌, Option, Some, None, if◌then◌else◌}
use Rattle.gang_types.specs.declared.types.IntType.{IntType}
use Rattle.gang_types.specs.declared.types.Rate.{Rate}
use Rattle.gang_types.specs.declared.types.Rate.TheVariants as rate
use Rattle.gang_model.specs.declared.marks.Mark.{Mark}
use Rattle.gang_model.specs.declared.marks.Mark.TheVariants as mark
use Rattle.gang_model.specs.declared.forms.Spec.{Spec}
use Rattle.gang_model.specs.Source.Tokens.{Lexeme}
use Rattle.gang_model.specs.Source.Specs.{type_named, unsigned_named, type_from}
use Rattle.ispc_parser_words.specs.declared.words.Words.{Words}
use Rattle.ispc_lexer.specs.Options.{◌>>=◌, if_some}
use Rattle.ispc_parser_words.specs.Words.{spec_word}

abbrev pub no_words : (is_cast : Bool) → Words
no_words is_cast = record {
  is_cast = is_cast;
  is_exported = false;
  is_static = false;
  is_inline = false;
  is_constant = false;
  rate = None;
  is_unsigned = false;
  type_word = None;
}

abbrev pub is_some : {A : Type 0} → Option A → Bool
is_some None = false
is_some (Some x) = true

-- the type that these words name, if they name one
abbrev pub type_said : Words → Option (Option IntType)
type_said w = type_from w.is_unsigned (if_some w.type_word (λ m. m ∷ []) [])

abbrev pub with_rate : Rate → Words → Option Words
with_rate r w = if is_some w.rate then None else Some (record w { rate = Some r })

abbrev pub with_unsigned : Words → Option Words
with_unsigned w = if w.is_unsigned || not (if_some w.type_word (λ m. is_some (unsigned_named m)) true) then None else Some (record w { is_unsigned = true })

abbrev pub with_type : Mark → Words → Option Words
with_type m w =
    if is_some w.type_word || not (is_some (if w.is_unsigned then unsigned_named m else type_named m)) then None
    else Some (record w { type_word = Some m })

-- one word more, where it may stand
abbrev pub with_word : Mark → Words → Option Words
with_word mark.Export w = if w.is_cast || w.is_exported then None else Some (record w { is_exported = true })
with_word mark.Static w = if w.is_cast || w.is_static then None else Some (record w { is_static = true })
with_word mark.Inline w = if w.is_cast || w.is_inline then None else Some (record w { is_inline = true })
with_word mark.Const w = if w.is_cast || w.is_constant then None else Some (record w { is_constant = true })
with_word mark.Uniform w = with_rate rate.Uniform w
with_word mark.Varying w = with_rate rate.Varying w
with_word mark.Unsigned w = with_unsigned w
with_word m w = with_type m w

-- all the words that stand here
abbrev pub words_from : Words → List Lexeme → Option (Words × List Lexeme)
words_from w [] = Some (w, [])
words_from w (t ∷ ts) = if_some (spec_word t.sort) (λ m. with_word m w >>= λ more. words_from more ts) (Some (w, t ∷ ts))

-- what they say, where they name a type
abbrev pub said : Words → Option Spec
said w = type_said w >>= λ t. Some (record {
  is_exported = w.is_exported;
  is_static = w.is_static;
  is_inline = w.is_inline;
  is_constant = w.is_constant;
  rate = w.rate;
  value_type = t;
})

unfoldable pub said_at : (is_cast : Bool) → List Lexeme → Option (Spec × List Lexeme)
said_at is_cast ts = words_from (no_words is_cast) ts >>= λ x. said x.0 >>= λ s. Some (s, x.1)
