-- The first tokens of declarations, assignments and calls.
use Rattle.std.proofs.Common.{◌≡◌, inl, inr, ℕ, List, Some, None, Bool, true, false, refl, subst}
use Rattle.gang_types.specs.declared.operators.BinaryOp.{BinaryOp}
use Rattle.gang_model.specs.declared.marks.Mark.{Mark}
use Rattle.gang_model.specs.declared.marks.Mark.TheVariants as mark
use Rattle.gang_model.specs.Source.Tokens.{Sort, named, marked, Lexeme}
use Rattle.gang_model.specs.Source.Parsed.{ParsedStmt, ParsedDeclare, ParsedAssign, ParsedChange, ParsedIncrement, ParsedDoCall}
use Rattle.gang_model.specs.Source.Spells.{Takes}
use Rattle.gang_model.specs.Source.SpellsStatements.{SpellsDeclaration, increment_of, SpellsSimple}
use Rattle.ispc_parser_words.specs.Front.{is_mark}
use Rattle.ispc_parser_words.specs.Words.{begins_word, spec_word}
use Rattle.ispc_parser_words.proofs.Tokens.{mark_is}
use Rattle.ispc_parser_words.proofs.Tokens.{takes_at}
use Rattle.ispc_parser_words.proofs.SpecWords.{words_begin}

-- a name, `++` or `--`
abbrev pub BeginsSimple : Sort → Type 0
BeginsSimple (named n) = Unit {0}
BeginsSimple (marked mark.PlusPlus) = Unit {0}
BeginsSimple (marked mark.MinusMinus) = Unit {0}
BeginsSimple _ = ⊥

begins_increment : (m : Mark) (op : BinaryOp) → increment_of m ≡ Some op → BeginsSimple (marked m)
begins_increment mark.PlusPlus op e = tt
begins_increment mark.MinusMinus op e = tt
begins_increment _ op e = absurd cc

pub simple_first : (d : ℕ) (x : ParsedStmt) (ts rest : List Lexeme) → SpellsSimple d x ts rest → (s : Sort) × (after : List Lexeme) × Takes s ts after × BeginsSimple s
simple_first d (ParsedAssign at target e) ts rest h = (named target.name, h.3.0, takes_at (named target.name) target.at ts h.3.0 h.3.1, tt)
simple_first d (ParsedChange at target op e) ts rest h = (named target.name, h.4.0, takes_at (named target.name) target.at ts h.4.0 h.4.1, tt)
simple_first d (ParsedIncrement at target op) ts rest (m, here, is, inl h) = (named target.name, h.1.0, takes_at (named target.name) target.at ts h.1.0 h.1.1, tt)
simple_first d (ParsedIncrement at target op) ts rest (m, here, is, inr h) = (marked m, h.0, h.1, begins_increment m op is)
simple_first d (ParsedDoCall at n es) ts rest h = (named n, h.0, takes_at (named n) at ts h.0 h.1, tt)
simple_first d _ ts rest h = absurd h

pub simple_no_word : (s : Sort) → BeginsSimple s → spec_word s ≡ None
simple_no_word (named n) h = refl
simple_no_word (marked mark.PlusPlus) h = refl
simple_no_word (marked mark.MinusMinus) h = refl
simple_no_word _ h = absurd h

pub simple_other : (m : Mark) (s : Sort) → BeginsSimple s → (BeginsSimple (marked m) → ⊥) → is_mark m s ≡ false
simple_other m s h different = go (is_mark m s) refl
  where
    go : (v : Bool) → is_mark m s ≡ v → v ≡ false
    go false is = refl
    go true is = absurd (different (subst BeginsSimple (mark_is m s is) h))

pub declaration_word : (d : ℕ) (x : ParsedStmt) (ts rest : List Lexeme) → SpellsDeclaration d x ts rest → begins_word ts ≡ true
declaration_word d (ParsedDeclare at spec name_at n o) ts rest h = words_begin h.3.0 ts h.0 spec h.3.1 h.3.2
declaration_word d _ ts rest h = absurd h
