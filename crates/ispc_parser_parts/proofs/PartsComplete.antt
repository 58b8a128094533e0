-- What is spelled as a declaration, an assignment or a call is read so.
use Rattle.std.proofs.Common.{◌≡◌, inl, inr, ℕ, List, Option, Some, None, false, refl, ◌∙◌, arith}
use Rattle.gang_types.specs.declared.operators.BinaryOp.{BinaryOp}
use Rattle.gang_types.specs.declared.places.Place.{Place}
use Rattle.gang_model.specs.declared.marks.Mark.{Mark}
use Rattle.gang_model.specs.declared.marks.Mark.TheVariants as mark
use Rattle.gang_model.specs.declared.forms.Spec.{Spec}
use Rattle.gang_model.specs.Source.Tokens.{named, marked, Lexeme}
use Rattle.gang_model.specs.Source.Parsed.{Name, ParsedExpr, ParsedTarget, ParsedStmt, ParsedDeclare, ParsedAssign, ParsedChange, ParsedIncrement, ParsedDoCall}
use Rattle.gang_model.specs.Source.Spells.{Takes, TakesAt, Stops, any_level, WholeExpr, WholeArgs}
use Rattle.gang_model.specs.Source.SpellsStatements.{BeginsAt, Maybe, InBrackets, SpellsValue, SpellsDeclaration, SpellsTarget, change_of, increment_of, SpellsSimple}
use Rattle.ispc_parser_words.specs.Front.{begins, is_mark}
use Rattle.ispc_parser_expressions.specs.Parse.{whole_args}
use Rattle.gang_model.proofs.NestingLaws.{opened}
use Rattle.ispc_parser_words.proofs.Tokens.{take_again, begins_again}
use Rattle.ispc_parser_words.proofs.Follows.{stops_at, not_begins}
use Rattle.ispc_parser_expressions.proofs.Whole.{whole_complete, args_complete}
use Rattle.ispc_parser_parts.specs.Parts.{behind, between, value_of, declaration_of, index_of, target_of, changed_of, assigned_of, call_of, named_of, incremented_of, simple_of}
use Rattle.ispc_parser_shared.proofs.Tokens.{other_first, begins_at, same_place, differs, enter_again, in_parens_again, name_again}
use Rattle.ispc_parser_shared.proofs.SpecTokens.{local_spec_again}

no_increment : (m : Mark) (op : BinaryOp) → change_of m ≡ Some op → increment_of m ≡ None
no_increment mark.PlusPlus op e = absurd cc
no_increment mark.MinusMinus op e = absurd cc
no_increment _ op e = refl

module _ (d : ℕ) where
  -- ---- declarations

  value_complete : (o : Option ParsedExpr) (ts rest after : List Lexeme) → Maybe (SpellsValue d) o ts rest → Takes (marked mark.Semicolon) rest after → value_of d ts ≡ Some (o, rest)
  unfolding value_of behind
  value_complete None ts rest after h last = rw (h, other_first mark.Assign (marked mark.Semicolon) rest after last refl) refl
  value_complete (Some e) ts rest after h last =
      rw (begins_again mark.Assign ts h.0 h.1, take_again mark.Assign ts h.0 h.1, whole_complete d e h.0 rest h.2 (stops_at any_level (marked mark.Semicolon) rest after last (omega arith))) refl

  pub declaration_complete : (at : Place) (spec : Spec) (name_at : Place) (n : Name) (o : Option ParsedExpr) (ts rest after : List Lexeme)
      → SpellsDeclaration d (ParsedDeclare at spec name_at n o) ts rest → Takes (marked mark.Semicolon) rest after → declaration_of d at ts ≡ Some (ParsedDeclare at spec name_at n o, rest)
  unfolding declaration_of
  declaration_complete at spec name_at n o ts rest after h last =
      rw (local_spec_again spec name_at n ts h.0 h.1 h.3 h.4 h.5, name_again name_at n h.0 h.1 h.5, value_complete o h.1 rest after h.6 last) refl

  -- ---- targets

  index_complete : (o : Option ParsedExpr) (ts rest : List Lexeme) → Maybe (λ e. InBrackets d (λ inner. WholeExpr inner e)) o ts rest → begins mark.LeftBracket rest ≡ false → index_of d ts ≡ Some (o, rest)
  unfolding index_of between
  index_complete None ts rest h none = rw (h, none) refl
  index_complete (Some e) ts rest h none =
      let p = opened d (λ (n : ℕ). WholeExpr n e h.0 h.1) h.3 in
      rw (
        begins_again mark.LeftBracket ts h.0 h.2,
        enter_again mark.LeftBracket d p.0 ts h.0 h.2 p.1,
        whole_complete p.0 e h.0 h.1 p.2 (stops_at any_level (marked mark.RightBracket) h.1 rest h.4 (omega arith)),
        take_again mark.RightBracket h.1 rest h.4,
      ) refl

  target_complete : (x : ParsedTarget) (ts rest : List Lexeme) → SpellsTarget d x ts rest → begins mark.LeftBracket rest ≡ false → target_of d ts ≡ Some (x, rest)
  unfolding target_of
  target_complete x ts rest h none = rw (name_again x.at x.name ts h.0 h.1, index_complete x.index h.0 rest h.2 none) refl

  no_call : (o : Option ParsedExpr) (ts rest : List Lexeme) → Maybe (λ e. InBrackets d (λ inner. WholeExpr inner e)) o ts rest → begins mark.LeftParen rest ≡ false → begins mark.LeftParen ts ≡ false
  no_call None ts rest h none = rw h none
  no_call (Some e) ts rest h none = other_first mark.LeftParen (marked mark.LeftBracket) ts h.0 h.2 refl

  -- ---- assignments and calls

  of_name : (at : Place) (n : Name) (ts rest : List Lexeme) → TakesAt (named n) at ts rest → simple_of d ts ≡ named_of d at n rest
  unfolding simple_of
  of_name at n ts rest h = rw (h.is, h.sort_is, h.place_is) refl

  of_mark : (at : Place) (m : Mark) (ts rest : List Lexeme) → Takes (marked m) ts rest → BeginsAt at ts → simple_of d ts ≡ incremented_of d at m rest
  unfolding simple_of
  of_mark at m ts rest h place = rw (h.is, h.sort_is, place_of) refl
    where
      place_of : h.token.place ≡ at
      place_of = same_place h.token.place at ts (rw h.is refl) place

  behind_target : (target : ParsedTarget) (m : Mark) (ts a rest : List Lexeme) → SpellsTarget d target ts a → Takes (marked m) a rest
      → is_mark mark.LeftParen (marked m) ≡ false → is_mark mark.LeftBracket (marked m) ≡ false → simple_of d ts ≡ changed_of d target m rest
  unfolding named_of assigned_of
  behind_target target m ts a rest h next no_paren no_bracket =
      of_name target.at target.name ts h.0 h.1
      ∙ rw (
        no_call target.index h.0 a h.2 (other_first mark.LeftParen (marked m) a rest next no_paren),
        index_complete target.index h.0 a h.2 (other_first mark.LeftBracket (marked m) a rest next no_bracket),
        next.is,
        next.sort_is,
      ) refl

  place_is : (at : Place) (target : ParsedTarget) (ts a : List Lexeme) → BeginsAt at ts → SpellsTarget d target ts a → at ≡ target.at
  place_is at target ts a here h = same_place at target.at ts here (begins_at (named target.name) target.at ts h.0 h.1)

  pub simple_complete : (x : ParsedStmt) (ts rest : List Lexeme) → SpellsSimple d x ts rest → Stops any_level rest → simple_of d ts ≡ Some (x, rest)
  unfolding changed_of call_of named_of incremented_of
  simple_complete (ParsedAssign at target e) ts rest h stop =
      behind_target target mark.Assign ts h.0 h.1 h.3 h.4 refl refl ∙ rw (whole_complete d e h.1 rest h.5 stop, place_is at target ts h.0 h.2 h.3) refl
  simple_complete (ParsedChange at target op e) ts rest h stop =
      behind_target target h.0 ts h.1 h.2 h.4 h.6 (differs change_of h.0 mark.LeftParen op h.5 refl) (differs change_of h.0 mark.LeftBracket op h.5 refl)
      ∙ rw (no_increment h.0 op h.5, differs change_of h.0 mark.Assign op h.5 refl, h.5, whole_complete d e h.2 rest h.7 stop, place_is at target ts h.1 h.3 h.4) refl
  simple_complete (ParsedIncrement at target op) ts rest (m, here, is, inl h) stop =
      behind_target target m ts h.0 rest h.1 h.2 (differs increment_of m mark.LeftParen op is refl) (differs increment_of m mark.LeftBracket op is refl)
      ∙ rw (is, place_is at target ts h.0 here h.1) refl
  simple_complete (ParsedIncrement at target op) ts rest (m, here, is, inr h) stop =
      of_mark at m ts h.0 h.1 here ∙ rw (is, target_complete target h.0 rest h.2 (not_begins mark.LeftBracket any_level rest stop (omega arith))) refl
  simple_complete (ParsedDoCall at n es) ts rest h stop =
      of_name at n ts h.0 h.1
      ∙ rw (begins_again mark.LeftParen h.0 h.2.0 h.2.2, in_parens_again whole_args (λ xs inner. WholeArgs inner xs) args_complete d es h.0 rest h.2) refl
  simple_complete _ ts rest h stop = absurd h
