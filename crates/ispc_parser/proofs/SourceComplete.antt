-- What is spelled as a source is read so.
use Rattle.std.proofs.Common.{◌≡◌, inl, inr, ℕ, zero, suc, ◌<◌, ◌≤◌, List, [], ◌∷◌, length, Option, Some, None, Bool, true, false, cond, refl, sym, ap, ◌∙◌, arith}
use Rattle.std.specs.Prelude.{if◌then◌else◌}
use Rattle.gang_types.specs.declared.places.Place.{Place}
use Rattle.gang_model.specs.declared.marks.Mark.TheVariants as mark
use Rattle.gang_model.specs.declared.forms.GlobalForm.{GlobalForm}
use Rattle.gang_model.specs.declared.forms.GlobalForm.TheVariants as form
use Rattle.gang_model.specs.declared.forms.Literal.{Literal}
use Rattle.gang_model.specs.declared.forms.Literal.TheVariants as literal
use Rattle.gang_model.specs.Source.Tokens.{named, numbered, marked, Lexeme}
use Rattle.gang_model.specs.Source.Parsed.{Name, ParsedParam, ParsedFunction, ParsedGlobal, ParsedItem, ParsedFunctionItem, ParsedGlobalItem, ParsedSource}
use Rattle.gang_model.specs.Source.Spells.{Takes, TakesAt, Stops, any_level, truth_mark}
use Rattle.gang_model.specs.Source.SpellsStatements.{SpellsList, SpellsStmts}
use Rattle.gang_model.specs.Source.SpellsSource.{max_params, SpellsEmptyBrackets, SpellsParam, SpellsParams, SpellsFunction, SpellsLiteral, SpellsForm, SpellsGlobal, SpellsItem, IsTree}
use Rattle.ispc_lexer.specs.Options.{◌>>=◌}
use Rattle.ispc_parser_words.specs.Front.{begins, take}
use Rattle.ispc_parser_words.specs.Words.{begins_word, after_words}
use Rattle.ispc_parser_words.proofs.Tokens.{mark_is, take_takes, take_again, begins_again}
use Rattle.ispc_parser_words.proofs.Tokens.{takes_at, takes_shorter, at_shorter}
use Rattle.ispc_parser_words.proofs.SpecWords.{words_again, words_begin}
use Rattle.ispc_parser_words.proofs.Tokens.{take_none}
use Rattle.ispc_parser_words.proofs.Follows.{not_begins}
use Rattle.ispc_parser_shared.specs.SpecWords.{outer_spec_of}
use Rattle.ispc_parser_shared.proofs.Tokens.{other_first, take_at_again, name_again, number_again}
use Rattle.ispc_parser_shared.proofs.SpecTokens.{spec_again, local_spec_again, word_first}
use Rattle.ispc_parser_shared.proofs.Lengths.{spec_shorter, list_shorter, stmts_shorter}
use Rattle.ispc_parser_shared.proofs.CommaLists.{list_complete}
use Rattle.ispc_parser_statements.specs.Statements.{ends_stmts, parsers}
use Rattle.ispc_parser_statements.proofs.StatementsComplete.{stmts_complete, parsers_complete}
use Rattle.ispc_parser.specs.Source.{brackets_of, param_of, lone_void, some_params_of, params_of, function_body_of, function_of, literal_of, form_of, global_of, declared_of, item_of, is_empty, items_of, tree_of}

-- ---- parameters

brackets_complete : (is_array : Bool) (ts rest : List Lexeme) → SpellsEmptyBrackets is_array ts rest → begins mark.LeftBracket rest ≡ false → brackets_of ts ≡ Some (is_array, rest)
unfolding brackets_of
brackets_complete false ts rest h none = rw (h, none) refl
brackets_complete true ts rest h none = rw (begins_again mark.LeftBracket ts h.0 h.1, take_again mark.LeftBracket ts h.0 h.1, take_again mark.RightBracket h.0 rest h.2) refl

param_complete : (x : ParsedParam) (ts rest : List Lexeme) → SpellsParam x ts rest → Stops any_level rest → param_of ts ≡ Some (x, rest)
unfolding param_of
param_complete x ts rest h stop =
    rw (
      local_spec_again x.spec x.at x.name ts h.0 h.1 h.2 h.3 h.4,
      name_again x.at x.name h.0 h.1 h.4,
      brackets_complete x.is_array h.1 rest h.5 (not_begins mark.LeftBracket any_level rest stop (omega arith)),
    ) refl

-- the words before a name are not `void` alone
lone_void_none : (ts after : List Lexeme) → after_words ts ≡ after → begins mark.RightParen after ≡ false → lone_void ts ≡ None
unfolding lone_void
lone_void_none ts after is none = go (take mark.Void ts) refl
  where
    no_words : (rest : List Lexeme) → begins mark.RightParen rest ≡ true → after_words rest ≡ rest
    no_words [] e = refl
    no_words (t ∷ rest) e = rw (mark_is mark.RightParen t.sort e) refl

    closed : (rest : List Lexeme) → Takes (marked mark.Void) ts rest → begins mark.RightParen rest ≡ true → after ≡ rest
    closed rest h e = sym is ∙ rw (h.is, h.sort_is) (no_words rest e)

    cases : (rest : List Lexeme) → Takes (marked mark.Void) ts rest → (v : Bool) → begins mark.RightParen rest ≡ v → cond v (Some rest) None ≡ None
    cases rest h false e = refl
    cases rest h true e = let same = ap (begins mark.RightParen) (closed rest h e) in absurd cc

    go : (o : Option (List Lexeme)) → take mark.Void ts ≡ o → (o >>= λ rest. if begins mark.RightParen rest then Some rest else None) ≡ None
    go None e = refl
    go (Some rest) e = cases rest (take_takes mark.Void ts rest e) (begins mark.RightParen rest) refl

name_first : (at : Place) (n : Name) (ts rest : List Lexeme) → TakesAt (named n) at ts rest → begins mark.RightParen ts ≡ false
name_first at n ts rest h = other_first mark.RightParen (named n) ts rest (takes_at (named n) at ts rest h) refl

param_first : (x : ParsedParam) (xs : List ParsedParam) (ts rest : List Lexeme) → SpellsList SpellsParam (x ∷ xs) ts rest → (mid : List Lexeme) × SpellsParam x ts mid
param_first x [] ts rest h = (rest, h)
param_first x (y ∷ ys) ts rest h = (h.0, h.2)

lone_again : (ts rest after : List Lexeme) → Takes (marked mark.Void) ts rest → Takes (marked mark.RightParen) rest after → lone_void ts ≡ Some rest
unfolding lone_void
lone_again ts rest after h close = rw (take_again mark.Void ts rest h, begins_again mark.RightParen rest after close) refl

params_complete : (xs : List ParsedParam) (ts rest after : List Lexeme) → SpellsParams xs ts rest → length xs ≤ max_params → Takes (marked mark.RightParen) rest after → params_of ts ≡ Some (xs, rest)
unfolding params_of some_params_of
params_complete [] ts rest after (inl h) few close = rw (h, begins_again mark.RightParen rest after close) refl
params_complete [] ts rest after (inr h) few close = rw (other_first mark.RightParen (marked mark.Void) ts rest h refl, lone_again ts rest after h close) refl
params_complete (x ∷ xs) ts rest after h few close =
    let p = param_first x xs ts rest h in
    let q = p.1 in
    let no_word : begins_word q.0 ≡ false = rw (q.4.is, q.4.sort_is) refl in
    let words = words_again q.2.0 ts q.0 x.spec q.2.1 q.2.2 no_word in
    rw (word_first mark.RightParen ts (words_begin q.2.0 ts q.0 x.spec q.2.1 q.2.2) refl, lone_void_none ts q.0 words.1 (name_first x.at x.name q.0 q.1 q.4))
    (list_complete param_of SpellsParam param_complete max_params (x ∷ xs) ts rest after h few close)

-- ---- functions

body_complete : (f : ParsedFunction) (ts a b rest : List Lexeme) → Takes (marked mark.LeftBrace) ts a → SpellsStmts f.body 63 a b → TakesAt (marked mark.RightBrace) f.closing b rest
    → function_body_of ts ≡ Some (record { stmts = f.body; closing = f.closing }, rest)
unfolding function_body_of
body_complete f ts a b rest first h last =
    let ends : ends_stmts b ≡ true = rw (last.is, last.sort_is) refl in
    rw (take_again mark.LeftBrace ts a first, stmts_complete 63 (parsers 63) (parsers_complete 63) (length a) f.body a b (omega arith) h ends, take_at_again mark.RightBrace f.closing b rest last) refl

function_complete : (f : ParsedFunction) (ts rest : List Lexeme) → SpellsFunction f ts rest → item_of ts ≡ Some (ParsedFunctionItem f, rest)
unfolding item_of outer_spec_of declared_of function_of
function_complete f ts rest (a, b, c, g, h, i, j, spec, no_const, name, first, params, few, close, brace, stmts, last) =
    rw (
      spec_again f.spec f.at f.name ts a b spec name,
      no_const,
      name_again f.at f.name a b name,
      begins_again mark.LeftParen b c first,
      take_again mark.LeftParen b c first,
      params_complete f.params c g h params few close,
      take_again mark.RightParen g h close,
      body_complete f h i j rest brace stmts last,
    ) refl

-- ---- file-scope variables

literal_complete : (x : Literal) (ts rest : List Lexeme) → SpellsLiteral x ts rest → literal_of ts ≡ Some (x, rest)
unfolding literal_of
literal_complete (literal.Number true n u l) ts rest h = rw (take_again mark.Minus ts h.0 h.1, number_again n u l h.0 rest h.2) refl
literal_complete (literal.Number false n u l) ts rest h =
    rw (
      h.1,
      take_none mark.Minus h.0 (other_first mark.Minus (numbered n u l) h.0 rest h.2 refl),
      take_none mark.True h.0 (other_first mark.True (numbered n u l) h.0 rest h.2 refl),
      take_none mark.False h.0 (other_first mark.False (numbered n u l) h.0 rest h.2 refl),
      number_again n u l h.0 rest h.2,
    ) refl
literal_complete (literal.Truth true) ts rest h = rw (take_none mark.Minus ts (other_first mark.Minus (marked mark.True) ts rest h refl), take_again mark.True ts rest h) refl
literal_complete (literal.Truth false) ts rest h =
    rw (take_none mark.Minus ts (other_first mark.Minus (marked mark.False) ts rest h refl), take_none mark.True ts (other_first mark.True (marked mark.False) ts rest h refl), take_again mark.False ts rest h) refl

form_complete : (x : GlobalForm) (ts rest after : List Lexeme) → SpellsForm x ts rest → Takes (marked mark.Semicolon) rest after → form_of ts ≡ Some (x, rest)
unfolding form_of
form_complete form.Plain ts rest after h last =
    rw (h, take_none mark.LeftBracket rest (other_first mark.LeftBracket (marked mark.Semicolon) rest after last refl), take_none mark.Assign rest (other_first mark.Assign (marked mark.Semicolon) rest after last refl)) refl
form_complete (form.Array n) ts rest after h last =
    rw (take_again mark.LeftBracket ts h.2 h.4, number_again n h.0 h.1 h.2 h.3 h.5, take_again mark.RightBracket h.3 rest h.6) refl
form_complete (form.Initial x) ts rest after h last =
    rw (take_none mark.LeftBracket ts (other_first mark.LeftBracket (marked mark.Assign) ts h.0 h.1 refl), take_again mark.Assign ts h.0 h.1, literal_complete x h.0 rest h.2) refl

no_function : (x : GlobalForm) (ts rest after : List Lexeme) → SpellsForm x ts rest → Takes (marked mark.Semicolon) rest after → begins mark.LeftParen ts ≡ false
no_function form.Plain ts rest after h last = rw h (other_first mark.LeftParen (marked mark.Semicolon) rest after last refl)
no_function (form.Array n) ts rest after h last = other_first mark.LeftParen (marked mark.LeftBracket) ts h.2 h.4 refl
no_function (form.Initial x) ts rest after h last = other_first mark.LeftParen (marked mark.Assign) ts h.0 h.1 refl

global_complete : (g : ParsedGlobal) (ts rest : List Lexeme) → SpellsGlobal g ts rest → item_of ts ≡ Some (ParsedGlobalItem g, rest)
unfolding item_of outer_spec_of declared_of global_of
global_complete g ts rest (a, b, c, spec, no_export, no_inline, name, shape, last) = both g.spec.is_constant refl
  where
    both : (v : Bool) → g.spec.is_constant ≡ v → item_of ts ≡ Some (ParsedGlobalItem g, rest)
    both true is =
        rw (
          spec_again g.spec g.at g.name ts a b spec name,
          is,
          no_export,
          no_inline,
          name_again g.at g.name a b name,
          no_function g.form b c rest shape last,
          form_complete g.form b c rest shape last,
          take_again mark.Semicolon c rest last,
        ) refl
    both false is =
        rw (
          spec_again g.spec g.at g.name ts a b spec name,
          is,
          name_again g.at g.name a b name,
          no_function g.form b c rest shape last,
          no_export,
          no_inline,
          form_complete g.form b c rest shape last,
          take_again mark.Semicolon c rest last,
        ) refl

-- ---- sources

item_complete : (x : ParsedItem) (ts rest : List Lexeme) → SpellsItem x ts rest → item_of ts ≡ Some (x, rest)
item_complete (ParsedFunctionItem f) ts rest h = function_complete f ts rest h
item_complete (ParsedGlobalItem g) ts rest h = global_complete g ts rest h

brackets_shorter : (is_array : Bool) (ts rest : List Lexeme) → SpellsEmptyBrackets is_array ts rest → length rest ≤ length ts
brackets_shorter false ts rest h = omega (arith, ap length h)
brackets_shorter true ts rest h = omega (arith, takes_shorter (marked mark.LeftBracket) ts h.0 h.1, takes_shorter (marked mark.RightBracket) h.0 rest h.2)

param_shorter : (x : ParsedParam) (ts rest : List Lexeme) → SpellsParam x ts rest → length rest ≤ length ts
param_shorter x ts rest h = omega (arith, spec_shorter x.spec ts h.0 h.2, at_shorter (named x.name) x.at h.0 h.1 h.4, brackets_shorter x.is_array h.1 rest h.5)

params_shorter : (xs : List ParsedParam) (ts rest : List Lexeme) → SpellsParams xs ts rest → length rest ≤ length ts
params_shorter [] ts rest (inl h) = omega (arith, ap length h)
params_shorter [] ts rest (inr h) = omega (arith, takes_shorter (marked mark.Void) ts rest h)
params_shorter (x ∷ xs) ts rest h = list_shorter SpellsParam param_shorter (x ∷ xs) ts rest h

literal_shorter : (x : Literal) (ts rest : List Lexeme) → SpellsLiteral x ts rest → length rest ≤ length ts
literal_shorter (literal.Number true n u l) ts rest h = omega (arith, takes_shorter (marked mark.Minus) ts h.0 h.1, takes_shorter (numbered n u l) h.0 rest h.2)
literal_shorter (literal.Number false n u l) ts rest h = omega (arith, ap length h.1, takes_shorter (numbered n u l) h.0 rest h.2)
literal_shorter (literal.Truth b) ts rest h = omega (arith, takes_shorter (marked (truth_mark b)) ts rest h)

form_shorter : (x : GlobalForm) (ts rest : List Lexeme) → SpellsForm x ts rest → length rest ≤ length ts
form_shorter form.Plain ts rest h = omega (arith, ap length h)
form_shorter (form.Array n) ts rest h = omega (arith, takes_shorter (marked mark.LeftBracket) ts h.2 h.4, takes_shorter (numbered n h.0 h.1) h.2 h.3 h.5, takes_shorter (marked mark.RightBracket) h.3 rest h.6)
form_shorter (form.Initial x) ts rest h = omega (arith, takes_shorter (marked mark.Assign) ts h.0 h.1, literal_shorter x h.0 rest h.2)

item_shorter : (x : ParsedItem) (ts rest : List Lexeme) → SpellsItem x ts rest → length rest < length ts
item_shorter (ParsedFunctionItem f) ts rest (a, b, c, g, h, i, j, spec, no_const, name, first, params, few, close, brace, stmts, last) =
    omega (
      arith,
      spec_shorter f.spec ts a spec,
      at_shorter (named f.name) f.at a b name,
      takes_shorter (marked mark.LeftParen) b c first,
      params_shorter f.params c g params,
      takes_shorter (marked mark.RightParen) g h close,
      takes_shorter (marked mark.LeftBrace) h i brace,
      stmts_shorter f.body 63 i j stmts,
      at_shorter (marked mark.RightBrace) f.closing j rest last,
    )
item_shorter (ParsedGlobalItem g) ts rest (a, b, c, spec, no_export, no_inline, name, shape, last) =
    omega (arith, spec_shorter g.spec ts a spec, at_shorter (named g.name) g.at a b name, form_shorter g.form b c shape, takes_shorter (marked mark.Semicolon) c rest last)

not_empty : (n : ℕ) (ts : List Lexeme) → n < length ts → is_empty ts ≡ false
not_empty n [] long = absurd (omega (arith, long))
not_empty n (t ∷ ts) long = refl

items_complete : (n : ℕ) (items : ParsedSource) (ts : List Lexeme) → length ts ≤ n → IsTree items ts → items_of n ts ≡ Some items
unfolding items_of
items_complete zero [] ts long h = rw h refl
items_complete (suc n) [] ts long h = rw h refl
items_complete zero (x ∷ items) ts long h = absurd (omega (arith, item_shorter x ts h.0 h.1))
items_complete (suc n) (x ∷ items) ts long h =
    let less = item_shorter x ts h.0 h.1 in
    rw (not_empty (length h.0) ts less, item_complete x ts h.0 h.1, items_complete n items h.0 (omega (arith, less)) h.2) refl

-- each source that the tokens spell is the one that is read
pub tree_complete : (source : ParsedSource) (ts : List Lexeme) → IsTree source ts → tree_of ts ≡ Some source
unfolding tree_of
tree_complete source ts h = items_complete (length ts) source ts (omega arith) h
