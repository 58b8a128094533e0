-- The functions and file-scope variables of the tokens, by descent.
use Rattle.std.specs.Prelude.{ℕ, zero, suc, Bool, true, false, ◌||◌, List, [], ◌∷◌, length, Option, Some, None, if◌then◌else◌}
use Rattle.gang_types.specs.declared.places.Place.{Place}
use Rattle.gang_model.specs.declared.marks.Mark.TheVariants as mark
use Rattle.gang_model.specs.declared.forms.Spec.{Spec}
use Rattle.gang_model.specs.declared.forms.GlobalForm.{GlobalForm}
use Rattle.gang_model.specs.declared.forms.GlobalForm.TheVariants as form
use Rattle.gang_model.specs.declared.forms.Literal.{Literal}
use Rattle.gang_model.specs.declared.forms.Literal.TheVariants as literal
use Rattle.gang_model.specs.Source.Tokens.{Lexeme}
use Rattle.gang_model.specs.Source.SpellsSource.{max_params}
use Rattle.gang_model.specs.Source.Parsed.{Name, ParsedStmts, ParsedParam, ParsedItem, ParsedFunctionItem, ParsedGlobalItem, ParsedSource}
use Rattle.ispc_lexer.specs.Options.{◌>>=◌, if_some}
use Rattle.ispc_parser_words.specs.Front.{begins, take}
use Rattle.ispc_parser.specs.declared.source.Body.{Body as WrittenBody}
use Rattle.source_tree.specs.Tree.{stmts_view}
use Rattle.ispc_parser_shared.specs.Front.{Reader, take_at, name_of, Digits, number_of, list_of}
use Rattle.ispc_parser_shared.specs.SpecWords.{local_spec_of, outer_spec_of}
use Rattle.ispc_parser_statements.specs.Statements.{within, parsers}

-- ---- functions

unfoldable pub brackets_of : Reader Bool
brackets_of ts =
    if begins mark.LeftBracket ts then (take mark.LeftBracket ts >>= λ a. take mark.RightBracket a >>= λ rest. Some (true, rest))
    else Some (false, ts)

unfoldable pub param_of : Reader ParsedParam
param_of ts = local_spec_of ts >>= λ s. name_of s.1 >>= λ n. brackets_of n.1 >>= λ b.
    Some (record { at = n.0.0; name = n.0.1; spec = s.0; is_array = b.0 }, b.1)

-- the word `void` alone
unfoldable pub lone_void : List Lexeme → Option (List Lexeme)
lone_void ts = take mark.Void ts >>= λ rest. if begins mark.RightParen rest then Some rest else None

unfoldable pub some_params_of : Reader (List ParsedParam)
some_params_of ts = list_of param_of max_params ts

-- up to a `)`
unfoldable pub params_of : Reader (List ParsedParam)
params_of ts =
    if begins mark.RightParen ts then Some ([], ts)
    else if_some (lone_void ts) (λ rest. Some ([], rest)) (some_params_of ts)

-- { .. }, and the place of its closing brace
pub record Body : Type 0 where
  pub stmts : ParsedStmts
  pub closing : Place

unfoldable pub function_body_of : Reader Body
function_body_of ts = take mark.LeftBrace ts >>= λ a. (within 63 (parsers 63)).stmts a >>= λ ss. take_at mark.RightBrace ss.1 >>= λ z.
    Some (record { stmts = ss.0; closing = z.0 }, z.1)

-- behind a function's name
unfoldable pub function_of : Spec → Place → Name → Reader ParsedItem
function_of spec at n ts = take mark.LeftParen ts >>= λ a. params_of a >>= λ ps. take mark.RightParen ps.1 >>= λ b. function_body_of b >>= λ body.
    Some (ParsedFunctionItem (record { at = at; name = n; spec = spec; params = ps.0; body = body.0.stmts; closing = body.0.closing }), body.1)

-- ---- file-scope variables

abbrev pub signed : Bool → Digits → Literal
signed is_negative n = literal.Number is_negative n.value n.is_unsigned n.is_long

abbrev pub signed_number_of : Bool → Reader Literal
signed_number_of is_negative ts = number_of ts >>= λ n. Some (signed is_negative n.0, n.1)

unfoldable pub literal_of : Reader Literal
literal_of ts =
    if_some (take mark.Minus ts) (signed_number_of true)
    (if_some (take mark.True ts) (λ a. Some (literal.Truth true, a))
    (if_some (take mark.False ts) (λ a. Some (literal.Truth false, a))
    (signed_number_of false ts)))

unfoldable pub form_of : Reader GlobalForm
form_of ts =
    if_some (take mark.LeftBracket ts) (λ a. number_of a >>= λ n. take mark.RightBracket n.1 >>= λ rest. Some (form.Array n.0.value, rest))
    (if_some (take mark.Assign ts) (λ a. literal_of a >>= λ v. Some (form.Initial v.0, v.1))
    (Some (form.Plain, ts)))

-- behind a variable's name
unfoldable pub global_of : Spec → Place → Name → Reader ParsedItem
global_of spec at n ts = form_of ts >>= λ f. take mark.Semicolon f.1 >>= λ rest.
    Some (ParsedGlobalItem (record { at = at; name = n; spec = spec; form = f.0 }), rest)

-- ---- sources

-- behind a name
unfoldable pub declared_of : Spec → Place → Name → Reader ParsedItem
declared_of spec at n ts =
    if begins mark.LeftParen ts then (if spec.is_constant then None else function_of spec at n ts)
    else (if spec.is_exported || spec.is_inline then None else global_of spec at n ts)

unfoldable pub item_of : Reader ParsedItem
item_of ts = outer_spec_of ts >>= λ s. name_of s.1 >>= λ n. declared_of s.0 n.0.0 n.0.1 n.1

abbrev pub is_empty : List Lexeme → Bool
is_empty [] = true
is_empty (t ∷ ts) = false

-- at most n functions and file-scope variables, to the end
unfoldable pub items_of : ℕ → List Lexeme → Option ParsedSource
items_of zero ts = if is_empty ts then Some [] else None
items_of (suc n) ts = if is_empty ts then Some [] else (item_of ts >>= λ i. items_of n i.1 >>= λ is. Some (i.0 ∷ is))

unfoldable pub tree_of : List Lexeme → Option ParsedSource
tree_of ts = items_of (length ts) ts

-- ---- views

abbrev pub body_view : WrittenBody → Body
body_view b = record { stmts = stmts_view b.stmts.items; closing = b.closing }
