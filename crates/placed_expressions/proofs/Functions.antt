-- The names of functions, one function or token after another.
use Rattle.std.proofs.Common.{◌≡◌, ℕ, suc, ◌+◌, ◌<◌, Bool, true, false, ◌||◌, List, ◌∷◌, length, get_or, drop, sym, ap, ◌∙◌, add-one, drop-cons}
use Rattle.std.specs.Prelude.{bytes_eq, map}
use Rattle.gang_types.specs.declared.places.Place.{Place}
use Rattle.gang_model.specs.Types.Tree as tree
use Rattle.ispc_lexer.specs.declared.token.Token.{Token}
use Rattle.ispc_lexer.specs.Views.{lexeme_of, lexemes_of}
use Rattle.typed_tree.specs.declared.program.Function.{Function}
use Rattle.typed_tree.specs.Views.{function_view}
use Rattle.machine_names.proofs.FirstNamed.{same_name}
use Rattle.placed_expressions.specs.Refusals.{is_function, is_function_at, is_named_at}

pub next_dropped : {A : Type 0} (xs : List A) (i : ℕ) (x : A) → i < length xs → x ≡ get_or xs i x → drop i xs ≡ x ∷ drop (i + 1) xs
next_dropped xs i x below is = drop-cons xs i x below ∙ ap (λ y. y ∷ drop (suc i) xs) (sym is) ∙ ap (λ k. x ∷ drop k xs) (sym (add-one i))

-- ---- functions

module _ (fs : List Function) (i : ℕ) (f : Function) (name read : List ℕ) (below : i < length fs) (is : f ≡ get_or fs i f) (text : read ≡ f.name.items)
    (before : is_function (map function_view (drop i fs)) name ≡ is_function (map function_view fs) name) where
  first : (b : Bool) → b ≡ bytes_eq read name → is_function (map function_view (drop i fs)) name ≡ (b || is_function (map function_view (drop (i + 1) fs)) name)
  first b e =
      ap (λ xs. is_function (map function_view xs) name) (next_dropped fs i f below is)
      ∙ ap (λ t. t || is_function (map function_view (drop (i + 1) fs)) name) (sym (same_name f.name.items read name b text e))

  pub function_found : true ≡ bytes_eq read name → true ≡ is_function (map function_view fs) name
  function_found e = sym (first true e) ∙ before

  pub function_other : false ≡ bytes_eq read name → is_function (map function_view (drop (i + 1) fs)) name ≡ is_function (map function_view fs) name
  function_other e = sym (first false e) ∙ before

-- ---- tokens

module _ (fs : List tree.Function) (place : Place) (ts : List Token) (i : ℕ) (t : Token) (below : i < length ts) (is : t ≡ get_or ts i t)
    (before : is_function_at fs (lexemes_of (drop i ts)) place ≡ is_function_at fs (lexemes_of ts) place) where
  front : (b : Bool) → b ≡ is_named_at fs place (lexeme_of t) → is_function_at fs (lexemes_of (drop i ts)) place ≡ (b || is_function_at fs (lexemes_of (drop (i + 1) ts)) place)
  front b e =
      ap (λ xs. is_function_at fs (lexemes_of xs) place) (next_dropped ts i t below is)
      ∙ ap (λ r. r || is_function_at fs (lexemes_of (drop (i + 1) ts)) place) (sym e)

  pub token_found : true ≡ is_named_at fs place (lexeme_of t) → true ≡ is_function_at fs (lexemes_of ts) place
  token_found e = sym (front true e) ∙ before

  pub token_other : false ≡ is_named_at fs place (lexeme_of t) → is_function_at fs (lexemes_of (drop (i + 1) ts)) place ≡ is_function_at fs (lexemes_of ts) place
  token_other e = sym (front false e) ∙ before
