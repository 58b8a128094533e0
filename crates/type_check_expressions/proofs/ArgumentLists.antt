-- The arguments of a call, judged from the first to the last.
use Rattle.std.proofs.Common.{◌≡◌, ℕ, ◌+◌, ◌<◌, ◌≤◌, List, [], ◌∷◌, ◌++◌, length, take, get_or, refl, sym, ap, ◌∙◌, append_assoc}
use Rattle.std.proofs.lemmas.List.{take_more, take_all}
use Rattle.gang_types.specs.declared.places.Place.{Place}
use Rattle.gang_model.specs.Types.Conversions.{Typed}
use Rattle.gang_model.specs.Source.Judged.{Judged, Sound, Faulty, both, ◌>>=◌}
use Rattle.gang_model.specs.Source.Parsed.{ParsedArgs, ParsedEnd}
use Rattle.gang_model.specs.Types.Typing as typing
use Rattle.source_tree.specs.declared.expressions.Arg.{Arg}
use Rattle.source_tree.specs.Expressions.{ParsedArg, OfValue, OfPart, OfPartFrom, with_arg, arg_view, args_view}
use Rattle.type_check_expressions.specs.Arguments.{argument, followed, view_indexed}

-- one argument before others
abbrev pub preceded : Judged typing.Passing → Judged (List typing.Passing) → Judged (List typing.Passing)
preceded first rest = both first rest >>= λ parts. Sound (parts.0 ∷ parts.1)

part_from : (p : Place) (j : Judged (typing.Entry × Typed)) (k : Judged (List typing.Passing))
    → (both j k >>= λ parts. Sound (typing.view_from p parts.0 ∷ parts.1)) ≡ preceded (j >>= λ parts. Sound (typing.view_from p parts)) k
part_from p (Sound a) (Sound b) = refl
part_from p (Sound a) (Faulty first others) = refl
part_from p (Faulty first others) (Sound b) = refl
part_from p (Faulty first others) (Faulty second more) = refl

arguments-cons : (a : ParsedArg) (es : ParsedArgs) (scope : typing.Scope) → typing.arguments (with_arg a es) scope ≡ preceded (argument a scope) (typing.arguments es scope)
arguments-cons (OfValue e) es scope = refl
arguments-cons (OfPart p name) es scope = refl
arguments-cons (OfPartFrom p name e) es scope =
    part_from p (both (typing.viewed p (typing.entry_of scope name)) (view_indexed e (typing.expression e scope))) (typing.arguments es scope)

preceded-followed : (a : Judged typing.Passing) (b : Judged (List typing.Passing)) (c : Judged typing.Passing) → preceded a (followed b c) ≡ followed (preceded a b) c
preceded-followed (Sound a) (Sound b) (Sound c) = refl
preceded-followed (Sound a) (Sound b) (Faulty last more) = refl
preceded-followed (Sound a) (Faulty next others) (Sound c) = refl
preceded-followed (Sound a) (Faulty next others) (Faulty last more) = refl
preceded-followed (Faulty first rest) (Sound b) (Sound c) = refl
preceded-followed (Faulty first rest) (Sound b) (Faulty last more) = refl
preceded-followed (Faulty first rest) (Faulty next others) (Sound c) = refl
preceded-followed (Faulty first rest) (Faulty next others) (Faulty last more) = sym (ap (Faulty first) (append_assoc rest (next ∷ others) (last ∷ more)))

only : (a : Judged typing.Passing) → preceded a (Sound []) ≡ followed (Sound []) a
only (Sound a) = refl
only (Faulty first others) = refl

arguments-last : (xs : List Arg) (x : Arg) (scope : typing.Scope)
    → typing.arguments (args_view (xs ++ x ∷ [])) scope ≡ followed (typing.arguments (args_view xs) scope) (argument (arg_view x) scope)
arguments-last [] x scope = arguments-cons (arg_view x) ParsedEnd scope ∙ only (argument (arg_view x) scope)
arguments-last (y ∷ xs) x scope =
    let first = argument (arg_view y) scope in
    let last = argument (arg_view x) scope in
    arguments-cons (arg_view y) (args_view (xs ++ x ∷ [])) scope
    ∙ (ap (preceded first) (arguments-last xs x scope)
    ∙ (preceded-followed first (typing.arguments (args_view xs) scope) last
    ∙ sym (ap (λ j. followed j last) (arguments-cons (arg_view y) (args_view xs) scope))))

-- the first so many arguments
abbrev pub first_arguments : ℕ → List Arg → typing.Scope → Judged (List typing.Passing)
first_arguments n args scope = typing.arguments (args_view (take n args)) scope

pub first_arguments-more : (args : List Arg) (i : ℕ) (x : Arg) (scope : typing.Scope) → i < length args → x ≡ get_or args i x
    → followed (first_arguments i args scope) (argument (arg_view x) scope) ≡ first_arguments (i + 1) args scope
first_arguments-more args i x scope h e =
    sym (ap (λ xs. typing.arguments (args_view xs) scope) (take_more args i x h ∙ ap (λ y. take i args ++ y ∷ []) (sym e)) ∙ arguments-last (take i args) x scope)

pub first_arguments-all : (args : List Arg) (n : ℕ) (scope : typing.Scope) → length args ≤ n → first_arguments n args scope ≡ typing.arguments (args_view args) scope
first_arguments-all args n scope h = ap (λ xs. typing.arguments (args_view xs) scope) (take_all n args h)
