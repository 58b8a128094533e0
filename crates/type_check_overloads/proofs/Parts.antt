-- What a call passes, argument by argument.
use Rattle.std.proofs.Common.{ℕ, ◌≡◌, ◌∙◌, ◌+◌, ◌<◌, ◌≤◌, arith, refl, sym, ap, suc, List, [], ◌∷◌, ◌++◌, length, get_or, drop, append_assoc, append-nil, Option, Some, None, map}
use Rattle.std.proofs.Math.Numerals.{add-one}
use Rattle.std.proofs.lemmas.List.{at_drop_all}
use Rattle.std.specs.List.{enumerate_from, zip}
use Rattle.source_tree.specs.declared.tree.Param.{Param}
use Rattle.source_tree.specs.Tree.{param_view}
use Rattle.type_check_scopes.specs.declared.passings.Passing.{Passing}
use Rattle.type_check_scopes.specs.Passings.{passing_view}
use Rattle.gang_model.specs.Source.Parsed.{ParsedParam}
use Rattle.gang_model.specs.Types.Tree.{Arg}
use Rattle.gang_model.specs.Types.Typing as typing
use Rattle.gang_model.specs.Types.Typing.{Scalar, View, Reference}
use Rattle.gang_model.specs.Types.Overloads.{passed_args}
use Rattle.gang_model.proofs.WalkedLists.{next_item}
use Rattle.type_check_overloads.specs.Parts.{passed_arg, with_arg}

-- arguments with their numbers and parameters
abbrev pub passed_all : List (ℕ × (Passing × Param)) → List Arg
passed_all [] = []
passed_all (x ∷ xs) = with_arg (passed_arg x.0 (passing_view x.1.0) (param_view x.1.1)) (passed_all xs)

one_passed : (k : ℕ) (a : typing.Passing) (given : List typing.Passing) (param : ParsedParam) (params : List ParsedParam)
    → passed_args k (a ∷ given) (param ∷ params) ≡ with_arg (passed_arg k a param) (passed_args (suc k) given params)
one_passed k (Scalar p e) given param params = refl
one_passed k (View p n from) given param params = refl
one_passed k (Reference p n) given param params = refl

pub paired : (k : ℕ) (given : List Passing) (params : List Param) → passed_args k (map passing_view given) (map param_view params) ≡ passed_all (enumerate_from k (zip given params))
paired k [] params = refl
paired k (a ∷ given) [] = refl
paired k (a ∷ given) (param ∷ params) =
    one_passed k (passing_view a) (map passing_view given) (param_view param) (map param_view params)
    ∙ ap (with_arg (passed_arg k (passing_view a) (param_view param)))
    (ap (λ n. passed_args n (map passing_view given) (map param_view params)) (sym (add-one k)) ∙ paired (k + 1) given params)

one_before : (args : List Arg) (o : Option Arg) (rest : List Arg) → (args ++ with_arg o []) ++ rest ≡ args ++ with_arg o rest
one_before args None rest = ap (λ xs. xs ++ rest) (append-nil args)
one_before args (Some a) rest = append_assoc args (a ∷ []) rest

pub args_step : (all args args' : List Arg) (items : List (ℕ × (Passing × Param))) (i : ℕ) (x : ℕ × (Passing × Param)) (o : Option Arg) → (i < length items) × (x ≡ get_or items i x)
    → o ≡ passed_arg x.0 (passing_view x.1.0) (param_view x.1.1) → args' ≡ args ++ with_arg o []
    → args ++ passed_all (drop i items) ≡ all → args' ++ passed_all (drop (i + 1) items) ≡ all
args_step all args args' items i x o turn passed pushed h =
    let split = next_item items i x turn.0 turn.1 in
    ap (λ xs. xs ++ passed_all (drop (i + 1) items)) pushed
    ∙ (one_before args o (passed_all (drop (i + 1) items))
    ∙ (ap (λ p. args ++ with_arg p (passed_all (drop (i + 1) items))) passed
    ∙ (ap (λ xs. args ++ passed_all xs) (sym split) ∙ h)))

pub args_end : (all args : List Arg) (seen items : List (ℕ × (Passing × Param))) (i : ℕ) → (seen ≡ items) × (i ≡ length items) → args ++ passed_all (drop i items) ≡ all → args ≡ all
args_end all args seen items i over h =
    let past : length items ≤ i = omega (arith, over.1) in
    sym (append-nil args) ∙ (ap (λ xs. args ++ passed_all xs) (sym (at_drop_all (λ xs. xs) items i past)) ∙ h)
