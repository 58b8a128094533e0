-- The least fault of the arguments of a call, from that of each.
use Rattle.std.proofs.Common.{◌≡◌, ℕ, List, [], ◌∷◌, ◌++◌, sym, ap, ◌∙◌, append_assoc, append-nil, Option, Vec, Global}
use Rattle.gang_types.specs.declared.places.Place.{Place}
use Rattle.gang_model.specs.declared.refusals.SourceRefusal.{SourceRefusal}
use Rattle.gang_model.specs.Source.Judged.{least_fault, merged, or_later}
use Rattle.gang_model.specs.Source.Parsed.{Name, ParsedExpr, ParsedArgs, ParsedEnd, ParsedPartFrom}
use Rattle.gang_model.specs.Names.Scope.{Environment}
use Rattle.gang_model.specs.Names.NameFaults.{names_in, names_of_args, unknown_name, inner_call}
use Rattle.gang_model.proofs.JudgedLaws.{merged-none, merged-assoc, least_fault-append, least_fault-or_own}
use Rattle.source_tree.specs.declared.expressions.Expr.{Expr, Call}
use Rattle.source_tree.specs.declared.expressions.Arg.{Arg}
use Rattle.source_tree.specs.Expressions.{ParsedArg, OfValue, OfPart, OfPartFrom, with_arg, arg_view, expr_view, args_view}
use Rattle.source_tree.proofs.ArgumentRows.{view_call}

abbrev Fault : Type 0
Fault = Option SourceRefusal

-- what stands in one argument
abbrev pub names_in_arg : ParsedArg → List Name → Environment → List SourceRefusal
names_in_arg a functions env = names_of_args (with_arg a ParsedEnd) functions env

names-with_arg : (a : ParsedArg) (es : ParsedArgs) (functions : List Name) (env : Environment)
    → names_of_args (with_arg a es) functions env ≡ names_in_arg a functions env ++ names_of_args es functions env
names-with_arg (OfValue e) es functions env = ap (λ xs. xs ++ names_of_args es functions env) (sym (append-nil (names_in e functions env)))
names-with_arg (OfPart p n) es functions env = ap (λ xs. xs ++ names_of_args es functions env) (sym (append-nil (unknown_name env p n)))
names-with_arg (OfPartFrom p n e) es functions env =
    ap (λ xs. unknown_name env p n ++ (xs ++ names_of_args es functions env)) (sym (append-nil (names_in e functions env)))
    ∙ sym (append_assoc (unknown_name env p n) (names_in e functions env ++ []) (names_of_args es functions env))

-- the least fault in arguments
abbrev pub in_args : List Arg → List Name → Environment → Fault
in_args es functions env = least_fault (names_of_args (args_view es) functions env)

abbrev pub in_arg : Arg → List Name → Environment → Fault
in_arg e functions env = least_fault (names_in_arg (arg_view e) functions env)

in_args-cons : (e : Arg) (es : List Arg) (functions : List Name) (env : Environment)
    → in_args (e ∷ es) functions env ≡ merged (in_arg e functions env) (in_args es functions env)
in_args-cons e es functions env =
    ap least_fault (names-with_arg (arg_view e) (args_view es) functions env)
    ∙ least_fault-append (names_in_arg (arg_view e) functions env) (names_of_args (args_view es) functions env)

-- one more argument: what is found and what is left come to the same
pub next_arg : (rest later : List Arg) (e : Arg) (functions : List Name) (env : Environment) (found fault more : Fault)
    → rest ≡ e ∷ later → fault ≡ in_arg e functions env → more ≡ merged found fault
    → merged more (in_args later functions env) ≡ merged found (in_args rest functions env)
next_arg rest later e functions env found fault more split one step =
    ap (λ x. merged x (in_args later functions env)) (step ∙ ap (merged found) one)
    ∙ (merged-assoc found (in_arg e functions env) (in_args later functions env)
    ∙ (ap (merged found) (sym (in_args-cons e later functions env)) ∙ ap (λ es. merged found (in_args es functions env)) (sym split)))

-- nothing is left
pub no_more : (rest : List Arg) (functions : List Name) (env : Environment) (found : Fault) → rest ≡ [] → merged found (in_args rest functions env) ≡ found
no_more rest functions env found e = ap (λ es. merged found (in_args es functions env)) e ∙ merged-none found

-- a call in an expression
pub in_call : (at : Place) (n : Vec ℕ Global) (args : Vec Arg Global) (functions : List Name) (env : Environment)
    → least_fault (names_in (expr_view (Call at n args)) functions env)
    ≡ or_later (in_args args.items functions env) (least_fault (inner_call functions at n.items))
in_call at n args functions env =
    ap (λ e. least_fault (names_in e functions env)) (view_call at n args)
    ∙ least_fault-or_own (names_of_args (args_view args.items) functions env) (inner_call functions at n.items)

pub in_part_from : (p : Place) (n n' : Name) (e : ParsedExpr) (functions : List Name) (env : Environment) (a b r : Fault)
    → n' ≡ n → a ≡ least_fault (unknown_name env p n') → b ≡ least_fault (names_in e functions env) → r ≡ merged a b
    → r ≡ least_fault (names_of_args (ParsedPartFrom p n e ParsedEnd) functions env)
in_part_from p n n' e functions env a b r same left right whole =
    whole ∙ (ap (λ x. merged x b) (left ∙ ap (λ m. least_fault (unknown_name env p m)) same)
    ∙ (ap (merged (least_fault (unknown_name env p n))) (right ∙ ap least_fault (sym (append-nil (names_in e functions env))))
    ∙ sym (least_fault-append (unknown_name env p n) (names_in e functions env ++ []))))

-- ---- the parts of an expression

pub in_part : (e part : Expr) (functions : List Name) (env : Environment) (a : Fault) → part ≡ e → a ≡ least_fault (names_in (expr_view part) functions env)
    → a ≡ least_fault (names_in (expr_view e) functions env)
in_part e part functions env a same found = found ∙ ap (λ x. least_fault (names_in (expr_view x) functions env)) same
