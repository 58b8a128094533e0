-- The values among the arguments of a call, and the least fault of their rates.
use Rattle.std.proofs.Common.{◌≡◌, ℕ, zero, suc, min, ◌+◌, ◌<◌, List, [], ◌∷◌, ◌++◌, length, drop, get_or, refl, sym, ap, ◌∙◌, map, arith}
use Rattle.std.specs.Prelude.{Option, Some, None}
use Rattle.std.proofs.lemmas.List.{drop_more}
use Rattle.gang_types.specs.declared.types.Rate.{Rate}
use Rattle.gang_types.specs.declared.places.Place.{Place}
use Rattle.gang_model.specs.declared.refusals.SourceRefusal.{SourceRefusal}
use Rattle.gang_model.specs.Types.Conversions as model
use Rattle.gang_model.specs.Source.Judged.{least_fault, fault_if, merged}
use Rattle.gang_model.specs.Types.Typing as typing
use Rattle.gang_model.proofs.JudgedLaws.{least_fault-append, merged-assoc}
use Rattle.gang_model.specs.declared.refusals.RefusalNumber.TheVariants.{S7}
use Rattle.std.specs.Prelude.{not}
use Rattle.type_check_scopes.specs.declared.passings.Passing.{Passing}
use Rattle.type_check_scopes.specs.Passings.{passing_view}
use Rattle.type_check_library.specs.declared.arguments.Argument.{Argument}
use Rattle.type_check_library.specs.Arguments.{argument_view}

abbrev Value : Type 0
Value = Place × model.Typed

-- ---- values

-- the values of arguments together with those of later ones
abbrev pub joined : Option (List Value) → Option (List Value) → Option (List Value)
joined None later = None
joined (Some values) None = None
joined (Some values) (Some more) = Some (values ++ more)

one_value-joined : (v : Value) (values later : Option (List Value)) → typing.one_value v (joined values later) ≡ joined (typing.one_value v values) later
one_value-joined v None later = refl
one_value-joined v (Some values) None = refl
one_value-joined v (Some values) (Some more) = refl

joined-none : (later : Option (List Value)) → joined (Some []) later ≡ later
joined-none None = refl
joined-none (Some more) = refl

all_values-append : (xs ys : List typing.Passing) → typing.all_values (xs ++ ys) ≡ joined (typing.all_values xs) (typing.all_values ys)
all_values-append [] ys = sym (joined-none (typing.all_values ys))
all_values-append (typing.Scalar p e ∷ xs) ys =
    ap (typing.one_value (p, e)) (all_values-append xs ys) ∙ one_value-joined (p, e) (typing.all_values xs) (typing.all_values ys)
all_values-append (typing.View p n from ∷ xs) ys = refl
all_values-append (typing.Reference p n ∷ xs) ys = refl

map-last : {A B : Type 0} (f : A → B) (xs : List A) (x : A) → map f (xs ++ x ∷ []) ≡ map f xs ++ f x ∷ []
map-last f [] x = refl
map-last f (y ∷ xs) x = ap (λ l. f y ∷ l) (map-last f xs x)

-- one more value
pub value_more : (given : List Passing) (values values' : List Argument) (p : Passing) (a : Argument)
    → typing.all_values (map passing_view given) ≡ Some (map argument_view values) → Some (argument_view a ∷ []) ≡ typing.all_values (passing_view p ∷ [])
    → values' ≡ values ++ a ∷ [] → typing.all_values (map passing_view (given ++ p ∷ [])) ≡ Some (map argument_view values')
value_more given values values' p a so_far one pushed =
    ap typing.all_values (map-last passing_view given p)
    ∙ (all_values-append (map passing_view given) (passing_view p ∷ [])
    ∙ (ap (joined (typing.all_values (map passing_view given))) (sym one)
    ∙ (ap (λ x. joined x (Some (argument_view a ∷ []))) so_far
    ∙ ap Some (sym (map-last argument_view values a) ∙ ap (map argument_view) (sym pushed)))))

none_first : (v : typing.Passing) (vs : List typing.Passing) → typing.all_values (v ∷ []) ≡ None → typing.all_values (v ∷ vs) ≡ None
none_first (typing.Scalar p e) vs h = cc
none_first (typing.View p n from) vs h = refl
none_first (typing.Reference p n) vs h = refl

none_later : (v : typing.Passing) (vs : List typing.Passing) → typing.all_values vs ≡ None → typing.all_values (v ∷ vs) ≡ None
none_later (typing.Scalar p e) vs h = ap (typing.one_value (p, e)) h
none_later (typing.View p n from) vs h = refl
none_later (typing.Reference p n) vs h = refl

-- where one argument is no value, not all are
pub not_all_values : (given : List Passing) (i : ℕ) (p : Passing) → i < length given → p ≡ get_or given i p → typing.all_values (passing_view p ∷ []) ≡ None
    → typing.all_values (map passing_view given) ≡ None
not_all_values [] i p h here none = absurd (omega arith)
not_all_values (x ∷ given) zero p h here none =
    none_first (passing_view x) (map passing_view given) (ap (λ y. typing.all_values (passing_view y ∷ [])) (sym here) ∙ none)
not_all_values (x ∷ given) (suc i) p h here none = none_later (passing_view x) (map passing_view given) (not_all_values given i p (omega arith) here none)

-- ---- rates

-- the least fault of the rates of arguments
abbrev pub rates_fault : List Rate → List Argument → Option SourceRefusal
rates_fault asks values = least_fault (typing.rate_faults asks (map argument_view values))

-- the fault of the rate of one argument
abbrev pub rate_fault : Rate → Argument → Option SourceRefusal
rate_fault asked v = least_fault (fault_if (not (model.may_become v.value.rate asked)) S7 v.place)

-- one more argument: what is found and what is left come to the same
pub next_rate : (asks : List Rate) (values : List Argument) (i : ℕ) (asked : Rate) (v : Argument) (first fault more : Option SourceRefusal)
    → i < length asks → i < length values → asked ≡ get_or asks i asked → v ≡ get_or values i v
    → fault ≡ rate_fault asked v → more ≡ merged first fault
    → merged more (rates_fault (drop (i + 1) asks) (drop (i + 1) values)) ≡ merged first (rates_fault (drop i asks) (drop i values))
next_rate asks values i asked v first fault more h k here there one step =
    let asks' = drop (i + 1) asks in
    let values' = drop (i + 1) values in
    let left : drop i asks ≡ asked ∷ asks' = drop_more asks i asked h ∙ ap (λ x. x ∷ asks') (sym here) in
    let right : drop i values ≡ v ∷ values' = drop_more values i v k ∙ ap (λ x. x ∷ values') (sym there) in
    let own = fault_if (not (model.may_become v.value.rate asked)) S7 v.place in
    ap (λ x. merged x (rates_fault asks' values')) (step ∙ ap (merged first) one)
    ∙ (merged-assoc first (rate_fault asked v) (rates_fault asks' values')
    ∙ (ap (merged first) (sym (least_fault-append own (typing.rate_faults asks' (map argument_view values'))))
    ∙ (ap (λ xs. merged first (rates_fault xs (v ∷ values'))) (sym left) ∙ ap (λ xs. merged first (rates_fault (drop i asks) xs)) (sym right))))

-- no argument or no rate is left
pub no_rates_left : (asks : List Rate) (values : List Argument) (i : ℕ) → i ≡ min (length asks) (length values) → rates_fault (drop i asks) (drop i values) ≡ None
no_rates_left [] values zero e = refl
no_rates_left [] values (suc i) e = refl
no_rates_left (a ∷ asks) [] zero e = refl
no_rates_left (a ∷ asks) [] (suc i) e = absurd (omega arith)
no_rates_left (a ∷ asks) (v ∷ values) zero e = absurd (omega arith)
no_rates_left (a ∷ asks) (v ∷ values) (suc i) e = no_rates_left asks values i (omega arith)
