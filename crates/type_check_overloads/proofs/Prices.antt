-- The costs of arguments, one by one.
use Rattle.std.proofs.Common.{ℕ, ◌≡◌, ◌∙◌, refl, sym, ap, suc, List, [], ◌∷◌, ◌++◌, length, append_assoc, append-nil, Option, Some, None, map}
use Rattle.std.specs.Prelude.{option_map}
use Rattle.gang_model.specs.Source.Parsed.{ParsedParam}
use Rattle.gang_model.specs.Types.Typing.{Passing}
use Rattle.gang_model.specs.Types.Overloads.{cost, costs, one_more}

without_more : (o : Option ℕ) → one_more o None ≡ None
without_more None = refl
without_more (Some price) = refl

-- no costs where the numbers differ
pub other_length : {A B : Type 0} (f : A → Passing) (g : B → ParsedParam) (xs : List A) (ys : List B) → (length xs ≡ length ys → ⊥) → costs (map f xs) (map g ys) ≡ None
other_length f g [] [] h = absurd (h refl)
other_length f g [] (y ∷ ys) h = refl
other_length f g (x ∷ xs) [] h = refl
other_length f g (x ∷ xs) (y ∷ ys) h =
    ap (one_more (cost (f x) (g y))) (other_length f g xs ys (λ e. h (ap suc e))) ∙ without_more (cost (f x) (g y))

-- these costs before others, if those are there
abbrev pub before : List ℕ → Option (List ℕ) → Option (List ℕ)
before prices later = option_map (λ more. prices ++ more) later

one_before : (prices : List ℕ) (price : ℕ) (later : Option (List ℕ)) → before prices (one_more (Some price) later) ≡ before (prices ++ price ∷ []) later
one_before prices price None = refl
one_before prices price (Some more) = ap Some (sym (append_assoc prices (price ∷ []) more))

pub costs_step : (all : Option (List ℕ)) (given later : List Passing) (params others : List ParsedParam) (a : Passing) (param : ParsedParam) (prices prices' : List ℕ) (price : ℕ)
    → given ≡ a ∷ later → params ≡ param ∷ others → Some price ≡ cost a param → prices' ≡ prices ++ price ∷ []
    → before prices (costs given params) ≡ all → before prices' (costs later others) ≡ all
costs_step all given later params others a param prices prices' price e f found pushed h =
    ap (λ ps. before ps (costs later others)) pushed
    ∙ (sym (one_before prices price (costs later others))
    ∙ (ap (λ o. before prices (one_more o (costs later others))) found
    ∙ (sym (ap (λ ps. before prices (costs (a ∷ later) ps)) f) ∙ (sym (ap (λ xs. before prices (costs xs params)) e) ∙ h))))

pub costs_stop : (all : Option (List ℕ)) (given later : List Passing) (params others : List ParsedParam) (a : Passing) (param : ParsedParam) (prices : List ℕ)
    → given ≡ a ∷ later → params ≡ param ∷ others → None ≡ cost a param → before prices (costs given params) ≡ all → None ≡ all
costs_stop all given later params others a param prices e f found h =
    ap (λ o. before prices (one_more o (costs later others))) found
    ∙ (sym (ap (λ ps. before prices (costs (a ∷ later) ps)) f) ∙ (sym (ap (λ xs. before prices (costs xs params)) e) ∙ h))

pub costs_end : (all : Option (List ℕ)) (given : List Passing) (params : List ParsedParam) (prices : List ℕ)
    → given ≡ [] → params ≡ [] → before prices (costs given params) ≡ all → Some prices ≡ all
costs_end all given params prices e f h =
    ap Some (sym (append-nil prices)) ∙ (sym (ap (λ ps. before prices (costs [] ps)) f) ∙ (sym (ap (λ xs. before prices (costs xs params)) e) ∙ h))

pub costs_init : (all : Option (List ℕ)) (prices : List ℕ) → prices ≡ [] → before prices all ≡ all
costs_init None prices e = refl
costs_init (Some more) prices e = ap (λ ps. Some (ps ++ more)) e
