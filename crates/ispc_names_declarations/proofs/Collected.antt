-- The lists of functions and of file-scope variables of a tree, and names that stand twice in them.
use Rattle.std.proofs.Common.{◌≡◌, List, [], ◌∷◌, ◌++◌, Bool, ◌||◌, map, refl, sym, ap, ◌∙◌, append-nil, append_assoc}
use Rattle.std.specs.Prelude.{IfOk, Result}
use Rattle.std.specs.List.{list_any}
use Rattle.std.proofs.lemmas.Result.{IfOk-weaker}
use Rattle.std.proofs.Math.Bool.{or_comm, or_assoc}
use Rattle.gang_model.specs.declared.refusals.RefusalNumber.TheVariants.{S6}
use Rattle.gang_model.specs.Source.Judged.{fault_if, least_fault, merged}
use Rattle.gang_model.specs.Types.LibraryTable.{is_among}
use Rattle.gang_model.specs.Names.NameFaults.{globals_twice, functions_twice}
use Rattle.gang_model.specs.Source.Names.{same_text}
use Rattle.gang_model.specs.Source.Parsed.{Name, ParsedGlobal, ParsedFunction, ParsedItem, ParsedFunctionItem, ParsedGlobalItem, functions_in, globals_in}
use Rattle.gang_model.specs.Names.Scope.{is_built_in}
use Rattle.gang_model.specs.Types.Signatures.{same_signature}
use Rattle.source_tree.specs.declared.tree.Item.{Item}
use Rattle.source_tree.specs.Tree.{item_view}
use Rattle.ispc_names_declarations.specs.NamesBefore.{later_globals, later_functions}
use Rattle.ispc_names_declarations.specs.SignatureKeys.{signature_key}
use Rattle.gang_model.proofs.JudgedLaws.{least_fault-append}
use Rattle.ispc_names_declarations.proofs.Merging.{Fault, one_more}
use Rattle.ispc_names_declarations.proofs.Keys.{same_key}

-- ---- names in a list

among-last : (q : Name) (names : List Name) (name : Name) → is_among q (names ++ name ∷ []) ≡ (same_text q name || is_among q names)
among-last q [] name = refl
among-last q (n ∷ names) name =
    ap (λ b. same_text q n || b) (among-last q names name)
    ∙ (sym (or_assoc (same_text q n) (same_text q name) (is_among q names))
    ∙ (ap (λ b. b || is_among q names) (or_comm (same_text q n) (same_text q name)) ∙ or_assoc (same_text q name) (same_text q n) (is_among q names)))

-- ---- file-scope variables

later_globals-twice : (globals : List ParsedGlobal) (names before : List Name) → ((q : Name) → is_among q names ≡ is_among q before)
    → later_globals globals names ≡ globals_twice globals before
later_globals-twice [] names before h = refl
later_globals-twice (g ∷ globals) names before h =
    ap (λ b. fault_if (b || is_built_in g.name) S6 g.at ++ later_globals globals (names ++ g.name ∷ [])) (h g.name)
    ∙ ap (λ xs. fault_if (is_among g.name before || is_built_in g.name) S6 g.at ++ xs)
    (later_globals-twice globals (names ++ g.name ∷ []) (g.name ∷ before) (λ q. among-last q names g.name ∙ ap (λ b. same_text q g.name || b) (h q)))

pub globals_step : (rest later : List ParsedGlobal) (g : ParsedGlobal) (before grown : List Name) (name : Name) (total found fault more : Fault) (taken : Bool)
    → rest ≡ g ∷ later → total ≡ merged found (least_fault (later_globals rest before)) → name ≡ g.name → taken ≡ (is_among name before || is_built_in name)
    → fault ≡ least_fault (fault_if taken S6 g.at) → more ≡ merged found fault → grown ≡ before ++ g.name ∷ []
    → total ≡ merged more (least_fault (later_globals later grown))
globals_step rest later g before grown name total found fault more taken split t same test f m more_names =
    let own = fault_if (is_among g.name before || is_built_in g.name) S6 g.at in
    one_more total found fault more (least_fault own) (least_fault (later_globals rest before)) (least_fault (later_globals later grown)) t
    (ap (λ gs. least_fault (later_globals gs before)) split
    ∙ (least_fault-append own (later_globals later (before ++ g.name ∷ []))
    ∙ ap (λ ns. merged (least_fault own) (least_fault (later_globals later ns))) (sym more_names)))
    (f ∙ ap (λ b. least_fault (fault_if b S6 g.at)) (test ∙ ap (λ n. is_among n before || is_built_in n) same))
    m

pub globals_found : {E : Type 0} (result : Result Fault E) (globals : List ParsedGlobal) (before : List Name) → before ≡ []
    → IfOk result (λ fault. fault ≡ least_fault (later_globals globals before)) → IfOk result (λ fault. fault ≡ least_fault (globals_twice globals []))
globals_found result globals before none h =
    IfOk-weaker result (λ fault. fault ≡ least_fault (later_globals globals before)) (λ fault. fault ≡ least_fault (globals_twice globals []))
    (λ fault f. f ∙ (ap (λ names. least_fault (later_globals globals names)) none ∙ ap least_fault (later_globals-twice globals [] [] (λ q. refl)))) h

-- ---- functions

later_functions-twice : (functions : List ParsedFunction) (keys : List Name) (before : List ParsedFunction)
    → ((f : ParsedFunction) → is_among (signature_key f) keys ≡ list_any (same_signature f) before)
    → later_functions functions keys ≡ functions_twice functions before
later_functions-twice [] keys before h = refl
later_functions-twice (f ∷ functions) keys before h =
    ap (λ b. fault_if b S6 f.at ++ later_functions functions (keys ++ signature_key f ∷ [])) (h f)
    ∙ ap (λ xs. fault_if (list_any (same_signature f) before) S6 f.at ++ xs)
    (later_functions-twice functions (keys ++ signature_key f ∷ []) (f ∷ before) one)
  where
    one : (g : ParsedFunction) → is_among (signature_key g) (keys ++ signature_key f ∷ []) ≡ list_any (same_signature g) (f ∷ before)
    one g =
        among-last (signature_key g) keys (signature_key f)
        ∙ (ap (λ b. b || is_among (signature_key g) keys) (same_key g f) ∙ ap (λ b. same_signature g f || b) (h g))

pub functions_step : (rest later : List ParsedFunction) (f : ParsedFunction) (before grown : List Name) (total found fault more : Fault)
    → rest ≡ f ∷ later → total ≡ merged found (least_fault (later_functions rest before)) → fault ≡ least_fault (fault_if (is_among (signature_key f) before) S6 f.at)
    → more ≡ merged found fault → grown ≡ before ++ signature_key f ∷ []
    → total ≡ merged more (least_fault (later_functions later grown))
functions_step rest later f before grown total found fault more split t own_is m more_names =
    let own = fault_if (is_among (signature_key f) before) S6 f.at in
    one_more total found fault more (least_fault own) (least_fault (later_functions rest before)) (least_fault (later_functions later grown)) t
    (ap (λ fs. least_fault (later_functions fs before)) split
    ∙ (least_fault-append own (later_functions later (before ++ signature_key f ∷ []))
    ∙ ap (λ ns. merged (least_fault own) (least_fault (later_functions later ns))) (sym more_names)))
    own_is m

pub functions_found : {E : Type 0} (result : Result Fault E) (functions : List ParsedFunction) (before : List Name) → before ≡ []
    → IfOk result (λ fault. fault ≡ least_fault (later_functions functions before)) → IfOk result (λ fault. fault ≡ least_fault (functions_twice functions []))
functions_found result functions before none h =
    IfOk-weaker result (λ fault. fault ≡ least_fault (later_functions functions before)) (λ fault. fault ≡ least_fault (functions_twice functions []))
    (λ fault f. f ∙ (ap (λ keys. least_fault (later_functions functions keys)) none ∙ ap least_fault (later_functions-twice functions [] [] (λ g. refl)))) h

-- ---- the items of a tree

functions_first : (x : ParsedItem) (xs : List ParsedItem) → functions_in (x ∷ xs) ≡ functions_in (x ∷ []) ++ functions_in xs
functions_first (ParsedFunctionItem f) xs = refl
functions_first (ParsedGlobalItem g) xs = refl

globals_first : (x : ParsedItem) (xs : List ParsedItem) → globals_in (x ∷ xs) ≡ globals_in (x ∷ []) ++ globals_in xs
globals_first (ParsedFunctionItem f) xs = refl
globals_first (ParsedGlobalItem g) xs = refl

-- one more item
pub functions_passed : (rest later : List Item) (x : Item) (found more all : List ParsedFunction) → rest ≡ x ∷ later → found ++ functions_in (map item_view rest) ≡ all
    → more ≡ found ++ functions_in (item_view x ∷ []) → more ++ functions_in (map item_view later) ≡ all
functions_passed rest later x found more all split t m =
    ap (λ fs. fs ++ functions_in (map item_view later)) m
    ∙ (append_assoc found (functions_in (item_view x ∷ [])) (functions_in (map item_view later))
    ∙ (ap (λ fs. found ++ fs) (sym (functions_first (item_view x) (map item_view later)))
    ∙ (ap (λ xs. found ++ functions_in (map item_view xs)) (sym split) ∙ t)))

pub globals_passed : (rest later : List Item) (x : Item) (found more all : List ParsedGlobal) → rest ≡ x ∷ later → found ++ globals_in (map item_view rest) ≡ all
    → more ≡ found ++ globals_in (item_view x ∷ []) → more ++ globals_in (map item_view later) ≡ all
globals_passed rest later x found more all split t m =
    ap (λ gs. gs ++ globals_in (map item_view later)) m
    ∙ (append_assoc found (globals_in (item_view x ∷ [])) (globals_in (map item_view later))
    ∙ (ap (λ gs. found ++ gs) (sym (globals_first (item_view x) (map item_view later)))
    ∙ (ap (λ xs. found ++ globals_in (map item_view xs)) (sym split) ∙ t)))

-- no item is left
pub functions_all : (rest : List Item) (found all : List ParsedFunction) → found ++ functions_in (map item_view rest) ≡ all → rest ≡ [] → found ≡ all
functions_all rest found all t none = sym (append-nil found) ∙ (ap (λ xs. found ++ functions_in (map item_view xs)) (sym none) ∙ t)

pub globals_all : (rest : List Item) (found all : List ParsedGlobal) → found ++ globals_in (map item_view rest) ≡ all → rest ≡ [] → found ≡ all
globals_all rest found all t none = sym (append-nil found) ∙ (ap (λ xs. found ++ globals_in (map item_view xs)) (sym none) ∙ t)
