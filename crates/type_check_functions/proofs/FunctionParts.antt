-- Functions, one after another.
use Rattle.std.proofs.Common.{◌≡◌, ℕ, ◌+◌, ◌<◌, ◌≤◌, refl, sym, ap, ap₂, ◌∙◌, List, [], ◌∷◌, ◌++◌, arith, length, get_or, take, map, append-nil, Bor}
use Rattle.std.specs.Prelude.{Option, Some, None, Result, Ok, Err, IfOk, option_map, slice_get}
use Rattle.std.specs.List.{zip}
use Rattle.std.proofs.Math.ListN.{drop_of_length-le}
use Rattle.std.proofs.lemmas.List.{map-append, take_more, take-append-drop, length-map}
use Rattle.std.proofs.lemmas.Option.{slice_get-map, slice_get-get_or}
use Rattle.std.proofs.lemmas.Slice.Zip.{length-zip, get_or-zip}
use Rattle.gang_model.specs.declared.refusals.SourceRefusal.{SourceRefusal}
use Rattle.gang_model.specs.Types.Tree as tree
use Rattle.gang_model.specs.Source.Parsed.{ParsedSource, ParsedFunction, functions_in, globals_in}
use Rattle.gang_model.specs.Names.Scope.{NameStanding, file_scope, standings_of}
use Rattle.gang_model.specs.Source.Judged.{Judged, Sound, Faulty, unless, both, ◌>>=◌, answer_of}
use Rattle.gang_model.specs.Types.Signatures.{result_of}
use Rattle.gang_model.specs.Types.Typing.{Scope}
use Rattle.gang_model.specs.Types.Statements.{Made, statements}
use Rattle.gang_model.specs.Types.TypeFaults.{signature_faults}
use Rattle.gang_model.specs.Types.Resolved.{global_entries, judged_function, judged_functions, param_entries, param_variables}
use Rattle.gang_model.proofs.JudgedLaws.{answer_unless}
use Rattle.source_answers.specs.declared.fault.SourceFault.{SourceFault}
use Rattle.source_answers.specs.declared.fault.SourceFault.TheVariants.{Memory, Refused}
use Rattle.source_answers.specs.Answers.{Answers}
use Rattle.source_tree.specs.declared.tree.Function.{Function}
use Rattle.source_tree.specs.Tree.{function_view}
use Rattle.ispc_names.specs.Tables.{AreTablesOf}
use Rattle.ispc_names_table.specs.declared.table.StepScopes.{StepScopes}
use Rattle.ispc_names_table.specs.Scopes.{standings_view}
use Rattle.typed_tree.specs.declared.program.Function.{Function as TypedFunction}
use Rattle.typed_tree.specs.Views as typed
use Rattle.type_check_parts.specs.Makes.{IfAnswered}
use Rattle.type_check_functions.specs.Bodies.{WithVariables, declared_variables, judged_body, own_variables, with_body}
use Rattle.type_check_functions.specs.Collected.{Adds}
use Rattle.type_check_functions.proofs.Collecting.{all_of, Collects, collects-fault, collects-sound, one_found}

-- ---- a function from its signature and its body

-- the body's variables are put together with the parameters, before or after the signature is judged
abbrev with_params : Judged Made → List tree.Variable → Judged WithVariables
with_params body params = do
  made ← body
  Sound (made.stmt, params ++ made.variables)

abbrev before : {C : Type 0} → Judged ParsedFunction → Judged Made → List tree.Variable → (tree.Stmt → List tree.Variable → C) → Judged C
before signature body params next = do
  parts ← both signature (with_params body params)
  Sound (next parts.1.0 parts.1.1)

abbrev after : {C : Type 0} → Judged ParsedFunction → Judged Made → List tree.Variable → (tree.Stmt → List tree.Variable → C) → Judged C
after signature body params next = do
  parts ← both signature body
  Sound (next parts.1.stmt (params ++ parts.1.variables))

regrouped : {C : Type 0} (signature : Judged ParsedFunction) (body : Judged Made) (params : List tree.Variable) (next : tree.Stmt → List tree.Variable → C)
    → before signature body params next ≡ after signature body params next
regrouped (Sound g) (Sound m) params next = refl
regrouped (Sound g) (Faulty first others) params next = refl
regrouped (Faulty a more) (Sound m) params next = refl
regrouped (Faulty a more) (Faulty first others) params next = refl

-- the function's signature and body, each judged by itself
abbrev pub judged_parts : (functions : List ParsedFunction) → ParsedFunction → (file : Scope) → Judged (ParsedFunction × WithVariables)
judged_parts functions f file = both (unless (signature_faults f) f) (judged_body functions f file)

-- the function that they stand for
abbrev pub from_parts : (functions : List ParsedFunction) → ParsedFunction → (file : Scope) → List NameStanding → Judged tree.Function
from_parts functions f file standings = do
  parts ← judged_parts functions f file
  Sound (with_body f parts.1 standings)

pub function-of_parts : (source : ParsedSource) (f : ParsedFunction) (functions : List ParsedFunction) (file : Scope) (standings : List NameStanding)
    → functions ≡ functions_in source → file ≡ global_entries 0 (globals_in source) → standings ≡ standings_of (file_scope source) f
    → from_parts functions f file standings ≡ judged_function source f
function-of_parts source f functions file standings fs gs ss =
    ap (λ x. from_parts x f file standings) fs
    ∙ (ap (λ x. from_parts (functions_in source) f x standings) gs
    ∙ (ap (from_parts (functions_in source) f (global_entries 0 (globals_in source))) ss
    ∙ regrouped (unless (signature_faults f) f)
    (statements f.body (record { functions = functions_in source; result = result_of f.spec }) (param_entries 0 f.params (global_entries 0 (globals_in source))) (length f.params) 0)
    (param_variables 0 f.params) (λ s variables. with_body f (s, variables) (standings_of (file_scope source) f))))

-- ---- functions in order

pub all-functions : (source : ParsedSource) (functions : List ParsedFunction) → all_of (map (judged_function source) functions) ≡ judged_functions source functions
all-functions source [] = refl
all-functions source (f ∷ functions) = ap (λ x. both (judged_function source f) x >>= (λ parts. Sound (parts.0 ∷ parts.1))) (all-functions source functions)

map-twice : {A B C : Type 0} (f : A → B) (g : B → C) (xs : List A) → map g (map f xs) ≡ map (λ x. g (f x)) xs
map-twice f g [] = refl
map-twice f g (x ∷ xs) = ap (λ ys. g (f x) ∷ ys) (map-twice f g xs)

some : {A : Type 0} {x y : A} → Some x ≡ Some y → x ≡ y
some e = cc

-- two lists that are mapped to one list agree at each place
same-at : {A B C : Type 0} (f : A → C) (g : B → C) (xs : List A) (ys : List B) (i : ℕ) (x : A) (y : B) → map f xs ≡ map g ys
    → i < length xs → x ≡ get_or xs i x → i < length ys → y ≡ get_or ys i y → f x ≡ g y
same-at f g xs ys i x y e lt is lt' is' =
    let left : slice_get (map f xs) i ≡ Some (f x) = slice_get-map f xs i ∙ ap (option_map f) (slice_get-get_or xs i x lt ∙ ap (λ z. Some z) (sym is)) in
    let right : slice_get (map g ys) i ≡ Some (g y) = slice_get-map g ys i ∙ ap (option_map g) (slice_get-get_or ys i y lt' ∙ ap (λ z. Some z) (sym is')) in
    some (sym left ∙ (ap (λ zs. slice_get zs i) e ∙ right))

-- the functions of a tree, as they are read there
abbrev pub views : List (Bor Function) → List ParsedFunction
views fs = map (λ (f : Bor Function). function_view f.now) fs

-- a pair of two lists
pub record ArePaired {A B : Type 0} (xs : List A) (ys : List B) (i : ℕ) (x : A) (y : B) : Type 0 where
  pub in_left : i < length xs
  pub left_is : x ≡ get_or xs i x
  pub in_right : i < length ys
  pub right_is : y ≡ get_or ys i y

pub pair-at : {A B : Type 0} (xs : List A) (ys : List B) (i : ℕ) (x : A) (y : B) → i < length (zip xs ys) → (x, y) ≡ get_or (zip xs ys) i (x, y) → ArePaired xs ys i x y
pair-at {A} {B} xs ys i x y lt is =
    let left : i < length xs = omega (arith, length-zip xs ys) in
    let right : i < length ys = omega (arith, length-zip xs ys) in
    let here = is ∙ get_or-zip xs ys i (x, y) left right in
    record {
      in_left = left;
      left_is = ap (λ (p : A × B). p.0) here;
      in_right = right;
      right_is = ap (λ (p : A × B). p.1) here;
    }

pub take_all : {A : Type 0} (xs : List A) (n : ℕ) → length xs ≤ n → take n xs ≡ xs
take_all xs n h = sym (append-nil (take n xs)) ∙ (ap (λ ys. take n xs ++ ys) (sym (drop_of_length-le xs h)) ∙ take-append-drop n xs)

module _ (source : ParsedSource) (fs : List (Bor Function)) (tables : List StepScopes) (are : views fs ≡ functions_in source) (stand : AreTablesOf source tables) where
  in_step : map standings_view tables ≡ map (λ (f : Bor Function). standings_of (file_scope source) (function_view f.now)) fs
  in_step = stand ∙ (ap (map (standings_of (file_scope source))) (sym are) ∙ map-twice (λ (f : Bor Function). function_view f.now) (standings_of (file_scope source)) fs)

  -- a function's steps are those of its table
  pub steps-of : (i : ℕ) (f : Bor Function) (t : StepScopes) → ArePaired fs tables i f t → standings_view t ≡ standings_of (file_scope source) (function_view f.now)
  steps-of i f t p = same-at standings_view (λ (g : Bor Function). standings_of (file_scope source) (function_view g.now)) tables fs i t f in_step p.in_right p.right_is p.in_left p.left_is

  same-length : length tables ≡ length fs
  same-length = sym (length-map tables standings_view) ∙ (ap length in_step ∙ length-map fs (λ (f : Bor Function). standings_of (file_scope source) (function_view f.now)))

  -- so many pairs are all functions
  pub all-paired : (n : ℕ) → n ≡ length (zip fs tables) → take n fs ≡ fs
  all-paired n e = take_all fs n (omega (arith, length-zip fs tables, same-length))

-- the functions so far, each judged by itself
abbrev pub function_parts : ParsedSource → List (Bor Function) → ℕ → List (Judged tree.Function)
function_parts source fs n = map (judged_function source) (views (take n fs))

views-last : {A : Type 0} (of : ParsedFunction → A) (fs : List (Bor Function)) (n : ℕ) (f : Bor Function) → n < length fs → f ≡ get_or fs n f
    → map of (views (take (n + 1) fs)) ≡ map of (views (take n fs)) ++ of (function_view f.now) ∷ []
views-last of fs n f lt is =
    ap (λ gs. map of (views gs)) (take_more fs n f lt ∙ ap (λ g. take n fs ++ g ∷ []) (sym is))
    ∙ (ap (map of) (map-append (λ (g : Bor Function). function_view g.now) (take n fs) (f ∷ []))
    ∙ map-append of (views (take n fs)) (function_view f.now ∷ []))

-- one more function with its variables
pub variables-made : (source : ParsedSource) (fs : List (Bor Function)) (n m : ℕ) (f : Bor Function) (before : List TypedFunction) (made : TypedFunction) → n < length fs → f ≡ get_or fs n f → m ≡ n + 1
    → map own_variables before ≡ map (declared_variables source) (views (take n fs)) → own_variables made ≡ declared_variables source (function_view f.now)
    → map own_variables (before ++ made ∷ []) ≡ map (declared_variables source) (views (take m fs))
variables-made source fs n m f before made lt is next h e =
    map-append own_variables before (made ∷ [])
    ∙ ap₂ (λ xs x. xs ++ x ∷ []) h e
    ∙ sym (ap (λ k. map (declared_variables source) (views (take k fs))) next ∙ views-last (declared_variables source) fs n f lt is)

-- one more function that is collected, if there is memory
module _ (source : ParsedSource) (fs : List (Bor Function)) (n m : ℕ) (f : Bor Function) (in_list : n < length fs) (here : f ≡ get_or fs n f) (next : m ≡ n + 1)
    (fault more : Option SourceRefusal) (before after : List TypedFunction) where
  abbrev own : Judged tree.Function
  own = judged_function source (function_view f.now)

  one_later : {A : Type 0} (told : List (Judged tree.Function) → A) → told (function_parts source fs m) ≡ told (function_parts source fs n ++ own ∷ [])
  one_later told = ap told (ap (function_parts source fs) next ∙ views-last (judged_function source) fs n f in_list here)

  pub functions-added : (function : Result TypedFunction SourceFault) → Adds function before after fault more → Answers typed.function_view function own
      → Collects fault (map typed.function_view before) (all_of (function_parts source fs n)) → Collects more (map typed.function_view after) (all_of (function_parts source fs m))
  functions-added (Ok made) added judged h =
      one_later (λ js. answer_of (all_of js)) ∙ (collects-sound fault (map typed.function_view before) (typed.function_view made) (function_parts source fs n) own h judged
      ∙ ap₂ answer_unless (sym added.1) (sym (ap (map typed.function_view) added.0 ∙ map-append typed.function_view before (made ∷ []))))
  functions-added (Err Memory) added judged h = absurd added
  functions-added (Err (Refused g)) added judged h =
      one_later (λ js. answer_of (all_of js)) ∙ (collects-fault fault g (map typed.function_view before) (function_parts source fs n) own h judged
      ∙ ap₂ answer_unless (sym added.1) (ap (map typed.function_view) (sym added.0)))

  pub variables-added : (function : Result TypedFunction SourceFault) → Adds function before after fault more
      → IfOk function (λ made. own_variables made ≡ declared_variables source (function_view f.now))
      → (fault ≡ None → map own_variables before ≡ map (declared_variables source) (views (take n fs)))
      → more ≡ None → map own_variables after ≡ map (declared_variables source) (views (take m fs))
  variables-added (Ok made) added own_is h none =
      ap (map own_variables) added.0 ∙ variables-made source fs n m f before made in_list here next (h (sym added.1 ∙ none)) own_is
  variables-added (Err Memory) added own_is h none = absurd added
  variables-added (Err (Refused g)) added own_is h none = absurd (one_found fault g (sym added.1 ∙ none))

-- what holds unless out of memory
pub if-added : {P : Type 0} (function : Result TypedFunction SourceFault) (before after : List TypedFunction) (fault more : Option SourceRefusal)
    → Adds function before after fault more → IfAnswered function P → P
if-added (Ok made) before after fault more added p = p
if-added (Err Memory) before after fault more added p = absurd added
if-added (Err (Refused g)) before after fault more added p = p

-- every function is collected
pub functions-done : (source : ParsedSource) (fs : List (Bor Function)) (n : ℕ) (fault : Option SourceRefusal) (items : List tree.Function)
    → views fs ≡ functions_in source → take n fs ≡ fs → Collects fault items (all_of (function_parts source fs n)) → Collects fault items (judged_functions source (functions_in source))
functions-done source fs n fault items are whole h =
    ap answer_of (sym (all-functions source (functions_in source))) ∙ (ap (λ gs. answer_of (all_of (map (judged_function source) gs))) (sym are ∙ ap views (sym whole)) ∙ h)
