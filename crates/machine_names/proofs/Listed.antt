-- The variables that are listed at a step, by their numbers: the first one of a name.
use Rattle.std.proofs.Common.{◌≡◌, refl, sym, ap, subst, ◌∙◌, ℕ, zero, suc, ◌+◌, ◌-◌, ◌<◌, ◌≤◌, cond, eqb, Bool, true, false, List, [], ◌∷◌, length, get_or, Option, Some, None, arith}
use Rattle.std.specs.Prelude.{map, filter, nat_le, option_map, slice_get, if◌then◌else◌}
use Rattle.std.specs.List.{range_with_len}
use Rattle.std.proofs.lemmas.Bool.Decides.{nat_tests}
use Rattle.std.specs.Option.{option_eq}
use Rattle.std.proofs.lemmas.Option.{slice_get-map}
use Rattle.std.proofs.lemmas.Simd.{map-map}
use Rattle.gang_types.specs.declared.places.VarId.{VarId}
use Rattle.gang_types.specs.declared.places.VarId.TheVariants.{Local}
use Rattle.gang_model.specs.Source.Names.{named, same_text}
use Rattle.gang_model.specs.Debugger.Positions.{scope_of}
use Rattle.gang_model.specs.Types.Resolved.{local_at, standing_with}
use Rattle.gang_model.specs.Names.Scope.{Binding, declaration, names_at, unhidden}
use Rattle.gang_model.specs.Types.Tree.{Variable}
use Rattle.ispc_names_table.specs.declared.table.Declaration.{Declaration}
use Rattle.ispc_names_table.specs.declared.table.Standing.{Standing}
use Rattle.debug_traits.specs.Machines.{IsOneOf}
use Rattle.ispc_names_table.specs.Scopes.{in_scope, newest_first, standing_view, standings_view}
use Rattle.ispc_names_table.proofs.InnerNames.{declaration-unhidden}
use Rattle.ispc_names_table.proofs.Links.{linked-none}
use Rattle.ispc_names_table.proofs.ListedNumbers.{front_number, is_listed, listed_ids, name_at, passing, tested}
use Rattle.typed_tree.specs.declared.program.Function.{Function}
use Rattle.typed_tree.specs.Views.{function_view, variable_view}
use Rattle.machine_names.specs.declared.listing.ListedKind.{ListedKind}
use Rattle.machine_names.specs.Listed.{is_from, is_of, listed_from}
use Rattle.machine_names.proofs.FirstNamed.{scope_names}

-- the innermost variable in scope at a step, none past the last step
abbrev pub innermost_at : Option Standing → Option ℕ
innermost_at None = None
innermost_at (Some s) = s.innermost

names_of : (ds : List Declaration) (o : Option Standing) → names_at (option_map (standing_view ds) o) ≡ unhidden (in_scope ds (innermost_at o))
names_of ds None = sym (ap unhidden (linked-none (newest_first ds)))
names_of ds (Some s) = refl

pub listed_names : (ds : List Declaration) (ss : List Standing) (step : ℕ) → names_at (slice_get (map (standing_view ds) ss) step) ≡ unhidden (in_scope ds (innermost_at (slice_get ss step)))
listed_names ds ss step = ap names_at (slice_get-map (standing_view ds) ss step) ∙ names_of ds (slice_get ss step)

-- lists of the same ids, of which the second are given by numbers
ids_same : (bs : List Binding) (js : List ℕ) → ((k : ℕ) → option_map (λ (b : Binding). b.id) (slice_get bs k) ≡ option_map Local (slice_get js k)) → map (λ (b : Binding). b.id) bs ≡ map Local js
ids_same [] [] h = refl
ids_same [] (j ∷ js) h = let first = h 0 in cc
ids_same (b ∷ bs) [] h = let first = h 0 in cc
ids_same (b ∷ bs) (j ∷ js) h =
    let first : b.id ≡ Local j = let e = h 0 in cc in
    ap (λ id. id ∷ map (λ (b : Binding). b.id) bs) first ∙ ap (λ ids. Local j ∷ ids) (ids_same bs js (λ k. h (suc k)))

-- the variables that pass, from a number on
abbrev pub from_number : List Variable → (ℕ → Bool) → (a n : ℕ) → List Variable
from_number vs test a n = map (λ j. local_at vs (Local j)) (passing test a n)

-- what is in scope at a step are the variables that their own names stand for
pub scope_numbers : (vs : List Variable) (ds : List Declaration) (ss : List Standing) (step : ℕ)
    → scope_of (slice_get (map (standing_with vs) (map (standing_view ds) ss)) step) ≡ from_number vs (is_listed (name_at ds) (in_scope ds (innermost_at (slice_get ss step)))) 0 (length ds)
scope_numbers vs ds ss step =
    let i = innermost_at (slice_get ss step) in
    scope_names vs (map (standing_view ds) ss) step
    ∙ ap (map (λ (b : Binding). local_at vs b.id)) (listed_names ds ss step)
    ∙ sym (map-map (local_at vs) (λ (b : Binding). b.id) (unhidden (in_scope ds i)))
    ∙ ap (map (local_at vs)) (ids_same (unhidden (in_scope ds i)) (passing (is_listed (name_at ds) (in_scope ds i)) 0 (length ds)) (listed_ids ds i))
    ∙ map-map (local_at vs) Local (passing (is_listed (name_at ds) (in_scope ds i)) 0 (length ds))

-- the look-up by a declaration's name says whether it is listed
pub found_listed : (ds : List Declaration) (ss : List Standing) (step j : ℕ) (d : Declaration) (text : List ℕ) (found : Option ℕ) (b : Bool) → j < length ds → d ≡ get_or ds j d → text ≡ d.name.items
    → option_map Local found ≡ declaration (names_at (slice_get (map (standing_view ds) ss) step)) text → b ≡ option_eq eqb found (Some j)
    → is_listed (name_at ds) (in_scope ds (innermost_at (slice_get ss step))) j ≡ b
found_listed ds ss step j d text found b lt is read said e =
    let i = innermost_at (slice_get ss step) in
    let names = ap (λ bs. declaration bs text) (listed_names ds ss step) ∙ declaration-unhidden (in_scope ds i) text in
    tested ds i j d text found b lt is read (said ∙ names) e

-- ---- one number after another

front_named : (vs : List Variable) (test : ℕ → Bool) (name : List ℕ) (a n : ℕ) (b t : Bool) → a < n → test a ≡ t → same_text (local_at vs (Local a)).name name ≡ b
    → named name (from_number vs test a n) ≡ cond t (if b then Some (local_at vs (Local a)) else named name (from_number vs test (a + 1) n)) (named name (from_number vs test (a + 1) n))
front_named vs test name a n b t lt passes same = ap (λ js. named name (map (λ j. local_at vs (Local j)) js)) (front_number test a n lt) ∙ ap pick passes ∙ chosen t
  where
    rest : List ℕ
    rest = passing test (a + 1) n

    pick : Bool → Option Variable
    pick t = named name (map (λ j. local_at vs (Local j)) (cond t (a ∷ rest) rest))

    chosen : (t : Bool) → pick t ≡ cond t (if b then Some (local_at vs (Local a)) else named name (from_number vs test (a + 1) n)) (named name (from_number vs test (a + 1) n))
    chosen true = ap (λ b. if b then Some (local_at vs (Local a)) else named name (from_number vs test (a + 1) n)) same
    chosen false = refl

-- the variable of a number is listed and has the name
pub number_first : (vs : List Variable) (test : ℕ → Bool) (name : List ℕ) (a n : ℕ) → a < n → test a ≡ true → same_text (local_at vs (Local a)).name name ≡ true
    → named name (from_number vs test a n) ≡ Some (local_at vs (Local a))
number_first vs test name a n lt passes same = front_named vs test name a n true true lt passes same

-- it has another name
pub number_other : (vs : List Variable) (test : ℕ → Bool) (name : List ℕ) (a n : ℕ) → a < n → same_text (local_at vs (Local a)).name name ≡ false
    → named name (from_number vs test (a + 1) n) ≡ named name (from_number vs test a n)
number_other vs test name a n lt other = sym (front_named vs test name a n false (test a) lt refl other ∙ either (test a))
  where
    either : (t : Bool) → cond t (named name (from_number vs test (a + 1) n)) (named name (from_number vs test (a + 1) n)) ≡ named name (from_number vs test (a + 1) n)
    either true = refl
    either false = refl

-- it is not listed
pub number_hidden : (vs : List Variable) (test : ℕ → Bool) (name : List ℕ) (a n : ℕ) → a < n → test a ≡ false
    → named name (from_number vs test (a + 1) n) ≡ named name (from_number vs test a n)
number_hidden vs test name a n lt hidden = sym (front_named vs test name a n (same_text (local_at vs (Local a)).name name) false lt hidden refl)

-- ---- those that are listed

-- the variables in scope that are listed from a number on
abbrev pub kind_from : ListedKind → List Variable → (ℕ → Bool) → (a n : ℕ) → List Variable
kind_from kind vs test a n = filter (λ v. is_of kind v) (from_number vs test a n)

front_kind : (kind : ListedKind) (vs : List Variable) (test : ℕ → Bool) (a n : ℕ) (t o : Bool) → a < n → test a ≡ t → is_of kind (local_at vs (Local a)) ≡ o
    → kind_from kind vs test a n ≡ cond t (cond o (local_at vs (Local a) ∷ kind_from kind vs test (a + 1) n) (kind_from kind vs test (a + 1) n)) (kind_from kind vs test (a + 1) n)
front_kind kind vs test a n t o lt passes is = ap (λ js. filter (λ v. is_of kind v) (map (λ j. local_at vs (Local j)) js)) (front_number test a n lt) ∙ ap pick passes ∙ chosen t
  where
    rest : List ℕ
    rest = passing test (a + 1) n

    pick : Bool → List Variable
    pick t = filter (λ v. is_of kind v) (map (λ j. local_at vs (Local j)) (cond t (a ∷ rest) rest))

    chosen : (t : Bool) → pick t ≡ cond t (cond o (local_at vs (Local a) ∷ kind_from kind vs test (a + 1) n) (kind_from kind vs test (a + 1) n)) (kind_from kind vs test (a + 1) n)
    chosen true = ap (λ o. cond o (local_at vs (Local a) ∷ kind_from kind vs test (a + 1) n) (kind_from kind vs test (a + 1) n)) is
    chosen false = refl

-- the variable of a number is the first of them
pub kind_first : (kind : ListedKind) (vs : List Variable) (test : ℕ → Bool) (a n : ℕ) → a < n → test a ≡ true → is_of kind (local_at vs (Local a)) ≡ true
    → kind_from kind vs test a n ≡ local_at vs (Local a) ∷ kind_from kind vs test (a + 1) n
kind_first kind vs test a n lt passes own = front_kind kind vs test a n true true lt passes own

-- it is not in scope
pub kind_hidden : (kind : ListedKind) (vs : List Variable) (test : ℕ → Bool) (a n : ℕ) → a < n → test a ≡ false → kind_from kind vs test (a + 1) n ≡ kind_from kind vs test a n
kind_hidden kind vs test a n lt hidden = sym (front_kind kind vs test a n false (is_of kind (local_at vs (Local a))) lt hidden refl)

-- it is not of this kind
pub kind_other : (kind : ListedKind) (vs : List Variable) (test : ℕ → Bool) (a n : ℕ) → a < n → is_of kind (local_at vs (Local a)) ≡ false → kind_from kind vs test (a + 1) n ≡ kind_from kind vs test a n
kind_other kind vs test a n lt is = sym (front_kind kind vs test a n (test a) false lt refl is ∙ either (test a))
  where
    either : (t : Bool) → cond t (kind_from kind vs test (a + 1) n) (kind_from kind vs test (a + 1) n) ≡ kind_from kind vs test (a + 1) n
    either true = refl
    either false = refl

-- past the last number there is none
pub kind_end : (kind : ListedKind) (vs : List Variable) (test : ℕ → Bool) (a n : ℕ) → n ≤ a → kind_from kind vs test a n ≡ []
kind_end kind vs test a n past =
    let none : n - a ≡ 0 = omega arith in
    ap (λ m. filter (λ v. is_of kind v) (map (λ j. local_at vs (Local j)) (filter test (range_with_len a m)))) none

-- ---- what a clause says of them

keep_one : (p : ℕ → Bool) (t : Bool) (x : ℕ) (xs : List ℕ) → p x ≡ true → filter p xs ≡ xs → filter p (cond t (x ∷ xs) xs) ≡ cond t (x ∷ xs) xs
keep_one p true x xs e h = ap (λ b. cond b (x ∷ filter p xs) (filter p xs)) e ∙ ap (λ ys. x ∷ ys) h
keep_one p false x xs e h = h

drop_one : (p : ℕ → Bool) (t : Bool) (x : ℕ) (xs : List ℕ) → p x ≡ false → filter p (cond t (x ∷ xs) xs) ≡ filter p xs
drop_one p true x xs e = ap (λ b. cond b (x ∷ filter p xs) (filter p xs)) e
drop_one p false x xs e = refl

at_least : (a b : ℕ) → a ≤ b → nat_le a b ≡ true
at_least a b le = grind (arith, nat_tests)

less : (a b : ℕ) → b < a → nat_le a b ≡ false
less a b lt = grind (arith, nat_tests)

-- of numbers that are at least a, none is left out
kept_all : (test : ℕ → Bool) (a b m : ℕ) → a ≤ b → filter (nat_le a) (filter test (range_with_len b m)) ≡ filter test (range_with_len b m)
kept_all test a b zero le = refl
kept_all test a b (suc m) le =
    keep_one (nat_le a) (test b) b (filter test (range_with_len (b + 1) m)) (at_least a b le) (kept_all test a (b + 1) m (omega (arith, le)))

kept_some : (test : ℕ → Bool) (a b k m : ℕ) → a ≡ b + k → filter (nat_le a) (filter test (range_with_len b m)) ≡ filter test (range_with_len a (m - k))
kept_some test a b zero m e =
    let same : b ≡ a = omega (arith, e) in
    let all : m ≡ m - 0 = omega arith in
    kept_all test a b m (omega (arith, e)) ∙ ap (λ n. filter test (range_with_len n m)) same ∙ ap (λ n. filter test (range_with_len a n)) all
kept_some test a b (suc k) zero e =
    let none : 0 ≡ 0 - suc k = omega arith in
    ap (λ n. filter test (range_with_len a n)) none
kept_some test a b (suc k) (suc m) e =
    let fewer : m - k ≡ suc m - suc k = omega arith in
    drop_one (nat_le a) (test b) b (filter test (range_with_len (b + 1) m)) (less a b (omega (arith, e)))
    ∙ kept_some test a (b + 1) k m (omega (arith, e)) ∙ ap (λ n. filter test (range_with_len a n)) fewer

-- those that pass and are at least a
passing_from : (test : ℕ → Bool) (a n : ℕ) → filter (nat_le a) (passing test 0 n) ≡ passing test a n
passing_from test a n =
    let fewer : (n - 0) - a ≡ n - a = omega arith in
    kept_some test a 0 a (n - 0) (omega arith) ∙ ap (λ m. filter test (range_with_len a m)) fewer

ids_from : (a : ℕ) (bs : List Binding) → map (λ (b : Binding). b.id) (filter (λ (b : Binding). is_from a b.id) bs) ≡ filter (is_from a) (map (λ (b : Binding). b.id) bs)
ids_from a [] = refl
ids_from a (b ∷ bs) = one (is_from a b.id) (filter (λ (b : Binding). is_from a b.id) bs) (filter (is_from a) (map (λ (b : Binding). b.id) bs)) (ids_from a bs)
  where
    one : (t : Bool) (rest : List Binding) (ids : List VarId) → map (λ (b : Binding). b.id) rest ≡ ids → map (λ (b : Binding). b.id) (cond t (b ∷ rest) rest) ≡ cond t (b.id ∷ ids) ids
    one true rest ids h = ap (λ ids. b.id ∷ ids) h
    one false rest ids h = h

local_ids : (a : ℕ) (js : List ℕ) → filter (is_from a) (map Local js) ≡ map Local (filter (nat_le a) js)
local_ids a [] = refl
local_ids a (j ∷ js) = one (nat_le a j) (filter (is_from a) (map Local js)) (filter (nat_le a) js) (local_ids a js)
  where
    one : (t : Bool) (ids : List VarId) (rest : List ℕ) → ids ≡ map Local rest → cond t (Local j ∷ ids) ids ≡ map Local (cond t (j ∷ rest) rest)
    one true ids rest h = ap (λ ids. Local j ∷ ids) h
    one false ids rest h = h

-- what is listed from a number on
pub listed_rest : (kind : ListedKind) (vs : List Variable) (ds : List Declaration) (ss : List Standing) (step a : ℕ)
    → filter (λ v. is_of kind v) (map (λ (b : Binding). local_at vs b.id) (filter (λ (b : Binding). is_from a b.id) (names_at (slice_get (map (standing_view ds) ss) step))))
    ≡ kind_from kind vs (is_listed (name_at ds) (in_scope ds (innermost_at (slice_get ss step)))) a (length ds)
listed_rest kind vs ds ss step a =
    let i = innermost_at (slice_get ss step) in
    let test = is_listed (name_at ds) (in_scope ds i) in
    let names = unhidden (in_scope ds i) in
    let all = passing test 0 (length ds) in
    let ids = ids_from a names ∙ ap (filter (is_from a)) (ids_same names all (listed_ids ds i)) ∙ local_ids a all ∙ ap (map Local) (passing_from test a (length ds)) in
    ap (filter (λ v. is_of kind v)) (ap (λ bs. map (λ (b : Binding). local_at vs b.id) (filter (λ (b : Binding). is_from a b.id) bs)) (listed_names ds ss step)
    ∙ sym (map-map (local_at vs) (λ (b : Binding). b.id) (filter (λ (b : Binding). is_from a b.id) names))
    ∙ ap (map (local_at vs)) ids
    ∙ map-map (local_at vs) Local (passing test a (length ds)))

-- from the first number on they are all
pub listed_all : (kind : ListedKind) (f : Function) (step : ℕ) → listed_from kind f step 0 ≡ filter (λ v. is_of kind v) (scope_of (slice_get (function_view f).standings step))
listed_all kind f step =
    let vs = map variable_view f.variables.items in
    let ds = f.scopes.declarations.items in
    let ss = f.scopes.standings.items in
    listed_rest kind vs ds ss step 0 ∙ sym (ap (filter (λ v. is_of kind v)) (scope_numbers vs ds ss step))

kept_mapped : {A B : Type 0} (g : A → B) (test : A → Bool) (xs : List A) (k : ℕ) (y : B) → slice_get (map g (filter test xs)) k ≡ Some y → (n : ℕ) × (slice_get (map g xs) n ≡ Some y)
kept_mapped g test [] k y e = cc
kept_mapped g test (x ∷ xs) k y e = either (test x) k e (λ k. kept_mapped g test xs k y)
  where
    either : (b : Bool) (k : ℕ) → slice_get (map g (cond b (x ∷ filter test xs) (filter test xs))) k ≡ Some y
        → ((k : ℕ) → slice_get (map g (filter test xs)) k ≡ Some y → (n : ℕ) × (slice_get (map g xs) n ≡ Some y)) → (n : ℕ) × (slice_get (map g (x ∷ xs)) n ≡ Some y)
    either true zero e more = (0, e)
    either true (suc k) e more = let (n, get) = more k e in (suc n, get)
    either false k e more = let (n, get) = more k e in (suc n, get)

-- one of those that pass is one of all
one_of_all : (test : Variable → Bool) (vs : List Variable) (k : ℕ) (v : Variable) → slice_get (filter test vs) k ≡ Some v → IsOneOf vs v
one_of_all test [] k v e = cc
one_of_all test (u ∷ vs) k v e = either (test u) k e (λ k. one_of_all test vs k v)
  where
    either : (b : Bool) (k : ℕ) → slice_get (cond b (u ∷ filter test vs) (filter test vs)) k ≡ Some v → ((k : ℕ) → slice_get (filter test vs) k ≡ Some v → IsOneOf vs v) → IsOneOf (u ∷ vs) v
    either true zero e more = (0, e)
    either true (suc k) e more = let (n, get) = more k e in (suc n, get)
    either false k e more = let (n, get) = more k e in (suc n, get)

-- and each is one of those in scope
pub listed_in_scope : (kind : ListedKind) (f : Function) (step from : ℕ) (v : Variable) (rest : List Variable) → listed_from kind f step from ≡ v ∷ rest → IsOneOf (scope_of (slice_get (function_view f).standings step)) v
listed_in_scope kind f step from v rest e =
    let vs = map variable_view f.variables.items in
    let names = names_at (slice_get (standings_view f.scopes) step) in
    let first : slice_get (listed_from kind f step from) 0 ≡ Some v = ap (λ us. slice_get us 0) e in
    let (k, here) = one_of_all (λ v. is_of kind v) (map (λ (b : Binding). local_at vs b.id) (filter (λ (b : Binding). is_from from b.id) names)) 0 v first in
    subst (λ us. IsOneOf us v) (sym (scope_names vs (standings_view f.scopes) step)) (kept_mapped (λ (b : Binding). local_at vs b.id) (λ (b : Binding). is_from from b.id) names k v here)
