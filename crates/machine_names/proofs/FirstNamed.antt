-- The first variable of a name in a list.
use Rattle.std.proofs.Common.{◌≡◌, refl, sym, ap, ◌∙◌, ℕ, zero, suc, ◌+◌, Bool, true, false, List, [], ◌∷◌, drop, Some, arith}
use Rattle.std.proofs.lemmas.Option.{get_or_from_slice_get, slice_get-map}
use Rattle.std.specs.Prelude.{bytes_eq, map, option_map, slice_get, if◌then◌else◌}
use Rattle.gang_types.specs.declared.places.VarId.TheVariants.{Local}
use Rattle.gang_model.specs.Source.Names.{named, same_text}
use Rattle.gang_model.specs.Debugger.Positions.{scope_of}
use Rattle.gang_model.specs.Types.Resolved.{local_at, no_variable, standing_with}
use Rattle.gang_model.specs.Names.Scope.{NameStanding, names_at}
use Rattle.gang_model.specs.Types.Tree.{Variable}
use Rattle.gang_model.proofs.SameTexts.{bytes_same}

pub drop_first : {A : Type 0} (xs : List A) (i : ℕ) (x : A) → slice_get xs i ≡ Some x → drop i xs ≡ x ∷ drop (suc i) xs
drop_first [] i x e = cc
drop_first (y ∷ xs) zero x e = let same : y ≡ x = cc in ap (λ z. z ∷ xs) same
drop_first (y ∷ xs) (suc i) x e = drop_first xs i x e

-- the test of a name, as the definitions name it
pub same_name : (text read name : List ℕ) (b : Bool) → read ≡ text → b ≡ bytes_eq read name → b ≡ same_text text name
same_name text read name b e t = t ∙ ap (λ x. bytes_eq x name) e ∙ bytes_same text name

pub get_mapped : {A B : Type 0} (g : A → B) (xs : List A) (i : ℕ) (x : A) → slice_get xs i ≡ Some x → slice_get (map g xs) i ≡ Some (g x)
get_mapped g xs i x e = slice_get-map g xs i ∙ ap (option_map g) e

-- ---- the first of a name

named_here : (name : List ℕ) (v : Variable) (vs : List Variable) (b : Bool) → b ≡ same_text v.name name → named name (v ∷ vs) ≡ (if b then Some v else named name vs)
named_here name v vs b e = ap (λ b. if b then Some v else named name vs) (sym e)

pub named_first : (name : List ℕ) (vs : List Variable) (k : ℕ) (v : Variable) → slice_get vs k ≡ Some v → true ≡ same_text v.name name → named name (drop k vs) ≡ named name vs → named name vs ≡ Some v
named_first name vs k v get same more = sym more ∙ ap (named name) (drop_first vs k v get) ∙ named_here name v (drop (suc k) vs) true same

pub named_later : (name : List ℕ) (vs : List Variable) (k : ℕ) (v : Variable) → slice_get vs k ≡ Some v → false ≡ same_text v.name name → named name (drop k vs) ≡ named name vs → named name (drop (k + 1) vs) ≡ named name vs
named_later name vs k v get other more =
    let next : k + 1 ≡ suc k = omega arith in
    ap (λ n. named name (drop n vs)) next ∙ sym (named_here name v (drop (suc k) vs) false other) ∙ sym (ap (named name) (drop_first vs k v get)) ∙ more

-- a variable that is found is one of them
pub named_there : (name : List ℕ) (vs : List Variable) (v : Variable) → named name vs ≡ Some v → (k : ℕ) × (slice_get vs k ≡ Some v)
named_there name [] v e = cc
named_there name (u ∷ vs) v e = either (same_text u.name name) e (named_there name vs v)
  where
    either : (b : Bool) → (if b then Some u else named name vs) ≡ Some v → (named name vs ≡ Some v → (k : ℕ) × (slice_get vs k ≡ Some v)) → (k : ℕ) × (slice_get (u ∷ vs) k ≡ Some v)
    either true is more = (0, is)
    either false is more = let (k, get) = more is in (suc k, get)

-- ---- the variables of a function

pub local_variable : (vs : List Variable) (n : ℕ) (v : Variable) → slice_get vs n ≡ Some v → local_at vs (Local n) ≡ v
local_variable vs n v get = get_or_from_slice_get vs n v no_variable get

-- the variables in scope at a step, by their numbers
pub scope_names : (vs : List Variable) (ss : List NameStanding) (i : ℕ) → scope_of (slice_get (map (standing_with vs) ss) i) ≡ map (λ b. local_at vs b.id) (names_at (slice_get ss i))
scope_names vs [] i = refl
scope_names vs (s ∷ ss) zero = refl
scope_names vs (s ∷ ss) (suc i) = scope_names vs ss i
