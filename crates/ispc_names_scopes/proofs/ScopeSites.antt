-- The present scope's names among the declarations.
use Rattle.std.proofs.Common.{◌≡◌, ℕ, suc, ◌+◌, ◌-◌, ◌≤◌, List, [], ◌∷◌, Bool, true, false, ◌||◌, map, take, drop, length, refl, sym, ap, ◌∙◌, arith, Option, Some, None}
use Rattle.std.specs.Prelude.{nat_le, if◌then◌else◌}
use Rattle.std.proofs.lemmas.Bool.Decides.{nat_tests}
use Rattle.gang_types.specs.declared.places.VarId.{VarId}
use Rattle.gang_model.specs.Source.Names.{same_text}
use Rattle.gang_model.specs.Source.Parsed.{Name}
use Rattle.gang_model.specs.Types.LibraryTable.{is_among}
use Rattle.gang_model.specs.Names.Scope.{Binding, Environment, declaration}
use Rattle.ispc_names_scopes.specs.declared.bindings.Innermost.{Innermost}
use Rattle.ispc_names_scopes.specs.Innermost.{innermost_of}
use Rattle.ispc_names_scopes.specs.Scopes.{position_of}
use Rattle.gang_model.proofs.SameTexts.{same_text-sym}

abbrev pub id_of : Option Innermost → Option VarId
id_of None = None
id_of (Some i) = Some i.id

pub id_of-innermost : (env : Environment) (name : Name) → id_of (innermost_of env name) ≡ declaration env name
id_of-innermost [] name = refl
id_of-innermost (b ∷ env) name = by (same_text b.name name) (id_of-innermost env name)
  where
    by : (t : Bool) → id_of (innermost_of env name) ≡ declaration env name
        → id_of (if t then Some (record { id = b.id; outside = length env }) else innermost_of env name) ≡ (if t then Some b.id else declaration env name)
    by true later = refl
    by false later = later

abbrev pub outside_of : Option Innermost → Option ℕ
outside_of None = None
outside_of (Some i) = Some i.outside

pub outside_of-innermost : (env : Environment) (name : Name) → outside_of (innermost_of env name) ≡ position_of env name
outside_of-innermost [] name = refl
outside_of-innermost (b ∷ env) name = by (same_text b.name name) (outside_of-innermost env name)
  where
    by : (t : Bool) → outside_of (innermost_of env name) ≡ position_of env name
        → outside_of (if t then Some (record { id = b.id; outside = length env }) else innermost_of env name) ≡ (if t then Some (length env) else position_of env name)
    by true later = refl
    by false later = later

-- whether the innermost declaration stands in the present scope
abbrev pub stands_here : ℕ → Option Innermost → Bool
stands_here outside None = false
stands_here outside (Some i) = nat_le outside i.outside

abbrev names_within : ℕ → Environment → List Name
names_within outside env = map (λ b. b.name) (take (length env - outside) env)

pub names_within-more : (outside : ℕ) (b : Binding) (env : Environment) → outside ≤ length env → names_within outside (b ∷ env) ≡ b.name ∷ names_within outside env
names_within-more outside b env h =
    let e : length (b ∷ env) - outside ≡ suc (length env - outside) = omega arith in
    ap (λ n. map (λ c. c.name) (take n (b ∷ env))) e

pub names_within-all : (env : Environment) (outside : ℕ) → length env ≤ outside → names_within outside env ≡ []
names_within-all env outside h = let e : length env - outside ≡ 0 = omega arith in ap (λ n. map (λ c. c.name) (take n env)) e

not_here : (outside : ℕ) (env : Environment) (name : Name) → length env ≤ outside → stands_here outside (innermost_of env name) ≡ false
not_here outside [] name h = refl
not_here outside (b ∷ env) name h = by (same_text b.name name) (not_here outside env name (omega arith))
  where
    by : (t : Bool) → stands_here outside (innermost_of env name) ≡ false
        → stands_here outside (if t then Some (record { id = b.id; outside = length env }) else innermost_of env name) ≡ false
    by true later = grind (arith, nat_tests)
    by false later = later

pub is_here-innermost : (outside : ℕ) (env : Environment) (name : Name) → is_among name (names_within outside env) ≡ stands_here outside (innermost_of env name)
is_here-innermost outside [] name = ap (λ xs. is_among name xs) (names_within-all [] outside (omega arith))
is_here-innermost outside (b ∷ env) name = choose (nat_le outside (length env)) refl (is_here-innermost outside env name)
  where
    by : (t : Bool) → nat_le outside (length env) ≡ true → is_among name (names_within outside env) ≡ stands_here outside (innermost_of env name)
        → (t || is_among name (names_within outside env)) ≡ stands_here outside (if t then Some (record { id = b.id; outside = length env }) else innermost_of env name)
    by true h later = sym h
    by false h later = later

    choose : (t : Bool) → nat_le outside (length env) ≡ t → is_among name (names_within outside env) ≡ stands_here outside (innermost_of env name)
        → is_among name (names_within outside (b ∷ env)) ≡ stands_here outside (innermost_of (b ∷ env) name)
    choose true h later =
        ap (is_among name) (names_within-more outside b env (grind (arith, nat_tests)))
        ∙ (ap (λ t. t || is_among name (names_within outside env)) (same_text-sym name b.name) ∙ by (same_text b.name name) h later)
    choose false h later =
        let all : length (b ∷ env) ≤ outside = grind (arith, nat_tests) in
        ap (is_among name) (names_within-all (b ∷ env) outside all) ∙ sym (not_here outside (b ∷ env) name all)

pub drop-one : {A : Type 0} (n : ℕ) (xs ys : List A) → ys ≡ drop n xs → drop 1 ys ≡ drop (n + 1) xs
drop-one {A = A} n xs ys e = ap (drop 1) e ∙ (one n xs ∙ ap (λ j. drop j xs) (suc-is n))
  where
    suc-is : (j : ℕ) → suc j ≡ j + 1
    suc-is j = omega arith

    one : (j : ℕ) (zs : List A) → drop 1 (drop j zs) ≡ drop (suc j) zs
    one Prim.Native.Nat.zero zs = refl
    one (suc j) [] = refl
    one (suc j) (z ∷ zs) = one j zs
