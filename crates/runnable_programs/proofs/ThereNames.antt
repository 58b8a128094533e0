-- Variables that are there, among those that are declared: in a scope, and among the names that the debugger lists at a step.
use Rattle.std.proofs.Common.{ℕ, false, List, [], ◌∷◌, ◌++◌, ◌≡◌, sym, append-nil, subst}
use Rattle.std.specs.Prelude.{filter, not}
use Rattle.gang_types.specs.declared.places.VarId.{VarId}
use Rattle.gang_types.specs.declared.places.VarId.TheVariants.{File, Local}
use Rattle.gang_model.specs.Source.Names.{same_text}
use Rattle.gang_model.specs.Names.Scope.{Binding, Environment, is_local, unhidden, listed, NameStanding}
use Rattle.gang_model.specs.Types.Typing.{Entry, Scope}
use Rattle.gang_model.proofs.StandingLaws.{Each, each_join, each_filter}
use Rattle.machine_states.specs.Declared.{IsThere}
use Rattle.machine_states.proofs.DeclaredLists.{within_back}

-- ---- lists

pub each_mapped : {A : Type 0} (P Q : A → Type 0) (xs : List A) → ((x : A) → P x → Q x) → Each P xs → Each Q xs
each_mapped P Q [] f all = tt
each_mapped P Q (x ∷ xs) f all = (f x all.0, each_mapped P Q xs f all.1)

-- ---- names and entries

-- a declared name stands for an array, or for a variable that is there
abbrev pub EntryThere : (there : List ℕ) → Entry → Type 0
EntryThere there n = n.variable.is_array ≡ false → IsThere there n.variable.id

abbrev pub ScopeThere : (there : List ℕ) → Scope → Type 0
ScopeThere there scope = Each (EntryThere there) scope

-- the same of a name as the debugger knows it
abbrev pub NameThere : (there : List ℕ) → Binding → Type 0
NameThere there b = IsThere there b.id

abbrev pub NamesThere : (there : List ℕ) → List Binding → Type 0
NamesThere there names = Each (NameThere there) names

-- what is there is there when more is declared
there_more : (more there : List ℕ) (id : VarId) → IsThere there id → IsThere (more ++ there) id
there_more more there (File k) h = tt
there_more more there (Local k) h = within_back more there k h

pub scope_more : (more there : List ℕ) (scope : Scope) → ScopeThere there scope → ScopeThere (more ++ there) scope
scope_more more there scope all = each_mapped (EntryThere there) (EntryThere (more ++ there)) scope (λ n h scalar. there_more more there n.variable.id (h scalar)) all

pub names_more : (more there : List ℕ) (names : List Binding) → NamesThere there names → NamesThere (more ++ there) names
names_more more there names all = each_mapped (NameThere there) (NameThere (more ++ there)) names (λ b h. there_more more there b.id h) all

-- ---- what is listed

there_unhidden : (there : List ℕ) (environment : Environment) → NamesThere there environment → NamesThere there (unhidden environment)
there_unhidden there [] p = tt
there_unhidden there (b ∷ environment) p =
    each_join (NameThere there) (filter (λ c. not (same_text c.name b.name)) (unhidden environment)) (b ∷ [])
    (each_filter (NameThere there) (λ c. not (same_text c.name b.name)) (unhidden environment) (there_unhidden there environment p.1)) (p.0, tt)

pub there_listed : (there : List ℕ) (environment : Environment) → NamesThere there environment → NamesThere there (listed environment)
there_listed there environment p =
    there_unhidden there (filter (λ b. is_local b.id) environment) (each_filter (NameThere there) (λ b. is_local b.id) environment p)

-- steps, each with what is listed there, and what is there before each
abbrev pub AreListed : List (List ℕ) → List NameStanding → Type 0
AreListed [] [] = Unit {0}
AreListed [] (standing ∷ standings) = ⊥
AreListed (there ∷ before) [] = ⊥
AreListed (there ∷ before) (standing ∷ standings) = NamesThere there standing.names × AreListed before standings

pub listed_join : (xs ys : List (List ℕ)) (first later : List NameStanding) → AreListed xs first → AreListed ys later → AreListed (xs ++ ys) (first ++ later)
listed_join [] ys [] later p q = q
listed_join [] ys (standing ∷ first) later p q = absurd p
listed_join (x ∷ xs) ys [] later p q = absurd p
listed_join (x ∷ xs) ys (standing ∷ first) later p q = (p.0, listed_join xs ys first later p.1 q)

-- before nothing more
pub listed_last : (xs : List (List ℕ)) (standings : List NameStanding) → AreListed xs standings → AreListed (xs ++ []) standings
listed_last xs standings p = subst (λ before. AreListed before standings) (sym (append-nil xs)) p
