-- The index variables of a sound foreach form are in scope in its body, where the debugger lists them; its head names variables in
-- scope alone.
use Rattle.std.proofs.Common.{ℕ, zero, suc, ◌+◌, ◌<◌, ◌≤◌, ◌==◌, Bool, true, false, List, [], ◌∷◌, ◌++◌, length, ◌≡◌, refl, sym, ◌∙◌, ap, subst, inl, inr, arith}
use Rattle.std.proofs.lemmas.Bool.Decides.{nat_tests}
use Rattle.std.specs.Prelude.{flat_map, if◌then◌else◌}
use Rattle.gang_types.specs.declared.types.IntType.{IntType}
use Rattle.gang_types.specs.declared.types.IntType.TheVariants as t
use Rattle.gang_types.specs.declared.types.Rate.TheVariants.{Uniform, Varying}
use Rattle.gang_types.specs.declared.places.VarId.TheVariants.{Local}
use Rattle.gang_model.specs.Types.Tree.{Dimension, RoundsOf, Rows, Tiles}
use Rattle.gang_model.specs.Source.Parsed.{Name, ParsedDim}
use Rattle.gang_model.specs.Names.Scope.{Site, with_name, with_dims, enclosed, in_rounds, in_domain}
use Rattle.gang_model.specs.Source.Judged.{both}
use Rattle.gang_model.proofs.JudgedLaws.{OnSound, on_both, on_pair}
use Rattle.gang_model.proofs.StandingLaws.{with_dims-next}
use Rattle.gang_model.specs.Types.Typing.{Scope, index_entry, given_value}
use Rattle.gang_model.specs.Types.Statements.{dimensions, index_entries}
use Rattle.machine_states.specs.Declared.{IsAmong, own_number, DimensionsDeclared, FormDeclared, declared_by_form}
use Rattle.machine_states.proofs.DeclaredLists.{within_front}
use Rattle.runnable_programs.proofs.ThereNames.{ScopeThere, NamesThere, scope_more, names_more}
use Rattle.runnable_programs.proofs.StepsNamed.{Before, IsNamed, value-named}

-- the head of a form names variables in scope alone, and its body finds its index variables declared, in scope and in the names there
pub record IsHead (scope inner : Scope) (k inner_k : ℕ) (inside : Site → Site) (form : RoundsOf) : Type 0 where
  pub named : (b : Before scope) → FormDeclared b.there form
  pub scopes : (b : Before scope) → ScopeThere (declared_by_form form ++ b.there) inner
  pub names : (there : List ℕ) (site : Site) → site.next ≡ k → NamesThere there site.environment → NamesThere (declared_by_form form ++ there) (inside site).environment
  pub next : (site : Site) → site.next ≡ k → (inside site).next ≡ inner_k

-- ---- one index variable

-- `foreach_active` and `foreach_unique`
pub one-head : (scope : Scope) (k : ℕ) (name : Name) (type : IntType) (form : RoundsOf) → declared_by_form form ≡ k ∷ [] → ((b : Before scope) → FormDeclared b.there form)
    → IsHead scope (index_entry name (Local k) type Uniform ∷ scope) k (suc k) (in_rounds name) form
one-head scope k name type form own named = record {
  named = named;
  scopes = λ b.
      subst (λ numbers. ScopeThere (numbers ++ b.there) (index_entry name (Local k) type Uniform ∷ scope)) (sym own)
      (λ scalar. inl refl, scope_more (k ∷ []) b.there scope b.in_scope);
  names = λ there site e names.
      subst (λ numbers. NamesThere (numbers ++ there) (in_rounds name site).environment) (sym own) (inl e, names_more (k ∷ []) there site.environment names);
  next = λ site e. ap suc e;
}

-- ---- those of a domain

-- so many numbers from one on
abbrev numbers_from : (first count : ℕ) → List ℕ
numbers_from k zero = []
numbers_from k (suc n) = k ∷ numbers_from (suc k) n

numbers_have : (k n i : ℕ) → k ≤ i → i < k + n → IsAmong i (numbers_from k n)
numbers_have k zero i from within = absurd (omega (arith, from, within))
numbers_have k (suc n) i from within = by (i == k) refl (λ past. numbers_have (suc k) n i past (omega (arith, within)))
  where
    by : (b : Bool) → (i == k) ≡ b → (suc k ≤ i → IsAmong i (numbers_from (suc k) n)) → IsAmong i (numbers_from k (suc n))
    by true e among = inl (grind (arith, nat_tests))
    by false e among = inr (among (grind (arith, nat_tests)))

module _ (there : List ℕ) where
  -- the numbers from k on are there, as many as a list is long
  abbrev HasRange : ℕ → ℕ → Type 0
  HasRange k n = (i : ℕ) → k ≤ i → i < k + n → IsAmong i there

  entries_there : (k : ℕ) (dims : List ParsedDim) (scope : Scope) → HasRange k (length dims) → ScopeThere there scope → ScopeThere there (index_entries k dims scope)
  entries_there k [] scope has h = h
  entries_there k (d ∷ dims) scope has h =
      entries_there (suc k) dims (index_entry d.name (Local k) t.Int32 Varying ∷ scope) (λ i from within. has i (omega (arith, from)) (omega (arith, within)))
      (λ scalar. has k (omega arith) (omega arith), h)

  dims_named : (dims : List ParsedDim) (site : Site) → HasRange site.next (length dims) → NamesThere there site.environment
      → NamesThere there (with_dims dims site).environment
  dims_named [] site has h = h
  dims_named (d ∷ dims) site has h =
      dims_named dims (with_name d.name site) (λ i from within. has i (omega (arith, from)) (omega (arith, within))) (has site.next (omega arith) (omega arith), h)

-- dimensions with index variables from the k-th on, whose bounds name variables in scope alone
pub record AreNamed (scope : Scope) (k : ℕ) (dims : List ParsedDim) (ds : List Dimension) : Type 0 where
  pub own : flat_map (λ (d : Dimension). own_number d.index.id) ds ≡ numbers_from k (length dims)
  pub bounds : (b : Before scope) → DimensionsDeclared b.there ds

pub dimensions-named : (scope : Scope) (k : ℕ) (dims : List ParsedDim) → OnSound (dimensions scope k dims) (AreNamed scope k dims)
dimensions-named scope k [] = record { own = refl; bounds = λ b. tt }
dimensions-named scope k (d ∷ dims) =
    let low = given_value d.low scope t.Int32 Uniform in
    let high = given_value d.high scope t.Int32 Uniform in
    on_pair (both low high) (dimensions scope (suc k) dims) _ (λ x. IsNamed scope x.0 × IsNamed scope x.1) (AreNamed scope (suc k) dims) (AreNamed scope k (d ∷ dims))
    (on_both low high (IsNamed scope) (IsNamed scope) (value-named scope d.low t.Int32 Uniform) (value-named scope d.high t.Int32 Uniform))
    (dimensions-named scope (suc k) dims)
    (λ x ds u more. record { own = ap (λ numbers. k ∷ numbers) more.own; bounds = λ b. (u.0 b, u.1 b, more.bounds b) })

module _ (scope : Scope) (k : ℕ) (dims : List ParsedDim) where
  abbrev own_numbers : List ℕ
  own_numbers = numbers_from k (length dims)

  numbers_there : (there : List ℕ) → HasRange (own_numbers ++ there) k (length dims)
  numbers_there there i from within = within_front own_numbers there i (numbers_have k (length dims) i from within)

  form-head : (form : RoundsOf) → declared_by_form form ≡ own_numbers → ((b : Before scope) → FormDeclared b.there form)
      → IsHead scope (index_entries k dims scope) k (k + length dims) (in_domain dims) form
  form-head form own named = record {
    named = named;
    scopes = λ b.
        subst (λ numbers. ScopeThere (numbers ++ b.there) (index_entries k dims scope)) (sym own)
        (entries_there (own_numbers ++ b.there) k dims scope (numbers_there b.there) (scope_more own_numbers b.there scope b.in_scope));
    names = λ there site e names.
        subst (λ numbers. NamesThere (numbers ++ there) (in_domain dims site).environment) (sym own)
        (dims_named (own_numbers ++ there) dims (enclosed site) (subst (λ i. HasRange (own_numbers ++ there) i (length dims)) (sym e) (numbers_there there))
        (names_more own_numbers there site.environment names));
    next = λ site e. with_dims-next dims (enclosed site) ∙ ap (λ i. i + length dims) e;
  }

  -- `foreach` and `foreach_tiled`
  pub domain-head : (is_tiled : Bool) (ds : List Dimension) → AreNamed scope k dims ds
      → IsHead scope (index_entries k dims scope) k (k + length dims) (in_domain dims) (if is_tiled then Tiles ds else Rows ds)
  domain-head true ds h = form-head (Tiles ds) h.own h.bounds
  domain-head false ds h = form-head (Rows ds) h.own h.bounds
