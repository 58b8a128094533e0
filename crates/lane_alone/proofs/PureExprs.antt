-- A sound expression names only what is in scope; a lane-pure one fits.
use Rattle.std.proofs.Common.{◌≡◌, refl, sym, ap, ◌∙◌, subst, ℕ, zero, suc, ◌+◌, ◌<◌, ◌≤◌, Bool, true, false, List, [], ◌∷◌, Some, None, arith}
use Rattle.std.specs.Prelude.{if◌then◌else◌, ◌&&◌, ◌||◌, ◌==◌, slice_get}
use Rattle.std.proofs.lemmas.Bool.{eq-eqb, ne_eqb, eqb-true}
use Rattle.gang_types.specs.declared.types.IntType.TheVariants as t
use Rattle.gang_types.specs.declared.types.Rate.{Rate}
use Rattle.gang_types.specs.declared.types.Rate.TheVariants.{Uniform, Varying}
use Rattle.gang_types.specs.declared.places.VarId.{VarId}
use Rattle.gang_types.specs.declared.places.VarId.TheVariants.{File, Local}
use Rattle.gang_model.specs.Types.Tree.{Program, Global, Variable, Var, Expr, Number, ProgramIndex, Read, Element, Unary, Binary, Convert, And, Or, Choice, OfOne, OfTwo, Select}
use Rattle.gang_model.specs.Types.Conversions.{is_varying}
use Rattle.gang_model.specs.Types.Typing.{Entry, Scope}
use Rattle.gang_model.specs.Types.WellScoped.{Table, variable_at, IsScalar, IsArray, ExprScoped}
use Rattle.gang_model.specs.Running.State.{same_id}
use Rattle.gang_model.specs.Running.LanePure.{is_pure}
use Rattle.gang_model.proofs.JudgedLaws.{and_true}
use Rattle.gang_model.proofs.StandingLaws.{Each}
use Rattle.gang_model.proofs.ScopedExprs.{EntryScoped}
use Rattle.gang_model.specs.Running.SeparateInstances.{IsArrayId}
use Rattle.lane_alone.specs.Fits.{Locals, Known, FitsExpr, and_one}
use Rattle.lane_alone.proofs.TaskLists.{by_bool}

-- ---- scopes

-- the scalar locals in scope
abbrev pub known_of : Scope → Locals
known_of [] = λ n. false
known_of (n ∷ scope) = if n.variable.is_array then known_of scope else and_one n.variable.id (known_of scope)

-- what a local's number has to be below, and what those before it have to be below
abbrev pub Below : VarId → ℕ → Type 0
Below (File j) k = Unit {0}
Below (Local j) k = j < k

abbrev pub next_below : VarId → ℕ → ℕ
next_below (File j) k = k
next_below (Local j) k = j

abbrev pub InFile : List Variable → VarId → Variable → Type 0
InFile file (File j) v = slice_get file j ≡ Some v
InFile file (Local j) v = Unit {0}

-- the locals in scope have falling numbers below k, and the file's variables are the table's
abbrev pub Fine : List Variable → ℕ → Scope → Type 0
Fine file k [] = Unit {0}
Fine file k (n ∷ scope) = Below n.variable.id k × InFile file n.variable.id n.variable × Fine file (next_below n.variable.id k) scope

-- ---- a table of what is in scope alone

abbrev nothing : Variable
nothing = record { name = []; id = File 0; type = t.Int32; rate = Uniform; is_array = true; is_parameter = false; is_constant = false }

abbrev pub at_local : Scope → ℕ → Variable
at_local [] j = nothing
at_local (n ∷ scope) j = if same_id n.variable.id (Local j) then n.variable else at_local scope j

abbrev pub locals_from : Scope → ℕ → ℕ → List Variable
locals_from scope j zero = []
locals_from scope j (suc c) = at_local scope j ∷ locals_from scope (suc j) c

abbrev pub scope_table : List Variable → List (List Variable) → Scope → ℕ → Table
scope_table file parameters scope k = record { file = file; own = locals_from scope 0 k; parameters = parameters }

locals_at : (scope : Scope) (j c i : ℕ) → i < c → slice_get (locals_from scope j c) i ≡ Some (at_local scope (j + i))
locals_at scope j zero i h = absurd (omega (arith, h))
locals_at scope j (suc c) zero h = ap (λ n. Some (at_local scope n)) (omega arith)
locals_at scope j (suc c) (suc i) h = locals_at scope (suc j) c i (omega (arith, h)) ∙ ap (λ n. Some (at_local scope n)) (omega arith)

none_some : {A : Type 0} {v : A} → None ≡ Some v → ⊥
none_some q = cc

some_same : {A : Type 0} {v w : A} → Some v ≡ Some w → v ≡ w
some_same q = cc

locals_get : (scope : Scope) (j c i : ℕ) (v : Variable) → slice_get (locals_from scope j c) i ≡ Some v → v ≡ at_local scope (j + i)
locals_get scope j zero i v h = absurd (none_some h)
locals_get scope j (suc c) zero v h = sym (some_same h) ∙ ap (at_local scope) (omega arith)
locals_get scope j (suc c) (suc i) v h = locals_get scope (suc j) c i v h ∙ ap (at_local scope) (omega arith)

module _ (file : List Variable) (parameters : List (List Variable)) (scope : Scope) (k : ℕ) where
  abbrev T : Table
  T = scope_table file parameters scope k

  entries : (sub : Scope) (bound : ℕ) → bound ≤ k → Fine file bound sub → ((j : ℕ) → j < bound → at_local scope j ≡ at_local sub j) → Each (EntryScoped (scope_table file parameters scope k)) sub
  entries [] bound few fine same = tt
  entries (n ∷ sub) bound few fine same = by_id n.variable.id refl fine (λ less f s. entries sub (next_below n.variable.id bound) less f s)
    where
      local_same : {i j : ℕ} → Local i ≡ Local j → i ≡ j
      local_same q = cc

      by_id : (id : VarId) → n.variable.id ≡ id → Below id bound × InFile file id n.variable × Fine file (next_below id bound) sub
          → (next_below n.variable.id bound ≤ k → Fine file (next_below n.variable.id bound) sub → ((j : ℕ) → j < next_below n.variable.id bound → at_local scope j ≡ at_local sub j) → Each (EntryScoped (scope_table file parameters scope k)) sub)
          → Each (EntryScoped (scope_table file parameters scope k)) (n ∷ sub)
      by_id (File i) e h go = (
        ap (variable_at (scope_table file parameters scope k)) e ∙ h.1,
        go (subst (λ x. next_below x bound ≤ k) (sym e) few) (subst (λ x. Fine file (next_below x bound) sub) (sym e) h.2)
            (λ j less. same j (subst (λ x. j < next_below x bound) e less) ∙ ap (λ x. if same_id x (Local j) then n.variable else at_local sub j) e),
      )
      by_id (Local i) e h go = (
        ap (variable_at (scope_table file parameters scope k)) e ∙ locals_at scope 0 k i (omega (arith, h.0, few)) ∙ ap (λ x. Some x) (ap (at_local scope) (omega arith) ∙ same i h.0 ∙ ap (λ x. if same_id x (Local i) then n.variable else at_local sub i) e
            ∙ ap (λ b. if b then n.variable else at_local sub i) (eq-eqb i i refl)),
        go (subst (λ x. next_below x bound ≤ k) (sym e) (omega (arith, h.0, few))) (subst (λ x. Fine file (next_below x bound) sub) (sym e) h.2)
            (λ j less.
            let below : j < i = subst (λ x. j < next_below x bound) e less in
            same j (omega (arith, below, h.0)) ∙ ap (λ x. if same_id x (Local j) then n.variable else at_local sub j) e ∙ ap (λ b. if b then n.variable else at_local sub j) (ne_eqb i j (λ q. absurd (omega (arith, below, q))))),
      )

  -- what is in scope is the table's
  pub in_table : Fine file k scope → Each (EntryScoped (scope_table file parameters scope k)) scope
  in_table fine = entries scope k (omega arith) fine (λ j h. refl)

known_more : (id : VarId) (known : Locals) (j : ℕ) → known j ≡ true → and_one id known j ≡ true
known_more (File i) known j h = h
known_more (Local i) known j h = either_side (j == i) (known j) h
  where
    either_side : (a b : Bool) → b ≡ true → (a || b) ≡ true
    either_side true b h = refl
    either_side false b h = h

known_here : (id : VarId) (known : Locals) (j : ℕ) → same_id id (Local j) ≡ true → and_one id known j ≡ true
known_here (File i) known j h = cc
known_here (Local i) known j h = ap (λ b. b || known j) (eq-eqb j i (sym (eqb-true i j h)))

known_first : (n : Entry) (scope : Scope) (j : ℕ) → (at_local (n ∷ scope) j).is_array ≡ false → ((at_local scope j).is_array ≡ false → known_of scope j ≡ true) → known_of (n ∷ scope) j ≡ true
known_first n scope j h later = by_bool (same_id n.variable.id (Local j)) here there
  where
    here : same_id n.variable.id (Local j) ≡ true → (if n.variable.is_array then known_of scope else and_one n.variable.id (known_of scope)) j ≡ true
    here e =
        let scalar : n.variable.is_array ≡ false = sym (ap (λ b. (if b then n.variable else at_local scope j).is_array) e) ∙ h in
        ap (λ b. (if b then known_of scope else and_one n.variable.id (known_of scope)) j) scalar ∙ known_here n.variable.id (known_of scope) j e

    kept : (b : Bool) → known_of scope j ≡ true → (if b then known_of scope else and_one n.variable.id (known_of scope)) j ≡ true
    kept true k = k
    kept false k = known_more n.variable.id (known_of scope) j k

    there : same_id n.variable.id (Local j) ≡ false → (if n.variable.is_array then known_of scope else and_one n.variable.id (known_of scope)) j ≡ true
    there e = kept n.variable.is_array (later (sym (ap (λ b. (if b then n.variable else at_local scope j).is_array) e) ∙ h))

-- a scalar of the table is known
local_known : (scope : Scope) (j : ℕ) → (at_local scope j).is_array ≡ false → known_of scope j ≡ true
local_known [] j h = cc
local_known (n ∷ scope) j h = known_first n scope j h (λ g. local_known scope j g)

-- ---- expressions

pub varying_is : (rate : Rate) → is_varying rate ≡ true → rate ≡ Varying
varying_is Uniform h = cc
varying_is Varying h = refl

module _ (p : Program) (file : List Variable) (parameters : List (List Variable)) (file_is : (n : ℕ) (v : Variable) → slice_get file n ≡ Some v → (g : Global) × (slice_get p.globals n ≡ Some g) × (g.variable ≡ v)) (scope : Scope) (k : ℕ) where
  pub var_known : (x : Var) → IsScalar (scope_table file parameters scope k) x → x.rate ≡ Varying → Known p (known_of scope) x.id
  var_known x s varying = subst (λ y. Known p (known_of scope) y.id) (sym s.3) (by_id s.0.id s.1)
    where
      rate_is : s.0.rate ≡ Varying
      rate_is = sym (ap (λ y. y.rate) s.3) ∙ varying

      by_id : (id : VarId) → variable_at (scope_table file parameters scope k) id ≡ Some s.0 → Known p (known_of scope) id
      by_id (File n) e =
          let g : (g : Global) × (slice_get p.globals n ≡ Some g) × (g.variable ≡ s.0) = file_is n s.0 e in
          (g.0, g.1, ap (λ v. v.is_array) g.2 ∙ s.2, ap (λ v. v.rate) g.2 ∙ rate_is)
      by_id (Local n) e = local_known scope n (sym (ap (λ v. v.is_array) (locals_get scope 0 k n s.0 e ∙ ap (at_local scope) (omega arith))) ∙ s.2)

  pub array_known : (id : VarId) → IsArray (scope_table file parameters scope k) id → IsArrayId p id
  array_known id a = subst (IsArrayId p) (sym a.3) (by_id a.0.id a.1)
    where
      by_id : (id : VarId) → variable_at (scope_table file parameters scope k) id ≡ Some a.0 → IsArrayId p id
      by_id (File n) e = let g : (g : Global) × (slice_get p.globals n ≡ Some g) × (g.variable ≡ a.0) = file_is n a.0 e in (g.0, g.1, ap (λ v. v.is_array) g.2 ∙ a.2)
      by_id (Local n) e = tt

  -- a lane-pure expression fits
  pub expr_fits : (e : Expr) → ExprScoped (scope_table file parameters scope k) e → is_pure e ≡ true → FitsExpr p (known_of scope) e
  expr_fits (Number n) s pure = tt
  expr_fits ProgramIndex s pure = tt
  expr_fits (Read x) s pure = (varying_is x.rate pure, var_known x s (varying_is x.rate pure))
  expr_fits (Element array index) s pure = (array_known array s.0, expr_fits index s.1 pure)
  expr_fits (Unary op type a) s pure = expr_fits a s pure
  expr_fits (Binary op type a b) s pure = let both = and_true (is_pure a) (is_pure b) pure in (expr_fits a s.0 both.0, expr_fits b s.1 both.1)
  expr_fits (Convert from to a) s pure = expr_fits a s pure
  expr_fits (And a b) s pure = let both = and_true (is_pure a) (is_pure b) pure in (expr_fits a s.0 both.0, expr_fits b s.1 both.1)
  expr_fits (Or a b) s pure = let both = and_true (is_pure a) (is_pure b) pure in (expr_fits a s.0 both.0, expr_fits b s.1 both.1)
  expr_fits (Choice c a b) s pure =
      let test = and_true (is_pure c) (is_pure a && is_pure b) pure in
      let both = and_true (is_pure a) (is_pure b) test.1 in
      (expr_fits c s.0 test.0, expr_fits a s.1 both.0, expr_fits b s.2 both.1)
  expr_fits (Select c a b) s pure =
      let test = and_true (is_pure c) (is_pure a && is_pure b) pure in
      let both = and_true (is_pure a) (is_pure b) test.1 in
      (expr_fits c s.0 test.0, expr_fits a s.1 both.0, expr_fits b s.2 both.1)
  expr_fits (OfOne f type a) s pure = expr_fits a s pure
  expr_fits (OfTwo f type a b) s pure = let both = and_true (is_pure a) (is_pure b) pure in (expr_fits a s.0 both.0, expr_fits b s.1 both.1)
  expr_fits e s pure = cc pure
