-- What follows for the scopes of steps: each name that the debugger lists at a step of a sound function has, in the typed tree,
-- the variable that declares it.
use Rattle.std.proofs.Common.{ℕ, ◌+◌, Bool, true, false, cond, List, [], ◌∷◌, ◌++◌, ◌≡◌, refl, sym, ap, subst, arith, length}
use Rattle.std.specs.Prelude.{filter, not, Some, slice_get}
use Rattle.gang_types.specs.declared.places.VarId.{VarId}
use Rattle.gang_types.specs.declared.places.VarId.TheVariants.{File, Local}
use Rattle.gang_model.specs.Source.Names.{same_text}
use Rattle.gang_model.specs.Source.Parsed.{Name, ParsedDim, ParsedStmt, ParsedEmpty, ParsedBlock, ParsedDeclare, ParsedAssign, ParsedChange, ParsedIncrement, ParsedDoCall, ParsedBreak, ParsedContinue, ParsedReturn, ParsedIf, ParsedIfElse, ParsedWhile, ParsedDo, ParsedFor, ParsedSwitch, ParsedForEach, ParsedForEachActive, ParsedForEachUnique, ParsedStmts, ParsedLast, ParsedNext, ParsedSegments, ParsedNoMore, ParsedSegment}
use Rattle.gang_model.specs.Names.Bindings.{dim_bindings, bindings_in, bindings_in_all, bindings_in_segments}
use Rattle.gang_model.specs.Names.Scope.{Binding, bound, Environment, is_local, unhidden, listed, Site, with_name, enclosed, past, with_dims, locals_in, locals_in_all, after, after_all, at_test, in_for, in_rounds, in_domain, NameStanding, standing, standings_in, standings_in_all, standings_in_segments}
use Rattle.gang_model.proofs.ScopeLaws.{after-next, after_all-next}

-- what holds of each element
abbrev pub Each : {A : Type 0} → (A → Type 0) → List A → Type 0
Each P [] = Unit {0}
Each P (x ∷ xs) = P x × Each P xs

pub each_join : {A : Type 0} (P : A → Type 0) (xs ys : List A) → Each P xs → Each P ys → Each P (xs ++ ys)
each_join P [] ys p q = q
each_join P (x ∷ xs) ys p q = (p.0, each_join P xs ys p.1 q)

pub each_left : {A : Type 0} (P : A → Type 0) (xs ys : List A) → Each P (xs ++ ys) → Each P xs
each_left P [] ys p = tt
each_left P (x ∷ xs) ys p = (p.0, each_left P xs ys p.1)

pub each_right : {A : Type 0} (P : A → Type 0) (xs ys : List A) → Each P (xs ++ ys) → Each P ys
each_right P [] ys p = p
each_right P (x ∷ xs) ys p = each_right P xs ys p.1

pub each_kept : {A : Type 0} (P : A → Type 0) (b : Bool) (x : A) (xs : List A) → P x → Each P xs → Each P (cond b (x ∷ xs) xs)
each_kept P true x xs p q = (p, q)
each_kept P false x xs p q = q

pub each_filter : {A : Type 0} (P : A → Type 0) (test : A → Bool) (xs : List A) → Each P xs → Each P (filter test xs)
each_filter P test [] p = tt
each_filter P test (x ∷ xs) p = each_kept P (test x) x (filter test xs) p.0 (each_filter P test xs p.1)

-- a local declaration has its place in a table of declarations
abbrev pub Placed : List Binding → Binding → Type 0
Placed table b = (k : ℕ) → b.id ≡ Local k → slice_get table k ≡ Some b

-- a declaration is local and has its place in a table
abbrev pub Found : List Binding → Binding → Type 0
Found table b = (k : ℕ) × (b.id ≡ Local k) × (slice_get table k ≡ Some b)

-- ---- what is listed

found_one : (table : List Binding) (b : Binding) (id : VarId) (rest : List Binding) → b.id ≡ id → Placed table b → Each (Found table) rest
    → Each (Found table) (cond (is_local id) (b ∷ rest) rest)
found_one table b (File k) rest e p q = q
found_one table b (Local k) rest e p q = ((k, e, p k e), q)

found_local : (table : List Binding) (environment : Environment) → Each (Placed table) environment → Each (Found table) (filter (λ b. is_local b.id) environment)
found_local table [] p = tt
found_local table (b ∷ environment) p = found_one table b b.id (filter (λ c. is_local c.id) environment) refl p.0 (found_local table environment p.1)

found_unhidden : (table : List Binding) (environment : Environment) → Each (Found table) environment → Each (Found table) (unhidden environment)
found_unhidden table [] p = tt
found_unhidden table (b ∷ environment) p =
    each_join (Found table) (filter (λ c. not (same_text c.name b.name)) (unhidden environment)) (b ∷ [])
    (each_filter (Found table) (λ c. not (same_text c.name b.name)) (unhidden environment) (found_unhidden table environment p.1)) (p.0, tt)

pub found_listed : (table : List Binding) (environment : Environment) → Each (Placed table) environment → Each (Found table) (listed environment)
found_listed table environment p = found_unhidden table (filter (λ b. is_local b.id) environment) (found_local table environment p)

-- ---- statements

-- what a step lists has its place
abbrev pub AllFound : List Binding → NameStanding → Type 0
AllFound table s = Each (Found table) s.names

-- a declaration at its number
placed_at : (table : List Binding) (name : Name) (site : Site) → Each (Placed table) (bound name (Local site.next) ∷ []) → Each (Placed table) site.environment
    → Each (Placed table) (with_name name site).environment
placed_at table name site p q = (p.0, q)

pub after_placed : (table : List Binding) (s : ParsedStmt) (site : Site) → Each (Placed table) (bindings_in s site.next) → Each (Placed table) site.environment
    → Each (Placed table) (after s site).environment
after_placed table ParsedEmpty site p q = q
after_placed table (ParsedBlock ss) site p q = q
after_placed table (ParsedDeclare at spec place name e) site p q = (p.0, q)
after_placed table (ParsedAssign at target e) site p q = q
after_placed table (ParsedChange at target op e) site p q = q
after_placed table (ParsedIncrement at target op) site p q = q
after_placed table (ParsedDoCall at name args) site p q = q
after_placed table (ParsedBreak at) site p q = q
after_placed table (ParsedContinue at) site p q = q
after_placed table (ParsedReturn at e) site p q = q
after_placed table (ParsedIf at e a) site p q = q
after_placed table (ParsedIfElse at e a b) site p q = q
after_placed table (ParsedWhile at e body) site p q = q
after_placed table (ParsedDo body at e) site p q = q
after_placed table (ParsedFor at start e update body) site p q = q
after_placed table (ParsedSwitch at e segments) site p q = q
after_placed table (ParsedForEach at is_tiled dims body) site p q = q
after_placed table (ParsedForEachActive at place name body) site p q = q
after_placed table (ParsedForEachUnique at place name e body) site p q = q

dims_placed : (table : List Binding) (dims : List ParsedDim) (site : Site) → Each (Placed table) (dim_bindings site.next dims) → Each (Placed table) site.environment
    → Each (Placed table) (with_dims dims site).environment
dims_placed table [] site p q = q
dims_placed table (d ∷ dims) site p q = dims_placed table dims (with_name d.name site) p.1 (p.0, q)

pub with_dims-next : (dims : List ParsedDim) (site : Site) → (with_dims dims site).next ≡ site.next + length dims
with_dims-next [] site = omega arith
with_dims-next (d ∷ dims) site = omega (arith, with_dims-next dims (with_name d.name site))

-- the declarations of a statement at an equal number
moved : (table : List Binding) (s : ParsedStmt) (m n : ℕ) → m ≡ n → Each (Placed table) (bindings_in s m) → Each (Placed table) (bindings_in s n)
moved table s m n e p = subst (λ k. Each (Placed table) (bindings_in s k)) e p

pub moved_all : (table : List Binding) (ss : ParsedStmts) (m n : ℕ) → m ≡ n → Each (Placed table) (bindings_in_all ss m) → Each (Placed table) (bindings_in_all ss n)
moved_all table ss m n e p = subst (λ k. Each (Placed table) (bindings_in_all ss k)) e p

one_found : (table : List Binding) (site : Site) → Each (Placed table) site.environment → Each (Found table) (listed site.environment)
one_found table site q = found_listed table site.environment q

pub after_all_placed : (table : List Binding) (ss : ParsedStmts) (site : Site) → Each (Placed table) (bindings_in_all ss site.next) → Each (Placed table) site.environment
    → Each (Placed table) (after_all ss site).environment
after_all_placed table ParsedLast site p q = q
after_all_placed table (ParsedNext s ss) site p q =
    after_all_placed table ss (after s site)
    (moved_all table ss (site.next + locals_in s) (after s site).next (sym (after-next s site)) (each_right (Placed table) (bindings_in s site.next) (bindings_in_all ss (site.next + locals_in s)) p))
    (after_placed table s site (each_left (Placed table) (bindings_in s site.next) (bindings_in_all ss (site.next + locals_in s)) p) q)

mutual
  -- at each step of a statement what is listed has its place
  pub standings_found : (table : List Binding) (s : ParsedStmt) (site : Site) → Each (Placed table) (bindings_in s site.next) → Each (Placed table) site.environment
      → Each (AllFound table) (standings_in s site)
  standings_found table ParsedEmpty site p q = tt
  standings_found table (ParsedBlock ss) site p q = standings_found_all table ss (enclosed site) p q
  standings_found table (ParsedDeclare at spec place name e) site p q = (one_found table site q, tt)
  standings_found table (ParsedAssign at target e) site p q = (one_found table site q, tt)
  standings_found table (ParsedChange at target op e) site p q = (one_found table site q, tt)
  standings_found table (ParsedIncrement at target op) site p q = (one_found table site q, tt)
  standings_found table (ParsedDoCall at name args) site p q = (one_found table site q, tt)
  standings_found table (ParsedBreak at) site p q = (one_found table site q, tt)
  standings_found table (ParsedContinue at) site p q = (one_found table site q, tt)
  standings_found table (ParsedReturn at e) site p q = (one_found table site q, tt)
  standings_found table (ParsedIf at e a) site p q = (one_found table site q, standings_found table a (enclosed site) p q)
  standings_found table (ParsedIfElse at e a b) site p q =
      let left = each_left (Placed table) (bindings_in a site.next) (bindings_in b (site.next + locals_in a)) p in
      let right = each_right (Placed table) (bindings_in a site.next) (bindings_in b (site.next + locals_in a)) p in (
        one_found table site q,
        each_join (AllFound table) (standings_in a (enclosed site)) (standings_in b (enclosed (past (locals_in a) site)))
            (standings_found table a (enclosed site) left q) (standings_found table b (enclosed (past (locals_in a) site)) right q),
      )
  standings_found table (ParsedWhile at e body) site p q =
      each_join (AllFound table) (standings_in body (enclosed site)) (standing at site ∷ []) (standings_found table body (enclosed site) p q) (one_found table site q, tt)
  standings_found table (ParsedDo body at e) site p q =
      each_join (AllFound table) (standings_in body (enclosed site)) (standing at site ∷ []) (standings_found table body (enclosed site) p q) (one_found table site q, tt)
  standings_found table (ParsedFor at start e update body) site p q =
      let k = site.next + locals_in start in
      let ofStart = bindings_in start site.next in
      let ofUpdate = bindings_in update k in
      let ofBody = bindings_in body (k + locals_in update) in
      let left = each_left (Placed table) ofStart (ofUpdate ++ ofBody) p in
      let right = each_right (Placed table) ofStart (ofUpdate ++ ofBody) p in
      let inside = at_test start site in
      let same : inside.next ≡ k = after-next start (enclosed site) in
      let q' = after_placed table start (enclosed site) left q in
      let updates = moved table update k inside.next (sym same) (each_left (Placed table) ofUpdate ofBody right) in
      let rounds = moved table body (k + locals_in update) (inside.next + locals_in update) (ap (λ n. n + locals_in update) (sym same)) (each_right (Placed table) ofUpdate ofBody right) in
      let last = standing at inside ∷ [] in
      each_join (AllFound table) (standings_in start (enclosed site)) (standings_in body (in_for start update site) ++ (standings_in update inside ++ last))
      (standings_found table start (enclosed site) left q)
      (each_join (AllFound table) (standings_in body (in_for start update site)) (standings_in update inside ++ last)
      (standings_found table body (in_for start update site) rounds q')
      (each_join (AllFound table) (standings_in update inside) last (standings_found table update inside updates q') (one_found table inside q', tt)))
  standings_found table (ParsedSwitch at e segments) site p q = (one_found table site q, standings_found_segments table segments (enclosed site) p q)
  standings_found table (ParsedForEach at is_tiled dims body) site p q =
      let left = each_left (Placed table) (dim_bindings site.next dims) (bindings_in body (site.next + length dims)) p in
      let right = each_right (Placed table) (dim_bindings site.next dims) (bindings_in body (site.next + length dims)) p in
      let inner = standings_found table body (in_domain dims site)
      (moved table body (site.next + length dims) (with_dims dims (enclosed site)).next (sym (with_dims-next dims (enclosed site))) right)
      (dims_placed table dims (enclosed site) left q) in
      (one_found table site q, each_join (AllFound table) (standings_in body (in_domain dims site)) (standing at site ∷ []) inner (one_found table site q, tt))
  standings_found table (ParsedForEachActive at place name body) site p q = (
    one_found table site q,
    each_join (AllFound table) (standings_in body (in_rounds name site)) (standing at site ∷ [])
        (standings_found table body (in_rounds name site) p.1 (p.0, q)) (one_found table site q, tt),
  )
  standings_found table (ParsedForEachUnique at place name e body) site p q = (
    one_found table site q,
    each_join (AllFound table) (standings_in body (in_rounds name site)) (standing at site ∷ [])
        (standings_found table body (in_rounds name site) p.1 (p.0, q)) (one_found table site q, tt),
  )

  pub standings_found_all : (table : List Binding) (ss : ParsedStmts) (site : Site) → Each (Placed table) (bindings_in_all ss site.next) → Each (Placed table) site.environment
      → Each (AllFound table) (standings_in_all ss site)
  standings_found_all table ParsedLast site p q = tt
  standings_found_all table (ParsedNext s ss) site p q =
      let left = each_left (Placed table) (bindings_in s site.next) (bindings_in_all ss (site.next + locals_in s)) p in
      let right = each_right (Placed table) (bindings_in s site.next) (bindings_in_all ss (site.next + locals_in s)) p in
      each_join (AllFound table) (standings_in s site) (standings_in_all ss (after s site)) (standings_found table s site left q)
      (standings_found_all table ss (after s site) (moved_all table ss (site.next + locals_in s) (after s site).next (sym (after-next s site)) right) (after_placed table s site left q))

  pub standings_found_segments : (table : List Binding) (segments : ParsedSegments) (site : Site) → Each (Placed table) (bindings_in_segments segments site.next)
      → Each (Placed table) site.environment → Each (AllFound table) (standings_in_segments segments site)
  standings_found_segments table ParsedNoMore site p q = tt
  standings_found_segments table (ParsedSegment at label ss rest) site p q =
      let k = site.next + locals_in_all ss in
      let left = each_left (Placed table) (bindings_in_all ss site.next) (bindings_in_segments rest k) p in
      let right = each_right (Placed table) (bindings_in_all ss site.next) (bindings_in_segments rest k) p in
      let later = subst (λ n. Each (Placed table) (bindings_in_segments rest n)) (sym (after_all-next ss site)) right in
      each_join (AllFound table) (standings_in_all ss site) (standings_in_segments rest (after_all ss site)) (standings_found_all table ss site left q)
      (standings_found_segments table rest (after_all ss site) later (after_all_placed table ss site left q))
