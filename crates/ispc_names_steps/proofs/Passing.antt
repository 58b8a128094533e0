-- Steps of a walk through a function.
use Rattle.std.proofs.Common.{Result, Ok, Err, ℕ, suc, ◌+◌, ◌≡◌, List, [], ◌∷◌, ◌++◌, Option, Some, sym, ap, ◌∙◌, subst, arith, length}
use Rattle.std.specs.Prelude.{OnOk}
use Rattle.gang_types.specs.declared.places.Place.{Place}
use Rattle.gang_types.specs.declared.places.VarId.TheVariants.{Local}
use Rattle.gang_model.specs.Source.Parsed.{Name, ParsedStmt}
use Rattle.gang_model.specs.Names.Bindings.{bindings_in}
use Rattle.gang_model.specs.Names.Scope.{Binding, bound, Environment, NameStanding, Site, listed, after, locals_in, standings_in}
use Rattle.ispc_names_table.specs.declared.table.Declaration.{Declaration}
use Rattle.ispc_names_table.specs.declared.table.Standing.{Standing}
use Rattle.ispc_names_steps.specs.declared.declared.Declared.{Declared}
use Rattle.ispc_names_steps.specs.Sites.{Declares, Lists, Passes, Reaches, StandsIn}
use Rattle.gang_model.proofs.VariableLaws.{bindings_numbers}
use Rattle.ispc_names_steps.proofs.Growth.{declares-join, declares-one, declares-length, reaches-one, reaches-more, lists-more, lists-one}

-- the same place, said in another way
pub stands_as : (ds : List Declaration) (i : Option ℕ) (ss : List Standing) (environment : Environment) (m n : ℕ) (xs ys : List NameStanding) → m ≡ n → xs ≡ ys
    → StandsIn ds i ss environment m xs → StandsIn ds i ss environment n ys
stands_as ds i ss environment m n xs ys e f h = record { reaches = h.reaches; numbers = sym e ∙ h.numbers; lists = subst (Lists ds ss) f h.lists }

-- one more variable
pub stands_declared : (ds after : List Declaration) (d : Declaration) (i : Option ℕ) (n : ℕ) (name : Name) (ss : List Standing) (environment : Environment) (next : ℕ) (steps : List NameStanding)
    → after ≡ ds ++ d ∷ [] → d.outside ≡ i → n ≡ length ds → d.name.items ≡ name → StandsIn ds i ss environment next steps
    → StandsIn after (Some n) ss (bound name (Local next) ∷ environment) (suc next) steps
stands_declared ds after d i n name ss environment next steps e out len text h =
    let more = declares-one ds after d e in
    let named = bound d.name.items in
    let own = subst (λ k. Reaches after (Some (length ds)) (named (Local k) ∷ environment)) (sym h.numbers) (reaches-one ds after d i environment e out h.reaches) in
    record {
      reaches = subst (λ x. Reaches after (Some n) (bound x (Local next) ∷ environment)) text (subst (λ k. Reaches after (Some k) (named (Local next) ∷ environment)) (sym len) own);
      numbers = omega (arith, declares-length ds after (named (Local (length ds)) ∷ []) more, h.numbers);
      lists = lists-more ds after (named (Local (length ds)) ∷ []) more ss steps h.lists;
    }

-- one more step
pub stands_stepped : (ds : List Declaration) (i : Option ℕ) (ss after : List Standing) (place : Place) (environment : Environment) (next : ℕ) (steps : List NameStanding)
    → after ≡ ss ++ record { place = place; innermost = i } ∷ [] → StandsIn ds i ss environment next steps
    → StandsIn ds i after environment next (steps ++ record { place = place; names = listed environment } ∷ [])
stands_stepped ds i ss after place environment next steps e h = record {
  reaches = h.reaches;
  numbers = h.numbers;
  lists = subst (λ xs. Lists ds xs (steps ++ record { place = place; names = listed environment } ∷ [])) (sym e) (lists-one ds i place environment ss steps h.reaches h.lists);
}

-- out of a scope, where these variables were declared
pub stands_left : (ds after : List Declaration) (bindings : List Binding) (i j : Option ℕ) (ss : List Standing) (outer inner : Environment) (m n : ℕ) (steps : List NameStanding)
    → Declares ds after bindings → Reaches ds i outer → m ≡ n → StandsIn after j ss inner m steps → StandsIn after i ss outer n steps
stands_left ds after bindings i j ss outer inner m n steps d r e h = record { reaches = reaches-more ds after bindings d i outer r; numbers = sym e ∙ h.numbers; lists = h.lists }

-- what holds of an `Ok` of a call
pub on_ok : {A E : Type 0} (r : Result A E) (P Q : Type 0) → OnOk r P → (P → Q) → OnOk r Q
on_ok (Ok x) P Q h f = f h
on_ok (Err e) P Q h f = h

-- behind a statement, as it stands in the tree
abbrev pub Ends : ParsedStmt → List Declaration → Option ℕ → List Standing → Site → List NameStanding → Type 0
Ends s ds i ss site steps = StandsIn ds i ss (after s site).environment (after s site).next (steps ++ standings_in s site)

pub ends_as : (s z : ParsedStmt) (ds : List Declaration) (i : Option ℕ) (ss : List Standing) (site : Site) (steps : List NameStanding) → s ≡ z → Ends z ds i ss site steps → Ends s ds i ss site steps
ends_as s z ds i ss site steps e h = subst (λ x. Ends x ds i ss site steps) (sym e) h

pub declares_as : (s z : ParsedStmt) (before after : List Declaration) → s ≡ z → Declares before after (bindings_in z (length before)) → Declares before after (bindings_in s (length before))
declares_as s z before after e h = subst (λ x. Declares before after (bindings_in x (length before))) (sym e) h

-- the variables of one statement and then of another
pub declares_two : (a b c : List Declaration) (s z : ParsedStmt) → Declares a b (bindings_in s (length a)) → Declares b c (bindings_in z (length b))
    → Declares a c (bindings_in s (length a) ++ bindings_in z (length a + locals_in s))
declares_two a b c s z p q =
    let n : length b ≡ length a + locals_in s = declares-length a b (bindings_in s (length a)) p ∙ ap (λ k. length a + k) (bindings_numbers s (length a)).0 in
    declares-join a b c (bindings_in s (length a)) (bindings_in z (length a + locals_in s)) p (subst (λ k. Declares b c (bindings_in z k)) n q)

-- some variables, and then those of a statement
pub declares_body : (a b c : List Declaration) (bs : List Binding) (n : ℕ) (z : ParsedStmt) → length bs ≡ n → Declares a b bs → Declares b c (bindings_in z (length b)) → Declares a c (bs ++ bindings_in z (length a + n))
declares_body a b c bs n z len p q =
    declares-join a b c bs (bindings_in z (length a + n)) p (subst (λ k. Declares b c (bindings_in z k)) (declares-length a b bs p ∙ ap (λ k. length a + k) len) q)

-- the variables of a start, an update and a body
pub declares_for : (a b c d : List Declaration) (s u r : ParsedStmt) → Declares a b (bindings_in s (length a)) → Declares b c (bindings_in u (length b)) → Declares c d (bindings_in r (length c))
    → Declares a d (bindings_in s (length a) ++ (bindings_in u (length a + locals_in s) ++ bindings_in r (length a + locals_in s + locals_in u)))
declares_for a b c d s u r p q o =
    let n : length b ≡ length a + locals_in s = declares-length a b (bindings_in s (length a)) p ∙ ap (λ k. length a + k) (bindings_numbers s (length a)).0 in
    declares-join a b d (bindings_in s (length a)) (bindings_in u (length a + locals_in s) ++ bindings_in r (length a + locals_in s + locals_in u)) p
    (subst (λ k. Declares b d (bindings_in u k ++ bindings_in r (k + locals_in u))) n (declares_two b c d u r q o))

pub on_ok_any : {A E : Type 0} (r : Result A E) (P : Type 0) → P → OnOk r P
on_ok_any (Ok x) P h = h
on_ok_any (Err e) P h = tt

-- a statement as it lies in memory, where the call says this of any value of a part that does not matter
module _ {A E X : Type 0} (r : Result A E) (s : ParsedStmt) (z : X → ParsedStmt) (x : X) (is : s ≡ z x) (old new : Declared) where
  pub declares_at : OnOk r ((y : X) → Declares old.declarations.items new.declarations.items (bindings_in (z y) (length old.declarations.items)))
      → OnOk r (Declares old.declarations.items new.declarations.items (bindings_in s (length old.declarations.items)))
  declares_at h = on_ok r _ _ h (λ d. declares_as s (z x) _ _ is (d x))

  pub passes_at : (ss ts : List Standing) → OnOk r ((y : X) → Passes (z y) old new ss ts) → OnOk r (Passes s old new ss ts)
  passes_at ss ts h = on_ok r ((y : X) → Passes (z y) old new ss ts) (Passes s old new ss ts) h (λ f site steps g. ends_as s (z x) _ _ _ site steps is (f x site steps g))

-- a statement as it lies in memory
module _ {A E : Type 0} (r : Result A E) (s z : ParsedStmt) (is : s ≡ z) (old new : Declared) where
  pub declares_in : OnOk r (Declares old.declarations.items new.declarations.items (bindings_in z (length old.declarations.items)))
      → OnOk r (Declares old.declarations.items new.declarations.items (bindings_in s (length old.declarations.items)))
  declares_in h = on_ok r _ _ h (λ d. declares_as s z _ _ is d)

  pub passes_in : (ss ts : List Standing) → OnOk r (Passes z old new ss ts) → OnOk r (Passes s old new ss ts)
  passes_in ss ts h = on_ok r (Passes z old new ss ts) (Passes s old new ss ts) h (λ f site steps g. ends_as s z _ _ _ site steps is (f site steps g))
