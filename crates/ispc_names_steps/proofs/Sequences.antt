-- Statements one after another.
use Rattle.std.proofs.Common.{ℕ, ◌+◌, ◌<◌, ◌≤◌, get_or, ◌≡◌, Bool, true, false, List, [], ◌∷◌, ◌++◌, refl, sym, ap, ◌∙◌, subst, arith, append_assoc, append-nil, length, take, drop}
use Rattle.std.specs.Prelude.{◌||◌, if◌then◌else◌}
use Rattle.std.proofs.lemmas.List.{take_more, take_all, drop_more, take-append-drop}
use Rattle.gang_model.specs.Source.Parsed.{ParsedLast, ParsedNext}
use Rattle.gang_model.specs.Names.Bindings.{bindings_in, bindings_in_all}
use Rattle.gang_model.specs.Names.Scope.{NameStanding, Site, after, after_all, locals_in, locals_in_all, standings_in, standings_in_all, has_return, one_returns, before_return}
use Rattle.gang_model.proofs.VariableLaws.{bindings_numbers_all}
use Rattle.ispc_names_table.specs.declared.table.Declaration.{Declaration}
use Rattle.ispc_names_table.specs.declared.table.Standing.{Standing}
use Rattle.ispc_names_steps.specs.declared.declared.Declared.{Declared}
use Rattle.ispc_names_steps.specs.Sites.{Declares, Stands}
use Rattle.ispc_names_steps.proofs.Growth.{declares-join, declares-length}
use Rattle.source_tree.specs.declared.tree.Stmt.{Stmt}
use Rattle.source_tree.specs.Tree.{stmt_view, stmts_view}

pub after_all-append : (xs ys : List Stmt) (site : Site) → after_all (stmts_view (xs ++ ys)) site ≡ after_all (stmts_view ys) (after_all (stmts_view xs) site)
after_all-append [] ys site = refl
after_all-append (x ∷ xs) ys site = after_all-append xs ys (after (stmt_view x) site)

pub standings-append : (xs ys : List Stmt) (site : Site)
    → standings_in_all (stmts_view (xs ++ ys)) site ≡ standings_in_all (stmts_view xs) site ++ standings_in_all (stmts_view ys) (after_all (stmts_view xs) site)
standings-append [] ys site = refl
standings-append (x ∷ xs) ys site =
    let s = stmt_view x in
    ap (λ z. standings_in s site ++ z) (standings-append xs ys (after s site))
    ∙ sym (append_assoc (standings_in s site) (standings_in_all (stmts_view xs) (after s site)) (standings_in_all (stmts_view ys) (after_all (stmts_view xs) (after s site))))

pub bindings-append : (xs ys : List Stmt) (k : ℕ)
    → bindings_in_all (stmts_view (xs ++ ys)) k ≡ bindings_in_all (stmts_view xs) k ++ bindings_in_all (stmts_view ys) (k + locals_in_all (stmts_view xs))
bindings-append [] ys k = ap (bindings_in_all (stmts_view ys)) (omega arith)
bindings-append (x ∷ xs) ys k =
    let s = stmt_view x in
    ap (λ z. bindings_in s k ++ z) (bindings-append xs ys (k + locals_in s)
    ∙ ap (λ n. bindings_in_all (stmts_view xs) (k + locals_in s) ++ bindings_in_all (stmts_view ys) n) (omega arith))
    ∙ sym (append_assoc (bindings_in s k) (bindings_in_all (stmts_view xs) (k + locals_in s)) (bindings_in_all (stmts_view ys) (k + (locals_in s + locals_in_all (stmts_view xs)))))

pub standings-push : (xs : List Stmt) (x : Stmt) (site : Site)
    → standings_in_all (stmts_view (xs ++ x ∷ [])) site ≡ standings_in_all (stmts_view xs) site ++ standings_in (stmt_view x) (after_all (stmts_view xs) site)
standings-push xs x site = standings-append xs (x ∷ []) site ∙ ap (λ z. standings_in_all (stmts_view xs) site ++ z) (append-nil (standings_in (stmt_view x) (after_all (stmts_view xs) site)))

pub bindings-push : (xs : List Stmt) (x : Stmt) (k : ℕ)
    → bindings_in_all (stmts_view (xs ++ x ∷ [])) k ≡ bindings_in_all (stmts_view xs) k ++ bindings_in (stmt_view x) (k + locals_in_all (stmts_view xs))
bindings-push xs x k = bindings-append xs (x ∷ []) k ∙ ap (λ z. bindings_in_all (stmts_view xs) k ++ z) (append-nil (bindings_in (stmt_view x) (k + locals_in_all (stmts_view xs))))

-- ---- before the first `return`

or-none : (b c : Bool) → (b || c) ≡ false → (b ≡ false) × (c ≡ false)
or-none false c e = (refl, e)
or-none true c e = absurd (cc)

pub before_none : (xs ys : List Stmt) → one_returns (stmts_view xs) ≡ false → one_returns (stmts_view ys) ≡ false → before_return (stmts_view (xs ++ ys)) ≡ stmts_view (xs ++ ys)
before_none [] [] e f = refl
before_none [] (y ∷ ys) e f =
    let p = or-none (has_return (stmt_view y)) (one_returns (stmts_view ys)) f in
    ap (λ b. if b then ParsedLast else ParsedNext (stmt_view y) (before_return (stmts_view ys))) p.0 ∙ ap (ParsedNext (stmt_view y)) (before_none [] ys refl p.1)
before_none (x ∷ xs) ys e f =
    let p = or-none (has_return (stmt_view x)) (one_returns (stmts_view xs)) e in
    ap (λ b. if b then ParsedLast else ParsedNext (stmt_view x) (before_return (stmts_view (xs ++ ys)))) p.0 ∙ ap (ParsedNext (stmt_view x)) (before_none xs ys p.1 f)

pub before_first : (xs : List Stmt) (x : Stmt) (ys : List Stmt) → one_returns (stmts_view xs) ≡ false → has_return (stmt_view x) ≡ true → before_return (stmts_view (xs ++ x ∷ ys)) ≡ stmts_view xs
before_first [] x ys e f = ap (λ b. if b then ParsedLast else ParsedNext (stmt_view x) (before_return (stmts_view ys))) f
before_first (z ∷ xs) x ys e f =
    let p = or-none (has_return (stmt_view z)) (one_returns (stmts_view xs)) e in
    ap (λ b. if b then ParsedLast else ParsedNext (stmt_view z) (before_return (stmts_view (xs ++ x ∷ ys)))) p.0 ∙ ap (ParsedNext (stmt_view z)) (before_first xs x ys p.1 f)

pub none_more : (xs : List Stmt) (x : Stmt) → one_returns (stmts_view xs) ≡ false → has_return (stmt_view x) ≡ false → one_returns (stmts_view (xs ++ x ∷ [])) ≡ false
none_more [] x e f = ap (λ b. b || false) f
none_more (z ∷ xs) x e f =
    let p = or-none (has_return (stmt_view z)) (one_returns (stmts_view xs)) e in
    ap (λ b. b || one_returns (stmts_view (xs ++ x ∷ []))) p.0 ∙ none_more xs x p.1 f

-- ---- one statement after another

module _ (xs : List Stmt) (i : ℕ) (x : Stmt) (lt : i < length xs) (is : x ≡ get_or xs i x) where
  from_here : drop i xs ≡ x ∷ drop (i + 1) xs
  from_here = drop_more xs i x lt ∙ ap (λ z. z ∷ drop (i + 1) xs) (sym is)

  pub up_to_here : take (i + 1) xs ≡ take i xs ++ x ∷ []
  up_to_here = take_more xs i x lt ∙ ap (λ z. take i xs ++ z ∷ []) (sym is)

  whole : xs ≡ take i xs ++ x ∷ drop (i + 1) xs
  whole = sym (take-append-drop i xs) ∙ ap (λ z. take i xs ++ z) from_here

  pub return_here : has_return (stmt_view x) ≡ true → one_returns (stmts_view (drop i xs)) ≡ true
  return_here e = ap (λ ys. one_returns (stmts_view ys)) from_here ∙ ap (λ b. b || one_returns (stmts_view (drop (i + 1) xs))) e

  pub before_here : one_returns (stmts_view (take i xs)) ≡ false → has_return (stmt_view x) ≡ true → stmts_view (take i xs) ≡ before_return (stmts_view xs)
  before_here none e = sym (ap (λ ys. before_return (stmts_view ys)) whole ∙ before_first (take i xs) x (drop (i + 1) xs) none e)

  pub none_here : one_returns (stmts_view (take i xs)) ≡ false → has_return (stmt_view x) ≡ false → one_returns (stmts_view (take (i + 1) xs)) ≡ false
  none_here none e = ap (λ ys. one_returns (stmts_view ys)) up_to_here ∙ none_more (take i xs) x none e

pub before_all : (xs : List Stmt) (n : ℕ) → length xs ≤ n → one_returns (stmts_view (take n xs)) ≡ false → stmts_view (take (length xs) xs) ≡ before_return (stmts_view xs)
before_all xs n le none =
    let all : take n xs ≡ xs = take_all n xs le in
    let none' : one_returns (stmts_view xs) ≡ false = ap (λ ys. one_returns (stmts_view ys)) (sym all) ∙ none in
    ap stmts_view (take_all (length xs) xs (omega arith) ∙ sym (append-nil xs)) ∙ sym (before_none xs [] none' refl) ∙ ap (λ ys. before_return (stmts_view ys)) (append-nil xs)

-- ---- one more statement of a list

module _ (a b c : List Declaration) (d1 : Declared) (s1 : List Standing) (xs : List Stmt) (i : ℕ) (x : Stmt) (lt : i < length xs) (is : x ≡ get_or xs i x) where
  pub list_declares : Declares a b (bindings_in_all (stmts_view (take i xs)) (length a)) → Declares b c (bindings_in (stmt_view x) (length b))
      → Declares a c (bindings_in_all (stmts_view (take (i + 1) xs)) (length a))
  list_declares p q =
      let front = stmts_view (take i xs) in
      let n : length b ≡ length a + locals_in_all front = declares-length a b (bindings_in_all front (length a)) p ∙ ap (λ k. length a + k) (bindings_numbers_all front (length a)).0 in
      subst (Declares a c) (sym (ap (λ ys. bindings_in_all (stmts_view ys) (length a)) (up_to_here xs i x lt is) ∙ bindings-push (take i xs) x (length a)))
      (declares-join a b c (bindings_in_all front (length a)) (bindings_in (stmt_view x) (length a + locals_in_all front)) p (subst (λ k. Declares b c (bindings_in (stmt_view x) k)) n q))

  pub list_stands : (site : Site) (steps : List NameStanding)
      → Stands d1 s1 (after (stmt_view x) (after_all (stmts_view (take i xs)) site)) ((steps ++ standings_in_all (stmts_view (take i xs)) site) ++ standings_in (stmt_view x) (after_all (stmts_view (take i xs)) site))
      → Stands d1 s1 (after_all (stmts_view (take (i + 1) xs)) site) (steps ++ standings_in_all (stmts_view (take (i + 1) xs)) site)
  list_stands site steps h =
      let front = stmts_view (take i xs) in
      subst (λ ys. Stands d1 s1 (after_all (stmts_view ys) site) (steps ++ standings_in_all (stmts_view ys) site)) (sym (up_to_here xs i x lt is))
      (subst (λ z. Stands d1 s1 z (steps ++ standings_in_all (stmts_view (take i xs ++ x ∷ [])) site)) (sym (after_all-append (take i xs) (x ∷ []) site))
      (subst (Stands d1 s1 (after (stmt_view x) (after_all front site)))
      (append_assoc steps (standings_in_all front site) (standings_in (stmt_view x) (after_all front site)) ∙ ap (λ z. steps ++ z) (sym (standings-push (take i xs) x site))) h))
