-- The segments of a switch, one after another.
use Rattle.std.proofs.Common.{ℕ, ◌+◌, ◌<◌, get_or, ◌≡◌, true, List, [], ◌∷◌, ◌++◌, refl, sym, ap, ◌∙◌, subst, arith, append_assoc, append-nil, length, take, drop}
use Rattle.std.specs.Prelude.{◌||◌}
use Rattle.gang_model.specs.Names.Bindings.{bindings_in_all, bindings_in_segments}
use Rattle.gang_model.specs.Names.Scope.{NameStanding, Site, after_all, locals_in_all, locals_in_segments, standings_in_all, standings_in_segments, one_returns, some_segment_returns}
use Rattle.gang_model.proofs.ScopeLaws.{after_all-next}
use Rattle.gang_model.proofs.VariableLaws.{bindings_numbers_segments}
use Rattle.gang_model.proofs.WalkedLists.{next_item}
use Rattle.ispc_names_table.specs.declared.table.Declaration.{Declaration}
use Rattle.ispc_names_table.specs.declared.table.Standing.{Standing}
use Rattle.ispc_names_steps.specs.declared.declared.Declared.{Declared}
use Rattle.ispc_names_steps.specs.Sites.{Declares, Stands}
use Rattle.ispc_names_steps.proofs.DeclaredLists.{one_more}
use Rattle.ispc_names_steps.proofs.Growth.{declares-join, declares-length}
use Rattle.source_tree.specs.declared.tree.Segment.{Segment}
use Rattle.source_tree.specs.declared.tree.Stmt.{Stmt}
use Rattle.source_tree.specs.Tree.{stmts_view, segments_view}

-- what stands after the statements of segments
abbrev pub after_segments : List Segment → Site → Site
after_segments [] site = site
after_segments (x ∷ xs) site = after_segments xs (after_all (stmts_view x.body.items) site)

after_segments-push : (xs : List Segment) (x : Segment) (site : Site) → after_segments (xs ++ x ∷ []) site ≡ after_all (stmts_view x.body.items) (after_segments xs site)
after_segments-push [] x site = refl
after_segments-push (y ∷ xs) x site = after_segments-push xs x (after_all (stmts_view y.body.items) site)

-- segments use as many numbers of variables as they declare
pub after_segments-next : (xs : List Segment) (site : Site) → (after_segments xs site).next ≡ site.next + locals_in_segments (segments_view xs)
after_segments-next [] site = omega arith
after_segments-next (x ∷ xs) site =
    omega (arith, after_all-next (stmts_view x.body.items) site, after_segments-next xs (after_all (stmts_view x.body.items) site))

segment_standings-push : (xs : List Segment) (x : Segment) (site : Site)
    → standings_in_segments (segments_view (xs ++ x ∷ [])) site ≡ standings_in_segments (segments_view xs) site ++ standings_in_all (stmts_view x.body.items) (after_segments xs site)
segment_standings-push [] x site = append-nil (standings_in_all (stmts_view x.body.items) site)
segment_standings-push (y ∷ xs) x site =
    let own = stmts_view y.body.items in
    ap (λ z. standings_in_all own site ++ z) (segment_standings-push xs x (after_all own site))
    ∙ sym (append_assoc (standings_in_all own site) (standings_in_segments (segments_view xs) (after_all own site)) (standings_in_all (stmts_view x.body.items) (after_segments xs (after_all own site))))

segment_bindings-push : (xs : List Segment) (x : Segment) (k : ℕ)
    → bindings_in_segments (segments_view (xs ++ x ∷ [])) k ≡ bindings_in_segments (segments_view xs) k ++ bindings_in_all (stmts_view x.body.items) (k + locals_in_segments (segments_view xs))
segment_bindings-push [] x k = append-nil (bindings_in_all (stmts_view x.body.items) k) ∙ ap (bindings_in_all (stmts_view x.body.items)) (omega arith)
segment_bindings-push (y ∷ xs) x k =
    let own = stmts_view y.body.items in
    let last = stmts_view x.body.items in
    ap (λ z. bindings_in_all own k ++ z) (segment_bindings-push xs x (k + locals_in_all own)
    ∙ ap (λ n. bindings_in_segments (segments_view xs) (k + locals_in_all own) ++ bindings_in_all last n) (omega arith))
    ∙ sym (append_assoc (bindings_in_all own k) (bindings_in_segments (segments_view xs) (k + locals_in_all own)) (bindings_in_all last (k + (locals_in_all own + locals_in_segments (segments_view xs)))))

-- ---- one more segment of a list

module _ (xs : List Segment) (i : ℕ) (x : Segment) (body : List Stmt) (lt : i < length xs) (is : x ≡ get_or xs i x) (same : body ≡ x.body.items) where
  pub return_in_segment : one_returns (stmts_view body) ≡ true → some_segment_returns (segments_view (drop i xs)) ≡ true
  return_in_segment e =
      ap (λ ys. some_segment_returns (segments_view ys)) (next_item xs i x lt is)
      ∙ ap (λ b. b || some_segment_returns (segments_view (drop (i + 1) xs))) (ap (λ ss. one_returns (stmts_view ss)) (sym same) ∙ e)

  pub segments_declares : (a b c : List Declaration) → Declares a b (bindings_in_segments (segments_view (take i xs)) (length a)) → Declares b c (bindings_in_all (stmts_view body) (length b))
      → Declares a c (bindings_in_segments (segments_view (take (i + 1) xs)) (length a))
  segments_declares a b c p q =
      let front = segments_view (take i xs) in
      let last = stmts_view x.body.items in
      let n : length b ≡ length a + locals_in_segments front =
      declares-length a b (bindings_in_segments front (length a)) p ∙ ap (λ k. length a + k) (bindings_numbers_segments front (length a)).0 in
      subst (Declares a c) (sym (ap (λ ys. bindings_in_segments (segments_view ys) (length a)) (one_more xs i x lt is) ∙ segment_bindings-push (take i xs) x (length a)))
      (declares-join a b c (bindings_in_segments front (length a)) (bindings_in_all last (length a + locals_in_segments front)) p
      (subst (λ k. Declares b c (bindings_in_all last k)) n (subst (λ ss. Declares b c (bindings_in_all (stmts_view ss) (length b))) same q)))

  pub segments_stand : (d : Declared) (ss : List Standing) (site : Site) (steps : List NameStanding)
      → Stands d ss (after_all (stmts_view body) (after_segments (take i xs) site)) ((steps ++ standings_in_segments (segments_view (take i xs)) site) ++ standings_in_all (stmts_view body) (after_segments (take i xs) site))
      → Stands d ss (after_segments (take (i + 1) xs) site) (steps ++ standings_in_segments (segments_view (take (i + 1) xs)) site)
  segments_stand d ss site steps h =
      let front = take i xs in
      let inside = after_segments front site in
      let before = standings_in_segments (segments_view front) site in
      subst (λ ys. Stands d ss (after_segments ys site) (steps ++ standings_in_segments (segments_view ys) site)) (sym (one_more xs i x lt is))
      (subst (λ z. Stands d ss z (steps ++ standings_in_segments (segments_view (front ++ x ∷ [])) site)) (sym (after_segments-push front x site))
      (subst (Stands d ss (after_all (stmts_view x.body.items) inside))
      (append_assoc steps before (standings_in_all (stmts_view x.body.items) inside) ∙ ap (λ z. steps ++ z) (sym (segment_standings-push front x site)))
      (subst (λ body. Stands d ss (after_all (stmts_view body) inside) ((steps ++ before) ++ standings_in_all (stmts_view body) inside)) same h)))
