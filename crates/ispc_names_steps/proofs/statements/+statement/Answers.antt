use Rattle.std.specs.Prelude.{option_map}
use Rattle.std.proofs.Common.{◌≡◌, suc, ◌+◌, [], ◌∷◌, ◌++◌, refl, sym, ap, ◌∙◌, subst, arith, append_assoc, append-nil, length, take, map, inl, inr, Bool}
use Rattle.gang_types.specs.declared.places.Place.{Place}
use Rattle.gang_types.specs.declared.places.VarId.TheVariants.{Local}
use Rattle.std.proofs.lemmas.List.{take_all}
use Rattle.gang_model.specs.Source.Parsed.{ParsedBlock, ParsedDeclare, ParsedExpr, ParsedIf, ParsedIfElse, ParsedWhile, ParsedDo, ParsedFor, ParsedSwitch, ParsedForEach, ParsedForEachActive, ParsedForEachUnique}
use Rattle.gang_model.specs.Names.Bindings.{bindings_in, bindings_in_segments}
use Rattle.gang_model.specs.Names.Scope.{bound, after_all, enclosed, past, at_test, in_for, in_rounds, in_domain, locals_in, standings_in, standings_in_all, standings_in_segments, standing}
use Rattle.gang_model.proofs.ScopeLaws.{after-next, after_all-next}
use Rattle.source_tree.specs.Expressions.{expr_view}
use Rattle.source_tree.specs.declared.tree.Stmt.{If}
use Rattle.source_tree.specs.Tree.{stmt_view, stmts_view, segments_view, dim_view}
use Rattle.source_tree.proofs.StatementRows.{view_block, view_switch}
use Rattle.ispc_names_steps.specs.Sites.{Declares, Lists, Passes, Stands}
use Rattle.ispc_names_steps.proofs.DeclaredLists.{dims-length}
use Rattle.ispc_names_steps.proofs.Growth.{declares-none, lists-none, lists-more}
use Rattle.ispc_names_steps.proofs.Passing.{declares_for, on_ok_any, on_ok, stands_as, stands_left, ends_as, declares_at, declares_in, passes_at, passes_in, declares_two, declares_body}
use Rattle.ispc_names_steps.proofs.Segments.{after_segments, after_segments-next, segments_declares, segments_stand}
use Rattle.ispc_names_steps.proofs.Sequences.{list_declares, list_stands}
use Rattle.ispc_names_steps.proofs.statements.+statement.Goals as goal
use Rattle.gang_model.proofs.StandingLaws.{with_dims-next}

pub inner_steps-returns-clause-stands : goal.inner_steps-returns-clause-stands
inner_steps-returns-clause-stands t c = λ site steps h.
    let d = c.in_ok-statement_steps.ensures in
    stands_left _ _ _ c.args.declared.now.innermost _ _ _ _ _ _ _ d.declares h.reaches (after-next (stmt_view c.args.stmt.now) site) (d.stands site steps h)

pub list_steps-loop-stmt-preserved : goal.list_steps-loop-stmt-preserved
list_steps-loop-stmt-preserved t c =
    let xs = c.args.stmts.now in
    let i = c.loop-stmt.stmt-index in
    let x = c.stmt-item.result in
    let d = c.in_ok-statement_steps.ensures in
    let new = c.statement_steps.new in
    let front = stmts_view (take i xs) in
    record {
      declares = list_declares c.args.declared.now.declarations.items c.loop-stmt.declared.declarations.items new.declared.declarations.items new.declared new.standings.items xs i x
          c.loop-stmt-test.true c.stmt-item.is c.loop-stmt.invariant.declares d.declares;
      stands = λ site steps h.
          list_stands c.args.declared.now.declarations.items c.loop-stmt.declared.declarations.items new.declared.declarations.items new.declared new.standings.items xs i x
          c.loop-stmt-test.true c.stmt-item.is site steps
          (d.stands (after_all front site) (steps ++ standings_in_all front site) (c.loop-stmt.invariant.stands site steps h));
    }

pub statement_steps-returns-in_ok-step-in-Declare-clause-stands : goal.statement_steps-returns-in_ok-step-in-Declare-clause-stands
statement_steps-returns-in_ok-step-in-Declare-clause-stands t c =
    let p = c.in-Declare.place in
    let name = c.deref-in-Declare.result.now in
    let value = option_map expr_view c.in-Declare.value in
    let e : stmt_view c.args.stmt.now ≡ ParsedDeclare p c.in-Declare.spec c.in-Declare.name_place name value =
    ap stmt_view c.in-Declare.is ∙ ap (λ x. ParsedDeclare p c.in-Declare.spec c.in-Declare.name_place x value) (sym c.deref-in-Declare.ensures.value) in
    on_ok _ _ (Passes (stmt_view c.args.stmt.now) c.args.declared.now c.declare.new.declared c.args.standings.now.items c.step.new.standings.items) c.declare.ensures.stands (λ f. λ site steps h.
    ends_as _ (ParsedDeclare p c.in-Declare.spec c.in-Declare.name_place name value) _ _ _ site steps e
    (f site c.step.new.standings.items (steps ++ standing p site ∷ []) (c.in_ok-step-in-Declare.ensures.stands site steps h)))

pub statement_steps-returns-in_ok-inner_steps-in-While-clause-stands : goal.statement_steps-returns-in_ok-inner_steps-in-While-clause-stands
statement_steps-returns-in_ok-inner_steps-in-While-clause-stands t c =
    let s = stmt_view c.deref-in-While.result.now in
    let p = c.in-While.place in
    on_ok _ _ (Passes (stmt_view c.args.stmt.now) c.args.declared.now c.inner_steps.new.declared c.args.standings.now.items c.step-in-While.new.standings.items) c.step-in-While.ensures.stands (λ f. λ site steps h.
    let a = c.in_ok-inner_steps-in-While.ensures.stands (enclosed site) steps h in
    let b = f (past (locals_in s) site) (steps ++ standings_in s (enclosed site)) a in
    let order = append_assoc steps (standings_in s (enclosed site)) (standing p site ∷ []) in
    elim c.in-While.is [
      | inl w ↦
          let e : stmt_view c.args.stmt.now ≡ ParsedWhile p (expr_view w.0) s = ap stmt_view w.1 ∙ ap (λ x. ParsedWhile p (expr_view w.0) (stmt_view x)) (sym c.deref-in-While.ensures) in
          ends_as _ (ParsedWhile p (expr_view w.0) s) _ _ _ site steps e (stands_as _ _ _ _ _ _ _ _ refl order b)
      | inr w ↦
          let e : stmt_view c.args.stmt.now ≡ ParsedDo s p (expr_view w.0) = ap stmt_view w.1 ∙ ap (λ x. ParsedDo (stmt_view x) p (expr_view w.0)) (sym c.deref-in-While.ensures) in
          ends_as _ (ParsedDo s p (expr_view w.0)) _ _ _ site steps e (stands_as _ _ _ _ _ _ _ _ refl order b)
    ])

-- ---- the forms with statements inside

pub block_steps-returns-clause-stands : goal.block_steps-returns-clause-stands
block_steps-returns-clause-stands t c = λ site steps h.
    let ss = stmts_view c.args.stmts.now in
    let d = c.in_ok-list_steps.ensures in
    stands_left _ _ _ c.args.declared.now.innermost _ _ _ _ _ _ _ d.declares h.reaches (after_all-next ss (enclosed site)) (d.stands (enclosed site) steps h)

pub branch_steps-returns-clause-declares : goal.branch_steps-returns-clause-declares
branch_steps-returns-clause-declares t c =
    let s = stmt_view c.args.first.now in
    let d0 = c.args.declared.now.declarations.items in
    let d1 = c.inner_steps.new.declared.declarations.items in
    on_ok _ _ ((test : ParsedExpr) → Declares d0 d1 (bindings_in (ParsedIf c.args.place test s) (length d0))) c.inner_steps.ensures.declares (λ d test. d)

pub branch_steps-returns-clause-stands : goal.branch_steps-returns-clause-stands
branch_steps-returns-clause-stands t c =
    let s = stmt_view c.args.first.now in
    let p = c.args.place in
    on_ok _ _ ((test : ParsedExpr) → Passes (ParsedIf p test s) c.args.declared.now c.inner_steps.new.declared c.args.standings.now.items c.inner_steps.new.standings.items) c.inner_steps.ensures.stands (λ f test site steps h.
    let b = f (enclosed site) (steps ++ standing p site ∷ []) (c.in_ok-step.ensures.stands site steps h) in
    stands_as _ _ _ _ _ _ _ _ refl (append_assoc steps (standing p site ∷ []) (standings_in s (enclosed site))) b)

pub choice_steps-returns-clause-declares : goal.choice_steps-returns-clause-declares
choice_steps-returns-clause-declares t c =
    let s = stmt_view c.args.first.now in
    let z = stmt_view c.args.other.now in
    let d0 = c.args.declared.now.declarations.items in
    let d2 = c.inner_steps-2.new.declared.declarations.items in
    on_ok _ _ ((test : ParsedExpr) → Declares d0 d2 (bindings_in (ParsedIfElse c.args.place test s z) (length d0))) c.inner_steps-2.ensures.declares
    (λ d test. declares_two _ _ _ s z c.in_ok-inner_steps.ensures.declares d)

pub choice_steps-returns-clause-stands : goal.choice_steps-returns-clause-stands
choice_steps-returns-clause-stands t c =
    let s = stmt_view c.args.first.now in
    let z = stmt_view c.args.other.now in
    let p = c.args.place in
    on_ok _ _ ((test : ParsedExpr) → Passes (ParsedIfElse p test s z) c.args.declared.now c.inner_steps-2.new.declared c.args.standings.now.items c.inner_steps-2.new.standings.items) c.inner_steps-2.ensures.stands (λ f test site steps h.
    let a = c.in_ok-step.ensures.stands site steps h in
    let b = c.in_ok-inner_steps.ensures.stands (enclosed site) (steps ++ standing p site ∷ []) a in
    let first = standings_in s (enclosed site) in
    let other = standings_in z (enclosed (past (locals_in s) site)) in
    let d = f (enclosed (past (locals_in s) site)) ((steps ++ standing p site ∷ []) ++ first) b in
    let order : ((steps ++ standing p site ∷ []) ++ first) ++ other ≡ steps ++ standing p site ∷ (first ++ other) = simp append_assoc in
    let count : site.next + locals_in s + locals_in z ≡ site.next + (locals_in s + locals_in z) = omega arith in
    stands_as _ _ _ _ _ _ _ _ count order d)

pub for_steps-returns-clause-declares : goal.for_steps-returns-clause-declares
for_steps-returns-clause-declares t c = λ test.
    declares_for _ _ _ _ (stmt_view c.args.start.now) (stmt_view c.args.update.now) (stmt_view c.args.body.now)
    c.in_ok-statement_steps.ensures.declares c.in_ok-inner_steps.ensures.declares c.in_ok-inner_steps-2.ensures.declares

pub for_steps-returns-clause-stands : goal.for_steps-returns-clause-stands
for_steps-returns-clause-stands t c = λ test site steps h.
    let p = c.args.place in
    let first = stmt_view c.args.start.now in
    let update = stmt_view c.args.update.now in
    let body = stmt_view c.args.body.now in
    let place = at_test first site in
    let inside = in_for first update site in
    let D1 = c.statement_steps.new.declared.declarations.items in
    let D2 = c.inner_steps.new.declared.declarations.items in
    let D3 = c.inner_steps-2.new.declared.declarations.items in
    let S1 = c.statement_steps.new.standings.items in
    let U = c.inner_steps.new.standings.items in
    let start = c.in_ok-statement_steps.ensures in
    let updates = c.in_ok-inner_steps.ensures in
    let rounds = c.in_ok-inner_steps-2.ensures in
    let before = steps ++ standings_in first (enclosed site) in
    let inner = standings_in body inside in
    let last = standings_in update place in
    let a = start.stands (enclosed site) steps h in
    let u0 : Stands c.statement_steps.new.declared c.new-last.result.items place [] =
    record { reaches = a.reaches; numbers = a.numbers; lists = subst (λ xs. Lists D1 xs []) (sym c.new-last.ensures.items) (lists-none D1) } in
    let u = updates.stands place [] u0 in
    let b0 : Stands c.inner_steps.new.declared S1 inside before =
    record { reaches = u.reaches; numbers = u.numbers; lists = lists-more D1 D2 _ updates.declares S1 before a.lists } in
    let b = rounds.stands inside before b0 in
    let more = subst (λ xs. Lists D3 xs last) (sym c.deref.ensures.value) (lists-more D2 D3 _ rounds.declares U last u.lists) in
    let f = c.in_ok-steps_after_body.ensures.stands (past (locals_in body) inside) (before ++ inner) last b more in
    let own = declares_for _ _ _ _ first update body start.declares updates.declares rounds.declares in
    let count : inside.next + locals_in body ≡ site.next + (locals_in first + locals_in update + locals_in body) = omega (arith, after-next first (enclosed site)) in
    let order : ((before ++ inner) ++ last) ++ standing p place ∷ [] ≡ steps ++ (standings_in first (enclosed site) ++ (inner ++ (last ++ standing p place ∷ []))) = simp append_assoc in
    stands_as _ _ _ _ _ _ _ _ refl order (stands_left _ _ _ c.args.declared.now.innermost _ _ _ _ _ _ _ own h.reaches count f)

pub domain_steps-returns-clause-declares : goal.domain_steps-returns-clause-declares
domain_steps-returns-clause-declares t c =
    let s = stmt_view c.args.body.now in
    let ds = map dim_view c.args.dims.now in
    let d0 = c.args.declared.now.declarations.items in
    let d2 = c.inner_steps.new.declared.declarations.items in
    let own = declares_body d0 _ d2 _ (length ds) s (dims-length (length d0) ds) c.in_ok-declare_dims.ensures.declares c.in_ok-inner_steps.ensures.declares in
    on_ok_any _ ((is_tiled : Bool) → Declares d0 d2 (bindings_in (ParsedForEach c.args.place is_tiled ds s) (length d0))) (λ is_tiled. own)

pub domain_steps-returns-clause-stands : goal.domain_steps-returns-clause-stands
domain_steps-returns-clause-stands t c =
    let s = stmt_view c.args.body.now in
    let p = c.args.place in
    let ds = map dim_view c.args.dims.now in
    let d0 = c.args.declared.now.declarations.items in
    let own = declares_body d0 _ c.inner_steps.new.declared.declarations.items _ (length ds) s (dims-length (length d0) ds) c.in_ok-declare_dims.ensures.declares c.in_ok-inner_steps.ensures.declares in
    on_ok _ _ ((is_tiled : Bool) → Passes (ParsedForEach p is_tiled ds s) c.args.declared.now (record { declarations = c.inner_steps.new.declared.declarations; innermost = c.args.declared.now.innermost }) c.args.standings.now.items c.step-2.new.standings.items) c.step-2.ensures.stands (λ f is_tiled site steps h.
    let head = steps ++ standing p site ∷ [] in
    let a = c.in_ok-step.ensures.stands site steps h in
    let b = c.in_ok-declare_dims.ensures.stands (enclosed site) c.step.new.standings.items head a in
    let rounds = standings_in s (in_domain ds site) in
    let d = c.in_ok-inner_steps.ensures.stands (in_domain ds site) head b in
    let count : (in_domain ds site).next + locals_in s ≡ site.next + (length ds + locals_in s) = omega (arith, with_dims-next ds (enclosed site)) in
    let l = stands_left _ _ _ c.args.declared.now.innermost _ _ _ _ _ _ _ own h.reaches count d in
    let g = f (past (length ds + locals_in s) site) (head ++ rounds) l in
    let order : (head ++ rounds) ++ standing p site ∷ [] ≡ steps ++ standing p site ∷ (rounds ++ standing p site ∷ []) = simp append_assoc in
    stands_as _ _ _ _ _ _ _ _ refl order g)

pub rounds_steps-returns-clause-declares : goal.rounds_steps-returns-clause-declares
rounds_steps-returns-clause-declares t c =
    let s = stmt_view c.args.body.now in
    let name = c.args.name.now in
    let d0 = c.args.declared.now.declarations.items in
    let d2 = c.inner_steps.new.declared.declarations.items in
    let join = declares_body d0 _ d2 _ 1 s refl c.in_ok-declare.ensures.declares c.in_ok-inner_steps.ensures.declares in
    let next : length d0 + 1 ≡ suc (length d0) = omega arith in
    let own : Declares d0 d2 (bound name (Local (length d0)) ∷ bindings_in s (suc (length d0))) = subst (λ k. Declares d0 d2 (bound name (Local (length d0)) ∷ bindings_in s k)) next join in
    on_ok_any _ ((at : Place) → Declares d0 d2 (bindings_in (ParsedForEachActive c.args.place at name s) (length d0))) (λ at. own)

pub rounds_steps-returns-clause-stands : goal.rounds_steps-returns-clause-stands
rounds_steps-returns-clause-stands t c =
    let s = stmt_view c.args.body.now in
    let p = c.args.place in
    let name = c.args.name.now in
    on_ok _ _ ((at : Place) → Passes (ParsedForEachActive p at name s) c.args.declared.now (record { declarations = c.inner_steps.new.declared.declarations; innermost = c.args.declared.now.innermost }) c.args.standings.now.items c.step-2.new.standings.items) c.step-2.ensures.stands (λ f at site steps h.
    let head = steps ++ standing p site ∷ [] in
    let a = c.in_ok-step.ensures.stands site steps h in
    let b = c.in_ok-declare.ensures.stands (enclosed site) c.step.new.standings.items head a in
    let rounds = standings_in s (in_rounds name site) in
    let d = c.in_ok-inner_steps.ensures.stands (in_rounds name site) head b in
    let count : suc site.next + locals_in s ≡ site.next + (1 + locals_in s) = omega arith in
    let own = declares_body _ _ _ _ 1 s refl c.in_ok-declare.ensures.declares c.in_ok-inner_steps.ensures.declares in
    let l = stands_left _ _ _ c.args.declared.now.innermost _ _ _ _ _ _ _ own h.reaches count d in
    let g = f (past (1 + locals_in s) site) (head ++ rounds) l in
    let order : (head ++ rounds) ++ standing p site ∷ [] ≡ steps ++ standing p site ∷ (rounds ++ standing p site ∷ []) = simp append_assoc in
    stands_as _ _ _ _ _ _ _ _ refl order g)

-- ---- a switch

pub switch_steps-loop-segment-init : goal.switch_steps-loop-segment-init
switch_steps-loop-segment-init t c = record {
  declares = declares-none c.args.declared.now.declarations.items;
  stands = λ site steps h. stands_as _ _ _ _ _ _ _ _ refl (sym (append-nil (steps ++ standing c.args.place site ∷ []))) (c.in_ok-step.ensures.stands site steps h);
}

pub switch_steps-loop-segment-preserved : goal.switch_steps-loop-segment-preserved
switch_steps-loop-segment-preserved t c =
    let xs = c.args.segments.now in
    let i = c.loop-segment.segment-index in
    let x = c.segment-item.result in
    let body = c.deref.result.now in
    let d = c.in_ok-list_steps.ensures in
    let new = c.list_steps.new in
    let front = take i xs in
    record {
      declares = segments_declares xs i x body c.loop-segment-test.true c.segment-item.is c.deref.ensures.value c.args.declared.now.declarations.items c.loop-segment.declared.declarations.items
          new.declared.declarations.items c.loop-segment.invariant.declares d.declares;
      stands = λ site steps h.
          let head = steps ++ standing c.args.place site ∷ [] in
          segments_stand xs i x body c.loop-segment-test.true c.segment-item.is c.deref.ensures.value new.declared new.standings.items (enclosed site) head
          (d.stands (after_segments front (enclosed site)) (head ++ standings_in_segments (segments_view front) (enclosed site)) (c.loop-segment.invariant.stands site steps h));
    }

pub switch_steps-returns-clause-declares : goal.switch_steps-returns-clause-declares
switch_steps-returns-clause-declares t c = λ selector.
    let a = c.args.declared.now.declarations.items in
    subst (λ xs. Declares a c.loop-segment.declared.declarations.items (bindings_in_segments (segments_view xs) (length a))) (take_all c.loop-segment.segment-index c.args.segments.now (omega arith))
    c.loop-segment.invariant.declares

pub switch_steps-returns-clause-stands : goal.switch_steps-returns-clause-stands
switch_steps-returns-clause-stands t c = λ selector site steps h.
    let xs = c.args.segments.now in
    let p = c.args.place in
    let a = c.args.declared.now.declarations.items in
    let d = c.loop-segment.declared in
    let ss = c.loop-segment.standings.items in
    let all : take c.loop-segment.segment-index xs ≡ xs = take_all c.loop-segment.segment-index xs (omega arith) in
    let own = subst (λ ys. Declares a d.declarations.items (bindings_in_segments (segments_view ys) (length a))) all c.loop-segment.invariant.declares in
    let inside = subst (λ ys. Stands d ss (after_segments ys (enclosed site)) ((steps ++ standing p site ∷ []) ++ standings_in_segments (segments_view ys) (enclosed site))) all
    (c.loop-segment.invariant.stands site steps h) in
    stands_left _ _ _ c.args.declared.now.innermost _ _ _ _ _ _ _ own h.reaches (after_segments-next xs (enclosed site))
    (stands_as _ _ _ _ _ _ _ _ refl (append_assoc steps (standing p site ∷ []) (standings_in_segments (segments_view xs) (enclosed site))) inside)

-- ---- a statement of each of these forms

pub statement_steps-returns-in-Block-clause-declares : goal.statement_steps-returns-in-Block-clause-declares
statement_steps-returns-in-Block-clause-declares t c =
    let e : stmt_view c.args.stmt.now ≡ ParsedBlock (stmts_view c.deref.result.now) =
    ap stmt_view c.in-Block.is ∙ view_block c.in-Block.stmts ∙ ap (λ xs. ParsedBlock (stmts_view xs)) (sym c.deref.ensures.value) in
    declares_in _ _ _ e c.args.declared.now c.block_steps.new.declared c.block_steps.ensures.declares

pub statement_steps-returns-in-Block-clause-stands : goal.statement_steps-returns-in-Block-clause-stands
statement_steps-returns-in-Block-clause-stands t c =
    let e : stmt_view c.args.stmt.now ≡ ParsedBlock (stmts_view c.deref.result.now) =
    ap stmt_view c.in-Block.is ∙ view_block c.in-Block.stmts ∙ ap (λ xs. ParsedBlock (stmts_view xs)) (sym c.deref.ensures.value) in
    passes_in _ _ _ e c.args.declared.now c.block_steps.new.declared _ _ c.block_steps.ensures.stands

pub statement_steps-returns-in-Some-clause-declares : goal.statement_steps-returns-in-Some-clause-declares
statement_steps-returns-in-Some-clause-declares t c =
    let arm = c.in-If in
    let p = arm.place in
    let test = expr_view arm.test in
    let first = stmt_view c.deref-in-Some.result.now in
    let other = stmt_view c.deref-in-Some-2.result.now in
    let e : stmt_view c.args.stmt.now ≡ ParsedIfElse p test first other =
    ap stmt_view (arm.is ∙ ap (λ o. If p arm.test arm.first o) c.in-Some.is)
    ∙ (ap (λ x. ParsedIfElse p test (stmt_view x) (stmt_view c.in-Some.other.value)) (sym c.deref-in-Some.ensures)
    ∙ ap (λ x. ParsedIfElse p test first (stmt_view x)) (sym c.deref-in-Some-2.ensures)) in
    declares_at _ _ (λ x. ParsedIfElse p x first other) test e c.args.declared.now c.choice_steps.new.declared c.choice_steps.ensures.declares

pub statement_steps-returns-in-Some-clause-stands : goal.statement_steps-returns-in-Some-clause-stands
statement_steps-returns-in-Some-clause-stands t c =
    let arm = c.in-If in
    let p = arm.place in
    let test = expr_view arm.test in
    let first = stmt_view c.deref-in-Some.result.now in
    let other = stmt_view c.deref-in-Some-2.result.now in
    let e : stmt_view c.args.stmt.now ≡ ParsedIfElse p test first other =
    ap stmt_view (arm.is ∙ ap (λ o. If p arm.test arm.first o) c.in-Some.is)
    ∙ (ap (λ x. ParsedIfElse p test (stmt_view x) (stmt_view c.in-Some.other.value)) (sym c.deref-in-Some.ensures)
    ∙ ap (λ x. ParsedIfElse p test first (stmt_view x)) (sym c.deref-in-Some-2.ensures)) in
    passes_at _ _ (λ x. ParsedIfElse p x first other) test e c.args.declared.now c.choice_steps.new.declared _ _ c.choice_steps.ensures.stands

pub statement_steps-returns-in-For-clause-declares : goal.statement_steps-returns-in-For-clause-declares
statement_steps-returns-in-For-clause-declares t c =
    let p = c.in-For.place in
    let test = option_map expr_view c.in-For.test in
    let start = stmt_view c.deref-in-For.result.now in
    let update = stmt_view c.deref-in-For-2.result.now in
    let body = stmt_view c.deref-in-For-3.result.now in
    let e : stmt_view c.args.stmt.now ≡ ParsedFor p start test update body =
    ap stmt_view c.in-For.is
    ∙ (ap (λ x. ParsedFor p (stmt_view x) test (stmt_view c.in-For.update.value) (stmt_view c.in-For.body.value)) (sym c.deref-in-For.ensures)
    ∙ (ap (λ x. ParsedFor p start test (stmt_view x) (stmt_view c.in-For.body.value)) (sym c.deref-in-For-2.ensures)
    ∙ ap (λ x. ParsedFor p start test update (stmt_view x)) (sym c.deref-in-For-3.ensures))) in
    declares_at _ _ (λ x. ParsedFor p start x update body) test e c.args.declared.now c.for_steps.new.declared c.for_steps.ensures.declares

pub statement_steps-returns-in-For-clause-stands : goal.statement_steps-returns-in-For-clause-stands
statement_steps-returns-in-For-clause-stands t c =
    let p = c.in-For.place in
    let test = option_map expr_view c.in-For.test in
    let start = stmt_view c.deref-in-For.result.now in
    let update = stmt_view c.deref-in-For-2.result.now in
    let body = stmt_view c.deref-in-For-3.result.now in
    let e : stmt_view c.args.stmt.now ≡ ParsedFor p start test update body =
    ap stmt_view c.in-For.is
    ∙ (ap (λ x. ParsedFor p (stmt_view x) test (stmt_view c.in-For.update.value) (stmt_view c.in-For.body.value)) (sym c.deref-in-For.ensures)
    ∙ (ap (λ x. ParsedFor p start test (stmt_view x) (stmt_view c.in-For.body.value)) (sym c.deref-in-For-2.ensures)
    ∙ ap (λ x. ParsedFor p start test update (stmt_view x)) (sym c.deref-in-For-3.ensures))) in
    passes_at _ _ (λ x. ParsedFor p start x update body) test e c.args.declared.now c.for_steps.new.declared _ _ c.for_steps.ensures.stands

pub statement_steps-returns-in-ForEach-clause-declares : goal.statement_steps-returns-in-ForEach-clause-declares
statement_steps-returns-in-ForEach-clause-declares t c =
    let p = c.in-ForEach.place in
    let is_tiled = c.in-ForEach.is_tiled in
    let dims = map dim_view c.deref-in-ForEach-2.result.now in
    let body = stmt_view c.deref-in-ForEach.result.now in
    let e : stmt_view c.args.stmt.now ≡ ParsedForEach p is_tiled dims body =
    ap stmt_view c.in-ForEach.is
    ∙ (ap (λ x. ParsedForEach p is_tiled (map dim_view c.in-ForEach.dims.items) (stmt_view x)) (sym c.deref-in-ForEach.ensures)
    ∙ ap (λ x. ParsedForEach p is_tiled (map dim_view x) body) (sym c.deref-in-ForEach-2.ensures.value)) in
    declares_at _ _ (λ x. ParsedForEach p x dims body) is_tiled e c.args.declared.now c.domain_steps.new.declared c.domain_steps.ensures.declares

pub statement_steps-returns-in-ForEach-clause-stands : goal.statement_steps-returns-in-ForEach-clause-stands
statement_steps-returns-in-ForEach-clause-stands t c =
    let p = c.in-ForEach.place in
    let is_tiled = c.in-ForEach.is_tiled in
    let dims = map dim_view c.deref-in-ForEach-2.result.now in
    let body = stmt_view c.deref-in-ForEach.result.now in
    let e : stmt_view c.args.stmt.now ≡ ParsedForEach p is_tiled dims body =
    ap stmt_view c.in-ForEach.is
    ∙ (ap (λ x. ParsedForEach p is_tiled (map dim_view c.in-ForEach.dims.items) (stmt_view x)) (sym c.deref-in-ForEach.ensures)
    ∙ ap (λ x. ParsedForEach p is_tiled (map dim_view x) body) (sym c.deref-in-ForEach-2.ensures.value)) in
    passes_at _ _ (λ x. ParsedForEach p x dims body) is_tiled e c.args.declared.now c.domain_steps.new.declared _ _ c.domain_steps.ensures.stands

pub statement_steps-returns-in-ForEachActive-clause-declares : goal.statement_steps-returns-in-ForEachActive-clause-declares
statement_steps-returns-in-ForEachActive-clause-declares t c =
    let p = c.in-ForEachActive.place in
    let name = c.deref-in-ForEachActive-2.result.now in
    let body = stmt_view c.deref-in-ForEachActive.result.now in
    elim c.in-ForEachActive.is [
      | inl w ↦
          let e : stmt_view c.args.stmt.now ≡ ParsedForEachActive p w.0 name body =
          ap stmt_view w.1
          ∙ (ap (λ x. ParsedForEachActive p w.0 c.in-ForEachActive.name.items (stmt_view x)) (sym c.deref-in-ForEachActive.ensures)
          ∙ ap (λ x. ParsedForEachActive p w.0 x body) (sym c.deref-in-ForEachActive-2.ensures.value)) in
          declares_at _ _ (λ x. ParsedForEachActive p x name body) w.0 e c.args.declared.now c.rounds_steps.new.declared c.rounds_steps.ensures.declares
      | inr w ↦
          let e : stmt_view c.args.stmt.now ≡ ParsedForEachUnique p w.0 name (expr_view w.1) body =
          ap stmt_view w.2
          ∙ (ap (λ x. ParsedForEachUnique p w.0 c.in-ForEachActive.name.items (expr_view w.1) (stmt_view x)) (sym c.deref-in-ForEachActive.ensures)
          ∙ ap (λ x. ParsedForEachUnique p w.0 x (expr_view w.1) body) (sym c.deref-in-ForEachActive-2.ensures.value)) in
          declares_at _ _ (λ x. ParsedForEachUnique p x name (expr_view w.1) body) w.0 e c.args.declared.now c.rounds_steps.new.declared c.rounds_steps.ensures.declares
    ]

pub statement_steps-returns-in-ForEachActive-clause-stands : goal.statement_steps-returns-in-ForEachActive-clause-stands
statement_steps-returns-in-ForEachActive-clause-stands t c =
    let p = c.in-ForEachActive.place in
    let name = c.deref-in-ForEachActive-2.result.now in
    let body = stmt_view c.deref-in-ForEachActive.result.now in
    elim c.in-ForEachActive.is [
      | inl w ↦
          let e : stmt_view c.args.stmt.now ≡ ParsedForEachActive p w.0 name body =
          ap stmt_view w.1
          ∙ (ap (λ x. ParsedForEachActive p w.0 c.in-ForEachActive.name.items (stmt_view x)) (sym c.deref-in-ForEachActive.ensures)
          ∙ ap (λ x. ParsedForEachActive p w.0 x body) (sym c.deref-in-ForEachActive-2.ensures.value)) in
          passes_at _ _ (λ x. ParsedForEachActive p x name body) w.0 e c.args.declared.now c.rounds_steps.new.declared _ _ c.rounds_steps.ensures.stands
      | inr w ↦
          let e : stmt_view c.args.stmt.now ≡ ParsedForEachUnique p w.0 name (expr_view w.1) body =
          ap stmt_view w.2
          ∙ (ap (λ x. ParsedForEachUnique p w.0 c.in-ForEachActive.name.items (expr_view w.1) (stmt_view x)) (sym c.deref-in-ForEachActive.ensures)
          ∙ ap (λ x. ParsedForEachUnique p w.0 x (expr_view w.1) body) (sym c.deref-in-ForEachActive-2.ensures.value)) in
          passes_at _ _ (λ x. ParsedForEachUnique p x name (expr_view w.1) body) w.0 e c.args.declared.now c.rounds_steps.new.declared _ _ c.rounds_steps.ensures.stands
    ]

pub statement_steps-returns-in-None-clause-declares : goal.statement_steps-returns-in-None-clause-declares
statement_steps-returns-in-None-clause-declares t c =
    let arm = c.in-If in
    let p = arm.place in
    let test = expr_view arm.test in
    let first = stmt_view c.deref-in-None.result.now in
    let e : stmt_view c.args.stmt.now ≡ ParsedIf p test first =
    ap stmt_view (arm.is ∙ ap (λ o. If p arm.test arm.first o) c.in-None.is) ∙ ap (λ x. ParsedIf p test (stmt_view x)) (sym c.deref-in-None.ensures) in
    declares_at _ _ (λ x. ParsedIf p x first) test e c.args.declared.now c.branch_steps.new.declared c.branch_steps.ensures.declares

pub statement_steps-returns-in-None-clause-stands : goal.statement_steps-returns-in-None-clause-stands
statement_steps-returns-in-None-clause-stands t c =
    let arm = c.in-If in
    let p = arm.place in
    let test = expr_view arm.test in
    let first = stmt_view c.deref-in-None.result.now in
    let e : stmt_view c.args.stmt.now ≡ ParsedIf p test first =
    ap stmt_view (arm.is ∙ ap (λ o. If p arm.test arm.first o) c.in-None.is) ∙ ap (λ x. ParsedIf p test (stmt_view x)) (sym c.deref-in-None.ensures) in
    passes_at _ _ (λ x. ParsedIf p x first) test e c.args.declared.now c.branch_steps.new.declared _ _ c.branch_steps.ensures.stands

pub statement_steps-returns-in-Switch-clause-declares : goal.statement_steps-returns-in-Switch-clause-declares
statement_steps-returns-in-Switch-clause-declares t c =
    let p = c.in-Switch.place in
    let e = expr_view c.in-Switch.selector in
    let segments = segments_view c.deref-in-Switch.result.now in
    let is : stmt_view c.args.stmt.now ≡ ParsedSwitch p e segments =
    ap stmt_view c.in-Switch.is ∙ view_switch p c.in-Switch.selector c.in-Switch.segments ∙ ap (λ xs. ParsedSwitch p e (segments_view xs)) (sym c.deref-in-Switch.ensures.value) in
    declares_at _ _ (λ x. ParsedSwitch p x segments) e is c.args.declared.now c.switch_steps.new.declared c.switch_steps.ensures.declares

pub statement_steps-returns-in-Switch-clause-stands : goal.statement_steps-returns-in-Switch-clause-stands
statement_steps-returns-in-Switch-clause-stands t c =
    let p = c.in-Switch.place in
    let e = expr_view c.in-Switch.selector in
    let segments = segments_view c.deref-in-Switch.result.now in
    let is : stmt_view c.args.stmt.now ≡ ParsedSwitch p e segments =
    ap stmt_view c.in-Switch.is ∙ view_switch p c.in-Switch.selector c.in-Switch.segments ∙ ap (λ xs. ParsedSwitch p e (segments_view xs)) (sym c.deref-in-Switch.ensures.value) in
    passes_at _ _ (λ x. ParsedSwitch p x segments) e is c.args.declared.now c.switch_steps.new.declared _ _ c.switch_steps.ensures.stands
