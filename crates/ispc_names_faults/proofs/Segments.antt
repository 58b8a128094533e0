-- The segments of a switch, each with the labels before it.
use Rattle.std.proofs.Common.{◌≡◌, ℕ, ◌+◌, ◌<◌, List, [], ◌∷◌, ◌++◌, Bool, true, false, refl, sym, ap, ◌∙◌, arith, append_assoc, length, take, drop, get_or, Option}
use Rattle.std.specs.Prelude.{◌||◌}
use Rattle.std.specs.List.{list_any}
use Rattle.std.proofs.lemmas.List.{take_more}
use Rattle.gang_types.specs.declared.places.Place.{Place}
use Rattle.gang_model.specs.declared.forms.Label.{Label}
use Rattle.gang_model.specs.declared.refusals.RefusalNumber.TheVariants.{S6}
use Rattle.gang_model.specs.Source.Judged.{fault_if, least_fault, merged}
use Rattle.gang_model.specs.Source.Parsed.{ParsedExpr, ParsedSegments, ParsedSwitch}
use Rattle.gang_model.specs.Names.NameFaults.{Allowed, in_switch, names_in, same_label, stmt_names, stmts_names, segments_names}
use Rattle.gang_model.specs.Names.Scope.{after_all, enclosed, locals_in_all, locals_in_segments}
use Rattle.gang_model.proofs.JudgedLaws.{least_fault-append}
use Rattle.gang_model.proofs.WalkedLists.{next_item}
use Rattle.ispc_names_scopes.specs.Scopes.{Scoped, site}
use Rattle.source_tree.specs.declared.tree.Segment.{Segment}
use Rattle.source_tree.specs.declared.tree.Stmt.{Stmt}
use Rattle.source_tree.specs.Tree.{stmts_view, segments_view}
use Rattle.ispc_names_declarations.proofs.Merging.{Fault, pair_fault, one_more}
use Rattle.ispc_names_faults.proofs.ScopeSteps.{Reaches, reach_same, reach_after_all}

-- ---- labels

-- the labels of segments, the last first, and behind them these
abbrev pub labels_after : List (Option Label) → List Segment → List (Option Label)
labels_after before [] = before
labels_after before (x ∷ xs) = labels_after (x.label ∷ before) xs

labels_after-push : (before : List (Option Label)) (xs : List Segment) (x : Segment) → labels_after before (xs ++ x ∷ []) ≡ x.label ∷ labels_after before xs
labels_after-push before [] x = refl
labels_after-push before (y ∷ xs) x = labels_after-push (y.label ∷ before) xs x

second_first : (a b c : Bool) → ((a || b) || c) ≡ (b || (a || c))
second_first true true c = refl
second_first true false c = refl
second_first false true c = refl
second_first false false c = refl

or_none : (a : Bool) → a ≡ (a || false)
or_none true = refl
or_none false = refl

any_after : (p : Option Label → Bool) (before : List (Option Label)) (xs : List Segment) → list_any p (labels_after before xs) ≡ (list_any p before || list_any (λ x. p x.label) xs)
any_after p before [] = or_none (list_any p before)
any_after p before (x ∷ xs) = any_after p (x.label ∷ before) xs ∙ second_first (p x.label) (list_any p before) (list_any (λ y. p y.label) xs)

-- ---- one more segment

locals-push : (xs : List Segment) (x : Segment) → locals_in_segments (segments_view xs) + locals_in_all (stmts_view x.body.items) ≡ locals_in_segments (segments_view (xs ++ x ∷ []))
locals-push [] x = omega arith
locals-push (y ∷ xs) x = omega (arith, locals-push xs x)

module _ (items : List Segment) (i : ℕ) (x : Segment) (body : List Stmt) (lt : i < length items) (is : x ≡ get_or items i x) (same : body ≡ x.body.items) where
  up_to_here : take (i + 1) items ≡ take i items ++ x ∷ []
  up_to_here = take_more items i x lt ∙ ap (λ z. take i items ++ z ∷ []) (sym is)

  -- what is found so far and what is left decide
  pub segments_step : (may : Allowed) (s s' : Scoped) (total found in_label in_body fault more : Fault)
      → total ≡ merged found (least_fault (segments_names (segments_view (drop i items)) (labels_after [] (take i items)) may (site s)))
      → in_label ≡ least_fault (fault_if (list_any (λ y. same_label x.label y.label) (take i items)) S6 x.place)
      → in_body ≡ least_fault (stmts_names (stmts_view body) may (site s)) → site s' ≡ after_all (stmts_view body) (site s)
      → fault ≡ merged in_label in_body → more ≡ merged found fault
      → total ≡ merged more (least_fault (segments_names (segments_view (drop (i + 1) items)) (labels_after [] (take (i + 1) items)) may (site s')))
  segments_step may s s' total found in_label in_body fault more t label inside past m whole =
      let labels = labels_after [] (take i items) in
      let later = segments_view (drop (i + 1) items) in
      let statements = stmts_view x.body.items in
      let own = fault_if (list_any (same_label x.label) labels) S6 x.place in
      let names = stmts_names statements may (site s) in
      let rest = segments_names later (x.label ∷ labels) may (after_all statements (site s)) in
      let after : site s' ≡ after_all statements (site s) = past ∙ ap (λ ss. after_all (stmts_view ss) (site s)) same in
      let longer : labels_after [] (take (i + 1) items) ≡ x.label ∷ labels = ap (labels_after []) up_to_here ∙ labels_after-push [] (take i items) x in
      one_more total found fault more (least_fault (own ++ names)) (least_fault (segments_names (segments_view (drop i items)) labels may (site s)))
      (least_fault (segments_names later (labels_after [] (take (i + 1) items)) may (site s'))) t
      (ap (λ xs. least_fault (segments_names (segments_view xs) labels may (site s))) (next_item items i x lt is)
      ∙ (ap least_fault (sym (append_assoc own names rest))
      ∙ (least_fault-append (own ++ names) rest
      ∙ ap (merged (least_fault (own ++ names))) (sym (ap (λ u. least_fault (segments_names later (labels_after [] (take (i + 1) items)) may u)) after
      ∙ ap (λ ls. least_fault (segments_names later ls may (after_all statements (site s)))) longer)))))
      (pair_fault own names in_label in_body fault
      (label ∙ ap (λ b. least_fault (fault_if b S6 x.place)) (sym (any_after (same_label x.label) [] (take i items))))
      (inside ∙ ap (λ ss. least_fault (stmts_names (stmts_view ss) may (site s))) same) m)
      whole

  pub segments_reach : (s0 s s' : Scoped) → Reaches s0 s (locals_in_segments (segments_view (take i items))) → site s' ≡ after_all (stmts_view body) (site s)
      → Reaches s0 s' (locals_in_segments (segments_view (take (i + 1) items)))
  segments_reach s0 s s' r past =
      reach_same s0 s' _ _ (ap (λ ss. locals_in_segments (segments_view (take i items)) + locals_in_all (stmts_view ss)) same
      ∙ (locals-push (take i items) x ∙ ap (λ xs. locals_in_segments (segments_view xs)) (sym up_to_here)))
      (reach_after_all s0 s s' (stmts_view body) (locals_in_segments (segments_view (take i items))) r past)

-- ---- a switch

pub switch_found : (s0 : Scoped) (p : Place) (e : ParsedExpr) (segments : ParsedSegments) (may inside : Allowed) (in_selector in_segments r : Fault)
    → in_selector ≡ least_fault (names_in e may.functions s0.environment) → inside ≡ in_switch may
    → in_segments ≡ least_fault (segments_names segments [] inside (enclosed (site s0))) → r ≡ merged in_selector in_segments
    → r ≡ least_fault (stmt_names (ParsedSwitch p e segments) may (site s0))
switch_found s0 p e segments may inside in_selector in_segments r selector switch found whole =
    pair_fault (names_in e may.functions s0.environment) (segments_names segments [] (in_switch may) (enclosed (site s0))) in_selector in_segments r selector
    (found ∙ ap (λ m. least_fault (segments_names segments [] m (enclosed (site s0)))) switch) whole
