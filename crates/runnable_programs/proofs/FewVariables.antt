-- A function of a source within its limits has few variables.
use Rattle.std.proofs.Common.{ℕ, zero, suc, ◌+◌, ◌≤◌, true≢false, List, [], ◌∷◌, ◌++◌, length, length-append, ◌≡◌, refl, sym, ◌∙◌, ap, subst, arith}
use Rattle.std.specs.Prelude.{is_some, map, Option, Some, None, slice_get}
use Rattle.std.proofs.lemmas.List.{length-map}
use Rattle.gang_types.specs.declared.places.Place.{Place}
use Rattle.gang_model.specs.declared.refusals.SourceRefusal.{SourceRefusal}
use Rattle.gang_model.specs.Types.Tree.{Variable}
use Rattle.gang_model.specs.Source.Parsed.{ParsedStmt, ParsedEmpty, ParsedBlock, ParsedDeclare, ParsedAssign, ParsedChange, ParsedIncrement, ParsedDoCall, ParsedBreak, ParsedContinue, ParsedReturn, ParsedIf, ParsedIfElse, ParsedWhile, ParsedDo, ParsedFor, ParsedSwitch, ParsedForEach, ParsedForEachActive, ParsedForEachUnique, ParsedStmts, ParsedLast, ParsedNext, ParsedSegments, ParsedNoMore, ParsedSegment, ParsedFunction, ParsedItem, ParsedFunctionItem, ParsedGlobalItem, ParsedSource, functions_in}
use Rattle.gang_model.specs.Source.Judged.{Judged, Sound, Faulty, fault_if}
use Rattle.gang_model.specs.Source.Limits.{most_variables, declared_in, declared_in_all, declared_in_segments, variables_of, past_limit, limits_passed, first_fault, limit_refusal}
use Rattle.gang_model.specs.Names.Bindings.{variable_bindings}
use Rattle.gang_model.specs.Names.Scope.{locals_in, locals_in_all, locals_in_segments}
use Rattle.gang_model.specs.Types.Resolved.{length_of, param_variables}
use Rattle.gang_model.specs.Types.Statements.{Made}
use Rattle.gang_model.proofs.JudgedLaws.{OnSound}
use Rattle.gang_model.proofs.StandingLaws.{Each}
use Rattle.gang_model.proofs.VariableLaws.{bindings_numbers_all, params_count}
use Rattle.machine_states.specs.Variables.{own_of, or_none}
use Rattle.runnable_programs.specs.Sources.{own_variables, source_variables, variables_made}
use Rattle.machine_states.proofs.Elements.{each_get, get_mapped}
use Rattle.runnable_programs.proofs.OwnVariables.{body_of, BodyFaithful, body_faithful}

-- ---- a function's variables

-- two parts together
two : (xs ys : List Place) (m n : ℕ) → length xs ≡ m → length ys ≡ n → length (xs ++ ys) ≡ m + n
two xs ys m n e d = length-append xs ys ∙ omega (arith, e, d)

mutual
  -- a statement has a place for each variable that it declares
  places_count : (s : ParsedStmt) → length (declared_in s) ≡ locals_in s
  places_count ParsedEmpty = refl
  places_count (ParsedBlock ss) = places_count_all ss
  places_count (ParsedDeclare p spec at name e) = refl
  places_count (ParsedAssign p target e) = refl
  places_count (ParsedChange p target op e) = refl
  places_count (ParsedIncrement p target op) = refl
  places_count (ParsedDoCall p name args) = refl
  places_count (ParsedBreak p) = refl
  places_count (ParsedContinue p) = refl
  places_count (ParsedReturn p e) = refl
  places_count (ParsedIf p e a) = places_count a
  places_count (ParsedIfElse p e a b) = two (declared_in a) (declared_in b) (locals_in a) (locals_in b) (places_count a) (places_count b)
  places_count (ParsedWhile p e body) = places_count body
  places_count (ParsedDo body p e) = places_count body
  places_count (ParsedFor p start e update body) =
      let later = two (declared_in update) (declared_in body) (locals_in update) (locals_in body) (places_count update) (places_count body) in
      two (declared_in start) (declared_in update ++ declared_in body) (locals_in start) (locals_in update + locals_in body) (places_count start) later ∙ omega arith
  places_count (ParsedSwitch p e segments) = places_count_segments segments
  places_count (ParsedForEach p is_tiled dims body) =
      two (map (λ d. d.at) dims) (declared_in body) (length dims) (locals_in body) (length-map dims (λ d. d.at)) (places_count body)
  places_count (ParsedForEachActive p at name body) = let inner = places_count body in omega (arith, inner)
  places_count (ParsedForEachUnique p at name e body) = let inner = places_count body in omega (arith, inner)

  places_count_all : (ss : ParsedStmts) → length (declared_in_all ss) ≡ locals_in_all ss
  places_count_all ParsedLast = refl
  places_count_all (ParsedNext s ss) = two (declared_in s) (declared_in_all ss) (locals_in s) (locals_in_all ss) (places_count s) (places_count_all ss)

  places_count_segments : (segments : ParsedSegments) → length (declared_in_segments segments) ≡ locals_in_segments segments
  places_count_segments ParsedNoMore = refl
  places_count_segments (ParsedSegment p label ss rest) =
      two (declared_in_all ss) (declared_in_segments rest) (locals_in_all ss) (locals_in_segments rest) (places_count_all ss) (places_count_segments rest)

-- a place for each variable of a function
variables_count : (f : ParsedFunction) → length (variables_of f) ≡ length f.params + locals_in_all f.body
variables_count f = two (map (λ p. p.at) f.params) (declared_in_all f.body) (length f.params) (locals_in_all f.body) (length-map f.params (λ p. p.at)) (places_count_all f.body)

bindings_count : (variables : List Variable) → length (variable_bindings variables) ≡ length variables
bindings_count [] = refl
bindings_count (v ∷ variables) = ap suc (bindings_count variables)

-- a typed body declares what the body as written does
body_count : (f : ParsedFunction) (m : Made) → BodyFaithful f m → length m.variables ≡ locals_in_all f.body
body_count f m h = sym (bindings_count m.variables) ∙ ap length h.2 ∙ (bindings_numbers_all f.body (length f.params)).0

made_count : (f : ParsedFunction) (j : Judged Made) → OnSound j (BodyFaithful f) → length (variables_made j) ≤ locals_in_all f.body
made_count f (Sound m) h = omega (arith, body_count f m h)
made_count f (Faulty first others) h = omega arith

own_count : (source : ParsedSource) (f : ParsedFunction) → length (own_variables source f) ≤ length (variables_of f)
own_count source f =
    let made = variables_made (body_of source f) in
    let own = length-append (param_variables 0 f.params) made in
    omega (arith, own, params_count 0 f.params, made_count f (body_of source f) (body_faithful source f), variables_count f)

-- ---- limits

none_of_two : (xs ys : List SourceRefusal) → first_fault (xs ++ ys) ≡ None → (first_fault xs ≡ None) × (first_fault ys ≡ None)
none_of_two [] ys e = (refl, e)
none_of_two (x ∷ xs) ys e = absurd (true≢false (ap is_some e))

no_place : (o : Option Place) → first_fault (past_limit o) ≡ None → o ≡ None
no_place None e = refl
no_place (Some place) e = absurd (true≢false (ap is_some e))

within : {A : Type 0} (xs : List A) (k : ℕ) → slice_get xs k ≡ None → length xs ≤ k
within [] k e = omega arith
within (x ∷ xs) zero e = absurd (true≢false (ap is_some e))
within (x ∷ xs) (suc k) e = let later = within xs k e in omega (arith, later)

-- each function has a place for few variables
few_places : (words : ℕ) (items : List ParsedItem) → first_fault (limits_passed words items) ≡ None → Each (λ f. length (variables_of f) ≤ most_variables) (functions_in items)
few_places words [] e = tt
few_places words (ParsedFunctionItem f ∷ items) e =
    let parts = none_of_two (past_limit (slice_get (variables_of f) most_variables)) (limits_passed words items) e in
    (within (variables_of f) most_variables (no_place (slice_get (variables_of f) most_variables) parts.0), few_places words items parts.1)
few_places words (ParsedGlobalItem g ∷ items) e =
    few_places (words + length_of g.form) items (none_of_two (fault_if _ _ g.at) (limits_passed (words + length_of g.form) items) e).1

-- each function of a source within its limits has few variables
pub few_variables : (source : ParsedSource) → limit_refusal source ≡ None → (n : ℕ) → length (own_of (source_variables source) n) ≤ most_variables
few_variables source e n = by (slice_get (map (own_variables source) (functions_in source)) n) refl
  where
    by : (own : Option (List Variable)) → slice_get (map (own_variables source) (functions_in source)) n ≡ own → length (or_none own) ≤ most_variables
    by None there = omega arith
    by (Some own) there =
        let f = get_mapped (own_variables source) (functions_in source) n own there in
        let places = each_get (λ g. length (variables_of g) ≤ most_variables) (functions_in source) n f.0 (few_places 0 source e) f.1 in
        let count = own_count source f.0 in
        subst (λ vs. length vs ≤ most_variables) f.2 (omega (arith, count, places))
