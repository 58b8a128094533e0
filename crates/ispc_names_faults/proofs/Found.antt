-- The least fault of a statement, a function or a source, from those of its parts.
use Rattle.std.proofs.Common.{◌≡◌, ℕ, List, [], ◌∷◌, ◌++◌, Bool, not, sym, ap, ◌∙◌, append_assoc, Option}
use Rattle.std.specs.Prelude.{◌||◌, IfOk, OnOk, Result, is_some}
use Rattle.std.proofs.lemmas.Result.{IfOk-weaker, on_ok_weaker}
use Rattle.gang_types.specs.declared.places.Place.{Place}
use Rattle.gang_model.specs.declared.refusals.RefusalNumber.TheVariants.{S6, S11}
use Rattle.gang_model.specs.declared.refusals.SourceRefusal.{SourceRefusal}
use Rattle.gang_model.specs.Source.Judged.{fault_if, least_fault, merged}
use Rattle.gang_model.specs.Types.LibraryTable.{is_library_name, statement_call}
use Rattle.gang_model.specs.Names.NameFaults.{Allowed, in_loop, in_round, in_domain_round, in_function, names_in, names_in_some, twice, dims_names, params_twice, stmt_names, stmts_names, function_names}
use Rattle.gang_model.specs.Source.Parsed.{Name, ParsedExpr, ParsedDim, ParsedStmt, ParsedIfElse, ParsedWhile, ParsedDo, ParsedFor, ParsedForEach, ParsedForEachUnique, ParsedGlobal, ParsedFunction, ParsedSource, functions_in, globals_in}
use Rattle.gang_model.specs.Names.Scope.{Site, with_name, with_dims, with_params, enclosed, past, after, after_all, at_test, in_for, in_rounds, in_domain, locals_in, function_site}
use Rattle.gang_model.specs.Types.SourceRefusals.{names_refusal}
use Rattle.gang_model.proofs.JudgedLaws.{least_fault-append}
use Rattle.ispc_names_scopes.specs.Scopes.{Scoped, site}
use Rattle.source_tree.specs.declared.tree.Stmt.{Stmt}
use Rattle.source_tree.specs.Tree.{stmt_view, stmts_view}
use Rattle.ispc_names_faults.specs.Moved.{moved}
use Rattle.ispc_names_faults.specs.NamesOfAll.{names_of_all}
use Rattle.ispc_names_declarations.proofs.Merging.{Fault, pair_fault, either_order, one_more, all_found, second_first}

-- ---- statements

-- the head of a `foreach`, then its body
pub domain_found : (s0 s1 : Scoped) (p : Place) (is_tiled : Bool) (dims : List ParsedDim) (body : ParsedStmt) (may round : Allowed) (in_head in_body r : Fault)
    → in_head ≡ least_fault (fault_if (not may.domains) S11 p ++ dims_names dims may.functions s0.environment (enclosed (site s0)))
    → site s1 ≡ with_dims dims (enclosed (site s0)) → round ≡ in_domain_round may → in_body ≡ least_fault (stmt_names body round (enclosed (site s1)))
    → r ≡ merged in_head in_body → r ≡ least_fault (stmt_names (ParsedForEach p is_tiled dims body) may (site s0))
domain_found s0 s1 p is_tiled dims body may round in_head in_body r h declared rounds f whole =
    let own = fault_if (not may.domains) S11 p in
    let heads = dims_names dims may.functions s0.environment (enclosed (site s0)) in
    let bodies = stmt_names body (in_domain_round may) (in_domain dims (site s0)) in
    pair_fault (own ++ heads) bodies in_head in_body r h
    (f ∙ (ap (λ m. least_fault (stmt_names body m (enclosed (site s1)))) rounds ∙ ap (λ t. least_fault (stmt_names body (in_domain_round may) (enclosed t))) declared))
    whole
    ∙ ap least_fault (append_assoc own heads bodies)

-- the head of a `foreach_active` or `foreach_unique`, then its body
pub rounds_found : (s0 s1 : Scoped) (name : Name) (place : Place) (body : ParsedStmt) (may round : Allowed) (in_head in_body r : Fault)
    → in_head ≡ least_fault (twice (enclosed (site s0)) place name) → site s1 ≡ with_name name (enclosed (site s0))
    → round ≡ in_round may → in_body ≡ least_fault (stmt_names body round (enclosed (site s1)))
    → r ≡ merged in_head in_body
    → r ≡ least_fault (twice (enclosed (site s0)) place name ++ stmt_names body (in_round may) (in_rounds name (site s0)))
rounds_found s0 s1 name place body may round in_head in_body r h declared rounds inside whole =
    pair_fault (twice (enclosed (site s0)) place name) (stmt_names body (in_round may) (in_rounds name (site s0))) in_head in_body r h
    (inside ∙ (ap (λ m. least_fault (stmt_names body m (enclosed (site s1)))) rounds ∙ ap (λ t. least_fault (stmt_names body (in_round may) (enclosed t))) declared))
    whole

-- one more of some statements
pub stmts_step : (rest later : List Stmt) (x : Stmt) (may : Allowed) (s s' : Scoped) (total found fault more : Fault)
    → rest ≡ x ∷ later → total ≡ merged found (least_fault (stmts_names (stmts_view rest) may (site s)))
    → fault ≡ least_fault (stmt_names (stmt_view x) may (site s)) → site s' ≡ after (stmt_view x) (site s) → more ≡ merged found fault
    → total ≡ merged more (least_fault (stmts_names (stmts_view later) may (site s')))
stmts_step rest later x may s s' total found fault more split t f after_one m =
    let here = stmt_names (stmt_view x) may (site s) in
    one_more total found fault more (least_fault here) (least_fault (stmts_names (stmts_view rest) may (site s))) (least_fault (stmts_names (stmts_view later) may (site s'))) t
    (ap (λ xs. least_fault (stmts_names (stmts_view xs) may (site s))) split
    ∙ (least_fault-append here (stmts_names (stmts_view later) may (after (stmt_view x) (site s)))
    ∙ ap (λ u. merged (least_fault here) (least_fault (stmts_names (stmts_view later) may u))) (sym after_one)))
    f m

pub stmts_passed : (rest later : List Stmt) (x : Stmt) (s s' : Scoped) (end : Site)
    → rest ≡ x ∷ later → end ≡ after_all (stmts_view rest) (site s) → site s' ≡ after (stmt_view x) (site s) → end ≡ after_all (stmts_view later) (site s')
stmts_passed rest later x s s' end split e after_one =
    e ∙ (ap (λ xs. after_all (stmts_view xs) (site s)) split ∙ ap (after_all (stmts_view later)) (sym after_one))

-- all of some statements
pub stmts_found : (items rest : List Stmt) (may : Allowed) (s : Scoped) (t : Site) (found : Fault)
    → least_fault (stmts_names (stmts_view items) may t) ≡ merged found (least_fault (stmts_names (stmts_view rest) may (site s))) → rest ≡ []
    → found ≡ least_fault (stmts_names (stmts_view items) may t)
stmts_found items rest may s t found e none =
    all_found (least_fault (stmts_names (stmts_view items) may t)) found (least_fault (stmts_names (stmts_view rest) may (site s))) e
    (ap (λ xs. least_fault (stmts_names (stmts_view xs) may (site s))) none)

pub if_else_found : (s0 s1 : Scoped) (p : Place) (e : ParsedExpr) (a b : ParsedStmt) (may : Allowed) (in_test in_first in_other both r : Fault)
    → in_test ≡ least_fault (names_in e may.functions s0.environment) → in_first ≡ least_fault (stmt_names a may (enclosed (site s0))) → s1 ≡ moved (locals_in a) s0
    → in_other ≡ least_fault (stmt_names b may (enclosed (site s1))) → both ≡ merged in_first in_other → r ≡ merged in_test both
    → r ≡ least_fault (stmt_names (ParsedIfElse p e a b) may (site s0))
if_else_found s0 s1 p e a b may in_test in_first in_other both r t f past_first o m whole =
    let second = stmt_names b may (enclosed (past (locals_in a) (site s0))) in
    pair_fault (names_in e may.functions s0.environment) (stmt_names a may (enclosed (site s0)) ++ second) in_test both r t
    (pair_fault (stmt_names a may (enclosed (site s0))) second in_first in_other both f
    (o ∙ ap (λ s. least_fault (stmt_names b may (enclosed (site s)))) past_first) m)
    whole

-- the test of a `do` behind its body
body_first : (e : ParsedExpr) (a : ParsedStmt) (p : Place) (may : Allowed) (t : Site)
    → least_fault (stmt_names (ParsedWhile p e a) may t) ≡ least_fault (stmt_names (ParsedDo a p e) may t)
body_first e a p may t = either_order (names_in e may.functions t.environment) (stmt_names a (in_loop may) (enclosed t))

pub for_found : (s0 s1 s2 s3 : Scoped) (p : Place) (start : ParsedStmt) (test : Option ParsedExpr) (update body : ParsedStmt) (may inside : Allowed)
    (in_start in_test in_update in_body head tail r : Fault)
    → site s1 ≡ enclosed (site s0) → in_start ≡ least_fault (stmt_names start may (site s1)) → site s2 ≡ after start (site s1)
    → in_test ≡ least_fault (names_in_some test may.functions s2.environment)
    → in_update ≡ least_fault (stmt_names update may (site s2)) → s3 ≡ moved (locals_in update) s2
    → inside ≡ in_loop may → in_body ≡ least_fault (stmt_names body inside (enclosed (site s3)))
    → head ≡ merged in_start in_test → tail ≡ merged in_update in_body → r ≡ merged head tail
    → r ≡ least_fault (stmt_names (ParsedFor p start test update body) may (site s0))
for_found s0 s1 s2 s3 p start test update body may inside in_start in_test in_update in_body head tail r entered st started te up updated loop bo h ta whole =
    let at : site s2 ≡ at_test start (site s0) = started ∙ ap (after start) entered in
    let past_update : site s3 ≡ past (locals_in update) (at_test start (site s0)) = ap site updated ∙ ap (past (locals_in update)) at in
    let starts = stmt_names start may (enclosed (site s0)) in
    let tests = names_in_some test may.functions (at_test start (site s0)).environment in
    let updates = stmt_names update may (at_test start (site s0)) in
    let rounds = stmt_names body (in_loop may) (in_for start update (site s0)) in
    pair_fault (starts ++ tests) (updates ++ rounds) head tail r
    (pair_fault starts tests in_start in_test head (st ∙ ap (λ t. least_fault (stmt_names start may t)) entered)
    (te ∙ ap (λ t. least_fault (names_in_some test may.functions t.environment)) at) h)
    (pair_fault updates rounds in_update in_body tail (up ∙ ap (λ t. least_fault (stmt_names update may t)) at)
    (bo ∙ (ap (λ m. least_fault (stmt_names body m (enclosed (site s3)))) loop ∙ ap (λ t. least_fault (stmt_names body (in_loop may) (enclosed t))) past_update)) ta)
    whole

-- what stands between two others is looked at first
pub middle_first : (xs ys zs : List SourceRefusal) (v w r : Fault) → v ≡ least_fault ys → w ≡ least_fault (xs ++ zs) → r ≡ merged v w → r ≡ least_fault (xs ++ (ys ++ zs))
middle_first xs ys zs v w r e f whole =
    whole
    ∙ (ap (λ x. merged x w) e
    ∙ (ap (merged (least_fault ys)) (f ∙ least_fault-append xs zs)
    ∙ (second_first (least_fault xs) (least_fault ys) (least_fault zs)
    ∙ (ap (merged (least_fault xs)) (sym (least_fault-append ys zs)) ∙ sym (least_fault-append xs (ys ++ zs))))))

pub for_each_unique_found : (s0 : Scoped) (p at : Place) (name other : Name) (e : ParsedExpr) (body : ParsedStmt) (may : Allowed) (in_value in_rounds' r : Fault)
    → in_value ≡ least_fault (names_in e may.functions s0.environment) → other ≡ name
    → in_rounds' ≡ least_fault (twice (enclosed (site s0)) at other ++ stmt_names body (in_round may) (in_rounds other (site s0)))
    → r ≡ merged in_value in_rounds' → r ≡ least_fault (stmt_names (ParsedForEachUnique p at name e body) may (site s0))
for_each_unique_found s0 p at name other e body may in_value in_rounds' r v same f whole =
    middle_first (twice (enclosed (site s0)) at name) (names_in e may.functions s0.environment) (stmt_names body (in_round may) (in_rounds name (site s0))) in_value in_rounds' r v
    (f ∙ ap (λ n. least_fault (twice (enclosed (site s0)) at n ++ stmt_names body (in_round may) (in_rounds n (site s0)))) same) whole

-- ---- statements as they lie in memory

module _ {E : Type 0} (result : Result Fault E) (v w : ParsedStmt) (is : v ≡ w) where
  pub found_as : (may : Allowed) (t : Site) → IfOk result (λ fault. fault ≡ least_fault (stmt_names w may t)) → IfOk result (λ fault. fault ≡ least_fault (stmt_names v may t))
  found_as may t h = IfOk-weaker result _ _ (λ fault f. f ∙ sym (ap (λ s. least_fault (stmt_names s may t)) is)) h

  pub after_as : (n : ℕ) (s0 s1 : Scoped) → past n (site s0) ≡ after w (site s0) → OnOk result (s1 ≡ moved n s0) → OnOk result (site s1 ≡ after v (site s0))
  after_as n s0 s1 moves h = on_ok_weaker result (λ e. ap site e ∙ (moves ∙ sym (ap (λ s. after s (site s0)) is))) h

-- the same, where the call says it of any value of a part that does not matter
pub found_at : {A E : Type 0} (result : Result Fault E) (v : ParsedStmt) (w : A → ParsedStmt) (a : A) (may : Allowed) (t : Site) → v ≡ w a
    → IfOk result (λ fault. (b : A) → fault ≡ least_fault (stmt_names (w b) may t)) → IfOk result (λ fault. fault ≡ least_fault (stmt_names v may t))
found_at result v w a may t is h =
    found_as result v (w a) is may t (IfOk-weaker result (λ fault. (b : _) → fault ≡ least_fault (stmt_names (w b) may t)) (λ fault. fault ≡ least_fault (stmt_names (w a) may t)) (λ fault f. f a) h)

-- a test and what it decides about, in a loop
module _ {E : Type 0} (result : Result Fault E) (v : ParsedStmt) (p : Place) (e : ParsedExpr) (a : ParsedStmt) (may inside : Allowed) (t : Site) (loop : inside ≡ in_loop may)
    (h : IfOk result (λ fault. fault ≡ least_fault (names_in e may.functions t.environment ++ stmt_names a inside (enclosed t)))) where
  in_a_loop : IfOk result (λ fault. fault ≡ least_fault (stmt_names (ParsedWhile p e a) may t))
  in_a_loop = IfOk-weaker result _ _ (λ fault f. f ∙ ap (λ m. least_fault (names_in e may.functions t.environment ++ stmt_names a m (enclosed t))) loop) h

  pub while_found : v ≡ ParsedWhile p e a → IfOk result (λ fault. fault ≡ least_fault (stmt_names v may t))
  while_found is = found_as result v (ParsedWhile p e a) is may t in_a_loop

  pub do_found : v ≡ ParsedDo a p e → IfOk result (λ fault. fault ≡ least_fault (stmt_names v may t))
  do_found is = found_as result v (ParsedDo a p e) is may t (IfOk-weaker result _ _ (λ fault f. f ∙ body_first e a p may t) in_a_loop)

-- ---- functions

pub function_found : (s0 s1 s2 : Scoped) (f : ParsedFunction) (functions : List Name) (name : Name) (may : Allowed) (taken : Bool) (own in_params in_body inside r : Fault)
    → name ≡ f.name → taken ≡ (is_library_name name || is_some (statement_call name)) → own ≡ least_fault (fault_if taken S6 f.at)
    → site s1 ≡ record { environment = s0.environment; here = []; next = 0 } → in_params ≡ least_fault (params_twice f.params (site s1))
    → site s2 ≡ with_params f.params (site s1) → may ≡ in_function functions → in_body ≡ least_fault (stmts_names f.body may (site s2))
    → inside ≡ merged in_params in_body → r ≡ merged own inside → r ≡ least_fault (function_names functions s0.environment f)
function_found s0 s1 s2 f functions name may taken own in_params in_body inside r same test o begun ps declared function b m whole =
    let first : Site = record { environment = s0.environment; here = []; next = 0 } in
    let params = params_twice f.params first in
    let body = stmts_names f.body (in_function functions) (function_site s0.environment f.params) in
    pair_fault (fault_if (is_library_name f.name || is_some (statement_call f.name)) S6 f.at) (params ++ body) own inside r
    (o ∙ ap (λ x. least_fault (fault_if x S6 f.at)) (test ∙ ap (λ n. is_library_name n || is_some (statement_call n)) same))
    (pair_fault params body in_params in_body inside (ps ∙ ap (λ t. least_fault (params_twice f.params t)) begun)
    (b ∙ (ap (λ x. least_fault (stmts_names f.body x (site s2))) function
    ∙ ap (λ t. least_fault (stmts_names f.body (in_function functions) t)) (declared ∙ ap (with_params f.params) begun))) m)
    whole

-- ---- sources

pub source_found : {E : Type 0} (result : Result Fault E) (source : ParsedSource) (globals : List ParsedGlobal) (functions : List ParsedFunction)
    → globals ≡ globals_in source → functions ≡ functions_in source
    → IfOk result (λ fault. fault ≡ least_fault (names_of_all globals functions)) → IfOk result (λ fault. fault ≡ names_refusal source)
source_found result source globals functions g f h =
    IfOk-weaker result (λ fault. fault ≡ least_fault (names_of_all globals functions)) (λ fault. fault ≡ names_refusal source)
    (λ fault e. e ∙ (ap (λ gs. least_fault (names_of_all gs functions)) g ∙ ap (λ fs. least_fault (names_of_all (globals_in source) fs)) f)) h
