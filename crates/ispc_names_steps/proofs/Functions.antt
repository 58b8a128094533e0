-- A whole function: its parameters, its statements before the first `return` and those behind, and its closing brace.
use Rattle.std.proofs.Common.{ℕ, suc, ◌+◌, ◌≡◌, List, [], ◌∷◌, ◌++◌, None, refl, sym, ap, ◌∙◌, subst, arith, length, map}
use Rattle.std.specs.Prelude.{filter}
use Rattle.gang_model.specs.Source.Parsed.{ParsedGlobal, ParsedParam, ParsedSource, globals_in}
use Rattle.gang_model.specs.Names.Bindings.{bindings_in_all, param_bindings, function_bindings}
use Rattle.gang_model.specs.Names.Scope.{Binding, Environment, is_local, locals_in_all, after_all, before_return, standing, standings_in_all, function_site, standings_of, file_bindings, file_scope}
use Rattle.gang_model.proofs.VariableLaws.{bindings_numbers_all}
use Rattle.source_tree.specs.declared.tree.Function.{Function}
use Rattle.source_tree.specs.declared.tree.Param.{Param}
use Rattle.source_tree.specs.declared.tree.Stmt.{Stmt}
use Rattle.source_tree.specs.Tree.{stmts_view, param_view, function_view}
use Rattle.ispc_names_table.specs.declared.table.Declaration.{Declaration}
use Rattle.ispc_names_table.specs.declared.table.Standing.{Standing}
use Rattle.ispc_names_steps.specs.Sites.{numbered, Declares, StandsIn}
use Rattle.ispc_names_steps.proofs.Growth.{declares-join, declares-length, lists-none}
use Rattle.ispc_names_steps.proofs.Sequences.{standings-append, bindings-append}

-- no variable of the file is local
file_apart : (k : ℕ) (gs : List ParsedGlobal) → filter (λ b. is_local b.id) (file_bindings k gs) ≡ []
file_apart k [] = refl
file_apart k (g ∷ gs) = file_apart (suc k) gs

-- before the parameters
pub nothing_stands : (ds : List Declaration) (ss : List Standing) (source : ParsedSource) → ds ≡ [] → ss ≡ [] → StandsIn ds None ss (file_scope source) 0 []
nothing_stands ds ss source e f =
    subst (λ x. StandsIn x None ss (file_scope source) 0 []) (sym e) (subst (λ x. StandsIn [] None x (file_scope source) 0 []) (sym f)
    (record { reaches = record { below = tt; local = file_apart 0 (globals_in source) }; numbers = refl; lists = lists-none [] }))

pub whole_standings : (f : Function) (ps : List Param) (first rest : List Stmt) (environment : Environment) → ps ≡ f.params.items → first ++ rest ≡ f.body.items
    → stmts_view first ≡ before_return (stmts_view f.body.items)
    → (standings_in_all (stmts_view first) (function_site environment (map param_view ps))
    ++ standings_in_all (stmts_view rest) (after_all (stmts_view first) (function_site environment (map param_view ps))))
    ++ standing f.closing (after_all (stmts_view first) (function_site environment (map param_view ps))) ∷ []
    ≡ standings_of environment (function_view f)
whole_standings f ps first rest environment params body before =
    let site = function_site environment (map param_view ps) in
    let all = sym (standings-append first rest site) ∙ ap (λ ys. standings_in_all (stmts_view ys) site) body in
    ap (λ z. z ++ standing f.closing (after_all (stmts_view first) site) ∷ []) all
    ∙ ap (λ z. standings_in_all (stmts_view f.body.items) site ++ standing f.closing (after_all z site) ∷ []) before
    ∙ ap (λ qs. standings_in_all (stmts_view f.body.items) (function_site environment (map param_view qs))
    ++ standing f.closing (after_all (before_return (stmts_view f.body.items)) (function_site environment (map param_view qs))) ∷ []) params

param_bindings-length : (k : ℕ) (params : List ParsedParam) → length (param_bindings k params) ≡ length params
param_bindings-length k [] = refl
param_bindings-length k (p ∷ params) = ap suc (param_bindings-length (suc k) params)

from_nothing : (before after : List Declaration) (bs : List Binding) → before ≡ [] → Declares before after bs → numbered 0 after ≡ bs
from_nothing [] after bs e d = ap (numbered 0) d.behind ∙ d.named
from_nothing (x ∷ before) after bs e d = absurd (cc)

pub whole_declared : (f : Function) (ps : List Param) (first rest : List Stmt) (a b c d : List Declaration) → a ≡ [] → ps ≡ f.params.items → first ++ rest ≡ f.body.items
    → Declares a b (param_bindings (length a) (map param_view ps)) → Declares b c (bindings_in_all (stmts_view first) (length b)) → Declares c d (bindings_in_all (stmts_view rest) (length c))
    → numbered 0 d ≡ function_bindings (function_view f)
whole_declared f ps first rest a b c d e params body p q r =
    let P = map param_view ps in
    let none : length a ≡ 0 = ap length e in
    let few : length b ≡ length P = declares-length a b (param_bindings (length a) P) p ∙ omega (arith, none, param_bindings-length (length a) P) in
    let many : length c ≡ length b + locals_in_all (stmts_view first) =
    declares-length b c (bindings_in_all (stmts_view first) (length b)) q ∙ ap (λ k. length b + k) (bindings_numbers_all (stmts_view first) (length b)).0 in
    let inner = declares-join b c d (bindings_in_all (stmts_view first) (length b)) (bindings_in_all (stmts_view rest) (length b + locals_in_all (stmts_view first))) q
    (subst (λ k. Declares c d (bindings_in_all (stmts_view rest) k)) many r) in
    let all = declares-join a b d (param_bindings (length a) P)
    (bindings_in_all (stmts_view first) (length b) ++ bindings_in_all (stmts_view rest) (length b + locals_in_all (stmts_view first))) p inner in
    from_nothing a d (param_bindings (length a) P ++ (bindings_in_all (stmts_view first) (length b) ++ bindings_in_all (stmts_view rest) (length b + locals_in_all (stmts_view first)))) e all
    ∙ ap (λ z. param_bindings (length a) P ++ z) (sym (bindings-append first rest (length b)) ∙ ap (λ ys. bindings_in_all (stmts_view ys) (length b)) body)
    ∙ ap (λ k. param_bindings k P ++ bindings_in_all (stmts_view f.body.items) (length b)) none
    ∙ ap (λ k. param_bindings 0 P ++ bindings_in_all (stmts_view f.body.items) k) few
    ∙ ap (λ qs. param_bindings 0 (map param_view qs) ++ bindings_in_all (stmts_view f.body.items) (length (map param_view qs))) params
