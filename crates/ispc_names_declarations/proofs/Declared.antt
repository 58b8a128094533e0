-- The least fault of index variables and of parameters, from those of each.
use Rattle.std.proofs.Common.{◌≡◌, List, ◌∷◌, sym, ap, ◌∙◌}
use Rattle.gang_model.specs.Source.Judged.{least_fault, merged}
use Rattle.gang_model.specs.Names.NameFaults.{twice, params_twice}
use Rattle.gang_model.specs.Source.Parsed.{Name, ParsedDim, ParsedParam}
use Rattle.gang_model.specs.Names.Scope.{Site, with_name, with_dims, with_params}
use Rattle.gang_model.proofs.JudgedLaws.{least_fault-append}
use Rattle.ispc_names_scopes.specs.Scopes.{Scoped, site}
use Rattle.ispc_names_declarations.specs.IndexVariables.{dims_twice}
use Rattle.ispc_names_declarations.proofs.Merging.{Fault, one_more}

-- one more index variable
pub dims_step : (rest later : List ParsedDim) (d : ParsedDim) (s s' : Scoped) (name : Name) (total found fault more : Fault)
    → rest ≡ d ∷ later → total ≡ merged found (least_fault (dims_twice rest (site s))) → name ≡ d.name → fault ≡ least_fault (twice (site s) d.at name)
    → site s' ≡ with_name name (site s) → more ≡ merged found fault → total ≡ merged more (least_fault (dims_twice later (site s')))
dims_step rest later d s s' name total found fault more split t same f after_name m =
    one_more total found fault more (least_fault (twice (site s) d.at d.name)) (least_fault (dims_twice rest (site s))) (least_fault (dims_twice later (site s'))) t
    (ap (λ ds. least_fault (dims_twice ds (site s))) split
    ∙ (least_fault-append (twice (site s) d.at d.name) (dims_twice later (with_name d.name (site s)))
    ∙ ap (λ u. merged (least_fault (twice (site s) d.at d.name)) (least_fault (dims_twice later u))) (sym (after_name ∙ ap (λ n. with_name n (site s)) same))))
    (f ∙ ap (λ n. least_fault (twice (site s) d.at n)) same)
    m

pub dims_declared : (rest later : List ParsedDim) (d : ParsedDim) (s s' : Scoped) (name : Name) (end : Site)
    → rest ≡ d ∷ later → end ≡ with_dims rest (site s) → name ≡ d.name → site s' ≡ with_name name (site s) → end ≡ with_dims later (site s')
dims_declared rest later d s s' name end split e same after_name =
    e ∙ (ap (λ ds. with_dims ds (site s)) split ∙ ap (with_dims later) (sym (after_name ∙ ap (λ n. with_name n (site s)) same)))

-- one more parameter
pub params_step : (rest later : List ParsedParam) (p : ParsedParam) (s s' : Scoped) (name : Name) (total found fault more : Fault)
    → rest ≡ p ∷ later → total ≡ merged found (least_fault (params_twice rest (site s))) → name ≡ p.name → fault ≡ least_fault (twice (site s) p.at name)
    → site s' ≡ with_name name (site s) → more ≡ merged found fault → total ≡ merged more (least_fault (params_twice later (site s')))
params_step rest later p s s' name total found fault more split t same f after_name m =
    one_more total found fault more (least_fault (twice (site s) p.at p.name)) (least_fault (params_twice rest (site s))) (least_fault (params_twice later (site s'))) t
    (ap (λ ps. least_fault (params_twice ps (site s))) split
    ∙ (least_fault-append (twice (site s) p.at p.name) (params_twice later (with_name p.name (site s)))
    ∙ ap (λ u. merged (least_fault (twice (site s) p.at p.name)) (least_fault (params_twice later u))) (sym (after_name ∙ ap (λ n. with_name n (site s)) same))))
    (f ∙ ap (λ n. least_fault (twice (site s) p.at n)) same)
    m

pub params_declared : (rest later : List ParsedParam) (p : ParsedParam) (s s' : Scoped) (name : Name) (end : Site)
    → rest ≡ p ∷ later → end ≡ with_params rest (site s) → name ≡ p.name → site s' ≡ with_name name (site s) → end ≡ with_params later (site s')
params_declared rest later p s s' name end split e same after_name =
    e ∙ (ap (λ ps. with_params ps (site s)) split ∙ ap (with_params later) (sym (after_name ∙ ap (λ n. with_name n (site s)) same)))
