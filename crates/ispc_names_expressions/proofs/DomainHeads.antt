-- The least fault of the head of a `foreach`, from those of its index variables and of its bounds.
use Rattle.std.proofs.Common.{◌≡◌, List, [], ◌∷◌, ◌++◌, refl, sym, ap, ◌∙◌}
use Rattle.gang_model.specs.declared.refusals.SourceRefusal.{SourceRefusal}
use Rattle.gang_model.specs.Source.Judged.{least_fault, merged}
use Rattle.gang_model.specs.Names.NameFaults.{names_in, twice, dims_names}
use Rattle.gang_model.specs.Source.Parsed.{Name, ParsedDim}
use Rattle.gang_model.specs.Names.Scope.{Environment, Site, with_name}
use Rattle.gang_model.proofs.JudgedLaws.{least_fault-append}
use Rattle.ispc_names_declarations.specs.IndexVariables.{dims_twice}
use Rattle.ispc_names_declarations.proofs.Merging.{Fault, pair_fault, two_pairs}
use Rattle.ispc_names_expressions.specs.Bounds.{bounds_names}

dims_apart : (dims : List ParsedDim) (functions : List Name) (outside : Environment) (t : Site)
    → least_fault (dims_names dims functions outside t) ≡ merged (least_fault (dims_twice dims t)) (least_fault (bounds_names dims functions outside))
dims_apart [] functions outside t = refl
dims_apart (d ∷ dims) functions outside t =
    let own = twice t d.at d.name in
    let bounds = names_in d.low functions outside ++ names_in d.high functions outside in
    let later = with_name d.name t in
    least_fault-append (own ++ bounds) (dims_names dims functions outside later)
    ∙ (ap (λ x. merged x (least_fault (dims_names dims functions outside later))) (least_fault-append own bounds)
    ∙ (ap (merged (merged (least_fault own) (least_fault bounds))) (dims_apart dims functions outside later)
    ∙ (two_pairs (least_fault own) (least_fault bounds) (least_fault (dims_twice dims later)) (least_fault (bounds_names dims functions outside))
    ∙ (ap (λ x. merged x (merged (least_fault bounds) (least_fault (bounds_names dims functions outside)))) (sym (least_fault-append own (dims_twice dims later)))
    ∙ ap (merged (least_fault (own ++ dims_twice dims later))) (sym (least_fault-append bounds (bounds_names dims functions outside)))))))

-- whether the `foreach` may stand there, then its head
pub head_found : (own_faults : List SourceRefusal) (dims : List ParsedDim) (functions : List Name) (outside : Environment) (t inside : Site) (own in_names in_bounds head r : Fault)
    → t ≡ inside → own ≡ least_fault own_faults → in_names ≡ least_fault (dims_twice dims t) → in_bounds ≡ least_fault (bounds_names dims functions outside)
    → head ≡ merged in_names in_bounds → r ≡ merged own head → r ≡ least_fault (own_faults ++ dims_names dims functions outside inside)
head_found own_faults dims functions outside t inside own in_names in_bounds head r entered o n b h whole =
    pair_fault own_faults (dims_names dims functions outside inside) own head r o
    (h ∙ (ap (λ x. merged x in_bounds) (n ∙ ap (λ u. least_fault (dims_twice dims u)) entered)
    ∙ (ap (merged (least_fault (dims_twice dims inside))) b ∙ sym (dims_apart dims functions outside inside))))
    whole
