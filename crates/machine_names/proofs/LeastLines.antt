-- The lines of all steps, and the least one from a line on.
use Rattle.std.proofs.Common.{◌≡◌, refl, sym, ap, ◌∙◌, ℕ, ◌+◌, ◌<◌, List, [], ◌∷◌, ◌++◌, append-nil, get_or, length, take, map, Option, Some, None}
use Rattle.std.proofs.lemmas.List.{map-append, take_more}
use Rattle.std.proofs.lemmas.List.Concat.{flat_map-append}
use Rattle.gang_model.specs.Debugger.Debugger.{lesser}
use Rattle.gang_model.specs.Types.Resolved.{standing_with}
use Rattle.gang_model.specs.Types.Tree.{Variable}
use Rattle.ispc_names_table.specs.declared.table.Declaration.{Declaration}
use Rattle.ispc_names_table.specs.declared.table.Standing.{Standing}
use Rattle.ispc_names_table.specs.Scopes.{standing_view}
use Rattle.typed_tree.specs.declared.program.Function.{Function}
use Rattle.typed_tree.specs.Views.{function_view}
use Rattle.machine_names.specs.Lines.{lines_in}

-- ---- the least one

-- the least line of some, and of others
abbrev pub joined : Option ℕ → Option ℕ → Option ℕ
joined None other = other
joined (Some n) other = Some (lesser n other)

-- ---- the lines of functions

-- the lines of a function's steps
pub function_lines : (vs : List Variable) (ds : List Declaration) (ss : List Standing) → map (λ st. st.place.line) (map (standing_with vs) (map (standing_view ds) ss)) ≡ map (λ (s : Standing). s.place.line) ss
function_lines vs ds [] = refl
function_lines vs ds (s ∷ ss) = ap (λ lines. s.place.line ∷ lines) (function_lines vs ds ss)

-- those of one more function
lines_more : (fs : List Function) (f : Function) → lines_in (map function_view (fs ++ f ∷ [])) ≡ lines_in (map function_view fs) ++ map (λ (s : Standing). s.place.line) f.scopes.standings.items
lines_more fs f =
    ap lines_in (map-append function_view fs (f ∷ []))
    ∙ flat_map-append (λ f. map (λ standing. standing.place.line) f.standings) (map function_view fs) (function_view f ∷ [])
    ∙ ap (λ lines. lines_in (map function_view fs) ++ lines) (append-nil (map (λ standing. standing.place.line) (function_view f).standings) ∙ function_lines _ f.scopes.declarations.items f.scopes.standings.items)

pub lines_next : (fs : List Function) (i : ℕ) (f : Function) → i < length fs → f ≡ get_or fs i f → lines_in (map function_view (take (i + 1) fs)) ≡ lines_in (map function_view (take i fs)) ++ map (λ (s : Standing). s.place.line) f.scopes.standings.items
lines_next fs i f below is =
    ap (λ xs. lines_in (map function_view xs)) (take_more fs i f below ∙ ap (λ x. take i fs ++ x ∷ []) (sym is)) ∙ lines_more (take i fs) f
