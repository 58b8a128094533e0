-- The places of steps, by the tables of a program.
use Rattle.std.proofs.Common.{◌≡◌, refl, ap, ◌∙◌, ℕ, List, map, Option, Some, None}
use Rattle.std.specs.Prelude.{option_map, slice_get}
use Rattle.std.proofs.lemmas.Option.{slice_get-map}
use Rattle.gang_types.specs.declared.places.Place.{Place}
use Rattle.gang_model.specs.Types.Resolved.{standing_with}
use Rattle.gang_model.specs.Types.Tree.{Variable}
use Rattle.ispc_names_table.specs.declared.table.Declaration.{Declaration}
use Rattle.ispc_names_table.specs.declared.table.Standing.{Standing}
use Rattle.ispc_names_table.specs.Scopes.{standing_view}
use Rattle.adapter_replies.specs.Waiting.{standing_place}

-- the place of a row of a table
abbrev pub row_place : Option Standing → Option Place
row_place row = option_map (λ (s : Standing). s.place) row

-- a row has the place of the standing of which it is one
row_same : (vs : List Variable) (ds : List Declaration) (row : Option Standing) → standing_place (option_map (standing_with vs) (option_map (standing_view ds) row)) ≡ row_place row
row_same vs ds None = refl
row_same vs ds (Some s) = refl

-- the place of a step of the definitions is that of its row
pub place_known : (vs : List Variable) (ds : List Declaration) (rows : List Standing) (n : ℕ)
    → standing_place (slice_get (map (standing_with vs) (map (standing_view ds) rows)) n) ≡ row_place (slice_get rows n)
place_known vs ds rows n =
    ap standing_place (slice_get-map (standing_with vs) (map (standing_view ds) rows) n ∙ ap (option_map (standing_with vs)) (slice_get-map (standing_view ds) rows n))
    ∙ row_same vs ds (slice_get rows n)
