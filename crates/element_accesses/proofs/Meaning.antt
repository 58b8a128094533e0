-- What the index of an access means in the scope of its step.
use Rattle.std.proofs.Common.{◌≡◌, ◌≤◌, ◌∙◌, refl, sym, ap, subst, inl}
use Rattle.gang_types.specs.declared.types.IntType.{IntType}
use Rattle.gang_types.specs.declared.types.Rate.{Rate}
use Rattle.gang_model.specs.Source.Judged.{Sound}
use Rattle.gang_model.specs.Source.Parsed.{ParsedExpr}
use Rattle.gang_model.specs.Source.Spells.{max_weight, weight}
use Rattle.gang_model.specs.Types.Conversions.{typed}
use Rattle.gang_model.specs.Types.Tree as t
use Rattle.gang_model.specs.Types.Typing.{expression}
use Rattle.typed_tree.specs.declared.program.Program.{Program}
use Rattle.expression_runs.specs.Room.{HasRoom}
use Rattle.frame_expressions.specs.Meanings.{Means, entries_at}
use Rattle.element_accesses.specs.declared.accesses.Access.{Access}
use Rattle.element_accesses.specs.Found.{Accessed}
use Rattle.element_accesses.specs.Rows.{IsRow}

-- the code of an index that is a written expression of at most 256 operators, calls and indexings has its meaning
pub means_of : (source : Program) (p : t.Program) (access : Access) (accessed : Accessed) (row : IsRow source access accessed) (written : ParsedExpr) (type : IntType) (rate : Rate)
    → weight written ≤ max_weight → expression written (entries_at p accessed.spot) ≡ Sound (typed accessed.index type rate)
    → Means written (entries_at p accessed.spot) type rate access.code.items
means_of source p access accessed row written type rate light sound = record {
  tree = row.index;
  is_sound = sound ∙ ap (λ e. Sound (typed e type rate)) (sym row.index_is);
  computes = row.computes;
  room = subst HasRoom (sym row.index_is)
      (row.room (record { written = written; scope = entries_at p accessed.spot; value = typed accessed.index type rate; light = light; is_sound = sound; stands = inl refl }));
}
