use Rattle.std.proofs.Common.{map}
use Rattle.std.specs.List.{concat}
use Rattle.gang_model.specs.Texts.Text.{target_text}
use Rattle.debug_commands.specs.Views.{target_view}
use Rattle.debug_texts.proofs.Pieces.{line_parts}
use Rattle.debug_texts.proofs.Writing.{writes_parts}
use Rattle.debug_texts.proofs.target_texts.write_target_line.Goals as goal

pub returns : goal.returns
returns g c =
    let front = concat (map (λ p. p.now) c.args.before.now) in
    writes_parts _ front _ _ _ _ _ c.write_target.result (line_parts front (target_text (target_view c.args.target))) c.in_ok-write_pieces.ensures.0 c.write_target.ensures
