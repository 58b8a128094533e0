use Rattle.std.proofs.Common.{◌-◌, ◌∙◌, ap, refl}
use Rattle.std.specs.Prelude.{None, if◌then◌else◌}
use Rattle.gang_model.specs.Source.Names.{same_text}
use Rattle.debug_inputs.specs.Remaining.{remaining_at}
use Rattle.debug_inputs.proofs.RowsSoFar.{row_added}
use Rattle.debug_inputs.proofs.reading.Reading.add.Goals as goal

pub returns : goal.returns
returns c = λ receivers rows id stands.
    row_added receivers rows _ c.args.row c.args.self.now _ id refl stands
    (λ name. c.in_ok-close.ensures name ∙ ap (λ n. if same_text name n then None else remaining_at c.args.self.now.remaining name) c.deref.ensures.value)
    (c.saturating_sub-self.ensures ∙ ap (λ n. c.args.self.now.left - n) c.entry_words.ensures) c.in_ok-push.ensures.items
