use Rattle.std.proofs.Common.{◌∙◌, sym, subst}
use Rattle.std.specs.Prelude.{IfOk}
use Rattle.gang_types.specs.Masks.{lanes_of}
use Rattle.prompt_texts.specs.Items.{Tells}
use Rattle.prompt_texts.proofs.told.told_words.Goals as goal

pub returns-then-is_of_lanes : goal.returns-then-is_of_lanes
returns-then-is_of_lanes c =
    let a = c.args in
    subst (λ b. IfOk c.told_lanes.result (λ told. Tells told a.shown.value_type a.layout b (lanes_of 16 a.lanes) a.from a.words.now))
    (sym c.if-is_of_lanes.true ∙ c.is_of_lanes.ensures) (c.told_lanes.ensures a.layout)

pub returns-else-is_of_lanes : goal.returns-else-is_of_lanes
returns-else-is_of_lanes c =
    let a = c.args in
    subst (λ b. IfOk c.told_elements.result (λ told. Tells told a.shown.value_type a.layout b (lanes_of 16 a.lanes) a.from a.words.now))
    (sym c.if-is_of_lanes.false ∙ c.is_of_lanes.ensures) (c.told_elements.ensures (lanes_of 16 a.lanes))
