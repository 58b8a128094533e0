use Rattle.std.proofs.Common.{◌∙◌, ◌++◌, ◌∷◌, [], ap, sym, take, refl, arith}
use Rattle.std.proofs.lemmas.List.{take_all}
use Rattle.gang_types.specs.Masks.{lanes_of}
use Rattle.prompt_texts.specs.Items.{lane_items}
use Rattle.prompt_texts.proofs.Rows.{lanes_more}
use Rattle.prompt_texts.proofs.told.told_lanes.Goals as goal

pub loop-at-preserved : goal.loop-at-preserved
loop-at-preserved c =
    let a = c.args in
    let lanes = lanes_of 16 a.lanes in
    let words = a.words.now in
    let at = c.loop-at.at in
    c.in_ok-push.ensures.items ∙ ap (λ xs. xs ++ c.lane_item.result ∷ []) c.loop-at.invariant
    ∙ ap (λ x. lane_items lanes a.from (take at words) ++ x ∷ []) c.lane_item.ensures ∙ sym (lanes_more lanes a.from words at c.loop-at-test.true)

pub returns : goal.returns
returns c = λ layout.
    let a = c.args in
    let lanes = lanes_of 16 a.lanes in
    let words = a.words.now in record {
      type_is = refl;
      items_are = c.loop-at.invariant ∙ ap (lane_items lanes a.from) (take_all c.loop-at.at words (omega (arith, c.loop-at-test.false)));
      cut = refl;
    }
