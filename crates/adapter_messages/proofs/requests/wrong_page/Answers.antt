use Rattle.std.proofs.Common.{Bool, List, [], ◌∷◌, None, codes, refl}
use Rattle.serde_json.specs.Find.{pointer}
use Rattle.serde_json.specs.View.{view}
use Rattle.gang_model.specs.Texts.Text.{Bytes}
use Rattle.adapter_messages.specs.Arguments.{is_right, number_at, text_at}
use Rattle.adapter_messages.proofs.Needs.{wrong_then}
use Rattle.adapter_messages.proofs.requests.wrong_page.Goals as goal

pub returns : goal.returns
returns c =
    let m = view c.args.message.now in
    let filter : List (Bytes × Bool) = (codes "filter", is_right (text_at (codes "/arguments/filter") m) (pointer (codes "/arguments/filter") m)) ∷ [] in
    let count : List (Bytes × Bool) = (codes "count", is_right (number_at (codes "/arguments/count") m) (pointer (codes "/arguments/count") m)) ∷ filter in
    let first = wrong_then (codes "filter") _ _ None [] _ c.wrong_or-wrong.ensures c.is_right_text-filter.ensures refl in
    let second = wrong_then (codes "count") _ _ _ filter _ c.wrong_or-wrong-2.ensures c.is_right_number.ensures first in
    wrong_then (codes "start") _ _ _ count _ c.wrong_or.ensures c.is_right_number-2.ensures second
