use Rattle.std.proofs.Common.{Bool, List, [], ◌∷◌, None, codes, refl}
use Rattle.serde_json.specs.Find.{pointer}
use Rattle.serde_json.specs.View.{view}
use Rattle.gang_model.specs.Texts.Text.{Bytes}
use Rattle.adapter_messages.specs.Arguments.{is_right, number_at}
use Rattle.adapter_messages.proofs.Needs.{wrong_then}
use Rattle.adapter_messages.proofs.requests.wrong_stack.Goals as goal

pub returns : goal.returns
returns c =
    let m = view c.args.message.now in
    let levels : List (Bytes × Bool) = (codes "levels", is_right (number_at (codes "/arguments/levels") m) (pointer (codes "/arguments/levels") m)) ∷ [] in
    let first = wrong_then (codes "levels") _ _ None [] _ c.wrong_or-wrong.ensures c.is_right_number-levels.ensures refl in
    wrong_then (codes "startFrame") _ _ _ levels _ c.wrong_or.ensures c.is_right_number.ensures first
