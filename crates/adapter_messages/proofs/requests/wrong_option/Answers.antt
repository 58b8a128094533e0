use Rattle.std.proofs.Common.{Bool, List, [], ◌∷◌, None, codes, refl}
use Rattle.serde_json.specs.Find.{pointer}
use Rattle.serde_json.specs.View.{view}
use Rattle.gang_model.specs.Texts.Text.{Bytes}
use Rattle.adapter_messages.specs.Arguments.{flag_at, is_right, number_at, text_at}
use Rattle.adapter_messages.proofs.Needs.{wrong_then}
use Rattle.adapter_messages.proofs.requests.wrong_option.Goals as goal

pub returns : goal.returns
returns c =
    let m = view c.args.message.now in
    let text = λ (path : Bytes). is_right (text_at path m) (pointer path m) in
    let number = λ (path : Bytes). is_right (number_at path m) (pointer path m) in
    let flag = λ (path : Bytes). is_right (flag_at path m) (pointer path m) in
    let threads : List (Bytes × Bool) = (codes "laneThreads", flag (codes "/arguments/laneThreads")) ∷ [] in
    let stop : List (Bytes × Bool) = (codes "stopOnEntry", flag (codes "/arguments/stopOnEntry")) ∷ threads in
    let steps : List (Bytes × Bool) = (codes "steps", number (codes "/arguments/steps")) ∷ stop in
    let history : List (Bytes × Bool) = (codes "history", number (codes "/arguments/history")) ∷ steps in
    let width : List (Bytes × Bool) = (codes "width", number (codes "/arguments/width")) ∷ history in
    let entry : List (Bytes × Bool) = (codes "entry", text (codes "/arguments/entry")) ∷ width in
    let first = wrong_then (codes "laneThreads") _ _ None [] _ c.wrong_or-wrong.ensures c.is_right_flag-threads.ensures refl in
    let second = wrong_then (codes "stopOnEntry") _ _ _ threads _ c.wrong_or-wrong-2.ensures c.is_right_flag-stop.ensures first in
    let third = wrong_then (codes "steps") _ _ _ stop _ c.wrong_or-wrong-3.ensures c.is_right_number.ensures second in
    let fourth = wrong_then (codes "history") _ _ _ steps _ c.wrong_or-wrong-4.ensures c.is_right_number-2.ensures third in
    let fifth = wrong_then (codes "width") _ _ _ history _ c.wrong_or-wrong-5.ensures c.is_right_number-3.ensures fourth in
    let sixth = wrong_then (codes "entry") _ _ _ width _ c.wrong_or-wrong-6.ensures c.is_right_text.ensures fifth in
    wrong_then (codes "input") _ _ _ entry _ c.wrong_or.ensures c.is_right_text-2.ensures sixth
