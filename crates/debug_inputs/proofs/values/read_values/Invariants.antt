-- the values so far, and those that are left
use Rattle.std.proofs.Common.{◌≡◌, List, length}
use Rattle.std.specs.Prelude.{ℤ}
use Rattle.gang_model.specs.Texts.InputText.{is_equals, values_of}
use Rattle.gang_model.specs.Texts.Spellings.{words_of_line}
use Rattle.debug_inputs.specs.LineValues.{ShowsValues}
use Rattle.debug_inputs.proofs.KeptValues.{behind_values}
use Rattle.debug_inputs.proofs.values.read_values.Given as goal

abbrev pub invariant-loop-word : goal.invariant-loop-word
invariant-loop-word l =
    (zs : List ℤ)
    × ShowsValues l.value_type l.most zs l.values
    × (values_of (words_of_line is_equals l.text) ≡ behind_values zs (values_of (words_of_line is_equals l.rest)))

abbrev pub decreases-loop-word : goal.decreases-loop-word
decreases-loop-word l = length (words_of_line is_equals l.rest)
