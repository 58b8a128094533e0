-- the words before this one, a blank before each
use Rattle.std.proofs.Common.{◌≡◌, ◌++◌, take, string_bytes}
use Rattle.std.specs.Prelude.{flat_map}
use Rattle.adapter_replies.specs.Variables.{behind_blank}
use Rattle.adapter_replies.proofs.texts.push_words.Given as goal

abbrev pub invariant-loop-word : goal.invariant-loop-word
invariant-loop-word l = string_bytes l.text ≡ string_bytes l.initial.text ++ flat_map (behind_blank l.digits l.value_type) (take l.word-index l.words)
