use Rattle.std.proofs.Common.{◌≡◌, ◌<◌, ◌^◌, drop}
use Rattle.gang_model.specs.Source.Spelling.{value_in}
use Rattle.ispc_lexer.specs.Numbers.{radix_view}
use Rattle.ispc_lexer.proofs.Digits.{value_from}
use Rattle.ispc_lexer.proofs.numbers.digits_value.Given as goal

abbrev pub invariant-loop-digit : goal.invariant-loop-digit
invariant-loop-digit l = (l.value < 2 ^ 64) × (value_from (radix_view l.fn.radix) l.value (drop l.digit-index l.digits) ≡ value_in (radix_view l.fn.radix) l.digits)
