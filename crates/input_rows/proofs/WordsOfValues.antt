-- A word of a row has 64 bits, and stands for a value of the variable's type.
use Rattle.std.proofs.Common.{ℕ, ◌^◌, ◌<◌, subst}
use Rattle.gang_types.specs.declared.types.IntType.{IntType}
use Rattle.gang_types.specs.Values.{value_of, value_in, wrapped}
use Rattle.gang_types.specs.Laws.{word_of-lt}
use Rattle.gang_types.specs.Ranges.{InType, wrapped-InType}
use Rattle.input_rows.specs.Inputs.{IsWordOf}

pub word_below : (type : IntType) (word : ℕ) → IsWordOf type word → word < 2 ^ 64
unfolding wrapped
word_below type word is = subst (λ n. n < 2 ^ 64) is (word_of-lt (value_in type (value_of type word)))

pub word_in : (type : IntType) (word : ℕ) → IsWordOf type word → InType type (value_of type word)
word_in type word is = subst (λ n. InType type (value_of type n)) is (wrapped-InType type (value_of type word))
