-- The numbers of a parser's refusals are those of a text without a tree.
use Rattle.std.proofs.Common.{refl, inl, inr}
use Rattle.gang_model.specs.declared.refusals.RefusalNumber.{RefusalNumber}
use Rattle.gang_model.specs.declared.refusals.RefusalNumber.TheVariants.{S1, S2, S3, S4, S5, S6, S7, S8, S9, S10, S11, S12, S13}
use Rattle.gang_model.specs.Source.Sources.{IsTreeNumber}
use Rattle.ispc_parser_words.specs.Front.{IsParserNumber}

pub tree_number : (n : RefusalNumber) → IsParserNumber n → IsTreeNumber n
tree_number S1 h = absurd h
tree_number S2 h = absurd h
tree_number S3 h = inl refl
tree_number S4 h = inr (inl refl)
tree_number S5 h = absurd h
tree_number S6 h = absurd h
tree_number S7 h = absurd h
tree_number S8 h = absurd h
tree_number S9 h = absurd h
tree_number S10 h = absurd h
tree_number S11 h = absurd h
tree_number S12 h = absurd h
tree_number S13 h = inr (inr refl)
