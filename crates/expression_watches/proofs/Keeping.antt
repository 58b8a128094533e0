-- Codes of a watched text that are kept.
use Rattle.std.proofs.Common.{◌≡◌, subst, List, Option, Some, None}
use Rattle.std.proofs.lemmas.Option.{same_Some}
use Rattle.gang_types.specs.declared.places.Spot.{Spot}
use Rattle.gang_model.specs.Types.Tree.{Expr, Program}
use Rattle.expression_instructions.specs.declared.code.Instruction.{Instruction}
use Rattle.expression_watches.specs.declared.codes.KeptCode.{KeptCode}
use Rattle.expression_watches.specs.declared.codes.KeptCode.TheVariants as kept
use Rattle.expression_watches.specs.Codes.{IsKept, code_of}
use Rattle.expression_watches.specs.Meanings.{HasCode}

-- code that is kept computes what is meant
pub kept_code : (p : Program) (spot : Spot) (meant : Option Expr) (found : KeptCode) (code : List Instruction) → code_of found ≡ Some code → IsKept p spot meant found → HasCode p spot meant code
kept_code p spot meant kept.Unread code same is = absurd cc
kept_code p spot meant (kept.Read None) code same is = absurd cc
kept_code p spot meant (kept.Read (Some own)) code same is = subst (HasCode p spot meant) (same_Some own.items code same) is
