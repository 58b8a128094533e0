use Rattle.std.proofs.Common.{◌≡◌, ◌++◌, length, drop, map}
use Rattle.std.specs.List.{enumerate_from, zip}
use Rattle.typed_tree.specs.Views.{arg_view}
use Rattle.type_check_overloads.proofs.Parts.{passed_all}
use Rattle.type_check_overloads.proofs.passed.passed_args.Given as goal

-- what is passed so far and what is left
abbrev pub invariant-loop-number : goal.invariant-loop-number
invariant-loop-number l =
    map arg_view l.args.items ++ passed_all (drop (length l.yielded) (enumerate_from 0 (zip l.fn.given.items l.params))) ≡ passed_all (enumerate_from 0 (zip l.fn.given.items l.params))
