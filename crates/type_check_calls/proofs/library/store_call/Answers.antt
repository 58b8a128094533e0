use Rattle.std.proofs.Common.{map, ap, sym}
use Rattle.gang_model.specs.declared.refusals.RefusalNumber.TheVariants.{S9}
use Rattle.gang_model.specs.Types.LibraryTable.{PackedStores}
use Rattle.gang_model.specs.Types.Calls.{library_statement}
use Rattle.typed_tree.specs.Views.{result_view}
use Rattle.type_check_scopes.specs.Passings.{passing_view}
use Rattle.source_answers.proofs.Answered.{answers-at}
use Rattle.type_check_calls.specs.Calls.{called_view}
use Rattle.type_check_calls.proofs.CallParts.{only_two, store_refused}
use Rattle.type_check_calls.proofs.Residuals.{one-refused}
use Rattle.type_check_calls.proofs.library.store_call.Goals as goal

pub returns-in-Some : goal.returns-in-Some
returns-in-Some c =
    answers-at called_view c.packed_store.result _ (library_statement c.args.place PackedStores (map passing_view c.args.given.items) (result_view c.args.result_for) c.args.step) c.packed_store.ensures
    (ap (λ xs. library_statement c.args.place PackedStores (map passing_view xs) (result_view c.args.result_for) c.args.step)
    (sym (only_two c.args.given.items c.in-Some.array c.in-Some.value c.in-Some.ensures)))

pub returns-in-None : goal.returns-in-None
returns-in-None c =
    one-refused called_view S9 c.args.place c.refused.result (library_statement c.args.place PackedStores (map passing_view c.args.given.items) (result_view c.args.result_for) c.args.step) c.refused.ensures
    (store_refused passing_view c.args.place (result_view c.args.result_for) c.args.step c.args.given.items c.in-None.ensures)
