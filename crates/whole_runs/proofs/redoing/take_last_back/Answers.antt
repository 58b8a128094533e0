use Rattle.std.proofs.Common.{Bool, arith, subst, inl, inr, refl}
use Rattle.std.specs.Prelude.{filter}
use Rattle.std.proofs.lemmas.List.Elements.{All-filter, All-same}
use Rattle.debug_traits.specs.Beginnings.{StandsAt}
use Rattle.whole_runs.specs.declared.copies.CopiedMoment.{CopiedMoment}
use Rattle.whole_runs.specs.Copies.{is_within}
use Rattle.whole_runs.specs.Runs.{IsCopied}
use Rattle.whole_runs.proofs.WholeLaws.{have_all, have_dropped, none_kept, undone_at}
use Rattle.whole_runs.proofs.redoing.take_last_back.Goals as goal

pub returns-then-kept-gt0-clause-words : goal.returns-then-kept-gt0-clause-words
returns-then-kept-gt0-clause-words g c =
    have_all g.M.BeginsAgain.can_have _ _ c.args.start.now _ (λ words h. g.met.M.BeginsAgain.can_have_so _ _ words c.undo.ensures.run h) c.requires

pub returns-then-kept-gt0-clause-stays : goal.returns-then-kept-gt0-clause-stays
returns-then-kept-gt0-clause-stays g c = (
  λ words h. g.met.M.BeginsAgain.can_have_so _ _ words c.undo.ensures.run h,
  λ words s d h. g.met.M.BeginsAgain.copies_so _ _ words s d c.undo.ensures.run h,
)

pub returns-then-kept-gt0-clause-back : goal.returns-then-kept-gt0-clause-back
returns-then-kept-gt0-clause-back g c s d older events there is copied begins are gone =
    let stands = g.M.RecordedMachine.stands in
    subst (StandsAt stands c.undo.new.self s d) is
    (undone_at stands g.M.BeginsAgain.copies _ c.undo.new.self s d events c.kept.result c.undo.result there c.kept.ensures.debugger c.if-kept-gt0.true c.undo.ensures.undo)

pub returns-then-kept-gt0-clause-copies : goal.returns-then-kept-gt0-clause-copies
returns-then-kept-gt0-clause-copies g c = inl refl

pub redo_nearest-requires-clause-words : goal.redo_nearest-requires-clause-words
redo_nearest-requires-clause-words g c =
    have_dropped g.M.BeginsAgain.can_have _ c.args.start.now c.args.copies.now.all.items _ (λ c'. is_within c.args.notes.now.pokes.items c.args.notes.now.steps c'.pokes c'.steps) c.drop_past.ensures.all c.requires

pub redo_nearest-requires-clause-none_kept : goal.redo_nearest-requires-clause-none_kept
redo_nearest-requires-clause-none_kept g c = none_kept c.kept.result _ c.kept.ensures.all c.if-kept-gt0.false

pub returns-clause-words : goal.returns-clause-words
returns-clause-words g c =
    have_all g.M.BeginsAgain.can_have _ _ c.args.start.now _ c.redo_nearest.ensures.copies.0
    (have_dropped g.M.BeginsAgain.can_have _ c.args.start.now c.args.copies.now.all.items _ (λ c'. is_within c.args.notes.now.pokes.items c.args.notes.now.steps c'.pokes c'.steps) c.drop_past.ensures.all c.requires)

pub returns-clause-back : goal.returns-clause-back
returns-clause-back g c s d older events there is copied begins are gone =
    let notes = c.args.notes.now in
    let P = IsCopied g.M.BeginsAgain.copies c.args.machine.now s d older notes.pokes.items notes.steps in
    let old = c.args.copies.now.all.items in
    let test : CopiedMoment → Bool = λ c'. is_within notes.pokes.items notes.steps c'.pokes c'.steps in
    c.redo_nearest.ensures.redone s d older (All-same P _ (filter test old) c.drop_past.ensures.all (All-filter test P old copied)) begins are gone

pub returns-clause-copies : goal.returns-clause-copies
returns-clause-copies g c = inr c.drop_past.ensures.all

pub returns-then-kept-gt0-clause-cost : goal.returns-then-kept-gt0-clause-cost
returns-then-kept-gt0-clause-cost g c = let one = c.undo.ensures.moves in grind (arith, one)

pub returns-clause-cost : goal.returns-clause-cost
returns-clause-cost g c = let moved = c.redo_nearest.ensures.cost in grind (arith, moved)
