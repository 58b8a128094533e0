use Rattle.std.proofs.Common.{◌≡◌, ◌-◌, ◌+◌, ◌∙◌, [], ◌∷◌, ◌++◌, sym, arith, length, map}
use Rattle.std.proofs.lemmas.List.{map-append}
use Rattle.std.proofs.lemmas.Result.{err_from_is_err_and}
use Rattle.ispc_parser_words.proofs.Tokens.{length-lexemes_of}
use Rattle.ispc_lexer.specs.Views.{lexemes_of}
use Rattle.source_tree.specs.Tree.{item_view}
use Rattle.ispc_parser_shared.proofs.Fails.{fails_none}
use Rattle.ispc_parser.specs.Source.{tree_of}
use Rattle.ispc_parser.proofs.Items.{nothing_left, something_left, items_begin, items_done, items_spent, items_fail, items_go_on}
use Rattle.ispc_parser.proofs.source.items.Goals as goal

pub loop-init : goal.loop-init
unfolding tree_of
loop-init c = rw c.new-items.ensures.items (items_begin (length c.args.tokens.now - 0) (length (lexemes_of c.args.tokens.now)) (lexemes_of c.args.tokens.now) (omega (arith, length-lexemes_of c.args.tokens.now)))

pub returns-then-is_empty : goal.returns-then-is_empty
returns-then-is_empty c =
    sym c.loop.invariant ∙ items_done (length c.args.tokens.now - c.loop.counter) (map item_view c.loop.items.items) (lexemes_of c.loop.rest.now) (nothing_left c.loop.rest.now (cc))

pub returns-in_err-item : goal.returns-in_err-item
returns-in_err-item c =
    let p = err_from_is_err_and c.from_residual.result c.from_residual.ensures.1 in
    rw (p.1, p.2) (items_fail (length c.args.tokens.now - c.loop.counter) (length c.args.tokens.now - (c.loop.counter + 1)) (map item_view c.loop.items.items) (lexemes_of c.loop.rest.now) _ (omega arith) (something_left c.loop.rest.now (cc)) c.loop.invariant c.in_err-item.field-0.0 c.in_err-item.ensures)

pub loop-preserved : goal.loop-preserved
loop-preserved c =
    let e : map item_view c.push.new.self.items ≡ map item_view c.loop.items.items ++ item_view c.in_ok-item.item ∷ [] = rw c.in_ok-push.ensures.items (map-append item_view c.loop.items.items (c.in_ok-item.item ∷ [])) in
    rw e (items_go_on (length c.args.tokens.now - c.loop.counter) (length c.args.tokens.now - (c.loop.counter + 1)) (map item_view c.loop.items.items) (lexemes_of c.loop.rest.now) _ (omega arith) (something_left c.loop.rest.now (cc)) c.loop.invariant (item_view c.in_ok-item.item) (lexemes_of c.in_ok-item.after_item.now) c.in_ok-item.ensures)

pub returns-then-is_empty-2 : goal.returns-then-is_empty-2
returns-then-is_empty-2 c =
    sym c.loop.invariant ∙ items_done (length c.args.tokens.now - c.loop.counter) (map item_view c.loop.items.items) (lexemes_of c.loop.rest.now) (nothing_left c.loop.rest.now (cc))

pub returns-else-is_empty-2 : goal.returns-else-is_empty-2
returns-else-is_empty-2 c =
    fails_none c.unexpected.result _ (rw c.unexpected.ensures tt) (sym c.loop.invariant ∙ items_spent (length c.args.tokens.now - c.loop.counter) (map item_view c.loop.items.items) (lexemes_of c.loop.rest.now) (omega arith) (something_left c.loop.rest.now (cc)))
