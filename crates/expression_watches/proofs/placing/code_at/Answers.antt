use Rattle.std.proofs.Common.{◌≡◌, sym, ap, subst, ◌∙◌, true, false}
use Rattle.std.specs.Prelude.{IfOk}
use Rattle.ispc_lexer.specs.Views.{lexemes_of}
use Rattle.ispc_lexer.specs.Refusal.{IsRefusal}
use Rattle.typed_tree.specs.Views.{program_view}
use Rattle.expression_watches.specs.Names.{same_names}
use Rattle.expression_watches.specs.Meanings.{IsCode, meaning_by}
use Rattle.expression_watches.proofs.Texts.{meant, refused_tokens, tokens_are}
use Rattle.expression_watches.proofs.placing.code_at.Goals as goal

pub returns-then-same_names : goal.returns-then-same_names
returns-then-same_names c =
    let p = program_view c.args.program.now in
    let text = c.args.text.now in
    let spot = c.args.spot in
    let tokens = lexemes_of c.in-Ok.found.items in
    let are = tokens_are text tokens c.in-Ok.ensures.found.0 c.in-Ok.ensures.found.1 in
    let same : same_names p c.args.set_at spot tokens ≡ true = ap (λ ts. same_names p c.args.set_at spot (lexemes_of ts)) (sym c.deref.ensures.value) ∙ sym c.if-same_names.ensures in
    subst (λ m. IfOk c.placed_code.result (IsCode p spot m)) (sym (meant p spot text tokens are c.args.set_at true same)) (c.placed_code.ensures tokens are)

pub returns-in-Ok : goal.returns-in-Ok
returns-in-Ok c =
    let p = program_view c.args.program.now in
    let text = c.args.text.now in
    let spot = c.args.spot in
    let tokens = lexemes_of c.in-Ok.found.items in
    let are = tokens_are text tokens c.in-Ok.ensures.found.0 c.in-Ok.ensures.found.1 in
    let same : same_names p c.args.set_at spot tokens ≡ false = ap (λ ts. same_names p c.args.set_at spot (lexemes_of ts)) (sym c.deref.ensures.value) ∙ sym c.if-same_names.ensures in
    meant p spot text tokens are c.args.set_at false same

pub returns : goal.returns
returns c =
    let p = program_view c.args.program.now in
    let is = subst (IsRefusal c.args.text.now) c.in-Err-Refused.field-0-is c.in-Err-Refused.ensures.refused in
    ap (meaning_by p c.args.set_at c.args.spot) (refused_tokens c.args.text.now c.in-Err-Refused.field-0-0 is)
