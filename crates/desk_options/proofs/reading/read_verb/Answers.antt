use Rattle.std.proofs.Common.{◌≡◌, ◌∙◌, rules, Some, None, ap, sym}
use Rattle.std.specs.Prelude.{option_map}
use Rattle.clap.specs.Walk.{texts}
use Rattle.desk_options.specs.Names.{named_words}
use Rattle.desk_options.proofs.VerbsRead.{asks_for, nameless_fault, never_unread}
use Rattle.desk_options.proofs.reading.read_verb.Goals as goal

pub returns-in_default-clause-refused : goal.returns-in_default-clause-refused
returns-in_default-clause-refused c =
    let none : c.named_words.result ≡ None = search rules in
    let nameless : named_words (texts c.args.words.now) ≡ None = sym c.named_words.ensures ∙ ap (option_map (λ p. (p.0, texts p.1.now))) none in
    nameless_fault (texts c.args.words.now) c.in_ok-nameless_fault.field-0 nameless c.in_ok-nameless_fault.ensures

pub returns-in-Some-2-clause-asked : goal.returns-in-Some-2-clause-asked
returns-in-Some-2-clause-asked c =
    let named : named_words (texts c.args.words.now) ≡ Some (c.in-Some.name, texts c.in-Some.rest.now) =
    sym c.named_words.ensures ∙ ap (option_map (λ p. (p.0, texts p.1.now))) c.in-Some.is in
    asks_for (texts c.args.words.now) c.in-Some.name (texts c.in-Some.rest.now) named c.in_ok-matches.matches c.in_ok-matches.ensures c.in_ok-verb.field-0 c.in_ok-verb.ensures.read c.in-Some-2.verb c.in-Some-2.is

pub returns-clause-refused : goal.returns-clause-refused
returns-clause-refused c =
    let named : named_words (texts c.args.words.now) ≡ Some (c.in-Some.name, texts c.in-Some.rest.now) =
    sym c.named_words.ensures ∙ ap (option_map (λ p. (p.0, texts p.1.now))) c.in-Some.is in
    absurd (never_unread (texts c.args.words.now) c.in-Some.name (texts c.in-Some.rest.now) named c.in_ok-matches.matches c.in_ok-matches.ensures c.in_ok-verb.field-0 c.in_ok-verb.ensures.read c.in-None.is)
