use Rattle.clap.specs.Walk.{texts}
use Rattle.desk_options.proofs.VerbsRead.{parsed_as}
use Rattle.desk_options.proofs.reading.parsed.Goals as goal

pub returns : goal.returns
returns c =
    let made = c.in_ok-verb_command.ensures in
    let parse = c.try_get_matches_from in
    parsed_as c.args.verb (texts c.args.words.now) made.0 made.1 c.in_ok-verb_command.field-0 made.2 parse.result parse.ensures.parsed parse.ensures.matches
    parse.ensures.kinds
