use Rattle.std.proofs.Common.{rules, codes}
use Rattle.clap.specs.Matches.{found_of}
use Rattle.desk_options.proofs.FlagsRead.{flag_read}
use Rattle.desk_options.proofs.profile_values.profile_of.Goals as goal

pub returns-clause-read : goal.returns-clause-read
returns-clause-read c passed =
    let found = found_of c.args.matches.now in
    record {
      program = search rules;
      from = search rules;
      most = search rules;
      top = search rules;
      by = search rules;
      color = search rules;
      annotate = flag_read found (codes "annotate") c.get_flag.result passed.annotate c.get_flag.ensures.none c.get_flag.ensures.value c.get_flag.ensures.other;
      json = flag_read found (codes "json") c.get_flag-2.result passed.json c.get_flag-2.ensures.none c.get_flag-2.ensures.value c.get_flag-2.ensures.other;
      compare = flag_read found (codes "compare") c.get_flag-3.result passed.compare c.get_flag-3.ensures.none c.get_flag-3.ensures.value c.get_flag-3.ensures.other;
      to = search rules;
      force = flag_read found (codes "force") c.get_flag-4.result passed.force c.get_flag-4.ensures.none c.get_flag-4.ensures.value c.get_flag-4.ensures.other;
    }
