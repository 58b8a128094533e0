-- Each value that a parse of a verb's options found passed its parser.
use Rattle.std.proofs.Common.{◌≡◌, ◌∙◌, List, Some, refl, ap, arith}
use Rattle.std.specs.Prelude.{codes}
use Rattle.std.specs.Borrow.{Bor}
use Rattle.clap.specs.Built.{IsParsedFrom}
use Rattle.clap.specs.Matches.{found_of}
use Rattle.clap.specs.Walk.{Text}
use Rattle.clap.specs.Simple.{app_of}
use Rattle.clap.specs.declared.builder.command.Command.{Command}
use Rattle.clap.specs.declared.builder.value_parser.ValueParser.TheVariants as parser
use Rattle.clap.specs.declared.parser.matches.ArgMatches.{ArgMatches}
use Rattle.ispc_options.specs.Asked.{AreWidths, flag, option_or}
use Rattle.ispc_options.proofs.PassedValues.{flag_passed, number_passed, one_of_the_widths, required_given, value_passed, which_flags}
use Rattle.desk_options.specs.Commands.{rules_of, verb_command, wanted}
use Rattle.desk_options.specs.Passed.{ArePagePassed, ArePassed, ArePicturePassed, ArePortedPassed, AreProfilePassed, HavePassed}
use Rattle.desk_options.specs.declared.names.VerbName.{VerbName}
use Rattle.desk_options.specs.declared.names.VerbName.TheVariants.{Debug, Picture, Page, Profile, Adapter, Explain, Port}

module _ (widths : Bor (List (Bor Text))) (are : AreWidths widths) (old : Command) (m : ArgMatches) (p : IsParsedFrom old m) where
  debug_passed : app_of old ≡ verb_command widths Debug → ArePassed (found_of m)
  debug_passed app =
      let rules = rules_of widths Debug in
      let width = value_passed _ rules refl refl refl old app m p 3 (option_or (codes "width") (parser.Names widths) (codes "4")) (omega arith) (λ d. refl) refl refl (parser.Names widths) refl refl refl (omega arith) in
      let w = one_of_the_widths widths are width.0 width.3 in
      record {
        source = required_given _ rules refl refl refl old app m p 0 (wanted (codes "source")) (omega arith) (λ d. refl) refl refl refl refl refl;
        width = (w.0, width.1 ∙ ap Some w.1);
        history = number_passed _ rules refl refl refl old app m p 4 (codes "history") 65536 (codes "65536") (omega arith) (λ d. refl) refl refl;
        steps = number_passed _ rules refl refl refl old app m p 5 (codes "steps") 10000000 (codes "1000000") (omega arith) (λ d. refl) refl refl;
      }

  picture_passed : app_of old ≡ verb_command widths Picture → ArePicturePassed (found_of m)
  picture_passed app =
      let rules = rules_of widths Picture in
      let width = value_passed _ rules refl refl refl old app m p 3 (option_or (codes "width") (parser.Names widths) (codes "4")) (omega arith) (λ d. refl) refl refl (parser.Names widths) refl refl refl (omega arith) in
      let w = one_of_the_widths widths are width.0 width.3 in
      let force = flag_passed _ rules refl refl refl old app m p 12 (flag (codes "force")) (omega arith) (λ d. refl) refl refl parser.Bool refl refl in
      record {
        program = record {
          source = required_given _ rules refl refl refl old app m p 0 (wanted (codes "source")) (omega arith) (λ d. refl) refl refl refl refl refl;
          width = (w.0, width.1 ∙ ap Some w.1);
          history = number_passed _ rules refl refl refl old app m p 4 (codes "history") 65536 (codes "65536") (omega arith) (λ d. refl) refl refl;
          steps = number_passed _ rules refl refl refl old app m p 5 (codes "steps") 10000000 (codes "1000000") (omega arith) (λ d. refl) refl refl;
        };
        from = number_passed _ rules refl refl refl old app m p 8 (codes "from") 10000000 (codes "1") (omega arith) (λ d. refl) refl refl;
        most = number_passed _ rules refl refl refl old app m p 9 (codes "most") 10000000 (codes "400") (omega arith) (λ d. refl) refl refl;
        row = number_passed _ rules refl refl refl old app m p 10 (codes "row") 10000000 (codes "60") (omega arith) (λ d. refl) refl refl;
        flag = force.0;
        force = which_flags _ force.1;
      }

  page_passed : app_of old ≡ verb_command widths Page → ArePagePassed (found_of m)
  page_passed app =
      let rules = rules_of widths Page in
      let width = value_passed _ rules refl refl refl old app m p 4 (option_or (codes "width") (parser.Names widths) (codes "4")) (omega arith) (λ d. refl) refl refl (parser.Names widths) refl refl refl (omega arith) in
      let w = one_of_the_widths widths are width.0 width.3 in
      let force = flag_passed _ rules refl refl refl old app m p 13 (flag (codes "force")) (omega arith) (λ d. refl) refl refl parser.Bool refl refl in
      record {
        program = record {
          source = required_given _ rules refl refl refl old app m p 1 (wanted (codes "source")) (omega arith) (λ d. refl) refl refl refl refl refl;
          width = (w.0, width.1 ∙ ap Some w.1);
          history = number_passed _ rules refl refl refl old app m p 5 (codes "history") 65536 (codes "65536") (omega arith) (λ d. refl) refl refl;
          steps = number_passed _ rules refl refl refl old app m p 6 (codes "steps") 10000000 (codes "1000000") (omega arith) (λ d. refl) refl refl;
        };
        from = number_passed _ rules refl refl refl old app m p 8 (codes "from") 10000000 (codes "1") (omega arith) (λ d. refl) refl refl;
        most = number_passed _ rules refl refl refl old app m p 0 (codes "most") 1000000 (codes "100000") (omega arith) (λ d. refl) refl refl;
        each = number_passed _ rules refl refl refl old app m p 9 (codes "each") 1000000 (codes "1") (omega arith) (λ d. refl) refl refl;
        elements = number_passed _ rules refl refl refl old app m p 11 (codes "elements") 65536 (codes "1024") (omega arith) (λ d. refl) refl refl;
        flag = force.0;
        force = which_flags _ force.1;
      }

  profile_passed : app_of old ≡ verb_command widths Profile → AreProfilePassed (found_of m)
  profile_passed app =
      let rules = rules_of widths Profile in
      let width = value_passed _ rules refl refl refl old app m p 3 (option_or (codes "width") (parser.Names widths) (codes "4")) (omega arith) (λ d. refl) refl refl (parser.Names widths) refl refl refl (omega arith) in
      let w = one_of_the_widths widths are width.0 width.3 in
      let annotate = flag_passed _ rules refl refl refl old app m p 11 (flag (codes "annotate")) (omega arith) (λ d. refl) refl refl parser.Bool refl refl in
      let json = flag_passed _ rules refl refl refl old app m p 12 (flag (codes "json")) (omega arith) (λ d. refl) refl refl parser.Bool refl refl in
      let compare = flag_passed _ rules refl refl refl old app m p 13 (flag (codes "compare")) (omega arith) (λ d. refl) refl refl parser.Bool refl refl in
      let force = flag_passed _ rules refl refl refl old app m p 15 (flag (codes "force")) (omega arith) (λ d. refl) refl refl parser.Bool refl refl in
      record {
        program = record {
          source = required_given _ rules refl refl refl old app m p 0 (wanted (codes "source")) (omega arith) (λ d. refl) refl refl refl refl refl;
          width = (w.0, width.1 ∙ ap Some w.1);
          history = number_passed _ rules refl refl refl old app m p 4 (codes "history") 65536 (codes "65536") (omega arith) (λ d. refl) refl refl;
          steps = number_passed _ rules refl refl refl old app m p 5 (codes "steps") 10000000 (codes "1000000") (omega arith) (λ d. refl) refl refl;
        };
        from = number_passed _ rules refl refl refl old app m p 6 (codes "from") 10000000 (codes "1") (omega arith) (λ d. refl) refl refl;
        most = number_passed _ rules refl refl refl old app m p 7 (codes "most") 10000000 (codes "10000000") (omega arith) (λ d. refl) refl refl;
        top = number_passed _ rules refl refl refl old app m p 8 (codes "top") 65536 (codes "20") (omega arith) (λ d. refl) refl refl;
        annotate = record { flag = annotate.0; given = which_flags _ annotate.1 };
        json = record { flag = json.0; given = which_flags _ json.1 };
        compare = record { flag = compare.0; given = which_flags _ compare.1 };
        force = record { flag = force.0; given = which_flags _ force.1 };
      }

  ported_passed : app_of old ≡ verb_command widths Port → ArePortedPassed (found_of m)
  ported_passed app =
      let rules = rules_of widths Port in
      let force = flag_passed _ rules refl refl refl old app m p 2 (flag (codes "force")) (omega arith) (λ d. refl) refl refl parser.Bool refl refl in
      record {
        source = required_given _ rules refl refl refl old app m p 0 (wanted (codes "source")) (omega arith) (λ d. refl) refl refl refl refl refl;
        flag = force.0;
        force = which_flags _ force.1;
      }

  pub parse_passed : (verb : VerbName) → app_of old ≡ verb_command widths verb → HavePassed verb (found_of m)
  parse_passed Debug app = debug_passed app
  parse_passed Picture app = picture_passed app
  parse_passed Page app = page_passed app
  parse_passed Profile app = profile_passed app
  parse_passed Adapter app = tt
  parse_passed Explain app = tt
  parse_passed Port app = ported_passed app
