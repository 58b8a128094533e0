-- Each value that a parse of the options found passed its parser.
use Rattle.std.proofs.Common.{◌≡◌, ◌∙◌, List, Some, refl, ap, arith}
use Rattle.std.specs.Prelude.{codes}
use Rattle.std.specs.Borrow.{Bor}
use Rattle.clap.specs.Built.{IsParsedFrom}
use Rattle.clap.specs.Matches.{found_of}
use Rattle.clap.specs.Walk.{Text}
use Rattle.clap.specs.Simple.{app_of}
use Rattle.clap.specs.declared.builder.command.Command.{Command}
use Rattle.clap.specs.declared.builder.value_parser.ValueParser.TheVariants as parser
use Rattle.clap.specs.declared.parser.matches.ArgMatches.{ArgMatches}
use Rattle.ispc_options.specs.Asked.{AreWidths, command, flag, option_or, rules}
use Rattle.ispc_options.specs.Passed.{ArePassed}
use Rattle.ispc_options.proofs.PassedValues.{flag_passed, number_passed, one_of_the_widths, value_passed, which_flags}

module _ (widths : Bor (List (Bor Text))) (old : Command) (app : app_of old ≡ command widths) (m : ArgMatches) (p : IsParsedFrom old m) where
  pub parse_passed : AreWidths widths → ArePassed (found_of m)
  parse_passed are =
      let options = rules widths in
      let width = value_passed _ options refl refl refl old app m p 3 (option_or (codes "width") (parser.Names widths) (codes "4")) (omega arith) (λ d. refl) refl refl (parser.Names widths) refl refl refl (omega arith) in
      let w = one_of_the_widths widths are width.0 width.3 in
      let pure = flag_passed _ options refl refl refl old app m p 6 (flag (codes "lane-pure")) (omega arith) (λ d. refl) refl refl parser.Bool refl refl in
      record {
        width = (w.0, width.1 ∙ ap Some w.1);
        history = number_passed _ options refl refl refl old app m p 4 (codes "history") 65536 (codes "64") (omega arith) (λ d. refl) refl refl;
        steps = number_passed _ options refl refl refl old app m p 5 (codes "steps") 10000000 (codes "1000000") (omega arith) (λ d. refl) refl refl;
        flag = pure.0;
        pure = which_flags _ pure.1;
      }
