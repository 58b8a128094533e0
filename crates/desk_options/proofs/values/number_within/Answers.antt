use Rattle.std.proofs.Common.{◌≡◌, rules, None}
use Rattle.std.specs.Str.Parse.{ParsesUnsigned, ExplainsUnsignedError, HasUnsignedDigitsIfOk}
use Rattle.clap.specs.Matches.{found_of}
use Rattle.ispc_options.proofs.Numbers.{number_got}
use Rattle.desk_options.proofs.values.number_within.Goals as goal

pub returns-in_err-n-clause-read : goal.returns-in_err-n-clause-read
returns-in_err-n-clause-read c = λ has.
    let got = number_got _ (λ bs r. ParsesUnsigned 32 10 bs r × ExplainsUnsignedError 10 bs r × HasUnsignedDigitsIfOk bs r) (λ u x g. g.0)
    (found_of c.args.matches.now) c.args.id.now c.args.most c.get_one.result c.ranges.most.fits c.get_one.ensures.value has in
    let none : c.get_one.result ≡ None = search rules in
    let some = got.1 in
    cc
