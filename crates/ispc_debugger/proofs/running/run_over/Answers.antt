use Rattle.std.proofs.lemmas.Result.{IfErr-weaker, IfOk-weaker}
use Rattle.ispc_debugger.specs.Runs.{asked_of, options_view}
use Rattle.ispc_debugger.proofs.Accepted.{not_accepted, once, one_transcript}
use Rattle.ispc_debugger.proofs.running.run_over.Goals as goal

pub returns-in-Four-clause-one : goal.returns-in-Four-clause-one
returns-in-Four-clause-one g c = once c.args.source.now (asked_of c.args.options.now) c.args.input.now

pub returns-in-Four-clause-one_transcript : goal.returns-in-Four-clause-one_transcript
returns-in-Four-clause-one_transcript g c =
    IfOk-weaker c.run_wide.result _ _
    (λ ending is lines. one_transcript c.args.source.now (asked_of c.args.options.now) c.args.input.now (options_view c.args.options.now) lines is.0 is.1 is.2 is.3)
    c.run_wide.ensures.transcript

pub returns-in-Four-clause-none : goal.returns-in-Four-clause-none
returns-in-Four-clause-none g c =
    IfErr-weaker c.run_wide.result _ _ (λ refusal is. not_accepted c.args.source.now (asked_of c.args.options.now) c.args.input.now refusal is.0) c.run_wide.ensures.refused

pub returns-in-Eight-clause-one : goal.returns-in-Eight-clause-one
returns-in-Eight-clause-one g c = once c.args.source.now (asked_of c.args.options.now) c.args.input.now

pub returns-in-Eight-clause-one_transcript : goal.returns-in-Eight-clause-one_transcript
returns-in-Eight-clause-one_transcript g c =
    IfOk-weaker c.run_wide-in-Eight.result _ _
    (λ ending is lines. one_transcript c.args.source.now (asked_of c.args.options.now) c.args.input.now (options_view c.args.options.now) lines is.0 is.1 is.2 is.3)
    c.run_wide-in-Eight.ensures.transcript

pub returns-in-Eight-clause-none : goal.returns-in-Eight-clause-none
returns-in-Eight-clause-none g c =
    IfErr-weaker c.run_wide-in-Eight.result _ _ (λ refusal is. not_accepted c.args.source.now (asked_of c.args.options.now) c.args.input.now refusal is.0) c.run_wide-in-Eight.ensures.refused

pub returns-in-Sixteen-clause-one : goal.returns-in-Sixteen-clause-one
returns-in-Sixteen-clause-one g c = once c.args.source.now (asked_of c.args.options.now) c.args.input.now

pub returns-in-Sixteen-clause-one_transcript : goal.returns-in-Sixteen-clause-one_transcript
returns-in-Sixteen-clause-one_transcript g c =
    IfOk-weaker c.run_wide-in-Sixteen.result _ _
    (λ ending is lines. one_transcript c.args.source.now (asked_of c.args.options.now) c.args.input.now (options_view c.args.options.now) lines is.0 is.1 is.2 is.3)
    c.run_wide-in-Sixteen.ensures.transcript

pub returns-in-Sixteen-clause-none : goal.returns-in-Sixteen-clause-none
returns-in-Sixteen-clause-none g c =
    IfErr-weaker c.run_wide-in-Sixteen.result _ _ (λ refusal is. not_accepted c.args.source.now (asked_of c.args.options.now) c.args.input.now refusal is.0) c.run_wide-in-Sixteen.ensures.refused

pub run_wide-requires-clause-fits : goal.run_wide-requires-clause-fits
run_wide-requires-clause-fits g c = c.requires.fits 4

pub run_wide-requires-in-Eight-clause-fits : goal.run_wide-requires-in-Eight-clause-fits
run_wide-requires-in-Eight-clause-fits g c = c.requires.fits 8

pub run_wide-requires-in-Sixteen-clause-fits : goal.run_wide-requires-in-Sixteen-clause-fits
run_wide-requires-in-Sixteen-clause-fits g c = c.requires.fits 16
