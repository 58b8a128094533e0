-- The report of a source with its answers.
use Rattle.std.proofs.Common.{◌≡◌, Bool, List, Some}
use Rattle.gang_model.specs.Source.Parsed.{ParsedSource, functions_in}
use Rattle.gang_model.specs.Source.Sources.{ReadsAs}
use Rattle.gang_model.specs.Texts.Text.{Bytes}
use Rattle.gang_model.specs.Types.Resolved.{program_of}
use Rattle.gang_model.specs.Types.SourceRefusals.{IsAccepted}
use Rattle.gang_model.specs.Types.Tree.{Program}
use Rattle.lane_pure.specs.Answers.{AreAnswers}
use Rattle.lane_report.specs.Reports.{IsReport, function_lines}

pub report_of : (text out : Bytes) (source : ParsedSource) (p : Program) (answers : List Bool) → ReadsAs text source → IsAccepted source → program_of source ≡ Some p
    → AreAnswers source p answers → out ≡ function_lines (functions_in source) answers → IsReport text out
report_of text out source p answers reads accepted typed are is =
    record { source = source; reads = reads; accepted = accepted; program = p; program_is = typed; answers = answers; are_answers = are; lines = is }
