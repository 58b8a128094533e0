use Rattle.frame_steps.proofs.FunctionCode.{code_long}
use Rattle.frame_steps.proofs.compiled.CompiledProgram.closing.Goals as goal

pub returns : goal.returns
returns c f found = code_long f c.steps.result.now (c.steps.ensures.does f found)
