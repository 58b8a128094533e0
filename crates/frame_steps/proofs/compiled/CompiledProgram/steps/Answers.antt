use Rattle.std.proofs.Common.{◌<◌, sym, subst, rules, length}
use Rattle.mask_states.specs.Points.{points_in}
use Rattle.foreach_lowering.specs.Forms.{round_forms}
use Rattle.codegen.specs.Codes.{DoAll, Fit, IsRoundOf}
use Rattle.frame_steps.proofs.FunctionCode.{code_does, code_rounds, has_code}
use Rattle.frame_steps.proofs.compiled.CompiledProgram.steps.Goals as goal

pub index-requires : goal.index-requires
index-requires c =
    let there = c.requires.there in
    let has : c.args.function < length c.args.self.now.code.functions.items = has_code c.args.self.now c.requires.compiled c.args.function there.0 there.1 in
    search (rules, has)

pub returns-clause-does : goal.returns-clause-does
returns-clause-does c f found =
    subst (λ steps. DoAll steps (points_in f)) (sym c.deref.ensures.value)
    (code_does c.args.self.now c.requires.compiled c.args.function f found c.index.result.now c.index.ensures)

pub returns-clause-rounds : goal.returns-clause-rounds
returns-clause-rounds c f found =
    subst (λ steps. Fit IsRoundOf steps (round_forms f)) (sym c.deref.ensures.value)
    (code_rounds c.args.self.now c.requires.compiled c.args.function f found c.index.result.now c.index.ensures)
