use Rattle.std.proofs.Common.{ℕ, ◌-◌, Bool, sym, subst, map}
use Rattle.gang_model.specs.Debugger.Debugger.{Debugger}
use Rattle.debug_session.specs.Sessions.{StandsFor}
use Rattle.adapter_session.specs.Restored.{is_made, led, reply_anew, unless_made, used_up}
use Rattle.adapter_session.specs.Terms.{function_of}
use Rattle.adapter_session.proofs.KeptNumbers.{led_anew}
use Rattle.adapter_session.proofs.restoring.make_anew.Goals as goal

pub returns-clause-there : goal.returns-clause-there
returns-clause-there g c s t d e meant stands number is there =
    let machines = g.M.RecordedMachine.stands in
    let functions = map function_of c.args.functions.now in
    let next = c.args.next in
    let at = led t (used_up (meant.0 - next) next) e in
    let reply = reply_anew t functions next meant e in
    let ready = subst (λ (n : ℕ). StandsFor machines c.use_up.new.session t (led t (used_up (n - next) next) e)) number (c.use_up.ensures t e there) in
    let made = c.make-is_made.ensures.there s t d at meant stands number is ready in
    let whether = c.make-is_made.ensures.made s t d at meant stands number is ready in
    let after = c.use_unless_made.ensures t reply.next made in
    let there_by : ℕ → Bool → Type 0 = λ n b. StandsFor machines c.use_unless_made.new.session t (led t (unless_made b n) reply.next) in
    subst (λ (e : Debugger). StandsFor machines c.use_unless_made.new.session t e) (sym (led_anew t functions next meant e))
    (subst (λ (n : ℕ). there_by n (is_made reply.answer)) number (subst (λ (b : Bool). there_by c.args.entry.number b) whether after))

pub returns-clause-made : goal.returns-clause-made
returns-clause-made g c s t d e meant stands number is there =
    let next = c.args.next in
    let ready = subst (λ (n : ℕ). StandsFor g.M.RecordedMachine.stands c.use_up.new.session t (led t (used_up (n - next) next) e)) number (c.use_up.ensures t e there) in
    c.make-is_made.ensures.made s t d (led t (used_up (meant.0 - next) next) e) meant stands number is ready
