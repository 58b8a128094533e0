-- Commands that are done one after another, and where they lead.
use Rattle.std.proofs.Common.{◌≡◌, ◌≤◌, ◌<◌, ◌+◌, ◌-◌, ℕ, suc, zero, true, false, List, [], ◌∷◌, ◌++◌, drop, replicate, refl, sym, subst, ap, ◌∙◌, inl, arith}
use Rattle.std.specs.Prelude.{◌==◌, if◌then◌else◌}
use Rattle.std.proofs.lemmas.Bool.Decides.{nat_tests}
use Rattle.std.proofs.lemmas.List.{drop-drop}
use Rattle.gang_model.specs.Debugger.Debugger.{Command, Debugger, DoReverseContinue, DoStep, DoUndo, NoHistory, Reply, Setting, do_command, refused, reply, taken_back, undone}
use Rattle.debug_answers.specs.declared.answer.Answer.{Answer}
use Rattle.debug_session.specs.declared.session.Session.{Session}
use Rattle.debug_session.specs.Sessions.{RepliesTo, StandsFor}
use Rattle.command_lists.specs.Lists.{HasDone, Leads}
use Rattle.command_lists.proofs.DoneLists.{leads_on}
use Rattle.prompt_scenes.specs.Readings.{moves, is_here, is_stop}
use Rattle.prompt_moves.specs.Moments.{all_back, at_first, led, steps_on, stops_back}
use Rattle.prompt_moves.proofs.DoneCommands.{sure_reply}

-- commands lead where they are said to lead
pub leads_led : (s : Setting) (cs : List Command) (d : Debugger) → Leads s cs d (led s cs d)
leads_led s [] d = refl
leads_led s (c ∷ cs) d = (do_command s c d, inl (inl refl), leads_led s cs (do_command s c d).next)

-- ---- everything is taken back

-- the debugger with so many events taken back
abbrev back_by : ℕ → Debugger → Debugger
back_by k d = record d { events = drop k d.events; kept = d.kept - k }

undone_one : (s : Setting) (d : Debugger) → 1 ≤ d.kept → (do_command s DoUndo d).next ≡ taken_back d
undone_one s d some =
    let kept : (d.kept == 0) ≡ false = grind (arith, nat_tests) in
    ap (λ b. (if b then refused NoHistory d else reply (undone d.events) (taken_back d)).next) kept

back_again : (k : ℕ) (d : Debugger) → back_by k (taken_back d) ≡ back_by (suc k) d
back_again k d =
    let one : 1 + k ≡ suc k = omega arith in
    let less : (d.kept - 1) - k ≡ d.kept - suc k = omega arith in
    ap (λ xs. record d { events = xs; kept = (d.kept - 1) - k }) (drop-drop k 1 d.events ∙ ap (λ n. drop n d.events) one)
    ∙ ap (λ n. record d { events = drop (suc k) d.events; kept = n }) less

led_undos : (s : Setting) (k : ℕ) (d : Debugger) → k ≤ d.kept → led s (replicate k DoUndo) d ≡ back_by k d
led_undos s zero d few = let same : d.kept ≡ d.kept - 0 = omega arith in ap (λ n. record d { kept = n }) same
led_undos s (suc k) d few =
    let some : 1 ≤ d.kept = omega (arith, few) in
    let fewer : k ≤ d.kept - 1 = omega (arith, few) in
    ap (led s (replicate k DoUndo)) (undone_one s d some) ∙ led_undos s k (taken_back d) fewer ∙ back_again k d

pub led_all : (s : Setting) (d : Debugger) → led s (replicate d.kept DoUndo) d ≡ at_first d
led_all s d =
    let all : d.kept ≤ d.kept = omega arith in
    let none : d.kept - d.kept ≡ 0 = omega arith in
    led_undos s d.kept d all ∙ ap (λ n. record d { events = drop d.kept d.events; kept = n }) none

-- ---- one more

-- so often a command
pub led_again : (s : Setting) (c : Command) (n : ℕ) (d : Debugger) → 0 < n → led s (replicate n c) d ≡ led s (replicate (n - 1) c) (do_command s c d).next
led_again s c n d some = let more : n ≡ suc (n - 1) = omega (arith, some) in ap (λ k. led s (replicate k c) d) more

pub led_never : (s : Setting) (c : Command) (n : ℕ) (d : Debugger) → n ≤ 0 → led s (replicate n c) d ≡ d
led_never s c n d none = let no : n ≡ 0 = omega (arith, none) in ap (λ k. led s (replicate k c) d) no

-- single steps: one that is made, and others; one that is not; none
pub led_step : (s : Setting) (n : ℕ) (d : Debugger) → 0 < n → is_here (do_command s (DoStep 1) d).answer ≡ true
    → led s (steps_on n s d) d ≡ led s (steps_on (n - 1) s (do_command s (DoStep 1) d).next) (do_command s (DoStep 1) d).next
led_step s n d some here =
    let more : n ≡ suc (n - 1) = omega (arith, some) in
    let r = do_command s (DoStep 1) d in
    ap (λ k. led s (steps_on k s d) d) more ∙ ap (λ b. led s (if b then steps_on (n - 1) s r.next else []) r.next) here

pub led_last_step : (s : Setting) (n : ℕ) (d : Debugger) → 0 < n → is_here (do_command s (DoStep 1) d).answer ≡ false → led s (steps_on n s d) d ≡ (do_command s (DoStep 1) d).next
led_last_step s n d some here =
    let more : n ≡ suc (n - 1) = omega (arith, some) in
    let r = do_command s (DoStep 1) d in
    ap (λ k. led s (steps_on k s d) d) more ∙ ap (λ b. led s (if b then steps_on (n - 1) s r.next else []) r.next) here

pub led_no_step : (s : Setting) (n : ℕ) (d : Debugger) → n ≤ 0 → led s (steps_on n s d) d ≡ d
led_no_step s n d none = let no : n ≡ 0 = omega (arith, none) in ap (λ k. led s (steps_on k s d) d) no

-- from stop to stop: one that is reached, and others; the end; none
pub led_stop : (s : Setting) (n : ℕ) (d : Debugger) → 0 < n → is_stop (do_command s DoReverseContinue d).answer ≡ true
    → led s (stops_back n s d) d ≡ led s (stops_back (n - 1) s (do_command s DoReverseContinue d).next) (do_command s DoReverseContinue d).next
led_stop s n d some here =
    let more : n ≡ suc (n - 1) = omega (arith, some) in
    let r = do_command s DoReverseContinue d in
    ap (λ k. led s (stops_back k s d) d) more ∙ ap (λ b. led s (if b then stops_back (n - 1) s r.next else []) r.next) here

pub led_last_stop : (s : Setting) (n : ℕ) (d : Debugger) → 0 < n → is_stop (do_command s DoReverseContinue d).answer ≡ false → led s (stops_back n s d) d ≡ (do_command s DoReverseContinue d).next
led_last_stop s n d some here =
    let more : n ≡ suc (n - 1) = omega (arith, some) in
    let r = do_command s DoReverseContinue d in
    ap (λ k. led s (stops_back k s d) d) more ∙ ap (λ b. led s (if b then stops_back (n - 1) s r.next else []) r.next) here

pub led_no_stop : (s : Setting) (n : ℕ) (d : Debugger) → n ≤ 0 → led s (stops_back n s d) d ≡ d
led_no_stop s n d none = let no : n ≡ 0 = omega (arith, none) in ap (λ k. led s (stops_back k s d) d) no

-- ---- what has been done

module _ {M : Type 0} (stands : M → Setting → Debugger → Type 0) (s : Setting) where
  -- the session stands where a command with one reply leads
  pub led_one : (may_want : Type 0) (c : Command) (d : Debugger) (told : Answer) (new : Session M) (replies : RepliesTo may_want stands s c d told new) → replies.reply ≡ do_command s c d
      → StandsFor stands new s (do_command s c d).next
  led_one may_want c d told new replies is = subst (λ (r : Reply). StandsFor stands new s r.next) is replies.replied.there

  -- and where one that moves does
  pub moved_there : (may_want : Type 0) (c : Command) (d : Debugger) (told : Answer) (new : Session M) → moves c ≡ true → RepliesTo may_want stands s c d told new → StandsFor stands new s (do_command s c d).next
  moved_there may_want c d told new moving replies = led_one may_want c d told new replies (sure_reply may_want s c d replies.reply moving replies.is_reply)

  -- commands have been done that led to where the session stands
  pub done_led : (cs : List Command) (d : Debugger) (new : Session M) → StandsFor stands new s (led s cs d) → HasDone stands s cs d new
  done_led cs d new there = record { after = led s cs d; leads = leads_led s cs d; there = there }

  -- and then others
  pub led_then : (cs ds : List Command) (d : Debugger) (new : Session M) → HasDone stands s ds (led s cs d) new → HasDone stands s (cs ++ ds) d new
  led_then cs ds d new more = record {
    after = more.after;
    leads = leads_on s cs ds d (led s cs d) more.after (leads_led s cs d) more.leads;
    there = more.there;
  }

  -- one command, and then others
  pub one_led : (c : Command) (cs : List Command) (d : Debugger) (new : Session M) → HasDone stands s cs (do_command s c d).next new → HasDone stands s (c ∷ cs) d new
  one_led c cs d new more = record {
    after = more.after;
    leads = (do_command s c d, inl (inl refl), more.leads);
    there = more.there;
  }

  -- everything is taken back, and then others
  pub back_then : (ds : List Command) (d : Debugger) (new : Session M) → HasDone stands s ds (at_first d) new → HasDone stands s (all_back d ++ ds) d new
  back_then ds d new more = led_then (all_back d) ds d new (subst (λ e. HasDone stands s ds e new) (sym (led_all s d)) more)
