-- Numbers that are kept where breakpoints and watches are made anew.
use Rattle.std.proofs.Common.{◌≡◌, ◌⊎◌, refl, ap, sym, subst, ◌∙◌, ℕ, zero, suc, ◌+◌, ◌-◌, ◌<◌, ◌≤◌, true, false, not, cond, ◌||◌, ◌&&◌, List, [], ◌∷◌, ◌++◌, length, Option, Some, None, inl, inr, arith}
use Rattle.std.specs.Prelude.{◌==◌, filter, find, if◌then◌else◌, is_some, nat_le, nat_lt, option_map}
use Rattle.std.proofs.lemmas.Bool.Decides.{nat_tests}
use Rattle.gang_model.specs.Types.Tree.{Variable}
use Rattle.gang_model.specs.Debugger.Debugger as model
use Rattle.gang_model.specs.Debugger.Debugger.{BreaksAt, Command, Debugger, Deleted, DoBreak, Line, Refusal, Reply, Setting, Stop, TableFull, Target, Watch, Watches, add_stop, bad_part, break_on, do_break, do_command, do_delete, do_watch, global_named, least_from, now, refused, reply, shown_words, step_lines, unless_refused, with_target}
use Rattle.gang_model.specs.Texts.Text.{Bytes}
use Rattle.function_lines.specs.Lines.{function_line}
use Rattle.adapter_session.specs.Changes.{can_stand}
use Rattle.adapter_session.specs.Requested.{command_list}
use Rattle.adapter_session.specs.Restored.{AreNumbered, CanKeepNumbers, command_in, commands_anew, commands_from, is_made, led, made_in, numbers, reply_anew, reply_to, restored, restored_from, stop_commands, unless_made, used, used_up, with_made}
use Rattle.adapter_session.specs.Terms.{FunctionStop, name_of}

-- ---- numbers

-- all are below one
abbrev AreBelow : ℕ → List (ℕ × Stop) → Type 0
AreBelow n [] = Unit {0}
AreBelow n (entry ∷ stops) = (entry.0 < n) × AreBelow n stops

below_more : (n m : ℕ) (stops : List (ℕ × Stop)) → n ≤ m → AreBelow n stops → AreBelow m stops
below_more n m [] more below = tt
below_more n m (entry ∷ stops) more below = (let less = below.0 in omega (arith, less, more), below_more n m stops more below.1)

below_behind : (n : ℕ) (stop : Stop) (stops : List (ℕ × Stop)) → AreBelow n stops → AreBelow (suc n) (stops ++ (n, stop) ∷ [])
below_behind n stop [] below = (omega arith, tt)
below_behind n stop (entry ∷ stops) below = (let less = below.0 in omega (arith, less), below_behind n stop stops below.1)

same : (n : ℕ) → (n == n) ≡ true
same n = grind (arith, nat_tests)

apart : (m n : ℕ) → m < n → (m == n) ≡ false
apart m n less = grind (arith, nat_tests)

-- the last one goes by its number
without_last : (n : ℕ) (stop : Stop) (stops : List (ℕ × Stop)) → AreBelow n stops → filter (λ entry. not (entry.0 == n)) (stops ++ (n, stop) ∷ []) ≡ stops
without_last n stop [] below = let last : ℕ × Stop = (n, stop) in ap (λ b. cond (not b) (last ∷ []) []) (same n)
without_last n stop (entry ∷ stops) below =
    let others = filter (λ (entry : ℕ × Stop). not (entry.0 == n)) (stops ++ (n, stop) ∷ []) in
    ap (λ b. cond (not b) (entry ∷ others) others) (apart entry.0 n below.0) ∙ ap (λ xs. entry ∷ xs) (without_last n stop stops below.1)

has_last : (n : ℕ) (stop : Stop) (stops : List (ℕ × Stop)) → AreBelow n stops → is_some (find (λ entry. entry.0 == n) (stops ++ (n, stop) ∷ [])) ≡ true
has_last n stop [] below = let last : ℕ × Stop = (n, stop) in ap (λ b. is_some (cond b (Some last) None)) (same n)
has_last n stop (entry ∷ stops) below =
    ap (λ b. is_some (cond b (Some entry) (find (λ (entry : ℕ × Stop). entry.0 == n) (stops ++ (n, stop) ∷ [])))) (apart entry.0 n below.0) ∙ has_last n stop stops below.1

many_numbers : (stops : List (ℕ × Stop)) → length (numbers stops) ≡ length stops
many_numbers [] = refl
many_numbers (entry ∷ stops) = ap suc (many_numbers stops)

numbers_behind : (stops : List (ℕ × Stop)) (n : ℕ) (stop : Stop) → numbers (stops ++ (n, stop) ∷ []) ≡ numbers stops ++ n ∷ []
numbers_behind [] n stop = refl
numbers_behind (entry ∷ stops) n stop = ap (λ ns. entry.0 ∷ ns) (numbers_behind stops n stop)

one_behind : (stops : List (ℕ × Stop)) (entry : ℕ × Stop) → length (stops ++ entry ∷ []) ≡ suc (length stops)
one_behind [] entry = refl
one_behind (first ∷ stops) entry = ap suc (one_behind stops entry)

-- ---- a stop that is made

abbrev added : Stop → Debugger → Debugger
added stop d = record d { stops = d.stops ++ (d.next, stop) ∷ []; next = suc d.next }

-- a debugger has room, and a number left
record HasRoom (d : Debugger) : Type 0 where
  pub few : length d.stops < 64
  pub small : d.next ≤ 10000000

not_full : (d : Debugger) → HasRoom d → (nat_le 64 (length d.stops) || nat_lt 10000000 d.next) ≡ false
not_full d room =
    let few = room.few in
    let small = room.small in
    let first : nat_le 64 (length d.stops) ≡ false = grind (arith, nat_tests) in
    let second : nat_lt 10000000 d.next ≡ false = grind (arith, nat_tests) in
    ap (λ b. b || nat_lt 10000000 d.next) first ∙ second

add_made : (stop : Stop) (says : ℕ → model.Answer) (d : Debugger) → HasRoom d → add_stop stop says d ≡ reply (says d.next) (added stop d)
add_made stop says d room = ap (λ full. if full then refused TableFull d else reply (says d.next) (added stop d)) (not_full d room)

deleted : (n : ℕ) (stop : Stop) (d : Debugger) → AreBelow n d.stops → (do_delete (Some n) (record d { stops = d.stops ++ (n, stop) ∷ []; next = suc n })).next ≡ record d { next = suc n }
deleted n stop d below =
    let e = record d { stops = d.stops ++ (n, stop) ∷ []; next = suc n } in
    let goes = reply (Deleted (Some n)) (record e { stops = filter (λ entry. not (entry.0 == n)) e.stops }) in
    ap (λ b. (if b then goes else refused model.NoSuchNumber e).next) (has_last n stop d.stops below)
    ∙ ap (λ stops. record d { stops = stops; next = suc n }) (without_last n stop d.stops below)

-- it is made, or nothing changes
abbrev MadeOrNot : Reply → Debugger → Type 0
MadeOrNot r d = ((is_made r.answer ≡ true) × (stop : Stop) × (r.next ≡ added stop d)) ⊎ ((is_made r.answer ≡ false) × (r.next ≡ d))

break_or_not : (line : Option ℕ) (d : Debugger) → HasRoom d → MadeOrNot (break_on line d) d
break_or_not None d room = inr (refl, refl)
break_or_not (Some l) d room = subst (λ r. MadeOrNot r d) (sym (add_made (Line l) (λ n. BreaksAt n l) d room)) (inl (refl, Line l, refl))

part_or_not : (target : Target) (v : Variable) (why : Option Refusal) (d : Debugger) → HasRoom d → MadeOrNot (unless_refused why d (λ e. add_stop (Watch target v) (λ n. Watches n target) d)) d
part_or_not target v (Some why) d room = inr (refl, refl)
part_or_not target v None d room = subst (λ r. MadeOrNot r d) (sym (add_made (Watch target v) (λ n. Watches n target) d room)) (inl (refl, Watch target v, refl))

watched_or_not : (s : Setting) (target : Target) (v : Option Variable) (d : Debugger) → HasRoom d → MadeOrNot (with_target s d false target v (λ v. add_stop (Watch target v) (λ n. Watches n target) d)) d
watched_or_not s target None d room = inr (refl, refl)
watched_or_not s target (Some v) d room = part_or_not target v (bad_part false target.at v.is_array v.rate (length (shown_words (now s d) v))) d room

watch_or_not : (s : Setting) (target : Target) (d : Debugger) → HasRoom d → MadeOrNot (do_watch s target d) d
watch_or_not s target d room = watched_or_not s target (global_named s.program target.name) d room

function_or_not : (s : Setting) (line : Option ℕ) (d : Debugger) → HasRoom d → MadeOrNot (reply_to s (option_map DoBreak line) d) d
function_or_not s None d room = inr (refl, refl)
function_or_not s (Some l) d room = break_or_not (least_from l (step_lines s.program)) d room

-- what makes a breakpoint or a watch anew does, or changes nothing
made_or_not : (s : Setting) (name : Option Bytes) (stop : Stop) (d : Debugger) → HasRoom d → MadeOrNot (reply_to s (made_in s.program name stop) d) d
made_or_not s None (Line l) d room = break_or_not (least_from l (step_lines s.program)) d room
made_or_not s None (Watch target v) d room = watch_or_not s target d room
made_or_not s (Some name) stop d room = function_or_not s (function_line s.program name) d room

-- ---- commands one behind another

pub led_behind : (s : Setting) (cs ds : List Command) (d : Debugger) → led s (cs ++ ds) d ≡ led s ds (led s cs d)
led_behind s [] ds d = refl
led_behind s (c ∷ cs) ds d = led_behind s cs ds (do_command s c d).next

led_one : (s : Setting) (command : Option Command) (d : Debugger) → led s (command_list command) d ≡ (reply_to s command d).next
led_one s None d = refl
led_one s (Some command) d = refl

-- where the commands that make one anew lead
pub led_anew : (s : Setting) (functions : List FunctionStop) (next : ℕ) (entry : ℕ × Stop) (d : Debugger)
    → let r = reply_anew s functions next entry d in led s (commands_anew s functions next entry d) d ≡ led s (unless_made (is_made r.answer) entry.0) r.next
led_anew s functions next entry d =
    let command = command_in s.program functions entry in
    let r = reply_anew s functions next entry d in
    let ready = led s (used_up (entry.0 - next) next) d in
    led_behind s (used_up (entry.0 - next) next) (command_list command ++ unless_made (is_made r.answer) entry.0) d
    ∙ led_behind s (command_list command) (unless_made (is_made r.answer) entry.0) ready
    ∙ ap (led s (unless_made (is_made r.answer) entry.0)) (led_one s command ready)

some_line : (line : Option ℕ) → is_some line ≡ true → (l : ℕ) × (line ≡ Some l)
some_line None is = absurd (cc is)
some_line (Some l) is = (l, refl)

module _ (s : Setting) (has_place : can_stand s 1 ≡ true) where
  -- a number that is used up
  used_is : (d : Debugger) → AreBelow d.next d.stops → HasRoom d → led s (used d.next) d ≡ record d { next = suc d.next }
  used_is d below room =
      let (l, is) = some_line (least_from 1 (step_lines s.program)) has_place in
      let made : do_break s 1 d ≡ reply (BreaksAt d.next l) (added (Line l) d) = ap (λ line. break_on line d) is ∙ add_made (Line l) (λ n. BreaksAt n l) d room in
      ap (λ (r : Reply). (do_delete (Some d.next) r.next).next) made ∙ deleted d.next (Line l) d below

  used_up_is : (many : ℕ) (d : Debugger) → AreBelow d.next d.stops → length d.stops < 64 → many + d.next ≤ 10000001 → led s (used_up many d.next) d ≡ record d { next = many + d.next }
  used_up_is zero d below few small = let is : d.next ≡ 0 + d.next = omega arith in ap (λ n. record d { next = n }) is
  used_up_is (suc many) d below few small =
      let n = d.next in
      let moved : many + suc n ≡ suc many + n = omega arith in
      led_behind s (used n) (used_up many (suc n)) d
      ∙ ap (led s (used_up many (suc n))) (used_is d below (record { few = few; small = omega (arith, small) }))
      ∙ used_up_is many (record d { next = suc n }) (below_more n (suc n) d.stops (omega arith) below) few (omega (arith, small))
      ∙ ap (λ n. record d { next = n }) moved

  -- those up to one are used up
  ready : (n : ℕ) (d : Debugger) → AreBelow d.next d.stops → length d.stops < 64 → d.next ≤ n → n ≤ 10000000 → led s (used_up (n - d.next) d.next) d ≡ record d { next = n }
  ready n d below few from small =
      let next = d.next in
      let is : (n - next) + next ≡ n = omega (arith, from) in
      used_up_is (n - next) d below few (omega (arith, from, small)) ∙ ap (λ n. record d { next = n }) is

  -- a debugger that has made some anew: with these numbers, and room for so many more
  record Keeps (next room : ℕ) (made : List ℕ) (d : Debugger) : Type 0 where
    pub next_is : d.next ≡ next
    pub below : AreBelow next d.stops
    pub few : length d.stops + room ≤ 64
    pub are : numbers d.stops ≡ made

  module _ (functions : List FunctionStop) where
    -- where one was made anew, or could not be, from a debugger whose next number is its own
    keeps_reply : (n room : ℕ) (made : List ℕ) (d : Debugger) (r : Reply) → Keeps n (suc room) made d → n ≤ 10000000 → MadeOrNot r d
        → Keeps (suc n) room (with_made (is_made r.answer) n made) (led s (unless_made (is_made r.answer) n) r.next)
    keeps_reply n room made d r keeps small (inl (is, stop, next)) =
        let few = keeps.few in
        let many = many_numbers d.stops in
        let below_64 : nat_lt (length (numbers d.stops)) 64 ≡ true = grind (arith, nat_tests) in
        let more : (if true && nat_lt (length made) 64 then made ++ n ∷ [] else made) ≡ made ++ n ∷ [] = ap (λ (ns : List ℕ). if nat_lt (length ns) 64 then made ++ n ∷ [] else made) (sym keeps.are) ∙ ap (λ b. if b then made ++ n ∷ [] else made) below_64 in
        let at : record d { stops = d.stops ++ (n, stop) ∷ []; next = suc n } ≡ r.next = ap (λ m. record d { stops = d.stops ++ (m, stop) ∷ []; next = suc m }) (sym keeps.next_is) ∙ sym next in
        let length_is = one_behind d.stops (n, stop) in
        subst (λ b. Keeps (suc n) room (with_made b n made) (led s (unless_made b n) r.next)) (sym is)
        (subst (λ e. Keeps (suc n) room (with_made true n made) e) at
        (record {
          next_is = refl;
          below = below_behind n stop d.stops keeps.below;
          few = omega (arith, few, length_is);
          are = numbers_behind d.stops n stop ∙ ap (λ ns. ns ++ n ∷ []) keeps.are ∙ sym more;
        }))
    keeps_reply n room made d r keeps small (inr (is, next)) =
        let few = keeps.few in
        let next_is = keeps.next_is in
        let room_there : HasRoom d = record { few = omega (arith, few); small = omega (arith, small, next_is) } in
        let below = subst (λ m. AreBelow m d.stops) (sym next_is) keeps.below in
        let used_there : led s (used n) d ≡ record d { next = suc n } = subst (λ m. led s (used m) d ≡ record d { next = suc m }) next_is (used_is d below room_there) in
        subst (λ b. Keeps (suc n) room (with_made b n made) (led s (unless_made b n) r.next)) (sym is)
        (subst (λ e. Keeps (suc n) room made (led s (used n) e)) (sym next)
        (subst (λ e. Keeps (suc n) room made e) (sym used_there)
        (record { next_is = refl; below = below_more n (suc n) d.stops (omega arith) keeps.below; few = omega (arith, few); are = keeps.are })))

    keeps_one : (next room : ℕ) (made : List ℕ) (entry : ℕ × Stop) (d : Debugger) → Keeps next (suc room) made d → next ≤ entry.0 → entry.0 ≤ 10000000
        → Keeps (suc entry.0) room (with_made (is_made (reply_anew s functions next entry d).answer) entry.0 made) (led s (commands_anew s functions next entry d) d)
    keeps_one next room made entry d keeps from small =
        let n = entry.0 in
        let few = keeps.few in
        let next_is = keeps.next_is in
        let at = record d { next = n } in
        let below = subst (λ m. AreBelow m d.stops) (sym next_is) keeps.below in
        let ready_is : led s (used_up (n - next) next) d ≡ at =
        subst (λ m. led s (used_up (n - m) m) d ≡ at) next_is (ready n d below (omega (arith, few)) (omega (arith, next_is, from)) small) in
        let before : Keeps n (suc room) made at = record { next_is = refl; below = below_more next n d.stops from keeps.below; few = few; are = keeps.are } in
        let makes_it = made_or_not s (name_of entry.0 functions) entry.1 at (record { few = omega (arith, few); small = small }) in
        let after = keeps_reply n room made at (reply_to s (command_in s.program functions entry) at) before small makes_it in
        subst (λ e. Keeps (suc n) room (with_made (is_made (reply_anew s functions next entry d).answer) n made) e) (sym (led_anew s functions next entry d))
        (subst (λ e. Keeps (suc n) room (with_made (is_made (reply_to s (command_in s.program functions entry) e).answer) n made) (led s (unless_made (is_made (reply_to s (command_in s.program functions entry) e).answer) n) (reply_to s (command_in s.program functions entry) e).next)) (sym ready_is) after)

    -- those that were made have the numbers that they had
    keeps_all : (stops : List (ℕ × Stop)) (next : ℕ) (made : List ℕ) (d : Debugger) → Keeps next (length stops) made d → AreNumbered next stops
        → numbers (led s (commands_from s functions next stops d) d).stops ≡ restored_from s functions next stops d made
    keeps_all [] next made d keeps numbered = keeps.are
    keeps_all (entry ∷ stops) next made d keeps (from, small, numbered) =
        let commands = commands_anew s functions next entry d in
        let e = led s commands d in
        ap (λ (e : Debugger). numbers e.stops) (led_behind s commands (commands_from s functions (suc entry.0) stops e) d)
        ∙ keeps_all stops (suc entry.0) (with_made (is_made (reply_anew s functions next entry d).answer) entry.0 made) e (keeps_one next (length stops) made entry d keeps from small) numbered

-- a debugger that begins makes breakpoints and watches anew with the numbers that they had
pub numbers_kept : (s : Setting) (functions : List FunctionStop) (stops : List (ℕ × Stop)) (d : Debugger) → CanKeepNumbers s d stops
    → numbers (led s (stop_commands s functions stops d) d).stops ≡ restored s functions stops d []
numbers_kept s functions stops d can =
    let few = can.few in
    let none : length d.stops ≡ 0 = ap length can.begins.1 in
    keeps_all s can.has_place functions stops 1 [] d
    (record { next_is = can.begins.0; below = subst (AreBelow 1) (sym can.begins.1) tt; few = omega (arith, none, few); are = ap numbers can.begins.1 })
    can.numbered
