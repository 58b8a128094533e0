-- A history limit that changes, and a value that finds no memory.
use Rattle.std.proofs.Common.{◌≡◌, ◌≢◌, inl, inr, ◌<◌, ◌≤◌, refl, sym, ap, ap₂, ℕ, Bool, true, false, ◌||◌, arith}
use Rattle.std.specs.Prelude.{◌==◌, if◌then◌else◌, nat_lt}
use Rattle.std.proofs.lemmas.Bool.Decides.{nat_tests}
use Rattle.gang_model.specs.Debugger.Debugger.{Command, Debugger, DoSetHistory, KeepsHistory, Memory, OutOfRange, Setting, limited, refused, reply}
use Rattle.debug_answers.specs.declared.answer.Answer.TheVariants as answer
use Rattle.debug_answers.specs.declared.answer.Refusal.TheVariants as refusal
use Rattle.debug_session.specs.Moves.{MayBeDone}
use Rattle.debug_session.specs.Sessions.{Sets, bare}

-- whether a limit is none that a history can have
abbrev pub is_bad : ℕ → Bool
is_bad n = (n == 0) || nat_lt 65536 n

pub bad_zero : (n : ℕ) → n ≡ 0 → is_bad n ≡ true
bad_zero n e = ap is_bad e

or_true : (a b : Bool) → b ≡ true → (a || b) ≡ true
or_true true b e = refl
or_true false b e = e

pub bad_large : (n : ℕ) → 65536 < n → is_bad n ≡ true
bad_large n large = or_true (n == 0) (nat_lt 65536 n) (grind (arith, nat_tests))

pub good : (n : ℕ) → n ≢ 0 → n ≤ 65536 → is_bad n ≡ false
good n some few =
    let first : (n == 0) ≡ false = grind (arith, nat_tests) in
    let second : nat_lt 65536 n ≡ false = grind (arith, nat_tests) in
    ap₂ (λ a b. a || b) first second

module _ {M : Type 0} (may_want : Type 0) (stands : M → Setting → Debugger → Type 0) (s : Setting) (d : Debugger) (n : ℕ) (machine : M) where
  -- C8, and nothing changed
  pub out_of_range : is_bad n ≡ true → stands machine s (bare d) → MayBeDone may_want stands s d (DoSetHistory n) (answer.Refused refusal.OutOfRange) machine
  out_of_range bad st = (
    refused OutOfRange d,
    inl (inl (sym (ap (λ b. if b then refused OutOfRange d else reply (KeepsHistory n) (limited n d)) bad))),
    record { follows = record { there = st; stops = refl; next = refl }; means = refl },
  )

  -- the limit is another
  pub keeps_history : is_bad n ≡ false → stands machine s (limited n (bare d)) → MayBeDone may_want stands s d (DoSetHistory n) (answer.KeepsHistory n) machine
  keeps_history fine st = (
    reply (KeepsHistory n) (limited n d),
    inl (inl (sym (ap (λ b. if b then refused OutOfRange d else reply (KeepsHistory n) (limited n d)) fine))),
    record { follows = record { there = st; stops = refl; next = refl }; means = refl },
  )

  -- C12 for a larger limit, and nothing changed
  pub finds_no_memory : n ≤ 65536 → d.history < n → stands machine s (bare d) → MayBeDone may_want stands s d (DoSetHistory n) (answer.Refused refusal.Memory) machine
  finds_no_memory few larger st =
      (refused Memory d, inl (inr ((few, larger), refl)), record { follows = record { there = st; stops = refl; next = refl }; means = refl })

-- C12 for a value that is set, and nothing changed
pub finds_no_room : {M : Type 0} (may_want : Type 0) (stands : M → Setting → Debugger → Type 0) (s : Setting) (d : Debugger) (machine : M) (command : Command) → Sets command
    → may_want → stands machine s (bare d) → MayBeDone may_want stands s d command (answer.Refused refusal.Memory) machine
finds_no_room may_want stands s d machine command sets may st =
    (refused Memory d, inr (may, (sets, refl)), record { follows = record { there = st; stops = refl; next = refl }; means = refl })
