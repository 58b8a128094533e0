-- The table of breakpoints and watches.
use Rattle.std.specs.Prelude.{◌≡◌, ℕ, suc, Bool, ◌||◌, ◌==◌, not, nat_le, nat_lt, if◌then◌else◌, [], ◌∷◌, ◌++◌, filter, length, Option, Some, None}
use Rattle.std.specs.List.{list_any}
use Rattle.gang_model.specs.Debugger.Debugger.{Debugger, Reply, Setting}
use Rattle.debug_answers.specs.declared.answer.Answer.{Answer}
use Rattle.debug_answers.specs.declared.stops.Stop.{Stop}
use Rattle.debug_answers.specs.Meanings.{AreStops, Means}
use Rattle.debug_session.specs.Sessions.{bare}
use Rattle.debug_session.specs.Stops.{Table}

-- whether nothing can be added: 64 are there, or no number is left
abbrev pub is_full : Table → Bool
is_full table = nat_le 64 (length table.items) || nat_lt 10000000 table.next

-- the number that is given to what is added
abbrev pub given_number : Table → Option ℕ
given_number table = if is_full table then None else Some table.next

-- with a breakpoint or watch behind the others, where one can be added
abbrev pub with_stop : Stop → Table → Table
with_stop stop table = if is_full table then table
    else record { items = table.items ++ record { number = table.next; stop = stop } ∷ []; next = suc table.next }

-- whether one has this number
abbrev pub has_number : ℕ → Table → Bool
has_number number table = list_any (λ entry. entry.number == number) table.items

-- without those of a number
abbrev pub without_number : ℕ → Table → Table
without_number number table = record table { items = filter (λ entry. not (entry.number == number)) table.items }

-- a command was replied that changes breakpoints and watches alone
pub record Listed (s : Setting) (d : Debugger) (reply : Reply) (given : Answer) (table : Table) : Type 0 where
  pub same : bare reply.next ≡ bare d
  pub stops : AreStops s table.items reply.next.stops
  pub next : reply.next.next ≡ table.next
  pub means : Means s reply.next given reply.answer
