-- The scopes after statements that declare variables in scopes of their own.
use Rattle.std.specs.Prelude.{ℕ, ◌+◌}
use Rattle.ispc_names_scopes.specs.Scopes.{Scoped}

-- as before, but for the number of the next variable, which is so much greater
abbrev pub moved : ℕ → Scoped → Scoped
moved n s = record s { next = s.next + n }
