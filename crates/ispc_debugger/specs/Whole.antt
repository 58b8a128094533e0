-- The history limit of a session whose run can be taken back to its first step.
use Rattle.std.specs.Prelude.{ℕ, ◌^◌, nat_lt, if◌then◌else◌}

-- the largest limit of the options stands for more events than any run has
abbrev pub whole_history : ℕ → ℕ
whole_history history = if nat_lt history 65536 then history else 2 ^ 62
