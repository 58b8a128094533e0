-- Where a refusal lies.
use Rattle.std.specs.Prelude.{ℕ, ◌≤◌, ⊤}
use Rattle.port_tokens.specs.declared.refusals.PortRefusal.{PortRefusal}
use Rattle.port_tokens.specs.declared.refusals.PortRefusal.TheVariants.{Memory, Source}

-- in a text of so many bytes, or at its end
abbrev pub LiesWithin : ℕ → PortRefusal → Type 0
LiesWithin bytes Memory = ⊤
LiesWithin bytes (Source refused) = refused.at ≤ bytes
