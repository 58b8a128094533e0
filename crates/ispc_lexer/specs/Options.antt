-- What follows where there is a value, and where there is none.
use Rattle.std.specs.Prelude.{Option, Some, None}

infixl 10 ◌>>=◌
abbrev pub ◌>>=◌ : {A B : Type 0} → Option A → (A → Option B) → Option B
None >>= f = None
(Some x) >>= f = f x

abbrev pub if_some : {A B : Type 0} → Option A → (A → B) → B → B
if_some None f d = d
if_some (Some x) f d = f x
