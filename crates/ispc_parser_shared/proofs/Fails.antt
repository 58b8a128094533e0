-- Where reading fails.
use Rattle.std.proofs.Common.{◌≡◌, Option, None}
use Rattle.source_answers.specs.declared.fault.SourceFault.{SourceFault}
use Rattle.source_answers.specs.declared.fault.SourceFault.TheVariants as faults
use Rattle.ispc_parser_words.specs.Front.{Fails}
use Rattle.ispc_parser_shared.specs.Refusals.{IsRefusal, IsSooner}

-- a part fails, and so what needs it
pub fails_when : {X Y : Type 0} (e : SourceFault) (part : Option X) (total : Option Y) → (part ≡ None → total ≡ None) → Fails e part → Fails e total
fails_when faults.Memory part total f h = tt
fails_when (faults.Refused r) part total f h = (f h.0, h.1)

pub fails_none : {Y : Type 0} (e : SourceFault) (total : Option Y) → IsRefusal e → total ≡ None → Fails e total
fails_none faults.Memory total r h = tt
fails_none (faults.Refused f) total r h = (h, r)

-- a part fails, and what needs it is refused for this reason or a sooner one
pub fails_sooner : {X Y : Type 0} (e f : SourceFault) (part : Option X) (total : Option Y) → IsSooner e f → (part ≡ None → total ≡ None) → Fails e part → Fails f total
fails_sooner faults.Memory f part total s g h = rw s tt
fails_sooner (faults.Refused r) f part total s g h = fails_none f total (s h.1) (g h.0)
