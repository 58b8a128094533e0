use Rattle.std.proofs.Common.{◌++◌, ◌∙◌, subst, OnOk, Ok, Err, Result}
use Rattle.std.specs.Io.KnownBytes.{Appends}
use Rattle.std.proofs.KnownBytes.{Appends-kept, Appends-trans}
use Rattle.adapter_frames.proofs.writing.write_frame.Goals as goal

-- what holds in any case holds where all went well
on_ok : {X E : Type 0} (r : Result X E) (P : Type 0) → P → OnOk r P
on_ok (Ok x) P p = p
on_ok (Err e) P p = tt

pub returns : goal.returns
returns g c =
    let held = g.O.Write.contents in
    let message = c.args.message.now in
    let old = held c.args.writer.now in
    let new = held c.flush.new.self in
    let both = Appends-trans old (held c.write_all.new.self) (held c.write_all-2.new.self) c.as_bytes.result.now message c.in_ok-write_all.ensures.bytes c.in_ok-write_all-2.ensures.bytes in
    let all = Appends-kept old (held c.write_all-2.new.self) new (c.as_bytes.result.now ++ message) both c.flush.ensures.bytes in
    on_ok c.flush.result _ (subst (λ head. Appends old new (head ++ message)) (c.as_bytes.ensures.value ∙ c.in_ok-head.ensures) all)
