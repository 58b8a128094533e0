use Rattle.std.proofs.Common.{◌≡◌, ◌<◌, refl, sym, arith, rules, length}
use Rattle.std.proofs.lemmas.Option.{slice_get_read}
use Rattle.machine_words.proofs.Sizes.{file_words, local_words}
use Rattle.machine_words.specs.Words.{regions_in}
use Rattle.machine_states.specs.Regions.{OfFile, OfLocal}
use Rattle.frame_steps.proofs.reading.TopVariablesWords.words.Goals as goal

pub spread-requires : goal.spread-requires
spread-requires g c =
    let store = c.args.self.now in
    let machine = store.words.now in
    let files = machine.layout.file.items in
    let number = c.in-File.number in
    let part = c.index.result.now in
    let within : number < length files = omega arith in
    let long : part.len ≡ length (regions_in g.T.Timeline.history g.row.W machine (OfFile number)) =
    sym (file_words g.row.W machine.layout (g.T.Timeline.history machine.store.timeline).words store.laid number part
    (slice_get_read files (length files) number part refl within c.index.ensures)) in
    (search rules, (c.requires, (store.laid, long)))

pub spread-requires-in-Local : goal.spread-requires-in-Local
spread-requires-in-Local g c =
    let store = c.args.self.now in
    let machine = store.words.now in
    let frames = machine.layout.frames in
    let number = c.in-Local.number in
    let count : frames.count ≡ 64 = store.laid.planned.count in
    let below : store.frame < frames.count = omega (arith, store.is_there) in
    let within : number < frames.variables = omega arith in
    let long : g.row.W ≡ length (regions_in g.T.Timeline.history g.row.W machine (OfLocal store.frame number)) =
    sym (local_words g.row.W machine.layout (g.T.Timeline.history machine.store.timeline).words store.laid store.frame number below within) in
    (search rules, (c.requires, (store.laid, long)))
