-- What the devices show.
use Rattle.std.specs.Prelude.{ℕ, Bool, List}
use Rattle.tests_devices.specs.declared.listeners.Listener.{Listener}
use Rattle.tests_devices.specs.declared.readers.BlankReader.{BlankReader}
use Rattle.tests_devices.specs.declared.readers.PieceReader.{PieceReader}
use Rattle.tests_devices.specs.declared.writers.PieceWriter.{PieceWriter}

-- how often a reader was read
abbrev pub reads_of : PieceReader → ℕ
reads_of reader = reader.reads

-- whether a read failed
abbrev pub reader_failed : PieceReader → Bool
reader_failed reader = reader.has_failed

-- what a reader has not given yet
abbrev pub rest_of : PieceReader → List ℕ
rest_of reader = reader.rest.now

-- how often a reader of blanks was read
abbrev pub blank_reads : BlankReader → ℕ
blank_reads reader = reader.reads

-- what a writer took
abbrev pub bytes_of : PieceWriter → List ℕ
bytes_of writer = writer.bytes.items

-- whether a write failed
abbrev pub writer_failed : PieceWriter → Bool
writer_failed writer = writer.has_failed

-- how often something was written, or tried
abbrev pub calls_of : PieceWriter → ℕ
calls_of writer = writer.calls

-- how often a listener was read
abbrev pub listened_reads : Listener → ℕ
listened_reads listener = reads_of listener.reader

-- whether a read of a listener failed
abbrev pub listened_failed : Listener → Bool
listened_failed listener = reader_failed listener.reader

-- what a listener has not given yet
abbrev pub listened_rest : Listener → List ℕ
listened_rest listener = rest_of listener.reader
