-- What the devices show.
use Rattle.std.specs.Prelude.{ℕ, Bool}
use Rattle.debug_streams.specs.declared.reader.StreamReader.{StreamReader}
use Rattle.debug_streams.specs.declared.writer.StreamWriter.{StreamWriter}

-- how often a reader was read
abbrev pub reads_of : {R : Type 0} → StreamReader R → ℕ
reads_of reader = reader.reads

-- whether a read failed
abbrev pub reader_failed : {R : Type 0} → StreamReader R → Bool
reader_failed reader = reader.has_failed

-- what a reader reads from
abbrev pub source_of : {R : Type 0} → StreamReader R → R
source_of reader = reader.inner

-- whether a write failed
abbrev pub writer_failed : {O : Type 0} → StreamWriter O → Bool
writer_failed writer = writer.has_failed

-- what a writer writes to
abbrev pub target_of : {O : Type 0} → StreamWriter O → O
target_of writer = writer.inner
