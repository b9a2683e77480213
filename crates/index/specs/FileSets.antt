-- The records of an index that is read, and the files of a file set.
use Rattle.std.specs.Prelude.{List}
use Rattle.index.specs.Index.{Record, File}
use Rattle.index.specs.Rows.{records_of, files_in}
use Rattle.index.specs.declared.records.Index.{Index}
use Rattle.index.specs.declared.file_set.FileSet.{FileSet}

abbrev pub records_in : Index → List Record
records_in index = records_of index.text.now index.rows.now

abbrev pub files_of : FileSet → List File
files_of set = files_in set.index.now set.contents.now set.rows.now
