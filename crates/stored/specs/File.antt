-- A file that was read: the model that it holds, and its rows.
use Rattle.std.specs.Prelude.{ℕ, List}
use Rattle.lists.specs.Part.{rows_of}
use Rattle.stored.specs.declared.file.File.{File}
use Rattle.stored.specs.declared.rows.Rows.{Rows}
use Rattle.stored.specs.Model.{Model}
use Rattle.stored.specs.Reading.{model_of}

-- the model in a file
abbrev pub held : File → Model
held f = model_of f.bytes.now

-- the rows, one by one
abbrev pub listed : Rows → List (List ℕ)
listed r = rows_of r.arity r.count r.cells.now
