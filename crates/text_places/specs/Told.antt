-- For private contracts and proofs alone: what a line of a file is in the code.
use Rattle.text_places.specs.Markers.{FileLine}
use Rattle.text_places.specs.declared.marker.SourceLine.{SourceLine}

abbrev pub line_told : SourceLine → FileLine
line_told told = record { file = told.file.now; line = told.line }
