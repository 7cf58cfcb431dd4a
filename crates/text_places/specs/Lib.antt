-- Read in this order: Lines (the lines of a text, the part of a line round a place, and how bytes are shown), Markers (line
-- marker lines), Locations (the file, the line and the column of a place in a
-- text), Views (what a location is in the code).
-- For private contracts and proofs alone: Passing, Told.
pub mod Lines
pub mod Locations
pub mod Markers
pub mod Passing
pub mod Told
pub mod Views
