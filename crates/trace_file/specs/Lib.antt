-- Read in this order: EventText (events and outcomes), Lines, Trace (the file of one process's trace, and why a text is
-- none), Known (which processes records make known), Traces (the file of interleaved traces), Held (what a reader of
-- pieces holds), TraceReading and TracesReading (what readers stand for; their clauses say enough of it).
-- For private contracts and proofs alone: LineParts, Pieces, Reached, Processes, Refusals.
pub mod EventText
pub mod Held
pub mod Known
pub mod LineParts
pub mod Lines
pub mod Pieces
pub mod Processes
pub mod Reached
pub mod Refusals
pub mod Trace
pub mod TraceReading
pub mod Traces
pub mod TracesReading
