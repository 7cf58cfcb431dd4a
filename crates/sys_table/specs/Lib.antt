pub mod Answering
pub mod ResultsLines
pub mod ResultsText
pub mod Table
