pub mod Spans
pub mod Cells
