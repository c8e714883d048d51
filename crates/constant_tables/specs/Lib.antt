-- Constant tables of the span calculator (02, 2026-02): their lines, the records of their document, and what the two ways answer
pub mod Form
pub mod Entry
pub mod Table
pub mod Convert
