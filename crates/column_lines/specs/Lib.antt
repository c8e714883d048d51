-- Column files of 01, 'The tree': their numbers and their lines. What the two converters answer stands in `column_files`
pub mod Numeral
pub mod Spelling
pub mod Form
pub mod Line
