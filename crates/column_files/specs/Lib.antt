-- Column files of 01, 'The tree', and records: the words that a file spells, the file of words, and what the two converters answer
pub mod Files
pub mod Convert
