pub mod Lines
pub mod Tuples
pub mod Tables
pub mod Answers
pub mod WrittenTables
pub mod Rules
