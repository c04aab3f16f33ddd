pub mod SpelledLines
pub mod SpelledStarts
pub mod SpelledHeads
pub mod SpelledMessages
pub mod Kept
pub mod Made
