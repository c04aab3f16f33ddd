pub mod AllLaws
pub mod KeptLaws
pub mod LeastDue
pub mod NumberLaws
pub mod RestingLaws
