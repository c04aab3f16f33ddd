pub mod SettleLaws
pub mod EachSort
pub mod Deliveries
pub mod InnerReplies
pub mod RunLaws
