pub mod LineLaws
pub mod GrowLaws
pub mod PutLaws
pub mod PollLaws
