pub mod GivenCalls
pub mod GivenGoodbyes
pub mod GivenShown
pub mod GivenEnds
pub mod GivenPassing
