mod EndSteps
mod FirstVias
mod FrameLaws
mod FrontLaws
mod HearSteps
mod Knowing
mod Moving
mod ReadSteps
pub mod Telling
