pub mod HostVias
pub mod NetVias
pub mod StepVias
pub mod RunVias
