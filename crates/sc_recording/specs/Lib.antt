pub mod CallTexts
pub mod StepTexts
