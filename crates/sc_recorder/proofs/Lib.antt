mod RecordLaws
pub mod StepLists
