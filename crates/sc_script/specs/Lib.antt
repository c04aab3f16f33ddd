pub mod Reading
pub mod ScriptTexts
