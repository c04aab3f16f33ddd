pub mod Cutting
pub mod Decimals
pub mod ScriptLines
mod ScriptTextCases
