pub mod BranchTexts
pub mod ClientUses
pub mod ServerUses
