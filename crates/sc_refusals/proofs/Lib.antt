pub mod AttributeSums
pub mod BranchSums
