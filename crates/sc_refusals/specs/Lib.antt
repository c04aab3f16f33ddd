pub mod AttributeSums
