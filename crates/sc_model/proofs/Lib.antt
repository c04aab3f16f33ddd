pub mod BestFacts
mod ClientTables
pub mod ClientTransactions
mod DialogCases
pub mod DialogLaws
pub mod DialogTargets
mod DueCases
pub mod DueLaws
mod GeneratedCases
pub mod GeneratedLaws
mod NameCases
pub mod Names
pub mod RisingKeys
pub mod ServerTables
pub mod ServerTransactionFacts
pub mod ServerTransactions
mod TransactionCases
pub mod TransactionFacts
pub mod ParamFacts
pub mod UriFacts
pub mod TokenFacts
pub mod HostFacts
pub mod ReasonFacts
pub mod NameFacts
