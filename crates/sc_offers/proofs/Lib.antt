pub mod CallLaws
pub mod EarlyLaws
pub mod LateLaws
pub mod RackLaws
pub mod RseqLaws
pub mod WordLaws
