pub mod Taken
pub mod Carried
pub mod Turned
pub mod ShortTurns
pub mod InTurn
pub mod Given
pub mod OneTurn
pub mod OwnBranch
