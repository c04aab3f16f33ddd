mod Claiming
mod Marking
mod Deriving
