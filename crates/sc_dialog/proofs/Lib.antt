pub mod BareSides
