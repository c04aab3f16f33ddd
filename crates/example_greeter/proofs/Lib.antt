pub mod Freedom
