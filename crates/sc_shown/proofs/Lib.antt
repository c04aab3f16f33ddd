mod Inserting
mod Returning
