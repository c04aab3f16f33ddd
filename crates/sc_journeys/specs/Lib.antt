pub mod Journeys
