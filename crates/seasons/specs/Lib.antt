pub mod Seasons
