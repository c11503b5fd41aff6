pub mod Refreshing
